-- Which change leads from one part to another, and what may be kept behind it.
use Rattle.std.proofs.Common.{◌≡◌, ℕ, zero, suc, ◌+◌, ◌<◌, ◌≤◌, List, [], ◌∷◌, ◌++◌, length, take, drop, Option, Some, None, refl}
use Rattle.std.proofs.Common.{sym, ap, ◌∙◌, subst, arith, length-append, inl, inr}
use Rattle.std.specs.Prelude.{slice_get}
use Rattle.std.proofs.lemmas.Bool.{cases_lt}
use Rattle.std.proofs.lemmas.List.{drop_at, length-take-le, take-append-drop, take_at}
use Rattle.std.proofs.lemmas.List.Elements.{All-append, All-take}
use Rattle.std.specs.Prelude.{IsTrue}
use Rattle.ncc_tx.specs.declared.entry.ChangeSet.{ChangeSet}
use Rattle.ncc_tx.specs.declared.entry.Item.{Item}
use Rattle.ncc_tx.specs.declared.entry.Saved.{Saved}
use Rattle.ncc_tx.specs.Items.{entry_allowed}
use Rattle.ncc_tx.specs.Kept.{IsChange, Leads, MayFollow, MayKeep, NeverFalls, Parted, Shared, TermsParted, max_items, part_after}
use Rattle.ncc_tx.specs.Kept.{term_at, term_of}

-- ---- one number of shared items

apart : (old new : List Item) (m n : ℕ) → m < n → n ≤ length old → n ≤ length new → take n old ≡ take n new →
    Parted (drop m old) (drop m new) → ⊥
apart [] new m n lt a b e p = absurd (omega arith)
apart (x ∷ xs) [] m n lt a b e p = absurd (omega arith)
apart (x ∷ xs) (y ∷ ys) m zero lt a b e p = absurd (omega arith)
apart (x ∷ xs) (y ∷ ys) zero (suc n) lt a b e p =
    let f : x ∷ take n xs ≡ y ∷ take n ys = e in
    let g : x ≡ y = cc in
    p g
apart (x ∷ xs) (y ∷ ys) (suc m) (suc n) lt a b e p =
    let f : x ∷ take n xs ≡ y ∷ take n ys = e in
    let g : take n xs ≡ take n ys = cc in
    apart xs ys m n (omega arith) (omega arith) (omega arith) g p

not_below : (old new : List Item) (m n : ℕ) → Shared old new m → Shared old new n → n ≤ m
not_below old new m n a b = elim (cases_lt m n) [ inl lt ↦ absurd (apart old new m n lt b.in_old b.in_new b.same a.most) | inr le ↦ le ]

one_number : (old new : List Item) (m n : ℕ) → Shared old new m → Shared old new n → m ≡ n
one_number old new m n a b =
    let le = not_below old new m n a b in
    let ge = not_below old new n m b a in
    omega arith

same_change : (old new : Saved) (c d : ChangeSet) → IsChange old new c → IsChange old new d → c ≡ d
same_change old new c d a b =
    let k : c.keep ≡ d.keep = one_number old.log new.log c.keep d.keep a.keep b.keep in
    let items : c.items ≡ d.items = a.items ∙ ap (λ (n : ℕ). drop n new.log) k ∙ sym b.items in
    λ i. record { term = (a.term ∙ sym b.term) i; vote = (a.vote ∙ sym b.vote) i; keep = k i; items = items i }

pub one : (old new : Saved) (a b : Option ChangeSet) → Leads old new a → Leads old new b → a ≡ b
one old new None None a b = refl
one old new None (Some d) a b = absurd (b.other a)
one old new (Some c) None a b = absurd (a.other b)
one old new (Some c) (Some d) a b = ap Some (same_change old new c d a b)

-- ---- the part after a change

pub leads : (old new : Saved) (c : ChangeSet) → IsChange old new c → part_after old c ≡ new
leads old new c is =
    let log : take c.keep old.log ++ c.items ≡ new.log = ap (λ (l : List Item). take c.keep old.log ++ l) is.items
    ∙ ap (λ (l : List Item). l ++ drop c.keep new.log) is.keep.same ∙ take-append-drop c.keep new.log in
    λ i. record { term = is.term i; vote = is.vote i; log = log i }

pub leads_after : (old : Saved) (c : ChangeSet) → c.keep ≤ length old.log → Parted (drop c.keep old.log) c.items →
    (old ≡ part_after old c → ⊥) → IsChange old (part_after old c) c
leads_after old c le parted other =
    let front : length (take c.keep old.log) ≡ c.keep = length-take-le c.keep old.log le in
    let behind : drop c.keep (take c.keep old.log ++ c.items) ≡ c.items = drop_at (take c.keep old.log) c.items c.keep front in
    record {
      other = other;
      term = refl;
      vote = refl;
      keep = record {
        in_old = le;
        in_new = omega (arith, front, length-append (take c.keep old.log) c.items);
        same = sym (take_at (take c.keep old.log) c.items c.keep front);
        most = subst (Parted (drop c.keep old.log)) (sym behind) parted;
      };
      items = sym behind;
    }

pub parted_by_terms : (xs ys : List Item) → TermsParted xs ys → Parted xs ys
parted_by_terms [] ys p = tt
parted_by_terms (x ∷ xs) [] p = tt
parted_by_terms (x ∷ xs) (y ∷ ys) p = λ e. p (ap (λ (i : Item). i.term) e)

-- ---- terms of logs that are joined

abbrev last_of : ℕ → List Item → ℕ
last_of least [] = least
last_of least (i ∷ is) = last_of i.term is

falls_joined : (least greatest : ℕ) (xs ys : List Item) → NeverFalls least greatest xs → NeverFalls (last_of least xs) greatest ys →
    NeverFalls least greatest (xs ++ ys)
falls_joined least greatest [] ys a b = b
falls_joined least greatest (x ∷ xs) ys a b = (a.0, a.1, falls_joined x.term greatest xs ys a.2 b)

falls_front : (least greatest n : ℕ) (xs : List Item) → NeverFalls least greatest xs → NeverFalls least greatest (take n xs)
falls_front least greatest zero xs a = tt
falls_front least greatest (suc n) [] a = tt
falls_front least greatest (suc n) (x ∷ xs) a = (a.0, a.1, falls_front x.term greatest n xs a.2)

falls_under : (least low high : ℕ) (xs : List Item) → low ≤ high → NeverFalls least low xs → NeverFalls least high xs
falls_under least low high [] le a = tt
falls_under least low high (x ∷ xs) le a = (a.0, omega (arith, a.1, le), falls_under x.term low high xs le a.2)

abbrev term_or : ℕ → List Item → ℕ → ℕ
term_or least xs zero = least
term_or least xs (suc n) = term_of (slice_get xs n)

last_is : (least : ℕ) (xs : List Item) (n : ℕ) → n ≤ length xs → last_of least (take n xs) ≡ term_or least xs n
last_is least xs zero le = refl
last_is least [] (suc n) le = absurd (omega arith)
last_is least (x ∷ xs) (suc zero) le = refl
last_is least (x ∷ xs) (suc (suc n)) le = last_is x.term xs (suc n) (omega arith)

at_is : (log : List Item) (n : ℕ) → term_or 0 log n ≡ term_at log n
at_is log zero = refl
at_is log (suc n) = refl

pub kept : (old : Saved) (c : ChangeSet) → MayKeep old → MayFollow old c → length (part_after old c).log ≤ max_items →
    MayKeep (part_after old c)
kept old c k f few =
    let front : NeverFalls 0 c.term (take c.keep old.log) =
    falls_front 0 c.term c.keep old.log (falls_under 0 old.term c.term old.log f.term k.terms) in
    let last : last_of 0 (take c.keep old.log) ≡ term_at old.log c.keep = last_is 0 old.log c.keep f.keep ∙ at_is old.log c.keep in
    record {
      term = f.stands.term;
      vote = f.stands.vote;
      terms = falls_joined 0 c.term (take c.keep old.log) c.items front (subst (λ (t : ℕ). NeverFalls t c.term c.items) (sym last) f.terms);
      entries = All-append (λ (i : Item). IsTrue (entry_allowed i.entry)) (take c.keep old.log) c.items
          (All-take (λ (i : Item). IsTrue (entry_allowed i.entry)) c.keep old.log k.entries) f.stands.entries;
      few = few;
    }

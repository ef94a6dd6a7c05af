-- The change of a step may follow what was kept, and its items are the last of those that the event brings.
use Rattle.std.proofs.Common.{◌≡◌, ℕ, zero, suc, ◌+◌, ◌*◌, ◌^◌, ◌<◌, ◌≤◌, List, [], ◌∷◌, ◌++◌}
use Rattle.std.proofs.Common.{length, take, drop, Some, refl, sym, ap, ◌∙◌, subst, arith, inl, inr, length-append}
use Rattle.std.specs.Prelude.{IsTrue}
use Rattle.std.proofs.lemmas.Bool.{cases_eq, cases_lt}
use Rattle.std.proofs.lemmas.Option.{same_Some}
use Rattle.std.proofs.lemmas.List.{append-nil, length-drop, take-append-drop}
use Rattle.std.proofs.lemmas.List.Elements.{All-drop, All-tail, All-head}
use Rattle.ncc_tx.specs.declared.entry.ChangeSet.{ChangeSet}
use Rattle.ncc_tx.specs.declared.entry.Item.{Item}
use Rattle.ncc_tx.specs.declared.entry.Saved.{Saved}
use Rattle.ncc_tx.specs.Items.{entry_allowed, item_bytes, items_bytes}
use Rattle.ncc_tx.specs.Kept.{AllAllowed, IsChange, Leads, MayFollow, MayKeep, NeverFalls, Parted, SameTerms, Shared}
use Rattle.ncc_tx.specs.Kept.{payload, term_at, terms}
use Rattle.ncc_tx.specs.Spelled.{spelled}
use Rattle.ncc_tx.proofs.ItemBytes.{allowed_short, length_counted, length_item, length_payload}
use Rattle.ncc_tx.proofs.Changes as changes
use Rattle.ncc_raft.specs.Logs.{accepted}
use Rattle.ncc_raft.proofs.Changes.{grown, kept_as}
use Rattle.ncc_raft.proofs.Falls.{falls_behind}
use Rattle.ncc_raft.proofs.Merged.{accepted_parts, accepted_whole, parted_on}

-- ---- few items are short enough for a record

bytes_of : (items : List Item) → AllAllowed items → length (items_bytes items) ≤ 1_048_588 * length items
bytes_of [] ok = omega arith
bytes_of (i ∷ is) ok =
    let here : length (spelled i.entry) ≤ 1_048_576 = allowed_short i.entry
    (All-head (λ (y : Item). IsTrue (entry_allowed y.entry)) i is ok) in
    let rest : length (items_bytes is) ≤ 1_048_588 * length is = bytes_of is
    (All-tail (λ (y : Item). IsTrue (entry_allowed y.entry)) i is ok) in
    omega (arith, here, rest, length_item i, length-append (item_bytes i) (items_bytes is))

short : (c : ChangeSet) → AllAllowed c.items → length c.items ≤ 64 → length (payload c) < 2 ^ 32
short c ok few = omega (arith, bytes_of c.items ok, length_payload c, length_counted c.items)

-- ---- which change it is

-- a change whose part before and behind may be kept may follow, where it has few items
pub follows : (old new : Saved) (c : ChangeSet) → IsChange old new c → MayKeep new → old.term ≤ new.term → length c.items ≤ 64 →
    MayFollow old c
follows old new c is k up few =
    let ok : AllAllowed c.items = subst AllAllowed (sym is.items)
    (All-drop (λ (y : Item). IsTrue (entry_allowed y.entry)) c.keep new.log k.entries) in
    let falls : NeverFalls (term_at new.log c.keep) new.term
    (drop c.keep new.log) = falls_behind new.term c.keep new.log is.keep.in_new k.terms in
    let at : term_at new.log c.keep ≡ term_at old.log c.keep = sym
    (same_at old.log new.log c.keep is.keep.in_old is.keep.in_new is.keep.same) in
    let items : NeverFalls (term_at old.log c.keep) c.term c.items =
    subst (λ (t : ℕ). NeverFalls (term_at old.log c.keep) t c.items) (sym is.term)
    (subst (λ (l : List Item). NeverFalls (term_at old.log c.keep) new.term l) (sym is.items)
    (subst (λ (t : ℕ). NeverFalls t new.term (drop c.keep new.log)) at falls)) in
    record {
      stands = record {
        term = omega (arith, is.term, k.term);
        vote = omega (arith, is.vote, k.vote);
        terms = from_zero (term_at old.log c.keep) c.term c.items items;
        entries = ok;
        short = short c ok few;
      };
      term = omega (arith, is.term);
      keep = is.keep.in_old;
      terms = items;
    }
  where
    from_zero : (least t : ℕ) (xs : List Item) → NeverFalls least t xs → NeverFalls 0 t xs
    from_zero least t [] a = tt
    from_zero least t (x ∷ xs) a = (omega arith, a.1, a.2)

    cut : (xs : List Item) (n : ℕ) → suc n ≤ length xs → term_at (take (suc n) xs) (suc n) ≡ term_at xs (suc n)
    cut [] n le = absurd (omega arith)
    cut (x ∷ xs) zero le = refl
    cut (x ∷ xs) (suc n) le = cut xs n (omega arith)

    same_at : (xs ys : List Item) (n : ℕ) → n ≤ length xs → n ≤ length ys → take n xs ≡ take n ys → term_at xs n ≡ term_at ys n
    same_at xs ys zero a b e = refl
    same_at xs ys (suc n) a b e = sym (cut xs n a) ∙ ap (λ (l : List Item). term_at l (suc n)) e ∙ cut ys n b

-- ---- which items it has

-- where the old log is followed by items, the change has the last of them
pub behind : (old new : Saved) (c : ChangeSet) (more : List Item) → IsChange old new c → new.log ≡ old.log ++ more →
    (front : List Item) × (more ≡ front ++ c.items)
behind old new c more is e =
    let le : c.keep ≤ length old.log = is.keep.in_old in
    let n : length old.log ≤ c.keep = at_least old.log new.log more c.keep e is.keep in
    let same : c.keep ≡ length old.log = omega arith in
    let items : c.items ≡ more = is.items ∙ ap (drop c.keep) e ∙ drop_front old.log more c.keep same in
    ([], sym items)
  where
    drop_front : (xs ys : List Item) (n : ℕ) → n ≡ length xs → drop n (xs ++ ys) ≡ ys
    drop_front xs ys n e = ap (λ (k : ℕ). drop k (xs ++ ys)) e ∙ go xs ys
      where
        go : (ks bs : List Item) → drop (length ks) (ks ++ bs) ≡ bs
        go [] bs = refl
        go (k ∷ ks) bs = go ks bs

    -- less than the whole old log in common would leave the same item in both
    parts : (xs ys : List Item) (n : ℕ) → n < length xs → Parted (drop n xs) (drop n (xs ++ ys)) → ⊥
    parts [] ys n lt p = absurd (omega arith)
    parts (x ∷ xs) ys zero lt p = p refl
    parts (x ∷ xs) ys (suc n) lt p = parts xs ys n (omega arith) p

    at_least : (xs zs ys : List Item) (n : ℕ) → zs ≡ xs ++ ys → Shared xs zs n → length xs ≤ n
    at_least xs zs ys n e s = elim (cases_lt n (length xs)) [
      | inl lt ↦ absurd (parts xs ys n lt (subst (λ (l : List Item). Parted (drop n xs) (drop n l)) e s.most))
      | inr le ↦ le
    ]

-- where the log stays it has none
pub none_of : (old new : Saved) (c : ChangeSet) → IsChange old new c → new.log ≡ old.log → c.items ≡ []
none_of old new c is e =
    let h = behind old new c [] is (e ∙ sym (append-nil old.log)) in
    nothing h.0 c.items h.1
  where
    nothing : (xs ys : List Item) → [] ≡ xs ++ ys → ys ≡ []
    nothing [] ys f = sym f
    nothing (x ∷ xs) ys f = absurd (cc)

-- how many first items of two logs have the same terms
number : (xs ys : List Item) → (n : ℕ) × SameTerms xs ys n
number [] ys = (0, record { in_first = omega arith; in_second = omega arith; same = refl; most = tt })
number (x ∷ xs) [] = (0, record { in_first = omega arith; in_second = omega arith; same = refl; most = tt })
number (x ∷ xs) (y ∷ ys) =
    let h = number xs ys in
    elim (cases_eq x.term y.term) [
      | inl e ↦ (
        suc h.0,
        record {
          in_first = omega (arith, h.1.in_first);
          in_second = omega (arith, h.1.in_second);
          same = ap (λ (t : ℕ). t ∷ take h.0 (terms xs)) e ∙ ap (λ (l : List ℕ). y.term ∷ l) h.1.same;
          most = h.1.most;
        },
      )
      | inr ne ↦ (0, record { in_first = omega arith; in_second = omega arith; same = refl; most = ne })
    ]

some_left : (n : ℕ) (xs : List Item) → n < length xs → drop n xs ≡ [] → ⊥
some_left n [] lt e = absurd (omega arith)
some_left zero (x ∷ xs) lt e = absurd (cc)
some_left (suc n) (x ∷ xs) lt e = some_left n xs (omega arith) e

-- where the items of a message were taken it has the last of them
pub taken : (old new : Saved) (c : ChangeSet) (prev : ℕ) (items : List Item) → IsChange old new c → prev ≤ length old.log →
    new.log ≡ accepted old.log prev items → (front : List Item) × (items ≡ front ++ c.items)
taken old new c prev items is le e =
    let h = number (drop prev old.log) items in
    elim (cases_lt h.0 (length items)) [
      | inl lt ↦
          let log : new.log ≡ take (prev + h.0) old.log ++ drop h.0 items = e ∙ sym (accepted_parts old.log items prev h.0 h.1 lt) in
          let parted : Parted (drop (prev + h.0) old.log) (drop h.0 items) =
          parted_on old.log items prev h.0 (changes.parted_by_terms (drop h.0 (drop prev old.log)) (drop h.0 items) h.1.most) in
          let within : prev + h.0 ≤ length old.log = omega (arith, h.1.in_first, length-drop prev old.log) in
          let other : Leads old new (Some (record { term = new.term; vote = new.vote; keep = prev + h.0; items = drop h.0 items })) =
          subst (λ (l : List Item). Leads old (kept_as new.term new.vote l)
          (Some (record { term = new.term; vote = new.vote; keep = prev + h.0; items = drop h.0 items }))) (sym log)
          (grown old.term new.term old.vote new.vote old.log (prev + h.0) (drop h.0 items) within parted (some_left h.0 items lt)) in
          let one : Some c ≡ Some (record { term = new.term; vote = new.vote; keep = prev + h.0; items = drop h.0 items }) =
          changes.one old new (Some c)
          (Some (record { term = new.term; vote = new.vote; keep = prev + h.0; items = drop h.0 items })) is other in
          let same : c ≡ record { term = new.term; vote = new.vote; keep = prev + h.0; items = drop h.0 items } = same_Some c _ one in
          (take h.0 items, sym (ap (λ (d : ChangeSet). take h.0 items ++ d.items) same ∙ take-append-drop h.0 items))
      | inr ge ↦
          let whole : h.0 ≡ length items = omega (arith, h.1.in_second) in
          let none : c.items ≡ [] = none_of old new c is (e ∙ sym (accepted_whole old.log items prev h.0 h.1 whole)) in
          (items, sym (ap (λ (l : List Item). items ++ l) none ∙ append-nil items))
    ]

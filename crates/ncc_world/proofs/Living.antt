-- Who has not ended, at each member: where one connection changes, and where one more is opened.
use Rattle.std.proofs.Common.{◌≡◌, ◌≢◌, inl, inr, ℕ, zero, suc, ◌+◌, ◌<◌, List, [], ◌∷◌, ◌++◌, length, get_or, Some, Bool, true, false}
use Rattle.std.proofs.Common.{cond, not, ◌&&◌, ◌||◌, nat_eq}
use Rattle.std.proofs.Common.{refl, ap, sym, ◌∙◌, arith}
use Rattle.std.specs.Prelude.{slice_get, slice_set, ◌==◌}
use Rattle.std.specs.List.{list_any}
use Rattle.std.proofs.lemmas.List.{get_or-set_same, get_or-set_other}
use Rattle.std.proofs.lemmas.List.Folds.{list_any-append}
use Rattle.std.proofs.lemmas.Bool.Decides.{eqb_tells}
use Rattle.ncc_clients.specs.Run.{Client, has_ended}
use Rattle.ncc_world.specs.declared.setup.Setup.{Setup}
use Rattle.ncc_world.specs.Setting.{cluster_of}
use Rattle.ncc_world.specs.World.{AreNumbered, is_live}
use Rattle.ncc_world.specs.Parts.{marked}
use Rattle.ncc_world.proofs.Rooms.{eq_yes, eq_no, get_or_any, number_at}

or_false : (b : Bool) → b ≡ (b || false)
or_false true = refl
or_false false = refl

or_true : (b : Bool) → true ≡ (b || true)
or_true true = refl
or_true false = refl

and_false : (b : Bool) → (b && false) ≡ false
and_false true = refl
and_false false = refl

-- ---- one test

other_number : (s : Setup) (m n : ℕ) (c : Client) → c.number ≢ n → is_live s m n c ≡ false
other_number s m n c h = ap (λ (b : Bool). b && ((c.member == m) && not (has_ended (cluster_of s) c))) (eq_no c.number n h)

other_member : (s : Setup) (m n : ℕ) (c : Client) → c.member ≢ m → is_live s m n c ≡ false
other_member s m n c h =
    ap (λ (b : Bool). (c.number == n) && (b && not (has_ended (cluster_of s) c))) (eq_no c.member m h) ∙ and_false (c.number == n)

own_test : (s : Setup) (m n : ℕ) (c : Client) → c.number ≡ n → c.member ≡ m → is_live s m n c ≡ not (has_ended (cluster_of s) c)
own_test s m n c e f =
    ap (λ (b : Bool). b && ((c.member == m) && not (has_ended (cluster_of s) c))) (eq_yes c.number n e)
    ∙ ap (λ (b : Bool). b && not (has_ended (cluster_of s) c)) (eq_yes c.member m f)

-- ---- all of them

any_set : (p : Client → Bool) (cs : List Client) (i : ℕ) (c d : Client) → slice_get cs i ≡ Some c → p c ≡ p d
    → list_any p cs ≡ list_any p (slice_set cs i d)
any_set p [] i c d e f = refl
any_set p (x ∷ xs) zero c d e f =
    let same : x ≡ c = cc in ap (λ (b : Bool). b || list_any p xs) (ap p same ∙ f)
any_set p (x ∷ xs) (suc i) c d e f = ap (λ (b : Bool). p x || b) (any_set p xs i c d e f)

none_past : (s : Setup) (m n from : ℕ) (cs : List Client) → AreNumbered from cs → n < from → list_any (is_live s m n) cs ≡ false
unfolding AreNumbered
none_past s m n from [] h l = refl
none_past s m n from (c ∷ cs) h l =
    ap (λ (b : Bool). b || list_any (is_live s m n) cs) (other_number s m n c (λ e. absurd (omega (arith, h.0, l, e))))
    ∙ none_past s m n (from + 1) cs h.1 (omega (arith, l))

-- the one of this number is the one that changes
any_here : (s : Setup) (m from i : ℕ) (cs : List Client) (c d : Client) → AreNumbered from cs → slice_get cs i ≡ Some c
    → d.number ≡ c.number → d.member ≡ m → not (has_ended (cluster_of s) d) ≡ list_any (is_live s m c.number) (slice_set cs i d)
unfolding AreNumbered
any_here s m from i [] c d h e f g = absurd (cc)
any_here s m from zero (x ∷ xs) c d h e f g =
    let same : x ≡ c = cc in
    let number : c.number ≡ from = ap (λ (y : Client). y.number) (sym same) ∙ h.0 in
    or_false (not (has_ended (cluster_of s) d))
    ∙ ap (λ (b : Bool). not (has_ended (cluster_of s) d) || b) (sym (none_past s m c.number (from + 1) xs h.1 (omega (arith, number))))
    ∙ ap (λ (b : Bool). b || list_any (is_live s m c.number) xs) (sym (own_test s m c.number d f g))
any_here s m from (suc i) (x ∷ xs) c d h e f g =
    let number : c.number ≡ from + 1 + i = number_at (from + 1) i xs c h.1 e in
    any_here s m (from + 1) i xs c d h.1 e f g
    ∙ ap (λ (b : Bool). b || list_any (is_live s m c.number) (slice_set xs i d))
    (sym (other_number s m c.number x (λ z. absurd (omega (arith, h.0, number, z)))))

-- ---- the numbers of each member

abbrev pub AreLive : Setup → ℕ → List (List ℕ) → List Client → Type 0
AreLive s count live clients =
    (i n : ℕ) → i < count → list_any (nat_eq n) (get_or live i []) ≡ list_any (is_live s (i + 1) n) clients

abbrev pub Marks : ℕ → Bool → List ℕ → List ℕ → Type 0
Marks number ended was now = (n : ℕ) → list_any (nat_eq n) now ≡ marked number ended n (list_any (nat_eq n) was)

was_there : (live : List (List ℕ)) (at i : ℕ) (was : List ℕ) → was ≡ get_or live at was → i ≡ at → i < length live → was ≡ get_or live i []
was_there live at i was e h l =
    let none : List ℕ = [] in e ∙ ap (λ j. get_or live j was) (sym h) ∙ get_or_any live i was none l

now_there : (live : List (List ℕ)) (at i : ℕ) (now : List ℕ) → i ≡ at → i < length live → get_or (slice_set live at now) i [] ≡ now
now_there live at i now h l =
    let none : List ℕ = [] in
    ap (λ j. get_or (slice_set live at now) j none) h ∙ get_or-set_same live at now none (omega (arith, h, l))

mark_here : (number n : ℕ) (ended had : Bool) → number ≡ n → marked number ended n had ≡ not ended
mark_here number n ended had e = ap (λ (b : Bool). cond b (not ended) had) (eq_yes number n e)

mark_other : (number n : ℕ) (ended had : Bool) → number ≢ n → marked number ended n had ≡ had
mark_other number n ended had h = ap (λ (b : Bool). cond b (not ended) had) (eq_no number n h)

-- one connection changes
pub live_set : (s : Setup) (count : ℕ) (live : List (List ℕ)) (clients : List Client) (index at : ℕ) (c d : Client)
    (ended : Bool) (was now : List ℕ) → length live ≡ count → AreLive s count live clients → AreNumbered 1 clients
    → slice_get clients index ≡ Some c → d.number ≡ c.number → d.member ≡ c.member → c.member ≡ at + 1 → ended ≡ has_ended (cluster_of s) d
    → was ≡ get_or live at was → Marks c.number ended was now → AreLive s count (slice_set live at now) (slice_set clients index d)
live_set s count live clients index at c d ended was now full all numbered there number member here is_ended before marks i n l =
    elim (eqb_tells i at) [
      | inl h ↦ own h.1
      | inr h ↦ other h.1
    ] where
      had : i ≡ at → list_any (nat_eq n) was ≡ list_any (is_live s (i + 1) n) clients
      had h = ap (list_any (nat_eq n)) (was_there live at i was before h (omega (arith, full, l))) ∙ all i n l

      own : i ≡ at → list_any (nat_eq n) (get_or (slice_set live at now) i []) ≡ list_any (is_live s (i + 1) n) (slice_set clients index d)
      own h = ap (list_any (nat_eq n)) (now_there live at i now h (omega (arith, full, l))) ∙ marks n ∙ elim (eqb_tells c.number n) [
        | inl k ↦ (
            mark_here c.number n ended (list_any (nat_eq n) was) k.1
            ∙ ap not is_ended
            ∙ any_here s (i + 1) 1 index clients c d numbered there number (omega (arith, member, here, h))
            ∙ ap (λ j. list_any (is_live s (i + 1) j) (slice_set clients index d)) k.1)
        | inr k ↦ (
            mark_other c.number n ended (list_any (nat_eq n) was) k.1
            ∙ had h
            ∙ any_set (is_live s (i + 1) n) clients index c d there
            (other_number s (i + 1) n c k.1 ∙ sym (other_number s (i + 1) n d (λ z. k.1 (sym number ∙ z)))))
      ]

      other : i ≢ at
          → list_any (nat_eq n) (get_or (slice_set live at now) i []) ≡ list_any (is_live s (i + 1) n) (slice_set clients index d)
      other h =
          let none : List ℕ = [] in
          ap (list_any (nat_eq n)) (get_or-set_other live at i now none h)
          ∙ all i n l
          ∙ any_set (is_live s (i + 1) n) clients index c d there
          (other_member s (i + 1) n c (λ z. h (omega (arith, here, z)))
          ∙ sym (other_member s (i + 1) n d (λ z. h (omega (arith, here, member, z)))))

-- one more is opened
pub live_more : (s : Setup) (count : ℕ) (live : List (List ℕ)) (clients : List Client) (at : ℕ) (c : Client) (was now : List ℕ)
    → length live ≡ count → AreLive s count live clients
    → c.member ≡ at + 1 → has_ended (cluster_of s) c ≡ false
    → was ≡ get_or live at was → Marks c.number false was now → AreLive s count (slice_set live at now) (clients ++ (c ∷ []))
live_more s count live clients at c was now full all here goes_on before marks i n l =
    elim (eqb_tells i at) [
      | inl h ↦ own h.1
      | inr h ↦ other h.1
    ] where
      behind : list_any (is_live s (i + 1) n) (clients ++ (c ∷ []))
          ≡ (list_any (is_live s (i + 1) n) clients || (is_live s (i + 1) n c || false))
      behind = list_any-append (is_live s (i + 1) n) clients (c ∷ [])

      apart : is_live s (i + 1) n c ≡ false → list_any (is_live s (i + 1) n) clients ≡ list_any (is_live s (i + 1) n) (clients ++ (c ∷ []))
      apart e =
          or_false (list_any (is_live s (i + 1) n) clients)
          ∙ ap (λ (b : Bool). list_any (is_live s (i + 1) n) clients || (b || false)) (sym e)
          ∙ sym behind

      own : i ≡ at → list_any (nat_eq n) (get_or (slice_set live at now) i []) ≡ list_any (is_live s (i + 1) n) (clients ++ (c ∷ []))
      own h = ap (list_any (nat_eq n)) (now_there live at i now h (omega (arith, full, l))) ∙ marks n ∙ elim (eqb_tells c.number n) [
        | inl k ↦ (
            let lives : is_live s (i + 1) n c ≡ true =
            own_test s (i + 1) n c k.1 (omega (arith, here, h)) ∙ ap not goes_on in
            mark_here c.number n false (list_any (nat_eq n) was) k.1
            ∙ or_true (list_any (is_live s (i + 1) n) clients)
            ∙ ap (λ (b : Bool). list_any (is_live s (i + 1) n) clients || (b || false)) (sym lives)
            ∙ sym behind)
        | inr k ↦ (
            mark_other c.number n false (list_any (nat_eq n) was) k.1
            ∙ ap (list_any (nat_eq n)) (was_there live at i was before h (omega (arith, full, l)))
            ∙ all i n l
            ∙ apart (other_number s (i + 1) n c k.1))
      ]

      other : i ≢ at → list_any (nat_eq n) (get_or (slice_set live at now) i []) ≡ list_any (is_live s (i + 1) n) (clients ++ (c ∷ []))
      other h =
          let none : List ℕ = [] in
          ap (list_any (nat_eq n)) (get_or-set_other live at i now none h)
          ∙ all i n l
          ∙ apart (other_member s (i + 1) n c (λ z. h (omega (arith, here, z))))

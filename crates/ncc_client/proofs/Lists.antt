-- What is appended to calls and moments that may be told, and inputs with their moments.
use Rattle.std.proofs.Common.{◌≡◌, ◌≢◌, ◌⊎◌, ℕ, zero, suc, ◌<◌, ◌≤◌, Option, Some, None, List, [], ◌∷◌, ◌++◌, length, take, inl, inr}
use Rattle.std.proofs.Common.{subst, refl, sym, ap, ◌∙◌, append_assoc, append-nil, arith}
use Rattle.std.specs.List.{Contains}
use Rattle.std.proofs.lemmas.Grind.{flat_map-append}
use Rattle.std.proofs.lemmas.List.Elements.{Contains-push_cases, Contains-append_cases}
use Rattle.ncc_base.specs.Clock.{Tells}
use Rattle.ncc_base.specs.Faults.{Rose}
use Rattle.ncc_driver.specs.declared.action.Action.TheVariants.{Receive}
use Rattle.ncc_driver.specs.declared.action.Input.{Input}
use Rattle.ncc_driver.specs.declared.action.Input.TheVariants as i
use Rattle.ncc_driver.specs.Session.{Moved}
use Rattle.ncc_client.specs.Calls.{Call, receives, given_by, given, MakesMore}
use Rattle.ncc_client.specs.Working.{timed}
use Rattle.ncc_client.specs.Turning.{Calls}

pub clock_none : (a : Option (List ℕ)) → Tells a a []
clock_none None = tt
clock_none (Some x) = sym (append-nil x)

pub clock_on : (a b c : Option (List ℕ)) (xs ys : List ℕ) → Tells a b xs → Tells b c ys → Tells a c (xs ++ ys)
clock_on a b None xs ys p q = tt
clock_on a None (Some z) xs ys p q = absurd q
clock_on None (Some y) (Some z) xs ys p q = absurd p
clock_on (Some x) (Some y) (Some z) xs ys p q = q ∙ ap (λ (l : List ℕ). l ++ ys) p ∙ append_assoc x xs ys

pub makes_none : (a : Option (List Call)) → MakesMore a a []
makes_none None = tt
makes_none (Some x) = sym (append-nil x)

pub makes_on : (a b c : Option (List Call)) (xs ys : List Call) → MakesMore a b xs → MakesMore b c ys → MakesMore a c (xs ++ ys)
makes_on a b None xs ys p q = tt
makes_on a None (Some z) xs ys p q = absurd q
makes_on None (Some y) (Some z) xs ys p q = absurd p
makes_on (Some x) (Some y) (Some z) xs ys p q = q ∙ ap (λ (l : List Call). l ++ ys) p ∙ append_assoc x xs ys

pub rose_more : (a b c : ℕ) → Rose a b → b ≤ c → Rose a c
rose_more a b c (inl h) k = inl (omega (arith, h, k))
rose_more a b c (inr h) k = inr (omega (arith, h, k))

pub rose_before : (a b c : ℕ) → a ≤ b → Rose b c → Rose a c
rose_before a b c k (inl h) = inl (omega (arith, h, k))
rose_before a b c k (inr h) = inr h

-- ---- inputs with their moments

pub timed_more : (xs : List Input) (ms : List ℕ) (x : Input) (m : ℕ) → length ms ≡ length xs
    → timed (xs ++ x ∷ []) (ms ++ m ∷ []) ≡ timed xs ms ++ (x, m) ∷ []
unfolding timed
timed_more [] [] x m e = refl
timed_more [] (n ∷ ns) x m e = absurd (let k : suc (length ns) ≡ 0 = e in omega arith)
timed_more (y ∷ ys) [] x m e = absurd (let k : 0 ≡ suc (length ys) = e in omega arith)
timed_more (y ∷ ys) (n ∷ ns) x m e =
    let k : suc (length ns) ≡ suc (length ys) = e in
    ap (λ (l : List Moved). (y, n) ∷ l) (timed_more ys ns x m (omega arith))

pub given_on : (calls more : List Call) → given (calls ++ more) ≡ given calls ++ given more
given_on calls more = flat_map-append given_by calls more

pub given_one : (call : Call) → given (call ∷ []) ≡ given_by call
given_one call = append-nil (given_by call)

-- ---- a receive

pub none_came : (made : List Call → Type 0) (rose : Type 0) (n : ℕ) (into : List ℕ) → n ≡ 0 → 0 < length into
    → made (receives (Some (take n into)) ∷ []) → (n ≡ 0 → 0 < length into → rose) → Calls made rose Receive (i.Lost ∷ [])
none_came made rose n into e room h k = record {
  call = receives (Some []);
  made_it = subst (λ (m : ℕ). made (receives (Some (take m into)) ∷ [])) e h;
  does = refl;
  gives = refl;
  lost = λ _. k e room;
}

pub failed : (made : List Call → Type 0) (rose : Type 0) → made (receives None ∷ []) → rose → Calls made rose Receive (i.Lost ∷ [])
failed made rose h k = record { call = receives None; made_it = h; does = refl; gives = refl; lost = λ _. k }

some_by : (made : List Call → Type 0) (rose : Type 0) (bs : List ℕ) → bs ≢ [] → made (receives (Some bs) ∷ [])
    → (Contains (i.Bytes bs ∷ []) i.Lost → rose) → Calls made rose Receive (i.Bytes bs ∷ [])
some_by made rose [] e h k = absurd (e refl)
some_by made rose (b ∷ bs) e h k =
    record { call = receives (Some (b ∷ bs)); made_it = h; does = refl; gives = refl; lost = k }

no_item : (x : Input) → Contains [] x → ⊥
no_item x h = let l : h.0 < 0 = h.1 in omega arith

one_by : (y x : Input) → Contains [] x ⊎ (y ≡ x) → y ≡ x
one_by y x (inl h) = absurd (no_item x h)
one_by y x (inr e) = e

one_is : (input : Input) → Contains (input ∷ []) i.Lost → input ≡ i.Lost
one_is input h = one_by input i.Lost (Contains-push_cases [] input i.Lost h)

take_some : (n : ℕ) (xs : List ℕ) → n ≢ 0 → n ≤ length xs → take n xs ≢ []
take_some zero xs e h k = e refl
take_some (suc n) [] e h k = let l : suc n ≤ 0 = h in omega arith
take_some (suc n) (x ∷ xs) e h k = absurd (cc)

not_lost : (input : Input) → (input ≡ i.Lost → ⊥) → (rose : Type 0) → Contains (input ∷ []) i.Lost → rose
not_lost input n rose h = absurd (n (one_is input h))

some_came : (made : List Call → Type 0) (rose : Type 0) (n : ℕ) (into : List ℕ) → n ≢ 0 → n ≤ length into
    → made (receives (Some (take n into)) ∷ []) → Calls made rose Receive (i.Bytes (take n into) ∷ [])
some_came made rose n into e room h =
    some_by made rose (take n into) (take_some n into e room) h (not_lost (i.Bytes (take n into)) (λ x. absurd (cc)) rose)

-- ---- what was lost

lost_by : (xs ys : List Input) (rose : Type 0) → (Contains xs i.Lost → rose) → (Contains ys i.Lost → rose)
    → Contains xs i.Lost ⊎ Contains ys i.Lost → rose
lost_by xs ys rose f g (inl h) = f h
lost_by xs ys rose f g (inr h) = g h

pub lost_on : (calls more : List Call) (rose : Type 0) → (Contains (given calls) i.Lost → rose) → (Contains (given more) i.Lost → rose)
    → Contains (given (calls ++ more)) i.Lost → rose
lost_on calls more rose f g h =
    lost_by (given calls) (given more) rose f g
    (Contains-append_cases (given calls) (given more) i.Lost (subst (λ (l : List Input). Contains l i.Lost) (given_on calls more) h))

pub lost_none : (rose : Type 0) → Contains [] i.Lost → rose
lost_none rose h = absurd (no_item i.Lost h)

-- the first of what was written in front of a list that is cut
take_front : (n m : ℕ) (xs ys : List ℕ) → n ≤ length xs → length xs ≤ m → take n (take m (xs ++ ys)) ≡ take n xs
take_front zero m xs ys h k = refl
take_front (suc n) m [] ys h k = absurd (let l : suc n ≤ 0 = h in omega arith)
take_front (suc n) zero (x ∷ xs) ys h k = absurd (let l : suc (length xs) ≤ 0 = k in omega arith)
take_front (suc n) (suc m) (x ∷ xs) ys h k =
    let g : suc n ≤ suc (length xs) = h in
    let l : suc (length xs) ≤ suc m = k in
    ap (λ (t : List ℕ). x ∷ t) (take_front n m xs ys (omega arith) (omega arith))

pub some_came_in : (made : List Call → Type 0) (rose : Type 0) (n m : ℕ) (into behind bytes : List ℕ) → n ≢ 0 → n ≤ length into
    → length into ≤ m → bytes ≡ take n (take m (into ++ behind)) → made (receives (Some (take n into)) ∷ [])
    → Calls made rose Receive (i.Bytes bytes ∷ [])
some_came_in made rose n m into behind bytes e room fits is h =
    subst (λ (l : List ℕ). Calls made rose Receive (i.Bytes l ∷ [])) (sym (is ∙ take_front n m into behind room fits))
    (some_came made rose n into e room h)

-- The connections by their numbers: what the table has behind a write, and behind one more.
use Rattle.std.proofs.Common.{◌<◌, ◌≡◌, ℕ, zero, suc, ◌+◌, ◌≤◌, List, [], ◌∷◌, ◌++◌, length, get_or, None, Some, Bool, cond, map, nat_eq}
use Rattle.std.proofs.Common.{refl, ap, sym, ◌∙◌, arith}
use Rattle.std.specs.Prelude.{slice_get, slice_set}
use Rattle.std.specs.Map.{keys_of, values_of, lookup}
use Rattle.std.proofs.lemmas.List.{map-append, get_or-map}
use Rattle.std.proofs.lemmas.Option.{get_or_from_slice_get}
use Rattle.indexmap.specs.IndexMap.{set_value_at}
use Rattle.ncc_clients.specs.Run.{Client}
use Rattle.ncc_world.specs.World.{AreNumbered}
use Rattle.ncc_world.proofs.Rooms.{eq_no}

pub values_set : {V : Type 0} (es : List (ℕ × V)) (i : ℕ) (w : V) → slice_set (values_of es) i w ≡ values_of (set_value_at es i w)
values_set [] i w = refl
values_set (e ∷ es) zero w = refl
values_set (e ∷ es) (suc i) w = ap (λ vs. e.1 ∷ vs) (values_set es i w)

pub at_index : {V : Type 0} (vs : List V) (i : ℕ) (v : V) → slice_get vs i ≡ Some v → v ≡ get_or vs i v
at_index vs i v e = sym (get_or_from_slice_get vs i v v e)

pub map_set : {X Y : Type 0} (f : X → Y) (xs : List X) (i : ℕ) (x : X) → map f (slice_set xs i x) ≡ slice_set (map f xs) i (f x)
map_set f [] i x = refl
map_set f (y ∷ ys) zero x = refl
map_set f (y ∷ ys) (suc i) x = ap (λ zs. f y ∷ zs) (map_set f ys i x)

pub map_at : {X Y : Type 0} (f : X → Y) (xs : List X) (i : ℕ) (x : X) → i < length xs → x ≡ get_or xs i x → f x ≡ get_or (map f xs) i (f x)
map_at f xs i x l e = ap f e ∙ sym (get_or-map f xs i x (f x) l)

abbrev pub numbers : List Client → List ℕ
numbers cs = map (λ (c : Client). c.number) cs

pub numbers_set : (i : ℕ) (cs : List Client) (c d : Client) → slice_get cs i ≡ Some c → d.number ≡ c.number
    → numbers cs ≡ numbers (slice_set cs i d)
numbers_set i [] c d e n = refl
numbers_set zero (x ∷ xs) c d e n =
    let same : x ≡ c = cc in
    ap (λ k. k ∷ numbers xs) (ap (λ (y : Client). y.number) same ∙ sym n)
numbers_set (suc i) (x ∷ xs) c d e n = ap (λ ks. x.number ∷ ks) (numbers_set i xs c d e n)

pub numbers_more : (cs : List Client) (c : Client) → numbers cs ++ (c.number ∷ []) ≡ numbers (cs ++ (c ∷ []))
numbers_more cs c = sym (map-append (λ (x : Client). x.number) cs (c ∷ []))

-- a number past all of them is new
pub absent : {V : Type 0} (n from : ℕ) (es : List (ℕ × V)) (cs : List Client) → keys_of es ≡ numbers cs → AreNumbered from cs
    → from + length cs ≤ n → lookup (nat_eq n) es ≡ None
unfolding AreNumbered
absent n from [] cs k h l = refl
absent n from (e ∷ es) [] k h l = absurd (cc)
absent n from (e ∷ es) (c ∷ cs) k h l =
    let first : e.0 ≡ c.number = cc in
    let rest : keys_of es ≡ numbers cs = cc in
    ap (λ (b : Bool). cond b (Some e.1) (lookup (nat_eq n) es)) (eq_no n e.0 (λ z. absurd (omega (arith, first, h.0, l, z))))
    ∙ absent n (from + 1) es cs rest h.1 (omega (arith, l))

pub keys_more : {V : Type 0} (es : List (ℕ × V)) (n : ℕ) (v : V) → keys_of (es ++ ((n, v) ∷ [])) ≡ keys_of es ++ (n ∷ [])
keys_more es n v = map-append (λ e. e.0) es ((n, v) ∷ [])

pub values_more : {V : Type 0} (es : List (ℕ × V)) (n : ℕ) (v : V) → values_of (es ++ ((n, v) ∷ [])) ≡ values_of es ++ (v ∷ [])
values_more es n v = map-append (λ e. e.1) es ((n, v) ∷ [])

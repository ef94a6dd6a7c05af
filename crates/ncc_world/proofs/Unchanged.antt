-- A list where an element is put in its own place is the same.
use Rattle.std.proofs.Common.{◌≡◌, ℕ, List, length, get_or, ap, sym, ◌∙◌, subst, Option, None, Some, Result, Ok, Err}
use Rattle.std.specs.Prelude.{slice_set, IfNone, IfOk, OnOk}
use Rattle.std.specs.Vec.{with_item}
use Rattle.std.specs.Global.{Vec}
use Rattle.std.proofs.Math.Nat.{ℕ_set}
use Rattle.std.proofs.lemmas.List.{set-get_or}

with_items_of : {X : Type 0} (v : Vec X) (items : List X) → v.len ≡ length items → Vec X
with_items_of v items r =
    record { ptr = v.ptr; len = v.len; cap = v.cap; alloc = v.alloc; items = items; ok = (r, v.ok.1); small = v.small }

numbers_prop : (a b : ℕ) → IsProp (a ≡ b)
numbers_prop a b = ℕ_set a b

same_by : {X : Type 0} (v : Vec X) (items : List X) (r : v.len ≡ length items) → items ≡ v.items → with_items_of v items r ≡ v
unfolding with_items_of
same_by {X} v items r e =
    let prop : IsProp (v.len ≡ length v.items) = numbers_prop v.len (length v.items) in
    subst (λ (ys : List X). (q : v.len ≡ length ys) → with_items_of v ys q ≡ v) (sym e)
    (λ q. ap (λ (p : v.len ≡ length v.items). with_items_of v v.items p) (prop q v.ok.0)) r

pub item_same : {X : Type 0} (v : Vec X) (i : ℕ) (x : X) → x ≡ get_or v.items i x → with_item v i x ≡ v
unfolding with_items_of
item_same v i x e = same_by v (slice_set v.items i x) _ (ap (slice_set v.items i) e ∙ set-get_or v.items i x)

pub none_weaker : {X : Type 0} (o : Option X) (P Q : Type 0) → (P → Q) → IfNone o P → IfNone o Q
none_weaker None P Q f h = f h
none_weaker (Some x) P Q f h = h

pub ok_both : {X E : Type 0} (r : Result X E) (P : X → Type 0) (A : Type 0) (Q : X → Type 0) → ((x : X) → P x → A → Q x) → IfOk r P
    → OnOk r A → IfOk r Q
ok_both (Ok x) P A Q f h k = f x h k
ok_both (Err e) P A Q f h k = h

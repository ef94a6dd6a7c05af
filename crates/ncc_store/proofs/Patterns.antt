-- The value that a pattern asks for.
use Rattle.std.proofs.Common.{◌≡◌, Bool, false, Option, Some, None, refl, ap, ◌∙◌}
use Rattle.ncc_pack.specs.declared.value.Value.{Value}
use Rattle.ncc_store.specs.declared.scalar.Scalar.{Scalar}
use Rattle.ncc_store.specs.declared.scalar.Scalar.TheVariants as s
use Rattle.ncc_store.specs.Scalar.{scalar, same}
use Rattle.ncc_store.specs.Props.{Name, Props, at_key, or_null, held, prop}

null_is_nothing : (x : Scalar) → false ≡ same s.Null x
null_is_nothing s.Null = refl
null_is_nothing (s.Bool b) = refl
null_is_nothing (s.Int z) = refl
null_is_nothing (s.Text t) = refl

-- there is no value at the key
pub misses : (k : Name) (x : Scalar) (ps : Props) → None ≡ at_key k ps → false ≡ same (prop k ps) x
unfolding prop
misses k x ps e = null_is_nothing x ∙ ap (λ (o : Option Value). same (held o) x) e

-- there is one, and it was compared
pub compares : (k : Name) (x : Scalar) (ps : Props) (v : Value) (r : Bool) → Some v ≡ at_key k ps → r ≡ same (or_null (scalar v)) x
    → r ≡ same (prop k ps) x
unfolding prop
compares k x ps v r e h = h ∙ ap (λ (o : Option Value). same (held o) x) e

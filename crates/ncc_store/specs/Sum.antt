-- The value of a sum, given the parameters and the properties of the bound node, where there is one.
use Rattle.std.specs.Prelude.{List, [], ◌∷◌, Option, Some, None, Result, Ok, Err}
use Rattle.ncc_pack.specs.declared.value.Value.{Value}
use Rattle.ncc_cypher.specs.declared.tree.Term.{Term}
use Rattle.ncc_cypher.specs.declared.tree.Term.TheVariants as m
use Rattle.ncc_cypher.specs.declared.tree.Expr.{Expr}
use Rattle.ncc_store.specs.declared.scalar.Scalar.{Scalar}
use Rattle.ncc_store.specs.declared.scalar.Scalar.TheVariants as s
use Rattle.ncc_store.specs.declared.fault.RunFault.{RunFault}
use Rattle.ncc_store.specs.declared.fault.RunFault.TheVariants as f
use Rattle.ncc_store.specs.Scalar.{scalar, plus}
use Rattle.ncc_store.specs.Props.{Props, at_key, prop}

-- an answer, or the first fault
abbrev pub Answer : Type 0 → Type 0
Answer A = Result A RunFault

infixl 10 ◌>>=◌
abbrev pub ◌>>=◌ : {A B : Type 0} → Answer A → (A → Answer B) → Answer B
(Ok x) >>= f = f x
(Err e) >>= f = Err e

abbrev pub or_wrong : Option Scalar → Answer Scalar
or_wrong (Some x) = Ok x
or_wrong None = Err f.WrongKind

-- a parameter has to be there, and no bytes, list, dictionary or node
abbrev pub param : Option Value → Answer Scalar
param (Some v) = or_wrong (scalar v)
param None = Err f.MissingParameter

abbrev pub term : Props → Props → Term → Answer Scalar
term params props m.Null = Ok s.Null
term params props (m.Bool b) = Ok (s.Bool b)
term params props (m.Int z) = Ok (s.Int z)
term params props (m.Text t) = Ok (s.Text t)
term params props (m.Param p) = param (at_key p params)
term params props (m.Prop k) = Ok (prop k props)

-- the terms from left to right, added to what stands before them
unfoldable pub added : Props → Props → Scalar → List Term → Answer Scalar
added params props x [] = Ok x
added params props x (t ∷ ts) = term params props t >>= λ y. plus x y >>= λ z. added params props z ts

unfoldable pub terms : Props → Props → List Term → Answer Scalar
terms params props [] = Ok s.Null
terms params props (t ∷ ts) = term params props t >>= λ x. added params props x ts

abbrev pub sum : Props → Props → Expr → Answer Scalar
sum params props e = terms params props e.terms

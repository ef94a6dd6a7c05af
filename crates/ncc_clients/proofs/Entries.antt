-- An entry is determined by its question: a step by its call, since its statement is what its source is parsed to.
use Rattle.std.proofs.Common.{◌≡◌, true, List, [], ◌∷◌, refl, ap, sym, ◌∙◌, subst}
use Rattle.std.specs.Prelude.{map, Result, Ok, Err}
use Rattle.std.proofs.Math.Path.{path_j}
use Rattle.std.proofs.Math.Bool.{Bool-set}
use Rattle.ncc_pack.specs.declared.value.Value.TheVariants as v
use Rattle.ncc_pack.specs.Fits.{fits}
use Rattle.ncc_cypher.specs.Parsed.{parsed}
use Rattle.ncc_store.specs.declared.step.Step.{Step}
use Rattle.ncc_store.specs.declared.call.Call.{Call}
use Rattle.ncc_store.specs.Exec.{call_of}
use Rattle.ncc_tx.specs.declared.entry.Entry.{Entry}
use Rattle.ncc_tx.specs.declared.entry.Entry.TheVariants as e
use Rattle.ncc_session.specs.Core.{leave_of}
use Rattle.ncc_session.specs.Question.{Row}

-- ---- a result is Ok in at most one way

-- the value of a result, or another one
abbrev value_or : {A E : Type 0} → A → Result A E → A
value_or a (Ok x) = x
value_or a (Err e) = a

abbrev ok : {A E : Type 0} → A → Result A E
ok a = Ok a

-- a path from a value of Ok comes from a path between the values
abbrev IsLifted : {A E : Type 0} (a : A) (x : Result A E) → Ok a ≡ x → Type 0
IsLifted {A} {E} a (Ok s) p = ap (λ (y : A). ok {A = A} {E = E} y) (ap (value_or a) p) ≡ p
IsLifted a (Err e) p = Unit {0}

lifted : {A E : Type 0} (a : A) (x : Result A E) (p : Ok a ≡ x) → IsLifted a x p
lifted a x p = path_j (λ y q. IsLifted a y q) refl p

abbrev Fiber : {A E : Type 0} → Result A E → Type 0
Fiber {A} x = (s : A) × (x ≡ Ok s)

moved : {A E : Type 0} (a s : A) (p : a ≡ s) → Path (Fiber (ok {A = A} {E = E} a)) (a, refl) (s, ap (λ (y : A). ok {A = A} {E = E} y) p)
moved {A} {E} a s p =
    path_j (λ (z : A) (q : a ≡ z). Path (Fiber (ok {A = A} {E = E} a)) (a, refl) (z, ap (λ (y : A). ok {A = A} {E = E} y) q)) refl p

whole : {A E : Type 0} (a : A) (u : Fiber (ok {A = A} {E = E} a)) → Path (Fiber (ok {A = A} {E = E} a)) (a, refl) u
whole {A} {E} a u =
    moved {A = A} {E = E} a u.0 (ap (value_or a) u.1)
    ∙ ap (λ (q : ok {A = A} {E = E} a ≡ Ok u.0). (u.0, q)) (lifted a (Ok u.0) u.1)

one_fiber : {A E : Type 0} (x : Result A E) (u w : Fiber x) → u ≡ w
one_fiber (Ok a) u w = sym (whole a u) ∙ whole a w
one_fiber (Err e) u w = absurd (let f : Err e ≡ Ok u.0 = u.1 in cc)

-- ---- a step, from its call

abbrev Reads : Call → Type 0
Reads call = Fiber (parsed call.source)

abbrev Fit : Call → Type 0
Fit call = fits (v.Dict call.params) ≡ true

abbrev made : (call : Call) → Reads call → Fit call → Step
made call u f = record { source = call.source; statement = u.0; params = call.params; reads = u.1; fits = f }

made_same : (call : Call) (u w : Reads call) (f g : Fit call) → made call u f ≡ made call w g
made_same call u w f g =
    ap (λ (x : Reads call). made call x f) (one_fiber (parsed call.source) u w)
    ∙ ap (λ (x : Fit call). made call w x) (Bool-set (fits (v.Dict call.params)) true f g)

made_by : (x y : Call) → x ≡ y → (u : Reads x) (f : Fit x) (w : Reads y) (g : Fit y) → made x u f ≡ made y w g
made_by x y h u f = subst (λ (z : Call). (w : Reads z) (g : Fit z) → made x u f ≡ made z w g) h (λ w g. made_same x u w f g)

same_step : (a b : Step) → call_of a ≡ call_of b → a ≡ b
same_step a b h = made_by (call_of a) (call_of b) h (a.statement, a.reads) a.fits (b.statement, b.reads) b.fits

same_steps : (xs ys : List Step) → map call_of xs ≡ map call_of ys → xs ≡ ys
same_steps [] [] h = refl
same_steps [] (y ∷ ys) h = absurd (cc)
same_steps (x ∷ xs) [] h = absurd (cc)
same_steps (x ∷ xs) (y ∷ ys) h =
    let first : call_of x ≡ call_of y = cc in
    let rest : map call_of xs ≡ map call_of ys = cc in
    ap (λ (s : Step). s ∷ xs) (same_step x y first) ∙ ap (λ (l : List Step). y ∷ l) (same_steps xs ys rest)

pub same_entry : (a b : Entry) → leave_of a ≡ leave_of b → a ≡ b
same_entry e.Noop e.Noop h = refl
same_entry e.Noop (e.Tx steps told) h = absurd (cc)
same_entry (e.Tx steps told) e.Noop h = absurd (cc)
same_entry (e.Tx steps told) (e.Tx others rows) h =
    let calls : map call_of steps ≡ map call_of others = cc in
    let told_same : told ≡ rows = cc in
    ap (λ (l : List Step). e.Tx l told) (same_steps steps others calls) ∙ ap (λ (l : List (List Row)). e.Tx others l) told_same

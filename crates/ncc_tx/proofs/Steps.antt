-- Steps and the calls that they are made of.
use Rattle.std.proofs.Common.{◌≡◌, ℕ, ◌+◌, suc, true, List, [], ◌∷◌, ◌++◌, length, map, Result, Ok, Err, refl, sym, ap, ◌∙◌}
use Rattle.std.proofs.Common.{append_assoc, subst, arith}
use Rattle.std.specs.Coded.{Coded-set, coded_result, coded×, coded_ℕ}
use mathlib.Core.Bool.{Bool-set}
use mathlib.Core.Path.{subst₂, subst₃}
use Rattle.std.proofs.lemmas.List.{length-append, map_push}
use Rattle.std.proofs.lemmas.Simd.{map-map}
use Rattle.ncc_pack.specs.declared.value.Value.{Value}
use Rattle.ncc_pack.specs.declared.value.Value.TheVariants as v
use Rattle.ncc_pack.specs.Fits.{fits}
use Rattle.ncc_cypher.specs.declared.tree.Statement.{Statement}
use Rattle.ncc_cypher.specs.declared.error.SyntaxKind.{SyntaxKind}
use Rattle.ncc_cypher.specs.contracts.tree.Statement as statement
use Rattle.ncc_cypher.specs.contracts.error.SyntaxKind as kind
use Rattle.ncc_cypher.specs.Parsed.{parsed}
use Rattle.ncc_store.specs.declared.call.Call.{Call}
use Rattle.ncc_store.specs.declared.step.Step.{Step}
use Rattle.ncc_store.specs.Exec.{call_of}
use Rattle.ncc_tx.specs.Spelled.{Parses, Fails, here, there, call_value, calls_value}

abbrev pub step_value : Step → Value
step_value s = call_value (call_of s)

pub steps_are : (steps : List Step) → calls_value (map call_of steps) ≡ v.List (map step_value steps)
steps_are steps = ap v.List (map-map call_value call_of steps)

-- one item of a list that is made of others
pub one_of : {A B : Type 0} (f : A → B) (front rest : List B) (x : B) (ys : List A) → front ++ x ∷ rest ≡ map f ys → (y : A) × (x ≡ f y)
one_of f [] rest x [] e = absurd cc
one_of f [] rest x (y ∷ ys) e = (y, cc)
one_of f (z ∷ zs) rest x [] e = absurd cc
one_of f (z ∷ zs) rest x (y ∷ ys) e = let t : zs ++ x ∷ rest ≡ map f ys = cc in one_of f zs rest x ys t

-- ---- steps that were parsed

abbrev Answer : Type 0
Answer = Result Statement (ℕ × SyntaxKind)

abbrev read_as : Statement → Answer
read_as s = Ok s

-- the first call that does not parse
pub stops : (steps : List Step) (c : Call) (rest : List Call) → (Parses c → ⊥) → Fails (length steps) (map call_of steps ++ c ∷ rest)
stops [] c rest none = here c rest none
stops (s ∷ ss) c rest none =
    let e : length ss + 1 ≡ suc (length ss) = omega arith in
    subst (λ (n : ℕ). Fails n (call_of s ∷ (map call_of ss ++ c ∷ rest))) e
    (there (length ss) (call_of s) (map call_of ss ++ c ∷ rest) (s.statement, s.reads) (stops ss c rest none))

-- the calls of steps all parse
pub none_stops : (front rest : List Call) (c : Call) (ss : List Step) → front ++ c ∷ rest ≡ map call_of ss → (Parses c → ⊥) → ⊥
none_stops front rest c ss e none =
    let o = one_of call_of front rest c ss e in
    none (o.0.statement, ap (λ (x : Call). parsed x.source) o.1 ∙ o.0.reads)

-- a source that goes wrong spells nothing
pub never : (c : Call) (source : List ℕ) (at : ℕ) (kind : SyntaxKind) → source ≡ c.source → parsed source ≡ Err (at, kind) → Parses c → ⊥
never c source at kind e wrong p =
    let both : read_as p.0 ≡ Err (at, kind) = sym p.1 ∙ ap parsed (sym e) ∙ wrong in
    cc

-- ---- the calls so far are parsed, and these are left

pub record Stands (calls : List Call) (steps : List Step) (left : List Call) (number : ℕ) : Type 0 where
  pub calls_are : map call_of steps ++ left ≡ calls
  pub number_is : number ≡ length steps

pub fails_here : (calls : List Call) (steps : List Step) (left rest : List Call) (number : ℕ) (c : Call) →
    Stands calls steps left number → left ≡ c ∷ rest → (Parses c → ⊥) → Fails number calls
fails_here calls steps left rest number c s is none =
    let e = ap (λ (t : List Call). map call_of steps ++ t) (sym is) ∙ s.calls_are in
    subst₂ Fails (sym s.number_is) e (stops steps c rest none)

pub none_here : (calls : List Call) (steps : List Step) (left rest : List Call) (number : ℕ) (c : Call) →
    Stands calls steps left number → left ≡ c ∷ rest → (Parses c → ⊥) → (ss : List Step) → map call_of ss ≡ calls → ⊥
none_here calls steps left rest number c s is none ss e =
    none_stops (map call_of steps) rest c ss (ap (λ (t : List Call). map call_of steps ++ t) (sym is) ∙ s.calls_are ∙ sym e) none

pub stands_more : (calls : List Call) (steps : List Step) (left rest : List Call) (number : ℕ) (c : Call) (source : List ℕ)
    (s : Step) (new : List Step) → Stands calls steps left number → left ≡ c ∷ rest → source ≡ c.source
    → (s.source ≡ source) × (s.params ≡ c.params) → new ≡ steps ++ s ∷ [] → Stands calls new rest (number + 1)
stands_more calls steps left rest number c source s new before is e parts more =
    let same : call_of s ≡ c = λ i. record { source = (parts.0 ∙ e) i; params = parts.1 i } in
    let all : map call_of (steps ++ s ∷ []) ++ rest ≡ calls = ap (λ (t : List Call). t ++ rest) (map_push call_of steps s)
    ∙ append_assoc (map call_of steps) (call_of s ∷ []) rest ∙ ap (λ (x : Call). map call_of steps ++ x ∷ rest) same
    ∙ ap (λ (t : List Call). map call_of steps ++ t) (sym is) ∙ before.calls_are in
    subst (λ (ss : List Step). Stands calls ss rest (number + 1)) (sym more) record {
      calls_are = all;
      number_is = omega (arith, before.number_is, length-append steps (s ∷ []));
    }

-- ---- steps with the same calls are the same

parts_same : (source : List ℕ) (told : Statement) (params : List (List ℕ
    × Value)) (p q : parsed source ≡ read_as told) (f g : fits (v.Dict params) ≡ true)
    → ◌≡◌ {A = Step} (record { source = source; statement = told; params = params; reads = p; fits = f }) (record {
      source = source;
      statement = told;
      params = params;
      reads = q;
      fits = g;
    })
parts_same source told params p q f g = λ i. record {
  source = source;
  statement = told;
  params = params;
  reads = Coded-set (coded_result statement.the_row.coded (coded× coded_ℕ kind.the_row.coded)) (parsed source) (read_as told) p q i;
  fits = Bool-set (fits (v.Dict params)) true f g i;
}

step_same : (a b : Step) → a.source ≡ b.source → a.statement ≡ b.statement → a.params ≡ b.params → a ≡ b
step_same a b e f g =
    subst₃ (λ (source : List ℕ) (statement : Statement) (params : List (List ℕ
    × Value)). (p : parsed source ≡ read_as statement) (q : fits (v.Dict params) ≡ true) →
    a ≡ record { source = source; statement = statement; params = params; reads = p; fits = q })
    e f g (λ p q. parts_same a.source a.statement a.params a.reads p a.fits q) b.reads b.fits

pub same_steps : (xs ys : List Step) → map call_of xs ≡ map call_of ys → xs ≡ ys
same_steps [] [] e = refl
same_steps [] (y ∷ ys) e = absurd cc
same_steps (x ∷ xs) [] e = absurd cc
same_steps (x ∷ xs) (y ∷ ys) e =
    let first : call_of x ≡ call_of y = cc in
    let rest : map call_of xs ≡ map call_of ys = cc in
    let source : x.source ≡ y.source = ap (λ (c : Call). c.source) first in
    let params : x.params ≡ y.params = ap (λ (c : Call). c.params) first in
    let both : read_as x.statement ≡ read_as y.statement = sym x.reads ∙ ap parsed source ∙ y.reads in
    let statement : x.statement ≡ y.statement = cc in
    let same = step_same x y source statement params in
    let others = same_steps xs ys rest in
    cc

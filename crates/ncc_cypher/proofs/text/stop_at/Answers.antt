use Rattle.std.proofs.Common.{◌≡◌, ◌≤◌, ◌∷◌, [], ℕ, List, false, length, get_or, drop, sym, ap, ◌∙◌, arith}
use Rattle.ncc_cypher.specs.Class.{escape, is_escape}
use Rattle.std.proofs.lemmas.List.{length-drop}
use Rattle.ncc_cypher.specs.Body.{body_at, with_front}
use Rattle.ncc_cypher.proofs.Runs.{is_backslash, nothing, at_quote, bad_escape, no_escape, good_escape}
use Rattle.ncc_cypher.proofs.text.stop_at.Goals as goal

pub returns-then-is_empty : goal.returns-then-is_empty
returns-then-is_empty c = nothing c.args.quote c.args.text.now (grind arith)

pub returns-then-bytes-quote : goal.returns-then-bytes-quote
returns-then-bytes-quote c = (rw c.past.ensures (at_quote c.args.quote c.args.text.now (grind arith) (grind arith)), c.past.utf8)

pub returns-then-bytes-lt2 : goal.returns-then-bytes-lt2
returns-then-bytes-lt2 c = no_escape c.args.quote c.args.text.now c.requires.quote (grind arith) (is_backslash c.args.quote _ (c.requires.stops (grind arith)) (grind arith))

pub returns-in-None : goal.returns-in-None
returns-in-None c = bad_escape c.args.quote c.args.text.now c.requires.quote (grind arith) (is_backslash c.args.quote _ (c.requires.stops (grind arith)) (grind arith)) (rw c.as_bytes-bytes.ensures.value at c.in-None.ensures)

pub returns-in-Some : goal.returns-in-Some
returns-in-Some c =
    let x : get_or c.as_bytes-bytes.result.now 1 0 ≡ get_or c.args.text.now 1 0 = ap (λ (z : List ℕ). get_or z 1 0) c.as_bytes-bytes.ensures.value in
    let e : c.in-Some.c.now ≡ escape (get_or c.args.text.now 1 0) ∷ [] = c.in-Some.ensures.1 ∙ ap (λ (z : ℕ). escape z ∷ []) x in
    let g : body_at c.args.quote false c.args.text.now ≡ with_front (escape (get_or c.args.text.now 1 0) ∷ []) (body_at c.args.quote false (drop 1 (drop 1 c.args.text.now))) =
    good_escape c.args.quote c.args.text.now c.requires.quote (grind arith) (is_backslash c.args.quote _ (c.requires.stops (grind arith)) (grind arith)) (ap is_escape (sym x) ∙ c.in-Some.ensures.0) in
    let d : c.past-in-Some-2.result.now ≡ drop 1 (drop 1 c.args.text.now) = c.past-in-Some-2.ensures ∙ ap (drop 1) c.past-in-Some.ensures in (
      g ∙ ap (λ (z : List ℕ). with_front z (body_at c.args.quote false (drop 1 (drop 1 c.args.text.now)))) (sym e) ∙ ap (λ (z : List ℕ). with_front c.in-Some.c.now (body_at c.args.quote false z)) (sym d),
      (let l : 2 ≤ length c.args.text.now = grind arith in omega (arith, ap length d, length-drop 1 (drop 1 c.args.text.now), length-drop 1 c.args.text.now)),
      c.past-in-Some-2.utf8,
    )

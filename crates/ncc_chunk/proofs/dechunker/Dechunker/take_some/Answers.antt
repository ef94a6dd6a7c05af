use Rattle.std.proofs.Common.{◌≡◌, ◌<◌, ◌≤◌, ◌∷◌, [], ℕ, List, length, take, get_or, refl, sym, ap, ◌∙◌, arith, length-take}
use Rattle.std.proofs.Math.Seq.{take-length}
use Rattle.std.proofs.lemmas.Result.{IfOk-weaker}
use Rattle.ncc_chunk.specs.Inflow.{Inflow}
use Rattle.ncc_chunk.specs.Keeping.{grown}
use Rattle.ncc_chunk.proofs.Steps.{step_first, step_body, step_stopped}
use Rattle.ncc_chunk.proofs.dechunker.Dechunker.take_some.Goals as goal

take_first : (xs : List ℕ) → 0 < length xs → take 1 xs ≡ get_or xs 0 0 ∷ []
take_first [] h = absurd (omega arith)
take_first (x ∷ xs) h = refl

pub returns-in-Between-clause-ok : goal.returns-in-Between-clause-ok
returns-in-Between-clause-ok c = rw (take_first c.args.piece.now c.requires, ← c.self.view_is) (step_first _ _ c.in-Between.is)

pub returns-in-InBody-clause-ok : goal.returns-in-InBody-clause-ok
returns-in-InBody-clause-ok c =
    let place = sym (ap (λ (s : Inflow). s.place) c.self.view_is) ∙ c.in-InBody.is in
    IfOk-weaker _ _ _ (λ (n : ℕ) (k : (n ≤ c.in-InBody.left)
    × (c.take_body.new.self ≡ grown c.args.self.now c.in-InBody.left (take n c.args.piece.now))). rw (k.1)
    (step_body c.args.self.now c.in-InBody.left (take n c.args.piece.now) place (let l = length-take n c.args.piece.now in
    let m = k.0 in omega arith))) c.take_body.ensures.ok

pub returns-in-Stopped-clause-ok : goal.returns-in-Stopped-clause-ok
returns-in-Stopped-clause-ok c =
    rw (take-length c.args.piece.now) (step_stopped c.args.self.now c.args.piece.now
    (sym (ap (λ (s : Inflow). s.place) c.self.view_is) ∙ c.in-Stopped.is))

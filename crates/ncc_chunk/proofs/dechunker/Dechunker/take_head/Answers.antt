use Rattle.std.proofs.Common.{◌≡◌, ◌+◌, ◌*◌, inl, inr, length, arith}
use Rattle.std.proofs.lemmas.Bool.{cases_lt}
use Rattle.std.proofs.lemmas.Result.{on_ok_weaker}
use Rattle.ncc_chunk.specs.Chunks.{limit, size_of}
use Rattle.ncc_chunk.specs.Keeping.{ended}
use Rattle.ncc_chunk.proofs.Steps.{step_end, step_long, step_size}
use Rattle.ncc_chunk.proofs.dechunker.Dechunker.take_head.Goals as goal

pub returns-then-size-eq0-clause-ok : goal.returns-then-size-eq0-clause-ok
returns-then-size-eq0-clause-ok c =
    on_ok_weaker _ (λ (e : c.end_message.new.self ≡ ended c.args.self.now). rw e
    (step_end c.args.self.now c.args.first c.args.second c.requires (omega arith))) c.end_message.ensures.ok

pub returns-clause-ok : goal.returns-clause-ok
returns-clause-ok c =
    let e = rw (← c.self.view_is) at c.requires in
    let size = c.from.result * 256 + c.from-2.result in
    let is : size ≡ size_of c.args.first c.args.second = omega arith in
    elim (cases_lt limit (length c.self.inside.body.items + size)) [
      | inl h ↦ rw (← c.self.view_is, c.place_after-self-inside.ensures.stopped (omega arith))
          (step_long _ c.args.first c.args.second e (omega arith))
      | inr h ↦ rw (← c.self.view_is, c.place_after-self-inside.ensures.body (omega arith))
          (step_size _ c.args.first c.args.second size e is (omega arith) (omega arith))
    ]

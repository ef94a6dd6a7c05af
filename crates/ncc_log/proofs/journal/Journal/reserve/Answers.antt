use Rattle.std.proofs.Common.{◌≡◌, ap, arith}
use Rattle.ncc_log.specs.Shown.{Shown}
use Rattle.ncc_log.proofs.journal.Journal.reserve.Goals as goal

pub returns-then-bytes-self-clause-far : goal.returns-then-bytes-self-clause-far
returns-then-bytes-self-clause-far g c = λ some far.
    let r = c.self.invariant.room (omega arith) in
    let same : c.self.inside.gate ≡ c.args.self.now.gate = ap (λ (x : Shown g.row.D.Denot). x.gate) c.self.view_is in
    absurd (omega (arith, r.file, same, far))

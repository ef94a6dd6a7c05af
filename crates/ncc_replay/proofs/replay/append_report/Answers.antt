use Rattle.std.proofs.Common.{◌≡◌, ◌++◌, OnOk, subst}
use Rattle.ncc_replay.specs.Progress.{IsRunOf}
use Rattle.ncc_replay.proofs.Spelling.{text_none, text_some}
use Rattle.ncc_replay.proofs.replay.append_report.Goals as goal

pub returns-in-None : goal.returns-in-None
returns-in-None c = λ s t is.
    subst (λ l. OnOk c.extend.result (c.extend.new.self ≡ c.args.into.now ++ l))
    (text_none s t (subst (λ w. IsRunOf w s t) c.in-None.is is).0) c.extend.ensures.ok

pub returns-in-Some : goal.returns-in-Some
returns-in-Some c = λ s t is.
    let run = subst (λ w. IsRunOf w s t) c.in-Some.is is in
    subst (λ l. OnOk c.report.result (c.report.new.into ≡ c.args.into.now ++ l)) (text_some s t c.in-Some.world.setup run.0 run.1 run.2)
    (c.report.ensures.appended run.0 run.3)

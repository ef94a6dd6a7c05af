use Rattle.std.proofs.Common.{◌++◌, ◌∙◌, ap, List, ℕ}
use Rattle.ncc_replay.specs.Report.{report_text}
use Rattle.ncc_replay.proofs.replay.report_script.Goals as goal

pub returns-in-Ok-append_report-clause-ok : goal.returns-in-Ok-append_report-clause-ok
returns-in-Ok-append_report-clause-ok c =
    let run = c.in-Ok.ensures.ok in (
      run.0,
      run.1,
      run.2,
      c.in-Ok-append_report.ensures run.0 run.1 run.3
          ∙ ap (λ (l : List ℕ). l ++ report_text run.0 run.1) c.new-bytes.ensures.empty,
    )

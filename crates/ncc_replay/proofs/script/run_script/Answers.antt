use Rattle.std.proofs.Common.{◌≡◌, ◌+◌, [], ◌∷◌, Err, ap, sym, ◌∙◌, subst, arith}
use Rattle.ncc_replay.specs.Script.{Lines, numbered}
use Rattle.ncc_replay.specs.Progress.{GoesOn, lines_from}
use Rattle.ncc_replay.specs.declared.script.ScriptError.TheVariants.{Bad, Limit}
use Rattle.ncc_replay.proofs.Scripts.{numbered_line, numbered_end, empty_is, error_is, all_read, no_header_read, no_cluster_read}
use Rattle.ncc_replay.proofs.script.run_script.Goals as goal

pub returns-in-Err-clause-bad : goal.returns-in-Err-clause-bad
returns-in-Err-clause-bad c = λ at cause h.
    let all : Lines = numbered c.args.text.now in
    let lines : lines_from (c.lines.number + 1) c.lines.rest.now ≡ (
      c.lines.number + 1,
      c.cut_line.result.0.now,
    ) ∷ lines_from (c.lines.number + 1 + 1) c.cut_line.result.1.now =
    numbered_line (c.lines.number + 1) c.lines.rest.now c.cut_line.result.0.now c.cut_line.result.1.now c.cut_line.ensures.lines in
    let here = subst (λ k. GoesOn all k c.lines.progress) lines c.lines.invariant.goes in
    c.in-Err.ensures.bad (Bad at cause) (ap Err (error_is c.in-Err.error (Bad at cause) h)) all
    (lines_from (c.lines.number + 1 + 1) c.cut_line.result.1.now) here

pub returns-in-Err-clause-limit : goal.returns-in-Err-clause-limit
returns-in-Err-clause-limit c = λ which h.
    let all : Lines = numbered c.args.text.now in
    let lines : lines_from (c.lines.number + 1) c.lines.rest.now ≡ (
      c.lines.number + 1,
      c.cut_line.result.0.now,
    ) ∷ lines_from (c.lines.number + 1 + 1) c.cut_line.result.1.now =
    numbered_line (c.lines.number + 1) c.lines.rest.now c.cut_line.result.0.now c.cut_line.result.1.now c.cut_line.ensures.lines in
    let here = subst (λ k. GoesOn all k c.lines.progress) lines c.lines.invariant.goes in
    c.in-Err.ensures.bad (Limit which) (ap Err (error_is c.in-Err.error (Limit which) h)) all
    (lines_from (c.lines.number + 1 + 1) c.cut_line.result.1.now) here

pub lines-preserved : goal.lines-preserved
lines-preserved c =
    let all : Lines = numbered c.args.text.now in
    let lines : lines_from (c.lines.number + 1) c.lines.rest.now ≡ (
      c.lines.number + 1,
      c.cut_line.result.0.now,
    ) ∷ lines_from (c.lines.number + 1 + 1) c.cut_line.result.1.now =
    numbered_line (c.lines.number + 1) c.lines.rest.now c.cut_line.result.0.now c.cut_line.result.1.now c.cut_line.ensures.lines in
    let here = subst (λ k. GoesOn all k c.lines.progress) lines c.lines.invariant.goes in
    record {
      goes = c.in-Ok.ensures.ok all (lines_from (c.lines.number + 1 + 1) c.cut_line.result.1.now) here;
      counted = omega (arith, c.lines.invariant.counted, c.cut_line.ensures.shorter);
    }

pub returns-in-Events-clause-ok : goal.returns-in-Events-clause-ok
returns-in-Events-clause-ok c =
    let all : Lines = numbered c.args.text.now in
    let none : lines_from (c.lines.number + 1) c.lines.rest.now ≡ [] =
    numbered_end (c.lines.number + 1) c.lines.rest.now (empty_is c.lines.rest.now (sym c.is_empty.ensures ∙ c.lines-test.false)) in
    let goes : GoesOn all [] c.lines.progress = subst (λ k. GoesOn all k c.lines.progress) none c.lines.invariant.goes in
    all_read all c.in-Events.count c.in-Events.world (subst (GoesOn all []) c.in-Events.is goes)

pub returns-in-Header-clause-ok : goal.returns-in-Header-clause-ok
returns-in-Header-clause-ok c =
    let all : Lines = numbered c.args.text.now in
    let none : lines_from (c.lines.number + 1) c.lines.rest.now ≡ [] =
    numbered_end (c.lines.number + 1) c.lines.rest.now (empty_is c.lines.rest.now (sym c.is_empty.ensures ∙ c.lines-test.false)) in
    let goes : GoesOn all [] c.lines.progress = subst (λ k. GoesOn all k c.lines.progress) none c.lines.invariant.goes in
    no_header_read all (subst (GoesOn all []) c.in-Header.is goes)

pub returns-in-Cluster-clause-ok : goal.returns-in-Cluster-clause-ok
returns-in-Cluster-clause-ok c =
    let all : Lines = numbered c.args.text.now in
    let none : lines_from (c.lines.number + 1) c.lines.rest.now ≡ [] =
    numbered_end (c.lines.number + 1) c.lines.rest.now (empty_is c.lines.rest.now (sym c.is_empty.ensures ∙ c.lines-test.false)) in
    let goes : GoesOn all [] c.lines.progress = subst (λ k. GoesOn all k c.lines.progress) none c.lines.invariant.goes in
    no_cluster_read all (subst (GoesOn all []) c.in-Cluster.is goes)

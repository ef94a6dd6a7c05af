use Rattle.std.proofs.Common.{◌≡◌, Some, None, IfSome, IfNone, ap, sym, subst, ◌∙◌}
use Rattle.std.specs.Str.{bytes_eq}
use Rattle.ncc_world.specs.Requests.{put_source}
use Rattle.ncc_replay.specs.Report.{parts_of}
use Rattle.ncc_replay.proofs.Spelling.{put_is, put_none, put_other}
use Rattle.ncc_replay.proofs.report.put_words.Goals as goal

pub returns-in_default-clause-none : goal.returns-in_default-clause-none
returns-in_default-clause-none c = put_none c.args.steps.now c.in_default.ensures.none

pub returns-then-not-is_put-clause-none : goal.returns-then-not-is_put-clause-none
returns-then-not-is_put-clause-none c =
    put_other c.args.steps.now c.in-Some.step.now c.in-Some.ensures.some
    (sym (c.is_put.ensures ∙ ap (λ l. bytes_eq l put_source) c.as_str.ensures.same) ∙ c.if-not-is_put.true)

pub returns-clause-some : goal.returns-clause-some
returns-clause-some c =
    let put = put_is c.args.steps.now c.in-Some.step.now c.in-Some.ensures.some
    (sym (c.is_put.ensures ∙ ap (λ l. bytes_eq l put_source) c.as_str.ensures.same) ∙ c.if-not-is_put.false) in
    let whole = put ∙ ap parts_of (sym c.as_slice.ensures.same) in
    subst (λ x. IfSome c.two_words.result (λ p. x ≡ Some (p.0.now, p.1.now))) (sym whole) c.two_words.ensures.some

pub returns-clause-none : goal.returns-clause-none
returns-clause-none c =
    let put = put_is c.args.steps.now c.in-Some.step.now c.in-Some.ensures.some
    (sym (c.is_put.ensures ∙ ap (λ l. bytes_eq l put_source) c.as_str.ensures.same) ∙ c.if-not-is_put.false) in
    let whole = put ∙ ap parts_of (sym c.as_slice.ensures.same) in
    subst (λ x. IfNone c.two_words.result (x ≡ None)) (sym whole) c.two_words.ensures.none

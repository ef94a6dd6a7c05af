use Rattle.std.proofs.Common.{sym, ap, ◌∙◌}
use Rattle.ncc_cypher.specs.Piece.{rest_of}
use Rattle.ncc_cypher.proofs.Runs.{stops, rest_run, rest_more}
use Rattle.ncc_cypher.proofs.text.past_body.Goals as goal

pub stop_at-requires-clause-stops : goal.stop_at-requires-clause-stops
stop_at-requires-clause-stops c = rw c.plain_split.ensures.back (stops c.args.quote c.loop-behind.rest.now)

pub returns-in-Quote-clause-value : goal.returns-in-Quote-clause-value
returns-in-Quote-clause-value c = sym (ap rest_of c.in-Quote.ensures.0) ∙ rest_run c.args.quote c.loop-behind.rest.now c.plain_split.result.1.now c.plain_split.ensures.back ∙ c.loop-behind.invariant.same

pub returns-in-Bad-clause-value : goal.returns-in-Bad-clause-value
returns-in-Bad-clause-value c = sym (ap rest_of c.in-Bad.ensures) ∙ rest_run c.args.quote c.loop-behind.rest.now c.plain_split.result.1.now c.plain_split.ensures.back ∙ c.loop-behind.invariant.same

pub loop-behind-preserved : goal.loop-behind-preserved
loop-behind-preserved c = record {
  same =
      rest_more c.args.quote c.in-Escape.field-0.now c.plain_split.result.1.now c.in-Escape.behind.now c.in-Escape.ensures.0
      ∙ rest_run c.args.quote c.loop-behind.rest.now c.plain_split.result.1.now c.plain_split.ensures.back ∙ c.loop-behind.invariant.same;
  text = c.in-Escape.ensures.2;
}

use Rattle.std.proofs.Common.{[], Some, None, false, sym, ◌∙◌}
use Rattle.ncc_cypher.specs.Body.{body_at}
use Rattle.ncc_cypher.proofs.Runs.{stops, so_far, quoted, with_more}
use Rattle.ncc_cypher.proofs.text.text_of.Goals as goal

pub stop_at-requires-clause-stops : goal.stop_at-requires-clause-stops
stop_at-requires-clause-stops c = rw c.plain_split.ensures.back (stops c.args.quote c.loop-out.rest.now)

pub returns-in-Quote-clause-value : goal.returns-in-Quote-clause-value
returns-in-Quote-clause-value c = quoted _ _ _ (so_far c.args.quote c.args.text.now c.loop-out.rest.now c.plain_split.result.0.now c.plain_split.result.1.now c.loop-out.out c.push_str.new.self (Some ([], c.in-Quote.behind.now)) c.loop-out.invariant.same c.plain_split.ensures.front c.plain_split.ensures.back c.in_ok-push_str.ensures.ok c.in-Quote.ensures.0)

pub returns-in-Bad-clause-value : goal.returns-in-Bad-clause-value
returns-in-Bad-clause-value c = so_far c.args.quote c.args.text.now c.loop-out.rest.now c.plain_split.result.0.now c.plain_split.result.1.now c.loop-out.out c.push_str.new.self None c.loop-out.invariant.same c.plain_split.ensures.front c.plain_split.ensures.back c.in_ok-push_str.ensures.ok c.in-Bad.ensures

pub loop-out-preserved : goal.loop-out-preserved
loop-out-preserved c = record {
  same =
      rw c.in_ok-push_str-in-Escape.ensures.ok (sym (with_more c.push_str.new.self c.in-Escape.c.now (body_at c.args.quote false c.in-Escape.behind.now)) ∙
      so_far c.args.quote c.args.text.now c.loop-out.rest.now c.plain_split.result.0.now c.plain_split.result.1.now c.loop-out.out c.push_str.new.self _ c.loop-out.invariant.same c.plain_split.ensures.front c.plain_split.ensures.back c.in_ok-push_str.ensures.ok c.in-Escape.ensures.0);
  text = c.in-Escape.ensures.2;
}

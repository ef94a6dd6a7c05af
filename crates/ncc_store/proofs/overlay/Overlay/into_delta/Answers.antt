use Rattle.std.proofs.Common.{◌≡◌, ℤ, ◌<ℤ◌, int_lt, [], ◌∷◌, ◌++◌, rules, arith, true, false, SFits, to_z-of_z, w64, sym, ap, ◌∙◌}
use Rattle.std.proofs.lemmas.Int.{ints}
use Rattle.ncc_store.proofs.Placed.{is_lt_true}
use Rattle.ncc_store.proofs.Least.{gives, over_base, least_base, entry_more, entry_none, gone_past_put, gone_on_more}
use Rattle.ncc_store.proofs.overlay.Overlay.into_delta.Goals as goal

pub returns-clause-applied : goal.returns-clause-applied
returns-clause-applied c =
    let fits : SFits w64 c.self.inside.next = search rules in
    let below : SFits w64 c.next-below.result = search rules in
    gives c.self.inside.base.now c.self.inside.next c.self.inside.written.entries c.args.self c.self.invariant c.self.view_is _ _
    c.loop-id.put c.loop-id.gone _ c.loop-id.id-iterator
    (to_z-of_z fits) (to_z-of_z below ∙ c.next-below.ensures.next) c.into_iter-id-iterator.ensures.into_iter_gives.0
    c.in-None.ensures.steps.0 c.loop-id.invariant.put c.loop-id.invariant.gone

pub returns-clause-over : goal.returns-clause-over
returns-clause-over c =
    let fits : SFits w64 c.self.inside.next = search rules in
    let below : SFits w64 c.next-below.result = search rules in
    over_base c.self.inside.base.now c.self.inside.next c.self.inside.written.entries c.args.self c.self.invariant c.self.view_is _ _
    c.loop-id.put c.loop-id.gone _ c.loop-id.id-iterator
    (to_z-of_z fits) (to_z-of_z below ∙ c.next-below.ensures.next) c.into_iter-id-iterator.ensures.into_iter_gives.0
    c.in-None.ensures.steps.0 c.loop-id.invariant.put c.loop-id.invariant.gone

pub returns-clause-least : goal.returns-clause-least
returns-clause-least c =
    let fits : SFits w64 c.self.inside.next = search rules in
    let below : SFits w64 c.next-below.result = search rules in
    least_base c.self.inside.base.now c.self.inside.next c.self.inside.written.entries c.args.self c.self.invariant c.self.view_is _ _
    c.loop-id.put c.loop-id.gone _ c.loop-id.id-iterator
    (to_z-of_z fits) (to_z-of_z below ∙ c.next-below.ensures.next) c.into_iter-id-iterator.ensures.into_iter_gives.0
    c.in-None.ensures.steps.0 c.loop-id.invariant.put c.loop-id.invariant.gone

pub loop-id-preserved-in-Continue-1 : goal.loop-id-preserved-in-Continue-1
loop-id-preserved-in-Continue-1 c =
    let step : c.loop-id.id-iterator ≡ (c.in-Some.id, c.in-Some.node) ∷ c.next.new.self = search rules in
    let other : c.has.result ≡ false = search rules in
    record {
      can_next = tt;
      finite = tt;
      put = entry_more c.self.inside.base.now c.loop-id.put c.push.new.self _ c.loop-id.id-iterator c.next.new.self c.in-Some.id
          c.in-Some.node c.in-Some-node.node step c.in-Some-node.is c.in_ok-push-in-Some-node.ensures.ok
          (λ u. let k : true ≡ false = sym (c.has.ensures.1 u) ∙ other in absurd (cc)) c.loop-id.invariant.put;
      gone = gone_past_put _ c.in-Some.id c.loop-id.gone _ c.loop-id.id-iterator c.next.new.self c.in-Some.node c.in-Some-node.node step
          c.in-Some-node.is c.loop-id.invariant.gone;
    }

pub loop-id-preserved-in-Continue-branch-2 : goal.loop-id-preserved-in-Continue-branch-2
loop-id-preserved-in-Continue-branch-2 c =
    let step : c.loop-id.id-iterator ≡ (c.in-Some.id, c.in-Some.node) ∷ c.next.new.self = search rules in
    let fits : SFits w64 c.in-Some.id = search rules in
    let below : SFits w64 c.next-below.result = search rules in
    let under : c.in-Some.id <ℤ c.next-below.result = omega (arith, ints) in
    let pushed : c.push-then-id-below.new.self ≡ c.loop-id.gone ++ c.in-Some.id ∷ [] = c.in_ok-push-in-None-node.ensures.ok
    ∙ ap (λ (i : ℤ). c.loop-id.gone ++ i ∷ []) (to_z-of_z fits) in
    record {
      can_next = tt;
      finite = tt;
      put = entry_none c.self.inside.base.now c.loop-id.put _ c.loop-id.id-iterator c.next.new.self c.in-Some.id c.in-Some.node step
          c.in-None-node.is c.loop-id.invariant.put;
      gone = gone_on_more _ c.in-Some.id c.loop-id.gone c.push-then-id-below.new.self _ c.loop-id.id-iterator c.next.new.self
          c.in-Some.node step c.in-None-node.is
          (ap (int_lt c.in-Some.id) (to_z-of_z below) ∙ is_lt_true c.in-Some.id c.next-below.result under) pushed c.loop-id.invariant.gone;
    }

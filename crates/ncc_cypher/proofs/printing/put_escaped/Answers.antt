use Rattle.std.proofs.Common.{◌≡◌, ◌<◌, ◌≤◌, ◌-◌, ◌++◌, ℕ, List, length, get_or, take, ap, ◌∙◌, arith}
use Rattle.ncc_cypher.proofs.Runs.{small_stop, stops}
use Rattle.ncc_cypher.proofs.Printed.{escape_step, escape_last, one_front}
use Rattle.ncc_cypher.proofs.printing.put_escaped.Goals as goal

pub returns-then-is_empty : goal.returns-then-is_empty
returns-then-is_empty c =
    let n : length c.plain_split.result.1.now ≡ 0 = grind arith in
    c.in_ok-push_str.ensures.ok ∙ ap (λ (z : List ℕ). c.loop-after.out ++ z) c.plain_split.ensures.front ∙ escape_last c.loop-after.rest.now c.loop-after.out c.plain_split.result.1.now c.plain_split.ensures.back n ∙ c.loop-after.invariant.same

pub past-after-requires-clause-ascii : goal.past-after-requires-clause-ascii
past-after-requires-clause-ascii c =
    let lt : 0 < length c.plain_split.result.1.now = grind arith in
    let b = c.plain_split.ensures.back in
    let k : get_or c.plain_split.result.1.now 0 0 ≤ 92 = small_stop 39 (get_or c.plain_split.result.1.now 0 0) (omega arith) (rw b (stops 39 c.loop-after.rest.now (rw b at lt))) in
    omega (arith, k)

pub before-requires : goal.before-requires
before-requires c =
    let lt : 0 < length c.plain_split.result.1.now = grind arith in
    rw c.past-after.ensures ((one_front c.plain_split.result.1.now lt).1)

pub loop-after-preserved : goal.loop-after-preserved
loop-after-preserved c =
    let lt : 0 < length c.plain_split.result.1.now = grind arith in
    let b = c.plain_split.ensures.back in
    let stop : c.before-in-loop-after.result.now ≡ take 1 c.plain_split.result.1.now = c.before-in-loop-after.ensures ∙ ap (λ (z : List ℕ). take (length c.plain_split.result.1.now - length z) c.plain_split.result.1.now) c.past-after.ensures ∙ (one_front c.plain_split.result.1.now lt).0 in
    record {
      same = rw (c.in_ok-push_str-3.ensures.ok, c.in_ok-push_str-2.ensures.ok, c.in_ok-push_str.ensures.ok, stop, c.past-after.ensures, c.plain_split.ensures.front, b) (escape_step c.loop-after.rest.now c.loop-after.out (rw b at lt) ∙ c.loop-after.invariant.same);
      text = c.past-after.utf8;
    }

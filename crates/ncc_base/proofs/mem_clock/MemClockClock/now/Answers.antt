use Rattle.std.proofs.Common.{◌≡◌, ◌+◌, ◌≤◌, ◌∷◌, [], take, ap, sym, subst, arith, rules}
use Rattle.ncc_base.specs.Clock.{Tells, last_of}
use Rattle.ncc_base.specs.MemClock.{Handed, all_told, last_told}
use Rattle.ncc_base.proofs.Moments.{last_is, next_no_less, tells_again}
use Rattle.ncc_base.proofs.mem_clock.MemClockClock.now.Goals as goal

pub returns-then-self-count-clause-last : goal.returns-then-self-count-clause-last
returns-then-self-count-clause-last c =
    let some = c.self.invariant.may.some in
    last_is c.self.inside.moments.items c.self.inside.given _ c.index.result.now (omega arith) (omega arith) c.index.ensures

pub returns-then-self-count-clause-no_less : goal.returns-then-self-count-clause-no_less
returns-then-self-count-clause-no_less c =
    let some = c.self.invariant.may.some in
    let last : last_of 0 (take c.self.inside.given c.self.inside.moments.items) ≡ c.index.result.now =
    last_is c.self.inside.moments.items c.self.inside.given _ c.index.result.now (omega arith) (omega arith) c.index.ensures in
    let old : last_told c.args.self.now ≡ last_of 0 (take c.self.inside.given c.self.inside.moments.items) =
    sym (ap last_told c.self.view_is) in
    omega (arith, old, last)

pub returns-then-self-count-clause-told : goal.returns-then-self-count-clause-told
returns-then-self-count-clause-told c =
    let some = c.self.invariant.may.some in
    let last : last_of 0 (take c.self.inside.given c.self.inside.moments.items) ≡ c.index.result.now =
    last_is c.self.inside.moments.items c.self.inside.given _ c.index.result.now (omega arith) (omega arith) c.index.ensures in
    let after : Handed =
    record { moments = c.self.inside.moments.items; given = c.self.inside.given; again = c.saturating_add-self-inside.result } in
    subst (λ (h : Handed). Tells (all_told h) (all_told after) (c.index.result.now ∷ [])) c.self.view_is
    (tells_again c.self.inside.moments.items c.self.inside.given c.self.inside.again _ c.index.result.now last (search rules)
    c.saturating_add-self-inside.ensures)

pub returns-clause-last : goal.returns-clause-last
returns-clause-last c =
    last_is c.self.inside.moments.items (c.self.inside.given + 1) c.self.inside.given c.index-moment.result.now
    (omega arith) (omega arith) c.index-moment.ensures

pub returns-clause-no_less : goal.returns-clause-no_less
returns-clause-no_less c =
    let old : last_told c.args.self.now ≡ last_of 0 (take c.self.inside.given c.self.inside.moments.items) =
    sym (ap last_told c.self.view_is) in
    let more = next_no_less c.self.inside.moments.items c.self.inside.given
    c.index-moment.result.now c.self.invariant.may (omega arith) c.index-moment.ensures in
    omega (arith, old, more)

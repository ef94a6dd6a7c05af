use Rattle.std.proofs.Common.{◌≡◌, ◌∙◌, ◌≤◌, [], Option, None, arith, length, ap, sym}
use Rattle.ncc_clients.specs.Links.{Link}
use Rattle.ncc_clients.specs.Drives.{down_at, driver_at}
use Rattle.ncc_clients.specs.Held.{waiting_on}
use Rattle.ncc_world.specs.Setting.{cluster_of}
use Rattle.ncc_world.proofs.Doing.{all_at, held_in, there_in, within_list}
use Rattle.ncc_world.specs.Drivers.{left_of}
use Rattle.ncc_world.proofs.Lessening.{held_short}
use Rattle.ncc_world.proofs.Moves.{moves_down, moves_none}
use Rattle.ncc_world.proofs.running.Running.pump_down.Goals as goal

pub returns-then-branch-clause-ok : goal.returns-then-branch-clause-ok
returns-then-branch-clause-ok c = λ r h.
    let s = c.args.setup.now in
    let at = c.args.index in
    let l = c.requires.live in
    let k = all_at s at c.args.self.now r h in
    let x = there_in s at [] [] c.args.self.now r at k (within_list s at [] l.pending c.args.self.now l.run at l.driver l.runs_mid l.there) in
    let held = held_in s at [] [] c.args.self.now r at x.0 k x.1 in
    let waits : None ≡ waiting_on x.0.link = c.requires.rests held.0 held.1 ∙ ap (λ (o : Option Link). waiting_on o) held.2.stands.link_is in
    let short = held_short held.0 x.0 (left_of at [] at) held.2.stands in
    let few : length (down_at (cluster_of s) r (driver_at r at)) ≤ 18446744073709551615 = omega (arith, c.in_ok-fall.ensures.small r h) in
    let y = c.in_ok-fall.ensures.ok r h in
    moves_down s c.args.line at 18446744073709551615 c.args.limit r x.0 c.fall.new.self x.1 short waits few y.0 (sym c.if-branch.true ∙ y.1) y.2

pub returns-else-branch-clause-ok : goal.returns-else-branch-clause-ok
returns-else-branch-clause-ok c = λ r h.
    let s = c.args.setup.now in
    let at = c.args.index in
    let l = c.requires.live in
    let k = all_at s at c.args.self.now r h in
    let x = there_in s at [] [] c.args.self.now r at k (within_list s at [] l.pending c.args.self.now l.run at l.driver l.runs_mid l.there) in
    let held = held_in s at [] [] c.args.self.now r at x.0 k x.1 in
    let waits : None ≡ waiting_on x.0.link = c.requires.rests held.0 held.1 ∙ ap (λ (o : Option Link). waiting_on o) held.2.stands.link_is in
    let few : length (down_at (cluster_of s) r (driver_at r at)) ≤ 18446744073709551615 = omega (arith, c.in_ok-fall.ensures.small r h) in
    let y = c.in_ok-fall.ensures.ok r h in
    moves_none s c.args.line at 18446744073709551615 c.args.limit r x.0 c.fall.new.self x.1 waits few (sym c.if-branch.false ∙ y.1) y.2

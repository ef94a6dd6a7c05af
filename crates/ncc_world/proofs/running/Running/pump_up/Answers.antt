use Rattle.std.proofs.Common.{◌≡◌, ◌∙◌, ℕ, [], Option, Some, ap, sym, subst}
use Rattle.ncc_clients.specs.Links.{Link}
use Rattle.ncc_clients.specs.Drives.{rises}
use Rattle.ncc_clients.specs.Held.{waiting_on}
use Rattle.ncc_world.specs.Setting.{cluster_of}
use Rattle.ncc_world.specs.Parts.{MovesOnce}
use Rattle.ncc_world.proofs.Doing.{all_at, at_all, held_in, there_in, within_list}
use Rattle.ncc_world.proofs.Moves.{moves_up}
use Rattle.ncc_world.proofs.running.Running.pump_up.Goals as goal

pub returns-clause-ok : goal.returns-clause-ok
returns-clause-ok c = λ r h.
    let s = c.args.setup.now in
    let at = c.args.index in
    let l = c.requires.live in
    let k = all_at s at c.args.self.now r h in
    let x = there_in s at [] [] c.args.self.now r at k (within_list s at [] l.pending c.args.self.now l.run at l.driver l.runs_mid l.there) in
    let held = held_in s at [] [] c.args.self.now r at x.0 k x.1 in
    let waits : Some c.args.waiting ≡ waiting_on x.0.link =
    c.requires.waits held.0 held.1 ∙ ap (λ (o : Option Link). waiting_on o) held.2.stands.link_is in
    let a = c.in_ok-rise_to.ensures.ok r [] k in
    let b = c.in_ok-settle_all.ensures.ok at [] [] (rises (cluster_of s) at c.args.limit r) a in
    subst (λ (next : Option (Option ℕ)). MovesOnce s c.args.line at c.args.limit r next c.settle_all.new.self) (sym c.left_after.ensures.exact)
    (moves_up s c.args.line at c.args.limit r b.0 x.0 c.args.waiting c.settle_all.new.self x.1 waits b.1 (at_all s at c.settle_all.new.self b.0 b.2))

use Rattle.std.proofs.Common.{◌+◌, ◌-◌, ◌∙◌, List, ap}
use Rattle.std.proofs.lemmas.Result.{on_ok_weaker}
use Rattle.ncc_wait.specs.declared.parked.Parked.{Parked}
use Rattle.ncc_wait.specs.Room.{is_parked, put, without}
use Rattle.ncc_world.specs.Parts.{drivers_in}
use Rattle.ncc_world.proofs.Rooms.{none_left}
use Rattle.ncc_world.proofs.Sessions.{sleeper_late, sleeper_ready, sleeps_kept, was_at}
use Rattle.ncc_world.proofs.drivers.Drivers.sleep.Goals as goal

pub park-requires : goal.park-requires
park-requires c =
    let number = c.args.index + 1 in
    record { apart = ap (λ (ps : List Parked). is_parked number ps) c.leave.ensures.rest ∙ none_left number c.args.self.now.sleepers }

pub park-requires-else-until-eq0 : goal.park-requires-else-until-eq0
park-requires-else-until-eq0 c =
    let number = c.args.index + 1 in
    record { apart = ap (λ (ps : List Parked). is_parked number ps) c.leave.ensures.rest ∙ none_left number c.args.self.now.sleepers }

pub returns-then-until-eq0-clause-ok : goal.returns-then-until-eq0-clause-ok
returns-then-until-eq0-clause-ok c = on_ok_weaker c.park.result (λ parked s now driving d left pending there awake w.
    let k = drivers_in c.args.self.now in
    let old = c.index_mut.result.now in
    let number = c.args.index + 1 in
    let was = was_at k.list c.args.index old c.requires.there c.index_mut.ensures.value in
    let first : Parked = record { conn = number; need = 0; deadline = 0 } in
    sleeps_kept s c.args.index left pending k now driving old c.sleep.new.self d c.args.until c.park.new.self was c.sleep.ensures.sleeps
    there awake (parked ∙ ap (put first) c.leave.ensures.rest
    ∙ ap (λ (p : Parked). put p (without number k.sleepers)) (sleeper_ready number c.args.until c.if-until-eq0.true)) w) c.park.ensures.ok

pub returns-else-until-eq0-clause-ok : goal.returns-else-until-eq0-clause-ok
returns-else-until-eq0-clause-ok c = on_ok_weaker c.park-else-until-eq0.result (λ parked s now driving d left pending there awake w.
    let k = drivers_in c.args.self.now in
    let old = c.index_mut.result.now in
    let number = c.args.index + 1 in
    let was = was_at k.list c.args.index old c.requires.there c.index_mut.ensures.value in
    let first : Parked = record { conn = number; need = 1; deadline = c.args.until - 1 } in
    sleeps_kept s c.args.index left pending k now driving old c.sleep.new.self d c.args.until c.park-else-until-eq0.new.self was
    c.sleep.ensures.sleeps there awake (parked ∙ ap (put first) c.leave.ensures.rest
    ∙ ap (λ (p : Parked). put p (without number k.sleepers)) (sleeper_late number c.args.until c.if-until-eq0.false)) w)
    c.park-else-until-eq0.ensures.ok

use Rattle.std.proofs.Common.{◌≡◌, ◌+◌, ◌-◌, ◌∙◌, ap, sym, length, arith, get_or, List, [], ℕ, Option, ◌<◌}
use Rattle.ncc_tx.specs.declared.entry.Item.{Item}
use Rattle.ncc_wait.specs.declared.outcomes.Outcome.{Outcome}
use Rattle.ncc_wait.specs.declared.parked.Parked.{Parked}
use Rattle.ncc_wait.specs.Room.{next}
use Rattle.ncc_world.specs.World.{parked_at}
use Rattle.ncc_world.specs.Setting.{lists_of}
use Rattle.ncc_world.specs.Parts.{lower, members_in, number_of}
use Rattle.ncc_world.proofs.Rooms.{get_or_any}
use Rattle.ncc_world.proofs.Seated.{shelves_count}
use Rattle.ncc_world.proofs.Firsts.{first_within, within_none, within_more, within_all}
use Rattle.ncc_world.proofs.running.Running.first.Goals as goal

pub loop-index-init : goal.loop-index-init
loop-index-init c = λ r k. within_none c.args.setup.now r _ k.clients.there

pub at-requires : goal.at-requires
at-requires c =
    let k = c.requires.live.runs_as in
    record {
      there = omega (
        arith,
        shelves_count c.args.setup.now (members_in c.args.self.now.members) c.requires.live.run.members c.requires.live.run.history k.members,
        k.clients.count_is,
        c.loop-index-test.true,
        ap length c.deref-room-items.ensures.value,
      );
    }

pub loop-index-preserved : goal.loop-index-preserved
loop-index-preserved c = λ r k.
    let within : c.loop-index.index < length (lists_of r.members) =
    omega (arith, k.clients.count_is, c.loop-index-test.true, ap length c.deref-room-items.ensures.value) in
    let back : c.loop-index.index + 1 - 1 ≡ c.loop-index.index = omega arith in
    let none : List Item = [] in
    let at : c.at.result ≡ length (get_or (lists_of r.members) (c.loop-index.index + 1 - 1) none) =
    c.at.ensures.at c.args.setup.now r.members r.history k.members ∙ ap (λ n. length (get_or (lists_of r.members) n none)) (sym back) in
    let room : c.room-item.result ≡ parked_at c.args.setup.now (c.loop-index.index + 1) r.clients =
    c.room-item.is ∙ get_or_any c.deref-room-items.result.now c.loop-index.index c.room-item.result [] c.loop-index-test.true
    ∙ ap (λ (x : List (List Parked)). get_or x c.loop-index.index []) c.deref-room-items.ensures.value
    ∙ k.clients.rooms c.loop-index.index within in
    c.lower-lowest.ensures
    ∙ ap (λ (o : Option (ℕ × Outcome)). lower c.loop-index.lowest (number_of o)) c.first.ensures.first
    ∙ ap (λ n. lower c.loop-index.lowest (number_of (next c.at.result n c.room-item.result))) k.now
    ∙ ap (λ (o : Option ℕ). lower o (number_of (next c.at.result r.now c.room-item.result))) (c.loop-index.invariant r k)
    ∙ within_more c.args.setup.now r (length (lists_of r.members)) c.at.result c.loop-index.index c.room-item.result at room k.clients.numbered
    k.clients.there

pub returns : goal.returns
returns c = record {
  first = λ r k.
      let all : c.loop-index.index ≡ length (lists_of r.members) =
      omega (arith, k.clients.count_is, c.loop-index-test.false, c.loop-index.auto.index-end, ap length c.deref-room-items.ensures.value) in
      c.loop-index.invariant r k ∙ ap (first_within c.args.setup.now r) all ∙ within_all c.args.setup.now r (length (lists_of r.members)) k.clients.there;
}

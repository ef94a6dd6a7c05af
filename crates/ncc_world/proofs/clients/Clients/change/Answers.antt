use Rattle.std.proofs.Common.{ℕ, ◌≡◌, ◌<◌, ◌≤◌, ◌+◌, ◌-◌, ◌^◌, min, ◌∙◌, ap, sym, length, arith, subst, List, get_or, Some}
use Rattle.std.specs.Prelude.{slice_set}
use Rattle.std.specs.List.{sum_by}
use Rattle.ncc_world.specs.declared.seen.ConnSeen.{ConnSeen}
use Rattle.ncc_world.specs.declared.served.Served.{Served}
use Rattle.std.proofs.lemmas.Map.Entries.{length-values_of}
use Rattle.std.specs.Map.{values_of}
use Rattle.indexmap.specs.IndexSet.{keys as set_keys}
use Rattle.std.proofs.lemmas.List.{length-map}
use Rattle.indexmap.specs.IndexMap.{keys, values, set_value_at, with_value_at}
use Rattle.indexmap.proofs.CallerLemmas.{keys-with_value_at, index_map_len-with_value_at}
use Rattle.std.proofs.lemmas.List.{get_or-set_same}
use Rattle.ncc_world.specs.World.{AreServed, IsClient, asked_by, parked_by, placing_of}
use Rattle.ncc_world.specs.Parts.{Lowers, changed, left_at, parked_anew, numbers_in}
use Rattle.ncc_world.proofs.Keeping.{clients_count, client_at, there_at, here_at, changed_same, changed_all}
use Rattle.ncc_world.proofs.Lowering.{lowers_all}
use Rattle.ncc_world.proofs.Living.{Marks}
use Rattle.ncc_world.proofs.Tables.{at_index, map_at, map_set, values_set}
use Rattle.ncc_world.proofs.clients.Clients.change.Goals as goal

pub index-requires-4 : goal.index-requires-4
index-requires-4 c =
    let m = c.args.self.now.table in
    let w = c.change_one-changed.new.served in
    omega (arith, c.requires.there, length-values_of m.entries, index_map_len-with_value_at m c.args.index w)

pub index_mut-requires-2 : goal.index_mut-requires-2
index_mut-requires-2 c =
    let k = c.requires.served in
    let n = clients_count k.setup _ _ k.clients k.are.each in
    omega (arith, n.table, n.seen, c.requires.there, ap length c.taken-list.ensures.same)

pub index-requires : goal.index-requires
index-requires c =
    let k = c.requires.served in
    let n = clients_count k.setup _ _ k.clients k.are.each in
    omega (arith, n.table, n.seen, c.requires.there, ap length c.taken-list.ensures.same)

pub index-requires-2 : goal.index-requires-2
index-requires-2 c =
    let k = c.requires.served in
    let n = clients_count k.setup _ _ k.clients k.are.each in
    omega (arith, n.table, n.seen, c.requires.there, ap length c.taken-list.ensures.same)

pub change_one-changed-requires : goal.change_one-changed-requires
change_one-changed-requires c =
    let v = c.index_mut.result.now in
    record {
      may = c.requires.may v c.index_mut.ensures.value;
    }

same_number : (a b m : ConnSeen) (low : 1 ≤ m.member) → a ≡ b → b.member ≡ m.member → 1 ≤ a.member
same_number a b m low e f = omega (arith, low, f, ap (λ (x : ConnSeen). x.member) e)

pub overflow_sub-seat : goal.overflow_sub-seat
overflow_sub-seat c =
    let k = c.requires.served in
    let n = clients_count k.setup _ _ k.clients k.are.each in
    let old = c.index_mut-2.result.now in
    let new = c.change_one-changed.new.seen in
    let h = here_at k.setup k.count _ k.clients c.args.index c.index_mut.result.now old k.are c.requires.there
    (at_index _ c.args.index c.index_mut.result.now c.index_mut.ensures.value)
    (c.index_mut-2.ensures.value ∙ ap (λ (l : List ConnSeen). get_or l c.args.index old) c.taken-list.ensures.same) in
    let same : c.index-2.result.now ≡ new =
    c.index-2.ensures ∙ get_or-set_same c.taken-list.result.items c.args.index new c.index-2.result.now
    (omega (arith, n.table, n.seen, c.requires.there, ap length c.taken-list.ensures.same)) in
    omega (arith, h.placed.low, h.is.kept.member, c.change_one-changed.ensures.member, ap (λ (x : ConnSeen). x.member) same)

pub index_mut-room-requires : goal.index_mut-room-requires
index_mut-room-requires c =
    let k = c.requires.served in
    let n = clients_count k.setup _ _ k.clients k.are.each in
    let old = c.index_mut-2.result.now in
    let new = c.change_one-changed.new.seen in
    let h = here_at k.setup k.count _ k.clients c.args.index c.index_mut.result.now old k.are c.requires.there
    (at_index _ c.args.index c.index_mut.result.now c.index_mut.ensures.value)
    (c.index_mut-2.ensures.value ∙ ap (λ (l : List ConnSeen). get_or l c.args.index old) c.taken-list.ensures.same) in
    let same : c.index-2.result.now ≡ new =
    c.index-2.ensures ∙ get_or-set_same c.taken-list.result.items c.args.index new c.index-2.result.now
    (omega (arith, n.table, n.seen, c.requires.there, ap length c.taken-list.ensures.same)) in
    omega (arith, h.placed.low, h.placed.high, h.is.kept.member, c.change_one-changed.ensures.member, ap (λ (x : ConnSeen). x.member) same, k.are.count_is)

pub index_mut-live-requires : goal.index_mut-live-requires
index_mut-live-requires c =
    let k = c.requires.served in
    let n = clients_count k.setup _ _ k.clients k.are.each in
    let old = c.index_mut-2.result.now in
    let new = c.change_one-changed.new.seen in
    let h = here_at k.setup k.count _ k.clients c.args.index c.index_mut.result.now old k.are c.requires.there
    (at_index _ c.args.index c.index_mut.result.now c.index_mut.ensures.value)
    (c.index_mut-2.ensures.value ∙ ap (λ (l : List ConnSeen). get_or l c.args.index old) c.taken-list.ensures.same) in
    let same : c.index-2.result.now ≡ new =
    c.index-2.ensures ∙ get_or-set_same c.taken-list.result.items c.args.index new c.index-2.result.now
    (omega (arith, n.table, n.seen, c.requires.there, ap length c.taken-list.ensures.same)) in
    omega (
      arith,
      h.placed.low,
      h.placed.high,
      h.is.kept.member,
      c.change_one-changed.ensures.member,
      ap (λ (x : ConnSeen). x.member) same,
      k.are.live_count,
      length-map c.args.self.now.live.items set_keys,
    )

pub index-requires-3 : goal.index-requires-3
index-requires-3 c =
    let k = c.requires.served in
    let n = clients_count k.setup _ _ k.clients k.are.each in
    omega (arith, n.table, n.seen, c.requires.there, ap length c.taken-list.ensures.same)

pub returns : goal.returns
returns c = record {
  ok = λ s count clients d a there e.
      let index = c.args.index in
      let v = c.index_mut.result.now in
      let old = c.index_mut-2.result.now in
      let w = c.change_one-changed.new.served in
      let shown = c.change_one-changed.new.seen in
      let room = c.index_mut-room.result.now in
      let m = c.args.self.now.table in
      let table = values m in
      let seen = c.args.self.now.seen in
      let rooms = c.args.self.now.rooms.items in
      let n = clients_count s table seen clients a.each in
      let within : index < length c.taken-list.result.items =
      omega (arith, n.table, n.seen, c.requires.there, ap length c.taken-list.ensures.same) in
      let e1 : c.index.result.now ≡ shown =
      c.index.ensures ∙ get_or-set_same c.taken-list.result.items index shown c.index.result.now within in
      let e2 : c.index-2.result.now ≡ shown =
      c.index-2.ensures ∙ get_or-set_same c.taken-list.result.items index shown c.index-2.result.now within in
      let wrote = values_set m.entries index w in
      let e5 : c.index-3.result.now ≡ shown =
      c.index-3.ensures ∙ get_or-set_same c.taken-list.result.items index shown c.index-3.result.now within in
      let e3 : c.index-4.result.now ≡ w =
      at_index (values_of (set_value_at m.entries index w)) index c.index-4.result.now c.index-4.ensures
      ∙ ap (λ (l : List Served). get_or l index c.index-4.result.now) (sym wrote)
      ∙ get_or-set_same table index w c.index-4.result.now c.requires.there in
      let list : c.from_vec.result ≡ slice_set seen index shown =
      c.from_vec.ensures.same ∙ ap (λ (l : List ConnSeen). slice_set l index shown) c.taken-list.ensures.same in
      let client : IsClient s v old d =
      client_at s table seen clients index v old d a.each there (at_index table index v c.index_mut.ensures.value)
      (c.index_mut-2.ensures.value ∙ ap (λ (l : List ConnSeen). get_or l index old) c.taken-list.ensures.same) in
      let placed = there_at _ clients index d a.there there in
      let may = c.requires.may v c.index_mut.ensures.value in
      let lives = c.args.self.now.live.items in
      let was = c.index_mut-live.result.now in
      let seat : shown.member ≡ d.member = c.change_one-changed.ensures.member ∙ client.kept.member in
      let within_live : shown.member - 1 < length lives =
      omega (arith, placed.low, placed.high, seat, a.live_count, length-map lives set_keys) in
      let was_at : was ≡ get_or lives (shown.member - 1) was =
      c.index_mut-live.ensures.value ∙ ap (λ (x : ConnSeen). get_or lives (x.member - 1) was) e2 in
      let marks : Marks shown.conn shown.ended (set_keys was) (set_keys c.mark.new.live) =
      subst (λ (x : ConnSeen). Marks x.conn shown.ended (set_keys was) (set_keys c.mark.new.live)) e1
      (subst (λ (x : ConnSeen). Marks c.index.result.now.conn x.ended (set_keys was) (set_keys c.mark.new.live)) e5 c.in_ok-mark.ensures.ok) in
      let all = changed_all s count _ clients index d (changed s c.args.now d c.args.what) w shown c.park.new.room room (set_keys c.mark.new.live)
      (set_keys was) c.args.wait a there
      placed (changed_same s c.args.now d c.args.what v.conn placed.placed may) (c.in_ok-changed.ensures.ok s d client) e
      (c.index_mut-room.ensures.value ∙ ap (λ (x : ConnSeen). get_or rooms (x.member - 1) room) e2)
      (c.in_ok-park.ensures.ok
      ∙ ap (λ (x : ConnSeen). parked_anew x.conn (parked_by x.conn (min (c.index-4.result.now.since + c.args.wait) (2 ^ 64 - 1))
      (placing_of c.index-4.result.now.placing) (asked_by c.index-4.result.now)) room) e1
      ∙ ap (λ (x : Served). parked_anew shown.conn (parked_by shown.conn (min (x.since + c.args.wait) (2 ^ 64 - 1)) (placing_of x.placing)
      (asked_by x)) room) e3)
      (map_at set_keys lives (shown.member - 1) was within_live was_at) marks in
      subst (λ (x : ConnSeen). AreServed s count (record {
        numbers = keys (with_value_at m index w);
        table = values (with_value_at m index w);
        seen = c.from_vec.result;
        rooms = slice_set rooms (x.member - 1) c.park.new.room;
        live = numbers_in (slice_set lives (x.member - 1) c.mark.new.live);
      }) (slice_set clients index (changed s c.args.now d c.args.what))) (sym e2)
      (subst (λ (l : List ConnSeen). AreServed s count (record {
        numbers = keys (with_value_at m index w);
        table = values (with_value_at m index w);
        seen = l;
        rooms = slice_set rooms (shown.member - 1) c.park.new.room;
        live = numbers_in (slice_set lives (shown.member - 1) c.mark.new.live);
      }) (slice_set clients index (changed s c.args.now d c.args.what))) (sym list)
      (subst (λ (l : List Served). AreServed s count (record {
        numbers = keys (with_value_at m index w);
        table = l;
        seen = slice_set seen index shown;
        rooms = slice_set rooms (shown.member - 1) c.park.new.room;
        live = numbers_in (slice_set lives (shown.member - 1) c.mark.new.live);
      }) (slice_set clients index (changed s c.args.now d c.args.what))) wrote
      (subst (λ (l : List ℕ). AreServed s count (record {
        numbers = l;
        table = slice_set table index w;
        seen = slice_set seen index shown;
        rooms = slice_set rooms (shown.member - 1) c.park.new.room;
        live = numbers_in (slice_set lives (shown.member - 1) c.mark.new.live);
      }) (slice_set clients index (changed s c.args.now d c.args.what))) (sym (keys-with_value_at m index w))
      (subst (λ (l : List (List ℕ)). AreServed s count (record {
        numbers = keys m;
        table = slice_set table index w;
        seen = slice_set seen index shown;
        rooms = slice_set rooms (shown.member - 1) c.park.new.room;
        live = l;
      }) (slice_set clients index (changed s c.args.now d c.args.what)))
      (sym (map_set set_keys lives (shown.member - 1) c.mark.new.live)) all))));
  lowers = λ v there.
      let index = c.args.index in
      let old = c.index_mut.result.now in
      let w = c.change_one-changed.new.served in
      let m = c.args.self.now.table in
      let both : Some old ≡ Some v = sym c.index_mut.ensures.value ∙ there in
      let same : old ≡ v = cc in
      subst (λ (x : Served). Lowers c.args.what x.placing (sum_by left_at (values m)) (sum_by left_at (values (with_value_at m index w)))) same
      (subst (λ (l : List Served). Lowers c.args.what old.placing (sum_by left_at (values m)) (sum_by left_at l)) (values_set m.entries index w)
      (lowers_all c.args.what (values m) index old w c.index_mut.ensures.value c.in_ok-changed.ensures.lowers));
}

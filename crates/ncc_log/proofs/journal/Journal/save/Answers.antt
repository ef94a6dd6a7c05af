use Rattle.std.proofs.Common.{◌≡◌, ◌∙◌, ◌+◌, ◌≤◌, false, length, sym, ap, arith}
use Rattle.ncc_tx.specs.Kept.{max_items, part_after, payload}
use Rattle.ncc_tx.proofs.ItemBytes.{all_fit}
use Rattle.ncc_log.specs.Saves.{BeforeOrAfter}
use Rattle.ncc_log.specs.Shown.{Shown}
use Rattle.ncc_log.proofs.Saving.{asked_is, body_long, done_is, read_is, readied, room_for, run_is, stopped_is, usable_is}
use Rattle.ncc_log.proofs.journal.Journal.save.Goals as goal

pub payload_len-size-requires : goal.payload_len-size-requires
payload_len-size-requires g c = record { fit = all_fit c.args.change.now.items c.requires.stands.entries }

pub returns-in_err-fill-clause-memory : goal.returns-in_err-fill-clause-memory
returns-in_err-fill-clause-memory g c e =
    let r = room_for g.D.Disk (record {
      disk = c.self-2.inside.disk;
      cluster = c.self-2.inside.cluster;
      member = c.self-2.inside.member;
      gate = c.self-2.inside.gate;
      room = c.self-2.inside.room;
      failed = c.self-2.inside.failed;
    })
    c.reserve.new.self _ c.payload_len-size.result c.args.change.now c.self-2.view_is c.self-2.invariant c.payload_len-size.ensures.length
    c.requires.stands.short c.in_ok-reserve.ensures.room in
    absurd (omega (arith, r.body, c.in_err-fill.ensures.full))

pub put_body-requires-clause-place : goal.put_body-requires-clause-place
put_body-requires-clause-place g c =
    let r = room_for g.D.Disk (record {
      disk = c.self-2.inside.disk;
      cluster = c.self-2.inside.cluster;
      member = c.self-2.inside.member;
      gate = c.self-2.inside.gate;
      room = c.self-2.inside.room;
      failed = c.self-2.inside.failed;
    })
    c.reserve.new.self _ c.payload_len-size.result c.args.change.now c.self-2.view_is c.self-2.invariant c.payload_len-size.ensures.length
    c.requires.stands.short c.in_ok-reserve.ensures.room in
    omega (arith, r.file)

pub put_body-requires-clause-calls : goal.put_body-requires-clause-calls
put_body-requires-clause-calls g c =
    let r = room_for g.D.Disk (record {
      disk = c.self-2.inside.disk;
      cluster = c.self-2.inside.cluster;
      member = c.self-2.inside.member;
      gate = c.self-2.inside.gate;
      room = c.self-2.inside.room;
      failed = c.self-2.inside.failed;
    })
    c.reserve.new.self _ c.payload_len-size.result c.args.change.now c.self-2.view_is c.self-2.invariant c.payload_len-size.ensures.length
    c.requires.stands.short c.in_ok-reserve.ensures.room in
    r.calls_left

pub put_body-requires-clause-bytes : goal.put_body-requires-clause-bytes
put_body-requires-clause-bytes g c =
    let r = room_for g.D.Disk (record {
      disk = c.self-2.inside.disk;
      cluster = c.self-2.inside.cluster;
      member = c.self-2.inside.member;
      gate = c.self-2.inside.gate;
      room = c.self-2.inside.room;
      failed = c.self-2.inside.failed;
    })
    c.reserve.new.self _ c.payload_len-size.result c.args.change.now c.self-2.view_is c.self-2.invariant c.payload_len-size.ensures.length
    c.requires.stands.short c.in_ok-reserve.ensures.room in
    omega (arith, r.bytes_left, body_long c.args.change.now c.as_slice.result.now (c.as_slice.ensures.value ∙ c.in_ok-fill.ensures.ok))

pub returns-in_err-put_body-clause-any_moment : goal.returns-in_err-put_body-clause-any_moment
returns-in_err-put_body-clause-any_moment g c h told s saves =
    let few : c.args.change.now.keep + length c.args.change.now.items ≤ max_items =
    omega (arith, c.if-change-gt-MAX_ITEMS.false, c.if-count-change.false, c.len-count.ensures.length) in
    let sound : c.args.self.now.failed ≡ false = sym (ap (λ (s : Shown g.row.D.Denot). s.failed) c.self.view_is) ∙ c.if-self.false in
    let m : Shown g.row.D.Denot = (record {
      disk = c.self-2.inside.disk;
      cluster = c.self-2.inside.cluster;
      member = c.self-2.inside.member;
      gate = c.self-2.inside.gate;
      room = c.self-2.inside.room;
      failed = c.self-2.inside.failed;
    }) in
    let r = readied g.D.Disk c.args.self.now m c.reserve.new.self _ c.args.change.now c.self-2.view_is c.reserve.ensures.same
    c.reserve.ensures.disk c.self-2.invariant sound c.requires.follows few in
    let is = c.as_slice.ensures.value ∙ c.in_ok-fill.ensures.ok in
    run_is g.D.Disk c.args.self.now m c.args.change.now r
    c.as_slice.result.now c.put_body.new.disk is told
    (c.put_body.ensures.any_moment told) s saves

pub returns-in_err-put_body-clause-read : goal.returns-in_err-put_body-clause-read
returns-in_err-put_body-clause-read g c h told s saves =
    let few : c.args.change.now.keep + length c.args.change.now.items ≤ max_items =
    omega (arith, c.if-change-gt-MAX_ITEMS.false, c.if-count-change.false, c.len-count.ensures.length) in
    let sound : c.args.self.now.failed ≡ false = sym (ap (λ (s : Shown g.row.D.Denot). s.failed) c.self.view_is) ∙ c.if-self.false in
    let m : Shown g.row.D.Denot = (record {
      disk = c.self-2.inside.disk;
      cluster = c.self-2.inside.cluster;
      member = c.self-2.inside.member;
      gate = c.self-2.inside.gate;
      room = c.self-2.inside.room;
      failed = c.self-2.inside.failed;
    }) in
    let r = readied g.D.Disk c.args.self.now m c.reserve.new.self _ c.args.change.now c.self-2.view_is c.reserve.ensures.same
    c.reserve.ensures.disk c.self-2.invariant sound c.requires.follows few in
    let is = c.as_slice.ensures.value ∙ c.in_ok-fill.ensures.ok in
    read_is g.D.Disk c.args.self.now.disk c.put_body.new.disk
    (BeforeOrAfter c.args.self.now.cluster c.args.self.now.member s (part_after s c.args.change.now)) told g.met.D.Disk.counts_now
    g.met.D.Disk.seen_may_be_left (run_is g.D.Disk c.args.self.now m c.args.change.now r
    c.as_slice.result.now c.put_body.new.disk is told (c.put_body.ensures.any_moment told) s saves)

pub returns-in_err-put_body-clause-stopped : goal.returns-in_err-put_body-clause-stopped
returns-in_err-put_body-clause-stopped g c h e told =
    let few : c.args.change.now.keep + length c.args.change.now.items ≤ max_items =
    omega (arith, c.if-change-gt-MAX_ITEMS.false, c.if-count-change.false, c.len-count.ensures.length) in
    let sound : c.args.self.now.failed ≡ false = sym (ap (λ (s : Shown g.row.D.Denot). s.failed) c.self.view_is) ∙ c.if-self.false in
    let m : Shown g.row.D.Denot = (record {
      disk = c.self-2.inside.disk;
      cluster = c.self-2.inside.cluster;
      member = c.self-2.inside.member;
      gate = c.self-2.inside.gate;
      room = c.self-2.inside.room;
      failed = c.self-2.inside.failed;
    }) in
    let r = readied g.D.Disk c.args.self.now m c.reserve.new.self _ c.args.change.now c.self-2.view_is c.reserve.ensures.same
    c.reserve.ensures.disk c.self-2.invariant sound c.requires.follows few in
    let is = c.as_slice.ensures.value ∙ c.in_ok-fill.ensures.ok in
    stopped_is g.D.Disk c.args.self.now m c.args.change.now r
    c.as_slice.result.now c.put_body.new.disk is g.met.D.Disk.went_on told (c.in_err-put_body.ensures.stopped told)

pub returns-in_err-put_body-clause-far : goal.returns-in_err-put_body-clause-far
returns-in_err-put_body-clause-far g c h few far =
    let r = room_for g.D.Disk (record {
      disk = c.self-2.inside.disk;
      cluster = c.self-2.inside.cluster;
      member = c.self-2.inside.member;
      gate = c.self-2.inside.gate;
      room = c.self-2.inside.room;
      failed = c.self-2.inside.failed;
    })
    c.reserve.new.self _ c.payload_len-size.result c.args.change.now c.self-2.view_is c.self-2.invariant c.payload_len-size.ensures.length
    c.requires.stands.short c.in_ok-reserve.ensures.room in
    let gate : c.self-2.inside.gate ≡ c.args.self.now.gate =
    ap (λ (s : Shown g.row.D.Denot). s.gate) c.self-2.view_is ∙ c.reserve.ensures.same.gate in
    absurd (omega (arith, r.file, gate, far))

pub overflow_add-self-2 : goal.overflow_add-self-2
overflow_add-self-2 g c =
    let r = room_for g.D.Disk (record {
      disk = c.self-2.inside.disk;
      cluster = c.self-2.inside.cluster;
      member = c.self-2.inside.member;
      gate = c.self-2.inside.gate;
      room = c.self-2.inside.room;
      failed = c.self-2.inside.failed;
    })
    c.reserve.new.self _ c.payload_len-size.result c.args.change.now c.self-2.view_is c.self-2.invariant c.payload_len-size.ensures.length
    c.requires.stands.short c.in_ok-reserve.ensures.room in
    let long : c.payload_len-size.result ≡ length (payload c.args.change.now) =
    omega (arith, c.payload_len-size.ensures.length, c.requires.stands.short) in
    omega (arith, r.file, long)

pub invariant_of-self-2 : goal.invariant_of-self-2
invariant_of-self-2 g c =
    let few : c.args.change.now.keep + length c.args.change.now.items ≤ max_items =
    omega (arith, c.if-change-gt-MAX_ITEMS.false, c.if-count-change.false, c.len-count.ensures.length) in
    let sound : c.args.self.now.failed ≡ false = sym (ap (λ (s : Shown g.row.D.Denot). s.failed) c.self.view_is) ∙ c.if-self.false in
    let m : Shown g.row.D.Denot = (record {
      disk = c.self-2.inside.disk;
      cluster = c.self-2.inside.cluster;
      member = c.self-2.inside.member;
      gate = c.self-2.inside.gate;
      room = c.self-2.inside.room;
      failed = c.self-2.inside.failed;
    }) in
    let r = readied g.D.Disk c.args.self.now m c.reserve.new.self _ c.args.change.now c.self-2.view_is c.reserve.ensures.same
    c.reserve.ensures.disk c.self-2.invariant sound c.requires.follows few in
    let is = c.as_slice.ensures.value ∙ c.in_ok-fill.ensures.ok in
    let long : c.payload_len-size.result ≡ length (payload c.args.change.now) =
    omega (arith, c.payload_len-size.ensures.length, c.requires.stands.short) in
    usable_is g.D.Disk c.args.self.now m c.args.change.now r
    c.as_slice.result.now c.put_body.new.disk is c.payload_len-size.result _ long
    c.in_ok-put_body.ensures.done c.in_ok-put_body.ensures.kept

pub returns-clause-done : goal.returns-clause-done
returns-clause-done g c told s saves =
    let few : c.args.change.now.keep + length c.args.change.now.items ≤ max_items =
    omega (arith, c.if-change-gt-MAX_ITEMS.false, c.if-count-change.false, c.len-count.ensures.length) in
    let sound : c.args.self.now.failed ≡ false = sym (ap (λ (s : Shown g.row.D.Denot). s.failed) c.self.view_is) ∙ c.if-self.false in
    let m : Shown g.row.D.Denot = (record {
      disk = c.self-2.inside.disk;
      cluster = c.self-2.inside.cluster;
      member = c.self-2.inside.member;
      gate = c.self-2.inside.gate;
      room = c.self-2.inside.room;
      failed = c.self-2.inside.failed;
    }) in
    let r = readied g.D.Disk c.args.self.now m c.reserve.new.self _ c.args.change.now c.self-2.view_is c.reserve.ensures.same
    c.reserve.ensures.disk c.self-2.invariant sound c.requires.follows few in
    let is = c.as_slice.ensures.value ∙ c.in_ok-fill.ensures.ok in
    done_is g.D.Disk c.args.self.now m c.args.change.now r
    c.as_slice.result.now c.put_body.new.disk is told
    (c.in_ok-put_body.ensures.done told) s saves

pub returns-clause-any_moment : goal.returns-clause-any_moment
returns-clause-any_moment g c h told s saves =
    let few : c.args.change.now.keep + length c.args.change.now.items ≤ max_items =
    omega (arith, c.if-change-gt-MAX_ITEMS.false, c.if-count-change.false, c.len-count.ensures.length) in
    let sound : c.args.self.now.failed ≡ false = sym (ap (λ (s : Shown g.row.D.Denot). s.failed) c.self.view_is) ∙ c.if-self.false in
    let m : Shown g.row.D.Denot = (record {
      disk = c.self-2.inside.disk;
      cluster = c.self-2.inside.cluster;
      member = c.self-2.inside.member;
      gate = c.self-2.inside.gate;
      room = c.self-2.inside.room;
      failed = c.self-2.inside.failed;
    }) in
    let r = readied g.D.Disk c.args.self.now m c.reserve.new.self _ c.args.change.now c.self-2.view_is c.reserve.ensures.same
    c.reserve.ensures.disk c.self-2.invariant sound c.requires.follows few in
    let is = c.as_slice.ensures.value ∙ c.in_ok-fill.ensures.ok in
    run_is g.D.Disk c.args.self.now m c.args.change.now r
    c.as_slice.result.now c.put_body.new.disk is told
    (c.put_body.ensures.any_moment told) s saves

pub returns-clause-read : goal.returns-clause-read
returns-clause-read g c h told s saves =
    let few : c.args.change.now.keep + length c.args.change.now.items ≤ max_items =
    omega (arith, c.if-change-gt-MAX_ITEMS.false, c.if-count-change.false, c.len-count.ensures.length) in
    let sound : c.args.self.now.failed ≡ false = sym (ap (λ (s : Shown g.row.D.Denot). s.failed) c.self.view_is) ∙ c.if-self.false in
    let m : Shown g.row.D.Denot = (record {
      disk = c.self-2.inside.disk;
      cluster = c.self-2.inside.cluster;
      member = c.self-2.inside.member;
      gate = c.self-2.inside.gate;
      room = c.self-2.inside.room;
      failed = c.self-2.inside.failed;
    }) in
    let r = readied g.D.Disk c.args.self.now m c.reserve.new.self _ c.args.change.now c.self-2.view_is c.reserve.ensures.same
    c.reserve.ensures.disk c.self-2.invariant sound c.requires.follows few in
    let is = c.as_slice.ensures.value ∙ c.in_ok-fill.ensures.ok in
    read_is g.D.Disk c.args.self.now.disk c.put_body.new.disk
    (BeforeOrAfter c.args.self.now.cluster c.args.self.now.member s (part_after s c.args.change.now)) told g.met.D.Disk.counts_now
    g.met.D.Disk.seen_may_be_left (run_is g.D.Disk c.args.self.now m c.args.change.now r
    c.as_slice.result.now c.put_body.new.disk is told (c.put_body.ensures.any_moment told) s saves)

pub returns-clause-asked : goal.returns-clause-asked
returns-clause-asked g c told =
    let few : c.args.change.now.keep + length c.args.change.now.items ≤ max_items =
    omega (arith, c.if-change-gt-MAX_ITEMS.false, c.if-count-change.false, c.len-count.ensures.length) in
    let sound : c.args.self.now.failed ≡ false = sym (ap (λ (s : Shown g.row.D.Denot). s.failed) c.self.view_is) ∙ c.if-self.false in
    let m : Shown g.row.D.Denot = (record {
      disk = c.self-2.inside.disk;
      cluster = c.self-2.inside.cluster;
      member = c.self-2.inside.member;
      gate = c.self-2.inside.gate;
      room = c.self-2.inside.room;
      failed = c.self-2.inside.failed;
    }) in
    let r = readied g.D.Disk c.args.self.now m c.reserve.new.self _ c.args.change.now c.self-2.view_is c.reserve.ensures.same
    c.reserve.ensures.disk c.self-2.invariant sound c.requires.follows few in
    let is = c.as_slice.ensures.value ∙ c.in_ok-fill.ensures.ok in
    asked_is g.D.Disk c.args.self.now m c.args.change.now r
    c.as_slice.result.now c.put_body.new.disk is g.met.D.Disk.went_on told
    (c.in_ok-put_body.ensures.asked told)

pub returns-clause-far : goal.returns-clause-far
returns-clause-far g c h few far =
    let r = room_for g.D.Disk (record {
      disk = c.self-2.inside.disk;
      cluster = c.self-2.inside.cluster;
      member = c.self-2.inside.member;
      gate = c.self-2.inside.gate;
      room = c.self-2.inside.room;
      failed = c.self-2.inside.failed;
    })
    c.reserve.new.self _ c.payload_len-size.result c.args.change.now c.self-2.view_is c.self-2.invariant c.payload_len-size.ensures.length
    c.requires.stands.short c.in_ok-reserve.ensures.room in
    let gate : c.self-2.inside.gate ≡ c.args.self.now.gate =
    ap (λ (s : Shown g.row.D.Denot). s.gate) c.self-2.view_is ∙ c.reserve.ensures.same.gate in
    absurd (omega (arith, r.file, gate, far))

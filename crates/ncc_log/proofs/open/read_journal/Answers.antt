use Rattle.std.proofs.Common.{◌≡◌, ℕ, List, ◌++◌, refl, take, drop, ◌∙◌, sym, ap, subst, arith}
use Rattle.ncc_log.specs.Header.{header, header_fault}
use Rattle.ncc_log.specs.declared.error.JournalError.TheVariants.{DiskFault, Full}
use Rattle.ncc_log.proofs.Moments.{looks_on}
use Rattle.ncc_log.proofs.Opened.{fault_of, fault_refuses, not_of, read_ready, read_refuses, read_saves, right_behind, right_long}
use Rattle.ncc_log.proofs.open.read_journal.Goals as goal

pub returns-in_err-look-clause-looks : goal.returns-in_err-look-clause-looks
returns-in_err-look-clause-looks g c =
    looks_on g.D.Disk g.met.D.Disk.went_on c.args.disk.now c.length_of.new.disk c.look.new.disk c.length_of.ensures.looks
    c.look.ensures.looks

pub returns-in-Some-clause-looks : goal.returns-in-Some-clause-looks
returns-in-Some-clause-looks g c =
    looks_on g.D.Disk g.met.D.Disk.went_on c.args.disk.now c.length_of.new.disk c.look.new.disk c.length_of.ensures.looks
    c.look.ensures.looks

pub returns-then-file-clause-looks : goal.returns-then-file-clause-looks
returns-then-file-clause-looks g c =
    looks_on g.D.Disk g.met.D.Disk.went_on c.args.disk.now c.length_of.new.disk c.look.new.disk c.length_of.ensures.looks
    c.look.ensures.looks

pub returns-clause-looks : goal.returns-clause-looks
returns-clause-looks g c =
    looks_on g.D.Disk g.met.D.Disk.went_on c.args.disk.now c.look.new.disk c.read_records.new.disk
    (looks_on g.D.Disk g.met.D.Disk.went_on c.args.disk.now c.length_of.new.disk c.look.new.disk c.length_of.ensures.looks
    c.look.ensures.looks) c.read_records.ensures.looks

-- ---- the header is wrong

pub returns-in-Some-clause-refused : goal.returns-in-Some-clause-refused
returns-in-Some-clause-refused g c told =
    fault_refuses c.args.cluster c.args.member (g.D.Disk.seen c.args.disk.now) c.in-Some.error
    (c.in-Some.ensures.fault ∙ ap (header_fault c.args.cluster c.args.member) (c.part.ensures ∙ c.in_ok-look.ensures.there told
    ∙ ap (take 15) (c.length_of.ensures.looks.stays told).seen))

pub returns-in-Some-clause-not_full : goal.returns-in-Some-clause-not_full
returns-in-Some-clause-not_full g c = λ is.
    let same : c.in-Some.error ≡ Full = cc in
    not_of c.in-Some.error Full (fault_of c.args.cluster c.args.member c.part.result.now c.in-Some.error c.in-Some.ensures.fault)
    (λ h. h) same

pub returns-in-Some-clause-failed : goal.returns-in-Some-clause-failed
returns-in-Some-clause-failed g c = λ is.
    let same : c.in-Some.error ≡ DiskFault = cc in
    absurd (not_of c.in-Some.error DiskFault
    (fault_of c.args.cluster c.args.member c.part.result.now c.in-Some.error c.in-Some.ensures.fault) (λ h. h) same)

pub returns-in-Some-clause-calm : goal.returns-in-Some-clause-calm
returns-in-Some-clause-calm g c = λ calm is.
    let same : c.in-Some.error ≡ DiskFault = cc in
    not_of c.in-Some.error DiskFault
    (fault_of c.args.cluster c.args.member c.part.result.now c.in-Some.error c.in-Some.ensures.fault) (λ h. h) same

-- ---- it is right

pub returns-then-file-clause-refused : goal.returns-then-file-clause-refused
returns-then-file-clause-refused g c = λ told.
    let head : c.part.result.now ≡ take 15 (g.D.Disk.seen c.args.disk.now) = c.part.ensures ∙ c.in_ok-look.ensures.there told
    ∙ ap (take 15) (c.length_of.ensures.looks.stays told).seen in
    absurd (omega (
      arith,
      c.if-file.true,
      c.in_ok-file.ensures.length told,
      right_long c.args.cluster c.args.member (g.D.Disk.seen c.args.disk.now)
          (sym (c.in_default.ensures.fault ∙ ap (header_fault c.args.cluster c.args.member) head)),
    ))

pub returns-clause-refused : goal.returns-clause-refused
returns-clause-refused g c =
    read_refuses g.D.Disk c.args.disk.now c.look.new.disk c.read_records.new.disk c.args.cluster c.args.member
    (looks_on g.D.Disk g.met.D.Disk.went_on c.args.disk.now c.length_of.new.disk c.look.new.disk c.length_of.ensures.looks
    c.look.ensures.looks) c.read_records.result
    (λ told. sym (c.in_default.ensures.fault ∙ ap (header_fault c.args.cluster c.args.member) (c.part.ensures
    ∙ c.in_ok-look.ensures.there told ∙ ap (take 15) (c.length_of.ensures.looks.stays told).seen)))
    c.read_records.ensures.broken c.read_records.ensures.which

pub returns-clause-ok : goal.returns-clause-ok
returns-clause-ok g c =
    read_saves g.D.Disk c.args.disk.now c.look.new.disk c.read_records.new.disk c.args.cluster c.args.member
    (looks_on g.D.Disk g.met.D.Disk.went_on c.args.disk.now c.length_of.new.disk c.look.new.disk c.length_of.ensures.looks
    c.look.ensures.looks) c.read_records.result
    (λ told. right_behind c.args.cluster c.args.member (g.D.Disk.seen c.args.disk.now)
    (subst (λ (l : List ℕ). l ≡ header c.args.cluster c.args.member ++ drop 14 l)
    (c.part.ensures ∙ c.in_ok-look.ensures.there told ∙ ap (take 15) (c.length_of.ensures.looks.stays told).seen)
    (c.in_default.ensures.right refl)))
    c.read_records.ensures.ok c.read_records.ensures.closed

pub returns-clause-ready : goal.returns-clause-ready
returns-clause-ready g c =
    read_ready g.D.Disk c.args.disk.now c.look.new.disk c.read_records.new.disk c.args.cluster c.args.member
    (looks_on g.D.Disk g.met.D.Disk.went_on c.args.disk.now c.length_of.new.disk c.look.new.disk c.length_of.ensures.looks
    c.look.ensures.looks) c.read_records.result c.read_records.ensures.looks
    (λ told. right_behind c.args.cluster c.args.member (g.D.Disk.seen c.args.disk.now)
    (subst (λ (l : List ℕ). l ≡ header c.args.cluster c.args.member ++ drop 14 l)
    (c.part.ensures ∙ c.in_ok-look.ensures.there told ∙ ap (take 15) (c.length_of.ensures.looks.stays told).seen)
    (c.in_default.ensures.right refl)))
    c.read_records.ensures.ok c.read_records.ensures.closed

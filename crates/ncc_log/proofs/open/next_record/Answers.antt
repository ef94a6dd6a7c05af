use Rattle.std.proofs.Common.{◌≡◌, ◌≤◌, ◌<◌, ◌+◌, ℕ, List, length, get_or, take, drop, ◌∙◌, sym, ap, arith, subst, length-drop}
use Rattle.ncc_log.proofs.GateRead.{behind_head, broken_there, record_there, too_long, unread}
use Rattle.ncc_log.proofs.Moments.{looks_on}
use Rattle.ncc_log.proofs.open.next_record.Goals as goal

pub returns-in-Broken-clause-broken : goal.returns-in-Broken-clause-broken
returns-in-Broken-clause-broken g c = λ at is.
    let same : at ≡ c.args.gate = cc in (
      same,
      λ told.
          let bs : List ℕ = drop c.args.gate (g.D.Disk.seen c.args.disk.now) in
          let head : c.part.result.now ≡ take 5 bs = c.part.ensures ∙ c.in_ok-look.ensures.there told in
          let some : 0 < length bs =
          omega (arith, c.requires.inside, c.requires.file told, length-drop c.args.gate (g.D.Disk.seen c.args.disk.now)) in
          broken_there c.args.part.now c.args.gate bs some
          (λ more shut. c.in-Broken.ensures.1 (subst (λ (l : List ℕ). 1 ≤ length l) (sym head) more)
          (ap (λ (l : List ℕ). get_or l 0 0) head ∙ shut))
          (subst (λ (l : List ℕ). length l < 5) head c.in-Broken.ensures.0),
    )

pub returns-then-file-gate-clause-broken : goal.returns-then-file-gate-clause-broken
returns-then-file-gate-clause-broken g c = λ at is.
    let same : at ≡ c.args.gate = cc in (
      same,
      λ told.
          let bs : List ℕ = drop c.args.gate (g.D.Disk.seen c.args.disk.now) in
          let head : c.part.result.now ≡ take 5 bs = c.part.ensures ∙ c.in_ok-look.ensures.there told in
          let o = c.in-Open.ensures in
          too_long c.args.part.now c.args.gate bs o.0 c.in-Open.size o.1 o.2 o.3 (sym head ∙ o.4)
          (omega (arith, c.if-file-gate.true, c.requires.file told, length-drop c.args.gate (g.D.Disk.seen c.args.disk.now))),
    )

pub returns-in-Some-clause-there : goal.returns-in-Some-clause-there
returns-in-Some-clause-there g c told =
    let seen : List ℕ = g.D.Disk.seen c.args.disk.now in
    let bs : List ℕ = drop c.args.gate seen in
    let size : ℕ = c.in-Open.size in
    let head : c.part.result.now ≡ take 5 bs = c.part.ensures ∙ c.in_ok-look.ensures.there told in
    let whole : c.part-bytes.result.now ≡ take (5 + size) bs = c.part-bytes.ensures ∙ c.in_ok-look-2.ensures.there told
    ∙ ap (λ (l : List ℕ). take (5 + size) (drop c.args.gate l)) (c.look.ensures.looks.stays told).seen in
    let o = c.in-Open.ensures in
    let read = rw c.in-Some.is at c.in_ok-change.ensures.some in
    let r = record_there c.args.part.now c.args.gate bs o.0 size o.1 o.2 o.3 (sym head ∙ o.4) c.in-Some.change
    (sym (behind_head bs c.part-bytes.result.now size whole) ∙ read.1)
    (omega (arith, c.if-file-gate.false, c.requires.file told, length-drop c.args.gate seen)) in
    (o.0, r.0, o.2, r.1, r.2, read.0, r.3)

pub returns-in-None-clause-broken : goal.returns-in-None-clause-broken
returns-in-None-clause-broken g c = λ at is.
    let same : at ≡ c.args.gate = cc in (
      same,
      λ told.
          let bs : List ℕ = drop c.args.gate (g.D.Disk.seen c.args.disk.now) in
          let size : ℕ = c.in-Open.size in
          let head : c.part.result.now ≡ take 5 bs = c.part.ensures ∙ c.in_ok-look.ensures.there told in
          let whole : c.part-bytes.result.now ≡ take (5 + size) bs = c.part-bytes.ensures ∙ c.in_ok-look-2.ensures.there told
          ∙ ap (λ (l : List ℕ). take (5 + size) (drop c.args.gate l)) (c.look.ensures.looks.stays told).seen in
          let o = c.in-Open.ensures in
          let none = rw c.in-None.is at c.in_ok-change.ensures.none in
          unread c.args.part.now c.args.gate bs o.0 size o.1 o.2 o.3 (sym head ∙ o.4)
          (λ d m e. none d m (behind_head bs c.part-bytes.result.now size whole ∙ e)),
    )

pub returns-in_err-look-2-clause-looks : goal.returns-in_err-look-2-clause-looks
returns-in_err-look-2-clause-looks g c =
    looks_on g.D.Disk g.met.D.Disk.went_on c.args.disk.now c.look.new.disk c.look-2.new.disk c.look.ensures.looks c.look-2.ensures.looks

pub returns-in_err-change-clause-looks : goal.returns-in_err-change-clause-looks
returns-in_err-change-clause-looks g c =
    looks_on g.D.Disk g.met.D.Disk.went_on c.args.disk.now c.look.new.disk c.look-2.new.disk c.look.ensures.looks c.look-2.ensures.looks

pub returns-in-Some-clause-looks : goal.returns-in-Some-clause-looks
returns-in-Some-clause-looks g c =
    looks_on g.D.Disk g.met.D.Disk.went_on c.args.disk.now c.look.new.disk c.look-2.new.disk c.look.ensures.looks c.look-2.ensures.looks

pub returns-in-None-clause-looks : goal.returns-in-None-clause-looks
returns-in-None-clause-looks g c =
    looks_on g.D.Disk g.met.D.Disk.went_on c.args.disk.now c.look.new.disk c.look-2.new.disk c.look.ensures.looks c.look-2.ensures.looks

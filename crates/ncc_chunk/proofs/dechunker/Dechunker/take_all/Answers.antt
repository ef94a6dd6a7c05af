use Rattle.std.proofs.Common.{◌≡◌, ◌∙◌, ap, refl, take, drop, arith, length-drop}
use Rattle.std.proofs.lemmas.List.{take_rest}
use Rattle.std.proofs.Math.Seq.{take-add}
use Rattle.ncc_chunk.specs.Inflow.{Inflow}
use Rattle.ncc_chunk.proofs.Steps.{took_none, took_then}
use Rattle.ncc_chunk.proofs.dechunker.Dechunker.take_all.Goals as goal

pub loop-at-init : goal.loop-at-init
loop-at-init c = record { within = omega arith; took = took_none c.args.self.now; bounded = λ h. h; stopped = λ _. refl }

pub loop-at-preserved : goal.loop-at-preserved
loop-at-preserved c =
    let n = c.in_ok-at.field-0 in
    let start = c.loop-at.at in
    let piece = c.args.piece.now in
    let before = c.loop-at.invariant in
    record {
      within = (
          let w = rw (take_rest piece start) at c.in_ok-at.ensures.within.1 in
          let l = length-drop start piece in
          omega arith);
      took = rw (take-add start n piece) (
          took_then c.args.self.now c.loop-at.self c.take_some.new.self (take start piece) (take n (drop start piece))
          before.took (rw (take_rest piece start) at c.in_ok-at.ensures.ok));
      bounded = λ _. c.in_ok-at.ensures.bounded;
      stopped = λ e. (
          let same = before.stopped e in
          c.in_ok-at.ensures.stopped (ap (λ (s : Inflow). s.place) same ∙ e) ∙ same);
    }

pub returns-in_err-at-clause-stopped : goal.returns-in_err-at-clause-stopped
returns-in_err-at-clause-stopped c e =
    let same = c.loop-at.invariant.stopped e in
    c.in_err-at.ensures.stopped (ap (λ (s : Inflow). s.place) same ∙ e) ∙ same

pub returns-clause-bounded : goal.returns-clause-bounded
returns-clause-bounded c h = c.loop-at.invariant.bounded h

pub returns-clause-stopped : goal.returns-clause-stopped
returns-clause-stopped c e = c.loop-at.invariant.stopped e

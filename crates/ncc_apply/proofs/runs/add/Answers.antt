use Rattle.std.proofs.Common.{◌≡◌, ◌∙◌, ℕ, Bool, true, false, refl, ◌+◌, ◌-◌, ◌<◌, ◌++◌, ◌∷◌, [], length, get_or, ap, ap₂, sym, arith}
use Rattle.std.specs.Bool.{beq}
use Rattle.ncc_tx.specs.declared.stamp.Stamp.{Stamp}
use Rattle.ncc_apply.specs.declared.runs.Run.{Run}
use Rattle.ncc_apply.specs.Runs.{end_of, stamp_in, unrolled}
use Rattle.ncc_apply.proofs.Unrolled.{longer_rises, longer_run, new_rises, new_run, same_at}
use Rattle.ncc_apply.proofs.runs.add.Goals as goal

same_bool : (a b : Bool) → beq a b ≡ true → a ≡ b
same_bool true true e = refl
same_bool true false e = absurd (cc)
same_bool false true e = absurd (cc)
same_bool false false e = refl

abbrev the_stamp : ℕ → Bool → Stamp
the_stamp t v = record { term = t; valid = v }

pub returns-then-last-stamp-2-clause-stamps : goal.returns-then-last-stamp-2-clause-stamps
returns-then-last-stamp-2-clause-stamps c =
    let rs = c.args.runs.now.items in
    let i = c.len-count.result - 1 in
    let held = c.index_mut.result.now in
    let r : Run = record { term = held.term; valid = held.valid; until = c.last_place-until.result + 1 } in
    let within : i < length rs = omega arith in
    let last : get_or rs i held ≡ c.index-last.result.now = same_at rs i held c.index-last.result.now within ∙ sym c.index-last.ensures in
    let here : held ≡ get_or rs i held = c.index_mut.ensures.value in
    let kept : held ≡ c.index-last.result.now = here ∙ last in
    let is : stamp_in r ≡ c.args.stamp =
    ap stamp_in kept ∙ ap₂ (λ (t : ℕ) (v : Bool). the_stamp t v) c.if-last-stamp.true (same_bool _ _ c.if-last-stamp-2.true) in
    let until : c.last_place-until.result + 1 ≡ end_of 0 rs + 1 =
    ap (λ n. n + 1) (c.last_place-until.ensures ∙ ap (end_of 0) c.as_slice.ensures.value) in
    longer_run 0 rs i r held c.requires.rising (omega arith) (ap stamp_in here) until ∙ ap (λ (s : Stamp). unrolled 0 rs ++ s ∷ []) is

pub returns-then-last-stamp-2-clause-rising : goal.returns-then-last-stamp-2-clause-rising
returns-then-last-stamp-2-clause-rising c = longer_rises 0 _ _ _ c.requires.rising (omega arith) (cc)

pub returns-clause-stamps : goal.returns-clause-stamps
returns-clause-stamps c = rw c.push_reserved.ensures.items (new_run 0 c.args.runs.now.items _ c.requires.rising (cc))

pub returns-clause-rising : goal.returns-clause-rising
returns-clause-rising c = rw c.push_reserved.ensures.items (new_rises 0 c.args.runs.now.items _ c.requires.rising (cc))

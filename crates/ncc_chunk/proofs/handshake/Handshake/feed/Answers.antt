use Rattle.std.proofs.Common.{◌≡◌, ◌+◌, ◌++◌, ◌∷◌, [], ℕ, List, length, take, drop, get_or, refl, sym, ap, ◌∙◌, append_assoc}
use Rattle.std.proofs.Common.{append-nil, arith}
use Rattle.std.proofs.Math.Seq.{take-length}
use Rattle.std.proofs.lemmas.List.{take_more, take-append-drop}
use Rattle.ncc_chunk.specs.declared.handshake.Shake.TheVariants.{More}
use Rattle.ncc_chunk.specs.Handshake.{answer_to, handshake_of}
use Rattle.ncc_chunk.proofs.Shaking.{more_is_short, whole_where_more, same_where_settled, one_more}
use Rattle.ncc_chunk.proofs.handshake.Handshake.feed.Goals as goal

-- nothing was taken
untaken : (old now piece : List ℕ) (i : ℕ) → now ≡ old ++ take i piece → i ≡ 0 → now ≡ old
untaken old now piece i e h = e ∙ ap (λ k. old ++ take k piece) h ∙ append-nil old

pub push-requires : goal.push-requires
push-requires c = more_is_short c.loop-i.self (sym c.answer.ensures ∙ c.in-More.is)

pub loop-i-init : goal.loop-i-init
loop-i-init c = record {
  taken = sym (append-nil c.args.self.now);
  handshake = λ stream e. rw (append-nil stream) e;
  settled = λ h. refl;
}

pub loop-i-preserved : goal.loop-i-preserved
loop-i-preserved c =
    let piece = c.args.piece.now in
    let i = c.loop-i.i in
    let old = c.args.self.now in
    let byte = get_or piece i 0 in
    let inv = c.loop-i.invariant in
    let more : answer_to c.loop-i.self ≡ More = sym c.answer.ensures ∙ c.in-More.is in
    let next : take (i + 1) piece ≡ take i piece ++ byte ∷ [] = take_more piece i 0 c.loop-i-test.true in
    record {
      taken = c.push.ensures ∙ ap (λ v. v ++ byte ∷ []) inv.taken ∙ append_assoc old (take i piece) (byte ∷ [])
          ∙ ap (λ v. old ++ v) (sym next);
      handshake = λ stream e. (
          let same = inv.handshake stream e in
          let whole = whole_where_more (stream ++ take i piece) (ap answer_to (sym same) ∙ more) in
          c.push.ensures ∙ sym (one_more c.loop-i.self byte more)
          ∙ ap handshake_of (ap (λ v. v ++ byte ∷ []) (same ∙ whole) ∙ append_assoc stream (take i piece) (byte ∷ [])
          ∙ ap (λ v. stream ++ v) (sym next)));
      settled = λ h. absurd (h (ap answer_to (sym (untaken old c.loop-i.self piece i inv.taken (inv.settled h))) ∙ more));
    }

pub returns-in_default : goal.returns-in_default
returns-in_default c =
    let piece = c.args.piece.now in
    let i = c.loop-i.i in
    let old = c.args.self.now in
    let inv = c.loop-i.invariant in
    record {
      within = omega arith;
      taken = inv.taken;
      answer = c.answer.ensures;
      handshake = λ stream e. (
          let same = inv.handshake stream e in
          same ∙ sym (same_where_settled (stream ++ take i piece) (drop i piece) (λ m. c.in_default.not-More (c.answer.ensures
          ∙ ap answer_to same ∙ m)))
          ∙ ap handshake_of (append_assoc stream (take i piece) (drop i piece) ∙ ap (λ v. stream ++ v) (take-append-drop i piece)));
      all = λ m. absurd (c.in_default.not-More m);
      settled = λ h. (inv.settled h, untaken old c.loop-i.self piece i inv.taken (inv.settled h));
    }

pub returns : goal.returns
returns c =
    let piece = c.args.piece.now in
    let i = c.loop-i.i in
    let old = c.args.self.now in
    let inv = c.loop-i.invariant in
    let end : i ≡ length piece = omega arith in
    let all : take i piece ≡ piece = ap (λ k. take k piece) end ∙ take-length piece in
    record {
      within = omega arith;
      taken = inv.taken ∙ ap (λ k. old ++ take k piece) end;
      answer = c.answer-2.ensures;
      handshake = λ stream e. inv.handshake stream e ∙ ap (λ v. handshake_of (stream ++ v)) all;
      all = λ m. refl;
      settled = λ h. (sym end ∙ inv.settled h, untaken old c.loop-i.self piece i inv.taken (inv.settled h));
    }

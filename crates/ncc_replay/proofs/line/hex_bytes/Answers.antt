use Rattle.std.proofs.Common.{◌++◌, ◌∷◌, [], ◌<◌, ◌^◌, All, ap, subst, sym, ◌∙◌}
use Rattle.std.proofs.lemmas.List.{take_rest}
use Rattle.std.proofs.lemmas.List.Elements.{All-nil, All-cons, All-append}
use Rattle.ncc_replay.specs.Line.{hex}
use Rattle.ncc_replay.proofs.Digits.{hex_nil, more_read, none_here, none_left}
use Rattle.ncc_replay.proofs.Lines.{cause_is}
use Rattle.ncc_replay.proofs.line.hex_bytes.Goals as goal

pub loop-rest-init : goal.loop-rest-init
loop-rest-init c = record {
  are_bytes = subst (All (λ b. b < 2 ^ 8)) (sym c.new-bytes.ensures.empty) (All-nil (λ b. b < 2 ^ 8));
  word = ap (λ l. l ++ c.args.word.now) (sym (ap hex c.new-bytes.ensures.empty ∙ hex_nil));
}

pub returns-in-None-clause-bad : goal.returns-in-None-clause-bad
returns-in-None-clause-bad c = λ cause h. (
  sym (cause_is _ cause h),
  λ b is. none_here c.args.word.now c.loop-rest.bytes c.loop-rest.rest.now b _ _ c.loop-rest.invariant.word c.in-len2-up.len_at_least
      c.in-None.ensures.none is,
)

pub loop-rest-preserved : goal.loop-rest-preserved
loop-rest-preserved c =
    let pushed = c.in_ok-push-in-Some.ensures.ok in
    let byte = c.in-Some.ensures.some in
    record {
      are_bytes = subst (All (λ b. b < 2 ^ 8)) (sym pushed) (All-append (λ b. b < 2 ^ 8) c.loop-rest.bytes (c.in-Some.byte ∷ [])
          c.loop-rest.invariant.are_bytes (All-cons (λ b. b < 2 ^ 8) c.in-Some.byte [] byte.0 (All-nil (λ b. b < 2 ^ 8))));
      word = more_read c.args.word.now c.loop-rest.bytes c.loop-rest.rest.now c.push.new.self _ _ _ c.in-Some.byte
          c.loop-rest.invariant.word c.in-len2-up.len_at_least byte.1 pushed (take_rest c.loop-rest.rest.now 2);
    }

pub returns-else-is_empty-clause-bad : goal.returns-else-is_empty-clause-bad
returns-else-is_empty-clause-bad c = λ cause h. (
  sym (cause_is _ cause h),
  λ b is. none_left c.args.word.now c.loop-rest.bytes c.loop-rest.rest.now b c.loop-rest.invariant.word c.in_default.len_below
      (sym c.is_empty.ensures ∙ c.if-is_empty.false) is,
)

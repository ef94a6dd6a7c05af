use Rattle.std.proofs.Common.{◌∷◌, [], ap, arith, codes, decimal, eqb-true, length, subst, sym, ◌∙◌}
use Rattle.ncc_replay.specs.Reading.{words_in, AreBad}
use Rattle.ncc_replay.proofs.Digits.{length_hex, not_zero}
use Rattle.ncc_replay.proofs.Lines.{bytes_front, cause_is}
use Rattle.ncc_replay.proofs.Words.{some_words, none_words}
use Rattle.ncc_replay.proofs.line.bytes.Goals as goal
use Rattle.ncc_replay.proofs.line.bytes.Goals.{then-is_some-via-then-is_some, then-is_some-via-else-is_some+then-is_empty}
use Rattle.ncc_replay.proofs.line.bytes.Goals.{then-is_some-via-else-is_some+else-is_empty+then-word-gt-MAX_DIGITS}

pub returns-then-is_some-clause-bad : goal.returns-then-is_some-clause-bad
returns-then-is_some-clause-bad c = λ cause h.
    subst (AreBad c.args.cluster (codes "bytes" ∷ words_in c.args.rest)) (cause_is _ cause h)
    (bytes_front (words_in c.args.rest) (words_in c.in-Some.rest) (words_in c.in-Some-next_word.rest) c.in-Some.conn
    c.in-Some-next_word.word.now c.in-Some.ensures.some.1 c.in-Some-next_word.ensures.some
    (λ bytes some few is none. elim c.then-is_some.branch [
      | then-is_some-via-then-is_some w ↦ some_words c.in-Some-next_word.rest (sym c.is_some.ensures ∙ w.if-is_some.true) none
      | then-is_some-via-else-is_some+then-is_empty w ↦ omega (
        arith,
        some,
        length_hex bytes,
        ap length is,
        eqb-true (length c.in-Some-next_word.word.now) 0 (sym w.is_empty.ensures ∙ w.if-is_empty.true),
      )
      | then-is_some-via-else-is_some+else-is_empty+then-word-gt-MAX_DIGITS w ↦ omega (
        arith,
        few,
        length_hex bytes,
        ap length is,
        w.if-word-gt-MAX_DIGITS.true,
      )
    ]) c.args.cluster)

pub returns-clause-ok : goal.returns-clause-ok
returns-clause-ok c =
    let conn = c.in-Some.ensures.some in
    let is = c.in-Ok.ensures.ok in
    let len = length_hex c.in-Ok.bytes in
    let word = ap length is.word_is in
    let some = not_zero (length c.in-Some-next_word.word.now) (sym c.is_empty.ensures ∙ c.if-is_empty.false) in (
      (
        omega (arith, conn.0),
        omega (arith, len, word, some),
        omega (arith, len, word, c.if-word-gt-MAX_DIGITS.false),
        is.are_bytes,
      ),
      ap (λ l. codes "bytes" ∷ l) (conn.1 ∙ ap (λ l. decimal c.in-Some.conn ∷ l) (c.in-Some-next_word.ensures.some
          ∙ (ap (λ l. c.in-Some-next_word.word.now ∷ l) (none_words c.in-Some-next_word.rest (sym c.is_some.ensures ∙ c.if-is_some.false))
          ∙ ap (λ v. v ∷ []) is.word_is))),
    )

use Rattle.std.proofs.Common.{◌≡◌, ◌++◌, OnOk, ap, append_assoc, codes, subst, sym, true, ◌∙◌}
use Rattle.std.proofs.lemmas.Bool.{false≢true}
use Rattle.ncc_world.specs.Events.{is_word}
use Rattle.ncc_replay.specs.Report.{rows_hex, rows_text}
use Rattle.ncc_replay.proofs.Spelling.{on_ok_then, rows_no_word, rows_none, rows_other, rows_word}
use Rattle.ncc_replay.proofs.report.append_rows.Goals as goal
use Rattle.ncc_replay.proofs.report.append_rows.Goals.{in_default-via-in-Some+else-is_word, in_default-via-in_default}

pub returns-then-is_empty : goal.returns-then-is_empty
returns-then-is_empty c =
    subst (λ l. OnOk c.extend.result (c.extend.new.self ≡ c.args.into.now ++ l))
    (sym (ap rows_text (c.is_empty.ensures.exact.0 c.if-is_empty.true) ∙ rows_none)) c.extend.ensures.ok

pub returns-in_ok-extend-in-Some : goal.returns-in_ok-extend-in-Some
returns-in_ok-extend-in-Some c =
    let text = c.in-Some.text.now in
    let word : is_word text ≡ true = ap is_word (sym (c.as_bytes.ensures.value ∙ c.as_str.ensures.same)) ∙ (sym c.is_word.ensures
    ∙ c.if-is_word.true) in
    let whole = ap (λ w. codes " word " ++ w) (c.as_bytes-in-Some.ensures.value ∙ c.as_str-in-Some.ensures.same)
    ∙ sym (ap rows_text c.in-Some.ensures.some ∙ rows_word text word) in
    on_ok_then c.extend-in-Some-2.result c.extend-in-Some-2.ensures.ok (λ e. e
    ∙ (ap (λ l. l ++ c.as_bytes-in-Some.result.now) c.in_ok-extend-in-Some.ensures.ok
    ∙ (append_assoc c.args.into.now (codes " word ") c.as_bytes-in-Some.result.now ∙ ap (λ l. c.args.into.now ++ l) whole)))

pub returns-in_default : goal.returns-in_default
returns-in_default c =
    let hex : rows_text c.args.rows.now ≡ rows_hex c.args.rows.now = elim c.in_default.branch [
      | in_default-via-in-Some+else-is_word w ↦
          ap rows_text w.in-Some.ensures.some
          ∙ (rows_no_word w.in-Some.text.now (ap is_word (sym (w.as_bytes.ensures.value ∙ w.as_str.ensures.same)) ∙ (sym w.is_word.ensures
          ∙ w.if-is_word.false)) ∙ ap rows_hex (sym w.in-Some.ensures.some))
      | in_default-via-in_default w ↦
          rows_other c.args.rows.now (λ e. false≢true (sym c.if-is_empty.false ∙ c.is_empty.ensures.exact.1 e)) w.in_default.ensures.none
    ] in
    subst (λ l. OnOk c.append_rows_hex.result (c.append_rows_hex.new.into ≡ c.args.into.now ++ l)) (sym hex) c.append_rows_hex.ensures

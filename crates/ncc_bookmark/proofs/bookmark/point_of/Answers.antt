use Rattle.std.proofs.Common.{ap, sym, ◌∙◌, length}
use Rattle.base64.specs.Engines.{standard}
use Rattle.base64.specs.GeneralPurpose.{encode_of}
use Rattle.ncc_bookmark.specs.Spelling.{payload}
use Rattle.ncc_bookmark.proofs.Texts.{length-text_of, parts-text_of, encoded_same, payload_bytes, text_made, err_again}
use Rattle.ncc_bookmark.proofs.bookmark.point_of.Goals as goal

pub returns-then-text-ne-TEXT_LENGTH-clause-bad_form : goal.returns-then-text-ne-TEXT_LENGTH-clause-bad_form
returns-then-text-ne-TEXT_LENGTH-clause-bad_form c = λ _ b _ e. c.if-text-ne-TEXT_LENGTH.true (ap length e ∙ length-text_of b)

pub returns-in_default-clause-bad_form : goal.returns-in_default-clause-bad_form
returns-in_default-clause-bad_form c =
    λ _ b _ e. c.in_default.ensures.none (encode_of standard (payload b)) (e ∙ parts-text_of b)

pub returns-in-Err-clause-bad_form : goal.returns-in-Err-clause-bad_form
returns-in-Err-clause-bad_form c =
    λ h b _ e. c.in-Err.ensures.bad_form (err_again c.in-Err.error _ h) (payload b) (payload_bytes b)
    (encoded_same b c.args.text.now c.in-Some.encoded.now c.in-Some.ensures.some e)

pub returns-in-Some-payload_read-clause-ok : goal.returns-in-Some-payload_read-clause-ok
returns-in-Some-payload_read-clause-ok c =
    text_made (record { cluster = c.in-Some-payload_read.point.0; place = c.in-Some-payload_read.point.1 })
    c.args.text.now c.in-Some.encoded.now c.in-Ok.bytes.items c.in-Some.ensures.some c.in-Ok.ensures.ok
    (sym c.as_slice.ensures.value ∙ c.in-Some-payload_read.ensures.some)

pub returns-clause-bad_form : goal.returns-clause-bad_form
returns-clause-bad_form c =
    λ _ b f e. c.in-None.ensures.none b f (c.as_slice.ensures.value
    ∙ c.in-Ok.ensures.only (payload b) (payload_bytes b)
    (encoded_same b c.args.text.now c.in-Some.encoded.now c.in-Some.ensures.some e))

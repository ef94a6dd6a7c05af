use Rattle.std.proofs.Common.{◌+◌, length, vec_capacity, vec_len, arith}
use Rattle.std.proofs.lemmas.Result.{on_err_weaker}
use Rattle.ncc_pack.specs.declared.value.Value.TheVariants as v
use Rattle.ncc_pack.specs.Short.{short}
use Rattle.ncc_tx.proofs.ItemBytes.{full_of}
use Rattle.ncc_tx.proofs.write.put_text.Goals as goal

pub returns-clause-full : goal.returns-clause-full
returns-clause-full c =
    let into = c.args.into.now in
    on_err_weaker c.encode_text_within.result (λ small. omega (arith, small, into.ok.0))
    (full_of c.encode_text_within.result (vec_len into + length (short (v.Text c.args.text.now))) (vec_capacity into)
    c.encode_text_within.ensures.roomy)

use Rattle.std.proofs.Common.{◌+◌, length, vec_capacity, vec_len, arith}
use Rattle.std.proofs.lemmas.Result.{on_err_weaker}
use Rattle.ncc_pack.specs.Spells.{lists}
use Rattle.ncc_pack.specs.Short.{head}
use Rattle.ncc_tx.proofs.ItemBytes.{full_of}
use Rattle.ncc_tx.proofs.write.put_head.Goals as goal

pub returns-clause-full : goal.returns-clause-full
returns-clause-full c =
    let into = c.args.into.now in
    on_err_weaker c.encode_list_head_within.result (λ small. omega (arith, small, into.ok.0))
    (full_of c.encode_list_head_within.result (vec_len into + length (head lists c.args.len)) (vec_capacity into)
    c.encode_list_head_within.ensures.roomy)

use Rattle.std.proofs.Common.{◌+◌, ℕ, ap}
use Rattle.std.proofs.lemmas.Result.{on_ok_weaker}
use Rattle.ncc_wire.proofs.Sizes.{frame_put}
use Rattle.ncc_wire.proofs.write.put_frame.Goals as goal

pub returns-clause-ok : goal.returns-clause-ok
returns-clause-ok c =
    on_ok_weaker c.put_body.result
    (λ e. frame_put c.args.cluster (11 + c.body_len.result) c.byte-kind.result c.args.envelope.now c.args.into.now.items
    c.extend_from_slice.new.self.items c.put_number.new.into.items c.extend_from_slice-2.new.self.items c.put_body.new.into.items
    (ap (λ (n : ℕ). 11 + n) c.body_len.ensures.exact) (cc (c.byte-kind.ensures, c.of.ensures))
    (cc (c.in_ok-extend_from_slice.ensures.items, c.to_be_bytes.ensures)) c.in_ok-put_number.ensures.ok
    c.in_ok-extend_from_slice-2.ensures.items e)
    c.put_body.ensures.ok

use Rattle.std.proofs.Common.{◌≡◌, ◌∙◌, ◌++◌, List, ℕ, ap}
use Rattle.std.specs.Int.{w32, to_be_bytes}
use Rattle.ncc_log.proofs.PayloadBytes.{record_put}
use Rattle.ncc_log.proofs.payload.fill.Goals as goal

pub returns-clause-ok : goal.returns-clause-ok
returns-clause-ok c =
    let head : c.extend_from_slice.new.self.items ≡ to_be_bytes w32 c.args.size =
    c.in_ok-extend_from_slice.ensures.items ∙ ap (λ (l : List ℕ). l ++ c.to_be_bytes.result) c.clear.ensures.items
    ∙ c.to_be_bytes.ensures in
    record_put c.args.change.now c.extend_from_slice.new.self.items c.put_payload.new.body.items c.push.new.self.items c.args.size
    head c.in_ok-put_payload.ensures.ok c.in_ok-push.ensures.items c.requires.size

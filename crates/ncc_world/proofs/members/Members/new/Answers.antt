use Rattle.ncc_world.proofs.Firstly.{first_list}
use Rattle.std.proofs.Common.{sym, ◌∙◌, ◌+◌}
use Rattle.ncc_world.proofs.members.Members.new.Goals as goal

pub returns : goal.returns
returns c =
    let m = c.in_ok-new.ensures.new in
    record { new = (m, sym m.first ∙ first_list (c.args.setup.now.cores + c.args.setup.now.replicas)) }

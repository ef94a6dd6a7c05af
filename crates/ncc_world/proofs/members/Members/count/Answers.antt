use Rattle.std.proofs.Common.{◌∙◌}
use Rattle.ncc_world.specs.Parts.{members_in}
use Rattle.ncc_world.proofs.Seated.{shelves_count}
use Rattle.ncc_world.proofs.members.Members.count.Goals as goal

pub returns-clause-count : goal.returns-clause-count
returns-clause-count c = λ s seats h k. c.count.ensures.shelves ∙ shelves_count s (members_in c.args.self.now) seats h k

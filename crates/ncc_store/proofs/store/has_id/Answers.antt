use Rattle.std.proofs.Common.{to_z-of_z}
use Rattle.ncc_store.proofs.Searched.{answers}
use Rattle.ncc_store.proofs.store.has_id.Goals as goal

pub returns : goal.returns
returns c = answers c.args.id _ c.args.ids.now c.binary_search.result c.is_ok.result (to_z-of_z c.ranges.id) c.requires
    c.binary_search.ensures.bound c.binary_search.ensures.position c.is_ok.ensures.value

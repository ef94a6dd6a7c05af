use Rattle.std.proofs.Common.{◌∙◌, [], Option, ap}
use Rattle.ncc_clients.specs.Links.{lift_bytes}
use Rattle.ncc_clients.specs.Links.{Link as OneLink}
use Rattle.ncc_clients.specs.Held.{lifted, with_up}
use Rattle.ncc_world.specs.Parts.{drivers_in}
use Rattle.ncc_world.proofs.Sessions.{one_here, relinked, was_at}
use Rattle.ncc_world.proofs.Unchanged.{ok_both}
use Rattle.ncc_world.proofs.drivers.Drivers.lift_bytes.Goals as goal

pub returns-clause-ok : goal.returns-clause-ok
returns-clause-ok c =
    let k = drivers_in c.args.self.now in
    let old = c.index_mut.result.now in
    let was = was_at k.list c.args.index old c.requires.there c.index_mut.ensures.value in
    ok_both c.lift_bytes.result _ _ _ (λ bytes moved left s d now driving pending there w. (
      moved ∙ ap (λ (l : Option OneLink). (lifted (lift_bytes c.args.count) l).moved)
          (one_here s c.args.index [] pending k now driving old d was there w).stands.link_is,
      relinked s c.args.index k old c.lift_bytes.new.self d (λ l. with_up (lifted (lift_bytes c.args.count) l).left l) was left
          now driving pending there w,
    )) c.lift_bytes.ensures.moved c.lift_bytes.ensures.left

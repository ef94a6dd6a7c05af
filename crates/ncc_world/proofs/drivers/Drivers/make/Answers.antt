use Rattle.std.proofs.Common.{[], List, sym, subst, IsTrue}
use Rattle.ncc_driver.specs.declared.config.SessionConfig.{SessionConfig}
use Rattle.ncc_driver.specs.Config.{config_fits}
use Rattle.ncc_clients.specs.Drives.{new_driver}
use Rattle.ncc_clients.specs.Held.{Held, IsDriver}
use Rattle.ncc_world.specs.Happening.{config_of}
use Rattle.ncc_world.specs.Drivers.{AreAtWork, with_session}
use Rattle.ncc_world.specs.Parts.{drivers_in}
use Rattle.ncc_world.proofs.Routers.{config_is, session_fits}
use Rattle.ncc_world.proofs.Sessions.{more_kept}
use Rattle.ncc_world.proofs.drivers.Drivers.make.Goals as goal

pub new-requires-2 : goal.new-requires-2
new-requires-2 c =
    let s = c.args.setup.now in
    let is = config_is s c.args.seed c.in_ok-addresses.field-0 c.new.result c.in_ok-addresses.ensures c.new.ensures.empty in
    record { fits = subst (λ (x : SessionConfig). IsTrue (config_fits x)) (sym is) (session_fits s c.args.seed c.requires.allowed) }

pub returns : goal.returns
returns c = record {
  ok = λ now driving w.
      let s = c.args.setup.now in
      let k = drivers_in c.args.self.now in
      let is = config_is s c.args.seed c.in_ok-addresses.field-0 c.new.result c.in_ok-addresses.ensures c.new.ensures.empty in
      let made : IsDriver c.in_ok-new.field-0 (new_driver (config_of s c.args.seed)) [] =
      subst (λ (x : SessionConfig). IsDriver c.in_ok-new.field-0 (new_driver x) []) is c.in_ok-new.ensures.made in
      subst (λ (l : List Held). AreAtWork s 0 [] [] (record k { list = l }) now (with_session (config_of s c.args.seed) driving))
      (sym c.in_ok-push.ensures.items) (more_kept s k now driving c.in_ok-new.field-0 (config_of s c.args.seed) made w);
}

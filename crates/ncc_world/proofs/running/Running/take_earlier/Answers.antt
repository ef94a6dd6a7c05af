use Rattle.std.proofs.Common.{◌≡◌, ◌<◌, sym, arith, refl, length, Some, Option, subst}
use Rattle.std.proofs.lemmas.Option.{slice_get_read}
use Rattle.std.specs.Prelude.{slice_get, slice_set}
use Rattle.ncc_world.specs.declared.earlier.Earlier.{Earlier}
use Rattle.ncc_world.specs.Earlier.{AllRemember, Remembers}
use Rattle.ncc_world.specs.Setting.{list_at, lists_of}
use Rattle.ncc_world.specs.Parts.{run_in}
use Rattle.ncc_world.proofs.Remembering.{one_forgotten}
use Rattle.ncc_world.proofs.Turning.{counted}
use Rattle.ncc_world.proofs.running.Running.take_earlier.Goals as goal

pub returns-clause-runs : goal.returns-clause-runs
returns-clause-runs c = λ r k.
    let s = c.args.setup.now in
    let es = c.args.self.now.earlier.items in
    let within : c.args.index < length es =
    omega (arith, k.earlier.count, (counted s (run_in c.args.self.now) r k).table, c.requires.there) in
    record {
      now = k.now;
      members = k.members;
      clients = k.clients;
      told = k.told;
      earlier = subst (λ (o : Option Earlier). AllRemember s (slice_set es c.args.index o) r) (sym c.take.ensures.after)
          (one_forgotten s es r c.args.index k.earlier within);
    }

pub returns-clause-kept : goal.returns-clause-kept
returns-clause-kept c = λ r k d there.
    let s = c.args.setup.now in
    let es = c.args.self.now.earlier.items in
    let within : c.args.index < length es =
    omega (arith, k.earlier.count, (counted s (run_in c.args.self.now) r k).table, c.requires.there) in
    let o : Option Earlier = c.index_mut.result.now in
    let at : slice_get es c.args.index ≡ Some o = slice_get_read es (length es) c.args.index o refl within c.index_mut.ensures.value in
    subst (λ (x : Option Earlier). Remembers s (list_at (lists_of r.members) d.member) d x) (sym c.take.ensures.value)
    (k.earlier.each c.args.index d o there at)

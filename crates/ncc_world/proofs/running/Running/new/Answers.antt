use Rattle.std.proofs.Common.{◌+◌, [], ℕ, refl, sym, subst, List, Option}
use Rattle.ncc_world.specs.declared.earlier.Earlier.{Earlier}
use Rattle.ncc_world.specs.Earlier.{AllRemember}
use Rattle.ncc_world.specs.Happening.{start_of}
use Rattle.ncc_world.specs.World.{AreServed}
use Rattle.ncc_world.specs.Parts.{clients_in}
use Rattle.ncc_world.proofs.Remembering.{none_remember}
use Rattle.ncc_world.proofs.Firstly.{empties_count}
use Rattle.ncc_world.proofs.running.Running.new.Goals as goal

pub returns : goal.returns
returns c =
    let s = c.args.setup.now in
    let n = c.args.setup.now.cores + c.args.setup.now.replicas in
    record {
      begun = record {
        runs_as = record {
          now = refl;
          members = c.in_ok-members.ensures.new;
          clients = subst (λ (k : ℕ). AreServed s k (clients_in c.in_ok-clients.clients) []) (sym (empties_count n))
              (c.in_ok-clients.ensures.none s);
          told = c.new-3.ensures.empty;
          earlier = subst (λ (es : List (Option Earlier)). AllRemember s es (start_of s)) (sym c.new-4.ensures.items) (none_remember s);
        };
        drives = c.in_ok-new.ensures.none;
        members = empties_count n;
        awake = refl;
      };
    }

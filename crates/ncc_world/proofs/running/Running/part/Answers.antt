use Rattle.std.proofs.Common.{◌-◌}
use Rattle.std.proofs.lemmas.Result.{on_ok_weaker}
use Rattle.ncc_clients.specs.Drives.{feeds}
use Rattle.ncc_world.specs.Setting.{cluster_of}
use Rattle.ncc_world.proofs.running.Running.part.Goals as goal

pub close_on-requires : goal.close_on-requires
close_on-requires c =
    let h = c.requires.live.1 in
    record {
      live = record {
        run = feeds (cluster_of c.args.setup.now) h.run (c.args.conn - 1) c.args.bytes;
        runs_as = (c.in_ok-feed_on.ensures.ok c.requires.live.0 h.left h.pending h.run h.runs_mid).runs_as;
      };
    }

pub returns-clause-ok : goal.returns-clause-ok
returns-clause-ok c =
    on_ok_weaker c.close_on.result (λ f at left pending r k.
    f at left pending (feeds (cluster_of c.args.setup.now) r (c.args.conn - 1) c.args.bytes) (c.in_ok-feed_on.ensures.ok at left pending r k))
    c.close_on.ensures.ok

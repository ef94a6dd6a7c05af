-- What holds of clients of whatever cluster, at clusters over one list.
use Rattle.ncc_tx.proofs.Steps.{same_steps}
use Rattle.ncc_clients.proofs.Sessions.{known}
use Rattle.ncc_clients.proofs.Drivers.{driver_says}
use Rattle.ncc_clients.proofs.Whole.{all_is_kept, rest_forgets_nobody}
use Rattle.ncc_world.specs.declared.setup.Setup.{Setup}
use Rattle.ncc_world.specs.Setting.{cluster_of}
use Rattle.ncc_world.specs.Headline.{EveryRunKeeps, OneRun}
use Rattle.ncc_world.proofs.Settling.{turns_are_small, one_way}
use Rattle.ncc_world.proofs.Coursing.{sessions_read_their_writes}
use Rattle.ncc_world.proofs.Whole.{Clients, every_run_keeps, one_run_of_each}

clients_of : (s : Setup) → Clients s
clients_of s = record {
  all_is_kept = all_is_kept (cluster_of s) known;
  rest_forgets_nobody = rest_forgets_nobody (cluster_of s) known;
  turns_are_small = turns_are_small (cluster_of s);
  one_way = one_way same_steps (cluster_of s);
  same_steps = same_steps;
  sessions_read = λ setup es end may ran. sessions_read_their_writes known driver_says s setup es end may ran;
}

pub keeps : EveryRunKeeps
keeps = every_run_keeps clients_of

pub one : OneRun
one = one_run_of_each clients_of

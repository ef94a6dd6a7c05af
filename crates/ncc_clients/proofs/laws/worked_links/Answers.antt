use Rattle.ncc_clients.proofs.Worked.{requests_count, bytes_move, requests_move, addresses_name, work_joins, nobody_is_there, cuts_drop}
use Rattle.ncc_clients.proofs.Worked.{sleepers_wake, stale_is_refuted}
use Rattle.ncc_clients.proofs.laws.worked_links.Goals as goal

pub returns : goal.returns
returns c = record {
  count = requests_count;
  bytes = bytes_move;
  requests = requests_move;
  names = addresses_name;
  joins = work_joins;
  nobody = nobody_is_there;
  cuts = cuts_drop;
  wakes = sleepers_wake;
  stale = stale_is_refuted;
}

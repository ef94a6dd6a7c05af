-- The promise.
use Rattle.ncc_clients.specs.Members.{Cluster}
use Rattle.ncc_clients.specs.Laws.{AllIsKept, RestForgetsNobody}
use Rattle.ncc_clients.proofs.Known.{Known}
use Rattle.ncc_clients.proofs.Keeping.{sound_at}
use Rattle.ncc_clients.proofs.Vanishing.{nobody_vanishes}
use Rattle.ncc_clients.proofs.Claims.{places_are_apart}
use Rattle.ncc_clients.proofs.Lawfully.{each_fact_is_lawful}
use Rattle.ncc_clients.proofs.Needing.{stands_behind_its_need}
use Rattle.ncc_clients.proofs.Resting.{nobody_is_forgotten}

pub all_is_kept : {S : Type 0} (C : Cluster S) → Known → AllIsKept C
all_is_kept C known start end four way = record {
  members_agree = λ r from to. four.begins r end from to;
  each_fact_is_lawful = each_fact_is_lawful C start known four end;
  stands_behind_its_need = stands_behind_its_need C start known four;
  places_are_apart = places_are_apart C start four end way;
  all_are_served = λ i c there. ((sound_at C start known four end way).each i c there).served;
  nobody_vanishes = λ r from to. nobody_vanishes C r end to;
}

pub rest_forgets_nobody : {S : Type 0} (C : Cluster S) → Known → RestForgetsNobody C
rest_forgets_nobody C known start r four from rest = nobody_is_forgotten C start known four r from rest

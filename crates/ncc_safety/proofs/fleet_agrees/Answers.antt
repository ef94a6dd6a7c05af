-- The laws are the lemmas.
use Rattle.ncc_safety.proofs.FleetLaws as lemmas
use Rattle.ncc_safety.proofs.fleet_agrees.Goals as goal

pub returns : goal.returns
returns c = record {
  begins = lemmas.lists_begin;
  grows = lemmas.history_goes_on;
  moves = lemmas.moves_keep;
  proposals = lemmas.proposals_keep;
  restarts = lemmas.restarts_keep;
  stays = lemmas.placed_stays;
  behind = lemmas.placed_behind;
  within = lemmas.placed_within;
  apart = lemmas.placed_apart;
  elsewhere = lemmas.refuses_elsewhere;
  full = lemmas.full_at_limit;
}

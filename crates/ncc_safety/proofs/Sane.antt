-- All that holds of a cluster.
use Rattle.std.proofs.Common.{◌≡◌, ℕ, refl, ◌∙◌}
use Rattle.ncc_safety.specs.Cluster.{Cluster, start}
use Rattle.ncc_safety.specs.Steps.{Step, Raises, Stands, Votes, Repeats, Refuses, Counts, Wins, Follows, Takes, Tells, Notes, Advances, Writes, Sends, Restarts, Pulled, Serves, Extends, Forgets, Looks, Steps, Still, Then}
use Rattle.ncc_safety.proofs.Voting.{Good, Grows, grows_none, grows_more}
use Rattle.ncc_safety.proofs.VoteSteps.{step_votes, start_good}
use Rattle.ncc_safety.proofs.Logs.{Logs, LogGrows, log_grows_none, log_grows_more}
use Rattle.ncc_safety.proofs.LogSteps.{step_log, start_logs}
use Rattle.ncc_safety.proofs.Chosen.{Safe}
use Rattle.ncc_safety.proofs.ChosenSteps.{step_chosen, start_safe}
use Rattle.ncc_safety.proofs.Commits.{Commits}
use Rattle.ncc_safety.proofs.CommitSteps.{step_commit, start_commits}
use Rattle.ncc_safety.proofs.Fronts.{Fronts, step_fronts, start_fronts}
use Rattle.ncc_safety.proofs.Limits.{Fits, step_fits, start_fits}

pub record Sane (c : Cluster) : Type 0 where
  pub good : Good c
  pub logs : Logs c
  pub safe : Safe c
  pub commits : Commits c
  pub fronts : Fronts c
  pub fits : Fits c

pub sane_step : (c d : Cluster) → Step c d → Sane c → Sane d
sane_step c d s k = record {
  good = (step_votes c d s k.good).good;
  logs = (step_log c d s k.good k.logs).good;
  safe = step_chosen c d s k.good k.logs k.safe;
  commits = step_commit c d s k.good k.logs k.safe k.commits;
  fronts = step_fronts c d s k.good k.logs k.safe k.commits k.fronts;
  fits = step_fits c d s k.logs k.fits;
}

pub sane_start : (cores replicas limit : ℕ) → Sane (start cores replicas limit)
sane_start n r limit = record {
  good = start_good n r limit;
  logs = start_logs n r limit;
  safe = start_safe n r limit;
  commits = start_commits n r limit;
  fronts = start_fronts n r limit;
  fits = start_fits n r limit;
}

-- what small steps keep, and what they let grow
pub record Later (c d : Cluster) : Type 0 where
  pub sane : Sane d
  pub votes : Grows c.records d.records
  pub logs : LogGrows c.records d.records
  pub cores : d.cores ≡ c.cores
  pub replicas : d.replicas ≡ c.replicas
  pub limit : d.limit ≡ c.limit

abbrev pub SameSize : Cluster → Cluster → Type 0
SameSize c d = (d.cores ≡ c.cores) × (d.replicas ≡ c.replicas) × (d.limit ≡ c.limit)

step_size : (c d : Cluster) → Step c d → SameSize c d
step_size c d (Raises i t lt) = (refl, refl, refl)
step_size c d (Stands i nz) = (refl, refl, refl)
step_size c d (Votes i from place last s none utd) = (refl, refl, refl)
step_size c d (Repeats i from nz e) = (refl, refl, refl)
step_size c d (Refuses i to t) = (refl, refl, refl)
step_size c d (Counts i from nz s r) = (refl, refl, refl)
step_size c d (Wins i r has) = (refl, refl, refl)
step_size c d (Follows i from) = (refl, refl, refl)
step_size c d (Takes i from prev pterm commit items s r hp) = (refl, refl, refl)
step_size c d (Tells i to t place) = (refl, refl, refl)
step_size c d (Notes i from place b nz s r) = (refl, refl, refl)
step_size c d (Advances i r) = (refl, refl, refl)
step_size c d (Writes i entry r room) = (refl, refl, refl)
step_size c d (Sends i to prev count commit items r l le e) = (refl, refl, refl)
step_size c d (Restarts i commit) = (refl, refl, refl)
step_size c d (Pulled from to have) = (refl, refl, refl)
step_size c d (Serves i to before count items e) = (refl, refl, refl)
step_size c d (Extends j from first items log s e) = (refl, refl, refl)
step_size c d (Forgets j) = (refl, refl, refl)
step_size c d Looks = (refl, refl, refl)

pub later : (c d : Cluster) → Steps c d → Sane c → Later c d
later c d Still k = record {
  sane = k;
  votes = grows_none c.records;
  logs = log_grows_none c.records;
  cores = refl;
  replicas = refl;
  limit = refl;
}
later c e (Then {d = d} ss s) k =
    let a = later c d ss k in
    let z = step_size d e s in
    record {
      sane = sane_step d e s a.sane;
      votes = grows_more c.records d.records e.records a.votes (step_votes d e s a.sane.good).grows;
      logs = log_grows_more c.records d.records e.records a.logs (step_log d e s a.sane.good a.sane.logs).grows;
      cores = z.0 ∙ a.cores;
      replicas = z.1 ∙ a.replicas;
      limit = z.2 ∙ a.limit;
    }

pub sane_steps : (c d : Cluster) → Steps c d → Sane c → Sane d
sane_steps c d s k = (later c d s k).sane

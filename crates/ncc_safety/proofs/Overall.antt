-- The laws, of each run.
use Rattle.std.proofs.Common.{ℕ, List, [], ◌∷◌, arith}
use Rattle.ncc_safety.specs.Cluster.{Cluster, new_member, start}
use Rattle.ncc_safety.specs.Laws.{OverTime, Always, OneLeader, LeaderGrows, Elected, LogsMatch, AppendsCut, Matched, ChosenStays, AllOneLine, InHistory, HistoryGrows, NeverNoted, NeverRefused, Applied}
use Rattle.ncc_safety.specs.Nine.{Stays}
use Rattle.ncc_safety.specs.Run.{Event, moves, happens, run}
use Rattle.ncc_safety.specs.Steps.{Steps}
use Rattle.ncc_safety.proofs.History.{chosen_stays, all_one_line, in_history, history_grows, Covered, looked_covered, applied_so}
use Rattle.ncc_safety.proofs.Matching.{logs_match, appends_cut, matched}
use Rattle.ncc_safety.proofs.Nines.{stays_of}
use Rattle.ncc_safety.proofs.Owners.{one_leader, leader_grows, elected}
use Rattle.ncc_safety.proofs.Quiet.{never_noted, never_refused}
use Rattle.ncc_safety.proofs.Runs.{run_steps, run_more, sane_run}
use Rattle.ncc_safety.proofs.Sane.{Sane}

-- what small steps from a sound state keep holds over time
over_time : (P : Cluster → Cluster → Type 0) → ((c d : Cluster) → Steps c d → Sane c → P c d) → OverTime P
over_time P h n r limit early late =
    let c : Cluster = run early (start n r limit) in
    let k = sane_run early n r limit in
    rw (run_more early late (start n r limit)) (h c (run late c) (run_steps late c k) k)

always : (P : Cluster → Type 0) → ((c : Cluster) → Sane c → P c) → Always P
always P h n r limit es = h (run es (start n r limit)) (sane_run es n r limit)

pub leads : OverTime OneLeader
leads = over_time OneLeader (λ c d s k. one_leader c d s k)

pub leader_logs_grow : OverTime LeaderGrows
leader_logs_grow = over_time LeaderGrows (λ c d s k. leader_grows c d s k)

pub votes : Always Elected
votes = always Elected elected

pub logs : OverTime LogsMatch
logs = over_time LogsMatch (λ c d s k. logs_match c d s k)

pub cuts : OverTime AppendsCut
cuts = over_time AppendsCut (λ c d s k. appends_cut c d s k)

pub log_records : Always Matched
log_records = always Matched matched

pub told : OverTime ChosenStays
told = over_time ChosenStays (λ c d s k. chosen_stays c d s k)

pub chosen_record : Always Stays
chosen_record = always Stays stays_of

pub line : OverTime AllOneLine
line = over_time AllOneLine (λ c d s k. all_one_line c d s k)

pub growing : OverTime HistoryGrows
growing = over_time HistoryGrows (λ c d s k. history_grows c d s k)

covered_start : (n r limit : ℕ) → Covered (start n r limit)
unfolding new_member
covered_start n r limit = record { cores = λ i lo hi. omega arith; lists = λ j lo hi. omega arith }

covered_run : (es : List Event) (c : Cluster) → Covered c → Covered (run es c)
unfolding happens
covered_run [] c k = k
covered_run (e ∷ es) c k = covered_run es (happens c e) (looked_covered (moves c e))

pub in_line : OverTime InHistory
in_line n r limit early late =
    let c : Cluster = run early (start n r limit) in
    let k = sane_run early n r limit in
    rw (run_more early late (start n r limit))
    (in_history c (run late c) (run_steps late c k) k (covered_run early (start n r limit) (covered_start n r limit)))

pub noted_never : Always NeverNoted
noted_never = always NeverNoted never_noted

pub refused_never : Always NeverRefused
refused_never = always NeverRefused never_refused

pub applied_records : Always Applied
applied_records = always Applied applied_so

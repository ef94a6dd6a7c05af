-- Worked runs. What a leader sends by itself is left closed in them: where its items count, a Send or a Serve takes its place.
use Rattle.std.proofs.Common.{◌≡◌, ℕ, false, List, [], ◌∷◌, ◌++◌, slice_get, Some, refl}
use Rattle.ncc_tx.specs.declared.entry.Entry.TheVariants.{Noop}
use Rattle.ncc_tx.specs.declared.entry.Item.{Item}
use Rattle.ncc_raft.specs.declared.message.Body.TheVariants.{AppendReply, Batch}
use Rattle.ncc_raft.specs.declared.message.RaftRole.TheVariants.{Leader, Candidate}
use Rattle.ncc_raft.specs.Member.{majority, is_core, letter}
use Rattle.ncc_raft.specs.Logs.{last_term, up_to_date, merged, accepted, first_conflict, allowed_front}
use Rattle.ncc_raft.specs.Appending.{greatest}
use Rattle.ncc_raft.specs.Step.{step}
use Rattle.ncc_raft.specs.Pulled.{taken}
use Rattle.ncc_safety.specs.Cluster.{put, put2, grown, new_member, no_records, start}
use Rattle.ncc_safety.specs.Run.{Timeout, Propose, Deliver, Event, Acts, Pulls, Crash, Send, Serve, happens, run}

abbrev noop : ℕ → Item
noop t = record { term = t; entry = Noop }

-- ---- three cores and a replica

-- core 1 is elected in term 1 with the vote of core 2 (messages 1 to 4), and appends an empty entry
abbrev elects : List Event
elects = Acts (Timeout 1) ∷ Acts (Deliver 1) ∷ Acts (Deliver 2) ∷ Acts (Deliver 4) ∷ []

-- core 2 takes it (a Send, message 7), and core 1 commits it
abbrev commits : List Event
commits = elects ++ (Send 1 2 0 1 0 ∷ Acts (Deliver 7) ∷ Acts (Deliver 8) ∷ [])

-- the replica asks (message 9), and core 1 answers it (10) and serves it (11)
abbrev serves : List Event
serves = commits ++ (Pulls 4 1 ∷ Acts (Deliver 9) ∷ Serve 1 4 0 1 ∷ Acts (Deliver 11) ∷ [])

record IsThreeCores : Type 0 where
  leads : ((run elects (start 3 1 10)).at 1).role ≡ Leader
  committed : ((run commits (start 3 1 10)).at 1).commit ≡ 1
  answered : slice_get (run serves (start 3 1 10)).sent 9 ≡ Some (letter 1 4 (Batch 1 (allowed_front (noop 1 ∷ []))))
  served : (run serves (start 3 1 10)).lists 4 ≡ noop 1 ∷ []
  history_is : (run serves (start 3 1 10)).history ≡ noop 1 ∷ []

three_cores : IsThreeCores
unfolding put put2 majority is_core last_term up_to_date merged accepted first_conflict greatest step taken grown
    happens new_member no_records
three_cores = record { leads = refl; committed = refl; answered = refl; served = refl; history_is = refl }

-- ---- an old leader

-- core 1 proposes (7, 8); cores 2 and 3 elect core 2 in term 2 (9 to 12), which sends core 1 its log (15); a late Append of core 1 (6)
-- comes to core 3
abbrev replaces : List Event
replaces = elects ++ (Acts (Propose 1 Noop) ∷ Acts (Timeout 2) ∷ Acts (Deliver 10) ∷ Acts (Deliver 11) ∷
    Acts (Deliver 12) ∷ Send 2 1 0 1 0 ∷ Acts (Deliver 15) ∷ Acts (Deliver 6) ∷ [])

record IsOldLeader : Type 0 where
  had : ((run (elects ++ (Acts (Propose 1 Noop) ∷ [])) (start 3 0 10)).at 1).log ≡ noop 1 ∷ noop 1 ∷ []  -- what core 1 had is gone
  replaced : ((run replaces (start 3 0 10)).at 1).log ≡ noop 2 ∷ []
  refused : slice_get (run replaces (start 3 0 10)).sent 16 ≡ Some (letter 3 1 (AppendReply 2 false 0))

old_leader : IsOldLeader
unfolding put put2 majority is_core last_term up_to_date merged accepted first_conflict greatest step taken grown
    happens new_member no_records
old_leader = record { had = refl; replaced = refl; refused = refl }

-- ---- five cores, as in Figure 8 of the extended Raft paper

-- (a) core 1 leads term 1, and core 2 alone has its item
abbrev figure_a : List Event
figure_a = Acts (Timeout 1) ∷ Acts (Deliver 1) ∷ Acts (Deliver 2) ∷ Acts (Deliver 3) ∷ Acts (Deliver 6) ∷
    Acts (Deliver 7) ∷ Send 1 2 0 1 0 ∷ Acts (Deliver 12) ∷ []

-- (b) core 5 leads term 2, with the votes of 3 and 4
abbrev figure_b : List Event
figure_b = figure_a ++ (Acts (Timeout 5) ∷ Acts (Timeout 5) ∷ Acts (Deliver 21) ∷ Acts (Deliver 22) ∷ Acts (Deliver 23) ∷
    Acts (Deliver 24) ∷ Acts (Deliver 25) ∷ [])

-- (c) both crash; core 1 leads term 3, and sends 2 and 3 its log, but not the empty entry of term 3
abbrev figure_c : List Event
figure_c = figure_b ++ (Crash 5 0 ∷ Crash 1 0 ∷ Acts (Timeout 1) ∷ Acts (Timeout 1) ∷ Acts (Deliver 35) ∷
    Acts (Deliver 36) ∷ Acts (Deliver 37) ∷ Acts (Deliver 40) ∷ Acts (Deliver 41) ∷ Send 1 3 0 1 0 ∷
    Acts (Deliver 46) ∷ Acts (Deliver 47) ∷ Send 1 2 0 1 0 ∷ Acts (Deliver 48) ∷ Acts (Deliver 49) ∷ [])

-- (d) core 5 leads term 4, and core 3 takes its log
abbrev figure_d : List Event
figure_d = figure_c ++ (Acts (Timeout 5) ∷ Acts (Timeout 5) ∷ Acts (Deliver 57) ∷ Acts (Deliver 56) ∷ Acts (Deliver 59) ∷
    Acts (Deliver 60) ∷ Acts (Deliver 61) ∷ Send 5 3 0 2 0 ∷ Acts (Deliver 66) ∷ [])

-- (e) 2 and 3 take the empty entry of term 3; then core 5 stands in term 4
abbrev figure_e : List Event
figure_e = figure_c ++ (Send 1 2 1 1 0 ∷ Acts (Deliver 50) ∷ Send 1 3 1 1 0 ∷ Acts (Deliver 52) ∷ Acts (Deliver 51) ∷
    Acts (Deliver 53) ∷ Acts (Timeout 5) ∷ Acts (Timeout 5) ∷ Acts (Deliver 60) ∷ Acts (Deliver 61) ∷
    Acts (Deliver 62) ∷ Acts (Deliver 63) ∷ Acts (Deliver 66) ∷ [])

record IsFigure8 : Type 0 where
  waits : ((run figure_c (start 5 0 10)).at 1).commit ≡ 0  -- a majority has the item of term 1, which is not committed
  has_it : ((run figure_c (start 5 0 10)).at 3).log ≡ noop 1 ∷ []
  lost : ((run figure_d (start 5 0 10)).at 3).log ≡ noop 2 ∷ noop 4 ∷ []  -- and it is replaced
  nothing_applied : (run figure_d (start 5 0 10)).history ≡ []
  stays : (run figure_e (start 5 0 10)).history ≡ noop 1 ∷ noop 3 ∷ []  -- behind an item of the own term it is committed, and core 5 is not elected
  not_elected : ((run figure_e (start 5 0 10)).at 5).role ≡ Candidate

figure_8 : IsFigure8
unfolding put put2 majority is_core last_term up_to_date merged accepted first_conflict greatest step taken grown
    happens new_member no_records
figure_8 = record { waits = refl; has_it = refl; lost = refl; nothing_applied = refl; stays = refl; not_elected = refl }

-- ---- a term that nobody leads

-- each of three cores votes for itself in term 1; then core 1 is elected in term 2
abbrev split : List Event
split = Acts (Timeout 1) ∷ Acts (Timeout 2) ∷ Acts (Timeout 3) ∷ Acts (Deliver 4) ∷ Acts (Deliver 2) ∷
    Acts (Timeout 1) ∷ Acts (Deliver 12) ∷ Acts (Deliver 13) ∷ Acts (Deliver 15) ∷ []

record IsNoOwner : Type 0 where
  nobody : (run split (start 3 0 10)).records.owner 1 ≡ 0
  somebody : (run split (start 3 0 10)).records.owner 2 ≡ 1

no_owner : IsNoOwner
unfolding put put2 majority is_core last_term up_to_date merged accepted first_conflict greatest step taken grown
    happens new_member no_records
no_owner = record { nobody = refl; somebody = refl }

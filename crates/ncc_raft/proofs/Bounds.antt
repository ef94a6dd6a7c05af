-- Bounds that a sound core has.
use Rattle.std.proofs.Common.{◌≡◌, ℕ, ◌^◌, ◌-◌, ◌<◌, ◌≤◌, Bool, true, length, sym, ◌∙◌, arith}
use Rattle.std.specs.Prelude.{nat_eq, ◌&&◌, slice_index_or}
use Rattle.std.proofs.lemmas.Bool.{and_parts}
use Rattle.ncc_raft.specs.declared.state.Seat as held
use Rattle.ncc_raft.specs.declared.state.Standing.{Standing}
use Rattle.ncc_raft.specs.declared.state.State.{State}
use Rattle.ncc_raft.specs.Member.{is_leader}
use Rattle.ncc_raft.specs.State.{IsSoundAt}
use Rattle.ncc_raft.proofs.Carrying.{core_is}

pub votes_in : (seat : held.Seat) (st : Standing) (s : State) (from : ℕ) → IsSoundAt seat st s → from ≤ seat.cores → from ≤ length s.votes
unfolding IsSoundAt
votes_in seat st s from x le = omega (arith, x.votes)

pub votes_few : (seat : held.Seat) (st : Standing) (s : State) → IsSoundAt seat st s → seat.cores ≤ 7 → length s.votes ≤ 7
unfolding IsSoundAt
votes_few seat st s x le = omega (arith, x.votes)

pub match_few : (seat : held.Seat) (st : Standing) (s : State) → IsSoundAt seat st s → seat.cores ≤ 7 → length s.matches ≤ 7
unfolding IsSoundAt
match_few seat st s x le = omega (arith, x.match)

pub next_in : (seat : held.Seat) (st : Standing) (s : State) → IsSoundAt seat st s → length s.next ≡ seat.cores
unfolding IsSoundAt
next_in seat st s x = x.next

pub next_at : (seat : held.Seat) (st : Standing) (s : State) (from : ℕ) → IsSoundAt seat st s → from ≤ seat.cores → from ≤ length s.next
unfolding IsSoundAt
next_at seat st s from x le = omega (arith, x.next)

pub match_at : (seat : held.Seat) (st : Standing) (s : State) (from : ℕ) → IsSoundAt seat st s → from ≤ seat.cores → from ≤ length s.matches
unfolding IsSoundAt
match_at seat st s from x le = omega (arith, x.match)

pub log_at : (seat : held.Seat) (st : Standing) (s : State) → IsSoundAt seat st s → length s.log < 2 ^ 62
unfolding IsSoundAt
log_at seat st s x = omega (arith, x.saved.few)

pub commit_at : (seat : held.Seat) (st : Standing) (s : State) → IsSoundAt seat st s → s.commit ≤ length s.log
unfolding IsSoundAt
commit_at seat st s x = x.commit

pub term_low : (seat : held.Seat) (st : Standing) (s : State) → IsSoundAt seat st s → st.term < 2 ^ 62
unfolding IsSoundAt
term_low seat st s x = x.saved.term

pub known_at : (seat : held.Seat) (st : Standing) (s : State) (from t : ℕ) (b : Bool) → IsSoundAt seat st s → 1 ≤ from → from ≤ seat.cores →
    b ≡ (is_leader st.role && nat_eq st.term t) → b ≡ true → slice_index_or s.matches (from - 1) 0 ≤ length s.log
unfolding IsSoundAt
known_at seat st s from t b x low high e f =
    let lead = (and_parts (is_leader st.role) (nat_eq st.term t) (sym e ∙ f)).0 in
    let l = x.leads lead from (core_is seat.cores from low high) in
    omega (arith, l.0, l.1)

-- what a leader knows of the core that answers
pub ruleset of_other = (next_at, match_at, known_at, log_at)

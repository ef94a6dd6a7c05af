-- Worked runs of a fleet.
use Rattle.std.proofs.Common.{◌≡◌, true, [], ◌∷◌, map, slice_get, Some, refl}
use Rattle.ncc_tx.specs.declared.entry.Entry.TheVariants.{Noop}
use Rattle.ncc_tx.specs.declared.entry.Item.{Item}
use Rattle.ncc_tx.proofs.Entries.{noop_is}
use Rattle.ncc_raft.specs.declared.message.Envelope.{Envelope}
use Rattle.ncc_raft.specs.declared.message.Body.TheVariants.{VoteAsk, VoteReply, Pull, Batch}
use Rattle.ncc_raft.specs.Member.{Timeout, Receive, letter, majority, is_core}
use Rattle.ncc_raft.specs.Logs.{last_term, up_to_date, allowed_front}
use Rattle.ncc_raft.specs.Appending.{greatest}
use Rattle.ncc_raft.specs.Step.{step}
use Rattle.ncc_safety.specs.Cluster.{grown, new_member}
use Rattle.ncc_safety.specs.Fleet.{Shape, Fleet, applied_lists, steps_to, starts_again, also_sends, fleet_start, TimesOut, Hears, Asks, Again}
use Rattle.ncc_safety.specs.Fleet.{leads, proposed, Elsewhere, Full, Placed, answer, Seen, seen_next, seen_start, ByMove, ByProposal}
use Rattle.ncc_safety.specs.Fleet.{ByRestart, Here, Then, Reached}

-- ---- one core, which leads as soon as it has its own vote, and a replica

abbrev shape : Shape
shape = record { cores = 1; replicas = 1; limit = 2 }

abbrev noop : Item
noop = record { term = 1; entry = Noop }

abbrev vote : Envelope
vote = letter 1 1 (VoteReply 1 true)

-- its time runs out, its own vote comes to it, it takes a proposal, the replica asks, and it starts again
abbrev stands : Fleet
stands = steps_to shape (fleet_start shape) 1 Timeout

abbrev elected : Fleet
elected = steps_to shape stands 1 (Receive vote)

abbrev written : Fleet
written = proposed shape elected 1 Noop

abbrev asked : Fleet
asked = also_sends written (letter 2 1 (Pull 0) ∷ [])

abbrev served : Fleet
served = steps_to shape asked 1 (Receive (letter 2 1 (Pull 0)))

abbrev again : Fleet
again = starts_again shape served 1

record IsOneCore : Type 0 where
  early : answer shape stands 1 Noop ≡ Elsewhere
  leading : leads shape elected 1 ≡ true
  placed : answer shape elected 1 Noop ≡ Placed 2 1 written
  full : answer shape written 1 Noop ≡ Full 2
  sent : served.sent ≡ vote ∷ letter 2 1 (Pull 0) ∷ letter 1 2 (Batch 1 (allowed_front (noop ∷ noop ∷ []))) ∷ []
  before : applied_lists served ≡ (noop ∷ noop ∷ []) ∷ [] ∷ []
  behind : applied_lists again ≡ [] ∷ [] ∷ []

one_core : IsOneCore
unfolding majority is_core last_term greatest step new_member
one_core = record { early = refl; leading = refl; placed = refl; full = refl; sent = refl; before = refl; behind = refl }

-- ---- all of it as one path; what the core has applied stays in the history

abbrev at_stands : Seen
at_stands = seen_next (seen_start shape) stands

abbrev at_elected : Seen
at_elected = seen_next at_stands elected

abbrev at_written : Seen
at_written = seen_next at_elected written

abbrev at_asked : Seen
at_asked = seen_next at_written asked

abbrev at_served : Seen
at_served = seen_next at_asked served

abbrev at_again : Seen
at_again = seen_next at_served again

record IsPath : Type 0 where
  path : Reached shape at_again
  history : at_again.history ≡ noop ∷ noop ∷ []

one_path : IsPath
unfolding majority is_core last_term greatest step new_member grown
one_path = record {
  path = Then (seen_start shape) at_stands at_again (ByMove stands (TimesOut 1 refl))
      (Then at_stands at_elected at_again (ByMove elected (Hears vote refl (0, refl)))
      (Then at_elected at_written at_again (ByProposal 1 Noop 2 1 written (record { allowed = noop_is; placed = refl }))
      (Then at_written at_asked at_again (ByMove asked (Asks 2 1 refl refl))
      (Then at_asked at_served at_again (ByMove served (Hears (letter 2 1 (Pull 0)) refl (1, refl)))
      (Then at_served at_again at_again (ByRestart 1 again (Again refl)) (Here at_again))))));
  history = refl;
}

-- ---- three cores: two proposals of two terms get one place, and the first of them is lost

abbrev three : Shape
three = record { cores = 3; replicas = 0; limit = 10 }

abbrev hears : Fleet → Envelope → Fleet
hears f e = steps_to three f e.to (Receive e)

-- core 1 leads term 1, by its own vote and that of core 2
abbrev first_leads : Fleet
first_leads = hears (hears (hears (steps_to three (fleet_start three) 1 Timeout) vote) (letter 1 2 (VoteAsk 1 0 0)))
    (letter 2 1 (VoteReply 1 true))

-- then core 2 leads term 2, by its own vote and that of core 3, which have no item
abbrev second_leads : Fleet
second_leads = hears (hears (hears (steps_to three (proposed three first_leads 1 Noop) 2 Timeout) (letter 2 2 (VoteReply 2 true)))
    (letter 2 3 (VoteAsk 2 0 0))) (letter 3 2 (VoteReply 2 true))

record IsOnePlace : Type 0 where
  first : answer three first_leads 1 Noop ≡ Placed 2 1 (proposed three first_leads 1 Noop)
  second : answer three second_leads 2 Noop ≡ Placed 2 2 (proposed three second_leads 2 Noop)
  -- each message was sent
  sent : map (λ n. slice_get second_leads.sent n) (0 ∷ 1 ∷ 3 ∷ 9 ∷ 10 ∷ 11 ∷ []) ≡
      Some vote ∷ Some (letter 1 2 (VoteAsk 1 0 0)) ∷ Some (letter 2 1 (VoteReply 1 true)) ∷ Some (letter 2 2 (VoteReply 2 true))
      ∷ Some (letter 2 3 (VoteAsk 2 0 0)) ∷ Some (letter 3 2 (VoteReply 2 true)) ∷ []

one_place : IsOnePlace
unfolding majority is_core last_term up_to_date greatest step new_member
one_place = record { first = refl; second = refl; sent = refl }

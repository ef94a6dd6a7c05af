-- The nine sentences hold.
use Rattle.std.proofs.Common.{◌≡◌, ℕ, ◌<◌, ◌≤◌, true, List, length, ◌⊎◌, refl, sym, ◌∙◌, inl, inr, arith}
use Rattle.std.proofs.lemmas.Bool.{cases_lt}
use Rattle.std.proofs.lemmas.Option.{slice_get_within}
use Rattle.ncc_tx.specs.declared.entry.Item.{Item}
use Rattle.ncc_raft.specs.declared.message.Body.TheVariants.{VoteAsk, VoteReply, Append, AppendReply, Batch}
use Rattle.ncc_raft.specs.Member.{letter}
use Rattle.ncc_safety.specs.Lists.{Agree}
use Rattle.ncc_safety.specs.Cluster.{Records, Cluster}
use Rattle.ncc_safety.specs.Sentences.{Sound, Within}
use Rattle.ncc_safety.specs.Nine.{Rises, IsLog, Logs, Candidates, Votes, Owners, Cuts, Tells, Acks, Stays, Fronts, Nine}
use Rattle.ncc_safety.proofs.VoteSteps.{one_of}
use Rattle.ncc_safety.proofs.LogSteps.{one_log_of}
use Rattle.ncc_safety.proofs.CommitSteps.{one_commit_of}
use Rattle.ncc_safety.proofs.Sane.{Sane}

-- a sound list rises
rises : (g : Records) (xs : List Item) → ((t : ℕ) → Within t (g.lead t)) → Sound g xs → Rises xs
rises g xs w s k l x y le ex ey =
    let a = s l y ey in
    w y.term k x (sym (a.1 k (omega arith)) ∙ ex)

is_log : (g : Records) (xs : List Item) → ((t : ℕ) → Within t (g.lead t)) → Sound g xs → IsLog g xs
is_log g xs w s = record { rises = rises g xs w s; sound = s }

-- what begins a sound list is sound
pub front_sound : (g : Records) (xs ys : List Item) → Agree (length xs) xs ys → Sound g ys → Sound g xs
front_sound g xs ys a s k x e =
    let w = slice_get_within xs k x e in
    let b = s k x (sym (a k w) ∙ e) in
    (b.0, λ j l. a j (omega arith) ∙ b.1 j l)

module _ (c : Cluster) (k : Sane c) where
  pub logs_of : Logs c
  logs_of =
      let w = k.logs.records.terms in
      record {
        members = λ i. is_log c.records (c.at i).log w (k.logs.members i).sound;
        terms = λ i. (k.logs.members i).terms;
        leads = λ t. is_log c.records (c.records.lead t) w (k.logs.records.sound t);
        starts = λ t. is_log c.records (c.records.start t) w
            (front_sound c.records (c.records.start t) (c.records.lead t) (k.safe.begins t) (k.logs.records.sound t));
        cands = λ t i l e. is_log c.records l w (k.logs.records.cands t i l e).0;
        vlogs = λ t i. is_log c.records (c.records.vlog t i) w (k.safe.vsound t i);
      }

  pub candidates_of : Candidates c
  candidates_of = record {
    stands = λ i. (k.good.members i).candidate;
    asks = λ i to t place last s. one_of c.records c.sent s.0 (letter i to (VoteAsk t place last)) k.good.messages s.1;
    leads = λ i. (k.good.members i).lead_log;
  }

  pub votes_of : Votes c
  votes_of = record {
    reached = λ t j v. reached t j v (cases_lt (c.at j).term t);
    own = λ j. (k.good.members j).voted;
    told = λ j i t s. (one_of c.records c.sent s.0 (letter j i (VoteReply t true)) k.good.messages s.1 refl).0;
    fresh = k.good.records.fresh;
  }
    where
      reached : (t j : ℕ) → (c.records.vote t j ≡ 0 → ⊥) → ((c.at j).term < t) ⊎ (t ≤ (c.at j).term) → t ≤ (c.at j).term
      reached t j v (inl l) = absurd (v ((k.good.members j).later t l))
      reached t j v (inr l) = l

  pub owners_of : Owners c.cores c.records
  owners_of = k.good.records.elected

  pub cuts_of : Cuts c
  cuts_of i to t prev pterm commit items s =
      let a = one_log_of c.records c.sent s.0 (letter i to (Append t prev pterm commit items)) k.logs.messages s.1 in
      record { low = a.0; same = a.1; cut = a.2 }

  pub tells_of : Tells c
  tells_of i to t prev pterm commit items s =
      one_commit_of c.cores c.records c.sent s.0 (letter i to (Append t prev pterm commit items)) k.commits.messages s.1

  -- a core that accepted something in a term has reached it
  pub acked_term : (t i : ℕ) → 0 < c.records.ack t i → t ≤ (c.at i).term
  acked_term t i l = go (cases_lt (c.at i).term t)
    where
      go : ((c.at i).term < t) ⊎ (t ≤ (c.at i).term) → t ≤ (c.at i).term
      go (inl lt) = let z = (k.logs.members i).no_ack t lt in absurd (omega arith)
      go (inr le) = le

  pub acks_of : Acks c
  acks_of = record {
    told = λ i to t place s. one_log_of c.records c.sent s.0 (letter i to (AppendReply t true place)) k.logs.messages s.1 refl;
    within = k.logs.records.ack_within;
    reached = acked_term;
    has = λ i. (k.logs.members i).acked;
    knows = λ i. (k.logs.members i).matched;
    own = λ i. (k.logs.members i).own_ack;
  }

  pub stays_of : Stays c
  stays_of = k.safe.stays

  pub fronts_of : Fronts c
  fronts_of = record {
    lists = k.fronts.lists;
    batches = λ i to first items s. one_commit_of c.cores c.records c.sent s.0 (letter i to (Batch first items)) k.commits.messages s.1;
    history = k.fronts.history;
  }

  pub nine : Nine c
  nine = record {
    logs = logs_of;
    candidates = candidates_of;
    votes = votes_of;
    owners = owners_of;
    cuts = cuts_of;
    tells = tells_of;
    acks = acks_of;
    stays = stays_of;
    commits = k.commits.members;
    fronts = fronts_of;
  }

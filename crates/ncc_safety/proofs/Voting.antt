-- What the records of votes say, and that it lasts.
use Rattle.std.proofs.Common.{◌≡◌, ℕ, ◌<◌, true, List, [], ◌∷◌, ◌++◌, length, Some, None, refl, ◌∙◌}
use Rattle.ncc_tx.specs.declared.entry.Item.{Item}
use Rattle.ncc_raft.specs.declared.message.Envelope.{Envelope}
use Rattle.ncc_raft.specs.declared.message.Body.{Body}
use Rattle.ncc_raft.specs.declared.message.Body.TheVariants.{VoteAsk, VoteReply, Append, AppendReply, Pull, Batch}
use Rattle.ncc_raft.specs.declared.message.RaftRole.TheVariants.{Leader, Candidate}
use Rattle.ncc_raft.specs.Member.{Member, has_vote_of}
use Rattle.ncc_raft.specs.Logs.{last_term}
use Rattle.ncc_safety.specs.Cluster.{Records, Cluster, moved, stepped, quiet, beside, said}
use Rattle.ncc_safety.specs.Nine.{Fresh, Owners}
use Rattle.ncc_safety.proofs.Puts.{put_all}

-- what a member has is in the records
pub record MemberOk (g : Records) (i : ℕ) (m : Member) : Type 0 where
  pub voted : g.vote m.term i ≡ m.vote
  pub later : (t : ℕ) → m.term < t → g.vote t i ≡ 0
  pub no_cand : (t : ℕ) → m.term < t → g.cand t i ≡ None
  pub candidate : m.role ≡ Candidate → g.cand m.term i ≡ Some m.log
  pub stands : m.role ≡ Candidate → i ≡ 0 → ⊥
  pub counted : m.role ≡ Candidate → (j : ℕ) → 0 < j → has_vote_of m j ≡ true → g.vote m.term j ≡ i
  pub leads : m.role ≡ Leader → (g.owner m.term ≡ i) × (i ≡ 0 → ⊥)
  pub lead_log : m.role ≡ Leader → g.lead m.term ≡ m.log

-- what a message tells is in the records
abbrev pub BodyOk : Records → ℕ → ℕ → Body → Type 0
BodyOk g from to (VoteAsk t place last) = (l : List Item) × (g.cand t from ≡ Some l) × (length l ≡ place) × (last_term l ≡ last)
BodyOk g from to (VoteReply t granted) = granted ≡ true → (g.vote t from ≡ to) × (to ≡ 0 → ⊥)
BodyOk g from to _ = Unit {0}

abbrev pub AllOk : Records → List Envelope → Type 0
AllOk g [] = Unit {0}
AllOk g (e ∷ es) = BodyOk g e.from e.to e.body × AllOk g es

pub record RecordsOk (n : ℕ) (g : Records) : Type 0 where
  pub core : (t i : ℕ) (l : List Item) → g.cand t i ≡ Some l → i ≡ 0 → ⊥
  pub elected : Owners n g
  pub fresh : Fresh g

pub record Good (c : Cluster) : Type 0 where
  pub members : (j : ℕ) → MemberOk c.records j (c.at j)
  pub messages : AllOk c.records c.sent
  pub records : RecordsOk c.cores c.records

-- what is once recorded stays
pub record Grows (g h : Records) : Type 0 where
  pub votes : (t j i : ℕ) → g.vote t j ≡ i → (i ≡ 0 → ⊥) → h.vote t j ≡ i
  pub cands : (t i : ℕ) (l : List Item) → g.cand t i ≡ Some l → h.cand t i ≡ Some l
  pub owners : (t i : ℕ) → g.owner t ≡ i → (i ≡ 0 → ⊥) → h.owner t ≡ i

-- nothing that is recorded of member j changes
pub record Same (j : ℕ) (g h : Records) : Type 0 where
  pub vote : (t : ℕ) → h.vote t j ≡ g.vote t j
  pub cand : (t : ℕ) → h.cand t j ≡ g.cand t j
  pub lead : (t : ℕ) → g.owner t ≡ j → (j ≡ 0 → ⊥) → h.lead t ≡ g.lead t

pub member_stays : (j : ℕ) (g h : Records) (m : Member) → Grows g h → Same j g h → MemberOk g j m → MemberOk h j m
member_stays j g h m gr sa k = record {
  voted = sa.vote m.term ∙ k.voted;
  later = λ t l. sa.vote t ∙ k.later t l;
  no_cand = λ t l. sa.cand t ∙ k.no_cand t l;
  candidate = λ r. sa.cand m.term ∙ k.candidate r;
  stands = k.stands;
  counted = λ r i p a. gr.votes m.term i j (k.counted r i p a) (k.stands r);
  leads = λ r. (gr.owners m.term j (k.leads r).0 (k.leads r).1, (k.leads r).1);
  lead_log = λ r. sa.lead m.term (k.leads r).0 (k.leads r).1 ∙ k.lead_log r;
}

pub body_stays : (g h : Records) → Grows g h → (from to : ℕ) (b : Body) → BodyOk g from to b → BodyOk h from to b
body_stays g h gr from to (VoteAsk t place last) k = (k.0, gr.cands t from k.0 k.1, k.2, k.3)
body_stays g h gr from to (VoteReply t b) k = λ e. (gr.votes t from to (k e).0 (k e).1, (k e).1)
body_stays g h gr from to (Append t prev pterm commit items) k = tt
body_stays g h gr from to (AppendReply t b place) k = tt
body_stays g h gr from to (Pull have) k = tt
body_stays g h gr from to (Batch first items) k = tt

pub all_stay : (g h : Records) → Grows g h → (es : List Envelope) → AllOk g es → AllOk h es
all_stay g h gr [] k = tt
all_stay g h gr (e ∷ es) k = (body_stays g h gr e.from e.to e.body k.0, all_stay g h gr es k.1)

pub all_more : (g : Records) (es fs : List Envelope) → AllOk g es → AllOk g fs → AllOk g (es ++ fs)
all_more g [] fs a b = b
all_more g (e ∷ es) fs a b = (a.0, all_more g es fs a.1 b)

-- from c on, what was recorded stays, and the records are good again
pub record Keeps (c d : Cluster) : Type 0 where
  pub good : Good d
  pub grows : Grows c.records d.records

pub grows_none : (g : Records) → Grows g g
grows_none g = record { votes = λ t j i e n. e; cands = λ t i l e. e; owners = λ t i e n. e }

pub grows_more : (f g h : Records) → Grows f g → Grows g h → Grows f h
grows_more f g h a b = record {
  votes = λ t j i e n. b.votes t j i (a.votes t j i e n) n;
  cands = λ t i l e. b.cands t i l (a.cands t i l e);
  owners = λ t i e n. b.owners t i (a.owners t i e n) n;
}

pub same_none : (j : ℕ) (g : Records) → Same j g g
same_none j g = record { vote = λ t. refl; cand = λ t. refl; lead = λ t e n. refl }

pub keeps_none : (c : Cluster) → Good c → Keeps c c
keeps_none c k = record { good = k; grows = grows_none c.records }

pub and_then : (b c d : Cluster) → Keeps b c → (Good c → Keeps c d) → Keeps b d
and_then b c d k f = record { good = (f k.good).good; grows = grows_more b.records c.records d.records k.grows (f k.good).grows }

-- one member changes
pub moved_keeps : (c : Cluster) (i : ℕ) (m : Member) (all : List Envelope) (h : Records) → Good c → Grows c.records h →
    ((j : ℕ) → (j ≡ i → ⊥) → Same j c.records h) → MemberOk h i m → AllOk h all → RecordsOk c.cores h → Keeps c (moved c i m all h)
moved_keeps c i m all h k gr sa here told rec = record {
  good = record {
    members = put_all (λ j x. MemberOk h j x) c.at i m here (λ j ne. member_stays j c.records h (c.at j) gr (sa j ne) (k.members j));
    messages = told;
    records = rec;
  };
  grows = gr;
}

-- one member's step
pub step_keeps : (c : Cluster) (i : ℕ) (m : Member) (new : List Envelope) (h : Records) → Good c → Grows c.records h →
    ((j : ℕ) → (j ≡ i → ⊥) → Same j c.records h) → MemberOk h i m → AllOk h new → RecordsOk c.cores h → Keeps c (stepped c i m new h)
step_keeps c i m new h k gr sa here told rec =
    moved_keeps c i m (c.sent ++ new) h k gr sa here (all_more h c.sent new (all_stay c.records h gr c.sent k.messages) told) rec

-- a step that changes no record and sends nothing
pub quiet_keeps : (c : Cluster) (i : ℕ) (m : Member) → Good c → MemberOk c.records i m → Keeps c (quiet c i m)
quiet_keeps c i m k here = moved_keeps c i m c.sent c.records k (grows_none c.records) (λ j ne. same_none j c.records) here k.messages
    k.records

-- no core changes
pub beside_keeps : (c : Cluster) (lists : ℕ → List Item) (sent : List Envelope) (history : List Item) → Good c → AllOk c.records sent →
    Keeps c (beside c lists sent history)
beside_keeps c lists sent history k told =
    record { good = record { members = k.members; messages = told; records = k.records }; grows = grows_none c.records }

pub said_keeps : (c : Cluster) (new : List Envelope) → Good c → AllOk c.records new → Keeps c (said c new)
said_keeps c new k told = beside_keeps c c.lists (c.sent ++ new) c.history k (all_more c.records c.sent new k.messages told)

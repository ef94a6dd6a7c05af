-- What is committed was chosen.
use Rattle.std.proofs.Common.{◌≡◌, ℕ, zero, suc, ◌+◌, ◌≤◌, nat_lt, List, [], ◌∷◌, ◌++◌, length, slice_get, Some, ◌⊎◌, sym, ap, ◌∙◌, inl, inr, arith}
use Rattle.std.proofs.lemmas.Bool.{cases_eq, ltb-true, lt-ltb, or_left}
use Rattle.std.proofs.lemmas.Option.{slice_get_within}
use Rattle.ncc_tx.specs.declared.entry.Item.{Item}
use Rattle.ncc_raft.specs.declared.message.Envelope.{Envelope}
use Rattle.ncc_raft.specs.declared.message.Body.{Body}
use Rattle.ncc_raft.specs.declared.message.Body.TheVariants.{VoteAsk, VoteReply, Append, AppendReply, Pull, Batch}
use Rattle.ncc_raft.specs.Member.{Member}
use Rattle.ncc_safety.specs.Lists.{Agree}
use Rattle.ncc_safety.specs.Cluster.{Records, Cluster, moved, stepped, quiet, beside, said}
use Rattle.ncc_safety.specs.Nine as nine
use Rattle.ncc_safety.specs.Sentences.{holder, Choosable, Chosen, IsCommitted, IsPlaced}
use Rattle.ncc_safety.proofs.Puts.{put_all}
use Rattle.ncc_safety.proofs.Quorum.{majority_more}
use Rattle.ncc_safety.proofs.Agree.{get_some}
use Rattle.ncc_safety.proofs.Logs.{Logs, LogGrows, lead_agree, log_grows_none}
use Rattle.ncc_safety.proofs.Chosen.{Safe}

pub still_chosen : (n : ℕ) (g h : Records) (t k : ℕ) → LogGrows g h → Chosen n g t k → Chosen n h t k
still_chosen n g h t k gr ch = record {
  item = ch.item;
  there = gr.leads t k ch.item ch.there;
  own = ch.own;
  held = majority_more n (λ j. nat_lt k (g.ack t j)) (λ j. nat_lt k (h.ack t j))
      (λ j p e. let l = ltb-true k (g.ack t j) e in let a = gr.acks t j in lt-ltb k (h.ack t j) (omega arith)) ch.held;
}

pub choosable : (c : Cluster) (t k : ℕ) → Chosen c.cores c.records t k → Choosable c t k
choosable c t k ch = record {
  item = ch.item;
  there = ch.there;
  own = ch.own;
  held = majority_more c.cores (λ j. nat_lt k (c.records.ack t j)) (holder c t k) (λ j p e. or_left _ _ e) ch.held;
}

pub has_owner : (c : Cluster) (t k : ℕ) → Logs c → Chosen c.cores c.records t k → c.records.owner t ≡ 0 → ⊥
has_owner c t k logs ch z = let e = logs.records.no_lead t z in let f : slice_get [] k ≡ Some ch.item = rw e at ch.there in absurd (cc)

-- what was chosen in a term stands in every later term's log
pub chosen_leads : (c : Cluster) (t k u : ℕ) → Safe c → Chosen c.cores c.records t k → (c.records.owner u ≡ 0 → ⊥) → t ≤ u →
    Agree (suc k) (c.records.lead t) (c.records.lead u)
chosen_leads c t k u safe ch o le = go (cases_eq t u)
  where
    go : (t ≡ u) ⊎ (t ≡ u → ⊥) → Agree (suc k) (c.records.lead t) (c.records.lead u)
    go (inl e) j l = ap (λ w. slice_get (c.records.lead w) j) e
    go (inr ne) j l =
        let st = safe.stays.starts t k (choosable c t k ch) u (omega arith) o in
        let w = slice_get_within (c.records.start u) k ch.item (sym (st k (omega arith)) ∙ ch.there) in
        st j l ∙ safe.begins u j (omega arith)

abbrev pub BodyCommit : ℕ → Records → Body → Type 0
BodyCommit n g (Append t prev pterm commit items) = IsCommitted n g t commit (g.lead t)
BodyCommit n g (Batch first items) = (before : ℕ) × (first ≡ before + 1) × IsPlaced n g before items
BodyCommit n g _ = Unit {0}

abbrev pub AllCommit : ℕ → Records → List Envelope → Type 0
AllCommit n g [] = Unit {0}
AllCommit n g (e ∷ es) = BodyCommit n g e.body × AllCommit n g es

pub record Commits (c : Cluster) : Type 0 where
  pub members : nine.Commits c
  pub messages : AllCommit c.cores c.records c.sent

pub committed_stays : (n : ℕ) (g h : Records) (t commit : ℕ) (log : List Item) → LogGrows g h → IsCommitted n g t commit log →
    IsCommitted n h t commit log
committed_stays n g h t commit log gr (inl z) = inl z
committed_stays n g h t commit log gr (inr k) =
    let ch = k.chosen in
    let w = slice_get_within (g.lead k.term) k.place ch.item ch.there in
    let b = k.below in
    inr (record {
      term = k.term;
      place = k.place;
      chosen = still_chosen n g h k.term k.place gr k.chosen;
      below = k.below;
      early = k.early;
      agree = λ j l. k.agree j l ∙ lead_agree g h gr k.term commit (omega arith) j l;
    })

-- a smaller commit, a greater term, and a log that has the same first places
pub committed_like : (n : ℕ) (g : Records) (t u commit less : ℕ) (xs ys : List Item) → IsCommitted n g t commit xs → less ≤ commit →
    t ≤ u → Agree less xs ys → IsCommitted n g u less ys
committed_like n g t u commit less xs ys (inl z) l le a = inl (omega arith)
committed_like n g t u commit less xs ys (inr k) l le a =
    let b = k.below in
    let e = k.early in
    inr (record {
      term = k.term;
      place = k.place;
      chosen = k.chosen;
      below = omega arith;
      early = omega arith;
      agree = λ j p. sym (a j p) ∙ k.agree j (omega arith);
    })

-- of a leader's term, its log: what is committed is there
pub committed_long : (n : ℕ) (g : Records) (t commit : ℕ) (log : List Item) → IsCommitted n g t commit log → commit ≤ length log
committed_long n g t zero log k = omega arith
committed_long n g t (suc p) log (inl z) = absurd (omega arith)
committed_long n g t (suc p) log (inr k) =
    let ch = k.chosen in
    let w = slice_get_within (g.lead k.term) k.place ch.item ch.there in
    let b = k.below in
    let s = get_some (g.lead k.term) p (omega arith) in
    let v = slice_get_within log p s.0 (k.agree p (omega arith) ∙ s.1) in
    omega arith

pub placed_stays : (n : ℕ) (g h : Records) (before : ℕ) (items : List Item) → LogGrows g h → IsPlaced n g before items →
    IsPlaced n h before items
placed_stays n g h before items gr (inl z) = inl z
placed_stays n g h before items gr (inr k) = inr (record {
  term = k.term;
  place = k.place;
  chosen = still_chosen n g h k.term k.place gr k.chosen;
  below = k.below;
  cut = λ p x e. gr.leads k.term (before + p) x (k.cut p x e);
})

pub body_commit_stays : (n : ℕ) (g h : Records) → LogGrows g h → (b : Body) → BodyCommit n g b → BodyCommit n h b
body_commit_stays n g h gr (VoteAsk t place last) k = tt
body_commit_stays n g h gr (VoteReply t b) k = tt
body_commit_stays n g h gr (Append t prev pterm commit items) k =
    committed_like n h t t commit commit (g.lead t) (h.lead t) (committed_stays n g h t commit (g.lead t) gr k) (omega arith)
    (omega arith) (lead_agree g h gr t commit (committed_long n g t commit (g.lead t) k))
body_commit_stays n g h gr (AppendReply t b place) k = tt
body_commit_stays n g h gr (Pull have) k = tt
body_commit_stays n g h gr (Batch first items) k = (k.0, k.1, placed_stays n g h k.0 items gr k.2)

pub all_commit_stay : (n : ℕ) (g h : Records) → LogGrows g h → (es : List Envelope) → AllCommit n g es → AllCommit n h es
all_commit_stay n g h gr [] k = tt
all_commit_stay n g h gr (e ∷ es) k = (body_commit_stays n g h gr e.body k.0, all_commit_stay n g h gr es k.1)

pub all_commit_more : (n : ℕ) (g : Records) (es fs : List Envelope) → AllCommit n g es → AllCommit n g fs → AllCommit n g (es ++ fs)
all_commit_more n g [] fs a b = b
all_commit_more n g (e ∷ es) fs a b = (a.0, all_commit_more n g es fs a.1 b)

-- one member changes
moved_commit : (c : Cluster) (i : ℕ) (m : Member) (all : List Envelope) (h : Records) → Commits c → LogGrows c.records h →
    IsCommitted c.cores h m.term m.commit m.log → AllCommit c.cores h all → Commits (moved c i m all h)
moved_commit c i m all h k gr here told = record {
  members = put_all (λ j w. IsCommitted c.cores h w.term w.commit w.log) c.at i m here
      (λ j ne. committed_stays c.cores c.records h (c.at j).term (c.at j).commit (c.at j).log gr (k.members j));
  messages = told;
}

pub commit_step : (c : Cluster) (i : ℕ) (m : Member) (new : List Envelope) (h : Records) → Commits c → LogGrows c.records h →
    IsCommitted c.cores h m.term m.commit m.log → AllCommit c.cores h new → Commits (stepped c i m new h)
commit_step c i m new h k gr here told =
    moved_commit c i m (c.sent ++ new) h k gr here
    (all_commit_more c.cores h c.sent new (all_commit_stay c.cores c.records h gr c.sent k.messages) told)

pub quiet_commit : (c : Cluster) (i : ℕ) (m : Member) → Commits c → IsCommitted c.cores c.records m.term m.commit m.log →
    Commits (quiet c i m)
quiet_commit c i m k here = moved_commit c i m c.sent c.records k (log_grows_none c.records) here k.messages

pub beside_commit : (c : Cluster) (lists : ℕ → List Item) (sent : List Envelope) (history : List Item) → Commits c →
    AllCommit c.cores c.records sent → Commits (beside c lists sent history)
beside_commit c lists sent history k told = record { members = k.members; messages = told }

pub said_commit : (c : Cluster) (new : List Envelope) → Commits c → AllCommit c.cores c.records new → Commits (said c new)
said_commit c new k told = beside_commit c c.lists (c.sent ++ new) c.history k
    (all_commit_more c.cores c.records c.sent new k.messages told)

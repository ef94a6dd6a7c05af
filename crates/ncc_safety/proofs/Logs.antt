-- What the records of logs say, and that it lasts.
use Rattle.std.proofs.Common.{◌≡◌, ℕ, zero, suc, ◌+◌, ◌<◌, ◌≤◌, true, List, [], ◌∷◌, ◌++◌, length, slice_get, Some, refl, sym, ap, ◌∙◌, arith}
use Rattle.std.proofs.lemmas.Option.{slice_get_within}
use Rattle.ncc_tx.specs.declared.entry.Item.{Item}
use Rattle.ncc_tx.specs.Kept.{term_at, term_of}
use Rattle.ncc_raft.specs.declared.message.Envelope.{Envelope}
use Rattle.ncc_raft.specs.declared.message.Body.{Body}
use Rattle.ncc_raft.specs.declared.message.Body.TheVariants.{VoteAsk, VoteReply, Append, AppendReply, Pull, Batch}
use Rattle.ncc_raft.specs.declared.message.RaftRole.TheVariants.{Leader, Candidate}
use Rattle.ncc_raft.specs.Member.{Member, next_of, match_of}
use Rattle.ncc_safety.specs.Lists.{Agree, IsCut}
use Rattle.ncc_safety.specs.Cluster.{Records, Cluster, moved, stepped, quiet, beside, said}
use Rattle.ncc_safety.specs.Sentences.{Sound, Within}
use Rattle.ncc_safety.proofs.Puts.{put_all}
use Rattle.ncc_safety.proofs.Agree.{longer, get_some}

pub record MemberLog (g : Records) (i : ℕ) (m : Member) : Type 0 where
  pub sound : Sound g m.log
  pub terms : Within m.term m.log
  pub no_ack : (t : ℕ) → m.term < t → g.ack t i ≡ 0
  pub acked : Agree (g.ack m.term i) m.log (g.lead m.term)
  pub matched : m.role ≡ Leader → (j : ℕ) → 0 < j → match_of m j ≤ g.ack m.term j
  pub nexts : m.role ≡ Leader → (j : ℕ) → next_of m j ≤ length m.log + 1
  pub own_ack : m.role ≡ Leader → g.ack m.term i ≡ length m.log
  pub not_owner : m.role ≡ Candidate → g.owner m.term ≡ i → ⊥

abbrev pub BodyLog : Records → ℕ → Body → Type 0
BodyLog g from (Append t prev pterm commit items) =
    (prev ≤ length (g.lead t)) × (term_at (g.lead t) prev ≡ pterm) × IsCut (g.lead t) prev items
BodyLog g from (AppendReply t granted place) = granted ≡ true → place ≤ g.ack t from
BodyLog g from _ = Unit {0}

abbrev pub AllLog : Records → List Envelope → Type 0
AllLog g [] = Unit {0}
AllLog g (e ∷ es) = BodyLog g e.from e.body × AllLog g es

pub record RecordsLog (g : Records) : Type 0 where
  pub sound : (t : ℕ) → Sound g (g.lead t)
  pub terms : (t : ℕ) → Within t (g.lead t)
  pub no_lead : (t : ℕ) → g.owner t ≡ 0 → g.lead t ≡ []
  pub start_within : (t : ℕ) → length (g.start t) ≤ length (g.lead t)
  pub cands : (t i : ℕ) (l : List Item) → g.cand t i ≡ Some l → Sound g l × ((k : ℕ) (x : Item) → slice_get l k ≡ Some x → x.term < t)
  pub ack_within : (t i : ℕ) → g.ack t i ≤ length (g.lead t)

pub record Logs (c : Cluster) : Type 0 where
  pub members : (j : ℕ) → MemberLog c.records j (c.at j)
  pub messages : AllLog c.records c.sent
  pub records : RecordsLog c.records

-- what is once recorded stays
pub record LogGrows (g h : Records) : Type 0 where
  pub leads : (t k : ℕ) (x : Item) → slice_get (g.lead t) k ≡ Some x → slice_get (h.lead t) k ≡ Some x
  pub starts : (t k : ℕ) (x : Item) → slice_get (g.lead t) k ≡ Some x → h.start t ≡ g.start t
  pub acks : (t j : ℕ) → g.ack t j ≤ h.ack t j

pub record LogSame (j : ℕ) (g h : Records) : Type 0 where
  pub ack : (t : ℕ) → h.ack t j ≡ g.ack t j
  pub owner : (t : ℕ) → h.owner t ≡ j → g.owner t ≡ j

pub lead_agree : (g h : Records) → LogGrows g h → (t n : ℕ) → n ≤ length (g.lead t) → Agree n (g.lead t) (h.lead t)
lead_agree g h gr t n l k q =
    let s = get_some (g.lead t) k (omega arith) in
    s.1 ∙ sym (gr.leads t k s.0 s.1)

pub sound_stays : (g h : Records) → LogGrows g h → (xs : List Item) → Sound g xs → Sound h xs
sound_stays g h gr xs s k x e =
    let a = s k x e in
    let here : slice_get (g.lead x.term) k ≡ Some x = sym (a.1 k (omega arith)) ∙ e in
    let w = slice_get_within (g.lead x.term) k x here in
    let st = gr.starts x.term k x here in
    (rw st a.0, λ j q. a.1 j q ∙ lead_agree g h gr x.term (suc k) w j q)

pub member_log_stays : (j : ℕ) (g h : Records) (m : Member) → RecordsLog g → LogGrows g h → LogSame j g h → MemberLog g j m →
    MemberLog h j m
member_log_stays j g h m rec gr sa k = record {
  sound = sound_stays g h gr m.log k.sound;
  terms = k.terms;
  no_ack = λ t l. sa.ack t ∙ k.no_ack t l;
  acked = λ p q. let q' : p < g.ack m.term j = rw (sa.ack m.term) at q in
      k.acked p q' ∙ lead_agree g h gr m.term (g.ack m.term j) (rec.ack_within m.term j) p q';
  matched = λ r i p. let a = k.matched r i p in let b = gr.acks m.term i in omega arith;
  nexts = k.nexts;
  own_ack = λ r. sa.ack m.term ∙ k.own_ack r;
  not_owner = λ r e. k.not_owner r (sa.owner m.term e);
}

pub lead_longer : (g h : Records) → LogGrows g h → (t : ℕ) → length (g.lead t) ≤ length (h.lead t)
lead_longer g h gr t = longer (g.lead t) (h.lead t) (λ k x e. gr.leads t k x e)

pub term_stays : (g h : Records) → LogGrows g h → (t p : ℕ) → p ≤ length (g.lead t) → term_at (h.lead t) p ≡ term_at (g.lead t) p
term_stays g h gr t zero l = refl
term_stays g h gr t (suc k) l = ap term_of (sym (lead_agree g h gr t (suc k) l k (omega arith)))

pub body_log_stays : (g h : Records) → LogGrows g h → (from : ℕ) (b : Body) → BodyLog g from b → BodyLog h from b
body_log_stays g h gr from (VoteAsk t place last) k = tt
body_log_stays g h gr from (VoteReply t b) k = tt
body_log_stays g h gr from (Append t prev pterm commit items) k =
    let l = lead_longer g h gr t in
    let p = k.0 in
    (omega arith, term_stays g h gr t prev k.0 ∙ k.1, λ i x e. gr.leads t (prev + i) x (k.2 i x e))
body_log_stays g h gr from (AppendReply t b place) k = λ e. let a = k e in let l = gr.acks t from in omega arith
body_log_stays g h gr from (Pull have) k = tt
body_log_stays g h gr from (Batch first items) k = tt

pub all_log_stay : (g h : Records) → LogGrows g h → (es : List Envelope) → AllLog g es → AllLog h es
all_log_stay g h gr [] k = tt
all_log_stay g h gr (e ∷ es) k = (body_log_stays g h gr e.from e.body k.0, all_log_stay g h gr es k.1)

pub all_log_more : (g : Records) (es fs : List Envelope) → AllLog g es → AllLog g fs → AllLog g (es ++ fs)
all_log_more g [] fs a b = b
all_log_more g (e ∷ es) fs a b = (a.0, all_log_more g es fs a.1 b)

-- from c on, what was recorded stays, and the records are good again
pub record LogKeeps (c d : Cluster) : Type 0 where
  pub good : Logs d
  pub grows : LogGrows c.records d.records

pub log_grows_none : (g : Records) → LogGrows g g
log_grows_none g = record { leads = λ t k x e. e; starts = λ t k x e. refl; acks = λ t j. omega arith }

pub log_grows_more : (f g h : Records) → LogGrows f g → LogGrows g h → LogGrows f h
log_grows_more f g h a b = record {
  leads = λ t k x e. b.leads t k x (a.leads t k x e);
  starts = λ t k x e. b.starts t k x (a.leads t k x e) ∙ a.starts t k x e;
  acks = λ t j. let p = a.acks t j in let q = b.acks t j in omega arith;
}

pub log_same_none : (j : ℕ) (g : Records) → LogSame j g g
log_same_none j g = record { ack = λ t. refl; owner = λ t e. e }

pub log_keeps_none : (c : Cluster) → Logs c → LogKeeps c c
log_keeps_none c k = record { good = k; grows = log_grows_none c.records }

pub log_and_then : (b c d : Cluster) → LogKeeps b c → (Logs c → LogKeeps c d) → LogKeeps b d
log_and_then b c d k f = record { good = (f k.good).good; grows = log_grows_more b.records c.records d.records k.grows (f k.good).grows }

-- one member changes
pub moved_logs : (c : Cluster) (i : ℕ) (m : Member) (all : List Envelope) (h : Records) → Logs c → LogGrows c.records h →
    ((j : ℕ) → (j ≡ i → ⊥) → LogSame j c.records h) → MemberLog h i m → AllLog h all → RecordsLog h → LogKeeps c (moved c i m all h)
moved_logs c i m all h k gr sa here told rec = record {
  good = record {
    members = put_all (λ j x. MemberLog h j x) c.at i m here
        (λ j ne. member_log_stays j c.records h (c.at j) k.records gr (sa j ne) (k.members j));
    messages = told;
    records = rec;
  };
  grows = gr;
}

-- one member's step
pub step_logs : (c : Cluster) (i : ℕ) (m : Member) (new : List Envelope) (h : Records) → Logs c → LogGrows c.records h →
    ((j : ℕ) → (j ≡ i → ⊥) → LogSame j c.records h) → MemberLog h i m → AllLog h new → RecordsLog h → LogKeeps c (stepped c i m new h)
step_logs c i m new h k gr sa here told rec =
    moved_logs c i m (c.sent ++ new) h k gr sa here (all_log_more h c.sent new (all_log_stay c.records h gr c.sent k.messages) told) rec

pub quiet_logs : (c : Cluster) (i : ℕ) (m : Member) → Logs c → MemberLog c.records i m → LogKeeps c (quiet c i m)
quiet_logs c i m k here = moved_logs c i m c.sent c.records k (log_grows_none c.records) (λ j ne. log_same_none j c.records) here
    k.messages k.records

-- no core changes
pub beside_logs : (c : Cluster) (lists : ℕ → List Item) (sent : List Envelope) (history : List Item) → Logs c → AllLog c.records sent →
    LogKeeps c (beside c lists sent history)
beside_logs c lists sent history k told =
    record { good = record { members = k.members; messages = told; records = k.records }; grows = log_grows_none c.records }

pub said_logs : (c : Cluster) (new : List Envelope) → Logs c → AllLog c.records new → LogKeeps c (said c new)
said_logs c new k told = beside_logs c c.lists (c.sent ++ new) c.history k (all_log_more c.records c.sent new k.messages told)

-- two items of one term at one place: the lists agree up to there
pub sound_agree : (g : Records) (xs ys : List Item) (k : ℕ) (x y : Item) → Sound g xs → Sound g ys → slice_get xs k ≡ Some x →
    slice_get ys k ≡ Some y → x.term ≡ y.term → Agree (suc k) xs ys
sound_agree g xs ys k x y sx sy ex ey e j l =
    let a = (sx k x ex).1 j l in
    let b : slice_get ys j ≡ slice_get (g.lead x.term) j = rw e ((sy k y ey).1 j l) in
    a ∙ sym b

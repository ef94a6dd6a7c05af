-- A proposal, and what it does to a run.
use Rattle.std.proofs.Common.{◌≡◌, ℕ, ◌-◌, ◌<◌, List, [], length, get_or, Option, Some, Bool, true, false, map}
use Rattle.std.proofs.Common.{refl, ap, sym, ◌∙◌, subst, arith, IsTrue}
use Rattle.std.specs.Prelude.{slice_get, slice_set}
use Rattle.std.proofs.lemmas.Option.{get_or_from_slice_get}
use Rattle.ncc_store.specs.Exec.{call_of}
use Rattle.ncc_tx.specs.declared.entry.Entry.{Entry}
use Rattle.ncc_tx.specs.declared.entry.Entry.TheVariants as e
use Rattle.ncc_tx.specs.declared.entry.Item.{Item}
use Rattle.ncc_session.specs.declared.ask.Fact.TheVariants.{Elsewhere, Full}
use Rattle.ncc_session.specs.Core.{leave_of}
use Rattle.ncc_session.specs.Question.{fits, some_writes}
use Rattle.ncc_session.specs.Talk.{asked, fits_at}
use Rattle.ncc_clients.specs.Members.{Proposed, elsewhere, full, placed, longest}
use Rattle.ncc_clients.specs.declared.told.Told.{Told}
use Rattle.ncc_clients.specs.Run.{Client, Placing, proposes, reply, question_of, answers, leaves, deadline_of, accepted, with_placing}
use Rattle.ncc_world.specs.declared.setup.Setup.{Setup}
use Rattle.ncc_world.specs.declared.seen.ConnSeen.{ConnSeen}
use Rattle.ncc_world.specs.declared.earlier.Earlier.{Earlier}
use Rattle.ncc_world.specs.declared.served.ProposedAt.{ProposedAt}
use Rattle.ncc_world.specs.declared.served.Served.{Served}
use Rattle.ncc_world.specs.declared.proposal.Proposal.{Proposal}
use Rattle.ncc_world.specs.declared.proposal.Proposal.TheVariants as proposal
use Rattle.ncc_world.specs.declared.clients.Clients.{Clients}
use Rattle.ncc_world.specs.declared.running.Running.{Running}
use Rattle.ncc_world.specs.Setting.{Seats, lists_of, cluster_of}
use Rattle.ncc_world.specs.Earlier.{AllRemember}
use Rattle.ncc_world.specs.Happening.{WorldRun}
use Rattle.ncc_world.specs.World.{KeptMembers, KeptClients, KeptRun, AreMembers, AreServed, RunsAs, IsClient}
use Rattle.ncc_world.specs.Parts.{BecomeMembers, IsProposed, members_in, clients_in, run_in}
use Rattle.ncc_world.proofs.Keeping.{get_there, client_at}
use Rattle.ncc_world.proofs.Turning.{counted, reply_some}
use Rattle.ncc_world.proofs.Fitting.{fits_here}

-- the connection at an index, by what is kept of it
pub record Sits (s : Setup) (r : WorldRun) (index : ℕ) (v : Served) : Type 0 where
  pub client : Client
  pub seen : ConnSeen
  pub there : slice_get r.clients index ≡ Some client
  pub is : IsClient s v seen client

pub sits : (s : Setup) (w : KeptRun) (r : WorldRun) (index : ℕ) (v : Served) → RunsAs s w r → index < length w.clients.table
    → slice_get w.clients.table index ≡ Some v → Sits s r index v
sits s w r index v k h e =
    let n = counted s w r k in
    let c = get_there r.clients index (omega (arith, h, n.table)) in
    let x = get_there w.clients.seen index (omega (arith, h, n.table, n.seen)) in
    record {
      client = c.0;
      seen = x.0;
      there = c.1;
      is = client_at s w.clients.table w.clients.seen r.clients index v x.0 c.0 k.clients.each c.1
          (sym (get_or_from_slice_get w.clients.table index v v e)) (sym (get_or_from_slice_get w.clients.seen index x.0 x.0 x.1));
    }

-- ---- the members are the same, or one entry longer

pub record Refused (s : Setup) (seats : Seats) (history : List Item) (X Y : Proposed Seats) (m : KeptMembers) : Type 0 where
  pub members : AreMembers s m seats history
  pub becomes : X ≡ Y

elsewhere_by : (s : Setup) (seats : Seats) (history : List Item) (X : Proposed Seats) (m : KeptMembers)
    → IsProposed s seats history X proposal.Elsewhere m → Refused s seats history X elsewhere m
elsewhere_by s seats history elsewhere m k = record { members = k.1; becomes = refl }
elsewhere_by s seats history (full n) m k = absurd (let z = k.0 in cc)
elsewhere_by s seats history (placed place term after) m k = absurd (let z = k.0 in cc)

full_by : (s : Setup) (seats : Seats) (history : List Item) (X : Proposed Seats) (m : KeptMembers) (entries : ℕ)
    → IsProposed s seats history X (proposal.Full entries) m → Refused s seats history X (full entries) m
full_by s seats history elsewhere m entries k = absurd (let z = k.0 in cc)
full_by s seats history (full n) m entries k = record {
  members = k.1;
  becomes = ap (λ j. full j) (let z = k.0 in let same : n ≡ entries = cc in same);
}
full_by s seats history (placed place term after) m entries k = absurd (let z = k.0 in cc)

pub was_elsewhere : (s : Setup) (seats : Seats) (history : List Item) (X : Proposed Seats) (m : KeptMembers) (p : Proposal)
    → IsProposed s seats history X p m → p ≡ proposal.Elsewhere → Refused s seats history X elsewhere m
was_elsewhere s seats history X m p k e =
    elsewhere_by s seats history X m (subst (λ (q : Proposal). IsProposed s seats history X q m) e k)

pub was_full : (s : Setup) (seats : Seats) (history : List Item) (X : Proposed Seats) (m : KeptMembers) (p : Proposal) (entries : ℕ)
    → IsProposed s seats history X p m → p ≡ proposal.Full entries → Refused s seats history X (full entries) m
was_full s seats history X m p entries k e =
    full_by s seats history X m entries (subst (λ (q : Proposal). IsProposed s seats history X q m) e k)

-- nothing changed but what the members keep, and that stands for the same members and history
pub kept_by : (s : Setup) (r : WorldRun) (old new : Running) → RunsAs s (run_in old) r
    → AreMembers s (members_in new.members) r.members r.history
    → new.clock ≡ old.clock → new.clients ≡ old.clients → new.told ≡ old.told → new.earlier.items ≡ old.earlier.items
    → RunsAs s (run_in new) r
kept_by s r old new k m clock clients told earlier = record {
  now = clock ∙ k.now;
  members = m;
  clients = subst (λ (x : Clients). AreServed s (length (lists_of r.members)) (clients_in x) r.clients) (sym clients) k.clients;
  told = told ∙ k.told;
  earlier = subst (λ (es : List (Option Earlier)). AllRemember s es r) (sym earlier) k.earlier;
}

-- ---- a refusal answers the question

pub writes_by : (list : List Item) (now deadline : ℕ) (b : Bool) (placing : Option Placing) → leaves list now deadline b placing ≡ proposes → b ≡ true
writes_by list now deadline true placing e = refl
writes_by list now deadline false placing e = absurd (cc)

refusal_fits : (s : Setup) (r : WorldRun) (c : Client) (entry : Entry) → answers (cluster_of s) r c (leave_of entry) ≡ proposes
    → IsTrue (fits (leave_of entry) Elsewhere) × ((entries : ℕ) → IsTrue (fits (leave_of entry) (Full entries)))
refusal_fits s r c e.Noop h = absurd (cc)
refusal_fits s r c (e.Tx steps told) h =
    let w = writes_by (get_or (lists_of r.members) (c.member - 1) []) r.now (deadline_of (cluster_of s) c) (some_writes (map call_of steps)) c.placing h in
    (w, λ entries. w)

pub elsewhere_fits : (s : Setup) (r : WorldRun) (v : Served) (seen : ConnSeen) (c : Client) (entry : Entry) → IsClient s v seen c
    → question_of (cluster_of s) c ≡ Some (leave_of entry) → reply (cluster_of s) r c ≡ proposes → IsTrue (fits_at (asked v.conn) Elsewhere)
elsewhere_fits s r v seen c entry k e h =
    fits_here s v seen c (leave_of entry) Elsewhere k e (refusal_fits s r c entry (reply_some s r c (leave_of entry) e ∙ h)).0

pub full_fits : (s : Setup) (r : WorldRun) (v : Served) (seen : ConnSeen) (c : Client) (entry : Entry) (entries : ℕ) → IsClient s v seen c
    → question_of (cluster_of s) c ≡ Some (leave_of entry) → reply (cluster_of s) r c ≡ proposes → IsTrue (fits_at (asked v.conn) (Full entries))
full_fits s r v seen c entry entries k e h =
    fits_here s v seen c (leave_of entry) (Full entries) k e ((refusal_fits s r c entry (reply_some s r c (leave_of entry) e ∙ h)).1 entries)

-- ---- an entry that was placed

pub record Accepted (s : Setup) (seats : Seats) (history : List Item) (X : Proposed Seats) (p : ProposedAt) (m : KeptMembers) : Type 0 where
  pub after : Seats
  pub becomes : X ≡ placed p.place p.term after
  pub some : 0 < p.place
  pub become : BecomeMembers s m seats history after

placed_by : (s : Setup) (seats : Seats) (history : List Item) (X : Proposed Seats) (p : ProposedAt) (m : KeptMembers)
    → IsProposed s seats history X (proposal.Placed p) m → Accepted s seats history X p m
placed_by s seats history elsewhere p m k = absurd (let z = k.0 in cc)
placed_by s seats history (full n) p m k = absurd (let z = k.0 in cc)
placed_by s seats history (placed place term after) p m k =
    let z = k.0 in
    let same : p ≡ record { place = place; term = term } = cc in
    record {
      after = after;
      becomes = ap (λ (q : ProposedAt). placed q.place q.term after) (sym same);
      some = subst (λ (q : ProposedAt). 0 < q.place) (sym same) k.1;
      become = k.2;
    }

pub was_placed : (s : Setup) (seats : Seats) (history : List Item) (X : Proposed Seats) (m : KeptMembers) (p : Proposal) (place : ProposedAt)
    → IsProposed s seats history X p m → p ≡ proposal.Placed place → Accepted s seats history X place m
was_placed s seats history X m p place k e =
    placed_by s seats history X place m (subst (λ (q : Proposal). IsProposed s seats history X q m) e k)

pub accepted_as : (s : Setup) (r : WorldRun) (i : ℕ) (d : Client) (place term : ℕ) (after : Seats) (now : ℕ) (m : KeptMembers) (k : KeptClients)
    (told : List Told) (es : List (Option Earlier)) → now ≡ r.now → AreMembers s m after (longest r.history (lists_of after))
    → AreServed s (length (lists_of after)) k (slice_set r.clients i (with_placing r.now d place term)) → told ≡ r.told
    → AllRemember s es (accepted (cluster_of s) r i d place term after)
    → RunsAs s (record { now = now; members = m; clients = k; told = told; earlier = es }) (accepted (cluster_of s) r i d place term after)
accepted_as s r i d place term after now m k told es e g h j l =
    record { now = e; members = g; clients = h; told = j; earlier = l }

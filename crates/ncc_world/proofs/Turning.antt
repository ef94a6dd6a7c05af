-- What the parts of a turn do to a run.
use Rattle.std.proofs.Common.{◌≡◌, ℕ, zero, suc, ◌+◌, ◌-◌, ◌<◌, ◌^◌, min, List, [], ◌∷◌, length, get_or, None, Some, Bool, true, false, cond, not, ◌&&◌}
use Rattle.std.proofs.Common.{ap, sym, ◌∙◌}
use Rattle.std.specs.Prelude.{slice_get}
use Rattle.ncc_wait.specs.declared.outcomes.Outcome.{Outcome}
use Rattle.ncc_wait.specs.declared.outcomes.Outcome.TheVariants.{Ready, NotYet, Late as IsLate}
use Rattle.ncc_store.specs.Exec.{exec}
use Rattle.ncc_store.specs.declared.call.Call.{Call}
use Rattle.ncc_tx.specs.State.{state}
use Rattle.ncc_session.specs.declared.ask.Ask.TheVariants as a
use Rattle.ncc_session.specs.declared.ask.Fact.{Fact}
use Rattle.ncc_session.specs.declared.ask.Fact.TheVariants.{Elsewhere}
use Rattle.ncc_session.specs.Core.{question_of as asks_of}
use Rattle.ncc_session.specs.Question.{Question, last_writes}
use Rattle.ncc_clients.specs.Run.{Client, waits, tells, proposes, reply, reply_by, question_of, answers, enters, runs, ran}
use Rattle.ncc_world.specs.declared.setup.Setup.{Setup}
use Rattle.ncc_world.specs.declared.seen.ConnSeen.{ConnSeen}
use Rattle.ncc_world.specs.declared.served.Served.{Served}
use Rattle.ncc_world.specs.Setting.{cluster_of, lists_of}
use Rattle.ncc_world.specs.Happening.{WorldRun}
use Rattle.ncc_world.specs.World.{KeptRun, RunsAs, AreClients, IsClient}
use Rattle.ncc_world.specs.Parts.{IsAskedOf}
use Rattle.ncc_world.proofs.Keeping.{Here, Counts, here_at, client_at, clients_count}

pub counted : (s : Setup) (w : KeptRun) (r : WorldRun) → RunsAs s w r → Counts w.clients.table w.clients.seen r.clients
counted s w r k = clients_count s w.clients.table w.clients.seen r.clients k.clients.each

pub here : (s : Setup) (w : KeptRun) (r : WorldRun) (index : ℕ) (v : Served) (seen : ConnSeen) → RunsAs s w r → index < length w.clients.table
    → v ≡ get_or w.clients.table index v → seen ≡ get_or w.clients.seen index seen → Here s (length (lists_of r.members)) r.clients index v seen
here s w r index v seen k h e f = here_at s (length (lists_of r.members)) w.clients r.clients index v seen k.clients h e f

pub client_is : (s : Setup) (w : KeptRun) (r : WorldRun) (index : ℕ) (v : Served) (seen : ConnSeen) (c : Client) → RunsAs s w r
    → slice_get r.clients index ≡ Some c → v ≡ get_or w.clients.table index v → seen ≡ get_or w.clients.seen index seen → IsClient s v seen c
client_is s w r index v seen c k e f g = client_at s w.clients.table w.clients.seen r.clients index v seen c k.clients.each e f g

number_at_by : (s : Setup) (vs : List Served) (seens : List ConnSeen) (cs : List Client) (i : ℕ) (seen : ConnSeen) (c : Client)
    → AreClients s vs seens cs → slice_get cs i ≡ Some c → seen ≡ get_or seens i seen → seen.conn ≡ c.number
unfolding AreClients
number_at_by s [] [] [] i seen c h e f = absurd (cc)
number_at_by s [] [] (x ∷ xs) i seen c h e f = absurd h
number_at_by s [] (y ∷ ys) cs i seen c h e f = absurd h
number_at_by s (z ∷ zs) [] cs i seen c h e f = absurd h
number_at_by s (z ∷ zs) (y ∷ ys) [] i seen c h e f = absurd h
number_at_by s (z ∷ zs) (y ∷ ys) (x ∷ xs) zero seen c h e f =
    let same : x ≡ c = cc in
    ap (λ (k : ConnSeen). k.conn) f ∙ h.0.kept.conn ∙ ap (λ (k : Client). k.number) same
number_at_by s (z ∷ zs) (y ∷ ys) (x ∷ xs) (suc i) seen c h e f = number_at_by s zs ys xs i seen c h.1 e f

pub seen_at : (s : Setup) (w : KeptRun) (r : WorldRun) (index : ℕ) (seen : ConnSeen) (c : Client) → RunsAs s w r
    → slice_get r.clients index ≡ Some c → seen ≡ get_or w.clients.seen index seen → seen.conn ≡ c.number
seen_at s w r index seen c k e f = number_at_by s w.clients.table w.clients.seen r.clients index seen c k.clients.each e f

pub reply_none : (s : Setup) (r : WorldRun) (c : Client) → question_of (cluster_of s) c ≡ None → waits ≡ reply (cluster_of s) r c
unfolding reply
reply_none s r c e = ap (reply_by (cluster_of s) r c) (sym e)

pub reply_some : (s : Setup) (r : WorldRun) (c : Client) (q : Question) → question_of (cluster_of s) c ≡ Some q
    → answers (cluster_of s) r c q ≡ reply (cluster_of s) r c
unfolding reply
reply_some s r c q e = ap (reply_by (cluster_of s) r c) (sym e)

pub asked_so : (s : Setup) (now wait : ℕ) (r : WorldRun) (v : Served) (seen : ConnSeen) (c : Client) (deadline : ℕ) → IsClient s v seen c
    → now ≡ r.now → s.wait ≡ wait → deadline ≡ min (v.since + wait) (2 ^ 64 - 1) → IsAskedOf s now seen.member deadline v.placing r c
asked_so s now wait r v seen c deadline k e f g = record {
  now_is = e;
  member_is = k.kept.member;
  deadline_is = g ∙ ap (λ n. min (n + wait) (2 ^ 64 - 1)) k.kept.since ∙ ap (λ n. min (c.since + n) (2 ^ 64 - 1)) (sym f);
  placing_is = k.kept.placing;
}

-- ---- only the end of a transaction is proposed

not_entering : (at need now : ℕ) (o : Outcome) → enters at need now o ≡ proposes → ⊥
not_entering at need now Ready e = cc
not_entering at need now NotYet e = cc
not_entering at need now IsLate e = cc

not_told : (b : Bool) (f g : Fact) → cond b (tells f) (tells g) ≡ proposes → ⊥
not_told true f g e = cc
not_told false f g e = cc

pub no_enter : (s : Setup) (r : WorldRun) (c : Client) (need : ℕ) → answers (cluster_of s) r c (asks_of (a.Enter need)) ≡ proposes → ⊥
no_enter s r c need e = not_entering _ need r.now _ e

pub no_run : (s : Setup) (r : WorldRun) (c : Client) (calls : List Call) → runs ((cluster_of s).leads r.members c.member)
    (get_or (lists_of r.members) (c.member - 1) []) calls ≡ proposes → ⊥
no_run s r c calls e =
    not_told (last_writes calls && not ((cluster_of s).leads r.members c.member)) Elsewhere
    (ran (length (get_or (lists_of r.members) (c.member - 1) [])) (exec (state (get_or (lists_of r.members) (c.member - 1) [])) calls)) e

pub no_route : (s : Setup) (r : WorldRun) (c : Client) → answers (cluster_of s) r c (asks_of a.Route) ≡ proposes → ⊥
no_route s r c e = cc

pub no_wait : waits ≡ proposes → ⊥
no_wait e = cc

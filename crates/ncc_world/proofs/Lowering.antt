-- How much is left to do: what a change at one connection does to it, and where a proposal is the first.
use Rattle.std.proofs.Common.{◌≡◌, ℕ, ◌+◌, ◌-◌, ◌<◌, List, [], length, get_or, Bool, true, false, Option, Some, None, map, refl, ap, ◌∙◌}
use Rattle.std.proofs.Common.{arith}
use Rattle.std.specs.Prelude.{slice_get, slice_set}
use Rattle.std.specs.List.{sum_by}
use Rattle.std.proofs.lemmas.List.Sums.{sum_by-set}
use Rattle.std.proofs.lemmas.Option.{slice_get_within, get_or_from_slice_get}
use Rattle.ncc_store.specs.Exec.{call_of}
use Rattle.ncc_wait.specs.declared.outcomes.Outcome.{Outcome}
use Rattle.ncc_wait.specs.declared.outcomes.Outcome.TheVariants.{Ready, NotYet, Late as IsLate}
use Rattle.ncc_wait.specs.Waiting.{outcome_of}
use Rattle.ncc_tx.specs.declared.entry.Entry.{Entry}
use Rattle.ncc_tx.specs.declared.entry.Entry.TheVariants as e
use Rattle.ncc_tx.specs.declared.entry.Item.{Item}
use Rattle.ncc_tx.specs.declared.stamp.Stamp.{Stamp}
use Rattle.ncc_tx.specs.State.{stamps}
use Rattle.ncc_apply.specs.View.{stamp_of}
use Rattle.ncc_session.specs.Core.{leave_of}
use Rattle.ncc_session.specs.Question.{some_writes}
use Rattle.ncc_clients.specs.Run.{Client, Placing, proposes, reply, question_of, deadline_of, answers, leaves, lands, found}
use Rattle.ncc_world.specs.declared.setup.Setup.{Setup}
use Rattle.ncc_world.specs.declared.seen.ConnSeen.{ConnSeen}
use Rattle.ncc_world.specs.declared.served.ProposedAt.{ProposedAt}
use Rattle.ncc_world.specs.declared.served.Served.{Served}
use Rattle.ncc_world.specs.declared.served.Change.{Change}
use Rattle.ncc_world.specs.declared.served.Change.TheVariants as change
use Rattle.ncc_world.specs.Setting.{cluster_of, lists_of}
use Rattle.ncc_world.specs.Happening.{WorldRun}
use Rattle.ncc_world.specs.World.{IsClient, placing_of}
use Rattle.ncc_world.specs.Parts.{Lowers, left_at}
use Rattle.ncc_world.proofs.Turning.{reply_some}

-- ---- one of many

sum_falls : (vs : List Served) (i : ℕ) (v w : Served) → slice_get vs i ≡ Some v → left_at w < left_at v
    → sum_by left_at (slice_set vs i w) < sum_by left_at vs
sum_falls vs i v w e h =
    let total = sum_by-set left_at vs i w v (slice_get_within vs i v e) in
    let here : left_at (get_or vs i v) ≡ left_at v = ap left_at (get_or_from_slice_get vs i v v e) in
    falls (sum_by left_at (slice_set vs i w)) (left_at (get_or vs i v)) (sum_by left_at vs) (left_at w) (left_at v) total here h where
      falls : (new at old to from : ℕ) → new + at ≡ old + to → at ≡ from → to < from → new < old
      falls new at old to from a b c = omega (arith, a, b, c)

pub lowers_all : (what : Change) (vs : List Served) (i : ℕ) (v w : Served) → slice_get vs i ≡ Some v
    → Lowers what v.placing (left_at v) (left_at w) → Lowers what v.placing (sum_by left_at vs) (sum_by left_at (slice_set vs i w))
lowers_all (change.Fed piece) vs i v w e h = tt
lowers_all (change.Told fact) vs i v w e h = sum_falls vs i v w e h
lowers_all (change.Placed p) vs i v w e h = λ none. sum_falls vs i v w e (h none)
lowers_all change.Closed vs i v w e h = tt

-- ---- an entry is proposed once

not_found : (p : Placing) (o : Option Stamp) → found p o ≡ proposes → ⊥
not_found p None e = cc
not_found p (Some s) e = cc

not_landed : (list : List Item) (now : ℕ) (p : Placing) (o : Outcome) → lands list now p o ≡ proposes → ⊥
not_landed list now p Ready e = not_found p (stamp_of p.place (stamps list)) e
not_landed list now p NotYet e = cc
not_landed list now p IsLate e = cc

none_by : (list : List Item) (now deadline : ℕ) (b : Bool) (placing : Option Placing) → leaves list now deadline b placing ≡ proposes
    → placing ≡ None
none_by list now deadline false placing e = absurd (cc)
none_by list now deadline true None e = refl
none_by list now deadline true (Some p) e = absurd (not_landed list now p (outcome_of (length list) p.place now deadline) e)

none_for : (s : Setup) (r : WorldRun) (c : Client) (entry : Entry) → answers (cluster_of s) r c (leave_of entry) ≡ proposes
    → c.placing ≡ None
none_for s r c e.Noop h = absurd (cc)
none_for s r c (e.Tx steps told) h =
    none_by (get_or (lists_of r.members) (c.member - 1) []) r.now (deadline_of (cluster_of s) c) (some_writes (map call_of steps)) c.placing h

none_kept : (o : Option ProposedAt) → placing_of o ≡ None → o ≡ None
none_kept None e = refl
none_kept (Some p) e = absurd (cc)

pub unplaced : (s : Setup) (r : WorldRun) (v : Served) (seen : ConnSeen) (c : Client) (entry : Entry) → IsClient s v seen c
    → question_of (cluster_of s) c ≡ Some (leave_of entry) → reply (cluster_of s) r c ≡ proposes → v.placing ≡ None
unplaced s r v seen c entry k e h =
    none_kept v.placing (k.kept.placing ∙ none_for s r c entry (reply_some s r c (leave_of entry) e ∙ h))

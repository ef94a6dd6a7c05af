-- What is told, and what is proposed, has a spelling.
use Rattle.std.proofs.Common.{◌≡◌, ℕ, ◌-◌, Bool, true, false, ◌&&◌, cond, List, [], length, map, Option, Some, None}
use Rattle.std.proofs.Common.{refl, ap, sym, ◌∙◌, IsTrue, get_or}
use Rattle.std.specs.Prelude.{nat_eq, nat_le}
use Rattle.ncc_pack.specs.Fits.{fits as value_fits}
use Rattle.ncc_pack.specs.Short.{short}
use Rattle.ncc_store.specs.declared.step.Step.{Step}
use Rattle.ncc_store.specs.Exec.{call_of}
use Rattle.ncc_tx.specs.declared.entry.Entry.{Entry}
use Rattle.ncc_tx.specs.declared.entry.Entry.TheVariants.{Noop, Tx}
use Rattle.ncc_tx.specs.Items.{entry_allowed, max_entry}
use Rattle.ncc_session.specs.declared.ask.Fact.{Fact}
use Rattle.ncc_session.specs.declared.ask.Fact.TheVariants as f
use Rattle.ncc_session.specs.Core.{leave_of}
use Rattle.ncc_session.specs.Question.{Question, enter, run, leave, leave_noop, route, Row, fits, fits_leave, some_writes}
use Rattle.ncc_session.specs.Talk.{asked, fits_at}
use Rattle.ncc_session.proofs.Asked.{may_ask}
use Rattle.ncc_session.specs.Turns.{MayAsk, allowed, entry_value}
use Rattle.ncc_clients.specs.Members.{config_of}
use Rattle.ncc_clients.specs.Run.{Client, reply, proposes, question_of, answers, deadline_of}
use Rattle.ncc_world.specs.declared.setup.Setup.{Setup}
use Rattle.ncc_world.specs.declared.seen.ConnSeen.{ConnSeen}
use Rattle.ncc_world.specs.declared.served.Served.{Served}
use Rattle.ncc_world.specs.Setting.{cluster_of, lists_of}
use Rattle.ncc_world.specs.Happening.{WorldRun}
use Rattle.ncc_world.specs.World.{IsClient, asked_by}
use Rattle.ncc_world.specs.Spellable.{rows_fit}
use Rattle.ncc_world.proofs.Keeping.{asked_is}
use Rattle.ncc_world.proofs.Turning.{reply_some}
use Rattle.ncc_world.proofs.Proposing.{writes_by}

-- ---- a fact that answers a question

no_rows : (w : Bool) (fact : Fact) → IsTrue (fits_leave w fact) → IsTrue (rows_fit fact)
no_rows true (f.Rows at rows) h = absurd (cc)
no_rows false (f.Rows at rows) h = absurd (cc)
no_rows w (f.Entered at) h = refl
no_rows w (f.Late need at now) h = refl
no_rows w (f.Faulted at fault) h = refl
no_rows w (f.Done at) h = refl
no_rows w (f.Placed place) h = refl
no_rows w (f.Stale place) h = refl
no_rows w (f.Replaced place mine found) h = refl
no_rows w (f.Unsure place at now) h = refl
no_rows w f.Elsewhere h = refl
no_rows w (f.Full entries) h = refl
no_rows w (f.Routed leader) h = refl

question_rows : (q : Question) (at : ℕ) (rows : List Row) → IsTrue (fits q (f.Rows at rows)) → IsTrue (rows_fit (f.Rows at rows))
question_rows (enter need) at rows h = absurd (cc)
question_rows (run calls) at rows h = h
question_rows (leave calls told) at rows h = no_rows (some_writes calls) (f.Rows at rows) h
question_rows leave_noop at rows h = no_rows false (f.Rows at rows) h
question_rows route at rows h = absurd (cc)

answer_rows : (q : Question) (fact : Fact) → IsTrue (fits q fact) → IsTrue (rows_fit fact)
answer_rows q (f.Rows at rows) h = question_rows q at rows h
answer_rows q (f.Entered at) h = refl
answer_rows q (f.Late need at now) h = refl
answer_rows q (f.Faulted at fault) h = refl
answer_rows q (f.Done at) h = refl
answer_rows q (f.Placed place) h = refl
answer_rows q (f.Stale place) h = refl
answer_rows q (f.Replaced place mine found) h = refl
answer_rows q (f.Unsure place at now) h = refl
answer_rows q f.Elsewhere h = refl
answer_rows q (f.Full entries) h = refl
answer_rows q (f.Routed leader) h = refl

pub told_rows : (o : Option Question) (fact : Fact) → IsTrue (fits_at o fact) → IsTrue (rows_fit fact)
told_rows None fact h = absurd (cc)
told_rows (Some q) fact h = answer_rows q fact h

-- ---- an entry that is proposed

joined : (a b c : Bool) → IsTrue (a && b && c) → IsTrue ((a && b) && c)
joined true true true h = refl
joined true true false h = absurd (cc)
joined true false c h = absurd (cc)
joined false b c h = absurd (cc)

allowed_tx : (steps : List Step) (told : List (List Row)) → IsTrue (allowed (map call_of steps) told) → IsTrue (entry_allowed (Tx steps told))
unfolding entry_allowed
allowed_tx steps told h =
    joined (nat_eq (length (map call_of steps)) (length told)) (value_fits (entry_value (map call_of steps) told))
    (nat_le (length (short (entry_value (map call_of steps) told))) max_entry) h

pub may_stand : (s : Setup) (r : WorldRun) (c : Client) (entry : Entry) → MayAsk (leave_of entry)
    → answers (cluster_of s) r c (leave_of entry) ≡ proposes → IsTrue (entry_allowed entry)
may_stand s r c Noop m h = absurd m
may_stand s r c (Tx steps told) m h =
    allowed_tx steps told (m (writes_by (get_or (lists_of r.members) (c.member - 1) []) r.now (deadline_of (cluster_of s) c)
    (some_writes (map call_of steps)) c.placing h))

asked_open : (v : Served) (b : Bool) (q : Question) → v.closed ≡ b → asked_by v ≡ Some q → asked v.conn ≡ Some q
asked_open v true q w e = absurd (let k : None ≡ Some q = ap (λ (x : Bool). cond x None (asked v.conn)) (sym w) ∙ e in cc)
asked_open v false q w e = ap (λ (x : Bool). cond x None (asked v.conn)) (sym w) ∙ e

-- what is proposed may stand in a log
pub may_propose : (s : Setup) (r : WorldRun) (v : Served) (seen : ConnSeen) (c : Client) (entry : Entry) → IsClient s v seen c
    → question_of (cluster_of s) c ≡ Some (leave_of entry) → reply (cluster_of s) r c ≡ proposes → IsTrue (entry_allowed entry)
may_propose s r v seen c entry k e h =
    let live : asked v.conn ≡ Some (leave_of entry) = asked_open v v.closed (leave_of entry) refl (asked_is s v seen c k.kept ∙ e) in
    may_stand s r c entry
    (may_ask v.conn (leave_of entry) live (config_of (cluster_of s) c.number) c.bytes c.facts seen.out k.kept.talk)
    (reply_some s r c (leave_of entry) e ∙ h)

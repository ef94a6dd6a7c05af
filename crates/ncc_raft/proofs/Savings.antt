-- The change of each step may follow what was kept.
use Rattle.std.proofs.Common.{◌≡◌, ℕ, ◌+◌, ◌-◌, ◌≤◌, Bool, true, false, min, List, [], ◌∷◌, ◌++◌, length, Option, Some, None, refl}
use Rattle.std.proofs.Common.{sym, ap, ◌∙◌, subst, arith, ◌⊎◌, inl, inr, length-append}
use Rattle.std.specs.Prelude.{nat_eq, nat_le, nat_lt, ◌&&◌, if◌then◌else◌}
use Rattle.std.proofs.lemmas.Bool.{and_parts, leb-true}
use Rattle.std.proofs.lemmas.List.{append-nil}
use Rattle.ncc_tx.specs.declared.entry.ChangeSet.{ChangeSet}
use Rattle.ncc_tx.specs.declared.entry.Entry.{Entry}
use Rattle.ncc_tx.specs.declared.entry.Entry.TheVariants.{Noop}
use Rattle.ncc_tx.specs.declared.entry.Item.{Item}
use Rattle.ncc_tx.specs.declared.entry.Saved.{Saved}
use Rattle.ncc_tx.specs.Kept.{IsChange, MayFollow, term_at}
use Rattle.ncc_raft.specs.declared.message.Body.{Body}
use Rattle.ncc_raft.specs.declared.message.Body.TheVariants.{VoteAsk, VoteReply, Append, AppendReply, Pull, Batch}
use Rattle.ncc_raft.specs.declared.message.Envelope.{Envelope}
use Rattle.ncc_raft.specs.declared.message.Note.TheVariants.{Beyond, TermsSpent}
use Rattle.ncc_raft.specs.Member.{Seat, Member, Outcome, Event, Timeout, Beat, Receive, Propose, is_candidate, is_leader, kept, notes}
use Rattle.ncc_raft.specs.Member.{sends, still}
use Rattle.ncc_raft.specs.Logs.{Conflict, accepted}
use Rattle.ncc_raft.specs.Elections.{asks, counted, is_elected, is_spent, may_vote, noop_of, raised, timed_out, voted, won}
use Rattle.ncc_raft.specs.Appending.{added, advanced, appends, follows, has_prev, took, contradicted}
use Rattle.ncc_raft.specs.Carried.{Carried, IsWithin}
use Rattle.ncc_raft.specs.Core.{IsSeat, IsSound}
use Rattle.ncc_raft.specs.Laws.{Brings, Ends, MayBeSaved, MayCome, NeverBack, items_in}
use Rattle.ncc_raft.specs.Step.{answered, append_reply, heard, lifted, may_add, offered, on_append, on_append_reply, on_beat, on_body}
use Rattle.ncc_raft.specs.Step.{on_propose}
use Rattle.ncc_raft.specs.Step.{on_timeout, on_vote_ask, on_vote_reply, settled, step, term_in, took_or_not, unless, vote_reply}
use Rattle.ncc_raft.proofs.Never.{never}
use Rattle.ncc_raft.proofs.Saving as saving
use Rattle.ncc_raft.proofs.Stays.{stays}

-- ---- what becomes of the log at a message

record Took (old new items : List Item) : Type 0 where
  prev : ℕ
  within : prev ≤ length old
  log : new ≡ accepted old prev items

-- it stays, or has the empty entry of a new leader behind it, or takes the items of the message
abbrev LogIs : List Item → List Item → List Item → List Item → Type 0
LogIs old noop items new = (new ≡ old) ⊎ ((new ≡ old ++ noop) ⊎ Took old new items)

vote_ask_log : (seat : Seat) (m : Member) (from t place last : ℕ) → (on_vote_ask seat m from t place last).member.log ≡ m.log
vote_ask_log seat m from t place last = go (may_vote m from t place last)
  where
    go : (a : Bool) → (if a then sends (voted m from) (vote_reply seat m from true ∷ []) else sends m (vote_reply seat m from false ∷
        [])).member.log ≡ m.log
    go true = refl
    go false = refl

vote_reply_log : (seat : Seat) (m : Member) (from t : ℕ) (granted : Bool) → LogIs m.log (noop_of seat m) []
    (on_vote_reply seat m from t granted).member.log
vote_reply_log seat m from t granted = go (is_candidate m.role && nat_eq m.term t && granted) (is_elected seat (counted m from))
  where
    go : (a b : Bool) → LogIs m.log (noop_of seat m) [] (if a
        then (if b then sends (won seat (counted m from)) (appends seat (won seat (counted m from))) else still
        (counted m from)) else still m).member.log
    go true true = inr (inl refl)
    go true false = inl refl
    go false b = inl refl

append_log : (seat : Seat) (m : Member) (from t prev prev_term commit : ℕ) (items : List Item) →
    LogIs m.log (noop_of seat m) items (on_append seat m from t prev prev_term commit items).member.log
append_log seat m from t prev prev_term commit items = go (nat_lt t m.term) (is_leader m.role)
  where
    third : (d : Bool) → has_prev m prev prev_term ≡ d → LogIs m.log (noop_of seat m) items (if d
        then sends (took (follows m from) prev commit items) (append_reply seat (follows m from) from true (prev + length items) ∷ [])
        else sends (follows m from) (append_reply seat (follows m from) from false (min (prev - 1) (length m.log)) ∷ [])).member.log
    third true e = inr (inr (record {
      prev = prev;
      within = leb-true prev (length m.log) (and_parts (nat_le prev (length m.log)) (nat_eq (term_at m.log prev) prev_term) e).0;
      log = refl;
    }))
    third false e = inl refl

    second : (c : Option Conflict) → LogIs m.log (noop_of seat m) items (unless c (follows m from)
        (took_or_not seat (follows m from) from prev prev_term commit items)).member.log
    second None = third (has_prev m prev prev_term) refl
    second (Some x) = inl refl

    first : (b : Bool) → LogIs m.log (noop_of seat m) items (if b then notes (follows m from) (Beyond (prev + length items))
        else unless (contradicted (follows m from) prev prev_term items) (follows m from)
        (took_or_not seat (follows m from) from prev prev_term commit items)).member.log
    first true = inl refl
    first false = second (contradicted (follows m from) prev prev_term items)

    go : (a b : Bool) → LogIs m.log (noop_of seat m) items (if a then sends m (append_reply seat m from false 0 ∷ [])
        else (if b then still m else offered seat (follows m from) from prev prev_term commit items)).member.log
    go true b = inl refl
    go false true = inl refl
    go false false = first (nat_lt seat.limit (prev + length items))

append_reply_log : (seat : Seat) (m : Member) (from t : ℕ) (has : Bool) (place : ℕ) →
    (on_append_reply seat m from t has place).member.log ≡ m.log
append_reply_log seat m from t has place = go (is_leader m.role && nat_eq m.term t)
  where
    inner : (b : Bool) → (answered seat m from b place).member.log ≡ m.log
    inner true = refl
    inner false = refl

    go : (a : Bool) → (if a then answered seat m from has place else still m).member.log ≡ m.log
    go true = inner has
    go false = refl

body_log : (seat : Seat) (m : Member) (from : ℕ) (body : Body) → LogIs m.log (noop_of seat m) (items_in body)
    (on_body seat m from body).member.log
body_log seat m from (VoteAsk t place last) = inl (vote_ask_log seat m from t place last)
body_log seat m from (VoteReply t granted) = vote_reply_log seat m from t granted
body_log seat m from (Append t prev prev_term commit items) = append_log seat m from t prev prev_term commit items
body_log seat m from (AppendReply t has place) = inl (append_reply_log seat m from t has place)
body_log seat m from (Pull have) = inl refl
body_log seat m from (Batch first items) = inl refl

lifted_log : (m : Member) (body : Body) → (lifted m body).log ≡ m.log
lifted_log m body = go (nat_lt m.term (term_in body))
  where
    go : (b : Bool) → (if b then raised m (term_in body) else m).log ≡ m.log
    go true = refl
    go false = refl

settled_log : (seat : Seat) (o : Outcome) → (settled seat o).member.log ≡ o.member.log
settled_log seat o = go (is_leader o.member.role)
  where
    go : (b : Bool) → (if b then record o { member = advanced seat o.member } else o).member.log ≡ o.member.log
    go true = refl
    go false = refl

timeout_log : (seat : Seat) (m : Member) → (on_timeout seat m).member.log ≡ m.log
timeout_log seat m = go (is_leader m.role) (is_spent m)
  where
    go : (a b : Bool) → (if a then still m else (if b then notes m TermsSpent else sends (timed_out seat m)
        (asks seat (timed_out seat m)))).member.log ≡ m.log
    go true b = refl
    go false true = refl
    go false false = refl

beat_log : (seat : Seat) (m : Member) → (on_beat seat m).member.log ≡ m.log
beat_log seat m = go (is_leader m.role)
  where
    go : (a : Bool) → (if a then sends m (appends seat m) else still m).member.log ≡ m.log
    go true = refl
    go false = refl

-- ---- what the change has

all_of : (tail whole : List Item) → tail ≡ [] → Ends tail whole
all_of tail whole e = (whole, sym (ap (λ (l : List Item). whole ++ l) e ∙ append-nil whole))

-- the change of a step, with what was brought
record Saves (m : Member) (new : Saved) (brought : List Item) : Type 0 where
  ends : (c : ChangeSet) → IsChange (kept m) new c → Ends c.items brought
  few : (c : ChangeSet) → IsChange (kept m) new c → length c.items ≤ 64

same_log : (m : Member) (new : Saved) (brought : List Item) → new.log ≡ m.log → Saves m new brought
same_log m new brought e = record {
  ends = λ c is. all_of c.items brought (saving.none_of (kept m) new c is e);
  few = λ c is. omega (arith, ap length (saving.none_of (kept m) new c is e));
}

tail_le : (front tail whole : List Item) → whole ≡ front ++ tail → length tail ≤ length whole
tail_le front tail whole e = omega (arith, ap length e, length-append front tail)

behind_log : (m : Member) (new : Saved) (brought : List Item) → length brought ≤ 64 → new.log ≡ m.log ++ brought → Saves m new brought
behind_log m new brought few e = record {
  ends = λ c is. saving.behind (kept m) new c brought is e;
  few = λ c is. let h = saving.behind (kept m) new c brought is e in omega (arith, tail_le h.0 c.items brought h.1);
}

taken_log : (m : Member) (new : Saved) (brought : List Item) → length brought ≤ 64 → Took m.log new.log brought → Saves m new brought
taken_log m new brought few t = record {
  ends = λ c is. saving.taken (kept m) new c t.prev brought is t.within t.log;
  few = λ c is. let h = saving.taken (kept m) new c t.prev brought is t.within t.log in omega (arith, tail_le h.0 c.items brought h.1);
}

-- ---- the steps

done : (seat : Seat) (m : Member) (event : Event) → IsSeat seat → IsSound seat m → MayCome event → (brought : List Item) →
    Brings seat m event brought →
    Saves m (kept (step seat m event).member) brought → (c : ChangeSet) → IsChange (kept m) (kept (step seat m event).member) c →
    MayFollow (kept m) c × (xs : List Item) × Brings seat m event xs × Ends c.items xs
done seat m event i s come brought b v c is =
    let sound : IsSound seat (step seat m event).member = stays seat m event i s come in
    let back : NeverBack m (step seat m event).member = never seat m event i s come in
    (saving.follows (kept m) (kept (step seat m event).member) c is sound.saved back.term (v.few c is), brought, b, v.ends c is)

propose_saves : (seat : Seat) (m : Member) (entry : Entry) →
    Saves m (kept (settled seat (on_propose seat m entry)).member) (record { term = m.term; entry = entry } ∷ [])
propose_saves seat m entry = go (may_add seat m) refl
  where
    log : (settled seat (on_propose seat m entry)).member.log ≡ (on_propose seat m entry).member.log
    log = settled_log seat (on_propose seat m entry)

    of : (a : Bool) → may_add seat m ≡ a → (on_propose seat m entry).member.log ≡ (if a then sends (added m entry)
        (appends seat (added m entry)) else still m).member.log
    of a e = ap (λ (b : Bool). (if b then sends (added m entry) (appends seat (added m entry)) else still m).member.log) e

    go : (a : Bool) → may_add seat m ≡ a → Saves m (kept (settled seat (on_propose seat m entry)).member)
        (record { term = m.term; entry = entry } ∷ [])
    go true e = behind_log m (kept (settled seat (on_propose seat m entry)).member) (record { term = m.term; entry = entry } ∷ [])
        (omega arith) (log ∙ of true e)
    go false e = same_log m (kept (settled seat (on_propose seat m entry)).member) (record { term = m.term; entry = entry } ∷ [])
        (log ∙ of false e)

items_few : (body : Body) → IsWithin body → length (items_in body) ≤ 64
items_few (VoteAsk t place last) w = omega arith
items_few (VoteReply t granted) w = omega arith
items_few (Append t prev prev_term commit items) w = w.5.number
items_few (AppendReply t has place) w = omega arith
items_few (Pull have) w = omega arith
items_few (Batch first items) w = omega arith

noop_few : (seat : Seat) (m : Member) → length (noop_of seat m) ≤ 64
noop_few seat m = go (nat_lt (length m.log) seat.limit)
  where
    go : (b : Bool) → length {A = Item} (if b then record { term = m.term; entry = Noop } ∷ [] else []) ≤ 64
    go true = omega arith
    go false = omega arith

-- what a message brings, and that the change has the last of it
record Brought (seat : Seat) (m : Member) (body : Body) (new : Saved) : Type 0 where
  items : List Item
  brings : (items ≡ items_in body) ⊎ (items ≡ noop_of seat (lifted m body))
  saves : Saves m new items

brought : (seat : Seat) (m : Member) (body : Body) (new : Saved) → IsWithin body →
    LogIs (lifted m body).log (noop_of seat (lifted m body)) (items_in body) new.log → Brought seat m body new
brought seat m body new w (inl e) = record {
  items = items_in body;
  brings = inl refl;
  saves = same_log m new (items_in body) (e ∙ lifted_log m body);
}
brought seat m body new w (inr (inl e)) = record {
  items = noop_of seat (lifted m body);
  brings = inr refl;
  saves = behind_log m new (noop_of seat (lifted m body)) (noop_few seat (lifted m body))
      (e ∙ ap (λ (l : List Item). l ++ noop_of seat (lifted m body)) (lifted_log m body));
}
brought seat m body new w (inr (inr t)) = record {
  items = items_in body;
  brings = inl refl;
  saves = taken_log m new (items_in body) (items_few body w) (subst (λ (l : List Item). Took l new.log (items_in body))
      (lifted_log m body) t);
}

received : (seat : Seat) (m : Member) (e : Envelope) → Carried e → Brought seat m e.body (kept (step seat m (Receive e)).member)
unfolding step
received seat m e c = go (heard seat e)
  where
    go : (a : Bool) → Brought seat m e.body
        (kept (if a then settled seat (on_body seat (lifted m e.body) e.from e.body) else still m).member)
    go true = brought seat m e.body (kept (settled seat (on_body seat (lifted m e.body) e.from e.body)).member) c.body
        (subst (LogIs (lifted m e.body).log (noop_of seat (lifted m e.body)) (items_in e.body))
        (sym (settled_log seat (on_body seat (lifted m e.body) e.from e.body))) (body_log seat (lifted m e.body) e.from e.body))
    go false = record { items = items_in e.body; brings = inl refl; saves = same_log m (kept m) (items_in e.body) refl }

pub saved : MayBeSaved
unfolding step
saved seat m Timeout i s c = done seat m Timeout i s c [] refl
    (same_log m (kept (settled seat (on_timeout seat m)).member) [] (settled_log seat (on_timeout seat m) ∙ timeout_log seat m))
saved seat m Beat i s c = done seat m Beat i s c [] refl
    (same_log m (kept (settled seat (on_beat seat m)).member) [] (settled_log seat (on_beat seat m) ∙ beat_log seat m))
saved seat m (Propose entry) i s c =
    done seat m (Propose entry) i s c (record { term = m.term; entry = entry } ∷ []) refl (propose_saves seat m entry)
saved seat m (Receive e) i s c = let b = received seat m e c in done seat m (Receive e) i s c b.items b.brings b.saves

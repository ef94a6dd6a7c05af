-- The steps of the code are the steps of the definition.
use Rattle.std.proofs.Common.{◌≡◌, ℕ, ◌^◌, ◌<◌, ◌≤◌, Bool, true, false, List, [], length, refl, sym, ap, ◌∙◌, subst}
use Rattle.std.specs.Prelude.{IsTrue, nat_eq, nat_lt, not, if◌then◌else◌}
use Rattle.std.proofs.lemmas.Bool.{and_parts, le-ltb, lt-ltb}
use Rattle.ncc_tx.specs.declared.entry.Entry.{Entry}
use Rattle.ncc_tx.specs.declared.entry.Item.{Item}
use Rattle.ncc_tx.specs.Items.{entry_allowed}
use Rattle.ncc_tx.specs.Kept.{AllAllowed}
use Rattle.ncc_raft.specs.declared.message.Body.{Body}
use Rattle.ncc_raft.specs.declared.message.Body.TheVariants.{VoteAsk, VoteReply, Append, AppendReply, Pull, Batch}
use Rattle.ncc_raft.specs.declared.message.Envelope.{Envelope}
use Rattle.ncc_raft.specs.declared.message.Note.TheVariants.{Nothing}
use Rattle.ncc_raft.specs.declared.message.RaftRole.TheVariants.{Follower}
use Rattle.ncc_raft.specs.declared.message.Step.{Step}
use Rattle.ncc_raft.specs.declared.state.Seat as held
use Rattle.ncc_raft.specs.declared.state.Standing.{Standing}
use Rattle.ncc_raft.specs.declared.state.State.{State}
use Rattle.ncc_raft.specs.Carried.{Carried, IsWithin}
use Rattle.ncc_raft.specs.Core.{IsSeat, IsSound}
use Rattle.ncc_raft.specs.Member.{Member, Outcome, Timeout, Beat, Receive, Propose, is_core, still}
use Rattle.ncc_raft.specs.Elections.{raised}
use Rattle.ncc_raft.specs.Step.{heard, hears_from, lifted, on_beat, on_body, on_propose, on_timeout, settled, step, term_in}
use Rattle.ncc_raft.specs.State.{IsLifted, IsSettled, IsSoundAt, Made, Stood, append_of, append_reply_of, at, beat_of, body_of, member_of}
use Rattle.ncc_raft.specs.State.{propose_of, seat_of, step_of}
use Rattle.ncc_raft.specs.State.{timeout_of, vote_ask_of, vote_reply_of}
use Rattle.ncc_raft.proofs.Settling.{made_settled}
use Rattle.ncc_raft.proofs.Stands.{from_stood}
use Rattle.ncc_raft.proofs.Sound as sound

-- ---- what a rule made is sound

sound_after : (seat : held.Seat) (old mid : State) (o : Outcome) (s : Step) → Made old mid o s → IsSound (seat_of seat) o.member →
    IsSoundAt seat mid.standing mid
unfolding IsSoundAt
sound_after seat old mid o s x h = subst (IsSound (seat_of seat)) (sym x.member) h

pub timed_out_made : (seat : held.Seat) (old mid new : State) (s : Step) → Made old mid (timeout_of seat old) s → IsSettled seat mid new →
    Made old new (step_of seat old Timeout) s
unfolding step_of step timeout_of
timed_out_made seat old mid new s x e = made_settled seat old mid new (on_timeout (seat_of seat) (member_of old)) s x e

pub timed_out_sound : (seat : held.Seat) (old mid : State) (s : Step) → Made old mid (timeout_of seat old) s → IsSeat (seat_of seat) →
    IsSoundAt seat old.standing old →
    IsSoundAt seat mid.standing mid
unfolding timeout_of IsSoundAt
timed_out_sound seat old mid s x i h = sound_after seat old mid (on_timeout (seat_of seat) (member_of old)) s x
    (sound.timeout_sound (seat_of seat) (member_of old) i h)

pub beaten_made : (seat : held.Seat) (old mid new : State) (s : Step) → Made old mid (beat_of seat old) s → IsSettled seat mid new →
    Made old new (step_of seat old Beat) s
unfolding step_of step beat_of
beaten_made seat old mid new s x e = made_settled seat old mid new (on_beat (seat_of seat) (member_of old)) s x e

pub beaten_sound : (seat : held.Seat) (old mid : State) (s : Step) → Made old mid (beat_of seat old) s → IsSoundAt seat old.standing old →
    IsSoundAt seat mid.standing mid
unfolding beat_of IsSoundAt
beaten_sound seat old mid s x h = sound_after seat old mid (on_beat (seat_of seat) (member_of old)) s x
    (sound.beat_sound (seat_of seat) (member_of old) h)

pub added_made : (seat : held.Seat) (old mid new : State) (entry : Entry) (s : Step) → Made old mid (propose_of seat old entry) s →
    IsSettled seat mid new →
    Made old new (step_of seat old (Propose entry)) s
unfolding step_of step propose_of
added_made seat old mid new entry s x e = made_settled seat old mid new (on_propose (seat_of seat) (member_of old) entry) s x e

pub added_sound : (seat : held.Seat) (old mid : State) (entry : Entry) (s : Step) → Made old mid (propose_of seat old entry) s → IsSeat
    (seat_of seat) →
    IsSoundAt seat old.standing old → IsTrue (entry_allowed entry) → IsSoundAt seat mid.standing mid
unfolding propose_of IsSoundAt
added_sound seat old mid entry s x i h ok =
    sound_after seat old mid (on_propose (seat_of seat) (member_of old) entry) s x (sound.propose_sound (seat_of seat)
    (member_of old) entry i h ok)

-- ---- a later term

pub lifted_up : (s : State) (b : Body) (t : ℕ) → t ≡ term_in b → s.standing.term < t → IsLifted
    (record { term = t; vote = 0; role = Follower; leader = 0 }) s b
unfolding IsLifted
lifted_up s b t e lt =
    let m : Member = member_of s in
    ap (λ (k : ℕ). raised m k) e
    ∙ sym (ap (λ (c : Bool). if c then raised m (term_in b) else m) (ap (nat_lt m.term) (sym e) ∙ lt-ltb m.term t lt))

pub lifted_not : (s : State) (b : Body) (t : ℕ) → t ≡ term_in b → t ≤ s.standing.term → IsLifted s.standing s b
unfolding IsLifted
lifted_not s b t e le =
    let m : Member = member_of s in
    sym (ap (λ (c : Bool). if c then raised m (term_in b) else m) (ap (nat_lt m.term) (sym e) ∙ le-ltb m.term t le))

-- ---- by kind

same_body : (seat : held.Seat) (st : Standing) (old new : State) (from : ℕ) (b c : Body) (s : Step) → b ≡ c → Made old new
    (body_of seat st old from c) s →
    Made old new (body_of seat st old from b) s
same_body seat st old new from b c s e x = subst (λ (y : Body). Made old new (body_of seat st old from y) s) (sym e) x

pub ask_made : (seat : held.Seat) (st : Standing) (old new : State) (from t p l : ℕ) (b : Body) (s : Step) → Made old new
    (vote_ask_of seat st old from t p l) s →
    b ≡ VoteAsk t p l → Made old new (body_of seat st old from b) s
unfolding body_of vote_ask_of
ask_made seat st old new from t p l b s x e = same_body seat st old new from b (VoteAsk t p l) s e x

pub reply_made : (seat : held.Seat) (st : Standing) (old new : State) (from t : ℕ) (y : Bool) (b : Body) (s : Step) → Made old new
    (vote_reply_of seat st old from t y) s →
    b ≡ VoteReply t y → Made old new (body_of seat st old from b) s
unfolding body_of vote_reply_of
reply_made seat st old new from t y b s x e = same_body seat st old new from b (VoteReply t y) s e x

pub offer_made : (seat : held.Seat) (st : Standing) (old new : State) (from t prev pt commit : ℕ) (items : List Item) (b : Body)
    (s : Step) →
    Made old new (append_of seat st old from t prev pt commit items) s → b ≡ Append t prev pt commit items → Made old new
    (body_of seat st old from b) s
unfolding body_of append_of
offer_made seat st old new from t prev pt commit items b s x e = same_body seat st old new from b (Append t prev pt commit items) s e x

pub answer_made : (seat : held.Seat) (st : Standing) (old new : State) (from t : ℕ) (y : Bool) (place : ℕ) (b : Body) (s : Step) →
    Made old new (append_reply_of seat st old from t y place) s → b ≡ AppendReply t y place → Made old new (body_of seat st old from b) s
unfolding body_of append_reply_of
answer_made seat st old new from t y place b s x e = same_body seat st old new from b (AppendReply t y place) s e x

pub pulled_made : (seat : held.Seat) (st : Standing) (old new : State) (from have : ℕ) (b : Body) (s : Step) → Made old new
    (body_of seat st old from (Pull have)) s →
    b ≡ Pull have → Made old new (body_of seat st old from b) s
pulled_made seat st old new from have b s x e = same_body seat st old new from b (Pull have) s e x

pub batch_made : (seat : held.Seat) (st : Standing) (old new : State) (from first : ℕ) (items : List Item) (b : Body) (s : Step) →
    Stood old new st [] Nothing s →
    b ≡ Batch first items → Made old new (body_of seat st old from b) s
unfolding body_of
batch_made seat st old new from first items b s x e =
    same_body seat st old new from b (Batch first items) s e
    (from_stood old old new st [] Nothing s (on_body (seat_of seat) (at st (member_of old)) from (Batch first items)) x refl refl)

pub offer_prev : (b : Body) (t prev pt commit : ℕ) (items : List Item) → IsWithin b → b ≡ Append t prev pt commit items → prev < 2 ^ 62
offer_prev b t prev pt commit items w e = let v : IsWithin (Append t prev pt commit items) = subst IsWithin e w in v.1

pub offer_few : (b : Body) (t prev pt commit : ℕ) (items : List Item) → IsWithin b → b ≡ Append t prev pt commit items → length items ≤ 64
offer_few b t prev pt commit items w e = let v : IsWithin (Append t prev pt commit items) = subst IsWithin e w in v.5.number

pub offer_allowed : (b : Body) (t prev pt commit : ℕ) (items : List Item) → IsWithin b → b ≡ Append t prev pt commit items →
    AllAllowed items
offer_allowed b t prev pt commit items w e = let v : IsWithin (Append t prev pt commit items) = subst IsWithin e w in v.5.entries

pub pull_have : (b : Body) (have : ℕ) → IsWithin b → b ≡ Pull have → have < 2 ^ 62
pull_have b have w e = let v : IsWithin (Pull have) = subst IsWithin e w in v

pub reply_low : (seat : held.Seat) (from t : ℕ) (y : Bool) (b : Body) → IsTrue (hears_from (seat_of seat) from b) → b ≡ VoteReply t y →
    1 ≤ from
reply_low seat from t y b h e = (sound.is_core_within seat.cores from
    (subst (λ (c : Body). IsTrue (hears_from (seat_of seat) from c)) e h)).0

pub reply_high : (seat : held.Seat) (from t : ℕ) (y : Bool) (b : Body) → IsTrue (hears_from (seat_of seat) from b) → b ≡ VoteReply t y →
    from ≤ seat.cores
reply_high seat from t y b h e = (sound.is_core_within seat.cores from
    (subst (λ (c : Body). IsTrue (hears_from (seat_of seat) from c)) e h)).1

answerer : (seat : held.Seat) (from t : ℕ) (y : Bool) (place : ℕ) (b : Body) → IsTrue (hears_from (seat_of seat) from b) → b
    ≡ AppendReply t y place → IsTrue (is_core seat.cores from)
answerer seat from t y place b h e =
    (and_parts (is_core seat.cores from) (not (nat_eq from seat.id))
    (subst (λ (c : Body). IsTrue (hears_from (seat_of seat) from c)) e h)).0

pub answer_low : (seat : held.Seat) (from t : ℕ) (y : Bool) (place : ℕ) (b : Body) → IsTrue (hears_from (seat_of seat) from b) → b
    ≡ AppendReply t y place → 1 ≤ from
answer_low seat from t y place b h e = (sound.is_core_within seat.cores from (answerer seat from t y place b h e)).0

pub answer_high : (seat : held.Seat) (from t : ℕ) (y : Bool) (place : ℕ) (b : Body) → IsTrue (hears_from (seat_of seat) from b) → b
    ≡ AppendReply t y place → from ≤ seat.cores
answer_high seat from t y place b h e = (sound.is_core_within seat.cores from (answerer seat from t y place b h e)).1

-- what the code of each kind needs of its message
pub ruleset of_kind = (pulled_made, offer_prev, offer_few, offer_allowed, pull_have, reply_low, reply_high, answer_low, answer_high)

-- ---- a message

pub unheard_made : (seat : held.Seat) (old new : State) (e : Envelope) (b : Bool) (s : Step) → Stood old new old.standing [] Nothing s →
    b ≡ heard (seat_of seat) e → b ≡ false →
    Made old new (step_of seat old (Receive e)) s
unfolding step_of step
unheard_made seat old new e b s x f g =
    from_stood old old new old.standing [] Nothing s (step (seat_of seat) (member_of old) (Receive e)) x refl
    (ap (λ (c : Bool). if c then settled (seat_of seat)
    (on_body (seat_of seat) (lifted (member_of old) e.body) e.from e.body) else still (member_of old)) (sym f ∙ g))

-- what was made of a message whose term was taken over
of_lifted : (seat : held.Seat) (st : Standing) (old mid : State) (e : Envelope) (s : Step) → Made old mid
    (body_of seat st old e.from e.body) s → IsLifted st old e.body →
    Made old mid (on_body (seat_of seat) (lifted (member_of old) e.body) e.from e.body) s
unfolding body_of IsLifted
of_lifted seat st old mid e s x l = subst (λ (m : Member). Made old mid (on_body (seat_of seat) m e.from e.body) s) l x

pub received_made : (seat : held.Seat) (st : Standing) (old mid new : State) (e : Envelope) (b : Bool) (s : Step) → Made old mid
    (body_of seat st old e.from e.body) s →
    IsLifted st old e.body → IsSettled seat mid new → b ≡ heard (seat_of seat) e → b ≡ true → Made old new (step_of seat old (Receive e)) s
unfolding step_of step
received_made seat st old mid new e b s x l k f g =
    let o : Outcome = on_body (seat_of seat) (lifted (member_of old) e.body) e.from e.body in
    let is : step (seat_of seat) (member_of old) (Receive e) ≡ settled (seat_of seat) o =
    ap (λ (c : Bool). if c then settled (seat_of seat) o else still (member_of old)) (sym f ∙ g) in
    subst (λ (y : Outcome). Made old new y s) (sym is) (made_settled seat old mid new o s (of_lifted seat st old mid e s x l) k)

pub lifted_sound : (seat : held.Seat) (st : Standing) (old : State) (e : Envelope) → IsLifted st old e.body →
    IsSoundAt seat old.standing old → Carried e → IsSoundAt seat st old
unfolding IsLifted IsSoundAt
lifted_sound seat st old e l h c =
    subst (IsSound (seat_of seat)) (sym l) (sound.lifted_sound (seat_of seat) (member_of old) e.body h (sound.term_within e.body c.body))

pub received_sound : (seat : held.Seat) (st : Standing) (old mid : State) (e : Envelope) (b : Bool) (s : Step) → Made old mid
    (body_of seat st old e.from e.body) s →
    IsLifted st old e.body → IsSeat (seat_of seat) → IsSoundAt seat old.standing old → Carried e → b ≡ heard (seat_of seat) e → b ≡ true →
    IsSoundAt seat mid.standing mid
unfolding IsSoundAt
received_sound seat st old mid e b s x l i h c f g =
    let k : IsSound (seat_of seat) (lifted (member_of old) e.body) = sound.lifted_sound (seat_of seat) (member_of old) e.body h
    (sound.term_within e.body c.body) in
    let from : IsTrue (hears_from (seat_of seat) e.from e.body) = (and_parts (nat_eq e.to seat.id)
    (hears_from (seat_of seat) e.from e.body) (sym f ∙ g)).1 in
    sound_after seat old mid (on_body (seat_of seat) (lifted (member_of old) e.body) e.from e.body) s (of_lifted seat st old mid e s x l)
    (sound.body_sound (seat_of seat) (lifted (member_of old) e.body) e.from e.body i k c.body from (sound.lifted_up (member_of old) e.body))

pub heard_within : (e : Envelope) → Carried e → IsWithin e.body
heard_within e c = c.body

pub heard_from : (seat : held.Seat) (e : Envelope) (b : Bool) → b ≡ heard (seat_of seat) e → b ≡ true → IsTrue
    (hears_from (seat_of seat) e.from e.body)
heard_from seat e b f g = (and_parts (nat_eq e.to seat.id) (hears_from (seat_of seat) e.from e.body) (sym f ∙ g)).1

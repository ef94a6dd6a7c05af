-- The first connection that acts, by those that wait at each member.
use Rattle.std.proofs.Common.{◌≡◌, ◌≢◌, inl, inr, ℕ, zero, suc, ◌+◌, ◌-◌, ◌<◌, ◌≤◌, List, [], ◌∷◌, ◌++◌, length, Option, None, Some, Bool}
use Rattle.std.proofs.Common.{true, false, cond, not, ◌&&◌, ◌||◌, refl, ap, sym, ◌∙◌, arith}
use Rattle.std.specs.Prelude.{slice_get, nat_lt, nat_le, ◌==◌, if◌then◌else◌, position}
use Rattle.std.specs.List.{AllByRecursion, position_or_len}
use Rattle.std.proofs.lemmas.Bool.Decides.{eqb_tells, leb_tells}
use Rattle.ncc_wait.specs.declared.parked.Parked.{Parked}
use Rattle.ncc_wait.specs.declared.outcomes.Outcome.{Outcome}
use Rattle.ncc_wait.specs.declared.outcomes.Outcome.TheVariants.{Ready, NotYet, Late as IsLate}
use Rattle.ncc_wait.specs.Waiting.{outcome_of}
use Rattle.ncc_wait.specs.Room.{next, outcome_for, is_settled}
use Rattle.ncc_store.specs.declared.call.Call.{Call}
use Rattle.ncc_tx.specs.declared.entry.Item.{Item}
use Rattle.ncc_tx.specs.declared.stamp.Stamp.{Stamp}
use Rattle.ncc_tx.specs.State.{stamps, state}
use Rattle.ncc_store.specs.Exec.{exec}
use Rattle.ncc_session.specs.declared.ask.Fact.{Fact}
use Rattle.ncc_session.specs.declared.ask.Fact.TheVariants.{Elsewhere}
use Rattle.ncc_apply.specs.View.{stamp_of}
use Rattle.ncc_apply.specs.Meant.{one_each}
use Rattle.ncc_session.specs.Question.{Question, enter, run, leave, leave_noop, route, last_writes, some_writes}
use Rattle.ncc_clients.specs.Members.{at_of}
use Rattle.ncc_clients.specs.Run.{Client, Placing, tells, reply, question_of, deadline_of, enters, runs, ran, leaves, lands, found}
use Rattle.ncc_clients.specs.Turn.{acts, is_answer}
use Rattle.ncc_world.specs.declared.setup.Setup.{Setup}
use Rattle.ncc_world.specs.Setting.{cluster_of}
use Rattle.ncc_world.specs.Happening.{WorldRun}
use Rattle.ncc_world.specs.World.{AreNumbered, IsSomewhere, IsThere, listed, parked_by, parked_of, parked_one, parked_at, place_for}
use Rattle.ncc_world.specs.Parts.{first_where, lower, number_of}
use Rattle.ncc_world.proofs.Rooms.{eq_no, lt_no, lt_yes}

-- ---- a connection acts exactly where it is due

abbrev pub is_due : ℕ → ℕ → Option Parked → Bool
is_due at now None = false
is_due at now (Some p) = is_settled (outcome_for at now p)

-- what needs no place is due
at_zero : (at now deadline : ℕ) → outcome_of at 0 now deadline ≡ Ready
at_zero at now deadline = elim (leb_tells 0 at) [
  | inl h ↦ ap (λ (b : Bool). cond b Ready (cond (nat_lt deadline now) IsLate NotYet)) h.0
  | inr h ↦ absurd (omega (arith, h.1))
]

due_zero : (at now conn deadline : ℕ) → is_due at now (Some (record { conn = conn; need = 0; deadline = deadline })) ≡ true
due_zero at now conn deadline = ap is_settled (at_zero at now deadline)

enters_due : (at need now : ℕ) (o : Outcome) → is_answer (enters at need now o) ≡ is_settled o
enters_due at need now Ready = refl
enters_due at need now NotYet = refl
enters_due at need now IsLate = refl

told_due : (b : Bool) (f g : Fact) → is_answer (cond b (tells f) (tells g)) ≡ true
told_due true f g = refl
told_due false f g = refl

runs_due : (leads : Bool) (list : List Item) (calls : List Call) → is_answer (runs leads list calls) ≡ true
runs_due leads list calls = told_due (last_writes calls && not leads) Elsewhere (ran (length list) (exec (state list) calls))

stamp_there : {X : Type 0} (place : ℕ) (xs : List X) (i : ℕ) → i < length xs → (x : X) × (slice_get xs i ≡ Some x)
stamp_there place [] i h = absurd (omega (arith, h))
stamp_there place (x ∷ xs) zero h = (x, refl)
stamp_there place (x ∷ xs) (suc i) h = stamp_there place xs i (omega (arith, h))

found_due : (list : List Item) (p : Placing) → 0 < p.place → p.place ≤ length list → is_answer (found p (stamp_of p.place (stamps list))) ≡ true
found_due list p h k =
    let there = stamp_there p.place (stamps list) (p.place - 1) (omega (arith, one_each list, h, k)) in
    let zero_not : (p.place == 0) ≡ false = eq_no p.place 0 (λ e. absurd (omega (arith, h, e))) in
    let is : stamp_of p.place (stamps list) ≡ Some there.0 =
    ap (λ (b : Bool). cond b None (slice_get (stamps list) (p.place - 1))) zero_not ∙ there.1 in
    ap (λ (o : Option Stamp). is_answer (found p o)) is

ready_le : (at need now deadline : ℕ) → outcome_of at need now deadline ≡ Ready → need ≤ at
ready_le at need now deadline e = elim (leb_tells need at) [
  | inl h ↦ h.1
  | inr h ↦ absurd (late (nat_lt deadline now) (sym (ap (λ (b : Bool). cond b Ready (cond (nat_lt deadline now) IsLate NotYet)) h.0) ∙ e))
] where
  late : (b : Bool) → cond b IsLate NotYet ≡ Ready → ⊥
  late true e = cc
  late false e = cc

lands_due : (list : List Item) (now deadline : ℕ) (p : Placing) → 0 < p.place → (o : Outcome)
    → outcome_of (length list) p.place now deadline ≡ o → is_answer (lands list now p o) ≡ is_settled o
lands_due list now deadline p h Ready e = found_due list p h (ready_le (length list) p.place now deadline e)
lands_due list now deadline p h NotYet e = refl
lands_due list now deadline p h IsLate e = refl

leaves_due : (list : List Item) (now deadline conn : ℕ) (b : Bool) (placing : Option Placing) → IsSomewhere placing
    → is_answer (leaves list now deadline b placing)
    ≡ is_due (length list) now (Some (record { conn = conn; need = if b then place_for placing else 0; deadline = deadline }))
leaves_due list now deadline conn false placing h = sym (due_zero (length list) now conn deadline)
leaves_due list now deadline conn true None h = sym (due_zero (length list) now conn deadline)
leaves_due list now deadline conn true (Some p) h = lands_due list now deadline p h (outcome_of (length list) p.place now deadline) refl

asked_due : (s : Setup) (r : WorldRun) (c : Client) (o : Option Question) → question_of (cluster_of s) c ≡ o → IsSomewhere c.placing
    → acts (cluster_of s) r c
    ≡ is_due (at_of (cluster_of s) r.members c.member) r.now (parked_by c.number (deadline_of (cluster_of s) c) c.placing o)
unfolding reply
asked_due s r c None e h = rw e refl
asked_due s r c (Some (enter need)) e h = rw e (enters_due _ need r.now _)
asked_due s r c (Some (run calls)) e h = rw e (runs_due _ _ calls ∙ sym (due_zero _ r.now c.number _))
asked_due s r c (Some (leave calls told)) e h = rw e (leaves_due _ r.now _ c.number (some_writes calls) c.placing h)
asked_due s r c (Some leave_noop) e h = rw e (sym (due_zero _ r.now c.number _))
asked_due s r c (Some route) e h = rw e (sym (due_zero _ r.now c.number _))

pub acts_due : (s : Setup) (r : WorldRun) (c : Client) → IsSomewhere c.placing
    → acts (cluster_of s) r c ≡ is_due (at_of (cluster_of s) r.members c.member) r.now (parked_of s c)
acts_due s r c h = asked_due s r c (question_of (cluster_of s) c) refl h

-- ---- the first of a room

next_of : (at now : ℕ) (o : Option Parked) (rest : List Parked) (number : ℕ) → ((p : Parked) → o ≡ Some p → p.conn ≡ number)
    → number_of (next at now (listed o ++ rest)) ≡ (if is_due at now o then Some number else number_of (next at now rest))
unfolding next
next_of at now None rest number f = refl
next_of at now (Some p) rest number f = go (is_settled (outcome_for at now p)) where
  go : (b : Bool) → number_of (cond b (Some (p.conn, outcome_for at now p)) (next at now rest)) ≡ cond b (Some number) (number_of (next at now rest))
  go true = ap (λ n. Some n) (f p refl)
  go false = refl

conn_is : (number deadline : ℕ) (placing : Option Placing) (o : Option Question) (p : Parked) → parked_by number deadline placing o ≡ Some p
    → p.conn ≡ number
conn_is number deadline placing None p e = absurd (cc)
conn_is number deadline placing (Some q) p e = ap (λ (o : Option Parked). conn_or o) (sym e) where
  conn_or : Option Parked → ℕ
  conn_or None = number
  conn_or (Some x) = x.conn

pub next_is : (s : Setup) (r : WorldRun) (count at m : ℕ) (cs : List Client) → at ≡ at_of (cluster_of s) r.members m
    → AllByRecursion (IsThere count) cs
    → number_of (next at r.now (parked_at s m cs)) ≡ first_where (λ c. acts (cluster_of s) r c && (c.member == m)) cs
unfolding next parked_at first_where
next_is s r count at m [] e h = refl
next_is s r count at m (c ∷ cs) e h = elim (eqb_tells c.member m) [
  | inl k ↦ (
      let one : parked_one s m c ≡ listed (parked_of s c) = ap (λ (b : Bool). cond b (listed (parked_of s c)) []) k.0 in
      let due : is_due at r.now (parked_of s c) ≡ (acts (cluster_of s) r c && (c.member == m)) =
      ap (λ n. is_due n r.now (parked_of s c)) (e ∙ ap (at_of (cluster_of s) r.members) (sym k.1)) ∙ sym (acts_due s r c h.0.placed)
      ∙ both (acts (cluster_of s) r c) (c.member == m) k.0 in
      ap (λ (ps : List Parked). number_of (next at r.now (ps ++ parked_at s m cs))) one
      ∙ next_of at r.now (parked_of s c) (parked_at s m cs) c.number (conn_is c.number _ c.placing (question_of (cluster_of s) c))
      ∙ ap (λ (b : Bool). cond b (Some c.number) (number_of (next at r.now (parked_at s m cs)))) due
      ∙ ap (λ (o : Option ℕ). cond (acts (cluster_of s) r c && (c.member == m)) (Some c.number) o) (next_is s r count at m cs e h.1))
  | inr k ↦ (
      let one : parked_one s m c ≡ [] = ap (λ (b : Bool). cond b (listed (parked_of s c)) []) k.0 in
      ap (λ (ps : List Parked). number_of (next at r.now (ps ++ parked_at s m cs))) one
      ∙ next_is s r count at m cs e h.1
      ∙ ap (λ (b : Bool). cond b (Some c.number) (first_where (λ d. acts (cluster_of s) r d && (d.member == m)) cs))
      (sym (neither (acts (cluster_of s) r c) (c.member == m) k.0)))
] where
  both : (a b : Bool) → b ≡ true → a ≡ (a && b)
  both true b e = sym e
  both false b e = refl

  neither : (a b : Bool) → b ≡ false → (a && b) ≡ false
  neither true b e = e
  neither false b e = refl

-- ---- the first of two kinds

above_first : (test : Client → Bool) (from : ℕ) (cs : List Client) (n : ℕ) → AreNumbered from cs → first_where test cs ≡ Some n → from ≤ n
unfolding AreNumbered first_where
above_first test from [] n h e = absurd (cc)
above_first test from (c ∷ cs) n h e = go (test c) e (λ k. above_first test (from + 1) cs n h.1 k) where
  go : (b : Bool) → cond b (Some c.number) (first_where test cs) ≡ Some n → (first_where test cs ≡ Some n → from + 1 ≤ n) → from ≤ n
  go true k again = let same : c.number ≡ n = cc in omega (arith, h.0, same)
  go false k again = omega (arith, again k)

lower_some : (n : ℕ) (o : Option ℕ) → ((m : ℕ) → o ≡ Some m → n < m) → lower (Some n) o ≡ Some n
lower_some n None f = refl
lower_some n (Some m) f = ap (λ (b : Bool). cond b (Some m) (Some n)) (lt_no m n (omega (arith, f m refl)))

lower_other : (n : ℕ) (o : Option ℕ) → ((m : ℕ) → o ≡ Some m → n < m) → lower o (Some n) ≡ Some n
lower_other n None f = refl
lower_other n (Some m) f = ap (λ (b : Bool). cond b (Some n) (Some m)) (lt_yes n m (f m refl))

same_both : (n : ℕ) → lower (Some n) (Some n) ≡ Some n
same_both n = go (nat_lt n n) where
  go : (b : Bool) → cond b (Some n) (Some n) ≡ Some n
  go true = refl
  go false = refl

pub first_of_both : (p q : Client → Bool) (from : ℕ) (cs : List Client) → AreNumbered from cs
    → lower (first_where p cs) (first_where q cs) ≡ first_where (λ c. p c || q c) cs
unfolding AreNumbered first_where
first_of_both p q from [] h = refl
first_of_both p q from (c ∷ cs) h = go (p c) (q c) (first_of_both p q (from + 1) cs h.1) where
  behind : (test : Client → Bool) (m : ℕ) → first_where test cs ≡ Some m → c.number < m
  behind test m e = omega (arith, h.0, above_first test (from + 1) cs m h.1 e)

  go : (a b : Bool) → lower (first_where p cs) (first_where q cs) ≡ first_where (λ d. p d || q d) cs
      → lower (cond a (Some c.number) (first_where p cs)) (cond b (Some c.number) (first_where q cs))
      ≡ cond (a || b) (Some c.number) (first_where (λ d. p d || q d) cs)
  go true true again = same_both c.number
  go true false again = lower_some c.number (first_where q cs) (behind q)
  go false true again = lower_other c.number (first_where p cs) (behind p)
  go false false again = again

-- tests that are equal of all
pub first_same : (p q : Client → Bool) (P : Client → Type 0) (cs : List Client) → AllByRecursion P cs → ((c : Client) → P c → p c ≡ q c)
    → first_where p cs ≡ first_where q cs
unfolding first_where
first_same p q P [] h f = refl
first_same p q P (c ∷ cs) h f =
    ap (λ (b : Bool). cond b (Some c.number) (first_where p cs)) (f c h.0)
    ∙ ap (λ (o : Option ℕ). cond (q c) (Some c.number) o) (first_same p q P cs h.1 f)

first_never : (p : Client → Bool) (P : Client → Type 0) (cs : List Client) → AllByRecursion P cs → ((c : Client) → P c → p c ≡ false)
    → first_where p cs ≡ None
unfolding first_where
first_never p P [] h f = refl
first_never p P (c ∷ cs) h f = ap (λ (b : Bool). cond b (Some c.number) (first_where p cs)) (f c h.0) ∙ first_never p P cs h.1 f

-- ---- member by member

abbrev pub first_within : Setup → WorldRun → ℕ → Option ℕ
first_within s r m = first_where (λ c. acts (cluster_of s) r c && nat_le c.member m) r.clients

pub within_none : (s : Setup) (r : WorldRun) (count : ℕ) → AllByRecursion (IsThere count) r.clients → None ≡ first_within s r 0
within_none s r count h = sym (first_never _ (IsThere count) r.clients h (λ c k. go (acts (cluster_of s) r c) c k)) where
  go : (a : Bool) (c : Client) → IsThere count c → (a && nat_le c.member 0) ≡ false
  go true c k = elim (leb_tells c.member 0) [ inl l ↦ absurd (omega (arith, l.1, k.low)) | inr l ↦ l.0 ]
  go false c k = refl

split : (a : Bool) (member m : ℕ) → ((a && nat_le member m) || (a && (member == m + 1))) ≡ (a && nat_le member (m + 1))
split false member m = refl
split true member m = elim (leb_tells member m) [
  | inl h ↦ ap (λ (b : Bool). b || (member == m + 1)) h.0 ∙ sym (le_yes member (m + 1) (omega (arith, h.1)))
  | inr h ↦ ap (λ (b : Bool). b || (member == m + 1)) h.0 ∙ last (omega (arith, h.1))
] where
  le_yes : (a b : ℕ) → a ≤ b → nat_le a b ≡ true
  le_yes a b h = elim (leb_tells a b) [ inl k ↦ k.0 | inr k ↦ absurd (omega (arith, k.1, h)) ]

  le_no : (a b : ℕ) → b < a → nat_le a b ≡ false
  le_no a b h = elim (leb_tells a b) [ inl k ↦ absurd (omega (arith, k.1, h)) | inr k ↦ k.0 ]

  last : m < member → (member == m + 1) ≡ nat_le member (m + 1)
  last h = elim (eqb_tells member (m + 1)) [
    | inl k ↦ k.0 ∙ sym (le_yes member (m + 1) (omega (arith, k.1)))
    | inr k ↦ k.0 ∙ sym (le_no member (m + 1) (go k.1))
  ] where
    go : member ≢ m + 1 → m + 1 < member
    go k = elim (leb_tells member (m + 1)) [
      | inl l ↦ absurd (k (omega (arith, l.1, h)))
      | inr l ↦ l.1
    ]

pub within_more : (s : Setup) (r : WorldRun) (count at m : ℕ) (room : List Parked) → at ≡ at_of (cluster_of s) r.members (m + 1)
    → room ≡ parked_at s (m + 1) r.clients → AreNumbered 1 r.clients → AllByRecursion (IsThere count) r.clients
    → lower (first_within s r m) (number_of (next at r.now room)) ≡ first_within s r (m + 1)
within_more s r count at m room e f n h =
    ap (λ (ps : List Parked). lower (first_within s r m) (number_of (next at r.now ps))) f
    ∙ ap (lower (first_within s r m)) (next_is s r count at (m + 1) r.clients e h)
    ∙ first_of_both (λ c. acts (cluster_of s) r c && nat_le c.member m) (λ c. acts (cluster_of s) r c && (c.member == m + 1)) 1 r.clients n
    ∙ first_same _ _ (IsThere count) r.clients h (λ c k. split (acts (cluster_of s) r c) c.member m)

pub within_all : (s : Setup) (r : WorldRun) (count : ℕ) → AllByRecursion (IsThere count) r.clients
    → first_within s r count ≡ first_where (acts (cluster_of s) r) r.clients
within_all s r count h = first_same _ _ (IsThere count) r.clients h (λ c k. go (acts (cluster_of s) r c) c k) where
  go : (a : Bool) (c : Client) → IsThere count c → (a && nat_le c.member count) ≡ a
  go false c k = refl
  go true c k = elim (leb_tells c.member count) [ inl l ↦ l.0 | inr l ↦ absurd (omega (arith, l.1, k.high)) ]

-- ---- the number of the first tells its position

pub record Found (test : Client → Bool) (from : ℕ) (cs : List Client) (n : ℕ) : Type 0 where
  pub index : ℕ
  pub client : Client
  pub there : slice_get cs index ≡ Some client
  pub number : n ≡ from + index
  pub passes : test client ≡ true
  pub first : position test cs ≡ Some index

position_is : {X : Type 0} (p : X → Bool) (xs : List X) (i : ℕ) → position_or_len p xs ≡ i → i < length xs → position p xs ≡ Some i
position_is p xs i e h = go (nat_lt (position_or_len p xs) (length xs)) refl where
  go : (b : Bool) → nat_lt (position_or_len p xs) (length xs) ≡ b → cond b (Some (position_or_len p xs)) None ≡ Some i
  go true g = ap Some e
  go false g = absurd (false_no (sym g ∙ lt_yes (position_or_len p xs) (length xs) (omega (arith, e, h)))) where
    false_no : false ≡ true → ⊥
    false_no k = cc

position_past : {X : Type 0} (p : X → Bool) (xs : List X) → position_or_len p xs ≡ length xs → position p xs ≡ None
position_past p xs e = ap (λ (b : Bool). cond b (Some (position_or_len p xs)) None) (lt_no (position_or_len p xs) (length xs) (omega (arith, e)))

pub record FoundBy (test : Client → Bool) (from : ℕ) (cs : List Client) (n : ℕ) : Type 0 where
  pub index : ℕ
  pub client : Client
  pub there : slice_get cs index ≡ Some client
  pub within : index < length cs
  pub number : n ≡ from + index
  pub passes : test client ≡ true
  pub at : position_or_len test cs ≡ index

found_by : (test : Client → Bool) (from : ℕ) (cs : List Client) (n : ℕ) → AreNumbered from cs → first_where test cs ≡ Some n
    → FoundBy test from cs n
unfolding AreNumbered first_where
found_by test from [] n h e = absurd (cc)
found_by test from (c ∷ cs) n h e = go (test c) refl e (λ k. found_by test (from + 1) cs n h.1 k) where
  go : (b : Bool) → test c ≡ b → cond b (Some c.number) (first_where test cs) ≡ Some n
      → (first_where test cs ≡ Some n → FoundBy test (from + 1) cs n) → FoundBy test from (c ∷ cs) n
  go true t k again = record {
    index = 0;
    client = c;
    there = refl;
    within = omega arith;
    number = let same : c.number ≡ n = cc in omega (arith, h.0, same);
    passes = t;
    at = ap (λ (b : Bool). cond (not b) (1 + position_or_len test cs) 0) t;
  }
  go false t k again =
      let f = again k in
      record {
        index = suc f.index;
        client = f.client;
        there = f.there;
        within = omega (arith, f.within);
        number = omega (arith, f.number);
        passes = f.passes;
        at = ap (λ (b : Bool). cond (not b) (1 + position_or_len test cs) 0) t ∙ (let a = f.at in omega (arith, a));
      }

pub found_first : (test : Client → Bool) (from : ℕ) (cs : List Client) (n : ℕ) → AreNumbered from cs → first_where test cs ≡ Some n
    → Found test from cs n
found_first test from cs n h e =
    let f = found_by test from cs n h e in
    record {
      index = f.index;
      client = f.client;
      there = f.there;
      number = f.number;
      passes = f.passes;
      first = position_is test cs f.index f.at f.within;
    }

past_by : (test : Client → Bool) (cs : List Client) → first_where test cs ≡ None → position_or_len test cs ≡ length cs
unfolding first_where
past_by test [] e = refl
past_by test (c ∷ cs) e = go (test c) refl e (λ k. past_by test cs k) where
  go : (b : Bool) → test c ≡ b → cond b (Some c.number) (first_where test cs) ≡ None
      → (first_where test cs ≡ None → position_or_len test cs ≡ length cs) → position_or_len test (c ∷ cs) ≡ length (c ∷ cs)
  go true t k again = absurd (cc)
  go false t k again = ap (λ (b : Bool). cond (not b) (1 + position_or_len test cs) 0) t
      ∙ (let a = again k in omega (arith, a))

pub found_none : (test : Client → Bool) (cs : List Client) → first_where test cs ≡ None → position test cs ≡ None
found_none test cs e = position_past test cs (past_by test cs e)

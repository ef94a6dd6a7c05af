-- What a core sends can be carried.
use Rattle.std.proofs.Common.{◌≡◌, ℕ, zero, suc, ◌+◌, ◌-◌, ◌*◌, ◌^◌, ◌<◌, ◌≤◌, Bool, true, false, min, List, [], ◌∷◌, length}
use Rattle.std.proofs.Common.{drop, Option, Some, None, refl, arith, length-append}
use Rattle.std.specs.Prelude.{IsTrue, map, nat_eq, nat_le, nat_lt, not, ◌&&◌, if◌then◌else◌}
use Rattle.std.specs.List.{All, filter, range_with_len}
use Rattle.std.proofs.lemmas.Bool.{and_from, and_parts, le-leb, leb-true, lt-ltb, ltb-false, ltb-true}
use Rattle.std.proofs.lemmas.List.Elements.{All-cons, All-drop, All-head, All-nil, All-tail, All-take}
use Rattle.ncc_tx.specs.declared.entry.Item.{Item}
use Rattle.ncc_tx.specs.Items.{entry_allowed, item_bytes, items_bytes}
use Rattle.ncc_tx.specs.Kept.{AllAllowed, NeverFalls, term_at, term_limit}
use Rattle.ncc_tx.proofs.ItemBytes.{length_counted, length_item}
use Rattle.ncc_raft.specs.declared.message.Body.{Body}
use Rattle.ncc_raft.specs.declared.message.Body.TheVariants.{VoteAsk, VoteReply, Append, AppendReply, Pull, Batch}
use Rattle.ncc_raft.specs.declared.message.Envelope.{Envelope}
use Rattle.ncc_raft.specs.declared.message.Note.TheVariants.{Beyond, TermsSpent}
use Rattle.ncc_raft.specs.Member.{Seat, Member, Outcome, is_candidate, is_core, is_leader, next_of, notes, sends, still}
use Rattle.ncc_raft.specs.Logs.{allowed_front, entry_size, front_within, last_term}
use Rattle.ncc_raft.specs.Elections.{ask_to, asks, counted, is_elected, is_spent, may_vote, timed_out, voted, won}
use Rattle.ncc_raft.specs.Appending.{added, advanced, append_behind, append_to, appends, applied, batch, follows, has_prev, noted}
use Rattle.ncc_raft.specs.Appending.{took, contradicted}
use Rattle.ncc_raft.specs.Carried.{Carried, FitBehind, IsNumber, IsWithin}
use Rattle.ncc_raft.specs.Core.{IsSeat, IsSound}
use Rattle.ncc_raft.specs.Laws.{Ascends}
use Rattle.ncc_raft.specs.Step.{answered, append_reply, hears_from, may_add, offered, on_append, on_append_reply, on_beat, on_body}
use Rattle.ncc_raft.specs.Step.{on_propose}
use Rattle.ncc_raft.specs.Step.{on_timeout, on_vote_ask, on_vote_reply, settled, tallied, took_or_not, unless, vote_reply}
use Rattle.ncc_raft.proofs.Falls.{at_le, falls_behind}
use Rattle.ncc_raft.proofs.Sound as sound

-- ---- the front of a list

-- so many items, so many bytes of entries
record Few (number bytes : ℕ) (items : List Item) : Type 0 where
  pub items_are : length items ≤ number
  pub bytes_are : length (items_bytes items) ≤ 12 * length items + bytes

few_more : (number bytes : ℕ) (i : Item) (is : List Item) → entry_size i ≤ bytes → Few number (bytes - entry_size i) is → Few
    (suc number) bytes (i ∷ is)
few_more number bytes i is le f = record {
  items_are = omega (arith, f.items_are);
  bytes_are = omega (arith, f.bytes_are, length_item i, length-append (item_bytes i) (items_bytes is));
}

front_few : (number bytes : ℕ) (items : List Item) → Few number bytes (front_within number bytes items)
unfolding front_within
front_few number bytes [] = record { items_are = omega arith; bytes_are = omega arith }
front_few zero bytes (i ∷ is) = record { items_are = omega arith; bytes_are = omega arith }
front_few (suc number) bytes (i ∷ is) = go (nat_le (entry_size i) bytes) refl (front_few number (bytes - entry_size i) is)
  where
    go : (b : Bool) → nat_le (entry_size i) bytes ≡ b → Few number (bytes - entry_size i) (front_within number (bytes - entry_size i) is) →
        Few (suc number) bytes (if b then i ∷ front_within number (bytes - entry_size i) is else [])
    go true e h = few_more number bytes i (front_within number (bytes - entry_size i) is) (leb-true (entry_size i) bytes e) h
    go false e h = record { items_are = omega arith; bytes_are = omega arith }

front_all : (P : Item → Type 0) (number bytes : ℕ) (items : List Item) → All P items → All P (front_within number bytes items)
unfolding front_within
front_all P number bytes [] a = All-nil P
front_all P zero bytes (i ∷ is) a = All-nil P
front_all P (suc number) bytes (i ∷ is) a = go (nat_le (entry_size i) bytes) (front_all P number (bytes - entry_size i) is
    (All-tail P i is a))
  where
    go : (b : Bool) → All P (front_within number (bytes - entry_size i) is) → All P (if b then i ∷ front_within number
        (bytes - entry_size i) is else [])
    go true h = All-cons P i (front_within number (bytes - entry_size i) is) (All-head P i is a) h
    go false h = All-nil P

front_falls : (least greatest number bytes : ℕ) (items : List Item) → NeverFalls least greatest items → NeverFalls least greatest
    (front_within number bytes items)
unfolding front_within
front_falls least greatest number bytes [] a = tt
front_falls least greatest zero bytes (i ∷ is) a = tt
front_falls least greatest (suc number) bytes (i ∷ is) a =
    go (nat_le (entry_size i) bytes) (front_falls i.term greatest number (bytes - entry_size i) is a.2)
  where
    go : (b : Bool) → NeverFalls i.term greatest (front_within number (bytes - entry_size i) is) →
        NeverFalls least greatest (if b then i ∷ front_within number (bytes - entry_size i) is else [])
    go true h = (a.0, a.1, h)
    go false h = tt

front_fits : (head : ℕ) (items : List Item) → head ≤ 43 → AllAllowed items → FitBehind head (allowed_front items)
unfolding allowed_front
front_fits head items le ok =
    let f = front_few 64 1_048_576 items in
    record {
      number = f.items_are;
      entries = front_all (λ (i : Item). IsTrue (entry_allowed i.entry)) 64 1_048_576 items ok;
      bytes = omega (arith, f.items_are, f.bytes_are, length_counted (front_within 64 1_048_576 items));
    }

allowed_falls : (least greatest : ℕ) (items : List Item) → NeverFalls least greatest items → NeverFalls least greatest (allowed_front items)
unfolding allowed_front
allowed_falls least greatest items a = front_falls least greatest 64 1_048_576 items a

allowed_all : (P : Item → Type 0) (items : List Item) → All P items → All P (allowed_front items)
unfolding allowed_front
allowed_all P items a = front_all P 64 1_048_576 items a

-- ---- letters

a_core : (seat : Seat) (c : ℕ) → IsSeat seat → 1 ≤ c → c ≤ seat.cores → IsNumber c
a_core seat c i le ge = (le, omega (arith, ge, i.few))

itself : (seat : Seat) → IsSeat seat → IsNumber seat.id
itself seat i = a_core seat seat.id i i.this i.among

append_carried : (seat : Seat) (m : Member) (core prev : ℕ) → IsSeat seat → IsSound seat m → 1 ≤ core → core ≤ seat.cores →
    prev ≤ length m.log → Carried (append_behind seat m core prev)
append_carried seat m core prev i s low high le = record {
  from = itself seat i;
  to = a_core seat core i low high;
  body = (
    s.saved.term,
    omega (arith, le, s.few, i.limit),
    omega (arith, at_le m.term m.log prev s.saved.terms, s.saved.term),
    omega (arith, s.commit, s.few, i.limit),
    allowed_falls (term_at m.log prev) m.term (drop prev m.log) (falls_behind m.term prev m.log le s.saved.terms),
    front_fits 43 (drop prev m.log) (omega arith) (All-drop (λ (y : Item). IsTrue (entry_allowed y.entry)) prev m.log s.saved.entries),
  );
}

-- ---- lists of letters

-- each can be carried, they go to ascending cores, and to none before this one
pub record Goes (least : ℕ) (es : List Envelope) : Type 0 where
  pub carried : All Carried es
  pub ascends : Ascends (map (λ e. e.to) es)
  pub behind : All (λ (e : Envelope). least ≤ e.to) es

pub goes_none : (least : ℕ) → Goes least []
goes_none least = record { carried = All-nil Carried; ascends = tt; behind = All-nil (λ (e : Envelope). least ≤ e.to) }

goes_cons : (least : ℕ) (e : Envelope) (es : List Envelope) → Carried e → least ≤ e.to → Goes (suc e.to) es → Goes least (e ∷ es)
goes_cons least e [] c le g = record {
  carried = All-cons Carried e [] c g.carried;
  ascends = tt;
  behind = All-cons (λ (x : Envelope). least ≤ x.to) e [] le (All-nil (λ (x : Envelope). least ≤ x.to));
}
goes_cons least e (x ∷ xs) c le g = record {
  carried = All-cons Carried e (x ∷ xs) c g.carried;
  ascends = (omega (arith, All-head (λ (y : Envelope). suc e.to ≤ y.to) x xs g.behind), g.ascends);
  behind = All-cons (λ (y : Envelope). least ≤ y.to) e (x ∷ xs) le
      (λ k d lt. omega (arith, le, g.behind k d lt));
}

goes_from : (low least : ℕ) (es : List Envelope) → low ≤ least → Goes least es → Goes low es
goes_from low least es le g = record { carried = g.carried; ascends = g.ascends; behind = λ k d lt. omega (arith, le, g.behind k d lt) }

one : (e : Envelope) → Carried e → Goes 0 (e ∷ [])
one e c = goes_cons 0 e [] c (omega arith) (goes_none (suc e.to))

-- a letter to each core of a range
goes_map : (f : ℕ → Envelope) (a n : ℕ) → ((c : ℕ) → a ≤ c → c < a + n → Carried (f c)) → ((c : ℕ) → (f c).to ≡ c) → Goes a
    (map f (range_with_len a n))
goes_map f a zero c to = goes_none a
goes_map f a (suc n) c to =
    let rest : Goes (a + 1) (map f (range_with_len (a + 1) n)) = goes_map f (a + 1) n (λ k le lt. c k (omega arith) (omega arith)) to in
    goes_cons a (f a) (map f (range_with_len (a + 1) n)) (c a (omega arith) (omega arith)) (omega (arith, to a))
    (goes_from (suc (f a).to) (a + 1) (map f (range_with_len (a + 1) n)) (omega (arith, to a)) rest)

goes_others : (f : ℕ → Envelope) (p : ℕ → Bool) (a n : ℕ) → ((c : ℕ) → a ≤ c → c < a + n → Carried (f c)) → ((c : ℕ) → (f c).to ≡ c) →
    Goes a (map f (filter p (range_with_len a n)))
goes_others f p a zero c to = goes_none a
goes_others f p a (suc n) c to = go (p a) (goes_others f p (a + 1) n (λ k le lt. c k (omega arith) (omega arith)) to)
  where
    go : (b : Bool) → Goes (a + 1) (map f (filter p (range_with_len (a + 1) n))) →
        Goes a (map f (if b then a ∷ filter p (range_with_len (a + 1) n) else filter p (range_with_len (a + 1) n)))
    go true rest = goes_cons a (f a) (map f (filter p (range_with_len (a + 1) n))) (c a (omega arith) (omega arith)) (omega (arith, to a))
        (goes_from (suc (f a).to) (a + 1) (map f (filter p (range_with_len (a + 1) n))) (omega (arith, to a)) rest)
    go false rest = goes_from a (a + 1) (map f (filter p (range_with_len (a + 1) n))) (omega arith) rest

pub core_is : (n c : ℕ) → 1 ≤ c → c ≤ n → IsTrue (is_core n c)
unfolding is_core
core_is n c le ge = and_from (nat_lt 0 c) (nat_le c n) (lt-ltb 0 c (omega arith)) (le-leb c n ge)

appends_go : (seat : Seat) (m : Member) → IsSeat seat → IsSound seat m → is_leader m.role ≡ true → Goes 0 (appends seat m)
appends_go seat m i s lead =
    goes_from 0 1 (appends seat m) (omega arith)
    (goes_others (append_to seat m) (λ (c : ℕ). not (nat_eq c seat.id)) 1 seat.cores
    (λ c le lt.
    let w = s.leads lead c (core_is seat.cores c le (omega arith)) in
    append_carried seat m c (next_of m c - 1) i s le (omega arith) (omega (arith, w.1)))
    (λ c. refl))

-- ---- the rules

falls_all : (least t : ℕ) (xs : List Item) → NeverFalls least t xs → t < term_limit → All (λ (i : Item). i.term < term_limit) xs
falls_all least t [] a lt = All-nil (λ (i : Item). i.term < term_limit)
falls_all least t (x ∷ xs) a lt =
    All-cons (λ (i : Item). i.term < term_limit) x xs (omega (arith, a.1)) (falls_all x.term t xs a.2 lt)

last_below : (seat : Seat) (m : Member) → IsSound seat m → last_term m.log < term_limit
unfolding last_term
last_below seat m s = omega (arith, at_le m.term m.log (length m.log) s.saved.terms, s.saved.term)

asks_go : (seat : Seat) (m : Member) → IsSeat seat → IsSound seat m → Goes 0 (asks seat m)
asks_go seat m i s =
    goes_from 0 1 (asks seat m) (omega arith)
    (goes_map (ask_to seat m) 1 seat.cores (λ c le lt. asked c le (omega arith)) (λ c. refl))
  where
    asked : (c : ℕ) → 1 ≤ c → c ≤ seat.cores → Carried (ask_to seat m c)
    asked c le ge = record { from = itself seat i; to = a_core seat c i le ge; body = go (nat_eq c seat.id) }
      where
        go : (b : Bool) → IsWithin (if b then VoteReply m.term true else VoteAsk m.term (length m.log) (last_term m.log))
        go true = s.saved.term
        go false = (s.saved.term, omega (arith, s.few, i.limit), last_below seat m s)

pub timeout_go : (seat : Seat) (m : Member) → IsSeat seat → IsSound seat m → Goes 0 (on_timeout seat m).sent
timeout_go seat m i s = go (is_leader m.role) (is_spent m) refl
  where
    go : (a b : Bool) → is_spent m ≡ b →
        Goes 0 (if a then still m else (if b then notes m TermsSpent else sends (timed_out seat m) (asks seat (timed_out seat m)))).sent
    go true b e = goes_none 0
    go false true e = goes_none 0
    go false false e = asks_go seat (timed_out seat m) i (sound.timed_out_sound seat m i s e)

pub beat_go : (seat : Seat) (m : Member) → IsSeat seat → IsSound seat m → Goes 0 (on_beat seat m).sent
beat_go seat m i s = go (is_leader m.role) refl
  where
    go : (a : Bool) → is_leader m.role ≡ a → Goes 0 (if a then sends m (appends seat m) else still m).sent
    go true e = appends_go seat m i s e
    go false e = goes_none 0

pub propose_go : (seat : Seat) (m : Member) (entry : _) → IsSeat seat → IsSound seat m → IsTrue (entry_allowed entry) → Goes 0
    (on_propose seat m entry).sent
propose_go seat m entry i s ok = go (may_add seat m) refl
  where
    go : (a : Bool) → may_add seat m ≡ a → Goes 0 (if a then sends (added m entry) (appends seat (added m entry)) else still m).sent
    go true e =
        let p = and_parts (is_leader m.role) (nat_lt (length m.log) seat.limit) e in
        appends_go seat (added m entry) i (sound.added_sound seat m entry i s (ltb-true (length m.log) seat.limit p.1) ok) p.0
    go false e = goes_none 0

voter : (seat : Seat) (m : Member) (to : ℕ) (granted : Bool) → IsSeat seat → IsSound seat m → IsNumber to → Goes 0
    (vote_reply seat m to granted ∷ [])
voter seat m to granted i s n = one (vote_reply seat m to granted) (record { from = itself seat i; to = n; body = s.saved.term })

vote_ask_go : (seat : Seat) (m : Member) (from t place last : ℕ) → IsSeat seat → IsSound seat m → IsNumber from → Goes 0
    (on_vote_ask seat m from t place last).sent
vote_ask_go seat m from t place last i s n = go (may_vote m from t place last)
  where
    go : (a : Bool) → Goes 0 (if a then sends (voted m from) (vote_reply seat m from true ∷ []) else sends m
        (vote_reply seat m from false ∷ [])).sent
    go true = voter seat m from true i s n
    go false = voter seat m from false i s n

tallied_go : (seat : Seat) (m : Member) → IsSeat seat → IsSound seat m → Goes 0 (tallied seat m).sent
tallied_go seat m i s = go (is_elected seat m)
  where
    go : (a : Bool) → Goes 0 (if a then sends (won seat m) (appends seat (won seat m)) else still m).sent
    go true = appends_go seat (won seat m) i (sound.won_sound seat m i s) refl
    go false = goes_none 0

vote_reply_go : (seat : Seat) (m : Member) (from t : ℕ) (granted : Bool) → IsSeat seat → IsSound seat m → Goes 0
    (on_vote_reply seat m from t granted).sent
vote_reply_go seat m from t granted i s = go (is_candidate m.role && nat_eq m.term t && granted)
  where
    go : (a : Bool) → Goes 0 (if a then tallied seat (counted m from) else still m).sent
    go true = tallied_go seat (counted m from) i (sound.counted_sound seat m from s)
    go false = goes_none 0

replier : (seat : Seat) (m : Member) (to : ℕ) (has : Bool) (place : ℕ) → IsSeat seat → m.term < term_limit → IsNumber to → place < 2 ^ 64 →
    Goes 0 (append_reply seat m to has place ∷ [])
replier seat m to has place i s n lt = one (append_reply seat m to has place) (record { from = itself seat i; to = n; body = (s, lt) })

append_go : (seat : Seat) (m : Member) (from t prev prev_term commit : ℕ) (items : List Item) → IsSeat seat → IsSound seat m →
    IsNumber from →
    Goes 0 (on_append seat m from t prev prev_term commit items).sent
append_go seat m from t prev prev_term commit items i s n = go (nat_lt t m.term) (is_leader m.role)
  where
    f : Member
    f = follows m from

    third : (d : Bool) → prev + length items ≤ seat.limit → Goes 0 (if d
        then sends (took (follows m from) prev commit items) (append_reply seat (follows m from) from true (prev + length items) ∷ [])
        else sends (follows m from) (append_reply seat (follows m from) from false (min (prev - 1) (length m.log)) ∷ [])).sent
    third true le = replier seat (follows m from) from true (prev + length items) i s.saved.term n (omega (arith, i.limit))
    third false le = replier seat (follows m from) from false (min (prev - 1) (length m.log)) i s.saved.term n
        (omega (arith, s.few, i.limit))

    second : (c : Option _) → prev + length items ≤ seat.limit → Goes 0 (unless c (follows m from)
        (took_or_not seat (follows m from) from prev prev_term commit items)).sent
    second None le = third (has_prev (follows m from) prev prev_term) le
    second (Some x) le = goes_none 0

    first : (b : Bool) → nat_lt seat.limit (prev + length items) ≡ b → Goes 0 (if b then notes (follows m from)
        (Beyond (prev + length items))
        else unless (contradicted (follows m from) prev prev_term items) (follows m from)
        (took_or_not seat (follows m from) from prev prev_term commit items)).sent
    first true e = goes_none 0
    first false e = second (contradicted (follows m from) prev prev_term items) (ltb-false seat.limit (prev + length items) e)

    go : (a b : Bool) → Goes 0 (if a then sends m (append_reply seat m from false 0 ∷ [])
        else (if b then still m else offered seat (follows m from) from prev prev_term commit items)).sent
    go true b = replier seat m from false 0 i s.saved.term n (omega arith)
    go false true = goes_none 0
    go false false = first (nat_lt seat.limit (prev + length items)) refl

append_reply_go : (seat : Seat) (m : Member) (from t : ℕ) (has : Bool) (place : ℕ) → IsSeat seat → IsSound seat m → IsTrue
    (is_core seat.cores from) →
    Goes 0 (on_append_reply seat m from t has place).sent
append_reply_go seat m from t has place i s c = go (is_leader m.role && nat_eq m.term t) refl
  where
    inner : (b : Bool) → is_leader m.role ≡ true → Goes 0 (answered seat m from b place).sent
    inner true lead = goes_none 0
    inner false lead =
        let after : IsSound seat (noted m from false place) = sound.noted_sound seat m from false place s c lead in
        let w = sound.is_core_within seat.cores from c in
        let l = after.leads lead from c in
        one (append_to seat (noted m from false place) from)
        (append_carried seat (noted m from false place) from (next_of (noted m from false place) from - 1) i after w.0 w.1
        (omega (arith, l.1)))

    go : (a : Bool) → (is_leader m.role && nat_eq m.term t) ≡ a → Goes 0 (if a then answered seat m from has place else still m).sent
    go true e = inner has (and_parts (is_leader m.role) (nat_eq m.term t) e).0
    go false e = goes_none 0

batch_carried : (seat : Seat) (m : Member) (to have : ℕ) → IsSeat seat → IsSound seat m → IsNumber to → have < 2 ^ 62 → Carried
    (batch seat m to have)
batch_carried seat m to have i s n lt = record {
  from = itself seat i;
  to = n;
  body = (
    omega arith,
    omega arith,
    allowed_all (λ (y : Item). y.term < term_limit) (drop have (applied m))
        (All-drop (λ (y : Item). y.term < term_limit) have (applied m) (All-take (λ (y : Item). y.term < term_limit) m.commit m.log
        (falls_all 0 m.term m.log s.saved.terms s.saved.term))),
    front_fits 19 (drop have (applied m)) (omega arith)
        (All-drop (λ (y : Item). IsTrue (entry_allowed y.entry)) have (applied m)
        (All-take (λ (y : Item). IsTrue (entry_allowed y.entry)) m.commit m.log s.saved.entries)),
  );
}

hears : (seat : Seat) (from : ℕ) → IsTrue (is_core seat.cores from && not (nat_eq from seat.id)) → IsTrue (is_core seat.cores from)
hears seat from h = (and_parts (is_core seat.cores from) (not (nat_eq from seat.id)) h).0

pub body_go : (seat : Seat) (m : Member) (from : ℕ) (body : Body) → IsSeat seat → IsSound seat m → IsNumber from → IsWithin body →
    IsTrue (hears_from seat from body) → Goes 0 (on_body seat m from body).sent
body_go seat m from (VoteAsk t place last) i s n w h = vote_ask_go seat m from t place last i s n
body_go seat m from (VoteReply t granted) i s n w h = vote_reply_go seat m from t granted i s
body_go seat m from (Append t prev prev_term commit items) i s n w h = append_go seat m from t prev prev_term commit items i s n
body_go seat m from (AppendReply t has place) i s n w h = append_reply_go seat m from t has place i s (hears seat from h)
body_go seat m from (Pull have) i s n w h = one (batch seat m from have) (batch_carried seat m from have i s n w)
body_go seat m from (Batch first items) i s n w h = goes_none 0

pub settled_go : (seat : Seat) (o : Outcome) → Goes 0 o.sent → Goes 0 (settled seat o).sent
settled_go seat o g = go (is_leader o.member.role)
  where
    go : (b : Bool) → Goes 0 (if b then record o { member = advanced seat o.member } else o).sent
    go true = g
    go false = g

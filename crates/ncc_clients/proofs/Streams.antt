-- The messages of what was sent, of its front, and of answers of which some may be too long.
use Rattle.std.proofs.Common.{◌≡◌, ◌≢◌, ℕ, zero, suc, ◌+◌, ◌<◌, ◌≤◌, Bool, List, [], ◌∷◌, ◌++◌, length, map, inl, inr}
use Rattle.std.proofs.Common.{◌⊎◌}
use Rattle.std.proofs.Common.{refl, sym, ap, ◌∙◌, subst, append_assoc, length-append, arith}
use Rattle.std.specs.List.{AllByRecursion, Contains, flat_map}
use Rattle.std.proofs.lemmas.Bool.{cases_lt}
use Rattle.std.proofs.lemmas.List.Elements.{Contains-append_cases}
use Rattle.ncc_chunk.specs.declared.handshake.Shake.{Shake}
use Rattle.ncc_chunk.specs.declared.handshake.Shake.TheVariants.{More, Chosen, BadMagic, NoVersion}
use Rattle.ncc_chunk.specs.Handshake.{answer_to, handshake_of}
use Rattle.ncc_chunk.specs.Chunked.{chunks_of, chunked}
use Rattle.ncc_chunk.specs.Chunks.{Chunks, none, chunk, size_of, limit, Framed, nothing, PastLimit}
use Rattle.ncc_chunk.specs.Messages.{messages_of, rest_of, is_too_long, parts_by, front_by}
use Rattle.ncc_chunk.proofs.Framing.{none_in_past}
use Rattle.ncc_chunk.proofs.Pieces.{chunks_whole, reads_back}
use Rattle.ncc_chunk.proofs.Parts.{functions_read, functions_are_all, functions_go_on}
use Rattle.ncc_chunk.proofs.Shaking.{same_where_settled}
use Rattle.ncc_bolt.specs.Writing.{short_request}
use Rattle.ncc_bolt.specs.declared.message.Request.{Request}
use Rattle.ncc_bolt.specs.declared.message.Request.TheVariants as r
use Rattle.ncc_session.specs.Session.{Input, shaken, message, shaken_as, end_of, stream_inputs, stream_of, inputs_of}
use Rattle.ncc_session.proofs.Shaken.{more_none, chosen_stream}
use Rattle.ncc_clients.specs.Transacting.{shake, CanBeSent, IsUnread, Sent}

-- ---- a message that is too long

-- behind so many bytes a chunk passes the limit
record Passes (before : ℕ) (bytes : List ℕ) : Type 0 where
  message : List ℕ
  chunks : List ℕ
  high : ℕ
  low : ℕ
  more : List ℕ
  whole : Chunks message chunks
  is : bytes ≡ chunks ++ high ∷ low ∷ more
  past : limit < before + length message + size_of high low

one_further : (before high low : ℕ) (body bytes : List ℕ) → 0 < size_of high low → length body ≡ size_of high low
    → Passes (before + length body) bytes → Passes before (high ∷ low ∷ body ++ bytes)
one_further before high low body bytes some len k =
    let l = length-append body k.message in
    let p = k.past in
    record {
      message = body ++ k.message;
      chunks = high ∷ low ∷ body ++ k.chunks;
      high = k.high;
      low = k.low;
      more = k.more;
      whole = chunk high low body k.message k.chunks some len k.whole;
      is = rw (k.is, append_assoc body k.chunks (k.high ∷ k.low ∷ k.more)) refl;
      past = omega arith;
    }

passes : (before : ℕ) (m c : List ℕ) → Chunks m c → limit < before + length m → before ≤ limit → Passes before c
passes before _ _ none past fits = absurd (omega arith)
passes before _ _ (chunk high low body m c some len whole) past fits = elim (cases_lt limit (before + length body)) [
  | inl lt ↦ record {
    message = [];
    chunks = [];
    high = high;
    low = low;
    more = body ++ c;
    whole = none;
    is = refl;
    past = omega (arith, lt, len);
  }
  | inr le ↦ one_further before high low body c some len
      (passes (before + length body) m c whole (omega (arith, past, length-append body m)) le)
]

past_by : (chunks bytes : List ℕ) → Passes 0 chunks → PastLimit ((chunks ++ 0 ∷ 0 ∷ []) ++ bytes)
past_by chunks bytes k =
    let p = k.past in
    record {
      message = k.message;
      chunks = k.chunks;
      high = k.high;
      low = k.low;
      more = (k.more ++ 0 ∷ 0 ∷ []) ++ bytes;
      whole = k.whole;
      rest_is = ap (λ (c : List ℕ). (c ++ 0 ∷ 0 ∷ []) ++ bytes) k.is
          ∙ ap (λ (c : List ℕ). c ++ bytes) (append_assoc k.chunks (k.high ∷ k.low ∷ k.more) (0 ∷ 0 ∷ []))
          ∙ append_assoc k.chunks (k.high ∷ k.low ∷ k.more ++ 0 ∷ 0 ∷ []) bytes;
      past = omega arith;
    }

past_limit : (m bytes : List ℕ) → limit < length m → PastLimit (chunked m ++ bytes)
past_limit m bytes lt =
    past_by (chunks_of m) bytes (passes 0 m (chunks_of m) (chunks_whole m (omega (arith, lt))) (omega (arith, lt)) (omega arith))

none_behind : (m bytes : List ℕ) → limit < length m → messages_of (chunked m ++ bytes) ≡ []
none_behind m bytes lt =
    sym (functions_are_all (chunked m ++ bytes) (chunked m ++ bytes) []
    (nothing (none_in_past (chunked m ++ bytes) (past_limit m bytes lt)))).0

one_before : (m bytes : List ℕ) → 0 < length m → length m ≤ limit → messages_of (chunked m ++ bytes) ≡ m ∷ messages_of bytes
one_before m bytes some fits =
    sym (functions_are_all (chunked m ++ bytes) (rest_of bytes) (m ∷ messages_of bytes)
    (reads_back m bytes (messages_of bytes) (rest_of bytes) some fits (functions_read bytes))).0

-- ---- the messages of answers

pub no_messages : messages_of [] ≡ []
unfolding messages_of parts_by front_by
no_messages = refl

not_in_none : {A : Type 0} (x : A) → Contains [] x → ⊥
not_in_none x c = absurd (omega (arith, c.1))

in_one : {A : Type 0} (P : A → Type 0) (m : A) (ms : List A) (x : A) → P m → (Contains ms x → P x) → Contains (m ∷ ms) x → P x
in_one P m ms x h f c = elim (Contains-append_cases (m ∷ []) ms x c) [ inl a ↦ go a | inr a ↦ f a ] where
  go : Contains (m ∷ []) x → P x
  go (zero, lt, e) = subst P e h
  go (suc n, lt, e) = absurd (omega (arith, lt))

-- what each answer keeps that is not too long, each message of them keeps
pub each_message : (P : List ℕ → Type 0) (ms : List (List ℕ)) → AllByRecursion (λ m. (0 < length m) × (length m ≤ limit → P m)) ms
    → (m : List ℕ) → Contains (messages_of (flat_map chunked ms)) m → P m
each_message P [] all m c = absurd (not_in_none m (subst (λ (xs : List (List ℕ)). Contains xs m) no_messages c))
each_message P (x ∷ xs) all m c = elim (cases_lt limit (length x)) [
  | inl lt ↦ absurd (not_in_none m (subst (λ (ys : List (List ℕ)). Contains ys m) (none_behind x (flat_map chunked xs) lt) c))
  | inr le ↦ in_one P x (messages_of (flat_map chunked xs)) m (all.0.1 le) (each_message P xs all.1 m)
      (subst (λ (ys : List (List ℕ)). Contains ys m) (one_before x (flat_map chunked xs) all.0.0 le) c)
]

-- ---- what was sent

abbrev Fits : List ℕ → Type 0
Fits m = (0 < length m) × (length m ≤ limit)

sent_framed : (ms : List (List ℕ)) (behind : List ℕ) → AllByRecursion Fits ms → Framed behind [] behind
    → Framed (flat_map chunked ms ++ behind) ms behind
sent_framed [] behind all last = last
sent_framed (m ∷ ms) behind all last =
    subst (λ (b : List ℕ). Framed b (m ∷ ms) behind) (sym (append_assoc (chunked m) (flat_map chunked ms) behind))
    (reads_back m (flat_map chunked ms ++ behind) ms behind all.0.0 all.0.1 (sent_framed ms behind all.1 last))

nothing_read : Framed [] [] []
unfolding messages_of rest_of parts_by front_by
nothing_read = functions_read []

unread_framed : (behind : List ℕ) → IsUnread behind → Framed behind [] behind
unread_framed behind (inl e) = subst (λ (b : List ℕ). Framed b [] b) (sym e) nothing_read
unread_framed behind (inr h) =
    subst (λ (b : List ℕ). Framed b [] b) (sym h.3)
    (nothing (none_in_past (chunked h.0 ++ h.1) (past_limit h.0 h.1 h.2)))

-- its front has the first of its messages
record FrontOf (ms : List (List ℕ)) (stream : List ℕ) : Type 0 where
  others : List (List ℕ)
  begins : messages_of stream ++ others ≡ ms

front_sent : (ms : List (List ℕ)) (behind stream rest : List ℕ) → AllByRecursion Fits ms → IsUnread behind
    → stream ++ rest ≡ flat_map chunked ms ++ behind → FrontOf ms stream
front_sent ms behind stream rest all unread e =
    let framed : Framed (stream ++ rest) ms behind =
    subst (λ (b : List ℕ). Framed b ms behind) (sym e) (sent_framed ms behind all (unread_framed behind unread)) in
    record {
      others = messages_of (rest_of stream ++ rest);
      begins = sym (functions_go_on stream rest).0 ∙ sym (functions_are_all (stream ++ rest) behind ms framed).0;
    }

request_some : (q : Request) → 0 < length (short_request q)
request_some (r.Hello extra) = omega arith
request_some r.Goodbye = omega arith
request_some r.Reset = omega arith
request_some (r.Run query params extra) = omega arith
request_some (r.Begin extra) = omega arith
request_some r.Commit = omega arith
request_some r.Rollback = omega arith
request_some (r.Discard extra) = omega arith
request_some (r.Pull extra) = omega arith
request_some (r.Route routing bookmarks extra) = omega arith

all_fit : (requests : List Request) → AllByRecursion CanBeSent requests → AllByRecursion Fits (map short_request requests)
all_fit [] all = tt
all_fit (q ∷ qs) all = ((request_some q, all.0.1), all_fit qs all.1)

sent_as : (requests : List Request)
    → flat_map (λ request. chunked (short_request request)) requests ≡ flat_map chunked (map short_request requests)
sent_as [] = refl
sent_as (q ∷ qs) = ap (λ (b : List ℕ). chunked (short_request q) ++ b) (sent_as qs)

-- ---- the inputs of a client's bytes

-- a request, as it comes in
abbrev pub arrives : Request → Input
arrives request = message (short_request request)

-- the first of the requests have come in, and maybe a message that is too long
pub record Arrived (requests : List Request) (inputs : List Input) : Type 0 where
  pub front : List Request
  pub others : List Request
  pub begins : front ++ others ≡ requests
  pub long : Bool
  pub are : inputs ≡ map arrives front ++ end_of long

split_map : (requests : List Request) (front others : List (List ℕ)) → front ++ others ≡ map short_request requests
    → (a : List Request) × (b : List Request) × (a ++ b ≡ requests) × (map message front ≡ map arrives a)
split_map requests [] others e = ([], requests, refl, refl)
split_map [] (m ∷ ms) others e = absurd (cc)
split_map (q ∷ qs) (m ∷ ms) others e =
    let first : m ≡ short_request q = cc in
    let rest : ms ++ others ≡ map short_request qs = cc in
    let s = split_map qs ms others rest in (
      q ∷ s.0,
      s.1,
      ap (λ (l : List Request). q ∷ l) s.2,
      ap (λ (b : List ℕ). message b ∷ map message ms) first ∙ ap (λ (l : List Input). arrives q ∷ l) s.3,
    )

stream_arrives : (requests : List Request) (stream : List ℕ) → FrontOf (map short_request requests) stream
    → Arrived requests (stream_inputs stream)
stream_arrives requests stream k =
    let s = split_map requests (messages_of stream) k.others k.begins in
    record {
      front = s.0;
      others = s.1;
      begins = s.2;
      long = is_too_long stream;
      are = ap (λ (l : List Input). l ++ end_of (is_too_long stream)) s.3;
    }

shook : (rest : List ℕ) → handshake_of (shake ++ rest) ≡ shake
shook rest = refl

chosen : answer_to shake ≡ Chosen
chosen = refl

abbrev sent : List Request → List ℕ
sent requests = flat_map (λ request. chunked (short_request request)) requests

settled : (requests : List Request) (bytes : List ℕ) (k : Sent requests bytes) → answer_to (handshake_of bytes) ≢ More
    → (inputs : List Input) × (inputs_of bytes ≡ shaken Chosen ∷ inputs) × Arrived requests inputs
settled requests bytes k n =
    let same : handshake_of bytes ≡ shake =
    sym (same_where_settled bytes k.rest n) ∙ ap handshake_of k.begins ∙ shook (sent requests ++ k.behind) in
    let is : answer_to (handshake_of bytes) ≡ Chosen = ap answer_to same ∙ chosen in
    let whole : stream_of bytes ++ k.rest ≡ sent requests ++ k.behind = sym (chosen_stream bytes k.rest is) ∙ ap stream_of k.begins in
    let front = front_sent (map short_request requests) k.behind (stream_of bytes) k.rest (all_fit requests k.can) k.unread
    (whole ∙ ap (λ (b : List ℕ). b ++ k.behind) (sent_as requests)) in (
      stream_inputs (stream_of bytes),
      ap (λ (a : Shake). shaken_as a ++ stream_inputs (stream_of bytes)) is,
      stream_arrives requests (stream_of bytes) front,
    )

-- The handshake is not whole, or it chose 4.4 and some requests have come in.
pub inputs_sent : (requests : List Request) (bytes : List ℕ) → Sent requests bytes
    → (inputs_of bytes ≡ []) ⊎ ((inputs : List Input) × (inputs_of bytes ≡ shaken Chosen ∷ inputs) × Arrived requests inputs)
inputs_sent requests bytes k = go (answer_to (handshake_of bytes)) refl where
  go : (a : Shake) → answer_to (handshake_of bytes) ≡ a
      → (inputs_of bytes ≡ []) ⊎ ((inputs : List Input) × (inputs_of bytes ≡ shaken Chosen ∷ inputs) × Arrived requests inputs)
  go More e = inl (more_none bytes e).1
  go Chosen e = inr (settled requests bytes k (λ m. let f : Chosen ≡ More = sym e ∙ m in cc))
  go BadMagic e = inr (settled requests bytes k (λ m. let f : BadMagic ≡ More = sym e ∙ m in cc))
  go NoVersion e = inr (settled requests bytes k (λ m. let f : NoVersion ≡ More = sym e ∙ m in cc))

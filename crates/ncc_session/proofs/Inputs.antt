-- The inputs that bytes make, and how they go on.
use Rattle.std.proofs.Common.{◌≡◌, ◌⊎◌, inl, inr, ℕ, suc, ◌+◌, ◌≤◌, Bool, true, false, List, [], ◌∷◌, ◌++◌, length, map, drop}
use Rattle.std.proofs.Common.{refl, sym, ap, subst, ◌∙◌, append_assoc, append-nil, length-append, arith}
use Rattle.std.proofs.lemmas.List.{map-append, drop-append-le}
use Rattle.ncc_chunk.specs.Chunks.{Framed, PastLimit, EndsAfter, IsTooLongAfter}
use Rattle.ncc_chunk.specs.Inflow.{Inflow, Stands}
use Rattle.ncc_chunk.specs.Messages.{messages_of, rest_of, is_too_long, parts_by, front_by}
use Rattle.ncc_chunk.proofs.Parts.{functions_are_all, functions_go_on, no_more_past_limit, tests_too_long, dechunker_has_messages}
use Rattle.ncc_session.specs.Session.{Input, message, too_long, end_of, stream_inputs}
use Rattle.ncc_session.specs.Talk.{inputs_behind}

-- ---- the inputs of a stream behind the messages that were handed out

drop_front : {A B : Type 0} (f : A → B) (xs ys : List A) (zs : List B) → drop (length xs) (map f (xs ++ ys) ++ zs) ≡ map f ys ++ zs
drop_front f [] ys zs = refl
drop_front f (x ∷ xs) ys zs = drop_front f xs ys zs

behind_by : (stream : List ℕ) (handed ready : List (List ℕ)) → messages_of stream ≡ handed ++ ready
    → inputs_behind stream (length handed) ≡ map message ready ++ end_of (is_too_long stream)
behind_by stream handed ready e =
    ap (λ (ms : List (List ℕ)). drop (length handed) (map message ms ++ end_of (is_too_long stream))) e
    ∙ drop_front message handed ready (end_of (is_too_long stream))

pub behind_ready : (d : Inflow) (stream : List ℕ) (handed : List (List ℕ)) → Stands d stream handed
    → inputs_behind stream (length handed) ≡ map message d.ready ++ end_of (is_too_long stream)
behind_ready d stream handed k = behind_by stream handed d.ready (dechunker_has_messages d stream handed k)

-- a message is the next input where the dechunker hands it out
pub behind_next : (e : Inflow) (stream m : List ℕ) (handed : List (List ℕ)) → Stands e stream (handed ++ m ∷ [])
    → inputs_behind stream (length handed) ≡ message m ∷ inputs_behind stream (length (handed ++ m ∷ []))
behind_next e stream m handed n =
    behind_by stream handed (m ∷ e.ready)
    (dechunker_has_messages e stream (handed ++ m ∷ []) n ∙ append_assoc handed (m ∷ []) e.ready)
    ∙ ap (λ (is : List Input). message m ∷ is) (sym (behind_ready e stream (handed ++ m ∷ []) n))

long_or_not : (b : Bool) → (b ≡ true) ⊎ (b ≡ false)
long_or_not true = inl refl
long_or_not false = inr refl

handed_all : (stream : List ℕ) (handed : List (List ℕ)) (rest : List ℕ) → Framed stream handed rest → messages_of stream ≡ handed ++ []
handed_all stream handed rest f = sym (functions_are_all stream rest handed f).0 ∙ sym (append-nil handed)

-- no input is left where the stream ends behind them
pub behind_end : (stream : List ℕ) (handed : List (List ℕ)) → EndsAfter stream handed → inputs_behind stream (length handed) ≡ []
behind_end stream handed e = elim (long_or_not (is_too_long stream)) [
  | inl l ↦ (
      let o = (tests_too_long stream).0 l in
      let a = functions_are_all stream e.0 handed e.1 in
      let b = functions_are_all stream o.0 (messages_of stream) o.1 in
      absurd (e.2 (subst PastLimit (b.1 ∙ sym a.1) o.2)))
  | inr l ↦ behind_by stream handed [] (handed_all stream handed e.0 e.1) ∙ ap end_of l
]

-- one is left where it goes on with a message that is too long
pub behind_long : (stream : List ℕ) (handed : List (List ℕ)) → IsTooLongAfter stream handed
    → inputs_behind stream (length handed) ≡ too_long ∷ []
behind_long stream handed e =
    let all = (functions_are_all stream e.0 handed e.1).0 in
    let long : is_too_long stream ≡ true =
    (tests_too_long stream).1 (subst (λ (ms : List (List ℕ)). IsTooLongAfter stream ms) all e) in
    behind_by stream handed [] (handed_all stream handed e.0 e.1) ∙ ap end_of long

-- ---- more of a stream

pub goes_further : (stream more : List ℕ) → (later : List Input) × (stream_inputs (stream ++ more) ≡ stream_inputs stream ++ later)
goes_further stream more = elim (long_or_not (is_too_long stream)) [
  | inl l ↦ (
      let n = no_more_past_limit stream more l in
      let k : is_too_long (stream ++ more) ≡ is_too_long stream = n.1 ∙ sym l in (
        [],
        ap (λ (ms : List (List ℕ)). map message ms ++ end_of (is_too_long (stream ++ more))) n.0
            ∙ ap (λ b. map message (messages_of stream) ++ end_of b) k ∙ sym (append-nil (stream_inputs stream)),
      ))
  | inr l ↦ (
      let n = functions_go_on stream more in
      let new = messages_of (rest_of stream ++ more) in
      let end = end_of (is_too_long (stream ++ more)) in
      let whole : stream_inputs stream ≡ map message (messages_of stream) =
      ap (λ b. map message (messages_of stream) ++ end_of b) l ∙ append-nil (map message (messages_of stream)) in (
        map message new ++ end,
        ap (λ (ms : List (List ℕ)). map message ms ++ end) n.0
            ∙ ap (λ (is : List Input). is ++ end) (map-append message (messages_of stream) new)
            ∙ append_assoc (map message (messages_of stream)) (map message new) end
            ∙ ap (λ (is : List Input). is ++ (map message new ++ end)) (sym whole),
      ))
]

-- no bytes are no inputs
pub none_of_none : stream_inputs [] ≡ []
unfolding messages_of is_too_long rest_of parts_by front_by
none_of_none = refl

drop_drop : {A : Type 0} (n : ℕ) (xs ys : List A) → n ≤ length xs → drop n (xs ++ ys) ≡ drop n xs ++ ys
drop_drop n xs ys h = drop-append-le n xs ys h

-- what stands behind so many of some goes on by what comes, where there are so many
length_mapped : (ms : List (List ℕ)) → length (map message ms) ≡ length ms
length_mapped [] = refl
length_mapped (x ∷ xs) = ap suc (length_mapped xs)

count_handed : (d : Inflow) (stream : List ℕ) (handed : List (List ℕ)) → Stands d stream handed
    → length handed ≤ length (stream_inputs stream)
count_handed d stream handed k =
    let e = dechunker_has_messages d stream handed k in
    let l : length (stream_inputs stream) ≡ length (map message (messages_of stream)) + length (end_of (is_too_long stream)) =
    length-append (map message (messages_of stream)) (end_of (is_too_long stream)) in
    let m : length (map message (messages_of stream)) ≡ length (map message (handed ++ d.ready)) =
    ap (λ (ms : List (List ℕ)). length (map message ms)) e in
    let n : length (map message (handed ++ d.ready)) ≡ length (handed ++ d.ready) = length_mapped (handed ++ d.ready) in
    let o : length (handed ++ d.ready) ≡ length handed + length d.ready = length-append handed d.ready in
    omega arith

pub behind_further : (d : Inflow) (stream more : List ℕ) (handed : List (List ℕ)) (later : List Input) → Stands d stream handed
    → stream_inputs (stream ++ more) ≡ stream_inputs stream ++ later
    → inputs_behind (stream ++ more) (length handed) ≡ inputs_behind stream (length handed) ++ later
behind_further d stream more handed later k e =
    ap (drop (length handed)) e ∙ drop_drop (length handed) (stream_inputs stream) later (count_handed d stream handed k)

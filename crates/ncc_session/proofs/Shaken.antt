-- The handshake of a connection: what it makes of more bytes.
use Rattle.std.proofs.Common.{◌≡◌, ◌≢◌, ℕ, ◌≤◌, Bool, true, false, cond, List, [], ◌∷◌, ◌++◌}
use Rattle.std.proofs.Common.{length, take, drop}
use Rattle.std.proofs.Common.{refl, sym, ap, subst, ◌∙◌, append_assoc, append-nil, arith}
use Rattle.std.specs.Prelude.{nat_lt, bytes_eq}
use Rattle.std.specs.List.{list_any}
use Rattle.std.proofs.lemmas.Bool.{ltb-false}
use Rattle.std.proofs.lemmas.List.{drop-append-le, length-take, length-drop}
use Rattle.ncc_chunk.specs.declared.handshake.Shake.{Shake}
use Rattle.ncc_chunk.specs.declared.handshake.Shake.TheVariants.{More, Chosen, BadMagic, NoVersion}
use Rattle.ncc_chunk.specs.Handshake.{magic, covers, proposals, answer_to, handshake_of}
use Rattle.ncc_chunk.proofs.Shaking.{whole_where_more, same_where_settled, goes_on}
use Rattle.ncc_session.specs.Session.{Input, shaken_as, behind_shake, stream_inputs, stream_of, inputs_of}
use Rattle.ncc_session.proofs.Inputs.{none_of_none}

chosen_by : (few whole less some : Bool) → cond few More (cond whole (cond less More (cond some Chosen NoVersion)) BadMagic) ≡ Chosen
    → less ≡ false
chosen_by true whole less some e = absurd (cc)
chosen_by false true true some e = absurd (cc)
chosen_by false true false some e = refl
chosen_by false false less some e = absurd (cc)

chosen_long : (b : List ℕ) → answer_to b ≡ Chosen → 20 ≤ length b
chosen_long b e =
    let less : nat_lt (length b) 20 ≡ false =
    chosen_by (nat_lt (length b) 4) (bytes_eq (take 4 b) magic) (nat_lt (length b) 20) (list_any covers (proposals b)) e in
    ltb-false (length b) 20 less

front_of : (b : Bool) (s : List ℕ) → (length (cond b (take 20 s) (take 4 s)) ≤ 20) × (length (cond b (take 20 s) (take 4 s)) ≤ length s)
front_of true s = let l = length-take 20 s in (omega arith, omega arith)
front_of false s = let l = length-take 4 s in (omega arith, omega arith)

-- a handshake has at most 20 bytes, and no more than came
handshake_short : (s : List ℕ) → (length (handshake_of s) ≤ 20) × (length (handshake_of s) ≤ length s)
handshake_short s = front_of (bytes_eq (take 4 s) magic) s

twice : (s : List ℕ) → handshake_of (handshake_of s) ≡ handshake_of s
twice s =
    ap handshake_of (sym (append-nil (handshake_of s))) ∙ goes_on s [] ∙ ap handshake_of (append-nil s)

-- ---- bytes behind a handshake that chose a version are the stream's

settled_answer : (s x : List ℕ) (a : Shake) → answer_to (handshake_of s) ≡ a → a ≢ More → answer_to (handshake_of (s ++ x)) ≡ a
settled_answer s x a e n = ap answer_to (same_where_settled s x (λ m. n (sym e ∙ m))) ∙ e

pub chosen_stream : (s x : List ℕ) → answer_to (handshake_of s) ≡ Chosen → stream_of (s ++ x) ≡ stream_of s ++ x
chosen_stream s x e =
    let long = chosen_long (handshake_of s) e in
    let short = (handshake_short s).1 in
    let n : Chosen ≢ More = λ m. cc in
    ap (λ a. behind_shake a (s ++ x)) (settled_answer s x Chosen e n)
    ∙ drop-append-le 20 s x (omega arith)
    ∙ ap (λ a. behind_shake a s ++ x) (sym e)

pub same_shake : (s x : List ℕ) → answer_to (handshake_of s) ≢ More → handshake_of (s ++ x) ≡ handshake_of s
same_shake s x n = same_where_settled s x n

-- and so are the inputs
pub chosen_inputs : (s x : List ℕ) (later : List Input) → answer_to (handshake_of s) ≡ Chosen
    → stream_inputs (stream_of s ++ x) ≡ stream_inputs (stream_of s) ++ later → inputs_of (s ++ x) ≡ inputs_of s ++ later
chosen_inputs s x later e h =
    let n : Chosen ≢ More = λ m. cc in
    let a = answer_to (handshake_of s) in
    ap (λ b. shaken_as b ++ stream_inputs (stream_of (s ++ x))) (settled_answer s x Chosen e n ∙ sym e)
    ∙ ap (λ (t : List ℕ). shaken_as a ++ stream_inputs t) (chosen_stream s x e)
    ∙ ap (λ (is : List Input). shaken_as a ++ is) h
    ∙ sym (append_assoc (shaken_as a) (stream_inputs (stream_of s)) later)

-- behind a handshake that chose none nothing is read
refused_stream : (a : Shake) (s : List ℕ) → a ≢ Chosen → behind_shake a s ≡ []
refused_stream Chosen s n = absurd (n refl)
refused_stream More s n = refl
refused_stream BadMagic s n = refl
refused_stream NoVersion s n = refl

pub refused_same : (s x : List ℕ) → answer_to (handshake_of s) ≢ More → answer_to (handshake_of s) ≢ Chosen
    → (stream_of (s ++ x) ≡ stream_of s) × (inputs_of (s ++ x) ≡ inputs_of s)
refused_same s x n m =
    let a = answer_to (handshake_of s) in
    let e = settled_answer s x a refl n in
    let stream : stream_of (s ++ x) ≡ stream_of s =
    ap (λ b. behind_shake b (s ++ x)) e ∙ refused_stream a (s ++ x) m ∙ sym (refused_stream a s m) in (
      stream,
      ap (λ b. shaken_as b ++ stream_inputs (stream_of (s ++ x))) e
          ∙ ap (λ (t : List ℕ). shaken_as a ++ stream_inputs t) stream,
    )

-- ---- a handshake that is not whole

-- no input has come
pub more_none : (s : List ℕ) → answer_to (handshake_of s) ≡ More → (stream_of s ≡ []) × (inputs_of s ≡ [])
more_none s e =
    let stream : stream_of s ≡ [] = ap (λ b. behind_shake b s) e in
    (stream, ap (λ b. shaken_as b ++ stream_inputs (stream_of s)) e ∙ ap stream_inputs stream ∙ none_of_none)

empty_by : (t : List ℕ) → length t ≤ 0 → t ≡ []
empty_by [] k = refl
empty_by (x ∷ xs) k = absurd (omega arith)

past_all : (n : ℕ) (s : List ℕ) → length s ≤ n → drop n s ≡ []
past_all n s h = empty_by (drop n s) (let l = length-drop n s in omega arith)

no_stream : (a : Shake) (s : List ℕ) → length s ≤ 20 → behind_shake a s ≡ []
no_stream Chosen s h = past_all 20 s h
no_stream More s h = refl
no_stream BadMagic s h = refl
no_stream NoVersion s h = refl

-- what is taken of more bytes is the handshake of all, and the one input is how it settled, if it did
pub record Shook (s taken : List ℕ) : Type 0 where
  pub shake : handshake_of (s ++ taken) ≡ s ++ taken
  pub stream : stream_of (s ++ taken) ≡ []
  pub inputs : inputs_of (s ++ taken) ≡ shaken_as (answer_to (s ++ taken))

pub shook : (s piece taken new : List ℕ) → answer_to (handshake_of s) ≡ More → new ≡ handshake_of s ++ taken
    → new ≡ handshake_of (s ++ piece) → Shook s taken
shook s piece taken new e t h =
    let whole : handshake_of s ≡ s = whole_where_more s e in
    let is : s ++ taken ≡ handshake_of (s ++ piece) = ap (λ (v : List ℕ). v ++ taken) (sym whole) ∙ sym t ∙ h in
    let shake : handshake_of (s ++ taken) ≡ s ++ taken = ap handshake_of is ∙ twice (s ++ piece) ∙ sym is in
    let short : length (s ++ taken) ≤ 20 = subst (λ (v : List ℕ). length v ≤ 20) (sym is) (handshake_short (s ++ piece)).0 in
    let a = answer_to (handshake_of (s ++ taken)) in
    let stream : stream_of (s ++ taken) ≡ [] = no_stream a (s ++ taken) short in
    record {
      shake = shake;
      stream = stream;
      inputs = ap (λ (t : List ℕ). shaken_as a ++ stream_inputs t) stream ∙ ap (λ (is : List Input). shaken_as a ++ is) none_of_none
          ∙ append-nil (shaken_as a) ∙ ap (λ (v : List ℕ). shaken_as (answer_to v)) shake;
    }

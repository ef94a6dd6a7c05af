-- The messages and the rest of a stream, as functions.
use Rattle.std.proofs.Common.{◌≡◌, ℕ, zero, suc, ◌+◌, ◌<◌, ◌≤◌, true, List, [], ◌∷◌, ◌++◌, length, IsTrue, refl, sym, ap, subst}
use Rattle.std.proofs.Common.{◌∙◌, append_assoc, append-nil, length-append, arith}
use Rattle.ncc_chunk.specs.Chunks.{Chunks, Spells, HoldsNone, Framed, nothing, no_op, message, PastLimit, IsTooLongAfter, limit}
use Rattle.ncc_chunk.specs.Inflow.{Inflow, Stands}
use Rattle.ncc_chunk.specs.Messages.{Front, whole, part, long, Parts, front_of, with_first, parts_by, front_by, messages_of}
use Rattle.ncc_chunk.specs.Messages.{rest_of, is_long, is_too_long}
use Rattle.ncc_chunk.specs.Laws.{FunctionsRead, FunctionsAreAll, TestsTooLong, FunctionsGoOn, NoMorePastLimit, DechunkerHasMessages}
use Rattle.ncc_chunk.proofs.Fronts.{HasWhole, HasPart, HasLong, Told, front_told}
use Rattle.ncc_chunk.proofs.Framing.{framed_same, framed_on, none_in_cut, not_past_cut, none_in_past, too_long_on}
use Rattle.ncc_chunk.proofs.Steps.{chunks_of_none}

-- no message begins there
abbrev pub IsLast : Front → Type 0
IsLast (whole _ _) = ⊥
IsLast _ = Unit {0}

record Reads (stream : List ℕ) (parts : Parts) : Type 0 where
  framed : Framed stream parts.messages parts.rest
  last : IsLast (front_of parts.rest)

told : (stream : List ℕ) (f : Front) → front_of stream ≡ f → Told f [] stream
told stream f e = subst (λ f. Told f [] stream) e (front_told (length stream) [] stream (omega arith) (omega arith))

parts_here : (n : ℕ) (stream : List ℕ) (f : Front) → front_of stream ≡ f → IsLast f →
    parts_by (suc n) stream ≡ record { messages = []; rest = stream }
unfolding parts_by
parts_here n stream (whole m more) e h = absurd h
parts_here n stream part e h = rw (e, parts_by) refl
parts_here n stream long e h = rw (e, parts_by) refl

parts_first : (n : ℕ) (stream m more : List ℕ) → front_of stream ≡ whole m more → parts_by (suc n) stream ≡ with_first m (parts_by n more)
unfolding parts_by
parts_first n stream m more e = rw (e, parts_by) refl

past_of : (stream : List ℕ) → HasLong [] stream → PastLimit stream
past_of stream w =
    let past = w.past in
    record {
      message = w.added;
      chunks = w.chunks;
      high = w.high;
      low = w.low;
      more = w.more;
      whole = w.spelled;
      rest_is = w.bytes_is;
      past = omega arith;
    }

-- a stream that begins with no message has none
none_of : (stream : List ℕ) (f : Front) → IsLast f → Told f [] stream → HoldsNone stream
none_of stream (whole m more) h w = absurd h
none_of stream part h w = subst HoldsNone (sym w.bytes_is) (none_in_cut w.added w.chunks w.cut w.spelled w.is_cut)
none_of stream long h w = none_in_past stream (past_of stream w)

-- a message in front, or a no-op
first_reads : (stream m more : List ℕ) (parts : Parts) → HasWhole [] stream m more → Reads more parts → Reads stream (with_first m parts)
first_reads stream [] more parts w r =
    let empty : w.chunks ≡ [] = chunks_of_none w.added w.chunks w.spelled (sym w.message_is) in
    let is : stream ≡ 0 ∷ 0 ∷ more = w.bytes_is ∙ ap (λ v. v ++ 0 ∷ 0 ∷ more) empty in
    record { framed = subst (λ (v : List ℕ). Framed v parts.messages parts.rest) (sym is) (no_op r.framed); last = r.last }
first_reads stream (x ∷ xs) more parts w r =
    let spelling = w.chunks ++ 0 ∷ 0 ∷ [] in
    let spelled : Chunks (x ∷ xs) w.chunks = subst (λ (v : List ℕ). Chunks v w.chunks) (sym w.message_is) w.spelled in
    let spells : Spells (x ∷ xs) spelling = record {
      chunks = w.chunks;
      whole = spelled;
      not_empty = omega arith;
      fits = w.fits;
      ends = refl;
    } in
    let is : stream ≡ spelling ++ more = w.bytes_is ∙ sym (append_assoc w.chunks (0 ∷ 0 ∷ []) more) in
    record {
      framed = subst (λ (v : List ℕ). Framed v ((x ∷ xs) ∷ parts.messages) parts.rest) (sym is)
          (message (x ∷ xs) spelling more spells r.framed);
      last = r.last;
    }

here_reads : (n : ℕ) (stream : List ℕ) (f : Front) → front_of stream ≡ f → IsLast f → Reads stream (parts_by (suc n) stream)
here_reads n stream f e h = subst (Reads stream) (sym (parts_here n stream f e h)) (record {
  framed = nothing (none_of stream f h (told stream f e));
  last = subst IsLast (sym e) h;
})

reads_at : (n : ℕ) (stream : List ℕ) (f : Front) → front_of stream ≡ f → length stream ≤ suc n
    → ((more : List ℕ) → length more ≤ n → Reads more (parts_by n more)) → Reads stream (parts_by (suc n) stream)
reads_at n stream (whole m more) e h ih =
    let w : HasWhole [] stream m more = told stream (whole m more) e in
    let l = simp length-append at (ap length w.bytes_is) in
    subst (Reads stream) (sym (parts_first n stream m more e))
    (first_reads stream m more (parts_by n more) w (ih more (omega arith)))
reads_at n stream part e h ih = here_reads n stream part e tt
reads_at n stream long e h ih = here_reads n stream long e tt

parts_read : (n : ℕ) (stream : List ℕ) → length stream ≤ n → Reads stream (parts_by n stream)
unfolding parts_by front_by
parts_read zero [] h = record { framed = nothing (none_of [] (front_of []) tt (told [] (front_of []) refl)); last = tt }
parts_read zero (x ∷ xs) h = absurd (omega arith)
parts_read (suc n) stream h = reads_at n stream (front_of stream) refl h (λ more k. parts_read n more k)

all_read : (stream : List ℕ) → Reads stream (record { messages = messages_of stream; rest = rest_of stream })
unfolding messages_of rest_of
all_read stream = parts_read (length stream) stream (omega arith)

pub functions_read : FunctionsRead
functions_read stream = (all_read stream).framed

pub functions_are_all : FunctionsAreAll
functions_are_all stream rest messages f = framed_same stream stream messages (messages_of stream) rest (rest_of stream) refl f
    (functions_read stream)

long_by : (rest : List ℕ) (f : Front) → front_of rest ≡ f → is_long f ≡ true → PastLimit rest
long_by rest (whole m more) e h = absurd (cc)
long_by rest part e h = absurd (cc)
long_by rest long e h = past_of rest (told rest long e)

is_long_by : (rest : List ℕ) (f : Front) → front_of rest ≡ f → IsLast f → PastLimit rest → is_long f ≡ true
is_long_by rest (whole m more) e h o = absurd h
is_long_by rest part e h o =
    let w : HasPart [] rest = told rest part e in
    let fits = w.fits in
    absurd (not_past_cut w.added w.chunks w.cut w.spelled w.is_cut (omega arith) (subst PastLimit w.bytes_is o))
is_long_by rest long e h o = refl

pub tests_too_long : TestsTooLong
unfolding is_too_long
tests_too_long stream = (
  λ e. (rest_of stream, functions_read stream, long_by (rest_of stream) (front_of (rest_of stream)) refl e),
  λ e. (
      let same = functions_are_all stream e.0 (messages_of stream) e.1 in
      is_long_by (rest_of stream) (front_of (rest_of stream)) refl (all_read stream).last (subst PastLimit same.1 e.2)),
)

pub functions_go_on : FunctionsGoOn
functions_go_on stream more =
    let rest = rest_of stream in
    let all = framed_on stream (messages_of stream) rest more (messages_of (rest ++ more)) (rest_of (rest ++ more))
    (functions_read stream) (functions_read (rest ++ more)) in
    let same = functions_are_all (stream ++ more) (rest_of (rest ++ more)) (messages_of stream ++ messages_of (rest ++ more)) all in
    (sym same.0, sym same.1)

pub no_more_past_limit : NoMorePastLimit
no_more_past_limit stream more e =
    let on = too_long_on stream more (messages_of stream) ((tests_too_long stream).0 e) in
    let same = functions_are_all (stream ++ more) on.0 (messages_of stream) on.1 in (
      sym same.0,
      (tests_too_long (stream ++ more)).1 (subst (λ (ms : List (List ℕ)). IsTooLongAfter (stream ++ more) ms) same.0 on),
    )

pub dechunker_has_messages : DechunkerHasMessages
dechunker_has_messages state stream handed k = sym (functions_are_all stream k.rest (handed ++ state.ready) k.framed).0

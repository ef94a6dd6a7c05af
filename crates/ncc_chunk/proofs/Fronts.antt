-- What a stream begins with, told by the function.
use Rattle.std.proofs.Common.{◌≡◌, ℕ, zero, suc, ◌+◌, ◌<◌, ◌≤◌, true, false, List, [], ◌∷◌, ◌++◌, length, take, drop, inl, inr, refl}
use Rattle.std.proofs.Common.{sym, ap, subst, ◌∙◌, append_assoc, append-nil, length-append, length-take, length-drop, arith}
use Rattle.std.specs.Prelude.{nat_lt, ◌==◌}
use Rattle.std.proofs.lemmas.Bool.{cases_lt, eq-eqb}
use Rattle.std.proofs.lemmas.Bool.Decides.{nat_tests}
use Rattle.std.proofs.lemmas.List.{take-append-drop}
use Rattle.ncc_chunk.specs.Chunks.{size_of, Chunks, none, chunk, limit}
use Rattle.ncc_chunk.specs.Messages.{Front, whole, part, long, front_by}
use Rattle.ncc_chunk.proofs.Choices.{at_true, at_false}
use Rattle.ncc_chunk.proofs.Steps.{size_none}
use Rattle.ncc_chunk.proofs.WholeChunks.{IsCut, size_in}

-- Behind chunks with this body, the bytes go on with chunks, the end of the message, and more.
pub record HasWhole (body bytes message more : List ℕ) : Type 0 where
  pub added : List ℕ
  pub chunks : List ℕ
  pub spelled : Chunks added chunks
  pub message_is : message ≡ body ++ added
  pub bytes_is : bytes ≡ chunks ++ 0 ∷ 0 ∷ more
  pub fits : length message ≤ limit

-- They go on with chunks and less than one more.
pub record HasPart (body bytes : List ℕ) : Type 0 where
  pub added : List ℕ
  pub chunks : List ℕ
  pub cut : List ℕ
  pub spelled : Chunks added chunks
  pub is_cut : IsCut cut
  pub bytes_is : bytes ≡ chunks ++ cut
  pub fits : length body + length added + size_in cut ≤ limit

-- They go on with chunks and a head with which the sizes pass the limit.
pub record HasLong (body bytes : List ℕ) : Type 0 where
  pub added : List ℕ
  pub chunks : List ℕ
  pub high : ℕ
  pub low : ℕ
  pub more : List ℕ
  pub spelled : Chunks added chunks
  pub bytes_is : bytes ≡ chunks ++ high ∷ low ∷ more
  pub past : limit < length body + length added + size_of high low

-- what the function tells
abbrev pub Told : Front → List ℕ → List ℕ → Type 0
Told (whole message more) body bytes = HasWhole body bytes message more
Told part body bytes = HasPart body bytes
Told long body bytes = HasLong body bytes

not_zero : (n : ℕ) → 0 < n → (n == 0) ≡ false
not_zero n h = grind (arith, nat_tests)

is_less : (m n : ℕ) → m < n → nat_lt m n ≡ true
is_less m n h = grind (arith, nat_tests)

is_not_less : (m n : ℕ) → n ≤ m → nat_lt m n ≡ false
is_not_less m n h = grind (arith, nat_tests)

module _ (n : ℕ) (body : List ℕ) (h l : ℕ) (bytes : List ℕ) where
  by_end : size_of h l ≡ 0 → front_by (suc n) body (h ∷ l ∷ bytes) ≡ whole body bytes
  unfolding front_by
  by_end e = at_true (size_of h l == 0) _ _ (eq-eqb (size_of h l) 0 e)

  by_long : 0 < size_of h l → limit < length body + size_of h l → front_by (suc n) body (h ∷ l ∷ bytes) ≡ long
  unfolding front_by
  by_long some past =
      at_false (size_of h l == 0) _ _ (not_zero (size_of h l) some)
      ∙ at_true (nat_lt limit (length body + size_of h l)) _ _ (is_less limit (length body + size_of h l) past)

  by_part : 0 < size_of h l → length body + size_of h l ≤ limit → length bytes < size_of h l
      → front_by (suc n) body (h ∷ l ∷ bytes) ≡ part
  unfolding front_by
  by_part some fits less =
      at_false (size_of h l == 0) _ _ (not_zero (size_of h l) some)
      ∙ at_false (nat_lt limit (length body + size_of h l)) _ _ (is_not_less limit (length body + size_of h l) fits)
      ∙ at_true (nat_lt (length bytes) (size_of h l)) _ _ (is_less (length bytes) (size_of h l) less)

  by_more : 0 < size_of h l → length body + size_of h l ≤ limit → size_of h l ≤ length bytes
      → front_by (suc n) body (h ∷ l ∷ bytes) ≡ front_by n (body ++ take (size_of h l) bytes) (drop (size_of h l) bytes)
  unfolding front_by
  by_more some fits enough =
      at_false (size_of h l == 0) _ _ (not_zero (size_of h l) some)
      ∙ at_false (nat_lt limit (length body + size_of h l)) _ _ (is_not_less limit (length body + size_of h l) fits)
      ∙ at_false (nat_lt (length bytes) (size_of h l)) _ _ (is_not_less (length bytes) (size_of h l) enough)

-- one chunk in front
told_more : (f : Front) (body b bytes : List ℕ) (h l : ℕ) → 0 < size_of h l → length b ≡ size_of h l
    → Told f (body ++ b) bytes → Told f body (h ∷ l ∷ b ++ bytes)
told_more (whole message more) body b bytes h l some len w = record {
  added = b ++ w.added;
  chunks = h ∷ l ∷ b ++ w.chunks;
  spelled = chunk h l b w.added w.chunks some len w.spelled;
  message_is = w.message_is ∙ append_assoc body b w.added;
  bytes_is = rw (w.bytes_is, append_assoc b w.chunks (0 ∷ 0 ∷ more)) refl;
  fits = w.fits;
}
told_more part body b bytes h l some len w =
    let inner = length-append body b in
    let all = length-append b w.added in
    let fits = w.fits in
    record {
      added = b ++ w.added;
      chunks = h ∷ l ∷ b ++ w.chunks;
      cut = w.cut;
      spelled = chunk h l b w.added w.chunks some len w.spelled;
      is_cut = w.is_cut;
      bytes_is = rw (w.bytes_is, append_assoc b w.chunks w.cut) refl;
      fits = omega arith;
    }
told_more long body b bytes h l some len w =
    let inner = length-append body b in
    let all = length-append b w.added in
    let past = w.past in
    record {
      added = b ++ w.added;
      chunks = h ∷ l ∷ b ++ w.chunks;
      high = w.high;
      low = w.low;
      more = w.more;
      spelled = chunk h l b w.added w.chunks some len w.spelled;
      bytes_is = rw (w.bytes_is, append_assoc b w.chunks (w.high ∷ w.low ∷ w.more)) refl;
      past = omega arith;
    }

-- less than a chunk
only_cut : (body cut : List ℕ) → IsCut cut → length body + size_in cut ≤ limit → HasPart body cut
only_cut body cut k fits = record { added = []; chunks = []; cut = cut; spelled = none; is_cut = k; bytes_is = refl; fits = omega arith }

ends_here : (body : List ℕ) (h l : ℕ) (bytes : List ℕ) → size_of h l ≡ 0 → length body ≤ limit
    → HasWhole body (h ∷ l ∷ bytes) body bytes
ends_here body h l bytes e fits = record {
  added = [];
  chunks = [];
  spelled = none;
  message_is = sym (append-nil body);
  bytes_is = rw ((size_none h l e).0, (size_none h l e).1) refl;
  fits = fits;
}

long_here : (body : List ℕ) (h l : ℕ) (bytes : List ℕ) → limit < length body + size_of h l → HasLong body (h ∷ l ∷ bytes)
long_here body h l bytes past = record {
  added = [];
  chunks = [];
  high = h;
  low = l;
  more = bytes;
  spelled = none;
  bytes_is = refl;
  past = omega arith;
}

-- it tells the truth, where it may look at as many heads as there are bytes
pub front_told : (n : ℕ) (body bytes : List ℕ) → length bytes ≤ n → length body ≤ limit → Told (front_by n body bytes) body bytes
unfolding front_by
front_told zero body [] enough fits = only_cut body [] tt (omega arith)
front_told zero body (x ∷ bytes) enough fits = absurd (omega arith)
front_told (suc n) body [] enough fits = only_cut body [] tt (omega arith)
front_told (suc n) body (x ∷ []) enough fits = only_cut body (x ∷ []) tt (omega arith)
front_told (suc n) body (h ∷ l ∷ bytes) enough fits =
    let size = size_of h l in
    elim (cases_lt 0 size) [
      | inr nil ↦ subst (λ f. Told f body (h ∷ l ∷ bytes)) (sym (by_end n body h l bytes (omega arith)))
          (ends_here body h l bytes (omega arith) fits)
      | inl some ↦ elim (cases_lt limit (length body + size)) [
        | inl past ↦ subst (λ f. Told f body (h ∷ l ∷ bytes)) (sym (by_long n body h l bytes some past)) (long_here body h l bytes past)
        | inr within ↦ elim (cases_lt (length bytes) size) [
          | inl less ↦ subst (λ f. Told f body (h ∷ l ∷ bytes)) (sym (by_part n body h l bytes some within less))
              (only_cut body (h ∷ l ∷ bytes) less within)
          | inr all ↦ (
              let b = take size bytes in
              let t = length-take size bytes in
              let d = length-drop size bytes in
              let a = length-append body b in
              let inner = front_told n (body ++ b) (drop size bytes) (omega arith) (omega arith) in
              let f = front_by n (body ++ b) (drop size bytes) in
              subst (λ f. Told f body (h ∷ l ∷ bytes)) (sym (by_more n body h l bytes some within all))
              (subst (λ (v : List ℕ). Told f body (h ∷ l ∷ v)) (take-append-drop size bytes)
              (told_more f body b (drop size bytes) h l some (omega arith) inner)))
        ]
      ]
    ]

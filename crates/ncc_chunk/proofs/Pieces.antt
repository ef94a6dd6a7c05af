-- The chunks that a message is sent in.
use Rattle.std.proofs.Common.{◌≡◌, ℕ, zero, suc, ◌/◌, ◌%◌, ◌<◌, ◌≤◌, true, false, List, [], ◌∷◌, ◌++◌, length, take, drop, inl, inr}
use Rattle.std.proofs.Common.{refl, sym, ap, subst, ◌∙◌, append-nil, length-take, length-drop, arith}
use Rattle.std.specs.Prelude.{nat_lt}
use Rattle.std.proofs.lemmas.Bool.{cases_lt}
use Rattle.std.proofs.lemmas.Bool.Decides.{nat_tests}
use Rattle.std.proofs.lemmas.List.{take-append-drop}
use Rattle.ncc_chunk.proofs.Choices.{at_true, at_false}
use Rattle.ncc_chunk.specs.Chunks.{size_of, Chunks, none, chunk, limit, Framed, message}
use Rattle.ncc_chunk.specs.Chunked.{most, chunk_of, chunks_by, chunks_of, chunked}

is_longer : (m : List ℕ) → most < length m → nat_lt most (length m) ≡ true
is_longer m h = grind (arith, nat_tests)

is_not_longer : (m : List ℕ) → length m ≤ most → nat_lt most (length m) ≡ false
is_not_longer m h = grind (arith, nat_tests)

by_more : (n : ℕ) (m : List ℕ) → most < length m → chunks_by (suc n) m ≡ chunk_of (take most m) ++ chunks_by n (drop most m)
unfolding chunks_by
by_more n m h = at_true (nat_lt most (length m)) _ _ (is_longer m h)

by_last : (n : ℕ) (m : List ℕ) → length m ≤ most → chunks_by n m ≡ chunk_of m
unfolding chunks_by
by_last zero m h = refl
by_last (suc n) m h = at_false (nat_lt most (length m)) _ _ (is_not_longer m h)

-- more steps than there are bytes change nothing
enough : (n k : ℕ) (m : List ℕ) → length m ≤ n → length m ≤ k → chunks_by n m ≡ chunks_by k m
enough zero k m h j = by_last zero m (omega arith) ∙ sym (by_last k m (omega arith))
enough (suc n) zero m h j = by_last (suc n) m (omega arith) ∙ sym (by_last zero m (omega arith))
enough (suc n) (suc k) m h j = elim (cases_lt most (length m)) [
  | inl l ↦ (let d = length-drop most m in by_more n m l
      ∙ ap (λ v. chunk_of (take most m) ++ v) (enough n k (drop most m) (omega arith) (omega arith)) ∙ sym (by_more k m l))
  | inr l ↦ by_last (suc n) m l ∙ sym (by_last (suc k) m l)
]

pub chunks_more : (m : List ℕ) → most < length m → chunks_of m ≡ chunk_of (take most m) ++ chunks_of (drop most m)
unfolding chunks_of
chunks_more m h =
    let d = length-drop most m in
    enough (length m) (suc (length m)) m (omega arith) (omega arith) ∙ by_more (length m) m h
    ∙ ap (λ v. chunk_of (take most m) ++ v) (enough (length m) (length (drop most m)) (drop most m) (omega arith) (omega arith))

pub chunks_last : (m : List ℕ) → length m ≤ most → chunks_of m ≡ chunk_of m
unfolding chunks_of
chunks_last m h = by_last (length m) m h

-- the size of a chunk is spelled in its head
size_is : (n : ℕ) → size_of (n / 256) (n % 256) ≡ n
size_is n = omega arith

one_chunk : (m rest c : List ℕ) → 0 < length m → Chunks rest c → Chunks (m ++ rest) (chunk_of m ++ c)
one_chunk m rest c h p = let s = size_is (length m) in chunk (length m / 256) (length m % 256) m rest c (omega arith) (sym s) p

chunks_by_whole : (n : ℕ) (m : List ℕ) → 0 < length m → Chunks m (chunks_by n m)
unfolding chunks_by
chunks_by_whole zero m h = rw (append-nil m) at (one_chunk m [] [] h none)
chunks_by_whole (suc n) m h = elim (cases_lt most (length m)) [
  | inl l ↦ (
      let d = length-drop most m in
      let t = length-take most m in
      rw (by_more n m l) (subst (λ (v : List ℕ). Chunks v (chunk_of (take most m) ++ chunks_by n (drop most m)))
      (take-append-drop most m) (one_chunk (take most m) (drop most m) (chunks_by n (drop most m)) (omega arith)
      (chunks_by_whole n (drop most m) (omega arith)))))
  | inr l ↦ rw (by_last (suc n) m l) (rw (append-nil m) at (one_chunk m [] [] h none))
]

-- what is sent is the message's chunks
pub chunks_whole : (m : List ℕ) → 0 < length m → Chunks m (chunks_of m)
unfolding chunks_of
chunks_whole m h = chunks_by_whole (length m) m h

-- and is read back as the message
pub reads_back : (m bytes : List ℕ) (messages : List (List ℕ)) (rest : List ℕ) → 0 < length m → length m ≤ limit →
    Framed bytes messages rest → Framed (chunked m ++ bytes) (m ∷ messages) rest
reads_back m bytes messages rest h f p = message m (chunked m) bytes (record {
  chunks = chunks_of m;
  whole = chunks_whole m h;
  not_empty = h;
  fits = f;
  ends = refl;
}) p

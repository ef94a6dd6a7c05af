-- A stream is one list of messages and one rest.
use Rattle.std.proofs.Common.{◌≡◌, ℕ, ◌+◌, ◌≤◌, List, [], ◌∷◌, ◌++◌, length, inl, inr, refl, sym, ap, ◌∙◌, append_assoc, append-nil}
use Rattle.std.proofs.Common.{length-append, arith}
use Rattle.ncc_chunk.specs.Chunks.{Chunks, none, limit, Spells, HoldsNone, Framed, nothing, no_op, message, PastLimit, IsTooLongAfter}
use Rattle.ncc_chunk.proofs.WholeChunks.{compare, end_first, IsCut, size_in, cut_then, head_of, head_within}

-- the bytes of a message and what stands behind
behind : (m s x : List ℕ) → (w : Spells m s) → s ++ x ≡ w.chunks ++ 0 ∷ 0 ∷ x
behind m s x w = rw (w.ends, append_assoc w.chunks (0 ∷ 0 ∷ []) x) refl

pub spells_same : (m s x m' s' x' : List ℕ) → Spells m s → Spells m' s' → s ++ x ≡ s' ++ x' → (m ≡ m') × (x ≡ x')
spells_same m s x m' s' x' w w' e =
    elim (compare m w.chunks (0 ∷ 0 ∷ x) m' w'.chunks (0 ∷ 0 ∷ x') w.whole w'.whole (sym (behind m s x w) ∙ e ∙ behind m' s' x' w')) [
      | inl o ↦ (let k = end_first o.n o.d x (0 ∷ 0 ∷ x') o.chunks o.rest_is in let tails : 0 ∷ 0 ∷ x' ≡ 0 ∷ 0 ∷ x = k.1 in
          (sym (o.message_is ∙ ap (λ v. m ++ v) k.0 ∙ append-nil m), cc))
      | inr o ↦ (let k = end_first o.n o.d x' (0 ∷ 0 ∷ x) o.chunks o.rest_is in let tails : 0 ∷ 0 ∷ x ≡ 0 ∷ 0 ∷ x' = k.1 in
          (o.message_is ∙ ap (λ v. m' ++ v) k.0 ∙ append-nil m', cc))
    ]

-- a message is no no-op
spells_no_op : (m s x y : List ℕ) → Spells m s → 0 ∷ 0 ∷ y ≡ s ++ x → ⊥
spells_no_op m s x y w e =
    let k = end_first m w.chunks y (0 ∷ 0 ∷ x) w.whole (e ∙ behind m s x w) in
    let n = w.not_empty in
    let l = ap length k.0 in
    absurd (omega arith)

pub framed_same : (a b : List ℕ) (ms ns : List (List ℕ)) (r s : List ℕ) → a ≡ b → Framed a ms r → Framed b ns s → (ms ≡ ns) × (r ≡ s)
framed_same a b ms ns r s e (nothing h) (nothing k) = (refl, e)
framed_same a b ms ns r s e (nothing h) (no_op q) = absurd (h.no_op _ e)
framed_same a b ms ns r s e (nothing h) (message m' s' b' w' q) = absurd (h.message m' s' b' w' e)
framed_same a b ms ns r s e (no_op p) (nothing k) = absurd (k.no_op _ (sym e))
framed_same a b ms ns r s e (no_op {bytes = a1} p) (no_op {bytes = b1} q) = let tails : a1 ≡ b1 = cc in
    framed_same a1 b1 ms ns r s tails p q
framed_same a b ms ns r s e (no_op {bytes = a1} p) (message m' s' b' w' q) = absurd (spells_no_op m' s' b' a1 w' e)
framed_same a b ms ns r s e (message m1 s1 a1 w p) (nothing k) = absurd (k.message m1 s1 a1 w (sym e))
framed_same a b ms ns r s e (message m1 s1 a1 w p) (no_op {bytes = b1} q) = absurd (spells_no_op m1 s1 a1 b1 w (sym e))
framed_same a b ms ns r s e (message m1 s1 a1 {messages = ms1} w p) (message m' s' b' {messages = ns1} w' q) =
    let same = spells_same m1 s1 a1 m' s' b' w w' e in
    let rest = framed_same a1 b' ms1 ns1 r s same.1 p q in
    let f : m1 ≡ m' = same.0 in
    let g : ms1 ≡ ns1 = rest.0 in
    (cc, rest.1)

-- Reading on over what comes behind is reading on from the rest.
pub framed_on : (b : List ℕ) (ms : List (List ℕ)) (r x : List ℕ) (ns : List (List ℕ)) (s : List ℕ) → Framed b ms r →
    Framed (r ++ x) ns s → Framed (b ++ x) (ms ++ ns) s
framed_on b ms r x ns s (nothing h) q = q
framed_on b ms r x ns s (no_op {bytes = b1} {messages = ms1} p) q = no_op (framed_on b1 ms1 r x ns s p q)
framed_on b ms r x ns s (message m1 s1 b1 {messages = ms1} w p) q =
    rw (append_assoc s1 b1 x) (message m1 s1 (b1 ++ x) w (framed_on b1 ms1 r x ns s p q))

-- whole chunks and a cut one hold no message
pub none_in_cut : (m c t : List ℕ) → Chunks m c → IsCut t → HoldsNone (c ++ t)
none_in_cut m c t p k = record {
  no_op = λ x e. (
      let f = end_first m c x t p (sym e) in
      let g = cut_then t [] [] (0 ∷ 0 ∷ x) k none f.1 in
      no_end t x k f.1);
  message = λ m' s' x w e.
      elim (compare m c t m' w.chunks (0 ∷ 0 ∷ x) p w.whole (e ∙ behind m' s' x w)) [
        | inl o ↦ (let g = cut_then t o.n o.d (0 ∷ 0 ∷ x) k o.chunks o.rest_is in no_end t x k g.1)
        | inr o ↦ (let g = end_first o.n o.d x t o.chunks o.rest_is in no_end t x k g.1)
      ];
} where
  no_end : (t x : List ℕ) → IsCut t → t ≡ 0 ∷ 0 ∷ x → ⊥
  no_end [] x k e = cc
  no_end (a ∷ []) x k e = cc
  no_end (a ∷ b ∷ part) x k e = let s = head_of a b 0 0 part x e in absurd (omega arith)

-- whole chunks and a cut one, whose sizes are within the limit, are not past it
pub not_past_cut : (m c t : List ℕ) → Chunks m c → IsCut t → length m + size_in t ≤ limit → PastLimit (c ++ t) → ⊥
not_past_cut m c t p k f o =
    elim (compare m c t o.message o.chunks (o.high ∷ o.low ∷ o.more) p o.whole o.rest_is) [
      | inl q ↦ (
          let g = cut_then t q.n q.d (o.high ∷ o.low ∷ o.more) k q.chunks q.rest_is in
          let e : o.message ≡ m = q.message_is ∙ ap (λ v. m ++ v) g.0 ∙ append-nil m in
          let s = ap size_in g.1 in
          let l = ap length e in
          let past = o.past in
          omega arith)
      | inr q ↦ (
          let past = o.past in
          let l = ap length q.message_is in
          let a = length-append o.message q.n in
          elim (head_within q.n q.d o.high o.low o.more t q.chunks q.rest_is) [
            | inl h ↦ (let s = ap size_in h.0 in omega arith)
            | inr h ↦ omega arith
          ])
    ]

-- past the limit no message stands
pub none_in_past : (r : List ℕ) → PastLimit r → HoldsNone r
none_in_past r o = record {
  no_op = λ x e. (
      let past = o.past in
      let f = end_first o.message o.chunks x (o.high ∷ o.low ∷ o.more) o.whole (sym e ∙ o.rest_is) in
      let s = head_of o.high o.low 0 0 o.more x f.1 in
      let l = ap length f.0 in
      absurd (omega arith));
  message = λ m' s' x w e. (
      let past = o.past in
      let fits = w.fits in
      elim (compare o.message o.chunks (o.high ∷ o.low ∷ o.more) m' w.chunks (0 ∷ 0 ∷ x) o.whole w.whole (sym o.rest_is ∙ e
      ∙ behind m' s' x w)) [
        | inl q ↦ (
            let l = ap length q.message_is in
            let a = length-append o.message q.n in
            elim (head_within q.n q.d o.high o.low o.more (0 ∷ 0 ∷ x) q.chunks q.rest_is) [
              | inl h ↦ (let s = head_of o.high o.low 0 0 o.more x h.0 in absurd (omega arith))
              | inr h ↦ absurd (omega arith)
            ])
        | inr q ↦ (
            let g = end_first q.n q.d x (o.high ∷ o.low ∷ o.more) q.chunks q.rest_is in
            let s = head_of o.high o.low 0 0 o.more x g.1 in
            let l = ap length q.message_is in
            let a = length-append m' q.n in
            let n = ap length g.0 in
            absurd (omega arith))
      ]);
}

-- past the limit it stays, whatever comes
pub past_on : (r x : List ℕ) → PastLimit r → PastLimit (r ++ x)
past_on r x o = record {
  message = o.message;
  chunks = o.chunks;
  high = o.high;
  low = o.low;
  more = o.more ++ x;
  whole = o.whole;
  rest_is = rw (o.rest_is, append_assoc o.chunks (o.high ∷ o.low ∷ o.more) x) refl;
  past = o.past;
}

pub too_long_on : (stream more : List ℕ) (messages : List (List ℕ)) → IsTooLongAfter stream messages →
    IsTooLongAfter (stream ++ more) messages
too_long_on stream more messages e =
    let past = past_on e.0 more e.2 in
    let framed = framed_on stream messages e.0 more [] (e.0 ++ more) e.1 (nothing (none_in_past (e.0 ++ more) past)) in
    (e.0 ++ more, rw (append-nil messages) at framed, past)

-- Chunks, one behind the other, and what may stand behind them.
use Rattle.std.proofs.Common.{◌≡◌, ℕ, ◌<◌, ◌≤◌, List, [], ◌∷◌, ◌++◌, length, ◌⊎◌, inl, inr, refl, sym, ap, ◌∙◌, append_assoc}
use Rattle.std.proofs.Common.{length-append, arith}
use Rattle.ncc_chunk.proofs.Lists.{split_same}
use Rattle.ncc_chunk.specs.Chunks.{size_of, Chunks, none, chunk}

pub chunks_join : (m c n d : List ℕ) → Chunks m c → Chunks n d → Chunks (m ++ n) (c ++ d)
chunks_join m c n d none q = q
chunks_join m c n d (chunk h l b m1 c1 some len p) q =
    rw (append_assoc b m1 n, append_assoc b c1 d) (chunk h l b (m1 ++ n) (c1 ++ d) some len (chunks_join m1 c1 n d p q))

-- One message and its chunks go on where the other ends.
pub record Onward (m c t m' c' t' : List ℕ) : Type 0 where
  pub n : List ℕ
  pub d : List ℕ
  pub chunks : Chunks n d
  pub message_is : m' ≡ m ++ n
  pub bytes_is : c' ≡ c ++ d
  pub rest_is : t ≡ d ++ t'

onward_more : (h l h' l' : ℕ) (b b' m c t m' c' t' : List ℕ) → h ≡ h' → l ≡ l' → b ≡ b' → Onward m c t m' c' t' →
    Onward (b ++ m) (h ∷ l ∷ b ++ c) t (b' ++ m') (h' ∷ l' ∷ b' ++ c') t'
onward_more h l h' l' b b' m c t m' c' t' eh el eb o = record {
  n = o.n;
  d = o.d;
  chunks = o.chunks;
  message_is = rw (o.message_is, ← eb, ← append_assoc b m o.n) refl;
  bytes_is = rw (o.bytes_is, ← eb, ← eh, ← el, ← append_assoc b c o.d) refl;
  rest_is = o.rest_is;
}

-- Where chunks with something behind are the same bytes as others with something behind, the ones go on where the others end.
pub compare : (m c t m' c' t' : List ℕ) → Chunks m c → Chunks m' c' → c ++ t ≡ c' ++ t' → Onward m c t m' c' t' ⊎ Onward m' c' t' m c t
compare m c t m' c' t' none q e = inl (record { n = m'; d = c'; chunks = q; message_is = refl; bytes_is = refl; rest_is = e })
compare m c t m' c' t' (chunk h l b m1 c1 some len p) none e =
    inr (record {
      n = b ++ m1;
      d = h ∷ l ∷ b ++ c1;
      chunks = chunk h l b m1 c1 some len p;
      message_is = refl;
      bytes_is = refl;
      rest_is = sym e;
    })
compare m c t m' c' t' (chunk h l b m1 c1 some len p) (chunk h' l' b' m1' c1' some' len' p') e =
    let eh : h ≡ h' = cc in
    let el : l ≡ l' = cc in
    let tails : (b ++ c1) ++ t ≡ (b' ++ c1') ++ t' = cc in
    let same = split_same b b' (c1 ++ t) (c1' ++ t') (len ∙ ap (λ x. size_of x l) eh ∙ ap (λ x. size_of h' x) el
    ∙ sym len') (sym (append_assoc b c1 t) ∙ tails ∙ append_assoc b' c1' t') in
    elim (compare m1 c1 t m1' c1' t' p p' same.1) [
      | inl o ↦ inl (onward_more h l h' l' b b' m1 c1 t m1' c1' t' eh el same.0 o)
      | inr o ↦ inr (onward_more h' l' h l b' b m1' c1' t' m1 c1 t (sym eh) (sym el) (sym same.0) o)
    ]

-- 00 00 begins no chunk
pub end_first : (n d x y : List ℕ) → Chunks n d → 0 ∷ 0 ∷ x ≡ d ++ y → (n ≡ []) × (y ≡ 0 ∷ 0 ∷ x)
end_first n d x y none e = (refl, sym e)
end_first n d x y (chunk h l b m1 c1 some len p) e =
    let eh : 0 ≡ h = cc in
    let el : 0 ≡ l = cc in
    absurd (omega arith)

-- less than a whole chunk
abbrev pub IsCut : List ℕ → Type 0
IsCut [] = Unit {0}
IsCut (_ ∷ []) = Unit {0}
IsCut (high ∷ low ∷ part) = length part < size_of high low

-- the size that the head of a cut chunk names, if it has come
abbrev pub size_in : List ℕ → ℕ
size_in (high ∷ low ∷ _) = size_of high low
size_in _ = 0

-- nothing whole stands in front of a cut chunk
pub cut_then : (t n d y : List ℕ) → IsCut t → Chunks n d → t ≡ d ++ y → (n ≡ []) × (t ≡ y)
cut_then t n d y k none e = (refl, e)
cut_then [] n d y k (chunk h l b m1 c1 some len p) e = absurd (cc)
cut_then (x ∷ []) n d y k (chunk h l b m1 c1 some len p) e = absurd (cc)
cut_then (x ∷ x' ∷ part) n d y k (chunk h l b m1 c1 some len p) e =
    let eh : x ≡ h = cc in
    let el : x' ≡ l = cc in
    let ep : part ≡ (b ++ c1) ++ y = cc in
    let el2 = simp (length-append) at (ap length ep) in
    let s : size_of x x' ≡ size_of h l = ap (λ v. size_of v x') eh ∙ ap (λ v. size_of h v) el in
    absurd (omega arith)

-- a head whose size is not that of the end begins no end
pub head_of : (h l h' l' : ℕ) (x x' : List ℕ) → h ∷ l ∷ x ≡ h' ∷ l' ∷ x' → size_of h l ≡ size_of h' l'
head_of h l h' l' x x' e =
    let eh : h ≡ h' = cc in
    let el : l ≡ l' = cc in
    ap (λ v. size_of v l) eh ∙ ap (λ v. size_of h' v) el

-- the size of a head that begins whole chunks is within their bodies
pub head_within : (n d : List ℕ) (h l : ℕ) (x y : List ℕ) → Chunks n d → h ∷ l ∷ x ≡ d ++ y → (h ∷ l ∷ x ≡ y) × (n ≡ [])
    ⊎ (size_of h l ≤ length n)
head_within n d h l x y none e = inl (e, refl)
head_within n d h l x y (chunk h' l' b m1 c1 some len p) e =
    let s = head_of h l h' l' x ((b ++ c1) ++ y) e in
    let k = length-append b m1 in
    inr (omega arith)

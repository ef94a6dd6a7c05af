-- The text of a bookmark, from its bytes and back.
use Rattle.std.proofs.Common.{◌≡◌, ℕ, zero, suc, ◌+◌, ◌<◌, List, [], ◌∷◌, ◌++◌, length, take, drop, Ok, Err, IsErrOf, refl, ap, sym}
use Rattle.std.proofs.Common.{◌∙◌, arith, codes, length-append, add-zero}
use Rattle.std.proofs.lemmas.List.{take_at, drop_at}
use Rattle.std.proofs.lemmas.Nat.{from_be_bytes-to_be_bytes_8}
use Rattle.std.specs.Int.{w64, to_be_bytes, from_be_bytes, bytes_high_first}
use Rattle.base64.specs.Engines.{standard}
use Rattle.base64.specs.GeneralPurpose.{encode_of, decode_of, IsBytes}
use Rattle.base64.proofs.EngineFacts.{decode_of-encode_of}
use Rattle.base64.proofs.RoundTrip.{length-encode_symbols}
use Rattle.base64.specs.Rfc4648.{encode_symbols}
use Rattle.ncc_bookmark.specs.Point.{Point, Fits}
use Rattle.ncc_bookmark.specs.Spelling.{payload, text_of}

-- each byte of a number is below 256
pub number_bytes : (k n : ℕ) → IsBytes (bytes_high_first k n)
number_bytes zero n i = omega arith
number_bytes (suc zero) n zero = omega arith
number_bytes (suc (suc k)) n zero = omega arith
number_bytes (suc k) n (suc i) = number_bytes k n i

-- two lists of bytes, one after the other
pub joined_bytes : (xs ys : List ℕ) → IsBytes xs → IsBytes ys → IsBytes (xs ++ ys)
joined_bytes [] ys f g i = g i
joined_bytes (x ∷ xs) ys f g zero = f zero
joined_bytes (x ∷ xs) ys f g (suc i) = joined_bytes xs ys (λ j. f (suc j)) g i

one_byte : (b : ℕ) → b < 256 → IsBytes (b ∷ [])
one_byte b h zero = h
one_byte b h (suc i) = omega arith

pub payload_bytes : (p : Point) → IsBytes (payload p)
unfolding payload
payload_bytes p =
    joined_bytes (1 ∷ []) (to_be_bytes w64 p.cluster ++ (to_be_bytes w64 p.place ++ (0 ∷ []))) (one_byte 1 (omega arith))
    (joined_bytes (to_be_bytes w64 p.cluster) (to_be_bytes w64 p.place ++ (0 ∷ [])) (number_bytes 8 p.cluster)
    (joined_bytes (to_be_bytes w64 p.place) (0 ∷ []) (number_bytes 8 p.place) (one_byte 0 (omega arith))))

pub length-encoded : (p : Point) → length (encode_of standard (payload p)) ≡ 24
unfolding payload
length-encoded p =
    length-append (encode_symbols standard.encode_table (payload p)) []
    ∙ (add-zero _ ∙ length-encode_symbols standard.encode_table (payload p))

pub length-text_of : (p : Point) → length (text_of p) ≡ 28
unfolding text_of
length-text_of p = length-append (codes "ncc:") (encode_of standard (payload p)) ∙ ap (λ n. 4 + n) (length-encoded p)

pub front-text_of : (p : Point) → take 4 (text_of p) ≡ codes "ncc:"
unfolding text_of
front-text_of p = refl

pub back-text_of : (p : Point) → drop 4 (text_of p) ≡ encode_of standard (payload p)
unfolding text_of
back-text_of p = refl

pub decoded : (p : Point) → decode_of standard (encode_of standard (payload p)) ≡ Ok (payload p)
decoded p = decode_of-encode_of standard (payload p) refl (payload_bytes p)

pub point_same : (a b : Point) → a.cluster ≡ b.cluster → a.place ≡ b.place → a ≡ b
point_same a b clusters places =
    let made : ℕ → ℕ → Point = λ c p. record { cluster = c; place = p } in
    ap (λ c. made c a.place) clusters ∙ ap (λ p. made b.cluster p) places

pub payload_same : (a b : Point) → Fits a → Fits b → payload a ≡ payload b → a ≡ b
unfolding payload
payload_same a b f g e =
    let clusters : a.cluster ≡ b.cluster = sym (from_be_bytes-to_be_bytes_8 a.cluster f.cluster)
    ∙ (ap (λ l. from_be_bytes w64 (take 8 (drop 1 l))) e ∙ from_be_bytes-to_be_bytes_8 b.cluster g.cluster) in
    let places : a.place ≡ b.place = sym (from_be_bytes-to_be_bytes_8 a.place f.place)
    ∙ (ap (λ l. from_be_bytes w64 (take 8 (drop 9 l))) e ∙ from_be_bytes-to_be_bytes_8 b.place g.place) in
    point_same a b clusters places

-- two texts with what follows them
pub texts_same : (a b : Point) (x y : List ℕ) → Fits a → Fits b → text_of a ++ x ≡ text_of b ++ y → (a ≡ b) × (x ≡ y)
texts_same a b x y f g e =
    let texts : text_of a ≡ text_of b = sym (take_at (text_of a) x 28 (length-text_of a))
    ∙ (ap (take 28) e ∙ take_at (text_of b) y 28 (length-text_of b)) in
    let rests : x ≡ y = sym (drop_at (text_of a) x 28 (length-text_of a))
    ∙ (ap (drop 28) e ∙ drop_at (text_of b) y 28 (length-text_of b)) in
    let backs : encode_of standard (payload a) ≡ encode_of standard (payload b) = sym (back-text_of a)
    ∙ (ap (drop 4) texts ∙ back-text_of b) in
    let loads : Ok (payload a) ≡ Ok (payload b) = sym (decoded a) ∙ (ap (decode_of standard) backs ∙ decoded b) in
    (payload_same a b f g (cc), rests)

-- the two parts of a text
pub parts-text_of : (p : Point) → text_of p ≡ codes "ncc:" ++ encode_of standard (payload p)
unfolding text_of
parts-text_of p = refl

pub encoded_same : (p : Point) (t back : List ℕ) → t ≡ codes "ncc:" ++ back → t ≡ text_of p → back ≡ encode_of standard (payload p)
encoded_same p t back e f = ap (drop 4) (sym e ∙ f) ∙ back-text_of p

pub text_made : (p : Point) (t back bytes : List ℕ) → t ≡ codes "ncc:" ++ back → back ≡ encode_of standard bytes →
    bytes ≡ payload p → t ≡ text_of p
text_made p t back bytes e f g = e ∙ (ap (λ l. codes "ncc:" ++ l) (f ∙ ap (encode_of standard) g) ∙ sym (parts-text_of p))

pub point_of_text : (a b : Point) (t : List ℕ) → Fits a → Fits b → t ≡ text_of a → t ≡ text_of b → a ≡ b
point_of_text a b t f g e h = (texts_same a b [] [] f g (ap (λ l. l ++ []) (sym e ∙ h))).0

-- an error that is handed on under another type of answers
pub err_again : {T U E : Type 0} (a b : E) → IsErrOf {T = T} (Err a) b → IsErrOf {T = U} (Err a) b
err_again a b h = let same : a ≡ b = cc in ap Err same

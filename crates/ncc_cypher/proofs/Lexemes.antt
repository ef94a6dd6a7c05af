-- The lexeme that is read is the longest.
use Rattle.std.proofs.Common.{◌≡◌, ℕ, ◌+◌, ◌≤◌, Bool, true, false, cond, List, [], ◌∷◌, ◌++◌, suc, take, drop, length, Option, Some, None, refl, sym, ap, subst, ◌∙◌, arith}
use Rattle.std.specs.Prelude.{◌==◌}
use Rattle.std.specs.List.{prefix_len}
use Rattle.std.proofs.lemmas.List.{append-nil, take-append-drop, length-append, length-drop}
use Rattle.std.proofs.lemmas.List.Sums.{prefix_len-le-length}
use Rattle.std.proofs.lemmas.Bool.{eqb-true}
use Rattle.std.proofs.Common.{eq-eqb}
use Rattle.std.proofs.Math.Seq.{take-append-add, drop-append-add}
use Rattle.ncc_cypher.specs.declared.class.Class.{Class}
use Rattle.ncc_cypher.specs.declared.class.Class.TheVariants.{Letter, Zero, Digit, Minus, Quote, Sign}
use Rattle.ncc_cypher.specs.Class.{class, is_digit, is_word, escape, is_escape}
use Rattle.ncc_cypher.specs.Lexeme.{Lexeme, word, number, text, sign, Passes, IsNumber, zero, more, Body, ends, plain, escaped, Writes, a_word, plus, minus, a_text, a_sign, Longest}
use Rattle.ncc_cypher.specs.Scan.{as_number, as_text, digits_by, digits_at, by_class, lexeme_at}
use Rattle.ncc_cypher.specs.Body.{add, body_at}

-- ---- runs of bytes that pass

all_more : (p : ℕ → Bool) (w rest : List ℕ) → Passes p w → prefix_len p (w ++ rest) ≡ length w + prefix_len p rest
all_more p [] rest h = omega arith
all_more p (b ∷ w) rest h = rw (h.0, all_more p w rest h.1) (omega arith)

front_step : (p : ℕ → Bool) (b : ℕ) (bs : List ℕ) (c : Bool) → p b ≡ c → Passes p (take (prefix_len p bs) bs) → Passes p (take (cond c (1 + prefix_len p bs) 0) (b ∷ bs))
front_step p b bs true e h = let i : 1 + prefix_len p bs ≡ suc (prefix_len p bs) = omega arith in rw i (e, h)
front_step p b bs false e h = tt

pub passes_front : (p : ℕ → Bool) (bs : List ℕ) → Passes p (take (prefix_len p bs) bs)
passes_front p [] = tt
passes_front p (b ∷ bs) = front_step p b bs (p b) refl (passes_front p bs)

front_is : (p : ℕ → Bool) (w rest : List ℕ) → Passes p w → take (prefix_len p (w ++ rest)) (w ++ rest) ≡ w ++ take (prefix_len p rest) rest
front_is p w rest h = ap (λ (k : ℕ). take k (w ++ rest)) (all_more p w rest h) ∙ take-append-add w rest (prefix_len p rest)

back_is : (p : ℕ → Bool) (w rest : List ℕ) → Passes p w → drop (prefix_len p (w ++ rest)) (w ++ rest) ≡ drop (prefix_len p rest) rest
back_is p w rest h = ap (λ (k : ℕ). drop k (w ++ rest)) (all_more p w rest h) ∙ drop-append-add w rest (prefix_len p rest)

none_left : (n : ℕ) (xs : List ℕ) → n ≡ 0 → take n xs ≡ []
none_left n xs e = rw e refl

-- ---- a text

list_pair_is : (r s : List ℕ × List ℕ) → Some r ≡ Some s → r ≡ s
list_pair_is r s e = cc

add_some : (b : ℕ) (d : Option (List ℕ × List ℕ)) (s : List ℕ × List ℕ) → add b d ≡ Some s → (r : List ℕ × List ℕ) × (d ≡ Some r) × ((b ∷ r.0, r.1) ≡ s)
add_some b None s e = absurd cc
add_some b (Some r) s e = (r, refl, cc)

not_quote : (q b : ℕ) (rest : List ℕ) → (b == q) ≡ false → (b == 92) ≡ false → body_at q false (b ∷ rest) ≡ add b (body_at q false rest)
unfolding body_at
not_quote q b rest e f = rw (e, f) refl

at_escape : (q e : ℕ) (rest : List ℕ) → (92 == q) ≡ false → is_escape e ≡ true → body_at q false (92 ∷ e ∷ rest) ≡ add (escape e) (body_at q false rest)
unfolding body_at
at_escape q e rest n h = rw n (rw h refl)

at_quote : (q : ℕ) (rest : List ℕ) → body_at q false (q ∷ rest) ≡ Some ([], rest)
unfolding body_at
at_quote q rest = let i : (q == q) ≡ true = eq-eqb q q refl in rw i refl

body_again : (q : ℕ) (v w rest : List ℕ) → (92 == q) ≡ false → Body q v w → body_at q false (w ++ rest) ≡ Some (v, rest)
body_again q _ _ rest n ends = at_quote q rest
body_again q _ _ rest n (plain b v w e f h) = not_quote q b (w ++ rest) e f ∙ ap (add b) (body_again q v w rest n h)
body_again q _ _ rest n (escaped e v w is h) = at_escape q e (w ++ rest) n is ∙ ap (add (escape e)) (body_again q v w rest n h)

abbrev BodyTaken : ℕ → List ℕ → List ℕ × List ℕ → Type 0
BodyTaken q bs r = (w : List ℕ) × (bs ≡ w ++ r.1) × Body q r.0 w

abbrev EscapeTaken : ℕ → List ℕ → List ℕ × List ℕ → Type 0
EscapeTaken q bs r = (w : List ℕ) × (bs ≡ w ++ r.1) × Body q r.0 (92 ∷ w)

plain_takes : (q b : ℕ) (bs : List ℕ) (r : List ℕ × List ℕ) (d g : Bool) → (b == q) ≡ d → (b == 92) ≡ g → ((s : List ℕ × List ℕ) → body_at q false bs ≡ Some s → BodyTaken q bs s) → ((s : List ℕ × List ℕ) → body_at q true bs ≡ Some s → EscapeTaken q bs s)
    → cond d (Some ([], bs)) (cond g (body_at q true bs) (add b (body_at q false bs))) ≡ Some r → BodyTaken q (b ∷ bs) r
plain_takes q b bs r true g eq es h k e = let i : b ≡ q = eqb-true b q eq in subst (λ (z : List ℕ × List ℕ). BodyTaken q (b ∷ bs) z) (list_pair_is ([], bs) r e) (q ∷ [], ap (λ (z : ℕ). z ∷ bs) i, ends)
plain_takes q b bs r false true eq es h k e = let i : b ≡ 92 = eqb-true b 92 es in let t = k r e in (92 ∷ t.0, rw i (ap (λ (z : List ℕ). 92 ∷ z) t.1), t.2)
plain_takes q b bs r false false eq es h k e =
    let a = add_some b (body_at q false bs) r e in
    let t = h a.0 a.1 in
    subst (λ (z : List ℕ × List ℕ). BodyTaken q (b ∷ bs) z) a.2 (b ∷ t.0, ap (λ (z : List ℕ). b ∷ z) t.1, plain b a.0.0 t.0 eq es t.2)

escape_takes : (q x : ℕ) (bs : List ℕ) (r : List ℕ × List ℕ) (d : Bool) → is_escape x ≡ d → ((s : List ℕ × List ℕ) → body_at q false bs ≡ Some s → BodyTaken q bs s)
    → cond d (add (escape x) (body_at q false bs)) None ≡ Some r → EscapeTaken q (x ∷ bs) r
escape_takes q x bs r true is h e =
    let a = add_some (escape x) (body_at q false bs) r e in
    let t = h a.0 a.1 in
    subst (λ (z : List ℕ × List ℕ). EscapeTaken q (x ∷ bs) z) a.2 (x ∷ t.0, ap (λ (z : List ℕ). x ∷ z) t.1, escaped x a.0.0 t.0 is t.2)
escape_takes q x bs r false is h e = absurd cc

both_take : (q : ℕ) (bs : List ℕ) → ((s : List ℕ × List ℕ) → body_at q false bs ≡ Some s → BodyTaken q bs s) × ((s : List ℕ × List ℕ) → body_at q true bs ≡ Some s → EscapeTaken q bs s)
unfolding body_at
both_take q [] = (λ s e. absurd cc, λ s e. absurd cc)
both_take q (b ∷ bs) =
    let h = both_take q bs in
    (λ s e. plain_takes q b bs s (b == q) (b == 92) refl refl h.0 h.1 e, λ s e. escape_takes q b bs s (is_escape b) refl h.0 e)

body_takes : (q : ℕ) (bs : List ℕ) (r : List ℕ × List ℕ) → body_at q false bs ≡ Some r → BodyTaken q bs r
body_takes q bs r e = (both_take q bs).0 r e

quote_case : (q : ℕ) (d : Bool) → (92 == q) ≡ d → class q ≡ Quote → (92 == q) ≡ false
unfolding class
quote_case q false e is = e
quote_case q true e is = let i : 92 ≡ q = eqb-true 92 q e in absurd (let k : class 92 ≡ Quote = ap class i ∙ is in cc)

quote_small : (q : ℕ) → class q ≡ Quote → (92 == q) ≡ false
quote_small q is = quote_case q (92 == q) refl is

-- ---- what is written is read, or something longer

pub record Reads (x : Lexeme) (w rest : List ℕ) : Type 0 where
  pub n : ℕ
  pub fits : n ≤ length rest
  pub y : Lexeme
  pub reads : lexeme_at (w ++ rest) ≡ Some (y, drop n rest)
  pub same : n ≡ 0 → y ≡ x
  pub stop : prefix_len is_word rest ≡ 0 → prefix_len is_digit rest ≡ 0 → n ≡ 0

pub by_is : (b : ℕ) (c : Class) (bs : List ℕ) → class b ≡ c → lexeme_at (b ∷ bs) ≡ by_class c b bs
unfolding lexeme_at
by_is b c bs e = ap (λ (k : Class). by_class k b bs) e

record ReadsDigits (ds rest : List ℕ) : Type 0 where
  pub n : ℕ
  pub fits : n ≤ length rest
  pub ys : List ℕ
  pub reads : digits_at (ds ++ rest) ≡ Some (ys, drop n rest)
  pub same : n ≡ 0 → ys ≡ ds
  pub stop : prefix_len is_digit rest ≡ 0 → n ≡ 0

digits_is : (b : ℕ) (c : Class) (bs : List ℕ) → class b ≡ c → digits_at (b ∷ bs) ≡ digits_by c b bs
digits_is b c bs e = ap (λ (k : Class). digits_by k b bs) e

digits_again : (ds rest : List ℕ) → IsNumber ds → ReadsDigits ds rest
digits_again _ rest (zero b is) = record { n = 0; fits = omega arith; ys = b ∷ []; reads = digits_is b Zero rest is; same = λ e. refl; stop = λ e. refl }
digits_again _ rest (more b bs is h) = record {
  n = prefix_len is_digit rest;
  fits = prefix_len-le-length is_digit rest;
  ys = b ∷ (bs ++ take (prefix_len is_digit rest) rest);
  reads = digits_is b Digit (bs ++ rest) is ∙ rw (front_is is_digit bs rest h, back_is is_digit bs rest h) refl;
  same = λ e. rw (none_left (prefix_len is_digit rest) rest e) (ap (λ (z : List ℕ). b ∷ z) (append-nil bs));
  stop = λ e. e;
}

plain_number : (ds rest : List ℕ) → IsNumber ds → lexeme_at (ds ++ rest) ≡ as_number false (digits_at (ds ++ rest))
plain_number _ rest (zero b is) = by_is b Zero rest is ∙ sym (ap (as_number false) (digits_is b Zero rest is))
plain_number _ rest (more b bs is h) = by_is b Digit (bs ++ rest) is ∙ sym (ap (as_number false) (digits_is b Digit (bs ++ rest) is))

pub again : (x : Lexeme) (w rest : List ℕ) → Writes x w → Reads x w rest
again _ _ rest (a_word b bs is h) = record {
  n = prefix_len is_word rest;
  fits = prefix_len-le-length is_word rest;
  y = word (b ∷ (bs ++ take (prefix_len is_word rest) rest));
  reads = by_is b Letter (bs ++ rest) is ∙ rw (front_is is_word bs rest h, back_is is_word bs rest h) refl;
  same = λ e. rw (none_left (prefix_len is_word rest) rest e) (ap (λ (z : List ℕ). word (b ∷ z)) (append-nil bs));
  stop = λ e f. e;
}
again _ _ rest (plus ds is) =
    let d = digits_again ds rest is in
    record { n = d.n; fits = d.fits; y = number false d.ys; reads = plain_number ds rest is ∙ ap (as_number false) d.reads; same = λ e. ap (number false) (d.same e); stop = λ e f. d.stop f }
again _ _ rest (minus b ds m is) =
    let d = digits_again ds rest is in
    record { n = d.n; fits = d.fits; y = number true d.ys; reads = by_is b Minus (ds ++ rest) m ∙ ap (as_number true) d.reads; same = λ e. ap (number true) (d.same e); stop = λ e f. d.stop f }
again _ _ rest (a_text q v w is b) = record { n = 0; fits = omega arith; y = text v; reads = by_is q Quote (w ++ rest) is ∙ ap as_text (body_again q v w rest (quote_small q is) b); same = λ e. refl; stop = λ e f. refl }
again _ _ rest (a_sign b is) = record { n = 0; fits = omega arith; y = sign b; reads = by_is b Sign rest is; same = λ e. refl; stop = λ e f. refl }

-- ---- what is read is written

pub record Taken (bytes : List ℕ) (x : Lexeme) (rest : List ℕ) : Type 0 where
  pub front : List ℕ
  pub parts : bytes ≡ front ++ rest
  pub written : Writes x front

pair_is : (r s : Lexeme × List ℕ) → Some r ≡ Some s → r ≡ s
pair_is r s e = cc

become : (bytes : List ℕ) (r s : Lexeme × List ℕ) → Some r ≡ Some s → Taken bytes r.0 r.1 → Taken bytes s.0 s.1
become bytes r s e h = subst (λ (z : Lexeme × List ℕ). Taken bytes z.0 z.1) (pair_is r s e) h

DigitsTaken : List ℕ → List ℕ × List ℕ → Type 0
DigitsTaken bytes r = (bytes ≡ r.0 ++ r.1) × IsNumber r.0

digits_take : (b : ℕ) (bs : List ℕ) (r : List ℕ × List ℕ) (c : Class) → class b ≡ c → digits_by c b bs ≡ Some r → (b ∷ bs ≡ r.0 ++ r.1) × IsNumber r.0
digits_take b bs r Zero is e = subst (λ (z : List ℕ × List ℕ). (b ∷ bs ≡ z.0 ++ z.1) × IsNumber z.0) (list_pair_is (b ∷ [], bs) r e) (refl, zero b is)
digits_take b bs r Digit is e =
    subst (λ (z : List ℕ × List ℕ). (b ∷ bs ≡ z.0 ++ z.1) × IsNumber z.0) (list_pair_is (b ∷ take (prefix_len is_digit bs) bs, drop (prefix_len is_digit bs) bs) r e)
    (ap (λ (z : List ℕ). b ∷ z) (sym (take-append-drop (prefix_len is_digit bs) bs)), more b (take (prefix_len is_digit bs) bs) is (passes_front is_digit bs))
digits_take b bs r _ is e = absurd cc

digits_takes : (bs : List ℕ) (r : List ℕ × List ℕ) → digits_at bs ≡ Some r → (bs ≡ r.0 ++ r.1) × IsNumber r.0
digits_takes [] r e = absurd cc
digits_takes (b ∷ bs) r e = digits_take b bs r (class b) refl e

number_some : (m : Bool) (d : Option (List ℕ × List ℕ)) (s : Lexeme × List ℕ) → as_number m d ≡ Some s → (r : List ℕ × List ℕ) × (d ≡ Some r) × (Some (number m r.0, r.1) ≡ Some s)
number_some m None s e = absurd cc
number_some m (Some r) s e = (r, refl, e)

text_some : (d : Option (List ℕ × List ℕ)) (s : Lexeme × List ℕ) → as_text d ≡ Some s → (r : List ℕ × List ℕ) × (d ≡ Some r) × (Some (text r.0, r.1) ≡ Some s)
text_some None s e = absurd cc
text_some (Some r) s e = (r, refl, e)

class_takes : (b : ℕ) (bs : List ℕ) (s : Lexeme × List ℕ) (c : Class) → class b ≡ c → by_class c b bs ≡ Some s → Taken (b ∷ bs) s.0 s.1
class_takes b bs s Letter is e = become (b ∷ bs) (word (b ∷ take (prefix_len is_word bs) bs), drop (prefix_len is_word bs) bs) s e (record {
  front = b ∷ take (prefix_len is_word bs) bs;
  parts = ap (λ (z : List ℕ). b ∷ z) (sym (take-append-drop (prefix_len is_word bs) bs));
  written = a_word b (take (prefix_len is_word bs) bs) is (passes_front is_word bs);
})
class_takes b bs s Zero is e = become (b ∷ bs) (number false (b ∷ []), bs) s e (record { front = b ∷ []; parts = refl; written = plus (b ∷ []) (zero b is) })
class_takes b bs s Digit is e =
    let n = number_some false (digits_by Digit b bs) s e in
    let d = digits_take b bs n.0 Digit is n.1 in
    become (b ∷ bs) (number false n.0.0, n.0.1) s n.2 (record { front = n.0.0; parts = d.0; written = plus n.0.0 d.1 })
class_takes b bs s Minus is e =
    let n = number_some true (digits_at bs) s e in
    let d = digits_takes bs n.0 n.1 in
    become (b ∷ bs) (number true n.0.0, n.0.1) s n.2 (record { front = b ∷ n.0.0; parts = ap (λ (z : List ℕ). b ∷ z) d.0; written = minus b n.0.0 is d.1 })
class_takes b bs s Quote is e =
    let n = text_some (body_at b false bs) s e in
    let d = body_takes b bs n.0 n.1 in
    become (b ∷ bs) (text n.0.0, n.0.1) s n.2 (record { front = b ∷ d.0; parts = ap (λ (z : List ℕ). b ∷ z) d.1; written = a_text b n.0.0 d.0 is d.2 })
class_takes b bs s Sign is e = become (b ∷ bs) (sign b, bs) s e (record { front = b ∷ []; parts = refl; written = a_sign b is })
class_takes b bs s _ is e = absurd cc

pub takes : (bytes : List ℕ) (x : Lexeme) (rest : List ℕ) → lexeme_at bytes ≡ Some (x, rest) → Taken bytes x rest
unfolding lexeme_at
takes [] x rest e = absurd cc
takes (b ∷ bs) x rest e = class_takes b bs (x, rest) (class b) refl e

-- ---- the longest

pub some : (bytes : List ℕ) (x : Lexeme) (rest : List ℕ) → lexeme_at bytes ≡ Some (x, rest) → Longest bytes x rest
some bytes x rest e =
    let t = takes bytes x rest e in
    record {
      front = t.front;
      parts = t.parts;
      written = t.written;
      longest = λ y other left w p.
          let r = again y other left w in
          let same : (r.y, drop r.n left) ≡ (x, rest) = pair_is (r.y, drop r.n left) (x, rest) (sym r.reads ∙ ap lexeme_at (sym p) ∙ e) in
          let len : length (drop r.n left) ≡ length rest = ap (λ (z : Lexeme × List ℕ). length z.1) same in
          omega (arith, len, length-drop r.n left, ap length p, ap length t.parts, length-append other left, length-append t.front rest, r.fits);
    }

none_read : Option (Lexeme × List ℕ)
none_read = None

never : (s : Lexeme × List ℕ) → None ≡ Some s → ⊥
never s e = cc

pub none : (bytes : List ℕ) → lexeme_at bytes ≡ None → (y : Lexeme) (other left : List ℕ) → Writes y other → bytes ≡ other ++ left → ⊥
none bytes e y other left w p = let r = again y other left w in never (r.y, drop r.n left) (sym e ∙ ap lexeme_at p ∙ r.reads)

pub only : (bytes : List ℕ) (x : Lexeme) (rest : List ℕ) → Longest bytes x rest → lexeme_at bytes ≡ Some (x, rest)
only bytes x rest l =
    let r = again x l.front rest l.written in
    let e : lexeme_at bytes ≡ Some (r.y, drop r.n rest) = ap lexeme_at l.parts ∙ r.reads in
    let t = takes bytes r.y (drop r.n rest) e in
    let le : length t.front ≤ length l.front = l.longest r.y t.front (drop r.n rest) t.written t.parts in
    let n : r.n ≡ 0 = omega (arith, le, length-drop r.n rest, ap length t.parts, ap length l.parts, length-append t.front (drop r.n rest), length-append l.front rest, r.fits) in
    e ∙ ap (λ (z : Lexeme). Some (z, drop r.n rest)) (r.same n) ∙ ap (λ (k : ℕ). Some (x, drop k rest)) n

-- What a printer holds, and how a text is escaped.
use Rattle.std.proofs.Common.{◌≡◌, ℕ, suc, ◌+◌, ◌<◌, ◌≤◌, ◌-◌, Bool, true, false, List, [], ◌∷◌, ◌++◌, Option, take, drop, length, Result, Ok, Err, get_or, refl, sym, ap, ◌∙◌, append_assoc, arith}
use Rattle.std.proofs.lemmas.List.{append-nil}
use Rattle.std.proofs.lemmas.List.{take_all, take_more}
use Rattle.std.specs.Prelude.{OnOk, ◌==◌, ◌||◌, not}
use Rattle.std.specs.List.{prefix_len}
use Rattle.ncc_cypher.specs.Body.{is_plain}
use Rattle.ncc_cypher.proofs.Runs.{stops}
use Rattle.ncc_cypher.specs.declared.token.Token.{Token}
use Rattle.ncc_cypher.specs.declared.token.Token.TheVariants as t
use Rattle.ncc_cypher.specs.declared.tree.Item.{Item}
use Rattle.ncc_cypher.specs.declared.tree.Head.{Head}
use Rattle.ncc_cypher.specs.declared.tree.Head.TheVariants as h
use Rattle.ncc_cypher.specs.declared.tree.Tail.{Tail}
use Rattle.ncc_cypher.specs.declared.tree.Tail.TheVariants as l
use Rattle.ncc_cypher.specs.declared.printing.Printer.{Printer}
use Rattle.ncc_cypher.specs.Grammar.{Name, further, parted, item, named, tail}
use Rattle.ncc_cypher.specs.Print.{escaped, written, shape, text, plain, plain_named}
use Rattle.ncc_cypher.specs.Printer.{add, puts}

-- ---- what a printer holds

pub puts_then : (p : Printer) (xs ys : List Token) → puts p (xs ++ ys) ≡ puts (puts p xs) ys
puts_then p [] ys = refl
puts_then p (x ∷ xs) ys = puts_then (add p (shape x) (written x)) xs ys

-- it is the text of the tokens
pub puts_text : (p : Printer) (xs : List Token) → (puts p xs).out ≡ p.out ++ text p.last xs
unfolding add
puts_text p [] = sym (append-nil p.out)
puts_text p (x ∷ xs) = puts_text (add p (shape x) (written x)) xs ∙ simp append_assoc

further_more : {A : Type 0} (f : A → List Token) (sep : Token) (xs : List A) (x : A) → further f sep (xs ++ (x ∷ [])) ≡ further f sep xs ++ (sep ∷ f x)
further_more f sep [] x = ap (λ (z : List Token). sep ∷ z) (append-nil (f x))
further_more f sep (y ∷ ys) x = rw (further_more f sep ys x) (simp append_assoc)

-- one more of a list
pub further_puts : {A : Type 0} (f : A → List Token) (sep : Token) (xs : List A) (i : ℕ) (x : A) (p q a b : Printer) → i < length xs → q ≡ puts p (further f sep (take i xs)) → a ≡ puts q (sep ∷ []) → b ≡ puts a (f (get_or xs i x)) → b ≡ puts p (further f sep (take (i + 1) xs))
further_puts {A = A} f sep xs i x p q a b lt e g h =
    let k : take (i + 1) xs ≡ take i xs ++ (get_or xs i x ∷ []) = take_more xs i x lt in
    let m : puts p (further f sep (take i xs) ++ (sep ∷ f (get_or xs i x))) ≡ puts (puts p (further f sep (take i xs))) (sep ∷ f (get_or xs i x)) = puts_then p (further f sep (take i xs)) (sep ∷ f (get_or xs i x)) in
    h ∙ ap (λ (z : Printer). puts z (f (get_or xs i x))) g ∙ ap (λ (z : Printer). puts z (sep ∷ f (get_or xs i x))) e ∙ sym m
    ∙ ap (puts p) (sym (further_more f sep (take i xs) (get_or xs i x))) ∙ ap (λ (z : List A). puts p (further f sep z)) (sym k)

-- a first and further ones
pub parted_puts : {A : Type 0} {E : Type 0} (f : A → List Token) (sep : Token) (xs : List A) (x : A) (p a b : Printer) (r : Result (Unit {0}) E) → 1 ≤ length xs → x ≡ get_or xs 0 x → a ≡ puts p (f x) → OnOk r (b ≡ puts a (further f sep (take (length xs - 1) (drop 1 xs)))) → OnOk r (b ≡ puts p (parted f sep xs))
parted_puts f sep [] x p a b r lt e g h = absurd (omega arith)
parted_puts f sep (y ∷ ys) x p a b (Err w) lt e g h = tt
parted_puts f sep (y ∷ ys) x p a b (Ok u) lt e g h = h ∙ ap (λ (z : _). puts a (further f sep z)) (take_all (length (y ∷ ys) - 1) ys (omega arith)) ∙ ap (λ (z : Printer). puts z (further f sep ys)) (g ∙ ap (λ (z : _). puts p (f z)) e) ∙ sym (puts_then p (f y) (further f sep ys))

-- items without AS
further_plain : (n : Option Name) (xs : List Item) → further (named n) t.Comma (plain_named xs) ≡ further (item n) t.Comma xs
further_plain n [] = refl
further_plain n (x ∷ xs) = rw (append-nil (item n x), further_plain n xs) refl

pub parted_plain : (n : Option Name) (xs : List Item) → parted (named n) t.Comma (plain_named xs) ≡ parted (item n) t.Comma xs
parted_plain n [] = refl
parted_plain n (x ∷ xs) = rw (append-nil (item n x), further_plain n xs) refl

-- a tail's tokens are the same behind each head
pub tail_plain : (x : Head) (n : Option Name) (y : Tail) → tail (plain h.Alone y) n y ≡ tail (plain x y) n y
tail_plain x n l.Nothing = refl
tail_plain x n l.Count = refl
tail_plain x n (l.Items xs) = refl

-- the whole text
pub text_is : (p a b c : Printer) (x y z : List Token) → p.out ≡ [] → a ≡ puts p x → b ≡ puts a y → c ≡ puts b z → c.out ≡ text p.last ((x ++ (y ++ z)) ++ [])
text_is p a b c x y z n e f g =
    let h : puts p ((x ++ (y ++ z)) ++ []) ≡ puts (puts (puts p x) y) z = ap (puts p) (append-nil (x ++ (y ++ z))) ∙ puts_then p x (y ++ z) ∙ puts_then (puts p x) y z in
    let k : c ≡ puts (puts (puts p x) y) z = g ∙ ap (λ (u : Printer). puts u z) f ∙ ap (λ (u : Printer). puts (puts u y) z) e in
    ap (λ (u : Printer). u.out) (k ∙ sym h) ∙ puts_text p ((x ++ (y ++ z)) ++ []) ∙ ap (λ (u : List ℕ). u ++ text p.last ((x ++ (y ++ z)) ++ [])) n

-- ---- escapes

not_true : (z : Bool) → not z ≡ true → z ≡ false
not_true true e = cc
not_true false e = refl

not_false : (z : Bool) → not z ≡ false → z ≡ true
not_false true e = refl
not_false false e = cc

run_step : (b : ℕ) (bs : List ℕ) (z : Bool) → is_plain 39 b ≡ z → escaped bs ≡ take (prefix_len (is_plain 39) bs) bs ++ escaped (drop (prefix_len (is_plain 39) bs) bs)
    → escaped (b ∷ bs) ≡ take (prefix_len (is_plain 39) (b ∷ bs)) (b ∷ bs) ++ escaped (drop (prefix_len (is_plain 39) (b ∷ bs)) (b ∷ bs))
unfolding escaped
run_step b bs false e h = rw e refl
run_step b bs true e h =
    let i : 1 + prefix_len (is_plain 39) bs ≡ suc (prefix_len (is_plain 39) bs) = omega arith in
    let f : (b == 39 || b == 92) ≡ false = not_true (b == 39 || b == 92) e in
    rw (e, i, f) (ap (λ (z : List ℕ). b ∷ z) h)

-- a run of other bytes stands as it is
run_escaped : (bs : List ℕ) → escaped bs ≡ take (prefix_len (is_plain 39) bs) bs ++ escaped (drop (prefix_len (is_plain 39) bs) bs)
unfolding escaped
run_escaped [] = refl
run_escaped (b ∷ bs) = run_step b bs (is_plain 39 b) refl (run_escaped bs)

-- a quote or a backslash has one before it
stop_escaped : (bs : List ℕ) → 0 < length bs → is_plain 39 (get_or bs 0 0) ≡ false → escaped bs ≡ 92 ∷ (take 1 bs ++ escaped (drop 1 bs))
unfolding escaped
stop_escaped [] lt h = absurd (omega arith)
stop_escaped (b ∷ bs) lt h = rw (not_false (b == 39 || b == 92) h) refl

-- a run, and a byte with a backslash before it
pub escape_step : (rest out : List ℕ) → 0 < length (drop (prefix_len (is_plain 39) rest) rest)
    → (((out ++ take (prefix_len (is_plain 39) rest) rest) ++ (92 ∷ [])) ++ take 1 (drop (prefix_len (is_plain 39) rest) rest)) ++ escaped (drop 1 (drop (prefix_len (is_plain 39) rest) rest)) ≡ out ++ escaped rest
escape_step rest out lt =
    let front : List ℕ = take (prefix_len (is_plain 39) rest) rest in
    let behind : List ℕ = drop (prefix_len (is_plain 39) rest) rest in
    let s : (((out ++ front) ++ (92 ∷ [])) ++ take 1 behind) ++ escaped (drop 1 behind) ≡ out ++ (front ++ (92 ∷ (take 1 behind ++ escaped (drop 1 behind)))) = simp append_assoc in
    s ∙ ap (λ (z : List ℕ). out ++ (front ++ z)) (sym (stop_escaped behind lt (stops 39 rest lt))) ∙ ap (λ (z : List ℕ). out ++ z) (sym (run_escaped rest))

-- a run up to the end
pub escape_last : (rest out behind : List ℕ) → behind ≡ drop (prefix_len (is_plain 39) rest) rest → length behind ≡ 0 → out ++ take (prefix_len (is_plain 39) rest) rest ≡ out ++ escaped rest
unfolding escaped
escape_last rest out [] e n = ap (λ (z : List ℕ). out ++ z) (sym (append-nil (take (prefix_len (is_plain 39) rest) rest)) ∙ ap (λ (z : List ℕ). take (prefix_len (is_plain 39) rest) rest ++ escaped z) e ∙ sym (run_escaped rest))
escape_last rest out (b ∷ bs) e n = absurd (omega arith)

pub one_front : (bs : List ℕ) → 0 < length bs → (take (length bs - length (drop 1 bs)) bs ≡ take 1 bs) × ((x : List ℕ) × (bs ≡ x ++ drop 1 bs))
one_front [] lt = absurd (omega arith)
one_front (b ∷ bs) lt = let n : length (b ∷ bs) - length bs ≡ 1 = omega arith in (rw n refl, (b ∷ [], refl))

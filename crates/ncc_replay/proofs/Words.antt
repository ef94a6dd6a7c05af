-- Words: what has no space in it, and a line cut at its spaces.
use Rattle.std.proofs.Common.{◌≡◌, ◌≢◌, ℕ, ◌+◌, ◌<◌, ◌≤◌, ◌*◌, ◌/◌, ◌%◌, ◌^◌, ◌==◌, nat_lt, nat_le, true, false, not, ◌&&◌, List}
use Rattle.std.proofs.Common.{[], ◌∷◌, length, take, drop, replicate, Option, None, Some, All, inl, inr, refl, sym, ap, ◌∙◌}
use Rattle.std.proofs.Common.{Bool, subst, arith, codes, decimal, position, slice_index, get_or, lit<, is_some}
use Rattle.std.specs.Borrow.{Bor}
use Rattle.std.specs.List.{AllByRecursion, join_with_byte, list_all, position_or_len}
use Rattle.std.specs.Str.Parse.{AllDigits}
use Rattle.std.proofs.lemmas.Bool.{cases_lt, and_parts, ne_eqb, not-true, ltb-true, agree_below_at, lt-ltb, false≢true, cond-true}
use Rattle.std.proofs.lemmas.Fmt.{decimal_is_IsNumeral, IsAscii-decimal}
use Rattle.std.proofs.lemmas.List.{get_or_past}
use Rattle.std.proofs.lemmas.List.Elements.{All-nil, All-cons, All-append, All-head, All-replicate, All-tail, All-from_recursion}
use Rattle.std.proofs.lemmas.List.Splits.{slice_split_none, slice_split_at, slice_split_first, join_with_byte-slice_split}
use Rattle.std.proofs.lemmas.List.Splits.{length-slice_split}
use Rattle.std.proofs.lemmas.List.Sums.{prefix_len_passes}
use Rattle.std.proofs.lemmas.Option.{cond_some, none-some}
use Rattle.std.proofs.lemmas.Str.Parse.{digit_from_value}
use Rattle.std.specs.Str.{IsAscii, IsUtf8}
use Rattle.std.proofs.lemmas.Bool.Decides.{nat_tests}
use Rattle.std.proofs.lemmas.Str.{IsUtf8-from_ascii, IsAscii-append}
use Rattle.std.proofs.lemmas.Str.Ascii.{IsAscii-nil, IsAscii-cons, IsAscii-from_all, All-from_ascii}
use Rattle.base64.proofs.EngineFacts.{IsAscii-encode_of}
use Rattle.base64.specs.Engines.{standard}
use Rattle.base64.specs.GeneralPurpose.{encode_of}
use Rattle.base64.specs.Rfc4648.{encode_symbols, encode_group, encode_two, encode_one, padding_len}
use Rattle.ncc_bookmark.specs.Point.{Point}
use Rattle.ncc_bookmark.specs.Spelling.{payload, text_of}
use Rattle.ncc_bookmark.proofs.Texts.{length-text_of}
use Rattle.ncc_world.specs.Events.{is_word, is_word_byte}
use Rattle.ncc_replay.specs.Line.{is_bookmark_word}
use Rattle.ncc_replay.specs.Reading.{words_between, words_in}

-- a word that a space doesn't cut
abbrev pub NoSpace : List ℕ → Type 0
NoSpace word = All (λ b. (b == 32) ≡ false) word

-- a line, cut at its first space

pub cut_some : (line : List ℕ) (i : ℕ) → position (λ b. b == 32) line ≡ Some i
    → (i < length line) × (words_between line ≡ take i line ∷ words_between (drop (i + 1) line))
cut_some line i e =
    let found = cond_some (nat_lt (position_or_len (λ b. b == 32) line) (length line)) (position_or_len (λ b. b == 32) line) i e in
    let within : position_or_len (λ b. b == 32) line < length line = ltb-true (position_or_len (λ b. b == 32) line) (length line)
    found.0 in (
      omega (arith, found.1),
      slice_split_first (λ b. b == 32) line 0 within
          ∙ ap (λ n. take n line ∷ words_between (drop (n + 1) line)) found.1,
    )

pub no_space_before : (line : List ℕ) → length line ≤ position_or_len (λ b. b == 32) line → NoSpace line
no_space_before line le k d lt =
    not-true (get_or line k d == 32) (prefix_len_passes (λ b. not (b == 32)) line k d (omega arith))

pub cut_none : (line : List ℕ) → position (λ b. b == 32) line ≡ None → words_between line ≡ line ∷ []
cut_none line e = elim (cases_lt (position_or_len (λ b. b == 32) line) (length line)) [
  | inl within ↦
      absurd (none-some (position_or_len (λ b. b == 32) line)
      (sym e ∙ cond-true (nat_lt (position_or_len (λ b. b == 32) line) (length line))
      (Some (position_or_len (λ b. b == 32) line)) None (lt-ltb (position_or_len (λ b. b == 32) line) (length line) within)))
  | inr past ↦ slice_split_none (λ b. b == 32) line (no_space_before line past)
]

-- a text has some word, be it empty
pub some_words : (text : Option (Bor (List ℕ))) → is_some text ≡ true → words_in text ≢ []
some_words (Some text) h e = omega (arith, length-slice_split (λ b. b == 32) text.now, ap length e)
some_words None h e = cc

pub none_words : (text : Option (Bor (List ℕ))) → is_some text ≡ false → words_in text ≡ []
none_words (Some text) h = cc
none_words None h = refl

-- words without spaces, joined by spaces, are cut into the same words

pub words-join : (ws : List (List ℕ)) → AllByRecursion NoSpace ws → 0 < length ws → words_between (join_with_byte 32 ws) ≡ ws
words-join [] h lt = absurd (omega arith)
words-join (w ∷ []) h lt = slice_split_none (λ b. b == 32) w h.0
words-join (w ∷ v ∷ vs) h lt =
    slice_split_at (λ b. b == 32) w 32 (join_with_byte 32 (v ∷ vs)) h.0 refl ∙ ap (λ l. w ∷ l) (words-join (v ∷ vs) h.1 (omega arith))

pub join-words : (line : List ℕ) → line ≡ join_with_byte 32 (words_between line)
join-words line = sym (join_with_byte-slice_split 32 line)

-- what has no space

digits_no_space : (ds : List ℕ) → AllDigits 10 ds → NoSpace ds
digits_no_space [] h = All-nil (λ b. (b == 32) ≡ false)
digits_no_space (d ∷ ds) h =
    let range = digit_from_value d h.0 in
    All-cons (λ b. (b == 32) ≡ false) d ds (ne_eqb d 32 (λ e. omega (arith, range.0, e))) (digits_no_space ds h.1)

pub decimal_no_space : (n : ℕ) → n < 2 ^ 64 → NoSpace (decimal n)
decimal_no_space n h = digits_no_space (decimal n) (decimal_is_IsNumeral n h).0.1

word_byte_no_space : (b : ℕ) → is_word_byte b ≡ true → (b == 32) ≡ false
word_byte_no_space b h = ne_eqb b 32 (λ e. false≢true (subst (λ x. is_word_byte x ≡ true) e h))

word_bytes_no_space : (bs : List ℕ) → list_all is_word_byte bs ≡ true → NoSpace bs
word_bytes_no_space [] h = All-nil (λ b. (b == 32) ≡ false)
word_bytes_no_space (b ∷ bs) h =
    let parts = and_parts (is_word_byte b) (list_all is_word_byte bs) h in
    All-cons (λ x. (x == 32) ≡ false) b bs (word_byte_no_space b parts.0) (word_bytes_no_space bs parts.1)

pub word_no_space : (w : List ℕ) → is_word w ≡ true → NoSpace w
word_no_space w h = word_bytes_no_space w (and_parts (nat_le 1 (length w) && nat_le (length w) 64) (list_all is_word_byte w) h).1

-- words and numbers are texts

word_byte_ascii : (b : ℕ) → is_word_byte b ≡ true → b < 128
word_byte_ascii b h = grind (arith, nat_tests)

word_bytes_ascii : (bs : List ℕ) → list_all is_word_byte bs ≡ true → IsAscii bs
word_bytes_ascii [] h = IsAscii-nil
word_bytes_ascii (b ∷ bs) h =
    let parts = and_parts (is_word_byte b) (list_all is_word_byte bs) h in
    IsAscii-cons b bs (word_byte_ascii b parts.0) (word_bytes_ascii bs parts.1)

pub word_utf8 : (w : List ℕ) → is_word w ≡ true → IsUtf8 w
word_utf8 w h =
    IsUtf8-from_ascii w (word_bytes_ascii w (and_parts (nat_le 1 (length w) && nat_le (length w) 64) (list_all is_word_byte w) h).1)

pub decimal_utf8 : (n : ℕ) (w : List ℕ) → n < 2 ^ 64 → w ≡ decimal n → IsUtf8 w
decimal_utf8 n w h e = subst IsUtf8 (sym e) (IsUtf8-from_ascii (decimal n) (IsAscii-decimal n h))

text_ascii : (p : Point) → IsAscii (text_of p)
unfolding text_of
text_ascii p =
    IsAscii-append (codes "ncc:") (encode_of standard (payload p))
    (IsAscii-from_all (codes "ncc:") (All-from_recursion (λ b. b < 128) (codes "ncc:") (
      lit< tt,
      (lit< tt, (lit< tt, (lit< tt, tt))),
    ))) (IsAscii-encode_of standard (payload p))

pub text_utf8 : (p : Point) (w : List ℕ) → w ≡ text_of p → IsUtf8 w
text_utf8 p w e = subst IsUtf8 (sym e) (IsUtf8-from_ascii (text_of p) (text_ascii p))

-- no symbol of base64 is a space

symbol_no_space : (i : ℕ) → (slice_index standard.encode_table i == 32) ≡ false
symbol_no_space i = elim (cases_lt i 64) [
  | inl lt ↦ agree_below_at (λ k. slice_index standard.encode_table k == 32) (λ k. false) 64 i refl lt
  | inr le ↦ ap (λ b. b == 32) (get_or_past standard.encode_table i 0 le)
]

symbols_no_space : (m : List ℕ) → NoSpace (encode_symbols standard.encode_table m)
unfolding encode_symbols
symbols_no_space [] = All-nil (λ b. (b == 32) ≡ false)
symbols_no_space (a ∷ []) =
    All-from_recursion (λ b. (b == 32) ≡ false) (encode_one standard.encode_table a)
    (symbol_no_space (a / 4), (symbol_no_space (a % 4 * 16), tt))
symbols_no_space (a ∷ b ∷ []) =
    All-from_recursion (λ b. (b == 32) ≡ false) (encode_two standard.encode_table a b)
    (symbol_no_space (a / 4), (symbol_no_space (a % 4 * 16 + b / 16), (symbol_no_space (b % 16 * 4), tt)))
symbols_no_space (a ∷ b ∷ c ∷ rest) =
    All-append (λ b. (b == 32) ≡ false) (encode_group standard.encode_table a b c) (encode_symbols standard.encode_table rest)
    (All-from_recursion (λ b. (b == 32) ≡ false) (encode_group standard.encode_table a b c) (
      symbol_no_space (a / 4),
      (
        symbol_no_space (a % 4 * 16 + b / 16),
        (symbol_no_space (b % 16 * 4 + c / 64), (symbol_no_space (c % 64), tt)),
      ),
    ))
    (symbols_no_space rest)

front_no_space : NoSpace (codes "ncc:")
front_no_space = All-from_recursion (λ b. (b == 32) ≡ false) (codes "ncc:") (refl, (refl, (refl, (refl, tt))))

pub text_no_space : (p : Point) → NoSpace (text_of p)
unfolding text_of
text_no_space p =
    All-append (λ b. (b == 32) ≡ false) (codes "ncc:") (encode_of standard (payload p)) front_no_space
    (All-append (λ b. (b == 32) ≡ false) (encode_symbols standard.encode_table (payload p))
    (replicate (padding_len (length (payload p))) 61)
    (symbols_no_space (payload p)) (All-replicate (λ b. (b == 32) ≡ false) (padding_len (length (payload p))) 61 refl))

-- what may stand where a bookmark should

bytes_no_space : (bs : List ℕ) → list_all (λ b. nat_lt b 128 && not (b == 32)) bs ≡ true → NoSpace bs
bytes_no_space [] h = All-nil (λ b. (b == 32) ≡ false)
bytes_no_space (b ∷ bs) h =
    let parts = and_parts (nat_lt b 128 && not (b == 32)) (list_all (λ c. nat_lt c 128 && not (c == 32)) bs) h in
    All-cons (λ x. (x == 32) ≡ false) b bs (not-true (b == 32) (and_parts (nat_lt b 128) (not (b == 32)) parts.0).1)
    (bytes_no_space bs parts.1)

pub bookmark_word_no_space : (w : List ℕ) → is_bookmark_word w ≡ true → NoSpace w
bookmark_word_no_space w h =
    bytes_no_space w (and_parts (nat_le 1 (length w)) (list_all (λ b. nat_lt b 128 && not (b == 32)) w) h).1

plain_bytes : (bs : List ℕ) → All (λ b. b < 128) bs → NoSpace bs → list_all (λ b. nat_lt b 128 && not (b == 32)) bs ≡ true
plain_bytes [] f g = refl
plain_bytes (b ∷ bs) f g =
    let small : nat_lt b 128 ≡ true = lt-ltb b 128 (All-head (λ x. x < 128) b bs f) in
    let other : (b == 32) ≡ false = All-head (λ x. (x == 32) ≡ false) b bs g in
    let rest = plain_bytes bs (All-tail (λ x. x < 128) b bs f) (All-tail (λ x. (x == 32) ≡ false) b bs g) in
    all_three (nat_lt b 128) (b == 32) (list_all (λ c. nat_lt c 128 && not (c == 32)) bs) small other rest where
      all_three : (x y z : Bool) → x ≡ true → y ≡ false → z ≡ true → ((x && not y) && z) ≡ true
      all_three x y z e f g = cc

-- the text of a bookmark may stand there
pub text_is_word : (p : Point) → is_bookmark_word (text_of p) ≡ true
text_is_word p =
    let some : nat_le 1 (length (text_of p)) ≡ true = ap (nat_le 1) (length-text_of p) in
    let plain = plain_bytes (text_of p) (All-from_ascii (text_of p) (text_ascii p)) (text_no_space p) in
    both (nat_le 1 (length (text_of p))) (list_all (λ b. nat_lt b 128 && not (b == 32)) (text_of p)) some plain where
      both : (x y : Bool) → x ≡ true → y ≡ true → (x && y) ≡ true
      both x y e f = cc

-- Texts whose bytes end too early: which may still become UTF-8 (Unicode, table 3-7).
use Rattle.std.proofs.Common.{◌≡◌, ◌⊎◌, inl, inr, ℕ, zero, suc, ◌+◌, ◌-◌, ◌*◌, ◌<◌, ◌≤◌, Bool, true, false, cond, eqb, ltb, List}
use Rattle.std.proofs.Common.{[], ◌∷◌, ◌++◌, length, get_or, take, drop, Option, None, Some, refl, sym, subst, ◌∙◌, append-nil}
use Rattle.std.proofs.Common.{take-add, arith}
use Rattle.std.specs.Prelude.{IsUtf8}
use Rattle.std.specs.Int.{is_in_range}
use Rattle.std.specs.Str.{is_utf8}
use Rattle.std.specs.Str.Lossy.{utf8_valid_len, utf8_error_len, valid_len_up_to, second_byte_min, second_byte_max}
use Rattle.std.proofs.lemmas.Str.{IsUtf8-from_is_utf8, is_utf8-from_IsUtf8, IsUtf8-nil, IsUtf8-append}
use Rattle.std.proofs.lemmas.Bool.{cases_lt, le-ltb}
use Rattle.std.proofs.lemmas.List.{length-append, length-drop}
use Rattle.std.proofs.str.Laws.{Follows}
use Rattle.std.proofs.str.Valid.{of_one, of_two, of_three, of_four}
use Rattle.std.proofs.str.Faults.{Ranged, no_char}
use Rattle.std.proofs.iter.FirstChar.{no_text}
use Rattle.ncc_pack.specs.Reading.{sequence_len}

-- ---- the longest front that is UTF-8

front_up_to : (bs : List ℕ) (m : ℕ) → IsUtf8 (take (valid_len_up_to bs m) bs)
front_up_to bs zero = IsUtf8-nil
front_up_to bs (suc m) = by (is_utf8 (take (suc m) bs)) refl (front_up_to bs m)
  where
    by : (t : Bool) → is_utf8 (take (suc m) bs) ≡ t → IsUtf8 (take (valid_len_up_to bs m) bs) →
        IsUtf8 (take (cond t (suc m) (valid_len_up_to bs m)) bs)
    by true e below = IsUtf8-from_is_utf8 _ e
    by false e below = below

longest_up_to : (bs : List ℕ) (m k : ℕ) → valid_len_up_to bs m < k → k ≤ m → IsUtf8 (take k bs) → ⊥
longest_up_to bs zero k lt le u = absurd (omega arith)
longest_up_to bs (suc m) k lt le u = by (is_utf8 (take (suc m) bs)) refl lt (cases_lt k (suc m)) (λ l below. longest_up_to bs m k l below u)
  where
    by : (t : Bool) → is_utf8 (take (suc m) bs) ≡ t → cond t (suc m) (valid_len_up_to bs m) < k → (k < suc m) ⊎ (suc m ≤ k) →
        (valid_len_up_to bs m < k → k ≤ m → ⊥) → ⊥
    by true e l w h = omega arith
    by false e l (inl w) h = h l (omega arith)
    by false e l (inr w) h =
        let same : k ≡ suc m = omega arith in
        let t : true ≡ false = sym (is_utf8-from_IsUtf8 _ (subst (λ (n : ℕ). IsUtf8 (take n bs)) same u)) ∙ e in
        absurd cc

pub well_front : (bs : List ℕ) → IsUtf8 (take (utf8_valid_len bs) bs)
unfolding utf8_valid_len
well_front bs = front_up_to bs (length bs)

-- no character begins these bytes
abbrev pub NoChar : List ℕ → Type 0
NoChar r = (w : ℕ) → 0 < w → w ≤ length r → IsUtf8 (take w r) → ⊥

pub rest_has_none : (bs : List ℕ) → utf8_valid_len bs ≤ length bs → NoChar (drop (utf8_valid_len bs) bs)
unfolding utf8_valid_len
rest_has_none bs within w some le u =
    let good = valid_len_up_to bs (length bs) in
    let len = length-drop good bs in
    longest_up_to bs (length bs) (good + w) (omega arith) (omega (arith, len))
    (subst IsUtf8 (sym (take-add good w bs)) (IsUtf8-append (take good bs) (take w (drop good bs)) (front_up_to bs (length bs)) u))

-- ---- the second byte of a character

record Second (x y : ℕ) : Type 0 where
  pub low : 128 ≤ y
  pub high : y ≤ 191
  pub e0 : x ≡ 0xE0 → 0xA0 ≤ y
  pub f0 : x ≡ 0xF0 → 0x90 ≤ y
  pub ed : x ≡ 0xED → y ≤ 0x9F
  pub f4 : x ≡ 0xF4 → y ≤ 0x8F

second_is : (x y : ℕ) → is_in_range (second_byte_min x) (second_byte_max x) y ≡ true → Second x y
second_is x y e = record {
  low = grind arith;
  high = grind arith;
  e0 = λ s. grind arith;
  f0 = λ s. grind arith;
  ed = λ s. grind arith;
  f4 = λ s. grind arith;
}

second_in : (x y : ℕ) → Second x y → is_in_range (second_byte_min x) (second_byte_max x) y ≡ true
second_in x y s =
    let low = s.low in
    let high = s.high in
    let e0 = s.e0 in
    let f0 = s.f0 in
    let ed = s.ed in
    let f4 = s.f4 in
    grind arith

in_is : (lo hi x : ℕ) → is_in_range lo hi x ≡ true → (lo ≤ x) × (x ≤ hi)
in_is lo hi x e = (grind arith, grind arith)

is_in : (lo hi x : ℕ) → lo ≤ x → x ≤ hi → is_in_range lo hi x ≡ true
is_in lo hi x l h = grind arith

-- where a test has to hold for there to be no error
passes : (b : Bool) (x : Option ℕ) (k : ℕ) → cond b x (Some k) ≡ None → (b ≡ true) × (x ≡ None)
passes true x k e = (refl, e)
passes false x k e = absurd cc

-- ---- bytes with no error may be ended

abbrev Ends : List ℕ → Type 0
Ends r = (d : List ℕ) × IsUtf8 (r ++ d) × (length (r ++ d) ≡ sequence_len r)

three_ok : (x y z : ℕ) → 224 ≤ x → x < 240 → Second x y → Follows z → IsUtf8 (x ∷ y ∷ z ∷ [])
three_ok x y z l h s f =
    let low = s.low in
    let high = s.high in
    let e0 = s.e0 in
    let ed = s.ed in
    of_three (x ∷ y ∷ z ∷ []) 0 (omega arith) (l, h) (omega arith, omega arith) f (three_least x y z l h s) (three_gap x y z l h s f)
  where
    three_least : (x y z : ℕ) → 224 ≤ x → x < 240 → Second x y → 2048 ≤ (x - 224) * 4096 + (y - 128) * 64 + (z - 128)
    three_least x y z l h s = by (cases_lt x 225)
      where
        by : (x < 225) ⊎ (225 ≤ x) → 2048 ≤ (x - 224) * 4096 + (y - 128) * 64 + (z - 128)
        by (inl lt) = let e : x ≡ 0xE0 = omega arith in let t = s.e0 e in omega arith
        by (inr le) = omega arith

    three_gap : (x y z : ℕ) → 224 ≤ x → x < 240 → Second x y → Follows z → let c = (x - 224) * 4096 + (y - 128) * 64 + (z - 128) in
        (c < 55296) ⊎ (57344 ≤ c)
    three_gap x y z l h s f = by (cases_lt x 0xED) (cases_lt x 0xEE)
      where
        by : (x < 0xED) ⊎ (0xED ≤ x) → (x < 0xEE) ⊎ (0xEE ≤ x) → let c = (x - 224) * 4096 + (y - 128) * 64 + (z - 128) in
            (c < 55296) ⊎ (57344 ≤ c)
        by (inl lt) w = let a = s.high in let b = s.low in inl (omega arith)
        by (inr le) (inl lt) = let e : x ≡ 0xED = omega arith in let t = s.ed e in let b = s.low in inl (omega arith)
        by (inr le) (inr w) = inr (omega arith)

four_ok : (x y z w : ℕ) → 240 ≤ x → x ≤ 244 → Second x y → Follows z → Follows w → IsUtf8 (x ∷ y ∷ z ∷ w ∷ [])
four_ok x y z w l h s f g =
    let low = s.low in
    let high = s.high in
    of_four (x ∷ y ∷ z ∷ w ∷ []) 0 (omega arith) l (omega arith, omega arith) f g (least (cases_lt x 241), most (cases_lt x 244))
  where
    least : (x < 241) ⊎ (241 ≤ x) → 16 ≤ (x - 240) * 64 + (y - 128)
    least (inl lt) = let e : x ≡ 0xF0 = omega arith in let t = s.f0 e in omega arith
    least (inr le) = omega arith

    most : (x < 244) ⊎ (244 ≤ x) → (x - 240) * 64 + (y - 128) < 272
    most (inl lt) = let a = s.high in omega arith
    most (inr le) = let e : x ≡ 0xF4 = omega arith in let t = s.f4 e in omega arith

two_ok : (x y : ℕ) → 194 ≤ x → x < 224 → Follows y → IsUtf8 (x ∷ y ∷ [])
two_ok x y l h f = of_two (x ∷ y ∷ []) 0 (omega arith) (l, h) f

after_128 : Follows 128
after_128 = (omega arith, omega arith)

-- a second byte that may stand behind each first byte
any_second : (x : ℕ) → (y : ℕ) × Second x y
any_second x = by (cases_lt x 0xE1) (cases_lt x 0xE0) (cases_lt x 0xF1) (cases_lt x 0xF0)
  where
    by : (x < 0xE1) ⊎ (0xE1 ≤ x) → (x < 0xE0) ⊎ (0xE0 ≤ x) → (x < 0xF1) ⊎ (0xF1 ≤ x) → (x < 0xF0) ⊎ (0xF0 ≤ x) → (y : ℕ) × Second x y
    by (inl a) (inr b) c d = (
      0xA0,
      record {
        low = omega arith;
        high = omega arith;
        e0 = λ _. omega arith;
        f0 = λ _. omega arith;
        ed = λ e. absurd (omega arith);
        f4 = λ e. absurd (omega arith);
      },
    )
    by _ _ (inl c) (inr d) = (
      0x90,
      record {
        low = omega arith;
        high = omega arith;
        e0 = λ e. absurd (omega arith);
        f0 = λ _. omega arith;
        ed = λ _. omega arith;
        f4 = λ e. absurd (omega arith);
      },
    )
    by (inr a) b (inr c) d = (
      128,
      record {
        low = omega arith;
        high = omega arith;
        e0 = λ e. absurd (omega arith);
        f0 = λ e. absurd (omega arith);
        ed = λ _. omega arith;
        f4 = λ _. omega arith;
      },
    )
    by (inr a) b (inl c) (inl d) = (
      128,
      record {
        low = omega arith;
        high = omega arith;
        e0 = λ e. absurd (omega arith);
        f0 = λ e. absurd (omega arith);
        ed = λ _. omega arith;
        f4 = λ _. omega arith;
      },
    )
    by (inl a) (inl b) c d = (
      128,
      record {
        low = omega arith;
        high = omega arith;
        e0 = λ e. absurd (omega arith);
        f0 = λ e. absurd (omega arith);
        ed = λ _. omega arith;
        f4 = λ _. omega arith;
      },
    )

-- how long a sequence is, by its first byte
long : (x : ℕ) (r : List ℕ) (k : ℕ) → (128 ≤ x → x < 224 → k ≡ 2) → (224 ≤ x → x < 240 → k ≡ 3) → (240 ≤ x → k ≡ 4) → 128 ≤ x →
    k ≡ sequence_len (x ∷ r)
long x r k two three four le = grind arith

one_ends : (x : ℕ) → 194 ≤ x → x ≤ 244 → Ends (x ∷ [])
one_ends x l h = by (cases_lt x 224) (cases_lt x 240)
  where
    s : (y : ℕ) × Second x y
    s = any_second x

    by : (x < 224) ⊎ (224 ≤ x) → (x < 240) ⊎ (240 ≤ x) → Ends (x ∷ [])
    by (inl a) _ = (
      128 ∷ [],
      two_ok x 128 l a after_128,
      long x [] 2 (λ _ _. refl) (λ p q. absurd (omega arith)) (λ p. absurd (omega arith)) (omega arith),
    )
    by (inr a) (inl b) = (
      s.0 ∷ 128 ∷ [],
      three_ok x s.0 128 a b s.1 after_128,
      long x [] 3 (λ p q. absurd (omega arith)) (λ _ _. refl) (λ p. absurd (omega arith)) (omega arith),
    )
    by (inr a) (inr b) = (
      s.0 ∷ 128 ∷ 128 ∷ [],
      four_ok x s.0 128 128 b h s.1 after_128 after_128,
      long x [] 4 (λ p q. absurd (omega arith)) (λ p q. absurd (omega arith)) (λ _. refl) (omega arith),
    )

two_ends : (x y : ℕ) → 194 ≤ x → x ≤ 244 → Second x y → NoChar (x ∷ y ∷ []) → Ends (x ∷ y ∷ [])
two_ends x y l h s none = by (cases_lt x 224) (cases_lt x 240)
  where
    by : (x < 224) ⊎ (224 ≤ x) → (x < 240) ⊎ (240 ≤ x) → Ends (x ∷ y ∷ [])
    by (inl a) _ = let low = s.low in let high = s.high in
        absurd (none 2 (omega arith) (omega arith) (two_ok x y l a (omega arith, omega arith)))
    by (inr a) (inl b) = (
      128 ∷ [],
      three_ok x y 128 a b s after_128,
      long x (y ∷ []) 3 (λ p q. absurd (omega arith)) (λ _ _. refl) (λ p. absurd (omega arith)) (omega arith),
    )
    by (inr a) (inr b) = (
      128 ∷ 128 ∷ [],
      four_ok x y 128 128 b h s after_128 after_128,
      long x (y ∷ []) 4 (λ p q. absurd (omega arith)) (λ p q. absurd (omega arith)) (λ _. refl) (omega arith),
    )

three_ends : (x y z : ℕ) → 194 ≤ x → x ≤ 244 → Second x y → Follows z → NoChar (x ∷ y ∷ z ∷ []) → Ends (x ∷ y ∷ z ∷ [])
three_ends x y z l h s f none = by (cases_lt x 224) (cases_lt x 240)
  where
    by : (x < 224) ⊎ (224 ≤ x) → (x < 240) ⊎ (240 ≤ x) → Ends (x ∷ y ∷ z ∷ [])
    by (inl a) _ = let low = s.low in let high = s.high in
        absurd (none 2 (omega arith) (omega arith) (two_ok x y l a (omega arith, omega arith)))
    by (inr a) (inl b) = absurd (none 3 (omega arith) (omega arith) (three_ok x y z a b s f))
    by (inr a) (inr b) = (
      128 ∷ [],
      four_ok x y z 128 b h s f after_128,
      long x (y ∷ z ∷ []) 4 (λ p q. absurd (omega arith)) (λ p q. absurd (omega arith)) (λ _. refl) (omega arith),
    )

errs : (a b c : Bool) → cond {A = Option ℕ} a (cond b (cond c (Some 3) (Some 2)) (Some 1)) (Some 1) ≡ None → ⊥
errs false b c e = cc
errs true false c e = cc
errs true true false e = cc
errs true true true e = cc

pub may_end : (r : List ℕ) → 0 < length r → utf8_error_len r ≡ None → NoChar r → Ends r
unfolding utf8_error_len
may_end [] some e none = absurd (omega arith)
may_end (x ∷ []) some e none =
    let p = passes (is_in_range 0xC2 0xF4 x) None 1 e in
    let q = in_is 0xC2 0xF4 x p.0 in
    one_ends x q.0 q.1
may_end (x ∷ y ∷ []) some e none =
    let p = passes (is_in_range 0xC2 0xF4 x) (cond (is_in_range (second_byte_min x) (second_byte_max x) y) None (Some 1)) 1 e in
    let q = in_is 0xC2 0xF4 x p.0 in
    let t = passes (is_in_range (second_byte_min x) (second_byte_max x) y) None 1 p.1 in
    two_ends x y q.0 q.1 (second_is x y t.0) none
may_end (x ∷ y ∷ z ∷ []) some e none =
    let last : Option ℕ = cond (is_in_range 0x80 0xBF z) None (Some 2) in
    let p = passes (is_in_range 0xC2 0xF4 x) (cond (is_in_range (second_byte_min x) (second_byte_max x) y) last (Some 1)) 1 e in
    let q = in_is 0xC2 0xF4 x p.0 in
    let t = passes (is_in_range (second_byte_min x) (second_byte_max x) y) last 1 p.1 in
    let v = passes (is_in_range 0x80 0xBF z) None 2 t.1 in
    let f = in_is 0x80 0xBF z v.0 in
    three_ends x y z q.0 q.1 (second_is x y t.0) (omega arith, omega arith) none
may_end (x ∷ y ∷ z ∷ w ∷ r) some e none =
    let l0 : eqb (suc (suc (suc (suc (length r))))) 0 ≡ false = grind arith in
    let l2 : ltb (suc (suc (suc (suc (length r))))) 2 ≡ false = le-ltb _ _ (omega arith) in
    let l3 : ltb (suc (suc (suc (suc (length r))))) 3 ≡ false = le-ltb _ _ (omega arith) in
    let l4 : ltb (suc (suc (suc (suc (length r))))) 4 ≡ false = le-ltb _ _ (omega arith) in
    absurd (errs (is_in_range 0xC2 0xF4 x) (is_in_range (second_byte_min x) (second_byte_max x) y) (is_in_range 0x80 0xBF z)
    (rw (l0, l2, l3, l4) at e))

-- ---- bytes with an error begin no text, nor do those with too little room

lead : (n x y z w : ℕ) → Ranged n x y z w → 128 ≤ x → (194 ≤ x) × (x ≤ 244)
lead n x y z w r le = ((r.second le).0, by (cases_lt x 240))
  where
    by : (x < 240) ⊎ (240 ≤ x) → x ≤ 244
    by (inl lt) = omega arith
    by (inr a) = let high = (r.fourth a).2.1 in omega arith

second_ranged : (n x y z w : ℕ) → Ranged n x y z w → 224 ≤ x → Second x y
second_ranged n x y z w r le =
    let f = (r.second (omega arith)).2 in
    record {
      low = f.0;
      high = omega arith;
      e0 = λ e. let t = r.in_three (omega arith) (omega arith) in let least = t.0 in omega arith;
      f0 = λ e. let t = r.fourth (omega arith) in let least = t.2.0 in omega arith;
      ed = λ e. let t = r.in_three (omega arith) (omega arith) in gap e t.1;
      f4 = λ e. let t = r.fourth (omega arith) in let most = t.2.1 in omega arith;
    }
  where
    gap : x ≡ 0xED → (((x - 224) * 64 + (y - 128) < 864) ⊎ (896 ≤ (x - 224) * 64 + (y - 128))) → y ≤ 0x9F
    gap e (inl lt) = omega arith
    gap e (inr ge) = let f = (r.second (omega arith)).2.1 in absurd (omega arith)

room : (n x y z w : ℕ) (rest : List ℕ) → Ranged n x y z w → 128 ≤ x → sequence_len (x ∷ rest) ≤ n
room n x y z w rest r le =
    let two = (r.second le).1 in
    by (cases_lt x 224) (cases_lt x 240)
  where
    by : (x < 224) ⊎ (224 ≤ x) → (x < 240) ⊎ (240 ≤ x) → sequence_len (x ∷ rest) ≤ n
    by (inl a) _ = let e : 2 ≡ sequence_len (x ∷ rest) =
        long x rest 2 (λ _ _. refl) (λ p q. absurd (omega arith)) (λ p. absurd (omega arith)) le in let k = (r.second le).1 in omega arith
    by (inr a) (inl b) = let e : 3 ≡ sequence_len (x ∷ rest) =
        long x rest 3 (λ p q. absurd (omega arith)) (λ _ _. refl) (λ p. absurd (omega arith)) le in let k = (r.third a).0 in omega arith
    by (inr a) (inr b) = let e : 4 ≡ sequence_len (x ∷ rest) =
        long x rest 4 (λ p q. absurd (omega arith)) (λ p q. absurd (omega arith)) (λ _. refl) le in let k = (r.fourth b).0 in omega arith

-- a first byte is no ASCII, since no character begins these bytes
no_ascii : (x : ℕ) (rest : List ℕ) → NoChar (x ∷ rest) → 128 ≤ x
no_ascii x rest none = by (cases_lt x 128)
  where
    by : (x < 128) ⊎ (128 ≤ x) → 128 ≤ x
    by (inl lt) = absurd (none 1 (omega arith) (omega arith) (of_one (x ∷ rest) 0 (omega arith) lt))
    by (inr le) = le

abbrev Whole : ℕ → List ℕ → Type 0
Whole n r = (utf8_error_len r ≡ None) × (sequence_len r ≤ n)

wide_lead : (n x y : ℕ) (z w : ℕ) (rest : List ℕ) → Ranged n x y z w → NoChar (x ∷ y ∷ rest) → 224 ≤ x
wide_lead n x y z w rest r none = by (cases_lt x 224)
  where
    by : (x < 224) ⊎ (224 ≤ x) → 224 ≤ x
    by (inl lt) =
        let le = no_ascii x (y ∷ rest) none in
        absurd (none 2 (omega arith) (omega arith) (of_two (x ∷ y ∷ rest) 0 (omega arith) ((r.second le).0, lt) (r.second le).2))
    by (inr le) = le

widest_lead : (n x y z w : ℕ) (rest : List ℕ) → Ranged n x y z w → NoChar (x ∷ y ∷ z ∷ rest) → 240 ≤ x
widest_lead n x y z w rest r none = by (cases_lt x 240)
  where
    l : 224 ≤ x
    l = wide_lead n x y z w (z ∷ rest) r none

    by : (x < 240) ⊎ (240 ≤ x) → 240 ≤ x
    by (inl lt) = absurd (none 3 (omega arith) (omega arith) (three_ok x y z l lt (second_ranged n x y z w r l) (r.third l).1))
    by (inr le) = le

may_one : (n x y z w : ℕ) → Ranged n x y z w → NoChar (x ∷ []) → Whole n (x ∷ [])
unfolding utf8_error_len
may_one n x y z w r none =
    let le = no_ascii x [] none in
    let l = lead n x y z w r le in
    (rw (is_in 0xC2 0xF4 x l.0 l.1) refl, room n x y z w [] r le)

may_two : (n x y z w : ℕ) → Ranged n x y z w → NoChar (x ∷ y ∷ []) → Whole n (x ∷ y ∷ [])
unfolding utf8_error_len
may_two n x y z w r none =
    let le = no_ascii x (y ∷ []) none in
    let l = lead n x y z w r le in
    let s = second_ranged n x y z w r (wide_lead n x y z w [] r none) in
    (rw (is_in 0xC2 0xF4 x l.0 l.1, second_in x y s) refl, room n x y z w (y ∷ []) r le)

may_three : (n x y z w : ℕ) → Ranged n x y z w → NoChar (x ∷ y ∷ z ∷ []) → Whole n (x ∷ y ∷ z ∷ [])
unfolding utf8_error_len
may_three n x y z w r none =
    let le = no_ascii x (y ∷ z ∷ []) none in
    let l = lead n x y z w r le in
    let wide = wide_lead n x y z w (z ∷ []) r none in
    let s = second_ranged n x y z w r wide in
    let f = (r.third wide).1 in
    let g : is_in_range 0x80 0xBF z ≡ true = is_in 0x80 0xBF z f.0 (omega arith) in
    (rw (is_in 0xC2 0xF4 x l.0 l.1, second_in x y s, g) refl, room n x y z w (y ∷ z ∷ []) r le)

may_four : (n x y z w : ℕ) (rest : List ℕ) → Ranged n x y z w → NoChar (x ∷ y ∷ z ∷ w ∷ rest) → ⊥
may_four n x y z w rest r none =
    let a = widest_lead n x y z w (w ∷ rest) r none in
    let l = lead n x y z w r (no_ascii x (y ∷ z ∷ w ∷ rest) none) in
    none 4 (omega arith) (omega arith) (four_ok x y z w a l.1 (second_ranged n x y z w r (omega arith)) (r.third (omega arith)).1
    (r.fourth a).1)

ranged_may : (r d : List ℕ) (n : ℕ) → 0 < length r → NoChar r →
    Ranged n (get_or (r ++ d) 0 0) (get_or (r ++ d) 1 0) (get_or (r ++ d) 2 0) (get_or (r ++ d) 3 0) → Whole n r
ranged_may [] d n some none rg = absurd (omega arith)
ranged_may (x ∷ []) d n some none rg = may_one n x _ _ _ rg none
ranged_may (x ∷ y ∷ []) d n some none rg = may_two n x y _ _ rg none
ranged_may (x ∷ y ∷ z ∷ []) d n some none rg = may_three n x y z _ rg none
ranged_may (x ∷ y ∷ z ∷ w ∷ rest) d n some none rg = absurd (may_four n x y z w rest rg none)

-- bytes that no character begins, and that are UTF-8 with what follows, have no error, and room for their sequence
pub must_end : (r d : List ℕ) → 0 < length r → NoChar r → IsUtf8 (r ++ d) → (Whole (length (r ++ d)) r → ⊥) → ⊥
must_end r d some none u k =
    let len = length-append r d in
    let size : length (r ++ d) - 0 ≡ length (r ++ d) = omega arith in
    no_text (r ++ d) []
    (rw (append-nil (r ++ d)) (no_char (r ++ d) 0
    (λ rg. k (ranged_may r d (length (r ++ d)) some none
    (subst (λ (m : ℕ). Ranged m (get_or (r ++ d) 0 0) (get_or (r ++ d) 1 0) (get_or (r ++ d) 2 0) (get_or (r ++ d) 3 0)) size rg)))))
    u (omega arith)

-- Where numbers, sizes, texts and bytes stop.
use Rattle.std.proofs.Common.{◌≡◌, ◌⊎◌, inl, inr, ℕ, zero, suc, ◌+◌, ◌-◌, ◌^◌, ◌<◌, ◌≤◌, Bool, true, false, cond, ◌||◌, eqb, List}
use Rattle.std.proofs.Common.{[], ◌∷◌, ◌++◌, length, get_or, take, drop, Result, Ok, Err, None, Option, Some, refl, sym, ap, subst}
use Rattle.std.proofs.Common.{◌∙◌, append_assoc, append-nil, take_at, drop_at, arith}
use Rattle.std.specs.Prelude.{IsUtf8, is_some, nat_lt}
use Rattle.std.specs.Int.{Width, w8, w16, w32, byte_len, from_be_bytes, to_be_bytes}
use Rattle.std.specs.Str.Lossy.{utf8_valid_len, utf8_error_len}
use Rattle.std.proofs.lemmas.Str.{IsUtf8-append, IsUtf8-from_ascii, utf8_valid_len_le, utf8_valid_len-IsUtf8}
use Rattle.std.proofs.lemmas.Bool.{ltb-false, eqb-true}
use Rattle.std.proofs.lemmas.List.{length-append, length-take, length-drop, take-append-drop}
use borrow.Author.Tests.{ltb-true, eq-eqb}
use Rattle.ncc_pack.specs.declared.error.PackError.{PackError}
use Rattle.ncc_pack.specs.declared.error.PackError.TheVariants.{Short, TooLong, BadUtf8}
use Rattle.ncc_pack.specs.declared.mark.Size.{Size}
use Rattle.ncc_pack.specs.declared.mark.Size.TheVariants.{Here, One, Two, Four}
use Rattle.ncc_pack.specs.Limits.{max_size}
use Rattle.ncc_pack.specs.Reading.{◌>>=◌, Read, number_at, size_at, bytes_at, text_at, cut_text, sequence_len}
use Rattle.ncc_pack.specs.Spells.{Kind, bytes_mark, IsWide, IsHead}
use Rattle.ncc_pack.specs.Spells as s
use Rattle.ncc_pack.proofs.Fields.{IsBytes, bind_ok, ok_is, Wide, wide8, wide16, wide32, number_takes, number_again}
use Rattle.ncc_pack.proofs.Marks.{WideSays, SizeSays}
use Rattle.std.proofs.iter.FirstChar.{after_text}
use Rattle.std.proofs.str.Valid.{of_one}
use Rattle.ncc_pack.proofs.Texts.{is_whole, no_error}
use Rattle.ncc_pack.proofs.Taken.{guard_err, guard_then, size_taken, wide_taken, Takes}
use Rattle.ncc_pack.proofs.Spelled.{four_again}
use Rattle.ncc_pack.proofs.Sequences.{NoChar, well_front, rest_has_none, may_end, must_end}
use Rattle.ncc_pack.proofs.Faults.{Open, InText, Reader, NeverOk, Fault, letter, passed, short_fault, marker_fault, split}

-- ---- zeros, with which bytes are filled up

pub zeros : ℕ → List ℕ
zeros zero = []
zeros (suc n) = 0 ∷ zeros n

zeros_len : (n : ℕ) → length (zeros n) ≡ n
unfolding zeros
zeros_len zero = refl
zeros_len (suc n) = ap suc (zeros_len n)

zeros_small : (n i : ℕ) → get_or (zeros n) i 0 < 128
unfolding zeros
zeros_small zero i = omega arith
zeros_small (suc n) zero = omega arith
zeros_small (suc n) (suc i) = zeros_small n i

zeros_bytes : (n : ℕ) → IsBytes (zeros n)
zeros_bytes n i = let lt = zeros_small n i in omega arith

all_bytes : (xs ys : List ℕ) → IsBytes xs → IsBytes ys → IsBytes (xs ++ ys)
all_bytes [] ys p q = q
all_bytes (x ∷ xs) ys p q = by (all_bytes xs ys (λ j. p (suc j)) q)
  where
    by : ((i : ℕ) → get_or (xs ++ ys) i 0 < 256) → (i : ℕ) → get_or (x ∷ (xs ++ ys)) i 0 < 256
    by more zero = p 0
    by more (suc i) = more i

filled : (xs : List ℕ) (n : ℕ) → length xs ≤ n → length (xs ++ zeros (n - length xs)) ≡ n
filled xs n le = let e = zeros_len (n - length xs) in omega (arith, length-append xs (zeros (n - length xs)))

-- ---- numbers

guard_short : {A : Type 0} (b : Bool) (x : A) (err : PackError) → cond b (Err Short) (Ok x) ≡ Err err → (b ≡ true) × (err ≡ Short)
guard_short true x err e = (refl, cc)
guard_short false x err e = absurd cc

pub number_stop : (w : Width) (bytes : List ℕ) (err : PackError) → number_at w bytes ≡ Err err → (err ≡ Short) × (length bytes < byte_len w)
number_stop w bytes err e =
    let g = guard_short (nat_lt (length bytes) (byte_len w)) (from_be_bytes w (take (byte_len w) bytes), drop (byte_len w) bytes) err e in
    (g.1, ltb-true _ _ g.0)

abbrev Filled : Width → ℕ → List ℕ → Type 0
Filled w limit bytes = (n : ℕ) × (to_be_bytes w n ≡ bytes ++ zeros (byte_len w - length bytes)) × (n < limit)
    × (n ≡ from_be_bytes w (bytes ++ zeros (byte_len w - length bytes)))

pub number_open : (w : Width) (limit : ℕ) → Wide w limit → (bytes : List ℕ) → IsBytes bytes → length bytes < byte_len w →
    Filled w limit bytes
number_open w limit wide bytes fits lt =
    let z = zeros (byte_len w - length bytes) in
    let whole = all_bytes bytes z fits (zeros_bytes (byte_len w - length bytes)) in (
      from_be_bytes w (bytes ++ z),
      wide.back (bytes ++ z) (filled bytes (byte_len w) (omega arith)) whole,
      wide.below (bytes ++ z) whole,
      refl,
    )

-- ---- sizes

-- why a size was not read: the bytes end, or so far they pass the limit
abbrev pub SizeStop : (ℕ → List ℕ → Type 0) → ℕ → Size → List ℕ → ℕ → PackError → Type 0
SizeStop Head m size bytes at err =
    ((err ≡ Short) × Open Head (m ∷ bytes))
    ⊎ ((err ≡ TooLong at) × ((more : List ℕ) × (rest : List ℕ) × (bytes ≡ more ++ rest) × (length more ≤ 4)
    × ((place : ℕ) (c : List ℕ) (y : ℕ × List ℕ) → size_at place size (more ++ c) ≡ Ok y → ⊥)))

padded : List ℕ → ℕ
padded bytes = from_be_bytes w32 (take 4 (bytes ++ 0 ∷ 0 ∷ 0 ∷ 0 ∷ []))

pad_grows : (bytes c : List ℕ) → padded bytes ≤ padded (take 4 bytes ++ c)
unfolding padded
pad_grows [] c = omega arith
pad_grows (x ∷ []) c = omega arith
pad_grows (x ∷ y ∷ []) c = omega arith
pad_grows (x ∷ y ∷ z ∷ []) c = omega arith
pad_grows (x ∷ y ∷ z ∷ w ∷ bytes) c = omega arith

pad_is : (bytes : List ℕ) → length bytes < 4 → take 4 (bytes ++ 0 ∷ 0 ∷ 0 ∷ 0 ∷ []) ≡ bytes ++ zeros (4 - length bytes)
unfolding zeros
pad_is [] lt = refl
pad_is (x ∷ []) lt = refl
pad_is (x ∷ y ∷ []) lt = refl
pad_is (x ∷ y ∷ z ∷ []) lt = refl
pad_is (x ∷ y ∷ z ∷ w ∷ bytes) lt = absurd (omega arith)

too_long : (b : Bool) (d : PackError) (r : Read ℕ) (err : PackError) → cond b (Err d) r ≡ Err err → ((b ≡ true) × (err ≡ d))
    ⊎ ((b ≡ false) × (r ≡ Err err))
too_long true d r err e = inl (refl, cc)
too_long false d r err e = inr (refl, e)

never_long : (at : ℕ) (z : List ℕ) (y : ℕ × List ℕ) → max_size < padded z → size_at at Four z ≡ Ok y → ⊥
unfolding size_at padded
never_long at z y lt e =
    let g = guard_err (nat_lt max_size (from_be_bytes w32 (take 4 (z ++ 0 ∷ 0 ∷ 0 ∷ 0 ∷ [])))) (TooLong at) (number_at w32 z) y e in
    let le = ltb-false max_size (padded z) g.0 in
    omega arith

four_stop : (mark m at : ℕ) (bytes : List ℕ) (err : PackError) → m ≡ mark + 2 → IsBytes bytes → size_at at Four bytes ≡ Err err →
    SizeStop (IsWide mark) m Four bytes at err
unfolding size_at padded
four_stop mark m at bytes err says fits e = by (too_long (nat_lt max_size (padded bytes)) (TooLong at) (number_at w32 bytes) err e)
  where
    by : ((nat_lt max_size (padded bytes) ≡ true) × (err ≡ TooLong at))
        ⊎ ((nat_lt max_size (padded bytes) ≡ false) × (number_at w32 bytes ≡ Err err)) → SizeStop (IsWide mark) m Four bytes at err
    by (inl l) =
        let big = ltb-true max_size (padded bytes) l.0 in
        inr (
          l.1,
          (
            take 4 bytes,
            drop 4 bytes,
            sym (take-append-drop 4 bytes),
            omega (arith, length-take 4 bytes),
            λ place c y o. let grows = pad_grows bytes c in never_long place (take 4 bytes ++ c) y (omega arith) o,
          ),
        )
    by (inr r) =
        let stop = number_stop w32 bytes err r.1 in
        let n = number_open w32 (2 ^ 32) wide32 bytes fits stop.1 in
        let same : n.0 ≡ padded bytes = n.3 ∙ ap (from_be_bytes w32) (sym (pad_is bytes stop.1)) in
        let least = ltb-false max_size (padded bytes) r.0 in
        let le : n.0 ≤ max_size = omega arith in
        inl (
          stop.0,
          (
            zeros (4 - length bytes),
            n.0,
            subst (λ (z : List ℕ). IsWide mark n.0 (m ∷ z)) n.1 (subst (λ (k : ℕ). IsWide mark n.0 (k ∷ to_be_bytes w32 n.0))
                (sym says) (s.four le)),
          ),
        )

small_stop : (mark m at : ℕ) (w : Width) (limit : ℕ) → Wide w limit → (bytes : List ℕ) (err : PackError) (size : Size) →
    ((n : ℕ) → n < limit → IsWide mark n (m ∷ to_be_bytes w n))
    → IsBytes bytes → number_at w bytes ≡ Err err → SizeStop (IsWide mark) m size bytes at err
small_stop mark m at w limit wide bytes err size is fits e =
    let stop = number_stop w bytes err e in
    let n = number_open w limit wide bytes fits stop.1 in
    inl (stop.0, (zeros (byte_len w - length bytes), n.0, subst (λ (z : List ℕ). IsWide mark n.0 (m ∷ z)) n.1 (is n.0 n.2)))

wide_stop : (mark m at : ℕ) (size : Size) (bytes : List ℕ) (err : PackError) → WideSays mark m size → IsBytes bytes →
    size_at at size bytes ≡ Err err → SizeStop (IsWide mark) m size bytes at err
unfolding size_at
wide_stop mark m at (Here n) bytes err says fits e = absurd says
wide_stop mark m at One bytes err says fits e =
    small_stop mark m at w8 (2 ^ 8) wide8 bytes err One (λ n lt. subst (λ (k : ℕ). IsWide mark n (k ∷ to_be_bytes w8 n)) (sym says)
    (s.one lt)) fits e
wide_stop mark m at Two bytes err says fits e =
    small_stop mark m at w16 (2 ^ 16) wide16 bytes err Two (λ n lt. subst (λ (k : ℕ). IsWide mark n (k ∷ to_be_bytes w16 n))
    (sym says) (s.two lt)) fits e
wide_stop mark m at Four bytes err says fits e = four_stop mark m at bytes err says fits e

headed : (kind : Kind) (m at : ℕ) (size : Size) (bytes : List ℕ) (err : PackError) →
    SizeStop (IsWide kind.wide) m size bytes at err → SizeStop (IsHead kind) m size bytes at err
headed kind m at size bytes err (inl l) = inl (l.0, (l.1.0, l.1.1, s.wide _ l.1.2))
headed kind m at size bytes err (inr r) = inr r

head_stop : (kind : Kind) (m at : ℕ) (size : Size) (bytes : List ℕ) (err : PackError) → SizeSays kind m size → IsBytes bytes →
    size_at at size bytes ≡ Err err → SizeStop (IsHead kind) m size bytes at err
unfolding size_at
head_stop kind m at (Here n) bytes err says fits e = absurd cc
head_stop kind m at One bytes err says fits e = headed kind m at One bytes err (wide_stop kind.wide m at One bytes err says fits e)
head_stop kind m at Two bytes err says fits e = headed kind m at Two bytes err (wide_stop kind.wide m at Two bytes err says fits e)
head_stop kind m at Four bytes err says fits e = headed kind m at Four bytes err (wide_stop kind.wide m at Four bytes err says fits e)

-- a size that was read is read whatever follows
abbrev Stays : Size → List ℕ → ℕ → List ℕ → Type 0
Stays size bytes n rest = (more : List ℕ) × (bytes ≡ more ++ rest) × ((place : ℕ) (z : List ℕ) → size_at place size (more ++ z) ≡ Ok (n, z))

number_stays : (w : Width) (limit : ℕ) (wide : Wide w limit) (bytes : List ℕ) (n : ℕ) (rest : List ℕ) → IsBytes bytes →
    number_at w bytes ≡ Ok (n, rest)
    → (more : List ℕ) × (bytes ≡ more ++ rest) × ((z : List ℕ) → number_at w (more ++ z) ≡ Ok (n, z))
number_stays w limit wide bytes n rest fits e =
    let t = number_takes w limit wide bytes n rest fits e in
    (to_be_bytes w n, t.0.parts, λ z. number_again w limit wide n z t.1)

size_stays : (at : ℕ) (size : Size) (bytes : List ℕ) (n : ℕ) (rest : List ℕ) → IsBytes bytes →
    size_at at size bytes ≡ Ok (n, rest) → Stays size bytes n rest
unfolding size_at
size_stays at (Here k) bytes n rest fits e =
    let same = ok_is (k, bytes) (n, rest) e in
    ([], ap (λ (p : ℕ × List ℕ). p.1) same, λ place z. ap (λ (i : ℕ). okay i z) (ap (λ (p : ℕ × List ℕ). p.0) same))
  where
    okay : ℕ → List ℕ → Read ℕ
    okay i z = Ok (i, z)
size_stays at One bytes n rest fits e = let t = number_stays w8 (2 ^ 8) wide8 bytes n rest fits e in (t.0, t.1, λ place z. t.2 z)
size_stays at Two bytes n rest fits e = let t = number_stays w16 (2 ^ 16) wide16 bytes n rest fits e in (t.0, t.1, λ place z. t.2 z)
size_stays at Four bytes n rest fits e =
    let g = guard_err (nat_lt max_size (from_be_bytes w32 (take 4 (bytes ++ 0 ∷ 0 ∷ 0 ∷ 0 ∷ [])))) (TooLong at)
    (number_at w32 bytes) (n, rest) e in
    let t = number_takes w32 (2 ^ 32) wide32 bytes n rest fits g.1 in
    let same : take 4 (bytes ++ 0 ∷ 0 ∷ 0 ∷ 0 ∷ []) ≡ to_be_bytes w32 n = ap (λ (z : List ℕ). take 4 (z ++ 0 ∷ 0 ∷ 0 ∷ 0 ∷ [])) t.0.parts in
    let value : from_be_bytes w32 (take 4 (bytes ++ 0 ∷ 0 ∷ 0 ∷ 0 ∷ [])) ≡ n = ap (from_be_bytes w32) same ∙ wide32.again n t.1 in
    let le : n ≤ max_size = ltb-false _ _ (ap (λ (z : ℕ). nat_lt max_size z) (sym value) ∙ g.0) in
    (to_be_bytes w32 n, t.0.parts, λ place z. four_again n place z le)

same_front : (a b r : List ℕ) → a ++ r ≡ b ++ r → a ≡ b
same_front a b r e =
    let len : length a ≡ length b = omega (arith, ap length e, length-append a r, length-append b r) in
    sym (take_at a r (length a) refl) ∙ ap (take (length a)) e ∙ take_at b r (length a) (sym len)

-- what a marker and its size are to readers
pub record Heading (m : ℕ) (size : Size) (Head : ℕ → List ℕ → Type 0) : Type 0 where
  pub stop : (at : ℕ) (bytes : List ℕ) (err : PackError) → IsBytes bytes → size_at at size bytes ≡ Err err →
      SizeStop Head m size bytes at err
  pub takes : (at : ℕ) (bytes : List ℕ) (n : ℕ) (rest : List ℕ) → IsBytes bytes → size_at at size bytes ≡ Ok (n, rest)
      → (more : List ℕ) × (bytes ≡ more ++ rest) × Head n (m ∷ more) × IsBytes rest
      × ((place : ℕ) (z : List ℕ) → size_at place size (more ++ z) ≡ Ok (n, z))

joined_head : (Head : ℕ → List ℕ → Type 0) (m : ℕ) (size : Size) (bytes : List ℕ) (n : ℕ) (rest : List ℕ) →
    Takes Head (m ∷ bytes) (n, rest) → Stays size bytes n rest
    → (more : List ℕ) × (bytes ≡ more ++ rest) × Head n (m ∷ more) × IsBytes rest
    × ((place : ℕ) (z : List ℕ) → size_at place size (more ++ z) ≡ Ok (n, z))
joined_head Head m size bytes n rest t st =
    let front : t.front ≡ m ∷ st.0 = same_front t.front (m ∷ st.0) rest (sym t.parts ∙ ap (λ (z : List ℕ). m ∷ z) st.1) in
    (st.0, st.1, subst (Head n) front t.spells, t.rest_fits, st.2)

pub kind_heading : (kind : Kind) (m : ℕ) (size : Size) → SizeSays kind m size → Heading m size (IsHead kind)
kind_heading kind m size says = record {
  stop = λ at bytes err fits e. head_stop kind m at size bytes err says fits e;
  takes = λ at bytes n rest fits e. joined_head (IsHead kind) m size bytes n rest (size_taken kind m at size bytes (
    n,
    rest,
  ) says fits e) (size_stays at size bytes n rest fits e);
}

pub bytes_heading : (m : ℕ) (size : Size) → WideSays bytes_mark m size → Heading m size (IsWide bytes_mark)
bytes_heading m size says = record {
  stop = λ at bytes err fits e. wide_stop bytes_mark m at size bytes err says fits e;
  takes = λ at bytes n rest fits e. joined_head (IsWide bytes_mark) m size bytes n rest (wide_taken bytes_mark m at size bytes (
    n,
    rest,
  ) says fits e) (size_stays at size bytes n rest fits e);
}

-- ---- what begins with a marker and a size

module _ {A : Type 0} (G : PackError → List ℕ → Type 0) (h : Reader A) (K : ℕ → Reader A) (m : ℕ) (size : Size) (Head : ℕ → List ℕ →
    Type 0) (hd : Heading m size Head)
    (is : (all : ℕ) (bytes : List ℕ) → h all (m ∷ bytes) ≡ (size_at (all - length (m ∷ bytes)) size bytes >>= λ n. K n.0 all n.1))
    (none : (at : ℕ) → G (TooLong at) [])
    (cut : (bytes more : List ℕ) (n : ℕ) → Head n ((m ∷ bytes) ++ more) → G Short (m ∷ bytes))
    (GK : ℕ → PackError → List ℕ → Type 0)
    (inner : (n : ℕ) (front : List ℕ) → Head n front → (all : ℕ) (z : List ℕ) (err : PackError) → IsBytes z → K n all z ≡ Err err →
    Fault (GK n) (K n) all z err)
    (inside : (n : ℕ) (front : List ℕ) → Head n front → (err : PackError) (z : List ℕ) → GK n err z → G err (front ++ z)) where
  step : (n : ℕ) (more : List ℕ) → ((place : ℕ) (z : List ℕ) → size_at place size (more ++ z) ≡ Ok (n, z)) →
      (all : ℕ) (z : List ℕ) (y : A × List ℕ) → h all (m ∷ (more ++ z)) ≡ Ok y → K n all z ≡ Ok y
  step n more stays all z y o =
      let place = all - length (m ∷ (more ++ z)) in
      sym (ap (λ (r : Read ℕ). r >>= λ k. K k.0 all k.1) (stays place z)) ∙ sym (is all (more ++ z)) ∙ o

  stopped : (total : ℕ) (bytes : List ℕ) (err : PackError) → SizeStop Head m size bytes (total - length (m ∷ bytes)) err →
      Fault G h total (m ∷ bytes) err
  stopped total bytes err (inl l) = subst (λ (d : PackError). Fault G h total (m ∷ bytes) d) (sym l.0)
      (short_fault G h total (m ∷ bytes) (cut bytes l.1.0 l.1.1 l.1.2))
  stopped total bytes err (inr r) =
      let at = total - length (m ∷ bytes) in
      let l = r.1 in
      let le = l.3 in
      subst (λ (d : PackError). Fault G h total (m ∷ bytes) d) (sym r.0)
      (marker_fault G h total m l.0 l.1 bytes (TooLong at) l.2 tt refl (none at)
      (λ all c y o. let b = bind_ok (size_at (all - length (m ∷ (l.0 ++ c))) size (l.0 ++ c)) (λ n. K n.0 all n.1) y
      (sym (is all (l.0 ++ c)) ∙ o) in l.4 (all - length (m ∷ (l.0 ++ c))) c b.0 b.1)
      (omega arith, omega arith))

  pub sized_fault : (total : ℕ) (bytes : List ℕ) (err : PackError) → IsBytes bytes → h total (m ∷ bytes) ≡ Err err →
      Fault G h total (m ∷ bytes) err
  sized_fault total bytes err fits e = by (split (size_at at size bytes) (λ n. K n.0 total n.1) err (sym (is total bytes) ∙ e))
    where
      at : ℕ
      at = total - length (m ∷ bytes)

      by : (size_at (total - length (m ∷ bytes)) size bytes ≡ Err err)
          ⊎ ((n : ℕ × List ℕ) × (size_at (total - length (m ∷ bytes)) size bytes ≡ Ok n) × (K n.0 total n.1 ≡ Err err)) →
          Fault G h total (m ∷ bytes) err
      by (inl q) = stopped total bytes err (hd.stop (total - length (m ∷ bytes)) bytes err fits q)
      by (inr r) =
          let n = r.0.0 in
          let rest = r.0.1 in
          let t = hd.takes (total - length (m ∷ bytes)) bytes n rest fits r.1 in
          passed (GK n) G (K n) h total (m ∷ t.0) rest (m ∷ bytes) err (ap (λ (z : List ℕ). m ∷ z) t.1) (inside n (m ∷ t.0) t.2 err)
          (λ all z y o. (y, step n t.0 t.4 all z y o)) (inner n (m ∷ t.0) t.2 total rest err t.3 r.2)

-- ---- bytes

abbrev pub HeldOf : ℕ → List ℕ → List ℕ → Type 0
HeldOf n t b = (length t ≡ n) × (b ≡ t)

pub bytes_fill : (n : ℕ) (z : List ℕ) → length z ≤ n → Open (HeldOf n) z
bytes_fill n z le = (zeros (n - length z), z ++ zeros (n - length z), (filled z n le, refl))

pub bytes_fault : (n total : ℕ) (z : List ℕ) (err : PackError) → bytes_at n z ≡ Err err →
    Fault (λ d q. Open (HeldOf n) q) (λ all q. bytes_at n q) total z err
unfolding bytes_at
bytes_fault n total z err e =
    let g = guard_short (nat_lt (length z) n) (take n z, drop n z) err e in
    let lt = ltb-true (length z) n g.0 in
    subst (λ (d : PackError). Fault (λ d q. Open (HeldOf n) q) (λ all q. bytes_at n q) total z d) (sym g.1)
    (short_fault (λ d q. Open (HeldOf n) q) (λ all q. bytes_at n q) total z (bytes_fill n z (omega arith)))

-- ---- texts

abbrev pub TextOf : ℕ → List ℕ → List ℕ → Type 0
TextOf n t b = IsUtf8 t × (length t ≡ n) × (b ≡ t)

abbrev pub TextGoes : ℕ → PackError → List ℕ → Type 0
TextGoes n err z = InText err × Open (TextOf n) z

abbrev pub text_reader : ℕ → Reader (List ℕ)
text_reader n all z = text_at all n z

pub text_fill : (n : ℕ) (z : List ℕ) → IsUtf8 z → length z ≤ n → Open (TextOf n) z
text_fill n z u le =
    let more = zeros (n - length z) in
    (more, z ++ more, (IsUtf8-append z more u (IsUtf8-from_ascii more (zeros_small (n - length z))), filled z n le, refl))

abbrev failed : {A : Type 0} → PackError → Result A PackError
failed d = Err d

pub text_ok : (total n : ℕ) (z : List ℕ) (y : List ℕ × List ℕ) → text_at total n z ≡ Ok y → (n ≤ length z) × IsUtf8 (take n z)
unfolding text_at
text_ok total n z y e =
    let good = utf8_valid_len (take n z) in
    let g = guard_err (nat_lt (length z) n) (cut_text total n z) (cond (eqb good n) (Ok (
      take n z,
      drop n z,
    )) (Err (BadUtf8 (total - (length z - good))))) y e in
    let le : n ≤ length z = ltb-false _ _ g.0 in
    let k = guard_then (eqb good n) (BadUtf8 (total - (length z - good))) (take n z, drop n z) y g.1 in
    let len : length (take n z) ≡ n = omega (arith, length-take n z) in
    (le, is_whole (take n z) (eqb-true good n k.0 ∙ sym len))

letter_well : IsUtf8 letter
letter_well = of_one letter 0 (omega arith) (omega arith)

-- a text with a fault: its good front, and the rest of its bytes
bad_fault : (n total : ℕ) (z front bad rest : List ℕ) → z ≡ front ++ (bad ++ rest) → IsUtf8 front → length front < n →
    0 < length bad → NoChar bad → NeverOk (text_reader n) (front ++ bad)
    → Fault (TextGoes n) (text_reader n) total z (BadUtf8 (total - length (bad ++ rest)))
bad_fault n total z front bad rest parts u lt some none never = record {
  before = front;
  offence = bad;
  after = rest;
  parts = parts;
  place = refl;
  goes_on = (tt, text_fill n front u (omega arith));
  never = λ _. never;
  some = λ _. some;
  shape = (some, none);
  ends = λ e. absurd (let d : BadUtf8 (total - length (bad ++ rest)) ≡ Short = e in cc);
  takes = λ _. (tt, text_fill n (front ++ letter) (IsUtf8-append front letter u letter_well) (omega (arith, length-append front letter)));
}

renamed : (n total : ℕ) (z : List ℕ) (err d : PackError) → err ≡ d → Fault (TextGoes n) (text_reader n) total z d →
    Fault (TextGoes n) (text_reader n) total z err
renamed n total z err d e f = subst (λ (k : PackError). Fault (TextGoes n) (text_reader n) total z k) (sym e) f

placed : (a b total : ℕ) → a ≡ b → BadUtf8 (total - a) ≡ BadUtf8 (total - b)
placed a b total e = ap (λ (k : ℕ). BadUtf8 (total - k)) e

module _ (n total : ℕ) (z : List ℕ) where
  whole_bad : n ≤ length z → (utf8_valid_len (take n z) ≡ n → ⊥) →
      Fault (TextGoes n) (text_reader n) total z (BadUtf8 (total - (length z - utf8_valid_len (take n z))))
  whole_bad le bad =
      let t = take n z in
      let good = utf8_valid_len t in
      let within = utf8_valid_len_le t in
      let len = length-take n z in
      let differ : good ≡ n → ⊥ = bad in
      let less : good < n = omega arith in
      let size : length (drop good t ++ drop n z) ≡ length z - good = omega (
        arith,
        length-append (drop good t) (drop n z),
        length-drop good t,
        length-drop n z,
      ) in
      let parts : z ≡ take good t ++ (drop good t ++ drop n z) = sym (take-append-drop n z)
      ∙ ap (λ (q : List ℕ). q ++ drop n z) (sym (take-append-drop good t)) ∙ append_assoc (take good t) (drop good t) (drop n z) in
      renamed n total z _ _ (placed _ _ total (sym size))
      (bad_fault n total z (take good t) (drop good t) (drop n z) parts (well_front t) (omega (
        arith,
        length-take good t,
      )) (omega (arith, length-drop good t)) (rest_has_none t within)
      (λ all c y o.
      let ok = text_ok all n ((take good t ++ drop good t) ++ c) y o in
      let whole : take n ((take good t ++ drop good t) ++ c) ≡ t = ap (λ (q : List ℕ). take n (q ++ c)) (take-append-drop good t)
      ∙ take_at t c n (omega arith) in
      let u : IsUtf8 t = subst IsUtf8 whole ok.1 in
      let same = utf8_valid_len-IsUtf8 t u in
      differ (omega arith)))

  -- the bytes end too early: no text of n bytes begins with them
  cut_bad : length z < n → ((d : List ℕ) → IsUtf8 (z ++ d) → length (z ++ d) ≡ n → ⊥) → 0 < length (drop (utf8_valid_len z) z) →
      Fault (TextGoes n) (text_reader n) total z (BadUtf8 (total - (length z - utf8_valid_len z)))
  cut_bad lt bad some =
      let good = utf8_valid_len z in
      let within = utf8_valid_len_le z in
      let rest = drop good z in
      let size : length (rest ++ []) ≡ length z - good = ap length (append-nil rest) ∙ length-drop good z in
      let parts : z ≡ take good z ++ (rest ++ []) = sym (take-append-drop good z)
      ∙ ap (λ (q : List ℕ). take good z ++ q) (sym (append-nil rest)) in
      renamed n total z _ _ (placed _ _ total (sym size))
      (bad_fault n total z (take good z) rest [] parts (well_front z) (omega (arith, length-take good z)) some (rest_has_none z within)
      (λ all c y o.
      let ok = text_ok all n ((take good z ++ rest) ++ c) y o in
      let joined : (take good z ++ rest) ++ c ≡ z ++ c = ap (λ (q : List ℕ). q ++ c) (take-append-drop good z) in
      let u : IsUtf8 (take n (z ++ c)) = subst (λ (q : List ℕ). IsUtf8 (take n q)) joined ok.1 in
      let le : n ≤ length (z ++ c) = subst (λ (q : List ℕ). n ≤ length q) joined ok.0 in
      let d = drop (length z) (take n (z ++ c)) in
      let front : take (length z) (take n (z ++ c)) ≡ z = front_of c in
      let all_of : z ++ d ≡ take n (z ++ c) = ap (λ (q : List ℕ). q ++ d) (sym front) ∙ take-append-drop (length z) (take n (z ++ c)) in
      bad d (subst IsUtf8 (sym all_of) u) (ap length all_of ∙ omega (arith, length-take n (z ++ c)))))
    where
      front_of : (c : List ℕ) → take (length z) (take n (z ++ c)) ≡ z
      front_of c = take_less (length z) n (z ++ c) (omega arith) ∙ take_at z c (length z) refl
        where
          take_less : (a b : ℕ) (q : List ℕ) → a ≤ b → take a (take b q) ≡ take a q
          take_less zero b q le = refl
          take_less (suc a) zero q le = absurd (omega arith)
          take_less (suc a) (suc b) [] le = refl
          take_less (suc a) (suc b) (x ∷ q) le = ap (λ (k : List ℕ). x ∷ k) (take_less a b q (omega arith))

  -- the bytes end too early, and a text of n bytes may begin with them
  cut_short : (r : List ℕ) → drop (utf8_valid_len z) z ≡ r → utf8_valid_len z + sequence_len r ≤ n → length z < n →
      utf8_error_len r ≡ None → Open (TextOf n) z
  cut_short [] is room lt none =
      let within = utf8_valid_len_le z in
      let size : 0 ≡ length z - utf8_valid_len z = sym (ap length is) ∙ length-drop (utf8_valid_len z) z in
      let u : IsUtf8 z = is_whole z (omega arith) in
      text_fill n z u (omega arith)
  cut_short (x ∷ r) is room lt none =
      let good = utf8_valid_len z in
      let within = utf8_valid_len_le z in
      let ends = may_end (x ∷ r) (omega arith) none (subst NoChar is (rest_has_none z within)) in
      let d = ends.0 in
      let front = take good z in
      let joined : z ++ d ≡ front ++ ((x ∷ r) ++ d) = ap (λ (q : List ℕ). q ++ d) (sym (take-append-drop good z)
      ∙ ap (λ (q : List ℕ). front ++ q) is) ∙ append_assoc front (x ∷ r) d in
      let u : IsUtf8 (z ++ d) = subst IsUtf8 (sym joined) (IsUtf8-append front ((x ∷ r) ++ d) (well_front z) ends.1) in
      let size : length (z ++ d) ≡ good + sequence_len (x ∷ r) = ap length joined
      ∙ omega (arith, length-append front ((x ∷ r) ++ d), length-take good z, ends.2) in
      let t = text_fill n (z ++ d) u (omega arith) in
      (d ++ t.0, t.1, (t.2.0, t.2.1, sym (append_assoc z d t.0) ∙ t.2.2))

  -- no text of n bytes begins with them
  cut_never : (x : ℕ) (r : List ℕ) → drop (utf8_valid_len z) z ≡ x ∷ r →
      (is_some (utf8_error_len (x ∷ r)) || nat_lt n (utf8_valid_len z + sequence_len (x ∷ r))) ≡ true
      → (d : List ℕ) → IsUtf8 (z ++ d) → length (z ++ d) ≡ n → ⊥
  cut_never x r is test d u len =
      let good = utf8_valid_len z in
      let within = utf8_valid_len_le z in
      let front = take good z in
      let joined : z ++ d ≡ front ++ ((x ∷ r) ++ d) = ap (λ (q : List ℕ). q ++ d) (sym (take-append-drop good z)
      ∙ ap (λ (q : List ℕ). front ++ q) is) ∙ append_assoc front (x ∷ r) d in
      let first : take good (z ++ d) ≡ front = ap (take good) joined
      ∙ take_at front ((x ∷ r) ++ d) good (omega (arith, length-take good z)) in
      let last : drop good (z ++ d) ≡ (x ∷ r) ++ d = ap (drop good) joined
      ∙ drop_at front ((x ∷ r) ++ d) good (omega (arith, length-take good z)) in
      let rest : IsUtf8 ((x ∷ r) ++ d) = subst IsUtf8 last (after_text (z ++ d) good u (subst IsUtf8 (sym first) (well_front z))) in
      let size : n ≡ good + length ((x ∷ r) ++ d) = sym len ∙ ap length joined
      ∙ omega (arith, length-append front ((x ∷ r) ++ d), length-take good z) in
      must_end (x ∷ r) d (omega arith) (subst NoChar is (rest_has_none z within)) rest
      (λ w. no_bad (utf8_error_len (x ∷ r)) w.0 (good + sequence_len (x ∷ r)) (let fits = w.1 in omega arith) test)
    where
      no_bad : (o : Option ℕ) → o ≡ None → (k : ℕ) → k ≤ n → (is_some o || nat_lt n k) ≡ true → ⊥
      no_bad o e k le t =
          let lt : nat_lt n k ≡ true = subst (λ (q : Option ℕ). (is_some q || nat_lt n k) ≡ true) e t in
          let less = ltb-true n k lt in
          omega arith

  cut_by : length z < n → (r : List ℕ) → drop (utf8_valid_len z) z ≡ r → (t : Bool) →
      (is_some (utf8_error_len r) || nat_lt n (utf8_valid_len z + sequence_len r)) ≡ t → (err : PackError)
      → cond t (BadUtf8 (total - (length z - utf8_valid_len z))) Short ≡ err → Fault (TextGoes n) (text_reader n) total z err
  cut_by lt r is false test err e =
      let p = neither (utf8_error_len r) (utf8_valid_len z + sequence_len r) test in
      renamed n total z err Short (sym e) (short_fault (TextGoes n) (text_reader n) total z (tt, cut_short r is p.1 lt p.0))
    where
      neither : (o : Option ℕ) (k : ℕ) → (is_some o || nat_lt n k) ≡ false → (o ≡ None) × (k ≤ n)
      neither None k t = (refl, ltb-false n k t)
      neither (Some x) k t = absurd cc
  cut_by lt [] is true test err e =
      let within = utf8_valid_len_le z in
      let few : nat_lt n (utf8_valid_len z + 0) ≡ true = subst (λ (q : Option ℕ). (is_some q || nat_lt n (utf8_valid_len z + 0)) ≡
      true) no_error test in
      let less = ltb-true n (utf8_valid_len z + 0) few in
      absurd (omega arith)
  cut_by lt (x ∷ r) is true test err e =
      renamed n total z err _ (sym e) (cut_bad lt (cut_never x r is test) (let k : length (drop (utf8_valid_len z) z) ≡
      suc (length r) = ap length is in omega arith))

pub text_fault : (n total : ℕ) (z : List ℕ) (err : PackError) → text_at total n z ≡ Err err → Fault (TextGoes n) (text_reader n) total z err
unfolding text_at
text_fault n total z err e = by (nat_lt (length z) n) refl e
  where
    good : ℕ
    good = utf8_valid_len (take n z)

    by : (b : Bool) → nat_lt (length z) n ≡ b →
        cond {A = Read (List ℕ)} b (failed (cut_text total n z)) (cond (eqb (utf8_valid_len (take n z)) n) (Ok (
          take n z,
          drop n z,
        )) (Err (BadUtf8 (total - (length z - utf8_valid_len (take n z)))))) ≡ Err err
        → Fault (TextGoes n) (text_reader n) total z err
    by true b o =
        let lt = ltb-true (length z) n b in
        let same : cut_text total n z ≡ err = cc in
        cut_by n total z lt (drop (utf8_valid_len z) z) refl _ refl err same
    by false b o = whole (eqb (utf8_valid_len (take n z)) n) refl o
      where
        whole : (t : Bool) → eqb (utf8_valid_len (take n z)) n ≡ t →
            cond {A = Read (List ℕ)} t (Ok (
              take n z,
              drop n z,
            )) (failed (BadUtf8 (total - (length z - utf8_valid_len (take n z))))) ≡ Err err →
            Fault (TextGoes n) (text_reader n) total z err
        whole true t o = absurd cc
        whole false t o =
            let same : BadUtf8 (total - (length z - utf8_valid_len (take n z))) ≡ err = cc in
            renamed n total z err _ (sym same) (whole_bad n total z (ltb-false (length z) n b) (λ q. differ t q))
          where
            differ : eqb (utf8_valid_len (take n z)) n ≡ false → utf8_valid_len (take n z) ≡ n → ⊥
            differ f q = let s : eqb (utf8_valid_len (take n z)) n ≡ true = eq-eqb (utf8_valid_len (take n z)) n q in
                let no : true ≡ false = sym s ∙ f in cc

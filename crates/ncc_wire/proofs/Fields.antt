-- A field that is read is the field that was written, and what was written is read again.
use Rattle.std.proofs.Common.{◌≡◌, ℕ, zero, suc, ◌+◌, ◌^◌, ◌<◌, ◌≤◌, Bool, true, false, List, [], ◌∷◌, ◌++◌, length, take, drop}
use Rattle.std.proofs.Common.{Result, Ok, Err, refl, sym, ap, subst, ◌∙◌, append_assoc, arith, length-append, length-drop, take-append-drop}
use Rattle.std.specs.Prelude.{◌&&◌, nat_eq, nat_le, if◌then◌else◌}
use Rattle.std.proofs.lemmas.Bool.{le-leb, leb-true}
use Rattle.std.proofs.lemmas.List.{drop-drop, drop_at, length-take-le, take_at}
use Rattle.std.proofs.lemmas.Nat.{be_bytes_4, be_bytes_8, from_be_bytes-to_be_bytes_4, from_be_bytes-to_be_bytes_8}
use Rattle.ncc_tx.proofs.ItemRead.{AreBytes, rest_bytes}
use Rattle.ncc_wire.specs.declared.error.FrameError.{FrameError}
use Rattle.ncc_wire.specs.declared.error.FrameError.TheVariants.{BadField}
use Rattle.ncc_wire.specs.Kinds.{Field, Wide, in_one, in_four, in_eight, told, width, widths, written}
use Rattle.ncc_wire.specs.Frames.{flag_of}
use Rattle.ncc_wire.specs.Reading.{◌>>=◌, field_at, fields_at, number_at}

pub flag_is : (n : ℕ) → n ≤ 1 → flag_of (nat_eq n 1) ≡ n
flag_is zero le = refl
flag_is (suc zero) le = refl
flag_is (suc (suc n)) le = absurd (omega arith)

pub take_bytes : (bs : List ℕ) (n : ℕ) → AreBytes bs → AreBytes (take n bs)
take_bytes bs zero all k = omega arith
take_bytes [] (suc n) all k = all k
take_bytes (b ∷ bs) (suc n) all zero = all zero
take_bytes (b ∷ bs) (suc n) all (suc k) = take_bytes bs n (λ j. all (suc j)) k

-- ---- numbers

abbrev pub limit : Wide → ℕ
limit in_one = 256
limit in_four = 2 ^ 32
limit in_eight = 2 ^ 64

pub written_long : (w : Wide) (n : ℕ) → length (written w n) ≡ width w
written_long in_one n = refl
written_long in_four n = refl
written_long in_eight n = refl

some_width : (w : Wide) → 0 < width w
some_width in_one = omega arith
some_width in_four = omega arith
some_width in_eight = omega arith

pub told_again : (w : Wide) (n : ℕ) → n < limit w → told w (written w n) ≡ n
told_again in_one n lt = refl
told_again in_four n lt = from_be_bytes-to_be_bytes_4 n lt
told_again in_eight n lt = from_be_bytes-to_be_bytes_8 n lt

pub written_back : (w : Wide) (b : List ℕ) → length b ≡ width w → AreBytes b → written w (told w b) ≡ b
written_back in_one [] len all = absurd (omega arith)
written_back in_one (x ∷ []) len all = refl
written_back in_one (x ∷ y ∷ b) len all = absurd (omega arith)
written_back in_four b len all = be_bytes_4 b _ len all refl
written_back in_eight b len all = be_bytes_8 b _ len all refl

-- ---- one field

both : (a b c : Bool) (x n : ℕ) (e : FrameError) → (if a && b && c then Ok x else Err e) ≡ Ok n →
    (a ≡ true) × (b ≡ true) × (c ≡ true) × (x ≡ n)
both true true true x n e h = (refl, refl, refl, cc)
both true true false x n e h = absurd (cc)
both true false c x n e h = absurd (cc)
both false b c x n e h = absurd (cc)

-- a field with this number stands at the place
pub record Has (f : Field) (at : ℕ) (frame : List ℕ) (n : ℕ) : Type 0 where
  pub inside : at + width f.wide ≤ length frame
  pub least : f.least ≤ n
  pub greatest : n ≤ f.greatest
  pub same : drop at frame ≡ written f.wide n ++ drop (at + width f.wide) frame

pub field_takes : (f : Field) (at : ℕ) (frame : List ℕ) (n : ℕ) → AreBytes frame → field_at f at frame ≡ Ok n → Has f at frame n
unfolding field_at
field_takes f at frame n all e =
    let w = width f.wide in
    let m = number_at f at frame in
    let h = both (nat_le (at + w) (length frame)) (nat_le f.least m) (nat_le m f.greatest) m n (BadField at) e in
    let inside : at + w ≤ length frame = leb-true (at + w) (length frame) h.0 in
    let front : written f.wide m ≡ take w (drop at frame) = written_back f.wide (take w (drop at frame))
    (length-take-le w (drop at frame) (omega (arith, length-drop at frame))) (take_bytes (drop at frame) w (rest_bytes frame at all)) in
    record {
      inside = inside;
      least = omega (arith, leb-true f.least m h.1, h.3);
      greatest = omega (arith, leb-true m f.greatest h.2, h.3);
      same = sym (take-append-drop w (drop at frame)) ∙ ap (λ (l : List ℕ). l ++ drop w (drop at frame)) (sym front)
          ∙ ap (λ (k : ℕ). written f.wide k ++ drop w (drop at frame)) h.3
          ∙ ap (λ (l : List ℕ). written f.wide n ++ l) (drop-drop w at frame);
    }

pub field_again : (f : Field) (at : ℕ) (frame : List ℕ) (n : ℕ) (rest : List ℕ) → f.greatest < limit f.wide → f.least ≤ n → n ≤ f.greatest →
    drop at frame ≡ written f.wide n ++ rest → field_at f at frame ≡ Ok n
unfolding field_at
field_again f at frame n rest sound least greatest same =
    let w = width f.wide in
    let m = number_at f at frame in
    let long : length (written f.wide n) ≡ w = written_long f.wide n in
    let is : m ≡ n = ap (λ (l : List ℕ). told f.wide (take w l)) same ∙ ap (told f.wide) (take_at (written f.wide n) rest w long)
    ∙ told_again f.wide n (omega arith) in
    let inside : at + w ≤ length frame = omega (
      arith,
      ap length same,
      length-append (written f.wide n) rest,
      long,
      length-drop at frame,
      some_width f.wide,
    ) in
    let a : nat_le (at + w) (length frame) ≡ true = le-leb (at + w) (length frame) inside in
    let b : nat_le f.least m ≡ true = le-leb f.least m (omega (arith, is, least)) in
    let c : nat_le m f.greatest ≡ true = le-leb m f.greatest (omega (arith, is, greatest)) in
    rw (a, b, c) (ap (λ (k : ℕ). Ok k) is)

-- ---- fields one behind the other

abbrev pub spelled : List Field → List ℕ → List ℕ
spelled [] ns = []
spelled (f ∷ fs) [] = []
spelled (f ∷ fs) (n ∷ ns) = written f.wide n ++ spelled fs ns

-- each field has a number that it may hold
abbrev pub Within : List Field → List ℕ → Type 0
Within [] [] = Unit {0}
Within [] (n ∷ ns) = ⊥
Within (f ∷ fs) [] = ⊥
Within (f ∷ fs) (n ∷ ns) = (f.least ≤ n) × (n ≤ f.greatest) × Within fs ns

-- the greatest number of each field has the field's width
abbrev pub AreSound : List Field → Type 0
AreSound [] = Unit {0}
AreSound (f ∷ fs) = (f.greatest < limit f.wide) × AreSound fs

-- the value of a step that did not fail
pub bind_ok : {A B : Type 0} (r : Result A FrameError) (f : A → Result B FrameError) (y : B) → (r >>= f) ≡ Ok y →
    (x : A) × (r ≡ Ok x) × (f x ≡ Ok y)
bind_ok (Ok x) f y e = (x, refl, e)
bind_ok (Err d) f y e = absurd (cc)

-- fields with these numbers stand from the place on
pub record Have (fs : List Field) (at : ℕ) (frame ns : List ℕ) : Type 0 where
  pub within : Within fs ns
  pub same : drop at frame ≡ spelled fs ns ++ drop (at + widths fs) frame
  pub inside : at ≤ length frame → at + widths fs ≤ length frame

abbrev done : List ℕ → Result (List ℕ) FrameError
done ns = Ok ns

have_none : (at : ℕ) (frame ns : List ℕ) → done [] ≡ done ns → Have [] at frame ns
have_none at frame [] e = record { within = tt; same = ap (λ (n : ℕ). drop n frame) (omega arith); inside = λ le. omega arith }
have_none at frame (n ∷ ns) e = absurd (cc)

pub fields_take : (fs : List Field) (at : ℕ) (frame ns : List ℕ) → AreBytes frame → fields_at fs at frame ≡ Ok ns → Have fs at frame ns
fields_take [] at frame ns all e = have_none at frame ns e
fields_take (f ∷ fs) at frame ns all e =
    let a = bind_ok (field_at f at frame) (λ n. fields_at fs (at + width f.wide) frame >>= λ ns. Ok (n ∷ ns)) ns e in
    let b = bind_ok (fields_at fs (at + width f.wide) frame) (λ ns. Ok (a.0 ∷ ns)) ns a.2 in
    let first = field_takes f at frame a.0 all a.1 in
    let others = fields_take fs (at + width f.wide) frame b.0 all b.1 in
    let made : a.0 ∷ b.0 ≡ ns = cc in
    let end : at + width f.wide + widths fs ≡ at + (width f.wide + widths fs) = omega arith in
    let same : drop at frame ≡ (written f.wide a.0 ++ spelled fs b.0) ++ drop (at + (width f.wide + widths fs)) frame = first.same
    ∙ ap (λ (l : List ℕ). written f.wide a.0 ++ l) others.same
    ∙ sym (append_assoc (written f.wide a.0) (spelled fs b.0) (drop (at + width f.wide + widths fs) frame))
    ∙ ap (λ (n : ℕ). (written f.wide a.0 ++ spelled fs b.0) ++ drop n frame) end in
    subst (Have (f ∷ fs) at frame) made record {
      within = (first.least, first.greatest, others.within);
      same = same;
      inside = λ le. omega (arith, others.inside first.inside);
    }

-- the numbers alone, of whatever the frame is made
field_within : (f : Field) (at : ℕ) (frame : List ℕ) (n : ℕ) → field_at f at frame ≡ Ok n → (f.least ≤ n) × (n ≤ f.greatest)
unfolding field_at
field_within f at frame n e =
    let m = number_at f at frame in
    let h = both (nat_le (at + width f.wide) (length frame)) (nat_le f.least m) (nat_le m f.greatest) m n (BadField at) e in
    (omega (arith, leb-true f.least m h.1, h.3), omega (arith, leb-true m f.greatest h.2, h.3))

field_inside : (f : Field) (at : ℕ) (frame : List ℕ) (n : ℕ) → field_at f at frame ≡ Ok n → at + width f.wide ≤ length frame
unfolding field_at
field_inside f at frame n e =
    let m = number_at f at frame in
    leb-true (at + width f.wide) (length frame)
    (both (nat_le (at + width f.wide) (length frame)) (nat_le f.least m) (nat_le m f.greatest) m n (BadField at) e).0

pub fields_inside : (fs : List Field) (at : ℕ) (frame ns : List ℕ) → fields_at fs at frame ≡ Ok ns → at ≤ length frame →
    at + widths fs ≤ length frame
fields_inside [] at frame ns e le = omega arith
fields_inside (f ∷ fs) at frame ns e le =
    let a = bind_ok (field_at f at frame) (λ n. fields_at fs (at + width f.wide) frame >>= λ ns. Ok (n ∷ ns)) ns e in
    let b = bind_ok (fields_at fs (at + width f.wide) frame) (λ ns. Ok (a.0 ∷ ns)) ns a.2 in
    omega (arith, fields_inside fs (at + width f.wide) frame b.0 b.1 (field_inside f at frame a.0 a.1))

within_none : (ns : List ℕ) → done [] ≡ done ns → Within [] ns
within_none [] e = tt
within_none (n ∷ ns) e = absurd (cc)

pub fields_within : (fs : List Field) (at : ℕ) (frame ns : List ℕ) → fields_at fs at frame ≡ Ok ns → Within fs ns
fields_within [] at frame ns e = within_none ns e
fields_within (f ∷ fs) at frame ns e =
    let a = bind_ok (field_at f at frame) (λ n. fields_at fs (at + width f.wide) frame >>= λ ns. Ok (n ∷ ns)) ns e in
    let b = bind_ok (fields_at fs (at + width f.wide) frame) (λ ns. Ok (a.0 ∷ ns)) ns a.2 in
    let first = field_within f at frame a.0 a.1 in
    let made : a.0 ∷ b.0 ≡ ns = cc in
    subst (Within (f ∷ fs)) made (first.0, first.1, fields_within fs (at + width f.wide) frame b.0 b.1)

pub fields_again : (fs : List Field) (at : ℕ) (frame ns rest : List ℕ) → AreSound fs → Within fs ns →
    drop at frame ≡ spelled fs ns ++ rest → fields_at fs at frame ≡ Ok ns
fields_again [] at frame [] rest sound within same = refl
fields_again [] at frame (n ∷ ns) rest sound within same = absurd within
fields_again (f ∷ fs) at frame [] rest sound within same = absurd within
fields_again (f ∷ fs) at frame (n ∷ ns) rest sound within same =
    let w = width f.wide in
    let whole : drop at frame ≡ written f.wide n ++ (spelled fs ns ++ rest) = same ∙ append_assoc (written f.wide n) (spelled fs ns) rest in
    let first = field_again f at frame n (spelled fs ns ++ rest) sound.0 within.0 within.1 whole in
    let behind : drop (at + w) frame ≡ spelled fs ns ++ rest = sym (drop-drop w at frame) ∙ ap (drop w) whole
    ∙ drop_at (written f.wide n) (spelled fs ns ++ rest) w (written_long f.wide n) in
    rw (first, fields_again fs (at + w) frame ns rest sound.1 within.2 behind) refl

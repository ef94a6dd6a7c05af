-- What a crash leaves is one of the contents that it may leave.
use Rattle.std.proofs.Common.{◌≡◌, ℕ, zero, suc, ◌+◌, ◌-◌, ◌<◌, ◌≤◌, List, [], ◌∷◌, ◌++◌, length, take, drop, refl, sym, ◌∙◌, ap}
use Rattle.std.proofs.Common.{subst, arith, add-zero, length-drop, Bool, true, false}
use Rattle.std.specs.Prelude.{nat_le, nat_eq, ◌||◌, if◌then◌else◌, ◌%◌}
use Rattle.std.proofs.lemmas.Bool.Decides.{nat_tests}
use Rattle.std.proofs.lemmas.List.{append-nil, drop_more, take_all}
use Rattle.rand_pcg.specs.Lcg.{Lcg}
use Rattle.rand_pcg.specs.Pcg.{pcg32}
use Rattle.ncc_base.specs.MemDisk.{Content, Device, IsImage, after, begun, byte_at, content, crashed, drawn, drawn_byte, is_pending}
use Rattle.ncc_base.specs.MemDisk.{is_in, is_written, left_by, seeded}
use Rattle.ncc_base.specs.MemLaws.{both_false, sane}
use Rattle.ncc_base.specs.declared.mem_disk.Range.{Range}

pub drawn_long : (g : Lcg) (stable : List ℕ) (ranges : List Range) (p n : ℕ) → length (drawn g stable ranges p n) ≡ n
unfolding drawn
drawn_long g stable ranges p zero = refl
drawn_long g stable ranges p (suc n) = ap suc (drawn_long (drawn_byte g stable ranges p).1 stable ranges (p + 1) n)

not_pending : (g : Lcg) (stable : List ℕ) (ranges : List Range) (p : ℕ) → is_pending stable ranges p ≡ false →
    (drawn_byte g stable ranges p).0 ≡ byte_at stable p
not_pending g stable ranges p e =
    let pick : Bool → ℕ × Lcg = λ b. if b then ((pcg32 g).0 % 256, (pcg32 g).1) else (byte_at stable p, g) in
    ap (λ (b : Bool). (pick b).0) e

drawn_at : (g : Lcg) (stable : List ℕ) (ranges : List Range) (p n i : ℕ) → i < n → is_pending stable ranges (p + i) ≡ false →
    byte_at (drawn g stable ranges p n) i ≡ byte_at stable (p + i)
unfolding drawn
drawn_at g stable ranges p zero i le e = absurd (omega (arith, le))
drawn_at g stable ranges p (suc n) zero le e =
    not_pending g stable ranges p (ap (λ (k : ℕ). is_pending stable ranges k) (sym (add-zero p)) ∙ e)
    ∙ ap (λ (k : ℕ). byte_at stable k) (sym (add-zero p))
drawn_at g stable ranges p (suc n) (suc i) le e =
    let same : p + 1 + i ≡ p + suc i = omega arith in
    drawn_at (drawn_byte g stable ranges p).1 stable ranges (p + 1) n i (omega (
      arith,
      le,
    )) (ap (λ (k : ℕ). is_pending stable ranges k) same ∙ e)
    ∙ ap (λ (k : ℕ). byte_at stable k) same

below_end : (stable : List ℕ) (ranges : List Range) (p : ℕ) → p < length stable → is_written p ranges ≡ false →
    is_pending stable ranges p ≡ false
below_end stable ranges p le out = go (nat_le (length stable) p) (is_written p ranges) (grind (arith, nat_tests)) out where
  go : (a b : Bool) → a ≡ false → b ≡ false → (a || b) ≡ false
  go false false e f = refl
  go false true e f = absurd (cc)
  go true b e f = absurd (cc)

drawn_image : (g : Lcg) (c : Content) → length c.stable ≤ length c.seen → IsImage c (drawn g c.stable c.ranges 0 (length c.seen))
drawn_image g c shorter = record {
  no_shorter = omega (arith, shorter, drawn_long g c.stable c.ranges 0 (length c.seen));
  no_longer = omega (arith, drawn_long g c.stable c.ranges 0 (length c.seen));
  same = λ p le out.
      let zero_and : 0 + p ≡ p = omega arith in
      drawn_at g c.stable c.ranges 0 (length c.seen) p (omega (
        arith,
        le,
        shorter,
      )) (ap (λ (k : ℕ). is_pending c.stable c.ranges k) zero_and ∙ below_end c.stable c.ranges p le out)
      ∙ ap (λ (k : ℕ). byte_at c.stable k) zero_and;
}

stable_image : (c : Content) → length c.stable ≤ length c.seen → IsImage c c.stable
stable_image c shorter = record { no_shorter = omega arith; no_longer = shorter; same = λ p le out. refl }

left_image : (word : ℕ) (d : Device) → IsImage (content d) (left_by word (content d))
left_image word d = go (nat_eq word 0) (nat_eq word 1) where
  go : (a b : Bool) → IsImage (content d) (if a then (content d).stable else
      (if b then (content d).seen else drawn (seeded word) (content d).stable (content d).ranges 0 (length (content d).seen)))
  go true b = stable_image (content d) (sane d).no_shorter
  go false true = sane d
  go false false = drawn_image (seeded word) (content d) (sane d).no_shorter

begun_seen : (base : List ℕ) → (after [] (begun base)).seen ≡ base
unfolding after
begun_seen base = refl

pub crash_image : (word : ℕ) (old new : Device) → new ≡ crashed word old → IsImage (content old) (content new).seen
crash_image word old new is =
    subst (λ (l : List ℕ). IsImage (content old) l)
    (sym (ap (λ (d : Device). (content d).seen) is ∙ begun_seen (left_by word (content old))))
    (left_image word old)

-- ---- one byte more

unrolls : (g : Lcg) (stable : List ℕ) (ranges : List Range) (p n : ℕ)
    → (drawn_byte g stable ranges p).0 ∷ drawn (drawn_byte g stable ranges p).1 stable ranges (p + 1) n ≡ drawn g stable ranges p (suc n)
unfolding drawn
unrolls g stable ranges p n = refl

pub drawn_more : (g h : Lcg) (stable : List ℕ) (ranges : List Range) (p n b : ℕ) → p < n → (b, h) ≡ drawn_byte g stable ranges p
    → b ∷ drawn h stable ranges (p + 1) (n - (p + 1)) ≡ drawn g stable ranges p (n - p)
drawn_more g h stable ranges p n b le e =
    let one_less : suc (n - (p + 1)) ≡ n - p = omega (arith, le) in
    ap (λ (x : ℕ × Lcg). x.0 ∷ drawn x.1 stable ranges (p + 1) (n - (p + 1))) e
    ∙ unrolls g stable ranges p (n - (p + 1))
    ∙ ap (λ (m : ℕ). drawn g stable ranges p m) one_less

draws_nothing : (g : Lcg) (stable : List ℕ) (ranges : List Range) (p : ℕ) → drawn g stable ranges p 0 ≡ []
unfolding drawn
draws_nothing g stable ranges p = refl

pub drawn_none : (g : Lcg) (stable : List ℕ) (ranges : List Range) (p n : ℕ) → n ≡ 0 → drawn g stable ranges p n ≡ []
drawn_none g stable ranges p n e = ap (λ (m : ℕ). drawn g stable ranges p m) e ∙ draws_nothing g stable ranges p

-- ---- one place that is pending

first_of : (a b : Bool) → (a || b) ≡ false → a ≡ false
first_of false b e = refl
first_of true b e = absurd (cc)

within : (stable : List ℕ) (ranges : List Range) (p : ℕ) → is_pending stable ranges p ≡ false → p < length stable
within stable ranges p e =
    let out : nat_le (length stable) p ≡ false = first_of (nat_le (length stable) p) (is_written p ranges) e in
    grind (arith, nat_tests)

quiet_byte : (g : Lcg) (stable : List ℕ) (ranges : List Range) (p : ℕ) → is_pending stable ranges p ≡ false →
    drawn_byte g stable ranges p ≡ (byte_at stable p, g)
quiet_byte g stable ranges p e =
    let pick : Bool → ℕ × Lcg = λ b. if b then ((pcg32 g).0 % 256, (pcg32 g).1) else (byte_at stable p, g) in
    ap pick e

pending_byte : (g : Lcg) (stable : List ℕ) (ranges : List Range) (p : ℕ) → is_pending stable ranges p ≡ true →
    drawn_byte g stable ranges p ≡ ((pcg32 g).0 % 256, (pcg32 g).1)
pending_byte g stable ranges p e =
    let pick : Bool → ℕ × Lcg = λ b. if b then ((pcg32 g).0 % 256, (pcg32 g).1) else (byte_at stable p, g) in
    ap pick e

-- where so many places are not pending, what was stable stays there, and no word is taken
drawn_quiet : (g : Lcg) (stable : List ℕ) (ranges : List Range) (p n m : ℕ) →
    ((i : ℕ) → i < n → is_pending stable ranges (p + i) ≡ false)
    → drawn g stable ranges p (n + m) ≡ take n (drop p stable) ++ drawn g stable ranges (p + n) m
unfolding drawn
drawn_quiet g stable ranges p zero m quiet =
    let none : 0 + m ≡ m = omega arith in
    ap (λ (k : ℕ). drawn g stable ranges p k) none ∙ ap (λ (k : ℕ). drawn g stable ranges k m) (sym (add-zero p))
drawn_quiet g stable ranges p (suc n) m quiet =
    let here : is_pending stable ranges p ≡ false =
    ap (λ (k : ℕ). is_pending stable ranges k) (sym (add-zero p)) ∙ quiet 0 (omega arith) in
    let rest : List ℕ = take n (drop (p + 1) stable) in
    let more : drop p stable ≡ byte_at stable p ∷ drop (p + 1) stable = drop_more stable p 0 (within stable ranges p here) in
    let place : p + 1 + n ≡ p + suc n = omega arith in
    let count : suc n + m ≡ suc (n + m) = omega arith in
    ap (λ (k : ℕ). drawn g stable ranges p k) count
    ∙ ap (λ (x : ℕ × Lcg). x.0 ∷ drawn x.1 stable ranges (p + 1) (n + m)) (quiet_byte g stable ranges p here)
    ∙ ap (λ (l : List ℕ). byte_at stable p ∷ l) (drawn_quiet g stable ranges (p + 1) n m
    (λ i le. let same : p + 1 + i ≡ p + suc i = omega arith in
    ap (λ (k : ℕ). is_pending stable ranges k) same ∙ quiet (suc i) (omega (arith, le))))
    ∙ ap (λ (k : ℕ). byte_at stable p ∷ (rest ++ drawn g stable ranges k m)) place
    ∙ ap (λ (l : List ℕ). take (suc n) l ++ drawn g stable ranges (p + suc n) m) (sym more)

only_this : (stable : List ℕ) (gate p : ℕ) → p < length stable → (p ≡ gate → ⊥) →
    is_pending stable (record { at = gate; count = 1 } ∷ []) p ≡ false
only_this stable gate p le other =
    let r : Range = record { at = gate; count = 1 } in
    both_false (nat_le (length stable) p) (is_in p r) (grind (arith, nat_tests)) (grind (arith, nat_tests))

this_one : (a b : Bool) → a ≡ false → b ≡ true → (a || (b || false)) ≡ true
this_one false true e f = refl
this_one false false e f = absurd (cc)
this_one true b e f = absurd (cc)

-- the one place takes the first byte that is drawn, and all else stays
pub drawn_one : (g : Lcg) (stable : List ℕ) (gate : ℕ) → gate < length stable →
    drawn g stable (record { at = gate; count = 1 } ∷ []) 0 (length stable) ≡
    take gate stable ++ ((pcg32 g).0 % 256 ∷ drop (gate + 1) stable)
drawn_one g stable gate le =
    let r : Range = record { at = gate; count = 1 } in
    let rs : List Range = r ∷ [] in
    let m : ℕ = length stable - (gate + 1) in
    let h : Lcg = (pcg32 g).1 in
    let b : ℕ = (pcg32 g).0 % 256 in
    let long : length stable ≡ gate + suc m = omega (arith, le) in
    let here : is_pending stable rs gate ≡ true =
    this_one (nat_le (length stable) gate) (is_in gate r) (grind (arith, nat_tests)) (grind (arith, nat_tests)) in
    let rest : drawn h stable rs (gate + 1) m ≡ drop (gate + 1) stable =
    ap (λ (n : ℕ). drawn h stable rs (gate + 1) n) (sym (add-zero m))
    ∙ drawn_quiet h stable rs (gate + 1) m 0 (λ i low. only_this stable gate (gate + 1 + i) (omega (arith, low)) (λ e. omega (arith, e)))
    ∙ ap (λ (l : List ℕ). take m (drop (gate + 1) stable) ++ l) (draws_nothing h stable rs (gate + 1 + m))
    ∙ append-nil (take m (drop (gate + 1) stable))
    ∙ take_all m (drop (gate + 1) stable) (omega (arith, length-drop (gate + 1) stable)) in
    ap (λ (n : ℕ). drawn g stable rs 0 n) long
    ∙ drawn_quiet g stable rs 0 gate (suc m) (λ i low. only_this stable gate (0 + i) (omega (arith, low, le)) (λ e. omega (arith, e, low)))
    ∙ ap (λ (k : ℕ). take gate stable ++ drawn g stable rs k (suc m)) (let none : 0 + gate ≡ gate = omega arith in none)
    ∙ ap (λ (l : List ℕ). take gate stable ++ l) (sym (unrolls g stable rs gate m)
    ∙ ap (λ (x : ℕ × Lcg). x.0 ∷ drawn x.1 stable rs (gate + 1) m) (pending_byte g stable rs gate here)
    ∙ ap (λ (l : List ℕ). b ∷ l) rest)

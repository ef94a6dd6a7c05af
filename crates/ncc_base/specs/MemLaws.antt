-- Laws of a disk in memory: what a read gives is one of the contents that a crash may leave, and this moment counts.
use Rattle.std.proofs.Common.{◌≡◌, ◌⊎◌, inl, inr, ℕ, ◌+◌, ◌-◌, ◌<◌, ◌≤◌, List, [], ◌∷◌, ◌++◌, length, take, drop, map, get_or, refl}
use Rattle.std.proofs.Common.{sym, ◌∙◌, ap, subst, arith, length-append, length-drop, length-take, Bool, true, false, if◌then◌else◌}
use Rattle.std.specs.Prelude.{◌||◌, max}
use Rattle.std.specs.List.{list_any}
use Rattle.std.proofs.lemmas.List.{length-take-le, get_or_append_left, get_or-append_right, get_or-take, get_or-drop, take_all, drop_all}
use Rattle.std.proofs.lemmas.List.Folds.{list_any-append}
use Rattle.std.proofs.lemmas.Bool.{cases_lt}
use Rattle.std.proofs.lemmas.Bool.Decides.{nat_tests}
use Rattle.ncc_base.specs.Disk.{Asked, Write, Sync}
use Rattle.ncc_base.specs.MemDisk.{AskedSince, Content, Device, Done, IsImage, LeftSince, after, begun, byte_at, content, effect}
use Rattle.ncc_base.specs.MemDisk.{GoesAsSaid, Went, called, is_in, is_written, one, run, with_bytes}
use Rattle.ncc_base.specs.declared.mem_disk.Range.{Range}

-- ---- bytes at their places

front_long : (at : ℕ) (bytes old : List ℕ) → at ≤ length old → length (take at old ++ bytes) ≡ at + length bytes
front_long at bytes old le = omega (arith, length-append (take at old) bytes, length-take-le at old le)

pub long_with : (at : ℕ) (bytes old : List ℕ) → at ≤ length old → length (with_bytes at bytes old) ≡ max (length old) (at + length bytes)
long_with at bytes old le =
    omega (
      arith,
      length-append (take at old ++ bytes) (drop (at + length bytes) old),
      front_long at bytes old le,
      length-drop (at + length bytes) old,
    )

pub before_it : (at : ℕ) (bytes old : List ℕ) (p : ℕ) → at ≤ length old → p < at → byte_at (with_bytes at bytes old) p ≡ byte_at old p
before_it at bytes old p le low =
    get_or_append_left (take at old ++ bytes) (drop (at + length bytes) old) 0 p (omega (arith, front_long at bytes old le))
    ∙ get_or_append_left (take at old) bytes 0 p (omega (arith, length-take-le at old le))
    ∙ get_or-take at old p 0 low

pub within_it : (at : ℕ) (bytes old : List ℕ) (p : ℕ) → at ≤ length old → at ≤ p → p < at + length bytes →
    byte_at (with_bytes at bytes old) p ≡ byte_at bytes (p - at)
within_it at bytes old p le low high =
    get_or_append_left (take at old ++ bytes) (drop (at + length bytes) old) 0 p (omega (arith, front_long at bytes old le, high))
    ∙ get_or-append_right (take at old) bytes at p 0 (length-take-le at old le) low

pub behind_it : (at : ℕ) (bytes old : List ℕ) (p : ℕ) → at ≤ length old → at + length bytes ≤ p →
    byte_at (with_bytes at bytes old) p ≡ byte_at old p
behind_it at bytes old p le high =
    get_or-append_right (take at old ++ bytes) (drop (at + length bytes) old) (at + length bytes) p 0 (front_long at bytes old le) high
    ∙ get_or-drop (at + length bytes) old (p - (at + length bytes)) 0
    ∙ ap (λ (i : ℕ). get_or old i 0) (omega (arith, high))

pub below_or : (p n : ℕ) → (p < n) ⊎ (n ≤ p)
below_or p n = cases_lt p n

-- a place is in a range, or before or behind it
pub outside : (p : ℕ) (r : Range) → is_in p r ≡ false → (p < r.at) ⊎ (r.at + r.count ≤ p)
outside p r apart = grind (arith, nat_tests)

pub inside : (p : ℕ) (r : Range) → is_in p r ≡ true → (r.at ≤ p) × (p < r.at + r.count)
inside p r there = grind (arith, nat_tests)

-- ---- what a read gives

-- what a read gives is one of the images
abbrev pub Sane : Content → Type 0
Sane c = IsImage c c.seen

either_false : (a b : Bool) → (a || b) ≡ false → (a ≡ false) × (b ≡ false)
either_false false false e = (refl, refl)
either_false false true e = absurd (cc)
either_false true b e = absurd (cc)

pub both_false : (a b : Bool) → a ≡ false → b ≡ false → (a || (b || false)) ≡ false
both_false false false e f = refl
both_false false true e f = absurd (cc)
both_false true b e f = absurd (cc)

pub cases_of : (b : Bool) → (b ≡ true) ⊎ (b ≡ false)
cases_of true = inl refl
cases_of false = inr refl

-- what is in no range, is not in the last one either
pub none_of : (p : ℕ) (rs : List Range) (r : Range) → is_written p (rs ++ r ∷ []) ≡ false → (is_written p rs ≡ false) × (is_in p r ≡ false)
none_of p rs r none =
    let both = either_false (list_any (is_in p) rs) (list_any (is_in p) (r ∷ [])) (sym (list_any-append (is_in p) rs (r ∷ [])) ∙ none) in
    (both.0, (either_false (is_in p r) false both.1).0)

past_end : (at : ℕ) (bytes old : List ℕ) (p : ℕ) → length old < at → p < length old → byte_at (with_bytes at bytes old) p ≡ byte_at old p
past_end at bytes old p far le =
    get_or_append_left (take at old ++ bytes) (drop (at + length bytes) old) 0 p (omega (
      arith,
      length-append (take at old) bytes,
      length-take at old,
      far,
      le,
    ))
    ∙ get_or_append_left (take at old) bytes 0 p (omega (arith, length-take at old, far, le))
    ∙ get_or-take at old p 0 (omega (arith, far, le))

outside_same : (at : ℕ) (bytes old : List ℕ) (p : ℕ) → p < length old → (p < at) ⊎ (at + length bytes ≤ p) →
    byte_at (with_bytes at bytes old) p ≡ byte_at old p
outside_same at bytes old p le apart = elim (cases_lt (length old) at) [
  | inl far ↦ past_end at bytes old p far le
  | inr near ↦ elim apart [ inl low ↦ before_it at bytes old p near low | inr high ↦ behind_it at bytes old p near high ]
]

no_shorter_with : (at : ℕ) (bytes old : List ℕ) → length old ≤ length (with_bytes at bytes old)
no_shorter_with at bytes old =
    omega (
      arith,
      length-append (take at old ++ bytes) (drop (at + length bytes) old),
      length-append (take at old) bytes,
      length-take at old,
      length-drop (at + length bytes) old,
    )

pub sane_begun : (base : List ℕ) → Sane (begun base)
sane_begun base = record { no_shorter = omega arith; no_longer = omega arith; same = λ p le none. refl }

sane_effect : (a : Asked) (c : Content) → Sane c → Sane (effect a c)
sane_effect (Write at bytes ok) c sane = record {
  no_shorter = omega (arith, sane.no_shorter, no_shorter_with at bytes c.seen);
  no_longer = omega arith;
  same = λ p le none.
      let parts = none_of p c.ranges (record { at = at; count = length bytes }) none in
      outside_same at bytes c.seen p (omega (arith, le, sane.no_shorter)) (outside p (record {
        at = at;
        count = length bytes;
      }) parts.1) ∙ sane.same p le parts.0;
}
sane_effect (Sync ok) c sane = record { no_shorter = omega arith; no_longer = omega arith; same = λ p le none. refl }

sane_one : (d : Done) (c : Content) → Sane c → Sane (one d c)
sane_one d c sane = go d.made where
  go : (made : Bool) → Sane (if made then effect d.asked c else c)
  go true = sane_effect d.asked c sane
  go false = sane

sane_after : (ds : List Done) (c : Content) → Sane c → Sane (after ds c)
unfolding after
sane_after [] c sane = sane
sane_after (d ∷ ds) c sane = sane_after ds (one d c) (sane_one d c sane)

pub sane_content : (ds : List Done) (base : List ℕ) → Sane (after ds (begun base))
sane_content ds base = sane_after ds (begun base) (sane_begun base)

-- of every disk
pub sane : (d : Device) → Sane (content d)
sane d = sane_content d.past d.base

-- ---- moments

pub counts : (d : Device) (t : ℕ) (c : List ℕ) → t ≤ length d.past → IsImage (content d) c → LeftSince d t c
counts d t c le now =
    record {
      moment = length d.past;
      from = le;
      until = omega arith;
      image = subst (λ (l : List Done). IsImage (after l (begun d.base)) c) (sym (take_all (length d.past) d.past (omega arith))) now;
    }

pub only : (d : Device) (c : List ℕ) → LeftSince d (length d.past) c → IsImage (content d) c
only d c left =
    subst (λ (l : List Done). IsImage (after l (begun d.base)) c) (take_all left.moment d.past (omega (arith, left.from))) left.image

pub asked_none : (d : Device) → AskedSince d (length d.past) []
asked_none d = sym (ap (λ (l : List Done). map (λ (x : Done). x.asked) l) (drop_all (length d.past) d.past (omega arith)))

-- ---- runs

pub run_on : (xs ys : List Asked) (d : Device) → run (xs ++ ys) d ≡ run ys (run xs d)
unfolding run
run_on [] ys d = refl
run_on (x ∷ xs) ys d = run_on xs ys (called x d)

said_on : (xs ys : List Asked) (d : Device) → GoesAsSaid xs d → GoesAsSaid ys (run xs d) → GoesAsSaid (xs ++ ys) d
unfolding run GoesAsSaid
said_on [] ys d first second = second
said_on (x ∷ xs) ys d first second = (first.0, said_on xs ys (called x d) first.1 second)

pub went_none : (d : Device) → Went d [] d
unfolding run GoesAsSaid
went_none d = record { device = refl; said = tt }

pub went_on : (a b c : Device) (xs ys : List Asked) → Went a xs b → Went b ys c → Went a (xs ++ ys) c
went_on a b c xs ys first second = record {
  device = second.device ∙ ap (run ys) first.device ∙ sym (run_on xs ys a);
  said = said_on xs ys a first.said (subst (GoesAsSaid ys) first.device second.said);
}

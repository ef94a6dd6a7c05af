-- The fault at which reading stops: what stands before it, the bytes at fault, and what follows.
use Rattle.std.proofs.Common.{◌≡◌, ◌⊎◌, inl, inr, ℕ, ◌-◌, ◌<◌, List, [], ◌∷◌, ◌++◌, length, Result, Ok, Err, refl, sym, ap, subst}
use Rattle.std.proofs.Common.{◌∙◌, append_assoc, append-nil, arith}
use Rattle.ncc_pack.specs.declared.error.PackError.{PackError}
use Rattle.ncc_pack.specs.declared.error.PackError.TheVariants.{Short, Float, BadMarker, BadUtf8, RepeatedKey, KeyNotText, TooDeep}
use Rattle.ncc_pack.specs.declared.error.PackError.TheVariants.{TooLong, Memory}
use Rattle.ncc_pack.specs.Reading.{◌>>=◌, Read}
use Rattle.ncc_pack.specs.Spells.{SpellsText}
use Rattle.ncc_pack.specs.Offence.{Offends}

-- some bytes behind these make them a whole spelling
abbrev pub Open : {A : Type 0} → (A → List ℕ → Type 0) → List ℕ → Type 0
Open R b = (more : List ℕ) × (x : _) × R x (b ++ more)

-- they end within a text in whose place another would do
pub record CutKey {A : Type 0} (R : A → List ℕ → Type 0) (b : List ℕ) : Type 0 where
  pub before : List ℕ
  pub cut : List ℕ
  pub is : b ≡ before ++ cut
  pub ends : (t : List ℕ) × (more : List ℕ) × SpellsText t (cut ++ more)
  pub other : (t : List ℕ) × (key : List ℕ) × SpellsText t key × Open R (before ++ key)

-- a fault that may stand within a text
abbrev pub InText : PackError → Type 0
InText Short = Unit {0}
InText (BadUtf8 at) = Unit {0}
InText _ = ⊥

-- a fault that no more bytes mend
abbrev pub IsHard : PackError → Type 0
IsHard Short = ⊥
IsHard Memory = ⊥
IsHard _ = Unit {0}

-- a fault that stands at a marker
abbrev pub AtMarker : PackError → Type 0
AtMarker Short = ⊥
AtMarker (BadUtf8 at) = ⊥
AtMarker Memory = ⊥
AtMarker _ = Unit {0}

-- a fault of a text's bytes
abbrev pub IsIll : PackError → Type 0
IsIll (BadUtf8 at) = Unit {0}
IsIll _ = ⊥

hard_marker : (err : PackError) → AtMarker err → IsHard err
hard_marker Short m = m
hard_marker (BadUtf8 at) m = absurd m
hard_marker Memory m = m
hard_marker _ m = tt

not_ill : (err : PackError) → AtMarker err → IsIll err → ⊥
not_ill (BadUtf8 at) m i = m
not_ill _ m i = i

-- a letter
abbrev pub letter : List ℕ
letter = 0x61 ∷ []

abbrev pub GoesOn : {A : Type 0} → (A → List ℕ → Type 0) → PackError → List ℕ → Type 0
GoesOn R err b = Open R b ⊎ (InText err × CutKey R b)

abbrev pub PlacedAt : PackError → ℕ → Type 0
PlacedAt Short n = Unit {0}
PlacedAt (Float at) n = at ≡ n
PlacedAt (BadMarker at) n = at ≡ n
PlacedAt (BadUtf8 at) n = at ≡ n
PlacedAt (RepeatedKey at) n = at ≡ n
PlacedAt (KeyNotText at) n = at ≡ n
PlacedAt (TooDeep at) n = at ≡ n
PlacedAt (TooLong at) n = at ≡ n
PlacedAt Memory n = ⊥

abbrev pub Shaped : PackError → List ℕ → Type 0
Shaped Short o = o ≡ []
Shaped (Float at) o = Offends (Float at) o
Shaped (BadMarker at) o = Offends (BadMarker at) o
Shaped (BadUtf8 at) o = Offends (BadUtf8 at) o
Shaped (RepeatedKey at) o = Offends (RepeatedKey at) o
Shaped (KeyNotText at) o = Offends (KeyNotText at) o
Shaped (TooDeep at) o = Offends (TooDeep at) o
Shaped (TooLong at) o = Offends (TooLong at) o
Shaped Memory o = ⊥

abbrev pub Reader : Type 0 → Type 0
Reader A = ℕ → List ℕ → Read A

-- whatever follows these bytes, nothing is read
abbrev pub NeverOk : {A : Type 0} → Reader A → List ℕ → Type 0
NeverOk f b = (total : ℕ) (more : List ℕ) (y : _) → f total (b ++ more) ≡ Ok y → ⊥

-- a fault in bytes among so many in all; G says what may go on
pub record Fault {A : Type 0} (G : PackError → List ℕ → Type 0) (f : Reader A) (total : ℕ) (b : List ℕ) (err : PackError) : Type 0 where
  pub before : List ℕ
  pub offence : List ℕ
  pub after : List ℕ
  pub parts : b ≡ before ++ (offence ++ after)
  pub place : PlacedAt err (total - length (offence ++ after))
  pub goes_on : G err before
  pub never : IsHard err → NeverOk f (before ++ offence)
  pub some : IsHard err → 0 < length offence
  pub shape : Shaped err offence
  pub ends : err ≡ Short → after ≡ []
  pub takes : IsIll err → G err (before ++ letter)

-- ---- lists

pub grouped : (a b c d : List ℕ) → ((a ++ b) ++ c) ++ d ≡ a ++ ((b ++ c) ++ d)
grouped a b c d = ap (λ (z : List ℕ). z ++ d) (append_assoc a b c) ∙ append_assoc a (b ++ c) d

-- ---- what goes on goes on in what holds it

pub goes_map : {A B : Type 0} (R : A → List ℕ → Type 0) (S : B → List ℕ → Type 0) (front : List ℕ) →
    ((z : List ℕ) → Open R z → Open S (front ++ z))
    → (err : PackError) (z : List ℕ) → GoesOn R err z → GoesOn S err (front ++ z)
goes_map R S front m err z (inl o) = inl (m z o)
goes_map R S front m err z (inr k) = let c = k.1 in inr (
  k.0,
  record {
    before = front ++ c.before;
    cut = c.cut;
    is = ap (λ (q : List ℕ). front ++ q) c.is ∙ sym (append_assoc front c.before c.cut);
    ends = c.ends;
    other = (
      c.other.0,
      c.other.1,
      c.other.2,
      subst (Open S) (sym (append_assoc front c.before c.other.1)) (m (c.before ++ c.other.1) c.other.3),
    );
  },
)

-- ---- a fault of a part is one of the whole

pub passed : {A B : Type 0} (G H : PackError → List ℕ →
    Type 0) (f : Reader A) (h : Reader B) (total : ℕ) (front rest b : List ℕ) (err : PackError) → b ≡ front ++ rest
    → ((z : List ℕ) → G err z → H err (front ++ z)) → ((all : ℕ) (z : List ℕ) (y : B × List ℕ) → h all (front ++ z) ≡ Ok y →
    (x : A × List ℕ) × (f all z ≡ Ok x))
    → Fault G f total rest err → Fault H h total b err
passed G H f h total front rest b err parts m step fault = record {
  before = front ++ fault.before;
  offence = fault.offence;
  after = fault.after;
  parts = parts ∙ ap (λ (z : List ℕ). front ++ z) fault.parts ∙ sym (append_assoc front fault.before (fault.offence ++ fault.after));
  place = fault.place;
  goes_on = m fault.before fault.goes_on;
  never = λ hard all more y e.
      let z = (fault.before ++ fault.offence) ++ more in
      let r = step all z y (ap (h all) (sym (grouped front fault.before fault.offence more)) ∙ e) in
      fault.never hard all more r.0 r.1;
  some = fault.some;
  shape = fault.shape;
  ends = fault.ends;
  takes = λ ill. subst (H err) (sym (append_assoc front fault.before letter)) (m (fault.before ++ letter) (fault.takes ill));
}

-- bytes that end too early
pub short_fault : {A : Type 0} (G : PackError → List ℕ → Type 0) (f : Reader A) (total : ℕ) (b : List ℕ) → G Short b →
    Fault G f total b Short
short_fault G f total b goes = record {
  before = b;
  offence = [];
  after = [];
  parts = sym (append-nil b);
  place = tt;
  goes_on = goes;
  never = λ hard. absurd hard;
  some = λ hard. absurd hard;
  shape = refl;
  ends = λ _. refl;
  takes = λ ill. absurd ill;
}

-- a fault at a marker
pub marker_fault : {A : Type 0} (G : PackError → List ℕ →
    Type 0) (f : Reader A) (total m : ℕ) (more rest bytes : List ℕ) (err : PackError) → bytes ≡ more ++ rest → AtMarker err
    → PlacedAt err (total - length (m ∷ bytes)) → G err [] → NeverOk f (m ∷ more) → Shaped err (m ∷ more) → Fault G f total (m ∷ bytes) err
marker_fault G f total m more rest bytes err parts hard place goes never shape = record {
  before = [];
  offence = m ∷ more;
  after = rest;
  parts = ap (λ (z : List ℕ). m ∷ z) parts;
  place = subst (λ (z : List ℕ). PlacedAt err (total - length (m ∷ z))) parts place;
  goes_on = goes;
  never = λ _. never;
  some = λ _. omega arith;
  shape = shape;
  ends = λ e. absurd (soft err e (hard_marker err hard));
  takes = λ ill. absurd (not_ill err hard ill);
}
  where
    soft : (d : PackError) → d ≡ Short → IsHard d → ⊥
    soft d e h = subst IsHard e h

-- ---- steps that failed

pub split : {A B : Type 0} (r : Result A PackError) (f : A → Result B PackError) (err : PackError) → (r >>= f) ≡ Err err
    → (r ≡ Err err) ⊎ ((x : A) × (r ≡ Ok x) × (f x ≡ Err err))
split (Ok x) f err e = inr (x, refl, e)
split (Err d) f err e = inl (let same : d ≡ err = cc in ap (λ (k : PackError). failed k) same)
  where
    failed : {A : Type 0} → PackError → Result A PackError
    failed k = Err k

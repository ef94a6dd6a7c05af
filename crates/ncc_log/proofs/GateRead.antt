-- What stands at a gate, from the bytes that are read there.
use Rattle.std.proofs.Common.{◌≡◌, ℕ, suc, ◌+◌, ◌-◌, ◌^◌, ◌<◌, ◌≤◌, List, [], ◌∷◌, ◌++◌, length, get_or, take}
use Rattle.std.proofs.Common.{drop, refl, sym}
use Rattle.std.proofs.Common.{◌∙◌, ap, append_assoc, arith, length-append, length-drop, length-take, take-append-drop}
use Rattle.std.specs.Int.{w32, from_be_bytes, to_be_bytes}
use Rattle.std.proofs.lemmas.List.{drop-take, length-take-le, take_at, take_rest}
use Rattle.std.proofs.lemmas.Nat.{be_bytes_4, from_be_bytes-to_be_bytes_4}
use Rattle.ncc_tx.specs.declared.entry.ChangeSet.{ChangeSet}
use Rattle.ncc_tx.specs.declared.entry.Saved.{Saved}
use Rattle.ncc_tx.specs.Kept.{payload}
use Rattle.ncc_log.specs.Records.{BeginsWith, Breaks, MayStandBehind, here, recorded}
use Rattle.ncc_tx.proofs.ItemRead.{AreBytes}
use Rattle.ncc_log.proofs.FrontRead.{take_bytes}
use Rattle.ncc_log.proofs.One.{Fits, cut, fits_of, recorded_is, recorded_long}

-- what is read behind a gate and a size
pub behind_head : (bs x : List ℕ) (size : ℕ) → x ≡ take (5 + size) bs → take (length x - 5) (drop 5 x) ≡ take size (drop 5 bs)
behind_head bs x size e = take_rest x 5 ∙ ap (drop 5) e ∙ drop-take 5 size bs

-- a closed gate, where one is read
pub closed_there : (bs : List ℕ) → 1 ≤ length (take 5 bs) → get_or (take 5 bs) 0 0 ≡ 0 → (more : List ℕ) × (bs ≡ 0 ∷ more)
closed_there [] some shut = absurd (omega arith)
closed_there (g ∷ rest) some shut = (rest, ap (λ (k : ℕ). k ∷ rest) shut)

-- the size that is read is that of the payload
pub size_is : (c : ChangeSet) (rest r : List ℕ) (size : ℕ) → Fits c → size < 2 ^ 32 → recorded c ++ rest ≡ to_be_bytes w32 size ++ r →
    (length (payload c) ≡ size) × (payload c ++ rest ≡ r)
size_is c rest r size f few e =
    let m : List ℕ = to_be_bytes w32 (length (payload c)) in
    let n : List ℕ = to_be_bytes w32 size in
    let whole : m ++ (payload c ++ rest) ≡ n ++ r = sym (append_assoc m (payload c) rest)
    ∙ ap (λ (l : List ℕ). l ++ rest) (sym (recorded_is c)) ∙ e in
    let parts = cut m n (payload c ++ rest) r whole refl in (
      sym (from_be_bytes-to_be_bytes_4 (length (payload c)) f.short) ∙ ap (from_be_bytes w32) parts.0
          ∙ from_be_bytes-to_be_bytes_4 size few,
      parts.1,
    )

-- an open gate at which the bytes end too early
pub broken_there : (s : Saved) (at : ℕ) (bs : List ℕ) → 0 < length bs →
    (1 ≤ length (take 5 bs) → get_or (take 5 bs) 0 0 ≡ 0 → ⊥) → length (take 5 bs) < 5 → Breaks s at bs at
broken_there s at [] some shut short = absurd (omega arith)
broken_there s at (g ∷ rest) some shut short =
    here s at (g ∷ rest) g rest (λ is. shut (omega arith) is) refl
    (λ c b. omega (
      arith,
      length-take 5 (g ∷ rest),
      short,
      ap length b.same,
      length-append (recorded c) b.rest,
      recorded_long c,
      b.gate_behind,
    ))

-- an open gate and a size
pub open_is : (bytes : List ℕ) (size : ℕ) → AreBytes bytes → 5 ≤ length bytes → (get_or bytes 0 0 ≡ 0 → ⊥) →
    size < 2 ^ 32 → size ≡ from_be_bytes w32 (take 4 (drop 1 bytes))
    → (gate : ℕ) × (rest : List ℕ) × (gate ≡ 0 → ⊥) × (size < 2 ^ 32) × (bytes ≡ gate ∷ (to_be_bytes w32 size ++ rest))
open_is [] size all long is_open few is = absurd (omega arith)
open_is (g ∷ bs) size all long is_open few is =
    let four : length (take 4 bs) ≡ 4 = length-take-le 4 bs (omega arith) in
    let tail : AreBytes bs = λ k. all (suc k) in
    let bytes : AreBytes (take 4 bs) = take_bytes bs 4 tail in
    let spelled : to_be_bytes w32 size ≡ take 4 bs = be_bytes_4 (take 4 bs) size four bytes is in (
      g,
      drop 4 bs,
      is_open,
      few,
      ap (λ (l : List ℕ). g ∷ l) (sym (take-append-drop 4 bs) ∙ ap (λ (l : List ℕ). l ++ drop 4 bs) (sym spelled)),
    )

-- an open gate with a size behind it
module _ (s : Saved) (at : ℕ) (bs : List ℕ) (gate size : ℕ) (rest : List ℕ) (is_open : gate ≡ 0 → ⊥) (few : size < 2 ^ 32)
    (head : take 5 bs ≡ gate ∷ (to_be_bytes w32 size ++ rest)) where
  abbrev behind : List ℕ
  behind = drop 5 bs

  pub split : bs ≡ gate ∷ (to_be_bytes w32 size ++ behind)
  split =
      let five : length (take 5 bs) ≡ 5 + length rest = ap length head ∙ omega (arith, length-append (to_be_bytes w32 size) rest, four) in
      let none : rest ≡ [] = empty rest (omega (arith, five, length-take 5 bs)) in
      sym (take-append-drop 5 bs) ∙ ap (λ (l : List ℕ). l ++ behind) (head
      ∙ ap (λ (l : List ℕ). gate ∷ (to_be_bytes w32 size ++ l)) none)
      ∙ ap (λ (l : List ℕ). gate ∷ l) (append_assoc (to_be_bytes w32 size) [] behind)
    where
      four : length (to_be_bytes w32 size) ≡ 4
      four = refl

      empty : (l : List ℕ) → length l ≡ 0 → l ≡ []
      empty [] e = refl
      empty (x ∷ xs) e = absurd (omega arith)

  -- the record of a change that stands there has this size
  pub of_size : (c : ChangeSet) → BeginsWith s (to_be_bytes w32 size ++ behind) c →
      (length (payload c) ≡ size) × (size + 1 ≤ length behind) × (take size behind ≡ payload c)
  of_size c b =
      let e = size_is c b.rest behind size (fits_of s c b.may) few (sym b.same) in (
        e.0,
        omega (arith, e.0, ap length e.1, length-append (payload c) b.rest, b.gate_behind),
        ap (take size) (sym e.1) ∙ take_at (payload c) b.rest size e.0,
      )

  pub none_there : ((c : ChangeSet) → BeginsWith s (to_be_bytes w32 size ++ behind) c → ⊥) → Breaks s at bs at
  none_there none = here s at bs gate (to_be_bytes w32 size ++ behind) is_open split none

  -- the record with its next gate does not end inside
  pub too_long : length bs ≤ 5 + size → Breaks s at bs at
  too_long le = none_there (λ c b. omega (arith, (of_size c b).1, length-drop 5 bs, le))

  -- the payload is none of a change that may follow
  pub unread : ((c : ChangeSet) → MayStandBehind s c → take size behind ≡ payload c → ⊥) → Breaks s at bs at
  unread none = none_there (λ c b. none c b.may (of_size c b).2)

  -- the payload is that of a change
  pub record_there : (c : ChangeSet) → take size behind ≡ payload c → 5 + size < length bs →
      (rest : List ℕ) × (bs ≡ gate ∷ (recorded c ++ rest)) × (1 ≤ length rest) × (size ≡ length (payload c))
  record_there c e lt =
      let long : size ≤ length behind = omega (arith, length-drop 5 bs, lt) in
      let same : size ≡ length (payload c) = sym (length-take-le size behind long) ∙ ap length e in
      let after : List ℕ = drop size behind in
      let whole : to_be_bytes w32 size ++ behind ≡ recorded c ++ after =
      ap (λ (l : List ℕ). to_be_bytes w32 size ++ l) (sym (take-append-drop size behind)
      ∙ ap (λ (l : List ℕ). l ++ after) e)
      ∙ ap (λ (n : ℕ). to_be_bytes w32 n ++ (payload c ++ after)) same
      ∙ sym (append_assoc (to_be_bytes w32 (length (payload c))) (payload c) after)
      ∙ ap (λ (l : List ℕ). l ++ after) (sym (recorded_is c)) in (
        after,
        split ∙ ap (λ (l : List ℕ). gate ∷ l) whole,
        omega (arith, length-drop size behind, length-drop 5 bs, lt),
        same,
      )

-- A save that a disk in memory stops, and a crash behind it.
use Rattle.std.proofs.Common.{◌≡◌, ℕ, zero, suc, ◌+◌, ◌-◌, ◌<◌, ◌≤◌, List, [], ◌∷◌, ◌++◌, length, take, drop, refl, sym, ◌∙◌, ap}
use Rattle.std.proofs.Common.{subst, arith, append_assoc, length-append, Bool, true, false}
use Rattle.std.specs.Prelude.{if◌then◌else◌, nat_eq, nat_lt, ◌||◌}
use Rattle.std.proofs.lemmas.Bool.Decides.{nat_tests}
use Rattle.std.proofs.lemmas.List.{drop_at, take_at}
use Rattle.ncc_base.specs.Disk.{Asked, Only, Sync, Torn, Write}
use Rattle.ncc_base.specs.MemDisk.{Content, Device, IsImage, Went, content, course, crashed, did_sync, drawn, effect, first_drawn, goes}
use Rattle.ncc_base.specs.MemDisk.{left_by, seeded, with_bytes, writes, wrote}
use Rattle.ncc_base.specs.MemLaws.{long_with}
use Rattle.ncc_base.specs.declared.mem_disk.Range.{Range}
use Rattle.ncc_base.specs.declared.mem_disk.Setting.TheVariants.{StopAt}
use Rattle.ncc_base.proofs.Calls.{crash_of_write}
use Rattle.ncc_base.proofs.Drawn.{crash_image, drawn_one}
use Rattle.ncc_base.proofs.Runs.{content_of_no_sync, content_of_sync, content_of_write, crashed_seen, first_drawn_is, goes_writes}
use Rattle.ncc_base.proofs.Runs.{stop_comes}
use Rattle.ncc_base.proofs.Runs.{draws_00, draws_A8, stop_nears, went_end, went_first, went_rest}
use Rattle.ncc_tx.specs.declared.entry.ChangeSet.{ChangeSet}
use Rattle.ncc_tx.specs.declared.entry.Saved.{Saved}
use Rattle.ncc_tx.specs.Kept.{part_after}
use Rattle.ncc_log.specs.Calls.{gated, stopped}
use Rattle.ncc_log.specs.Records.{MayStandBehind, recorded}
use Rattle.ncc_log.specs.Saves.{Saves}
use Rattle.ncc_log.specs.Shown.{ClosedAt, LeadsTo}
use Rattle.ncc_log.specs.Stops.{IsToStop, gate_left, left_part}
use Rattle.ncc_log.proofs.Crash.{front_long, torn_closed, written_behind}
use Rattle.ncc_log.proofs.Save.{closed_gate, open_gate, same_part}

-- ---- what a crash leaves of a gate that was written, where all else is stable

opened : (file : List ℕ) (gate : ℕ) → Content
opened file gate = record { seen = with_bytes gate (1 ∷ []) file; stable = file; ranges = record { at = gate; count = 1 } ∷ [] }

gate_is : (word : ℕ) (file front tail : List ℕ) (gate : ℕ) → length front ≡ gate → file ≡ front ++ (0 ∷ tail) →
    left_by word (opened file gate) ≡ front ++ (gate_left word ∷ tail)
unfolding opened
gate_is word file front tail gate long is = go (nat_eq word 0) (nat_eq word 1) where
  first : take gate file ≡ front
  first = ap (λ (l : List ℕ). take gate l) is ∙ take_at front (0 ∷ tail) gate long

  rest : drop (gate + 1) file ≡ tail
  rest = ap (λ (l : List ℕ). drop (gate + 1) l) (is ∙ sym (append_assoc front (0 ∷ []) tail))
      ∙ drop_at (front ++ 0 ∷ []) tail (gate + 1) (omega (arith, length-append front (0 ∷ []), long))

  inside : gate < length file
  inside = omega (arith, ap (λ (l : List ℕ). length l) is, length-append front (0 ∷ tail), long)

  same_long : length (with_bytes gate (1 ∷ []) file) ≡ length file
  same_long = omega (arith, long_with gate (1 ∷ []) file (omega (arith, inside)), inside)

  ranges : List Range
  ranges = record { at = gate; count = 1 } ∷ []

  parts : (b : ℕ) → take gate file ++ (b ∷ drop (gate + 1) file) ≡ front ++ (b ∷ tail)
  parts b = ap (λ (l : List ℕ). l ++ (b ∷ drop (gate + 1) file)) first ∙ ap (λ (l : List ℕ). front ++ (b ∷ l)) rest

  go : (a b : Bool) → (if a then file else (if b then with_bytes gate (1 ∷ []) file
      else drawn (seeded word) file (record { at = gate; count = 1 } ∷ []) 0 (length (with_bytes gate (1 ∷ []) file)))) ≡
      front ++ ((if a then 0 else (if b then 1 else first_drawn word)) ∷ tail)
  go true b = is
  go false true = append_assoc (take gate file) (1 ∷ []) (drop (gate + 1) file) ∙ parts 1
  go false false =
      ap (λ (n : ℕ). drawn (seeded word) file (record { at = gate; count = 1 } ∷ []) 0 n) same_long
      ∙ drawn_one (seeded word) file gate inside
      ∙ ap (λ (b : ℕ). take gate file ++ (b ∷ drop (gate + 1) file)) (first_drawn_is word)
      ∙ parts (first_drawn word)

-- ---- the four calls of a body behind a gate

module _ (gate call : ℕ) (body : List ℕ) (old : Device) (stop : old.setting ≡ StopAt call) (closed : ClosedAt gate (content old).seen)
    (only : Only (content old).seen (IsImage (content old))) where
  abbrev file : List ℕ
  file = (content old).seen

  abbrev front : List ℕ
  front = take gate file

  -- the devices after one call, two and three
  abbrev one : Device
  one = wrote (gate + 1) body old

  abbrev two : Device
  two = did_sync one

  abbrev three : Device
  three = wrote gate (1 ∷ []) two

  abbrev behind : List ℕ
  behind = body ++ drop (gate + 1 + length body) file

  -- after the first call the gate is closed, whatever a crash leaves
  closed_in : (c : List ℕ) → IsImage (content one) c → c ≡ front ++ (0 ∷ drop (gate + 1) c)
  closed_in c image =
      let f = crash_of_write (gate + 1) body old one refl (omega (arith, closed.within)) c image in
      torn_closed gate file body closed (length body) c (subst (λ (l : List ℕ). Torn (gate + 1) (length body) l c) (only f.0 f.1) f.2)

  closed_left : (word : ℕ) (new : Device) → content new ≡ content one → (content (crashed word new)).seen ≡
      front ++ (0 ∷ drop (gate + 1) (content (crashed word new)).seen)
  closed_left word new same = closed_in (content (crashed word new)).seen
      (subst (λ (k : Content). IsImage k (content (crashed word new)).seen) same (crash_image word new (crashed word new) refl))

  -- the second makes the body last, and the third writes the gate
  module _ (first : goes (course old.setting) ≡ true) (second : goes (course one.setting) ≡ true)
      (third : writes (course two.setting) ≡ true) where
    abbrev kept : List ℕ
    kept = with_bytes (gate + 1) body file

    kept_is : kept ≡ front ++ (0 ∷ behind)
    kept_is = written_behind gate file body closed kept refl

    seen_one : (content one).seen ≡ kept
    seen_one = ap (λ (k : Content). k.seen) (content_of_write (gate + 1) body old (goes_writes (course old.setting) first))

    content_two : content two ≡ record { seen = kept; stable = kept; ranges = [] }
    content_two = content_of_sync one second ∙ ap (λ (l : List ℕ). record { seen = l; stable = l; ranges = [] }) seen_one

    content_three : content three ≡ opened kept gate
    unfolding opened
    content_three = content_of_write gate (1 ∷ []) two third ∙ ap (effect (Write gate (1 ∷ []) true)) content_two

    gate_in : (word : ℕ) (new : Device) → content new ≡ content three → (content (crashed word new)).seen ≡
        front ++ (gate_left word ∷ behind)
    gate_in word new same =
        crashed_seen word new ∙ ap (left_by word) (same ∙ content_three)
        ∙ gate_is word kept front behind gate (front_long gate file body closed) kept_is

-- ---- what that stands for

module _ (cluster member gate call word : ℕ) (old new : Device) (s : Saved) (c : ChangeSet) (h : IsToStop cluster member gate call old s)
    (may : MayStandBehind s c) where
  abbrev body : List ℕ
  body = recorded c ++ 0 ∷ []

  abbrev after : Saved
  after = part_after s c

  abbrev left : List ℕ
  left = (content (crashed word new)).seen

  leads : LeadsTo cluster member (take gate (content old).seen) s
  leads = subst (LeadsTo cluster member (take gate (content old).seen))
      (sym (same_part cluster member gate (content old).seen (IsImage (content old)) h.ready s h.saves)) h.ready.leads

  -- stopped before the gate was written
  early : (rest : List ℕ) → call < 3 → left ≡ take gate (content old).seen ++ (0 ∷ rest) →
      Saves cluster member left (left_part call word s after)
  early rest few is = go (nat_lt call 3) (nat_eq (gate_left word) 0) (grind (arith, nat_tests)) where
    go : (a b : Bool) → a ≡ true → Saves cluster member left (if a || b then s else after)
    go true b e = closed_gate cluster member (take gate (content old).seen) s leads rest left is
    go false b e = absurd (cc)

  -- and then
  late : (rest : List ℕ) → 3 ≤ call → left ≡ take gate (content old).seen ++ (gate_left word ∷ (body ++ rest)) →
      Saves cluster member left (left_part call word s after)
  late rest many is = go (nat_lt call 3) (nat_eq (gate_left word) 0) (grind (arith, nat_tests)) refl where
    front : List ℕ
    front = take gate (content old).seen

    go : (a b : Bool) → a ≡ false → nat_eq (gate_left word) 0 ≡ b → Saves cluster member left (if a || b then s else after)
    go true b e f = absurd (cc)
    go false true e f =
        let shut : gate_left word ≡ 0 = grind (arith, nat_tests) in
        closed_gate cluster member (take gate (content old).seen) s leads (body ++ rest) left
        (is ∙ ap (λ (x : ℕ). take gate (content old).seen ++ (x ∷ (body ++ rest))) shut)
    go false false e f =
        let is_open : gate_left word ≡ 0 → ⊥ = λ shut. grind (arith, nat_tests) in
        open_gate cluster member (take gate (content old).seen) s leads c may (gate_left word) rest left is_open is

  pub stopped_leaves : (n : ℕ) → n < 4 → Went old (stopped n (gated gate body)) new →
      (call ≡ n + 1) × Saves cluster member left (left_part call word s after)
  stopped_leaves zero lt w =
      let first : goes (course old.setting) ≡ false = went_first old new (Write (gate + 1) body false) [] w in
      let e = went_end (wrote (gate + 1) body old) new (went_rest old new (Write (gate + 1) body false) [] w) in
      let at = stop_comes old.setting call h.setting first in
      let num : call ≡ 0 + 1 = omega (arith, at.0, h.first) in (
        num,
        early (drop (gate + 1) left) (omega (arith, num))
            (closed_left gate call body old h.setting h.ready.closed h.ready.only word new (ap content e)),
      )
  stopped_leaves (suc zero) lt w =
      let one : Device = wrote (gate + 1) body old in
      let first : goes (course old.setting) ≡ true = went_first old new (Write (gate + 1) body true) (Sync false ∷ []) w in
      let w1 : Went one (Sync false ∷ []) new = went_rest old new (Write (gate + 1) body true) (Sync false ∷ []) w in
      let second : goes (course one.setting) ≡ false = went_first one new (Sync false) [] w1 in
      let e = went_end (did_sync one) new (went_rest one new (Sync false) [] w1) in
      let near = stop_nears old.setting call h.setting first in
      let at = stop_comes one.setting (call - 1) near.1 second in
      let num : call ≡ 1 + 1 = omega (arith, at.0, near.0) in (
        num,
        early (drop (gate + 1) left) (omega (arith, num))
            (closed_left gate call body old h.setting h.ready.closed h.ready.only word new (ap content e ∙ content_of_no_sync one second)),
      )
  stopped_leaves (suc (suc zero)) lt w =
      let one : Device = wrote (gate + 1) body old in
      let two : Device = did_sync one in
      let rest1 : List Asked = Sync true ∷ Write gate (1 ∷ []) false ∷ [] in
      let rest2 : List Asked = Write gate (1 ∷ []) false ∷ [] in
      let first : goes (course old.setting) ≡ true = went_first old new (Write (gate + 1) body true) rest1 w in
      let w1 : Went one rest1 new = went_rest old new (Write (gate + 1) body true) rest1 w in
      let second : goes (course one.setting) ≡ true = went_first one new (Sync true) rest2 w1 in
      let w2 : Went two rest2 new = went_rest one new (Sync true) rest2 w1 in
      let third : goes (course two.setting) ≡ false = went_first two new (Write gate (1 ∷ []) false) [] w2 in
      let e = went_end (wrote gate (1 ∷ []) two) new (went_rest two new (Write gate (1 ∷ []) false) [] w2) in
      let near = stop_nears old.setting call h.setting first in
      let nearer = stop_nears one.setting (call - 1) near.1 second in
      let at = stop_comes two.setting (call - 1 - 1) nearer.1 third in
      let num : call ≡ 2 + 1 = omega (arith, at.0, nearer.0) in (
        num,
        late (drop (gate + 1 + length body) (content old).seen) (omega (arith, num))
            (gate_in gate call body old h.setting h.ready.closed h.ready.only first second at.1 word new (ap content e)),
      )
  stopped_leaves (suc (suc (suc zero))) lt w =
      let one : Device = wrote (gate + 1) body old in
      let two : Device = did_sync one in
      let three : Device = wrote gate (1 ∷ []) two in
      let rest3 : List Asked = Sync false ∷ [] in
      let rest2 : List Asked = Write gate (1 ∷ []) true ∷ rest3 in
      let rest1 : List Asked = Sync true ∷ rest2 in
      let first : goes (course old.setting) ≡ true = went_first old new (Write (gate + 1) body true) rest1 w in
      let w1 : Went one rest1 new = went_rest old new (Write (gate + 1) body true) rest1 w in
      let second : goes (course one.setting) ≡ true = went_first one new (Sync true) rest2 w1 in
      let w2 : Went two rest2 new = went_rest one new (Sync true) rest2 w1 in
      let third : goes (course two.setting) ≡ true = went_first two new (Write gate (1 ∷ []) true) rest3 w2 in
      let w3 : Went three rest3 new = went_rest two new (Write gate (1 ∷ []) true) rest3 w2 in
      let fourth : goes (course three.setting) ≡ false = went_first three new (Sync false) [] w3 in
      let e = went_end (did_sync three) new (went_rest three new (Sync false) [] w3) in
      let near = stop_nears old.setting call h.setting first in
      let nearer = stop_nears one.setting (call - 1) near.1 second in
      let next_to = stop_nears two.setting (call - 1 - 1) nearer.1 third in
      let at = stop_comes three.setting (call - 1 - 1 - 1) next_to.1 fourth in
      let num : call ≡ 3 + 1 = omega (arith, at.0, next_to.0) in (
        num,
        late (drop (gate + 1 + length body) (content old).seen) (omega (arith, num))
            (gate_in gate call body old h.setting h.ready.closed h.ready.only first second (goes_writes (course two.setting) third) word new
            (ap content e ∙ content_of_no_sync three fourth)),
      )
  stopped_leaves (suc (suc (suc (suc n)))) lt w = absurd (omega (arith, lt))

-- ---- and four calls that succeed were told no stop

pub none_fails : (call gate : ℕ) (old new : Device) (body : List ℕ) → old.setting ≡ StopAt call → call ≤ 4 →
    Went old (gated gate body) new → ⊥
none_fails call gate old new body stop few w =
    let one : Device = wrote (gate + 1) body old in
    let two : Device = did_sync one in
    let three : Device = wrote gate (1 ∷ []) two in
    let rest3 : List Asked = Sync true ∷ [] in
    let rest2 : List Asked = Write gate (1 ∷ []) true ∷ rest3 in
    let rest1 : List Asked = Sync true ∷ rest2 in
    let first : goes (course old.setting) ≡ true = went_first old new (Write (gate + 1) body true) rest1 w in
    let w1 : Went one rest1 new = went_rest old new (Write (gate + 1) body true) rest1 w in
    let second : goes (course one.setting) ≡ true = went_first one new (Sync true) rest2 w1 in
    let w2 : Went two rest2 new = went_rest one new (Sync true) rest2 w1 in
    let third : goes (course two.setting) ≡ true = went_first two new (Write gate (1 ∷ []) true) rest3 w2 in
    let w3 : Went three rest3 new = went_rest two new (Write gate (1 ∷ []) true) rest3 w2 in
    let fourth : goes (course three.setting) ≡ true = went_first three new (Sync true) [] w3 in
    let near = stop_nears old.setting call stop first in
    let nearer = stop_nears one.setting (call - 1) near.1 second in
    let next_to = stop_nears two.setting (call - 1 - 1) nearer.1 third in
    let last = stop_nears three.setting (call - 1 - 1 - 1) next_to.1 fourth in
    omega (arith, last.0, few)

-- ---- worked

pub third_of : (s t : Saved) → (left_part 3 0 s t ≡ s) × (left_part 3 140 s t ≡ s) × (left_part 3 1 s t ≡ t) × (left_part 3 2 s t ≡ t)
third_of s t =
    let P : ℕ → Saved = λ (gate : ℕ). if nat_eq gate 0 then s else t in
    (refl, ap P draws_00, refl, ap P draws_A8)

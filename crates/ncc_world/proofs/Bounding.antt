-- Over one list the history has no more entries than the cluster's limit.
use Rattle.std.proofs.Common.{◌≡◌, ◌≢◌, ℕ, zero, suc, ◌+◌, ◌-◌, ◌<◌, ◌≤◌, ◌^◌, ◌==◌, nat_le, Bool, true, false, cond, List, [], ◌∷◌, ◌++◌, length}
use Rattle.std.proofs.Common.{refl, ap, sym, ◌∙◌, arith, length-append, subst, inl, inr}
use Rattle.std.specs.Prelude.{slice_set, replicate}
use Rattle.std.proofs.lemmas.Bool.Decides.{leb_tells}
use Rattle.std.proofs.lemmas.List.{get_or-set_other}
use Rattle.ncc_tx.specs.declared.entry.Entry.{Entry}
use Rattle.ncc_tx.specs.declared.entry.Item.{Item}
use Rattle.ncc_clients.specs.Members.{Proposed, elsewhere, full, placed}
use Rattle.ncc_clients.specs.Run.{Client, begun, proposed}
use Rattle.ncc_clients.specs.Moment.{Small, Ticks, Opens, Feeds, Tells, Offers, Moves, Restarts, Drives, Closes, Path, Here, Then}
use Rattle.ncc_clients.specs.Course.{HasNumbers}
use Rattle.ncc_world.specs.declared.setup.Setup.{Setup}
use Rattle.ncc_world.specs.Setting.{IsSetup, Lists, Applies, cluster_of, list_at, appended, item_of, proposes, extended, MovesTo}
use Rattle.ncc_world.specs.Setting.{RestartsTo, Seats, over_list, over_raft, seats_of}
use Rattle.ncc_world.specs.Happening.{WorldRun}
use Rattle.ncc_world.proofs.Listed.{Kept, reached}

-- so many at most
abbrev BoundedList : Setup → Lists → Type 0
BoundedList s lists = length (list_at lists 1) ≤ s.limit

-- members over one list whose first is bounded
abbrev Bounded : Setup → Seats → Type 0
Bounded s (over_list lists) = BoundedList s lists
Bounded s (over_raft fleet) = ⊥

first_set : (lists : Lists) (x : List Item) → length (list_at (slice_set lists 0 x) 1) ≤ length x
first_set [] x = omega arith
first_set (y ∷ ys) x = omega arith

applied_bounded : (s : Setup) (lists members : Lists) → Applies lists members → BoundedList s lists → BoundedList s members
applied_bounded s lists members a h =
    let other : 0 ≢ a.member - 1 = λ e. omega (arith, a.follows, e) in
    let x : List Item = extended (list_at lists a.member) (list_at lists 1) a.count in
    let same : list_at members 1 ≡ list_at lists 1 =
    ap (λ (ls : Lists). list_at ls 1) a.same ∙ get_or-set_other lists (a.member - 1) 0 x [] other in
    subst (λ (l : List Item). length l ≤ s.limit) (sym same) h

appended_bounded : (s : Setup) (lists : Lists) (entry : Entry) → nat_le s.limit (length (list_at lists 1)) ≡ false
    → BoundedList s (appended lists entry)
appended_bounded s lists entry e = elim (leb_tells s.limit (length (list_at lists 1))) [
  | inl h ↦ absurd (let z = h.0 in cc)
  | inr h ↦ omega (
    arith,
    h.1,
    first_set lists (list_at lists 1 ++ (item_of entry ∷ [])),
    length-append (list_at lists 1) (item_of entry ∷ []),
  )
]

placed_bounded : (s : Setup) (lists : Lists) (member : ℕ) (entry : Entry) (place term : ℕ) (after : Seats)
    → (cluster_of s).propose (over_list lists) member entry ≡ placed place term after → Bounded s after
placed_bounded s lists member entry place term after e = go (member == 1) e where
  there : (b : Bool) → nat_le s.limit (length (list_at lists 1)) ≡ b
      → cond b (full (length (list_at lists 1))) (placed (length (list_at lists 1) + 1) 1 (over_list (appended lists entry))) ≡ placed place term after
      → Bounded s after
  there true f h = absurd (cc)
  there false f h =
      let so : over_list (appended lists entry) ≡ after = cc in
      subst (λ (x : Seats). Bounded s x) so (appended_bounded s lists entry f)

  go : (b : Bool) → cond b (proposes s.limit lists entry) elsewhere ≡ placed place term after → Bounded s after
  go true h = there (nat_le s.limit (length (list_at lists 1))) refl h
  go false h = absurd (cc)

placed_among : (s : Setup) (seats : Seats) (member : ℕ) (entry : Entry) (place term : ℕ) (after : Seats)
    → (cluster_of s).propose seats member entry ≡ placed place term after → Bounded s seats → Bounded s after
placed_among s (over_list lists) member entry place term after e h = placed_bounded s lists member entry place term after e
placed_among s (over_raft fleet) member entry place term after e h = absurd h

moved_bounded : (s : Setup) (seats members : Seats) → MovesTo s seats members → Bounded s seats → Bounded s members
moved_bounded s (over_list lists) members m h = subst (λ (x : Seats). Bounded s x) (sym m.2) (applied_bounded s lists m.0 m.1 h)
moved_bounded s (over_raft fleet) members m h = absurd h

restarted_bounded : (s : Setup) (seats : Seats) (member : ℕ) (members : Seats) → RestartsTo s seats member members → Bounded s seats
    → Bounded s members
restarted_bounded s (over_list lists) member members m h = absurd m
restarted_bounded s (over_raft fleet) member members m h = absurd h

proposed_bounded : (s : Setup) (line : ℕ) (r : WorldRun) (i : ℕ) (c : Client) (entry : Entry) (p : Proposed Seats)
    → (cluster_of s).propose r.members c.member entry ≡ p → Bounded s r.members
    → Bounded s (proposed (cluster_of s) line r i c p).members
proposed_bounded s line r i c entry elsewhere e h = h
proposed_bounded s line r i c entry (full entries) e h = h
proposed_bounded s line r i c entry (placed place term after) e h = placed_among s r.members c.member entry place term after e h

small_bounded : (s : Setup) (r t : WorldRun) → Small (cluster_of s) r t → Bounded s r.members → Bounded s t.members
small_bounded s r t (Ticks _ to le) h = h
small_bounded s r t (Opens _ member printed some) h = h
small_bounded s r t (Feeds _ i c piece is) h = h
small_bounded s r t (Tells line _ i c fact is) h = h
small_bounded s r t (Offers line _ i c entry is) h =
    proposed_bounded s line r i c entry ((cluster_of s).propose r.members c.member entry) refl h
small_bounded s r t (Moves _ members is) h = moved_bounded s r.members members is h
small_bounded s r t (Restarts _ member members is none) h = restarted_bounded s r.members member members is h
small_bounded s r t (Drives _ driving) h = h
small_bounded s r t (Closes _ i c is) h = h

path_bounded : (s : Setup) (r t : WorldRun) → Path (cluster_of s) r t → Bounded s r.members → Bounded s t.members
path_bounded s r t (Here _) h = h
path_bounded s r t (Then _ m _ first rest) h = path_bounded s m t rest (small_bounded s r m first h)

start_bounded : (s : Setup) → Bounded s (seats_of s)
start_bounded s = go (s.cores + s.replicas) where
  go : (n : ℕ) → length (list_at (replicate n []) 1) ≤ s.limit
  go zero = omega arith
  go (suc n) = omega arith

pub has_numbers : (s : Setup) → IsSetup s → HasNumbers (cluster_of s) (seats_of s)
has_numbers s setup = record { id = setup.id; places = λ r p. few r p } where
  few : (r : WorldRun) → Path (cluster_of s) (begun (seats_of s)) r → length r.history < 2 ^ 64
  few r p =
      let bounded : Bounded s r.members = path_bounded s (begun (seats_of s)) r p (start_bounded s) in
      let k : Kept r = reached s setup r p in
      let within : length r.history ≤ s.limit = subst (λ (x : Seats). Bounded s x) k.members_are bounded in
      omega (arith, within, setup.limit.1)

-- Members over Raft keep what their clients rest on: whatever happens is a way that the fleet goes, and of that the laws of a fleet speak.
use Rattle.std.proofs.Common.{◌≡◌, ℕ, zero, suc, ◌-◌, ◌<◌, ◌≤◌, Bool, true, false, cond, List, [], ◌∷◌, length, None, Some, refl}
use Rattle.std.proofs.Common.{ap, sym, ◌∙◌, subst, append-nil}
use Rattle.std.specs.Prelude.{slice_get, slice_set, nat_lt, IsTrue, if◌then◌else◌}
use Rattle.std.specs.List.{AllByRecursion}
use Rattle.ncc_tx.specs.declared.entry.Entry.{Entry}
use Rattle.ncc_tx.specs.declared.entry.Item.{Item}
use Rattle.ncc_tx.specs.Items.{entry_allowed}
use Rattle.ncc_session.specs.Core.{leave_of}
use Rattle.ncc_session.specs.Session.{asked_at}
use Rattle.ncc_session.proofs.Asked.{asks_fine}
use Rattle.ncc_safety.specs.Lists.{Begins as StartsAs}
use Rattle.ncc_safety.specs.Cluster.{grown}
use Rattle.ncc_safety.specs.Fleet.{Shape, Fleet, Seen, Goes, ByMove, ByProposal, ByRestart, Answer, Elsewhere, Full, Placed, Places}
use Rattle.ncc_safety.specs.Fleet.{Path as Way, Here as Stays, Then as Further}
use Rattle.ncc_safety.specs.Fleet.{answer, applied_at, applied_lists, fleet_start, seen_next}
use Rattle.ncc_safety.proofs.FleetLaws.{lists_begin, history_goes_on, moves_keep, proposals_keep, restarts_keep}
use Rattle.ncc_safety.proofs.FleetLaws.{placed_stays, placed_behind, placed_apart}
use Rattle.ncc_clients.specs.Members.{Proposed, elsewhere, full, placed, longest, config_of}
use Rattle.ncc_clients.specs.Run.{Client, begun, proposed, accepted, talk_of}
use Rattle.ncc_clients.specs.Moment.{Lives, Proposes, Small, Path, Here, Then}
use Rattle.ncc_clients.specs.Moment.{Ticks, Opens, Feeds, Tells, Offers, Moves, Restarts, Drives, Closes}
use Rattle.ncc_clients.specs.Four.{Begins, Accepts, Four}
use Rattle.ncc_clients.proofs.Lists.{all_append, all_get, all_weaker}
use Rattle.ncc_world.specs.declared.setup.Setup.{Setup}
use Rattle.ncc_world.specs.Setting.{Seats, over_raft, lists_of, list_at, answered, cluster_of, shape_of, MovesTo, RestartsTo}
use Rattle.ncc_world.specs.Happening.{WorldRun}
use Rattle.ncc_world.proofs.Leading.{leads_or, refuses_or}
use Rattle.ncc_world.proofs.Spelling.{may_stand}
use Rattle.ncc_world.proofs.Turning.{reply_some}

-- ---- the same words

begins_from : (xs ys : List Item) → StartsAs xs ys → Begins xs ys
begins_from xs ys h = (h.0, sym h.1)

begins_same : (xs : List Item) → Begins xs xs
begins_same xs = ([], append-nil xs)

longest_grown : (history : List Item) (lists : List (List Item)) → longest history lists ≡ grown history lists
unfolding longest grown
longest_grown history [] = refl
longest_grown history (l ∷ ls) = longest_grown (if nat_lt (length history) (length l) then l else history) ls

way_join : (shape : Shape) (x y z : Seen) → Way shape x y → Way shape y z → Way shape x z
way_join shape x y z (Stays _) q = q
way_join shape x y z (Further _ m _ h p) q = Further x m z h (way_join shape m y z p q)

-- ---- where each connection is: at a member with a number from 1 on

abbrev IsSome : Client → Type 0
IsSome c = 1 ≤ c.member

abbrev AreSome : WorldRun → Type 0
AreSome r = AllByRecursion IsSome r.clients

some_set : (cs : List Client) (i : ℕ) (c : Client) → AllByRecursion IsSome cs → IsSome c → AllByRecursion IsSome (slice_set cs i c)
some_set [] i c h k = tt
some_set (x ∷ xs) zero c h k = (k, h.1)
some_set (x ∷ xs) (suc i) c h k = (h.0, some_set xs i c h.1 k)

some_at : (r : WorldRun) (i : ℕ) (c d : Client) → slice_get r.clients i ≡ Some c → d.member ≡ c.member → AreSome r
    → AllByRecursion IsSome (slice_set r.clients i d)
some_at r i c d e f h = some_set r.clients i d h (subst (λ n. 1 ≤ n) (sym f) (all_get IsSome r.clients i c h e))

some_offered : (s : Setup) (line : ℕ) (r : WorldRun) (i : ℕ) (c : Client) (p : Proposed Seats) → slice_get r.clients i ≡ Some c → AreSome r
    → AreSome (proposed (cluster_of s) line r i c p)
some_offered s line r i c elsewhere e h = some_at r i c _ e refl h
some_offered s line r i c (full entries) e h = some_at r i c _ e refl h
some_offered s line r i c (placed place term after) e h = some_at r i c _ e refl h

some_next : (s : Setup) (r t : WorldRun) → Small (cluster_of s) r t → AreSome r → AreSome t
some_next s r t (Ticks _ to le) h = h
some_next s r t (Opens _ member printed some) h = all_append IsSome r.clients _ h (some, tt)
some_next s r t (Feeds _ i c piece is) h = some_at r i c _ is.there refl h
some_next s r t (Tells line _ i c fact is) h = some_at r i c _ is.there.there refl h
some_next s r t (Offers line _ i c entry is) h =
    some_offered s line r i c ((cluster_of s).propose r.members c.member entry) is.there.there h
some_next s r t (Moves _ members is) h = h
some_next s r t (Restarts _ member members is none) h = h
some_next s r t (Drives _ driving) h = h
some_next s r t (Closes _ i c is) h = some_at r i c _ is.there refl h

-- ---- proposals are ones that a log may have

allowed_by : (s : Setup) (r : WorldRun) (c : Client) (entry : Entry) (closed : Bool)
    → cond closed None (asked_at (talk_of (cluster_of s) c).core) ≡ Some (leave_of entry)
    → asked_at (talk_of (cluster_of s) c).core ≡ Some (leave_of entry)
allowed_by s r c entry true e = absurd (cc)
allowed_by s r c entry false e = e

may_propose : (s : Setup) (r : WorldRun) (i : ℕ) (c : Client) (entry : Entry) → Proposes (cluster_of s) r i c entry
    → IsTrue (entry_allowed entry)
may_propose s r i c entry p =
    may_stand s r c entry
    (asks_fine (config_of (cluster_of s) c.number) c.bytes c.facts (leave_of entry) (allowed_by s r c entry c.closed p.entry_is))
    (reply_some s r c (leave_of entry) p.entry_is ∙ p.replies)

-- ---- the run as a way of the fleet

module _ (s : Setup) where
  abbrev shape : Shape
  shape = shape_of s

  record Rafted (r : WorldRun) : Type 0 where
    fleet : Fleet
    members_are : r.members ≡ over_raft fleet

  abbrev seen_in : (r : WorldRun) → Rafted r → Seen
  seen_in r k = record { fleet = k.fleet; history = r.history }

  record Onward (r t : WorldRun) (k : Rafted r) : Type 0 where
    kept : Rafted t
    way : Way shape (seen_in r k) (seen_in t kept)

  same_on : (r t : WorldRun) (k : Rafted r) → t.members ≡ r.members → t.history ≡ r.history → Onward r t k
  same_on r t k e f = record {
    kept = record { fleet = k.fleet; members_are = e ∙ k.members_are };
    way = subst (λ (h : List Item). Way shape (seen_in r k) (record { fleet = k.fleet; history = h })) (sym f) (Stays (seen_in r k));
  }

  -- members are others, and the history was looked at
  goes_on : (r t : WorldRun) (k : Rafted r) (g : Fleet) → Goes shape (seen_in r k) (seen_next (seen_in r k) g)
      → t.members ≡ over_raft g → t.history ≡ longest r.history (lists_of t.members) → Onward r t k
  goes_on r t k g step e f =
      let is : t.history ≡ grown r.history (applied_lists g) =
      f ∙ (ap (λ (x : Seats). longest r.history (lists_of x)) e ∙ longest_grown r.history (applied_lists g)) in
      record {
        kept = record { fleet = g; members_are = e };
        way = subst (λ (h : List Item). Way shape (seen_in r k) (record { fleet = g; history = h })) (sym is)
            (Further (seen_in r k) (seen_next (seen_in r k) g) (seen_next (seen_in r k) g) step (Stays (seen_next (seen_in r k) g)));
      }

  -- ---- proposals

  record IsPlaced (f : Fleet) (member : ℕ) (entry : Entry) (place term : ℕ) (after : Seats) : Type 0 where
    later : Fleet
    is : answer shape f member entry ≡ Placed place term later
    after_is : after ≡ over_raft later

  placed_by : (f : Fleet) (member : ℕ) (entry : Entry) (a : Answer) (place term : ℕ) (after : Seats) → answer shape f member entry ≡ a
      → answered a ≡ placed place term after → IsPlaced f member entry place term after
  placed_by f member entry Elsewhere place term after e h = absurd (cc)
  placed_by f member entry (Full items) place term after e h = absurd (cc)
  placed_by f member entry (Placed at of later) place term after e h =
      let same_place : at ≡ place = cc in
      let same_term : of ≡ term = cc in
      let same : over_raft later ≡ after = cc in
      record {
        later = later;
        is = e ∙ (ap (λ n. Placed n of later) same_place ∙ ap (λ n. Placed place n later) same_term);
        after_is = sym same;
      }

  placed_in : (r : WorldRun) (k : Rafted r) (member : ℕ) (entry : Entry) (place term : ℕ) (after : Seats)
      → (cluster_of s).propose r.members member entry ≡ placed place term after → IsPlaced k.fleet member entry place term after
  placed_in r k member entry place term after e =
      placed_by k.fleet member entry (answer shape k.fleet member entry) place term after refl
      (subst (λ (x : Seats). (cluster_of s).propose x member entry ≡ placed place term after) k.members_are e)

  -- an accepted proposal of a connection is one of the fleet
  record Accepted (r : WorldRun) (k : Rafted r) (i : ℕ) (c : Client) (entry : Entry) (place term : ℕ) (after : Seats) : Type 0 where
    later : Fleet
    places : Places shape k.fleet c.member entry place term later
    after_is : after ≡ over_raft later

  accepted_in : (r : WorldRun) (k : Rafted r) (i : ℕ) (c : Client) (entry : Entry) (place term : ℕ) (after : Seats)
      → Accepts (cluster_of s) r i c entry place term after → Accepted r k i c entry place term after
  accepted_in r k i c entry place term after a =
      let is = placed_in r k c.member entry place term after a.accepts in
      record {
        later = is.later;
        places = record { allowed = may_propose s r i c entry a.proposes; placed = is.is };
        after_is = is.after_is;
      }

  -- where the run stands behind it
  behind_it : (r : WorldRun) (k : Rafted r) (i : ℕ) (c : Client) (entry : Entry) (place term : ℕ) (after : Seats)
      → Accepted r k i c entry place term after → Onward r (accepted (cluster_of s) r i c place term after) k
  behind_it r k i c entry place term after a =
      goes_on r (accepted (cluster_of s) r i c place term after) k a.later
      (ByProposal c.member entry place term a.later a.places) a.after_is refl

  offers_on : (line : ℕ) (r : WorldRun) (k : Rafted r) (i : ℕ) (c : Client) (entry : Entry) (p : Proposed Seats)
      → Proposes (cluster_of s) r i c entry → (cluster_of s).propose r.members c.member entry ≡ p
      → Onward r (proposed (cluster_of s) line r i c p) k
  offers_on line r k i c entry elsewhere h e = same_on r (proposed (cluster_of s) line r i c elsewhere) k refl refl
  offers_on line r k i c entry (full entries) h e = same_on r (proposed (cluster_of s) line r i c (full entries)) k refl refl
  offers_on line r k i c entry (placed place term after) h e =
      behind_it r k i c entry place term after (accepted_in r k i c entry place term after (record { proposes = h; accepts = e }))

  -- ---- every small thing, and every path

  moves_in : (r : WorldRun) (k : Rafted r) (members : Seats) → MovesTo s r.members members → MovesTo s (over_raft k.fleet) members
  moves_in r k members h = subst (λ (x : Seats). MovesTo s x members) k.members_are h

  restarts_in : (r : WorldRun) (k : Rafted r) (member : ℕ) (members : Seats) → RestartsTo s r.members member members
      → RestartsTo s (over_raft k.fleet) member members
  restarts_in r k member members h = subst (λ (x : Seats). RestartsTo s x member members) k.members_are h

  small_on : (r t : WorldRun) (k : Rafted r) → Small (cluster_of s) r t → Onward r t k
  small_on r t k (Ticks _ to le) = same_on r t k refl refl
  small_on r t k (Opens _ member printed some) = same_on r t k refl refl
  small_on r t k (Feeds _ i c piece h) = same_on r t k refl refl
  small_on r t k (Tells line _ i c fact h) = same_on r t k refl refl
  small_on r t k (Offers line _ i c entry h) = offers_on line r k i c entry ((cluster_of s).propose r.members c.member entry) h refl
  small_on r t k (Moves _ members h) =
      let m = moves_in r k members h in goes_on r t k m.0 (ByMove m.0 m.1) m.2 refl
  small_on r t k (Restarts _ member members h none) =
      let m = restarts_in r k member members h in goes_on r t k m.0 (ByRestart member m.0 m.1) m.2 refl
  small_on r t k (Drives _ driving) = same_on r t k refl refl
  small_on r t k (Closes _ i c h) = same_on r t k refl refl

  path_on : (r t : WorldRun) (k : Rafted r) → Path (cluster_of s) r t → Onward r t k
  path_on r t k (Here _) = same_on r r k refl refl
  path_on r t k (Then _ m _ first rest) =
      let one = small_on r m k first in
      let more = path_on m t one.kept rest in
      record { kept = more.kept; way = way_join shape (seen_in r k) (seen_in m one.kept) (seen_in t more.kept) one.way more.way }

  some_on : (r t : WorldRun) → Path (cluster_of s) r t → AreSome r → AreSome t
  some_on r t (Here _) h = h
  some_on r t (Then _ m _ first rest) h = some_on m t rest (some_next s r m first h)

  abbrev start : WorldRun
  start = begun (over_raft (fleet_start shape))

  abbrev first : Rafted start
  first = record { fleet = fleet_start shape; members_are = refl }

  from_start : (r : WorldRun) → Path (cluster_of s) start r → Onward start r first
  from_start r p = path_on start r first p

  -- ---- what lists do

  list_in : (r : WorldRun) (k : Rafted r) (member : ℕ) → list_at (lists_of r.members) member ≡ applied_at k.fleet member
  list_in r k member = ap (λ (x : Seats). list_at (lists_of x) member) k.members_are

  stays_by : (r t : WorldRun) (k : Rafted r) (g : Fleet) (member : ℕ) → t.members ≡ over_raft g
      → StartsAs (applied_at k.fleet member) (applied_at g member)
      → Begins (list_at (lists_of r.members) member) (list_at (lists_of t.members) member)
  stays_by r t k g member e h =
      subst (λ (l : List Item). Begins l (list_at (lists_of t.members) member)) (sym (list_in r k member))
      (subst (λ (x : Seats). Begins (applied_at k.fleet member) (list_at (lists_of x) member)) (sym e)
      (begins_from (applied_at k.fleet member) (applied_at g member) h))

  stays_same : (r t : WorldRun) (member : ℕ) → t.members ≡ r.members
      → Begins (list_at (lists_of r.members) member) (list_at (lists_of t.members) member)
  stays_same r t member e =
      subst (λ (x : Seats). Begins (list_at (lists_of r.members) member) (list_at (lists_of x) member)) (sym e)
      (begins_same (list_at (lists_of r.members) member))

  offers_stay : (line : ℕ) (r : WorldRun) (o : Onward start r first) (i : ℕ) (c : Client) (entry : Entry) (p : Proposed Seats) (member : ℕ)
      → Proposes (cluster_of s) r i c entry → (cluster_of s).propose r.members c.member entry ≡ p
      → Begins (list_at (lists_of r.members) member) (list_at (lists_of (proposed (cluster_of s) line r i c p).members) member)
  offers_stay line r o i c entry elsewhere member h e = begins_same (list_at (lists_of r.members) member)
  offers_stay line r o i c entry (full entries) member h e = begins_same (list_at (lists_of r.members) member)
  offers_stay line r o i c entry (placed place term after) member h e =
      let a = accepted_in r o.kept i c entry place term after (record { proposes = h; accepts = e }) in
      stays_by r (accepted (cluster_of s) r i c place term after) o.kept a.later member a.after_is
      (proposals_keep shape (seen_in r o.kept) o.way c.member entry place term a.later a.places member)

  same_start : (xs ys : List Item) → ys ≡ xs → StartsAs xs ys
  same_start xs ys e = ([], e ∙ sym (append-nil xs))

  small_stays : (r t : WorldRun) (o : Onward start r first) (i : ℕ) (c : Client) → AreSome r → Lives (cluster_of s) r i c
      → Small (cluster_of s) r t → Begins (list_at (lists_of r.members) c.member) (list_at (lists_of t.members) c.member)
  small_stays r t o i c h lives (Ticks _ to le) = stays_same r t c.member refl
  small_stays r t o i c h lives (Opens _ member printed some) = stays_same r t c.member refl
  small_stays r t o i c h lives (Feeds _ j d piece is) = stays_same r t c.member refl
  small_stays r t o i c h lives (Tells line _ j d fact is) = stays_same r t c.member refl
  small_stays r t o i c h lives (Offers line _ j d entry is) =
      offers_stay line r o j d entry ((cluster_of s).propose r.members d.member entry) c.member is refl
  small_stays r t o i c h lives (Moves _ members is) =
      let m = moves_in r o.kept members is in
      stays_by r t o.kept m.0 c.member m.2 (moves_keep shape (seen_in r o.kept) o.way m.0 m.1 c.member)
  small_stays r t o i c h lives (Restarts _ member members is none) =
      let m = restarts_in r o.kept member members is in
      stays_by r t o.kept m.0 c.member m.2
      (same_start (applied_at o.kept.fleet c.member) (applied_at m.0 c.member)
      (restarts_keep shape (seen_in r o.kept) o.way member m.0 m.1 c.member (all_get IsSome r.clients i c h lives.there) (none i c lives)))
  small_stays r t o i c h lives (Drives _ driving) = stays_same r t c.member refl
  small_stays r t o i c h lives (Closes _ j d is) = stays_same r t c.member refl

  -- ---- the facts

  pub raft_keeps_four : Four (cluster_of s) (over_raft (fleet_start shape))
  unfolding behind_it goes_on
  raft_keeps_four = record {
    begins = λ r t p q.
        let o = from_start r p in
        let on = path_on r t o.kept q in
        subst (λ (x : Seats). AllByRecursion (λ list. Begins list t.history) (lists_of x)) (sym o.kept.members_are)
        (all_weaker (λ list. StartsAs list t.history) (λ list. Begins list t.history) (λ list h. begins_from list t.history h)
        (applied_lists o.kept.fleet) (lists_begin shape (seen_in r o.kept) (seen_in t on.kept) o.way on.way));
    grows = λ r t p q.
        let o = from_start r p in
        let on = small_on r t o.kept q in
        begins_from r.history t.history (history_goes_on shape (seen_in r o.kept) (seen_in t on.kept) o.way on.way);
    stays = λ r t i c p lives q. small_stays r t (from_start r p) i c (some_on start r p tt) lives q;
    keeps = λ r t i c entry place term after member item p a q e f.
        let o = from_start r p in
        let b = accepted_in r o.kept i c entry place term after a in
        let one = behind_it r o.kept i c entry place term after b in
        let on = path_on (accepted (cluster_of s) r i c place term after) t one.kept q in
        placed_stays shape (seen_in r o.kept) o.way c.member entry place term b.later (seen_in t on.kept) member item b.places
        (subst (λ (x : Seen). Way shape x (seen_in t on.kept)) (seen_is r o.kept i c entry place term after b) on.way)
        (ap (λ (l : List Item). slice_get l (place - 1)) (sym (list_in t on.kept member)) ∙ e) f;
    behind = λ r i c entry place term after p a.
        let o = from_start r p in
        let b = accepted_in r o.kept i c entry place term after a in
        subst (λ (l : List Item). length l < place) (sym (list_in r o.kept c.member))
        (placed_behind shape (seen_in r o.kept) o.way c.member entry place term b.later b.places);
    apart = λ r t i j c d x y place term after later p a q z.
        let o = from_start r p in
        let b = accepted_in r o.kept i c x place term after a in
        let one = behind_it r o.kept i c x place term after b in
        let on = path_on (accepted (cluster_of s) r i c place term after) t one.kept q in
        let w = accepted_in t on.kept j d y place term later z in
        placed_apart shape (seen_in r o.kept) o.way c.member d.member x y place term b.later w.later (seen_in t on.kept) b.places
        (subst (λ (u : Seen). Way shape u (seen_in t on.kept)) (seen_is r o.kept i c x place term after b) on.way) w.places;
    leads = λ seats member entry e. leads_or s seats member entry e;
    refuses = λ seats member entry e. refuses_or s seats member entry e;
  } where
    -- what is seen behind an accepted proposal
    seen_is : (r : WorldRun) (k : Rafted r) (i : ℕ) (c : Client) (entry : Entry) (place term : ℕ) (after : Seats)
        (b : Accepted r k i c entry place term after)
        → seen_in (accepted (cluster_of s) r i c place term after) (behind_it r k i c entry place term after b).kept
        ≡ seen_next (seen_in r k) b.later
    seen_is r k i c entry place term after b =
        ap (λ (h : List Item). record { fleet = b.later; history = h })
        (ap (λ (x : Seats). longest r.history (lists_of x)) b.after_is ∙ longest_grown r.history (applied_lists b.later))

-- Members over one list, at every moment: member 1's list is the history, and every other list begins it.
use Rattle.std.proofs.Common.{◌≡◌, ℕ, zero, suc, ◌+◌, ◌-◌, ◌<◌, ◌==◌, nat_le, Bool, true, false, cond, List, [], ◌∷◌, ◌++◌, length, take}
use Rattle.std.proofs.Common.{drop, Some, refl}
use Rattle.std.proofs.Common.{ap, sym, ◌∙◌, arith, length-append, subst, eqb-true}
use Rattle.std.specs.Prelude.{slice_get, slice_set, replicate}
use Rattle.std.specs.List.{AllByRecursion}
use Rattle.ncc_tx.specs.declared.entry.Entry.{Entry}
use Rattle.ncc_tx.specs.declared.entry.Item.{Item}
use Rattle.ncc_clients.specs.Members.{Proposed, elsewhere, full, placed, longest}
use Rattle.ncc_clients.specs.Run.{Client, begun, proposed, accepted, moved}
use Rattle.ncc_clients.specs.Moment.{Small, Ticks, Opens, Feeds, Tells, Offers, Moves, Restarts, Drives, Closes, Path, Here, Then}
use Rattle.ncc_clients.specs.Four.{Begins, Accepts, Four}
use Rattle.ncc_world.specs.declared.setup.Setup.{Setup}
use Rattle.ncc_world.specs.Setting.{IsSetup, Lists, Seats, over_list, lists_of, list_at, seats_of, item_of, appended, proposes, extended}
use Rattle.ncc_world.specs.Setting.{lagging, Applies, MovesTo, RestartsTo, cluster_of}
use Rattle.ncc_world.specs.Happening.{WorldRun}
use Rattle.ncc_world.proofs.Begun.{begins_self, begins_more, begins_through, begins_length, get_begins, get_last}
use Rattle.ncc_world.proofs.Leading.{leads_or, refuses_or}
use Rattle.ncc_world.proofs.Begun.{all_begin_more, all_begin_or, all_begin_set, grows_set, extended_begins, longest_stays, longest_first}

pub record Kept (r : WorldRun) : Type 0 where
  pub others : Lists
  pub members_are : r.members ≡ over_list (r.history ∷ others)
  pub begin : AllByRecursion (λ l. Begins l r.history) others

-- the history and every member's list only grow
pub record Further (r t : WorldRun) : Type 0 where
  pub grows : Begins r.history t.history
  pub stays : (member : ℕ) → Begins (list_at (lists_of r.members) member) (list_at (lists_of t.members) member)

pub record Onward (r t : WorldRun) : Type 0 where
  pub kept : Kept t
  pub further : Further r t

-- where neither the members nor the history change
same_kept : (r t : WorldRun) → Kept r → t.members ≡ r.members → t.history ≡ r.history → Onward r t
same_kept r t k e f = record {
  kept = record {
    others = k.others;
    members_are = e ∙ (k.members_are ∙ ap (λ h. over_list (h ∷ k.others)) (sym f));
    begin = subst (λ h. AllByRecursion (λ l. Begins l h) k.others) (sym f) k.begin;
  };
  further = record {
    grows = subst (λ h. Begins r.history h) (sym f) (begins_self r.history);
    stays = λ member. subst (λ (x : Seats). Begins (list_at (lists_of r.members) member) (list_at (lists_of x) member)) (sym e)
        (begins_self (list_at (lists_of r.members) member));
  };
}

-- the lists of members, that of member 1 first
pub lists_are : (r : WorldRun) (k : Kept r) → lists_of r.members ≡ r.history ∷ k.others
lists_are r k = ap lists_of k.members_are

-- every list begins the history
pub all_begin : (r : WorldRun) → Kept r → AllByRecursion (λ l. Begins l r.history) (lists_of r.members)
all_begin r k = subst (λ ls. AllByRecursion (λ l. Begins l r.history) ls) (sym (lists_are r k)) (begins_self r.history, k.begin)

-- where one list begins another among these, it does among the members
stays_by : (r t : WorldRun) (k : Kept r) (later : Lists) (member : ℕ) → t.members ≡ over_list later
    → Begins (list_at (r.history ∷ k.others) member) (list_at later member)
    → Begins (list_at (lists_of r.members) member) (list_at (lists_of t.members) member)
stays_by r t k later member e h =
    subst (λ (ls : Lists). Begins (list_at ls member) (list_at (lists_of t.members) member)) (sym (lists_are r k))
    (subst (λ (x : Seats). Begins (list_at (r.history ∷ k.others) member) (list_at (lists_of x) member)) (sym e) h)

-- ---- an entry is appended

pub record IsPlaced (lists : Lists) (member : ℕ) (entry : Entry) (place term : ℕ) (after : Seats) : Type 0 where
  pub at_one : member ≡ 1
  pub place_is : place ≡ length (list_at lists 1) + 1
  pub term_is : term ≡ 1
  pub after_is : after ≡ over_list (appended lists entry)

pub placed_is : (s : Setup) (lists : Lists) (member : ℕ) (entry : Entry) (place term : ℕ) (after : Seats)
    → (cluster_of s).propose (over_list lists) member entry ≡ placed place term after → IsPlaced lists member entry place term after
placed_is s lists member entry place term after e = go (member == 1) refl e where
  there : member ≡ 1 → (b : Bool)
      → cond b (full (length (list_at lists 1))) (placed (length (list_at lists 1) + 1) 1 (over_list (appended lists entry)))
      ≡ placed place term after → IsPlaced lists member entry place term after
  there one true h = absurd (cc)
  there one false h =
      let at : length (list_at lists 1) + 1 ≡ place = cc in
      let of : 1 ≡ term = cc in
      let so : over_list (appended lists entry) ≡ after = cc in
      record { at_one = one; place_is = sym at; term_is = sym of; after_is = sym so }

  go : (b : Bool) → (member == 1) ≡ b → cond b (proposes s.limit lists entry) elsewhere ≡ placed place term after
      → IsPlaced lists member entry place term after
  go true f h = there (eqb-true member 1 f) (nat_le s.limit (length (list_at lists 1))) h
  go false f h = absurd (cc)

-- the same among the members of a run
placed_in : (s : Setup) (r : WorldRun) (k : Kept r) (member : ℕ) (entry : Entry) (place term : ℕ) (after : Seats)
    → (cluster_of s).propose r.members member entry ≡ placed place term after
    → IsPlaced (r.history ∷ k.others) member entry place term after
placed_in s r k member entry place term after e =
    placed_is s (r.history ∷ k.others) member entry place term after
    (subst (λ (x : Seats). (cluster_of s).propose x member entry ≡ placed place term after) k.members_are e)

-- what the history and the members are then
pub record Appended (r : WorldRun) (k : Kept r) (entry : Entry) (after : Seats) : Type 0 where
  pub history_is : longest r.history (lists_of after) ≡ r.history ++ (item_of entry ∷ [])
  pub members_are : after ≡ over_list ((r.history ++ (item_of entry ∷ [])) ∷ k.others)

pub appended_is : (r : WorldRun) (k : Kept r) (entry : Entry) (after : Seats) → after ≡ over_list (appended (r.history ∷ k.others) entry)
    → Appended r k entry after
appended_is r k entry after e =
    let new : List Item = r.history ++ (item_of entry ∷ []) in
    let members : after ≡ over_list (new ∷ k.others) = e in
    let begin : AllByRecursion (λ l. Begins l new) k.others =
    all_begin_more r.history new k.others (begins_more r.history (item_of entry ∷ [])) k.begin in
    record {
      history_is = ap (λ (x : Seats). longest r.history (lists_of x)) members
          ∙ longest_first r.history new k.others (omega (arith, length-append r.history (item_of entry ∷ []))) begin;
      members_are = members;
    }

pub accepted_kept : (s : Setup) (r : WorldRun) (k : Kept r) (i : ℕ) (c : Client) (entry : Entry) (place term : ℕ) (after : Seats)
    → IsPlaced (r.history ∷ k.others) c.member entry place term after → Onward r (accepted (cluster_of s) r i c place term after)
accepted_kept s r k i c entry place term after p =
    let new : List Item = r.history ++ (item_of entry ∷ []) in
    let a : Appended r k entry after = appended_is r k entry after p.after_is in
    let more : Begins r.history new = begins_more r.history (item_of entry ∷ []) in
    record {
      kept = record {
        others = k.others;
        members_are = a.members_are ∙ ap (λ h. over_list (h ∷ k.others)) (sym a.history_is);
        begin = subst (λ h. AllByRecursion (λ l. Begins l h) k.others) (sym a.history_is)
            (all_begin_more r.history new k.others more k.begin);
      };
      further = record {
        grows = subst (λ h. Begins r.history h) (sym a.history_is) more;
        stays = λ member. stays_by r (accepted (cluster_of s) r i c place term after) k (appended (r.history ∷ k.others) entry) member p.after_is
            (grows_set (r.history ∷ k.others) 0 (r.history ++ (item_of entry ∷ [])) (begins_more r.history (item_of entry ∷ [])) (member - 1));
      };
    }

offers_kept : (s : Setup) (line : ℕ) (r : WorldRun) (k : Kept r) (i : ℕ) (c : Client) (entry : Entry) (p : Proposed Seats)
    → (cluster_of s).propose r.members c.member entry ≡ p → Onward r (proposed (cluster_of s) line r i c p)
offers_kept s line r k i c entry elsewhere e = same_kept r (proposed (cluster_of s) line r i c elsewhere) k refl refl
offers_kept s line r k i c entry (full entries) e = same_kept r (proposed (cluster_of s) line r i c (full entries)) k refl refl
offers_kept s line r k i c entry (placed place term after) e =
    accepted_kept s r k i c entry place term after (placed_in s r k c.member entry place term after e)

-- ---- a member applies further entries

lagging_is : (r : WorldRun) (k : Kept r) (member count : ℕ) → 1 < member
    → (others : Lists) × (lagging (r.history ∷ k.others) member count ≡ r.history ∷ others) × AllByRecursion (λ l. Begins l r.history) others
lagging_is r k member count f = go (member - 1) refl where
  lists : Lists
  lists = r.history ∷ k.others

  own : List Item
  own = extended (list_at lists member) r.history count

  own_begins : Begins own r.history
  own_begins = extended_begins (list_at lists member) r.history count (all_begin_or r.history lists (member - 1) (begins_self r.history, k.begin))

  go : (i : ℕ) → member - 1 ≡ i
      → (others : Lists) × (lagging lists member count ≡ r.history ∷ others) × AllByRecursion (λ l. Begins l r.history) others
  go zero h = absurd (omega (arith, f, h))
  go (suc i) h = (
    slice_set k.others i own,
    ap (λ j. slice_set lists j own) h,
    all_begin_set r.history k.others i own k.begin own_begins,
  )

moves_kept : (s : Setup) (r : WorldRun) (k : Kept r) (members : Seats) → MovesTo s r.members members
    → Onward r (moved (cluster_of s) r members)
moves_kept s r k members h =
    let lists : Lists = r.history ∷ k.others in
    let m : MovesTo s (over_list lists) members = subst (λ (x : Seats). MovesTo s x members) k.members_are h in
    let a : Applies lists m.0 = m.1 in
    let l : (others : Lists) × (lagging lists a.member a.count ≡ r.history ∷ others)
    × AllByRecursion (λ l. Begins l r.history) others = lagging_is r k a.member a.count a.follows in
    let lists_are : m.0 ≡ r.history ∷ l.0 = a.same ∙ l.1 in
    let members_are : members ≡ over_list (r.history ∷ l.0) = m.2 ∙ ap over_list lists_are in
    let same : longest r.history (lists_of members) ≡ r.history = ap (λ (x : Seats). longest r.history (lists_of x)) members_are
    ∙ longest_stays r.history (r.history ∷ l.0) (begins_self r.history, l.2) in
    record {
      kept = record {
        others = l.0;
        members_are = members_are ∙ ap (λ h. over_list (h ∷ l.0)) (sym same);
        begin = subst (λ h. AllByRecursion (λ l. Begins l h) l.0) (sym same) l.2;
      };
      further = record {
        grows = subst (λ h. Begins r.history h) (sym same) (begins_self r.history);
        stays = λ member. stays_by r (moved (cluster_of s) r members) k m.0 member m.2
            (subst (λ ls. Begins (list_at lists member) (list_at ls member)) (sym a.same)
            (grows_set lists (a.member - 1) (extended (list_at lists a.member) (list_at lists 1) a.count)
            (begins_more (list_at lists a.member)
            (take a.count (drop (length (list_at lists a.member)) (list_at lists 1)))) (member - 1)));
      };
    }

-- ---- every small thing, and every path

pub small_kept : (s : Setup) (r t : WorldRun) → Kept r → Small (cluster_of s) r t → Onward r t
small_kept s r t k (Ticks _ to h) = same_kept r t k refl refl
small_kept s r t k (Opens _ member printed some) = same_kept r t k refl refl
small_kept s r t k (Feeds _ i c piece h) = same_kept r t k refl refl
small_kept s r t k (Tells line _ i c fact h) = same_kept r t k refl refl
small_kept s r t k (Offers line _ i c entry h) = offers_kept s line r k i c entry ((cluster_of s).propose r.members c.member entry) refl
small_kept s r t k (Moves _ members h) = moves_kept s r k members h
small_kept s r t k (Restarts _ member members h none) =
    absurd (subst (λ (x : Seats). RestartsTo s x member members) k.members_are h)
small_kept s r t k (Drives _ driving) = same_kept r t k refl refl
small_kept s r t k (Closes _ i c h) = same_kept r t k refl refl

pub path_kept : (s : Setup) (r t : WorldRun) → Kept r → Path (cluster_of s) r t → Onward r t
path_kept s r t k (Here _) = same_kept r r k refl refl
path_kept s r t k (Then _ m _ first rest) =
    let one : Onward r m = small_kept s r m k first in
    let more : Onward m t = path_kept s m t one.kept rest in
    record {
      kept = more.kept;
      further = record {
        grows = begins_through r.history m.history t.history one.further.grows more.further.grows;
        stays = λ member. begins_through (list_at (lists_of r.members) member) (list_at (lists_of m.members) member)
            (list_at (lists_of t.members) member) (one.further.stays member) (more.further.stays member);
      };
    }

replicate_first : (n : ℕ) → 0 < n
    → (others : Lists) × (replicate n [] ≡ [] ∷ others) × AllByRecursion (λ (l : List Item). Begins l []) others
replicate_first zero h = absurd (omega arith)
replicate_first (suc n) h = (replicate n [], refl, all_empty n) where
  all_empty : (m : ℕ) → AllByRecursion (λ (l : List Item). Begins l []) (replicate m [])
  all_empty zero = tt
  all_empty (suc m) = (([], refl), all_empty m)

start_kept : (s : Setup) → IsSetup s → Kept (begun (seats_of s))
start_kept s h =
    let some : 0 < s.cores + s.replicas = omega (arith, h.cores.0) in
    let lists : (others : Lists) × (replicate (s.cores + s.replicas) [] ≡ [] ∷ others)
    × AllByRecursion (λ (l : List Item). Begins l []) others = replicate_first (s.cores + s.replicas) some in
    record { others = lists.0; members_are = ap over_list lists.1; begin = lists.2 }

-- ---- the four facts

pub reached : (s : Setup) → IsSetup s → (r : WorldRun) → Path (cluster_of s) (begun (seats_of s)) r → Kept r
reached s h r p = (path_kept s (begun (seats_of s)) r (start_kept s h) p).kept

-- behind an accepted proposal, the history begins with the list of member 1 and the entry
record After (r t : WorldRun) (entry : Entry) : Type 0 where
  kept : Kept t
  begins : Begins (r.history ++ (item_of entry ∷ [])) t.history

after_accepted : (s : Setup) (r t : WorldRun) (k : Kept r) (i : ℕ) (c : Client) (entry : Entry) (place term : ℕ) (after : Seats)
    → Accepts (cluster_of s) r i c entry place term after → Path (cluster_of s) (accepted (cluster_of s) r i c place term after) t
    → After r t entry
after_accepted s r t k i c entry place term after a p =
    let is : IsPlaced (r.history ∷ k.others) c.member entry place term after = placed_in s r k c.member entry place term after a.accepts in
    let then_ : WorldRun = accepted (cluster_of s) r i c place term after in
    let one : Onward r then_ = accepted_kept s r k i c entry place term after is in
    let more : Onward then_ t = path_kept s then_ t one.kept p in
    record {
      kept = more.kept;
      begins = subst (λ l. Begins l t.history) (appended_is r k entry after is.after_is).history_is more.further.grows;
    }

keeps_one : (s : Setup) (r t : WorldRun) (k : Kept r) (i : ℕ) (c : Client) (entry : Entry) (place term : ℕ) (after : Seats) (member : ℕ)
    (item : Item) → Accepts (cluster_of s) r i c entry place term after
    → Path (cluster_of s) (accepted (cluster_of s) r i c place term after) t → slice_get (list_at (lists_of t.members) member) (place - 1) ≡ Some item
    → item.entry ≡ entry
keeps_one s r t k i c entry place term after member item a p e =
    let is : IsPlaced (r.history ∷ k.others) c.member entry place term after = placed_in s r k c.member entry place term after a.accepts in
    let then_ : After r t entry = after_accepted s r t k i c entry place term after a p in
    let index : length r.history ≡ place - 1 = omega (arith, is.place_is) in
    let mine : slice_get t.history (length r.history) ≡ Some (item_of entry) =
    get_begins (r.history ++ (item_of entry ∷ [])) t.history (length r.history) (item_of entry) then_.begins
    (get_last r.history (item_of entry)) in
    let here : slice_get t.history (place - 1) ≡ Some item =
    get_begins (list_at (lists_of t.members) member) t.history (place - 1) item
    (all_begin_or t.history (lists_of t.members) (member - 1) (all_begin t then_.kept)) e in
    let both : Some (item_of entry) ≡ Some item = sym mine ∙ (ap (λ n. slice_get t.history n) index ∙ here) in
    let same : item_of entry ≡ item = cc in
    sym (ap (λ (x : Item). x.entry) same)

apart_one : (s : Setup) (r t : WorldRun) (k : Kept r) (i j : ℕ) (c d : Client) (x y : Entry) (place term : ℕ) (after later : Seats)
    → Accepts (cluster_of s) r i c x place term after → Path (cluster_of s) (accepted (cluster_of s) r i c place term after) t
    → Accepts (cluster_of s) t j d y place term later → ⊥
apart_one s r t k i j c d x y place term after later a p b =
    let is : IsPlaced (r.history ∷ k.others) c.member x place term after = placed_in s r k c.member x place term after a.accepts in
    let then_ : After r t x = after_accepted s r t k i c x place term after a p in
    let at : IsPlaced (t.history ∷ then_.kept.others) d.member y place term later =
    placed_in s t then_.kept d.member y place term later b.accepts in
    omega (
      arith,
      is.place_is,
      at.place_is,
      begins_length (r.history ++ (item_of x ∷ [])) t.history then_.begins,
      length-append r.history (item_of x ∷ []),
    )

behind_one : (s : Setup) (r : WorldRun) (k : Kept r) (i : ℕ) (c : Client) (entry : Entry) (place term : ℕ) (after : Seats)
    → Accepts (cluster_of s) r i c entry place term after → length (list_at (lists_of r.members) c.member) < place
behind_one s r k i c entry place term after a =
    let is : IsPlaced (r.history ∷ k.others) c.member entry place term after = placed_in s r k c.member entry place term after a.accepts in
    omega (arith, is.place_is, ap (λ ls. length (list_at ls c.member)) (lists_are r k), ap (λ n. length (list_at (r.history ∷ k.others) n)) is.at_one)

pub list_keeps_four : (s : Setup) → IsSetup s → Four (cluster_of s) (seats_of s)
list_keeps_four s h = record {
  begins = λ r t p q. all_begin_from r t (reached s h r p) (path_kept s r t (reached s h r p) q);
  grows = λ r t p q. (small_kept s r t (reached s h r p) q).further.grows;
  stays = λ r t i c p o q. (small_kept s r t (reached s h r p) q).further.stays c.member;
  keeps = λ r t i c entry place term after member item p a q e f.
      keeps_one s r t (reached s h r p) i c entry place term after member item a q e;
  behind = λ r i c entry place term after p a. behind_one s r (reached s h r p) i c entry place term after a;
  apart = λ r t i j c d x y place term after later p a q b.
      apart_one s r t (reached s h r p) i j c d x y place term after later a q b;
  leads = λ seats member entry e. leads_or s seats member entry e;
  refuses = λ seats member entry e. refuses_or s seats member entry e;
} where
  all_begin_from : (r t : WorldRun) → Kept r → Onward r t → AllByRecursion (λ l. Begins l t.history) (lists_of r.members)
  all_begin_from r t k o = all_begin_more r.history t.history (lists_of r.members) o.further.grows (all_begin r k)

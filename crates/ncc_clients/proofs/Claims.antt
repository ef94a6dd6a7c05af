-- No two writes are told one place: whoever was told it or waits for it has the one proposal of the term that the history has there.
use Rattle.std.proofs.Common.{◌≡◌, ℕ, zero, suc, ◌+◌, ◌-◌, ◌<◌, ◌≤◌, Bool, true, false, List, [], length, Option, None, Some, refl, ap}
use Rattle.std.proofs.Common.{sym, ◌∙◌, arith, subst, eqb-true}
use Rattle.std.specs.Prelude.{slice_get, slice_set, ◌==◌, ◌&&◌, if◌then◌else◌, nat_eq, count_by}
use Rattle.ncc_tx.specs.declared.entry.Entry.{Entry}
use Rattle.ncc_tx.specs.declared.entry.Item.{Item}
use Rattle.ncc_tx.specs.State.{state, stamp_at}
use Rattle.ncc_session.specs.declared.ask.Fact.{Fact}
use Rattle.ncc_session.specs.declared.ask.Fact.TheVariants.{Placed, Stale, Replaced, Elsewhere, Full}
use Rattle.ncc_session.specs.Question.{Question}
use Rattle.ncc_clients.specs.declared.told.Told.{Told as Saying}
use Rattle.ncc_clients.specs.Members.{Cluster, Proposed, elsewhere, full, placed, applied}
use Rattle.ncc_clients.specs.Run.{Run, Client, Placing, begun, ticked, opened, fed, with_bytes, told_to, with_fact, moved, accepted}
use Rattle.ncc_clients.specs.Run.{with_placing, proposed, closed_at}
use Rattle.ncc_clients.specs.Moment.{Proposes, Small, Ticks, Opens, Feeds, Tells, Offers, Moves, Restarts, Drives, Closes, Path, Here, Then}
use Rattle.ncc_clients.specs.Four.{Four, Accepts}
use Rattle.ncc_clients.specs.Laws.{is_place, PlacesAreApart}
use Rattle.ncc_clients.proofs.Lists.{Starts, one, all_or, get_starts, count_push, count_set}
use Rattle.ncc_clients.proofs.Paths.{path_more}
use Rattle.ncc_clients.proofs.Says.{Says, Finds, is_said, is_offered, says_entered, says_late, says_rows, says_faulted, says_elsewhere}
use Rattle.ncc_clients.proofs.Says.{says_done, says_nothing, says_found, says_unsure, says_routed}
use Rattle.ncc_clients.proofs.Fits.{same_test}

-- the item at a place is of this term
abbrev pub has_term : Option Item → ℕ → Bool
has_term None term = false
has_term (Some item) term = nat_eq item.term term

-- an entry waits at this place, in the term that the history has there
abbrev pub is_claim : List Item → ℕ → Option Placing → Bool
is_claim history place None = false
is_claim history place (Some p) = nat_eq p.place place && has_term (slice_get history (place - 1)) p.term

-- how many were told a place, or wait for it
abbrev pub claims : {S : Type 0} → List Item → ℕ → Run S → ℕ
claims history place r =
    count_by (λ (t : Saying). is_place place t.fact) r.told + count_by (λ (c : Client). is_claim history place c.placing) r.clients

-- an entry was accepted at this place, in the term that the history has there
pub record Claimed {S : Type 0} (C : Cluster S) (start : S) (history : List Item) (r : Run S) (place : ℕ) : Type 0 where
  pub then_ : Run S
  pub index : ℕ
  pub it : Client
  pub entry : Entry
  pub term : ℕ
  pub after : S
  pub from : Path C (begun start) then_
  pub accepts : Accepts C then_ index it entry place term after
  pub since : Path C (accepted C then_ index it place term after) r
  pub has : has_term (slice_get history (place - 1)) term ≡ true

abbrev pub ApartAt : {S : Type 0} → Cluster S → S → List Item → Run S → ℕ → Type 0
ApartAt C start history r place = (claims history place r ≤ 1) × (0 < claims history place r → Claimed C start history r place)

abbrev pub Apart : {S : Type 0} → Cluster S → S → List Item → Run S → Type 0
Apart C start history r = (place : ℕ) → ApartAt C start history r place

same_terms : (o : Option Item) (a b : ℕ) → has_term o a ≡ true → has_term o b ≡ true → a ≡ b
same_terms None a b h k = absurd (let f : false ≡ true = h in cc)
same_terms (Some item) a b h k = sym (eqb-true item.term a h) ∙ eqb-true item.term b k

-- who is told a place waits for it, in the term that the history has there
found_claims : (list history : List Item) (p : Placing) (fact : Fact) (place : ℕ) → Starts list history → Finds list p fact
    → one (is_place place fact) ≤ one (is_claim history place (Some p))
found_claims list history p fact place begins f =
    subst (λ x. one (is_place place x) ≤ one (is_claim history place (Some p))) (sym f.fact_is)
    (go (f.item.term == p.term) (stamp_at (state _) f.item).valid refl)
  where
    there : slice_get history (p.place - 1) ≡ Some f.item
    there = get_starts list history (p.place - 1) f.item begins f.there

    here : (b : Bool) → nat_eq p.place place ≡ b → nat_eq f.item.term p.term ≡ true
        → one b ≤ one (b && has_term (slice_get history (place - 1)) p.term)
    here false e t = omega arith
    here true e t =
        let has : has_term (slice_get history (place - 1)) p.term ≡ true =
        ap (λ (n : ℕ). has_term (slice_get history (n - 1)) p.term) (sym (eqb-true p.place place e))
        ∙ ap (λ o. has_term o p.term) there ∙ t in
        omega (arith, ap one has)

    go : (t v : Bool) → nat_eq f.item.term p.term ≡ t
        → one (is_place place (if t then (if v then Placed p.place else Stale p.place) else Replaced p.place p.term f.item.term))
        ≤ one (is_claim history place (Some p))
    go true true e = here (nat_eq p.place place) refl e
    go true false e = omega arith
    go false v e = omega arith

module _ {S : Type 0} (C : Cluster S) (r : Run S) (c : Client) (history : List Item)
    (begins : Starts (applied C r.members c.member) history) (place : ℕ) where
  said_claims : (q : Question) (fact : Fact) → Says C r c q fact → one (is_place place fact) ≤ one (is_claim history place c.placing)
  said_claims _ _ (says_entered need h) = omega arith
  said_claims _ _ (says_late need h) = omega arith
  said_claims _ _ (says_rows calls end h) = omega arith
  said_claims _ _ (says_faulted calls fault h) = omega arith
  said_claims _ _ (says_elsewhere calls h k) = omega arith
  said_claims _ _ (says_done calls told h) = omega arith
  said_claims _ _ says_nothing = omega arith
  said_claims _ _ (says_found calls told p fact w is f) =
      subst (λ o. one (is_place place fact) ≤ one (is_claim history place o)) (sym is)
      (found_claims (applied C r.members c.member) history p fact place begins f)
  said_claims _ _ (says_unsure calls told p w is h) = omega arith
  said_claims _ _ says_routed = omega arith

told_fewer : {S : Type 0} (line : ℕ) (r : Run S) (i : ℕ) (c : Client) (fact : Fact) (history : List Item) (place : ℕ)
    → slice_get r.clients i ≡ Some c → one (is_place place fact) ≤ one (is_claim history place c.placing)
    → claims history place (told_to line r i c fact) ≤ claims history place r
told_fewer line r i c fact history place there less =
    omega (
      arith,
      less,
      count_push (λ (t : Saying). is_place place t.fact) r.told (record { line = line; conn = c.number; fact = fact }),
      count_set (λ (d : Client). is_claim history place d.placing) r.clients i c (with_fact r.now c fact) there,
    )

same_count : (history : List Item) (place : ℕ) (clients : List Client) (i : ℕ) (c d : Client) → slice_get clients i ≡ Some c
    → d.placing ≡ c.placing
    → count_by (λ (x : Client). is_claim history place x.placing) (slice_set clients i d)
    ≡ count_by (λ (x : Client). is_claim history place x.placing) clients
same_count history place clients i c d there e =
    omega (
      arith,
      count_set (λ (x : Client). is_claim history place x.placing) clients i c d there,
      ap (λ o. one (is_claim history place o)) e,
    )

module _ {S : Type 0} (C : Cluster S) (start : S) (four : Four C start) where
  -- each applied list begins the history of the end
  pub list_begins : (r end : Run S) (member : ℕ) → Path C (begun start) r → Path C r end → Starts (applied C r.members member) end.history
  list_begins r end member from to =
      all_or (λ list. Starts list end.history) (C.lists r.members) (member - 1) [] (four.begins r end from to) (end.history, refl)

  claimed_more : (history : List Item) (r s : Run S) (place : ℕ) → Small C r s → Claimed C start history r place
      → Claimed C start history s place
  claimed_more history r s place h x = record {
    then_ = x.then_;
    index = x.index;
    it = x.it;
    entry = x.entry;
    term = x.term;
    after = x.after;
    from = x.from;
    accepts = x.accepts;
    since = path_more C (accepted C x.then_ x.index x.it place x.term x.after) r s x.since h;
    has = x.has;
  }

  -- where no more claim a place than before
  fewer_at : (history : List Item) (r s : Run S) (place : ℕ) → Small C r s → claims history place s ≤ claims history place r
      → ApartAt C start history r place → ApartAt C start history s place
  fewer_at history r s place h less a =
      (omega (arith, a.0, less), λ some. claimed_more history r s place h (a.1 (omega (arith, some, less))))

  fewer : (history : List Item) (r s : Run S) → Small C r s → ((place : ℕ) → claims history place s ≤ claims history place r)
      → Apart C start history r → Apart C start history s
  fewer history r s h less k place = fewer_at history r s place h (less place) (k place)

  -- ---- an entry is accepted

  accepts_apart : (history : List Item) (r : Run S) (i : ℕ) (c : Client) (entry : Entry) (place term : ℕ) (after : S)
      → Small C r (accepted C r i c place term after) → Path C (begun start) r → Accepts C r i c entry place term after → c.placing ≡ None
      → Apart C start history r → Apart C start history (accepted C r i c place term after)
  accepts_apart history r i c entry place term after h from a none k other = go (nat_eq place other) refl where
    -- one more claim, or none
    more : (at : ℕ) → claims history at (accepted C r i c place term after)
        ≡ claims history at r + one (nat_eq place at && has_term (slice_get history (at - 1)) term)
    more at = omega (
      arith,
      count_set (λ (d : Client). is_claim history at d.placing) r.clients i c (with_placing r.now c place term) a.proposes.there.there,
      ap (λ o. one (is_claim history at o)) none,
    )

    still : (at : ℕ) → (nat_eq place at && has_term (slice_get history (at - 1)) term) ≡ false
        → ApartAt C start history (accepted C r i c place term after) at
    still at e = fewer_at history r (accepted C r i c place term after) at h (omega (arith, more at, ap one e)) (k at)

    twice : Claimed C start history r place → has_term (slice_get history (place - 1)) term ≡ true → ⊥
    twice x has =
        let same : term ≡ x.term = same_terms (slice_get history (place - 1)) term x.term has x.has in
        four.apart x.then_ r x.index i x.it c x.entry entry place x.term x.after after x.from x.accepts x.since
        (subst (λ (t : ℕ). Accepts C r i c entry place t after) same a)

    none_before : (n : ℕ) → claims history place r ≡ n → (0 < claims history place r → Claimed C start history r place)
        → has_term (slice_get history (place - 1)) term ≡ true → claims history place r ≡ 0
    none_before zero e f has = e
    none_before (suc n) e f has = absurd (twice (f (omega (arith, e))) has)

    here : (b : Bool) → has_term (slice_get history (place - 1)) term ≡ b
        → ApartAt C start history (accepted C r i c place term after) place
    here false e = still place (ap (λ b. b && has_term (slice_get history (place - 1)) term) (same_test place) ∙ e)
    here true e =
        let no = none_before (claims history place r) refl (k place).1 e in
        let one_more : (nat_eq place place && has_term (slice_get history (place - 1)) term) ≡ true =
        ap (λ b. b && has_term (slice_get history (place - 1)) term) (same_test place) ∙ e in (
          omega (arith, no, more place, ap one one_more),
          λ some. record {
            then_ = r;
            index = i;
            it = c;
            entry = entry;
            term = term;
            after = after;
            from = from;
            accepts = a;
            since = Here (accepted C r i c place term after);
            has = e;
          },
        )

    go : (b : Bool) → nat_eq place other ≡ b → ApartAt C start history (accepted C r i c place term after) other
    go true e = subst (ApartAt C start history (accepted C r i c place term after)) (eqb-true place other e)
        (here (has_term (slice_get history (place - 1)) term) refl)
    go false e = still other (ap (λ b. b && has_term (slice_get history (other - 1)) term) e)

  offers_apart : (history : List Item) (line : ℕ) (r : Run S) (i : ℕ) (c : Client) (entry : Entry) (o : Proposed S)
      → C.propose r.members c.member entry ≡ o → Small C r (proposed C line r i c o) → Path C (begun start) r → Proposes C r i c entry
      → Apart C start history r → Apart C start history (proposed C line r i c o)
  offers_apart history line r i c entry elsewhere e h from p k =
      fewer history r (told_to line r i c Elsewhere) h
      (λ place. told_fewer line r i c Elsewhere history place p.there.there (omega arith)) k
  offers_apart history line r i c entry (full entries) e h from p k =
      fewer history r (told_to line r i c (Full entries)) h
      (λ place. told_fewer line r i c (Full entries) history place p.there.there (omega arith)) k
  offers_apart history line r i c entry (placed place term after) e h from p k =
      accepts_apart history r i c entry place term after h from (record { proposes = p; accepts = e }) (is_offered C r c p.replies).none k

  -- ---- every small thing

  small_apart : (r s end : Run S) → Small C r s → Path C (begun start) r → Path C r end → Apart C start end.history r
      → Apart C start end.history s
  small_apart r s end (Ticks _ to le) from to_end k = fewer end.history r (ticked r to) (Ticks r to le) (λ place. omega arith) k
  small_apart r s end (Opens _ member printed some) from to_end k =
      fewer end.history r (opened r member printed) (Opens r member printed some)
      (λ place. omega (
        arith,
        count_push (λ (c : Client). is_claim end.history place c.placing) r.clients (record {
          number = length r.clients + 1;
          member = member;
          bytes = [];
          facts = [];
          since = r.now;
          placing = None;
          closed = false;
          printed = printed;
        }),
      )) k
  small_apart r s end (Feeds _ i c piece is) from to_end k =
      fewer end.history r (fed C r i c piece) (Feeds r i c piece is)
      (λ place. omega (arith, same_count end.history place r.clients i c (with_bytes C r.now c piece) is.there refl)) k
  small_apart r s end (Tells line _ i c fact t) from to_end k =
      let a = is_said C r c fact t.replies in
      fewer end.history r (told_to line r i c fact) (Tells line r i c fact t)
      (λ place. told_fewer line r i c fact end.history place t.there.there
      (said_claims C r c end.history (list_begins r end c.member from to_end) place a.question fact a.says)) k
  small_apart r s end (Offers line _ i c entry p) from to_end k =
      offers_apart end.history line r i c entry (C.propose r.members c.member entry) refl (Offers line r i c entry p) from p k
  small_apart r s end (Moves _ members m) from to_end k =
      fewer end.history r (moved C r members) (Moves r members m) (λ place. omega arith) k
  small_apart r s end (Restarts _ member members m none) from to_end k =
      fewer end.history r (moved C r members) (Restarts r member members m none) (λ place. omega arith) k
  small_apart r s end (Drives _ driving) from to_end k =
      fewer end.history r (record r { driving = driving }) (Drives r driving) (λ place. omega arith) k
  small_apart r s end (Closes _ i c is) from to_end k =
      fewer end.history r (closed_at r i c) (Closes r i c is)
      (λ place. omega (arith, same_count end.history place r.clients i c (record c { closed = true }) is.there refl)) k

  apart_by : (r end : Run S) → Path C (begun start) r → Path C r end → Apart C start end.history r → Apart C start end.history end
  apart_by r end from (Here _) k = k
  apart_by r end from (Then _ m _ h p) k =
      apart_by m end (path_more C (begun start) r m from h) p (small_apart r m end h from (Then r m end h p) k)

  pub places_are_apart : (end : Run S) → Path C (begun start) end → PlacesAreApart end
  places_are_apart end p place =
      let none : Apart C start end.history (begun start) = λ at. (omega arith, λ some. absurd (omega (arith, some))) in
      let a = apart_by (begun start) end (Here (begun start)) p none place in
      omega (arith, a.0)

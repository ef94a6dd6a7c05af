-- A session opens a link, closes it, or ends a work.
use Rattle.std.proofs.Common.{◌≡◌, ◌≢◌, ◌⊎◌, inl, inr, ℕ, ◌+◌, ◌-◌, ◌<◌, Bool, true, false, List, [], ◌∷◌, ◌++◌, length}
use Rattle.std.proofs.Common.{Option, Some, None, refl, sym, ap, subst, ◌∙◌, arith, append_assoc, append-nil, length-append, eqb-true}
use Rattle.std.specs.Prelude.{◌^◌, slice_get, slice_set, nat_eq}
use Rattle.std.specs.List.{AllByRecursion, Contains}
use Rattle.std.proofs.lemmas.List.Elements.{Contains-append_left, Contains-append_cases}
use Rattle.ncc_pack.specs.declared.value.Value.{Value}
use Rattle.ncc_driver.specs.declared.standing.Leg.{Leg}
use Rattle.ncc_driver.specs.declared.standing.Stage.{Stage}
use Rattle.ncc_driver.specs.declared.standing.Stage.TheVariants as stage
use Rattle.ncc_driver.specs.declared.action.Action.{Action}
use Rattle.ncc_driver.specs.declared.action.Action.TheVariants.{Connect, Close}
use Rattle.ncc_driver.specs.Session.{Begun}
use Rattle.ncc_session.specs.declared.ask.Fact.{Fact}
use Rattle.ncc_clients.specs.Members.{Cluster}
use Rattle.ncc_clients.specs.Links.{Link, Driver, Linked, bytes_in}
use Rattle.ncc_clients.specs.Run.{Run, Client, out_of, fed, with_bytes, closed_at}
use Rattle.ncc_clients.specs.Lawful.{place_of}
use Rattle.ncc_clients.specs.Transacting.{shake, Routes, Transacts}
use Rattle.ncc_clients.specs.Drives.{with_driver, feeds, feeds_one, closes, closes_one, joins}
use Rattle.ncc_driver.specs.LawsLegs.{DoneIn, presented_behind, sent_since}
use Rattle.ncc_clients.proofs.Driven.{begins_with, IsLeg, DriverSays}
use Rattle.ncc_clients.proofs.Lists.{get_append, get_within, set_same, set_other, set_length}
use Rattle.ncc_clients.proofs.Keeping.{newcomer}
use Rattle.ncc_clients.proofs.Fits.{same_test}
use Rattle.ncc_clients.proofs.Speaking.{Behind, Speaks}
use Rattle.ncc_clients.proofs.Driving.{sent_join}
use Rattle.ncc_clients.proofs.Linking.{flat, stage_of, came_of, Covers, IsHeard, Held, IsLink, IsLinkAt, At, Rests}
use Rattle.ncc_clients.proofs.Linking.{Around, Mid, rests_on}
use Rattle.ncc_clients.proofs.Legs.{leg_of}
use Rattle.ncc_clients.proofs.Doing.{in_one, last_in, set_again, set_back, get_end, becomes_self, mid_from, at_next}

same_link : (x y : Link) → Some x ≡ Some y → x ≡ y
same_link x y e = cc

pub none_or : {A : Type 0} (x : A) → None ≡ Some x → ⊥
none_or x e = cc

-- ---- a connection is another

-- the same run but for a connection
abbrev pub changed : {S : Type 0} → Run S → ℕ → Client → Run S
changed r i c = record r { clients = slice_set r.clients i c }

-- what feeding it, and then maybe closing it, makes of a connection
pub record Took (c : Client) (piece : List ℕ) (d : Client) : Type 0 where
  pub facts : d.facts ≡ c.facts
  pub live : d.closed ≡ false → c.closed ≡ false
  pub bytes : ((c.closed ≡ true) × (d.bytes ≡ c.bytes)) ⊎ ((c.closed ≡ false) × (d.bytes ≡ c.bytes ++ piece))

module _ {S : Type 0} (C : Cluster S) where
  -- whose connection a session's link is
  pub link_entry_of : (r : Run S) (j : ℕ) (d : Driver) (other : Link) → Rests C r.clients r.driving.linked r.driving.ended j d
      → d.link ≡ Some other
      → (m : ℕ) × (0 < other.conn) × Contains r.driving.linked (record { conn = other.conn; session = j; work = m })
  link_entry_of r j d other (inl h) e = absurd (none_or other (sym h.link ∙ e))
  link_entry_of r j d other (inr h) e =
      let l = subst (λ (o : Option Link). IsLinkAt C r.clients r.driving.linked j (length h.before)
      (presented_behind d.config h.before) (stage_of d) (came_of d) (sent_since [] h.did) o) e h.at.link in
      (length h.before, l.some, l.entry)

  -- where a session's own link is another, the link of each other session is as it was
  module _ (r : Run S) (k : ℕ) (n : ℕ) (link : Link) (some : 0 < link.conn)
      (entry : Contains r.driving.linked (record { conn = link.conn; session = k; work = n }))
      (around : Around C r.clients r.driving.linked r.driving.ended (length r.driving.drivers)) where
    -- its index is that of no other link
    pub apart_from : (j m : ℕ) (other : Link) → j ≢ k → 0 < other.conn
        → Contains r.driving.linked (record { conn = other.conn; session = j; work = m }) → (other.conn - 1) ≢ (link.conn - 1)
    apart_from j m other n_ o there e =
        let conn : other.conn ≡ link.conn = omega (arith, e, some, o) in
        n_ (ap (λ (l : Linked). l.session) (around.once _ _ there entry conn))

    pub others_as_before : (c : Client) (j : ℕ) (d : Driver) → j ≢ k → Rests C r.clients r.driving.linked r.driving.ended j d
        → Rests C (slice_set r.clients (link.conn - 1) c) r.driving.linked r.driving.ended j d
    others_as_before c j d other h = rests_on C _ _ _ _ _ _ j d (record {
      linked_back = λ l there mine. there;
      linked_on = λ l there. there;
      ended_back = λ e there mine. there;
      client = λ l x is there.
          let e = link_entry_of r j d l h is in
          (x, set_other r.clients (link.conn - 1) (l.conn - 1) c (apart_from j e.0 l other e.1 e.2) ∙ there, becomes_self C x);
    }) h

    -- what a session's connections say, where one of them is another that says so too
    pub held_still : (old new : Client) (bookmarks : List Value) → slice_get r.clients (link.conn - 1) ≡ Some old
        → Speaks C bookmarks new → Covers C r.driving.ended k n bookmarks
        → (l : Linked) → Contains r.driving.linked l → Held C (slice_set r.clients (link.conn - 1) new) r.driving.ended l
    held_still old new bookmarks there speaks covers l has = go (nat_eq (l.conn - 1) (link.conn - 1)) refl where
      h : Held C r.clients r.driving.ended l
      h = around.held l has

      go : (b : Bool) → nat_eq (l.conn - 1) (link.conn - 1) ≡ b → Held C (slice_set r.clients (link.conn - 1) new) r.driving.ended l
      go true e =
          let index : (l.conn - 1) ≡ (link.conn - 1) = eqb-true (l.conn - 1) (link.conn - 1) e in
          let conn : l.conn ≡ link.conn = omega (arith, index, some, h.some) in
          let same : l ≡ record { conn = link.conn; session = k; work = n } = around.once l _ has entry conn in
          record {
            c = new;
            some = h.some;
            there = ap (λ (m : ℕ). slice_get (slice_set r.clients (link.conn - 1) new) m) index
                ∙ set_same r.clients (link.conn - 1) old new there;
            bookmarks = bookmarks;
            speaks = speaks;
            covers = subst (λ (x : Linked). Covers C r.driving.ended x.session x.work bookmarks) (sym same) covers;
          }
      go false e = record {
        c = h.c;
        some = h.some;
        there = set_other r.clients (link.conn - 1) (l.conn - 1) new
            (λ s. let f : true ≡ false = sym (same_test (link.conn - 1)) ∙ ap (λ m. nat_eq m (link.conn - 1)) (sym s) ∙ e in cc)
            ∙ h.there;
        bookmarks = h.bookmarks;
        speaks = h.speaks;
        covers = h.covers;
      }

  -- ---- Close

  took_open : (r : Run S) (i : ℕ) (c : Client) (piece : List ℕ) → slice_get r.clients i ≡ Some c → c.closed ≡ false
      → closes (feeds C r i piece) i ≡ changed r i (record (with_bytes C r.now c piece) { closed = true })
  took_open r i c piece there live =
      let d = with_bytes C r.now c piece in
      let e = record d { closed = true } in
      let fed_is : feeds C r i piece ≡ fed C r i c piece = ap (feeds_one C r i piece) there ∙ one_fed r i c piece c.closed refl live in
      ap (λ (s : Run S). closes s i) fed_is
      ∙ ap (closes_one (fed C r i c piece) i) (set_same r.clients i c d there)
      ∙ one_closed (fed C r i c piece) i d d.closed refl live
      ∙ ap (λ (cs : List Client). record r { clients = cs }) (set_again r.clients i d e)
    where
      one_fed : (r : Run S) (i : ℕ) (c : Client) (piece : List ℕ) (b : Bool) → c.closed ≡ b → b ≡ false
          → feeds_one C r i piece (Some c) ≡ fed C r i c piece
      one_fed r i c piece true e live = absurd (cc)
      one_fed r i c piece false e live = rw e refl

      one_closed : (r : Run S) (i : ℕ) (c : Client) (b : Bool) → c.closed ≡ b → b ≡ false → closes_one r i (Some c) ≡ closed_at r i c
      one_closed r i c true e live = absurd (cc)
      one_closed r i c false e live = rw e refl

  took_closed : (r : Run S) (i : ℕ) (c : Client) (piece : List ℕ) → slice_get r.clients i ≡ Some c → c.closed ≡ true
      → closes (feeds C r i piece) i ≡ changed r i c
  took_closed r i c piece there dead =
      let still : feeds C r i piece ≡ r = ap (feeds_one C r i piece) there ∙ (rw dead refl) in
      ap (λ (s : Run S). closes s i) still
      ∙ ap (closes_one r i) there ∙ (rw dead refl)
      ∙ ap (λ (cs : List Client). record r { clients = cs }) (sym (set_back r.clients i c there))

  pub parts_is : (r : Run S) (i : ℕ) (c : Client) (piece : List ℕ) → slice_get r.clients i ≡ Some c
      → (d : Client) × Took c piece d × (closes (feeds C r i piece) i ≡ changed r i d)
  parts_is r i c piece there = go c.closed refl where
    go : (b : Bool) → c.closed ≡ b → (d : Client) × Took c piece d × (closes (feeds C r i piece) i ≡ changed r i d)
    go true e = (c, record { facts = refl; live = λ f. f; bytes = inl (e, refl) }, took_closed r i c piece there e)
    go false e = (
      record (with_bytes C r.now c piece) { closed = true },
      record { facts = refl; live = λ f. e; bytes = inr (e, refl) },
      took_open r i c piece there e,
    )

  -- it says what its link said, with what had waited to go up
  pub took_speaks : (bookmarks : List Value) (sent : List (List ℕ)) (c d : Client) (piece left rest : List ℕ) → IsLeg bookmarks sent
      → c.bytes ++ left ≡ flat sent → (c.closed ≡ false → left ≡ piece ++ rest) → Took c piece d → Speaks C bookmarks c
      → Speaks C bookmarks d
  took_speaks bookmarks sent c d piece left rest leg e waits t h = record {
    leg = go t.bytes;
    facts = λ q p. subst (AllByRecursion (Behind q)) (sym t.facts) (h.facts q p);
    within = subst (AllByRecursion (λ (x : Fact). place_of x < 2 ^ 64)) (sym t.facts) h.within;
  } where
    go : ((c.closed ≡ true) × (d.bytes ≡ c.bytes)) ⊎ ((c.closed ≡ false) × (d.bytes ≡ c.bytes ++ piece))
        → Routes d.bytes ⊎ ((writes : Bool) × Transacts (begins_with bookmarks writes) d.bytes)
    go (inl x) = leg_of bookmarks sent d.bytes left leg (ap (λ (b : List ℕ). b ++ left) x.1 ∙ e)
    go (inr x) = leg_of bookmarks sent d.bytes rest leg
        (ap (λ (b : List ℕ). b ++ rest) x.1 ∙ append_assoc c.bytes piece rest ∙ ap (λ (b : List ℕ). c.bytes ++ b) (sym (waits x.0)) ∙ e)

  pub mid_parts : DriverSays → (r : Run S) (k : ℕ) (d : Driver) (before : List Begun) (work : Begun) (did todo : List Action) (link : Link)
      → d.link ≡ Some link → DoneIn d.config before work (did ++ todo) → Mid C r k d before work did
      → Mid C (with_driver (closes (feeds C r (link.conn - 1) (bytes_in link.up)) (link.conn - 1)) k (record d { link = None })) k
      (record d { link = None }) before work (did ++ Close ∷ [])
  mid_parts says r k d before work did todo link is done m =
      subst (λ (s : Run S). Mid C (with_driver s k e) k e before work (did ++ Close ∷ [])) (sym p.2)
      (mid_from C (changed r i p.0) k d e before work (did ++ Close ∷ []) m.here
      (λ j x other there. others_as_before r k (length before) link l.some l.entry m.around p.0 j x other (m.others j x other there))
      (record {
        held = held_still r k (length before) link l.some l.entry m.around l.c p.0 bookmarks l.there new m.mine.owes;
        once = m.around.once;
        links_by = m.around.links_by;
        ends_by = m.around.ends_by;
      })
      (at_next C r.clients (slice_set r.clients i p.0) r.driving.linked r.driving.ended k d before work did Close None d.wakes (λ x. refl)
      m.mine tt))
    where
      bookmarks : List Value
      bookmarks = presented_behind d.config before

      i : ℕ
      i = link.conn - 1

      e : Driver
      e = record d { link = None }

      l : IsLink C r.clients r.driving.linked k (length before) bookmarks (stage_of d) (came_of d) (sent_since [] did) link
      l = subst (λ (o : Option Link). IsLinkAt C r.clients r.driving.linked k (length before) bookmarks (stage_of d) (came_of d)
          (sent_since [] did) o) is m.mine.link

      p : (x : Client) × Took l.c (bytes_in link.up) x × (closes (feeds C r i (bytes_in link.up)) i ≡ changed r i x)
      p = parts_is r i l.c (bytes_in link.up) l.there

      new : Speaks C bookmarks p.0
      new = took_speaks bookmarks (sent_since [] did) l.c p.0 (bytes_in link.up) l.left []
          (says.legs d.config before work did todo m.mine.fits m.mine.jobs done) l.sent_is
          (λ live. l.waits live ∙ sym (append-nil (bytes_in link.up))) p.1 l.speaks

  -- where no link is there
  pub mid_closes_none : (r : Run S) (k : ℕ) (d : Driver) (before : List Begun) (work : Begun) (did : List Action) → d.link ≡ None
      → Mid C r k d before work did → Mid C r k d before work (did ++ Close ∷ [])
  mid_closes_none r k d before work did none m = record {
    here = m.here;
    mine = at_next C r.clients r.clients r.driving.linked r.driving.ended k d before work did Close d.link d.wakes (λ x. refl) m.mine
        (subst (λ (o : Option Link). IsLinkAt C r.clients r.driving.linked k (length before) (presented_behind d.config before)
        (stage_of d) (came_of d) (sent_since [] (did ++ Close ∷ [])) o) (sym none) tt);
    others = m.others;
    around = m.around;
  }

  -- ---- Connect

  abbrev linked_at : Driver → ℕ → ℕ → Linked
  linked_at d conn k = record { conn = conn; session = k; work = length d.works - 1 }

  pub last_work : (d : Driver) (before : List Begun) (work : Begun) → d.works ≡ before ++ work ∷ [] → (length d.works - 1) ≡ length before
  last_work d before work e = omega (arith, ap length e, length-append before (work ∷ []))

  -- a new connection has said nothing
  new_speaks : (r : Run S) (member : ℕ) (bookmarks : List Value) → Speaks C bookmarks (newcomer r member true)
  new_speaks r member bookmarks = record {
    leg = inl ([], tt, record { can = tt; behind = []; unread = inl refl; rest = shake; begins = refl });
    facts = λ q p. tt;
    within = tt;
  }

  module _ (r : Run S) (k : ℕ) (d : Driver) (before : List Begun) (work : Begun) (did : List Action) (address : List ℕ) (member : ℕ)
      (m : Mid C r k d before work did) where
    abbrev conn : ℕ
    conn = length r.clients + 1

    abbrev pub new_link : Link
    new_link = record { conn = conn; up = []; down = 0 }

    abbrev new_entry : Linked
    new_entry = record { conn = conn; session = k; work = length d.works - 1 }

    entry_work : new_entry ≡ record { conn = conn; session = k; work = length before }
    entry_work = ap (λ (n : ℕ). record { conn = conn; session = k; work = n }) (last_work d before work m.mine.works_are)

    abbrev pub with_new : Driver
    with_new = record d { link = Some new_link }

    abbrev clients : List Client
    clients = r.clients ++ newcomer r member true ∷ []

    abbrev linked : List Linked
    linked = r.driving.linked ++ new_entry ∷ []

    new_there : slice_get clients (conn - 1) ≡ Some (newcomer r member true)
    new_there = ap (λ (n : ℕ). slice_get clients n) (let e : (conn - 1) ≡ length r.clients = omega arith in e)
        ∙ get_end r.clients (newcomer r member true)

    below : (l : Linked) → Contains r.driving.linked l → l.conn < conn
    below l there =
        let h = m.around.held l there in omega (arith, get_within r.clients (l.conn - 1) h.c h.there, h.some)

    which : (l : Linked) → Contains linked l → Contains r.driving.linked l ⊎ (new_entry ≡ l)
    which l there = elim (Contains-append_cases r.driving.linked (new_entry ∷ []) l there) [
      | inl x ↦ inl x
      | inr x ↦ inr (in_one new_entry l x)
    ]

    held_join : (l : Linked) → Contains linked l → Held C clients r.driving.ended l
    held_join l there = elim (which l there) [
      | inl x ↦ (
          let h = m.around.held l x in
          record {
            c = h.c;
            some = h.some;
            there = get_append r.clients (newcomer r member true ∷ []) (l.conn - 1) h.c h.there;
            bookmarks = h.bookmarks;
            speaks = h.speaks;
            covers = h.covers;
          })
      | inr x ↦ subst (Held C clients r.driving.ended) x (record {
        c = newcomer r member true;
        some = omega arith;
        there = new_there;
        bookmarks = presented_behind d.config before;
        speaks = new_speaks r member (presented_behind d.config before);
        covers = subst (λ (n : ℕ). Covers C r.driving.ended k n (presented_behind d.config before))
            (sym (last_work d before work m.mine.works_are)) m.mine.owes;
      })
    ]

    once_join : (l n : Linked) → Contains linked l → Contains linked n → l.conn ≡ n.conn → l ≡ n
    once_join l n a b e = go (which l a) (which n b) where
      go : Contains r.driving.linked l ⊎ (new_entry ≡ l) → Contains r.driving.linked n ⊎ (new_entry ≡ n) → l ≡ n
      go (inl x) (inl y) = m.around.once l n x y e
      go (inl x) (inr y) = absurd (omega (arith, below l x, e, ap (λ (z : Linked). z.conn) y))
      go (inr x) (inl y) = absurd (omega (arith, below n y, e, ap (λ (z : Linked). z.conn) x))
      go (inr x) (inr y) = sym x ∙ y

    others_join : (j : ℕ) (x : Driver) → j ≢ k → Rests C r.clients r.driving.linked r.driving.ended j x
        → Rests C clients linked r.driving.ended j x
    others_join j x n h = rests_on C _ _ _ _ _ _ j x (record {
      linked_back = λ l there mine. elim (which l there) [
        | inl y ↦ y
        | inr y ↦ absurd (n (sym mine ∙ ap (λ (z : Linked). z.session) (sym y)))
      ];
      linked_on = λ l there. Contains-append_left r.driving.linked (new_entry ∷ []) l there;
      ended_back = λ e there mine. there;
      client = λ l c is there. (c, get_append r.clients (newcomer r member true ∷ []) (l.conn - 1) c there, becomes_self C c);
    }) h

    new_is_link : (leg : Leg) → stage_of d ≡ stage.Joins leg → (sent : List (List ℕ)) → sent ≡ []
        → IsLink C clients linked k (length before) (presented_behind d.config before) (stage_of d) (came_of d) sent new_link
    new_is_link leg e sent none = record {
      entry = subst (Contains linked) entry_work (last_in r.driving.linked new_entry);
      some = omega arith;
      c = newcomer r member true;
      there = new_there;
      speaks = new_speaks r member (presented_behind d.config before);
      left = [];
      sent_is = ap flat (sym none);
      waits = λ live. refl;
      heard = subst (λ (s : Stage). IsHeard C s (came_of d) 0 (out_of C (newcomer r member true))) (sym e) tt;
    }

    at_join : (leg : Leg) → stage_of d ≡ stage.Joins leg → At C clients linked r.driving.ended k with_new before work
        (did ++ Connect address ∷ [])
    at_join leg e =
        let h = at_next C r.clients r.clients r.driving.linked r.driving.ended k d before work did (Connect address) None d.wakes
        (λ x. refl)
        m.mine tt in
        record {
          works_are = h.works_are;
          fits = h.fits;
          jobs = h.jobs;
          owes = h.owes;
          owes_now = h.owes_now;
          ended_are = h.ended_are;
          linked_are = λ l there mine. elim (which l there) [
            | inl y ↦ h.linked_are l y mine
            | inr y ↦ omega (arith, ap (λ (z : Linked). z.work) y, last_work d before work m.mine.works_are)
          ];
          link = new_is_link leg e _ (sent_join [] did (Connect address ∷ []));
        }

    pub mid_joins : (leg : Leg) → stage_of d ≡ stage.Joins leg
        → Mid C (joins k d r member) k with_new before work (did ++ Connect address ∷ [])
    mid_joins leg e = record {
      here = set_same r.driving.drivers k d with_new m.here;
      mine = at_join leg e;
      others = λ j x n there.
          others_join j x n (m.others j x n (sym (set_other r.driving.drivers k j with_new n) ∙ there));
      around = record {
        held = held_join;
        once = once_join;
        links_by = λ l there. elim (which l there) [
          | inl y ↦ omega (arith, m.around.links_by l y, set_length r.driving.drivers k with_new)
          | inr y ↦ omega (
            arith,
            ap (λ (z : Linked). z.session) y,
            get_within r.driving.drivers k d m.here,
            set_length r.driving.drivers k with_new,
          )
        ];
        ends_by = λ x there. omega (arith, m.around.ends_by x there, set_length r.driving.drivers k with_new);
      };
    }

  -- where it leads nowhere
  pub mid_nowhere : (r : Run S) (k : ℕ) (d : Driver) (before : List Begun) (work : Begun) (did : List Action) (address : List ℕ)
      → d.link ≡ None → Mid C r k d before work did → Mid C r k d before work (did ++ Connect address ∷ [])
  mid_nowhere r k d before work did address none m = record {
    here = m.here;
    mine = at_next C r.clients r.clients r.driving.linked r.driving.ended k d before work did (Connect address) d.link d.wakes (λ x. refl)
        m.mine (subst (λ (o : Option Link). IsLinkAt C r.clients r.driving.linked k (length before) (presented_behind d.config before)
        (stage_of d) (came_of d) (sent_since [] (did ++ Connect address ∷ [])) o) (sym none) tt);
    others = m.others;
    around = m.around;
  }

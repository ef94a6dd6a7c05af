-- Sessions of drivers in a run. What every moment between two things that happen keeps of them, in words:
--
--   Each connection that a session made sends what a client sends that asks for a routing table at most, or that opens at most one
--   transaction; that presents a place at or behind all places at which earlier works of its session ended; and each fact that the
--   connection was told stands at or behind the place that it presents. This stays so when the connection is no link any more, since
--   nobody else sends on it.
--
--   Of a session's link: the bytes that its connection has and those that wait to go up are together what the session sent since its last
--   Connect, as long as the connection is open, and else the connection has the first of them; and what came down is the first of what
--   the connection wrote. A link is there only while an answer is awaited.
--
--   What a session presents now is the bookmark of a place at or behind all places at which its works ended.
use Rattle.std.proofs.Common.{◌≡◌, ◌≢◌, ◌⊎◌, inl, inr, ℕ, ◌+◌, ◌-◌, ◌<◌, ◌≤◌, false, List, [], ◌∷◌, ◌++◌, length, Option}
use Rattle.std.proofs.Common.{Some, None, refl, sym, ap, ◌∙◌, append_assoc}
use Rattle.std.specs.Prelude.{IsTrue, slice_get}
use Rattle.std.specs.List.{AllByRecursion, Contains, flat_map}
use Rattle.ncc_pack.specs.declared.value.Value.{Value}
use Rattle.ncc_driver.specs.declared.standing.Stage.{Stage}
use Rattle.ncc_driver.specs.declared.standing.Stage.TheVariants as stage
use Rattle.ncc_driver.specs.declared.action.Action.{Action}
use Rattle.ncc_driver.specs.declared.action.Action.TheVariants.{Finish}
use Rattle.ncc_driver.specs.Config.{config_fits}
use Rattle.ncc_driver.specs.Session.{Begun, session, acts}
use Rattle.ncc_driver.specs.Laws.{presented}
use Rattle.ncc_clients.specs.Members.{Cluster}
use Rattle.ncc_clients.specs.Links.{Link, Driver, Linked, Ended, bytes_in}
use Rattle.ncc_clients.specs.Run.{Run, Client, out_of}
use Rattle.ncc_clients.specs.Drives.{driver_at}
use Rattle.ncc_clients.specs.Reads.{committed_at}
use Rattle.ncc_clients.specs.Course.{IsAllowed}
use Rattle.ncc_driver.specs.LawsLegs.{DoneIn, presented_behind, sent_since}
use Rattle.ncc_clients.proofs.Speaking.{Presented, Speaks}

abbrev pub flat : List (List ℕ) → List ℕ
flat sent = flat_map (λ (b : List ℕ). b) sent

abbrev pub stage_of : Driver → Stage
stage_of d = (session d.config d.works).state.place.core.stage

abbrev pub came_of : Driver → List ℕ
came_of d = (session d.config d.works).state.came

-- A session waits for no link, and has one only while it awaits an answer.
abbrev pub IsAtRest : Stage → Option Link → Type 0
IsAtRest (stage.Joins leg) link = ⊥
IsAtRest (stage.Awaits asked) link = Unit {0}
IsAtRest _ (Some link) = ⊥
IsAtRest _ None = Unit {0}

module _ {S : Type 0} (C : Cluster S) where
  -- These bookmarks are those of a place at or behind each at which a work of the session ended, of the first so many.
  abbrev pub Covers : List Ended → ℕ → ℕ → List Value → Type 0
  Covers ended k n bookmarks =
      (e : Ended) (p : ℕ) → Contains ended e → e.session ≡ k → e.work < n → committed_at e.result ≡ Some p
      → (q : ℕ) × Presented C.id bookmarks q × (p ≤ q)

  -- a connection that a session made, as a link or not any more
  pub record Held (clients : List Client) (ended : List Ended) (l : Linked) : Type 0 where
    pub c : Client
    pub some : 0 < l.conn
    pub there : slice_get clients (l.conn - 1) ≡ Some c
    pub bookmarks : List Value
    pub speaks : Speaks C bookmarks c
    pub covers : Covers ended l.session l.work bookmarks

  -- what came of what the connection wrote, while an answer is awaited
  abbrev pub IsHeard : Stage → List ℕ → ℕ → List ℕ → Type 0
  IsHeard (stage.Awaits asked) came down out = (length came ≡ down) × ((rest : List ℕ) × (came ++ rest ≡ out))
  IsHeard _ came down out = Unit {0}

  -- the link of a session
  pub record IsLink (clients : List Client) (linked : List Linked) (k n : ℕ) (bookmarks : List Value) (at : Stage) (came : List ℕ)
      (sent : List (List ℕ)) (link : Link) : Type 0 where
    pub entry : Contains linked (record { conn = link.conn; session = k; work = n })
    pub some : 0 < link.conn
    pub c : Client
    pub there : slice_get clients (link.conn - 1) ≡ Some c
    pub speaks : Speaks C bookmarks c
    pub left : List ℕ
    pub sent_is : c.bytes ++ left ≡ flat sent
    pub waits : c.closed ≡ false → left ≡ bytes_in link.up
    pub heard : IsHeard at came link.down (out_of C c)

  abbrev pub IsLinkAt : List Client → List Linked → ℕ → ℕ → List Value → Stage → List ℕ → List (List ℕ) → Option Link → Type 0
  IsLinkAt clients linked k n bookmarks at came sent None = Unit {0}
  IsLinkAt clients linked k n bookmarks at came sent (Some link) = IsLink clients linked k n bookmarks at came sent link

  -- a session that has done so much in its last work
  pub record At (clients : List Client) (linked : List Linked) (ended : List Ended) (k : ℕ) (d : Driver) (before : List Begun)
      (work : Begun)
      (did : List Action) : Type 0 where
    pub works_are : d.works ≡ before ++ work ∷ []
    pub fits : IsTrue (config_fits d.config)
    pub jobs : AllByRecursion IsAllowed (before ++ work ∷ [])
    pub owes : Covers ended k (length before) (presented_behind d.config before)
    pub owes_now : Covers ended k (length before + 1) (presented d.config.bookmarks (acts d.config before ++ did))
    pub ended_are : (e : Ended) → Contains ended e → e.session ≡ k
        → (e.work < length before) ⊎ ((e.work ≡ length before) × Contains did (Finish e.result))
    pub linked_are : (l : Linked) → Contains linked l → l.session ≡ k → l.work ≤ length before
    pub link : IsLinkAt clients linked k (length before) (presented_behind d.config before) (stage_of d) (came_of d)
        (sent_since [] did) d.link

  -- a session that has begun no work
  pub record Idle (linked : List Linked) (ended : List Ended) (k : ℕ) (d : Driver) : Type 0 where
    pub none : d.works ≡ []
    pub fits : IsTrue (config_fits d.config)
    pub link : d.link ≡ None
    pub no_ends : (e : Ended) → Contains ended e → e.session ≡ k → ⊥
    pub no_links : (l : Linked) → Contains linked l → l.session ≡ k → ⊥

  pub record Works (clients : List Client) (linked : List Linked) (ended : List Ended) (k : ℕ) (d : Driver) : Type 0 where
    pub before : List Begun
    pub work : Begun
    pub did : List Action
    pub at : At clients linked ended k d before work did
    pub done : DoneIn d.config before work did
    pub rest : IsAtRest (stage_of d) d.link

  abbrev pub Rests : List Client → List Linked → List Ended → ℕ → Driver → Type 0
  Rests clients linked ended k d = Idle linked ended k d ⊎ Works clients linked ended k d

  -- what is kept whichever session does something
  pub record Around (clients : List Client) (linked : List Linked) (ended : List Ended) (drivers : ℕ) : Type 0 where
    pub held : (l : Linked) → Contains linked l → Held clients ended l
    pub once : (l m : Linked) → Contains linked l → Contains linked m → l.conn ≡ m.conn → l ≡ m
    pub links_by : (l : Linked) → Contains linked l → l.session < drivers
    pub ends_by : (e : Ended) → Contains ended e → e.session < drivers

  -- between two things that happen
  pub record Kept (r : Run S) : Type 0 where
    pub sessions : (k : ℕ) (d : Driver) → driver_at r k ≡ Some d → Rests r.clients r.driving.linked r.driving.ended k d
    pub around : Around r.clients r.driving.linked r.driving.ended (length r.driving.drivers)

  -- in the middle of what a session does
  pub record Mid (r : Run S) (k : ℕ) (d : Driver) (before : List Begun) (work : Begun) (did : List Action) : Type 0 where
    pub here : driver_at r k ≡ Some d
    pub mine : At r.clients r.driving.linked r.driving.ended k d before work did
    pub others : (j : ℕ) (e : Driver) → j ≢ k → driver_at r j ≡ Some e → Rests r.clients r.driving.linked r.driving.ended j e
    pub around : Around r.clients r.driving.linked r.driving.ended (length r.driving.drivers)

  -- ---- what happens to others

  -- a connection that says no more, and is heard no less
  pub record Becomes (c d : Client) : Type 0 where
    pub speaks : (bookmarks : List Value) → Speaks C bookmarks c → Speaks C bookmarks d
    pub bytes : d.bytes ≡ c.bytes
    pub live : d.closed ≡ false → c.closed ≡ false
    pub more : List ℕ
    pub out : out_of C d ≡ out_of C c ++ more

  -- what a session that did nothing sees of it
  pub record Untouched (clients after : List Client) (linked linked_after : List Linked) (ended ended_after : List Ended) (k : ℕ)
      (d : Driver) : Type 0 where
    pub linked_back : (l : Linked) → Contains linked_after l → l.session ≡ k → Contains linked l
    pub linked_on : (l : Linked) → Contains linked l → Contains linked_after l
    pub ended_back : (e : Ended) → Contains ended_after e → e.session ≡ k → Contains ended e
    pub client : (link : Link) (c : Client) → d.link ≡ Some link → slice_get clients (link.conn - 1) ≡ Some c
        → (e : Client) × (slice_get after (link.conn - 1) ≡ Some e) × Becomes c e

  pub heard_on : (at : Stage) (came : List ℕ) (down : ℕ) (out more after : List ℕ) → after ≡ out ++ more → IsHeard at came down out
      → IsHeard at came down after
  heard_on (stage.Awaits asked) came down out more after e h =
      (h.0, (h.1.0 ++ more, sym (append_assoc came h.1.0 more) ∙ ap (λ (l : List ℕ). l ++ more) h.1.1 ∙ sym e))
  heard_on _ came down out more after e h = tt

  module _ (clients after : List Client) (linked linked_after : List Linked) (ended ended_after : List Ended) (k : ℕ) (d : Driver)
      (u : Untouched clients after linked linked_after ended ended_after k d) where
    link_on : (n : ℕ) (bookmarks : List Value) (at : Stage) (came : List ℕ) (sent : List (List ℕ)) (o : Option Link) → d.link ≡ o
        → IsLinkAt clients linked k n bookmarks at came sent o → IsLinkAt after linked_after k n bookmarks at came sent o
    link_on n bookmarks at came sent None e h = tt
    link_on n bookmarks at came sent (Some link) e h =
        let x = u.client link h.c e h.there in
        record {
          entry = u.linked_on _ h.entry;
          some = h.some;
          c = x.0;
          there = x.1;
          speaks = x.2.speaks bookmarks h.speaks;
          left = h.left;
          sent_is = ap (λ (b : List ℕ). b ++ h.left) x.2.bytes ∙ h.sent_is;
          waits = λ live. h.waits (x.2.live live);
          heard = heard_on at came link.down (out_of C h.c) x.2.more (out_of C x.0) x.2.out h.heard;
        }

    at_on : (before : List Begun) (work : Begun) (did : List Action) → At clients linked ended k d before work did
        → At after linked_after ended_after k d before work did
    at_on before work did h = record {
      works_are = h.works_are;
      fits = h.fits;
      jobs = h.jobs;
      owes = λ e p there mine less is. h.owes e p (u.ended_back e there mine) mine less is;
      owes_now = λ e p there mine less is. h.owes_now e p (u.ended_back e there mine) mine less is;
      ended_are = λ e there mine. h.ended_are e (u.ended_back e there mine) mine;
      linked_are = λ l there mine. h.linked_are l (u.linked_back l there mine) mine;
      link = link_on (length before) _ _ _ _ d.link refl h.link;
    }

    pub rests_on : Rests clients linked ended k d → Rests after linked_after ended_after k d
    rests_on (inl h) = inl (record {
      none = h.none;
      fits = h.fits;
      link = h.link;
      no_ends = λ e there mine. h.no_ends e (u.ended_back e there mine) mine;
      no_links = λ l there mine. h.no_links l (u.linked_back l there mine) mine;
    })
    rests_on (inr h) = inr (record {
      before = h.before;
      work = h.work;
      did = h.did;
      at = at_on h.before h.work h.did h.at;
      done = h.done;
      rest = h.rest;
    })

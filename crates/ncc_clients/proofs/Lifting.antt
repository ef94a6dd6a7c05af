-- Bytes of a session's link go up, or a small thing happens that sends nothing on a link: what is kept of sessions is kept.
use Rattle.std.proofs.Common.{◌≡◌, ◌≢◌, ◌⊎◌, inl, inr, ℕ, ◌-◌, Bool, true, false, List, [], ◌++◌, length, Option}
use Rattle.std.proofs.Common.{Some, None, refl, sym, ap, subst, ◌∙◌, append_assoc, append-nil}
use Rattle.std.specs.Prelude.{slice_get, slice_set, nat_eq, ◌∷◌}
use Rattle.ncc_pack.specs.declared.value.Value.{Value}
use Rattle.ncc_driver.specs.declared.standing.Stage.{Stage}
use Rattle.ncc_driver.specs.declared.standing.Stage.TheVariants as stage
use Rattle.ncc_session.specs.Question.{Question, bytes_of}
use Rattle.ncc_session.specs.Session.{asked_at}
use Rattle.ncc_session.proofs.Moves.{bytes_join}
use Rattle.ncc_clients.specs.Members.{Cluster, config_of}
use Rattle.ncc_clients.specs.Links.{Link, Driver, Lifted, Parcel, bytes_in}
use Rattle.ncc_clients.specs.Run.{Run, Client, begun, talk_of, out_of, with_bytes}
use Rattle.ncc_clients.specs.Moment.{Drives, Path}
use Rattle.ncc_clients.specs.Four.{Four}
use Rattle.ncc_clients.specs.Drives.{driver_at, with_driver, feeds, feeds_one, feeds_some, goes_up, lifts_by, lifts}
use Rattle.ncc_clients.specs.Course.{Splits}
use Rattle.ncc_driver.specs.LawsLegs.{DoneIn, presented_behind, sent_since}
use Rattle.ncc_clients.proofs.Driven.{DriverSays}
use Rattle.ncc_clients.proofs.Lists.{set_same}
use Rattle.ncc_clients.proofs.Known.{Known}
use Rattle.ncc_clients.proofs.Paths.{path_more}
use Rattle.ncc_clients.proofs.Fits.{same_test}
use Rattle.ncc_clients.proofs.Keeping.{sound_at}
use Rattle.ncc_clients.proofs.Speaking.{Speaks}
use Rattle.ncc_clients.proofs.Linking.{flat, stage_of, came_of, IsLink, IsLinkAt, IsAtRest, At, Rests, Works, Kept}
use Rattle.ncc_clients.proofs.Linking.{heard_on}
use Rattle.ncc_clients.proofs.Doing.{set_back}
use Rattle.ncc_clients.proofs.Parting.{none_or, changed, Took, took_speaks}
use Rattle.ncc_clients.proofs.Beside.{beside_kept, beside_driver, beside_changed}
use Rattle.ncc_clients.proofs.Beginning.{kept_beside}

pub same_client : (c d : Client) → Some c ≡ Some d → c ≡ d
same_client c d e = cc

pub index_not : (i j : ℕ) → nat_eq j i ≡ false → j ≢ i
index_not i j e same = let f : true ≡ false = sym (same_test i) ∙ ap (λ n. nat_eq n i) (sym same) ∙ e in cc

module _ {S : Type 0} (C : Cluster S) (start : S) (known : Known) (four : Four C start) (says : DriverSays) where
  -- what it wrote stays before what it writes with more bytes
  out_fed : (r : Run S) (i : ℕ) (c : Client) (piece : List ℕ) → Path C (begun start) r → slice_get r.clients i ≡ Some c
      → (more : List ℕ) × (out_of C (with_bytes C r.now c piece) ≡ out_of C c ++ more)
  out_fed r i c piece from there = go (asked_at (talk_of C c).core) refl where
    taken : (talk_of C c).facts ≡ []
    taken = ((sound_at C start known four r from).each i c there).served.taken

    go : (o : Option Question) → asked_at (talk_of C c).core ≡ o
        → (more : List ℕ) × (out_of C (with_bytes C r.now c piece) ≡ out_of C c ++ more)
    go None e =
        let w = known.on_bytes (config_of C c.number) c.bytes piece c.facts taken e in
        (bytes_of w.more, ap bytes_of w.written ∙ bytes_join (talk_of C c).written w.more)
    go (Some q) e =
        let w = known.stands_still (config_of C c.number) c.bytes piece c.facts q taken e in
        ([], ap bytes_of w.written ∙ sym (append-nil (out_of C c)))

  feeding_is : (r : Run S) (i : ℕ) (c : Client) (piece : List ℕ) → Path C (begun start) r → slice_get r.clients i ≡ Some c
      → (d : Client) × Took c piece d × ((more : List ℕ) × (out_of C d ≡ out_of C c ++ more)) × (feeds C r i piece ≡ changed r i d)
  feeding_is r i c piece from there = go c.closed refl where
    go : (b : Bool) → c.closed ≡ b
        → (d : Client) × Took c piece d × ((more : List ℕ) × (out_of C d ≡ out_of C c ++ more)) × (feeds C r i piece ≡ changed r i d)
    go true e = (
      c,
      record { facts = refl; live = λ f. f; bytes = inl (e, refl) },
      ([], sym (append-nil (out_of C c))),
      ap (feeds_one C r i piece) there ∙ (rw e refl)
          ∙ ap (λ (cs : List Client). record r { clients = cs }) (sym (set_back r.clients i c there)),
    )
    go false e = (
      with_bytes C r.now c piece,
      record { facts = refl; live = λ f. e; bytes = inr (e, refl) },
      out_fed r i c piece from there,
      ap (feeds_one C r i piece) there ∙ (rw e refl),
    )

  -- Where nothing moves, the connection is as it was.
  some_is : (r : Run S) (i : ℕ) (c : Client) (piece : List ℕ) → Path C (begun start) r → slice_get r.clients i ≡ Some c
      → (d : Client) × Took c piece d × ((more : List ℕ) × (out_of C d ≡ out_of C c ++ more)) × (feeds_some C r i piece ≡ changed r i d)
  some_is r i c (b ∷ bs) from there = feeding_is r i c (b ∷ bs) from there
  some_is r i c [] from there = (
    c,
    record { facts = refl; live = λ f. f; bytes = as_it_was c.closed refl },
    ([], sym (append-nil (out_of C c))),
    ap (λ (cs : List Client). record r { clients = cs }) (sym (set_back r.clients i c there)),
  ) where
    as_it_was : (b : Bool) → c.closed ≡ b
        → ((c.closed ≡ true) × (c.bytes ≡ c.bytes)) ⊎ ((c.closed ≡ false) × (c.bytes ≡ c.bytes ++ []))
    as_it_was true e = inl (e, refl)
    as_it_was false e = inr (e, sym (append-nil c.bytes))

  -- ---- bytes go up

  module _ (k : ℕ) (r : Run S) (from : Path C (begun start) r) (kept : Kept C r) (d : Driver) (here : driver_at r k ≡ Some d) (link : Link)
      (is : d.link ≡ Some link) (w : Works C r.clients r.driving.linked r.driving.ended k d) (l : Lifted)
      (split : l.moved ++ bytes_in l.left ≡ bytes_in link.up) where
    abbrev lighter : Link
    lighter = record link { up = l.left }

    abbrev with_link : Driver
    with_link = record d { link = Some lighter }

    abbrev before_it : Run S
    before_it = with_driver r k with_link

    abbrev bookmarks : List Value
    bookmarks = presented_behind d.config w.before

    old : IsLink C r.clients r.driving.linked k (length w.before) bookmarks (stage_of d) (came_of d) (sent_since [] w.did) link
    old = subst (λ (o : Option Link). IsLinkAt C r.clients r.driving.linked k (length w.before) bookmarks (stage_of d) (came_of d)
        (sent_since [] w.did) o) is w.at.link

    fed_is : (x : Client) × Took old.c l.moved x × ((more : List ℕ) × (out_of C x ≡ out_of C old.c ++ more))
        × (feeds_some C before_it (link.conn - 1) l.moved ≡ changed before_it (link.conn - 1) x)
    fed_is = some_is before_it (link.conn - 1) old.c l.moved (path_more C (begun start) r before_it from
        (Drives r before_it.driving)) old.there

    new_says : Speaks C bookmarks fed_is.0
    new_says = took_speaks C bookmarks (sent_since [] w.did) old.c fed_is.0 l.moved old.left (bytes_in l.left)
        (says.legs d.config w.before w.work w.did [] w.at.fits w.at.jobs
        (subst (DoneIn d.config w.before w.work) (sym (append-nil w.did)) w.done))
        old.sent_is (λ live. old.waits live ∙ sym split) fed_is.1 old.speaks

    new_link : IsLink C (slice_set r.clients (link.conn - 1) fed_is.0) r.driving.linked k (length w.before) bookmarks (stage_of d)
        (came_of d)
        (sent_since [] w.did) lighter
    new_link = go fed_is.1.bytes where
      with_left : (left : List ℕ) → fed_is.0.bytes ++ left ≡ flat (sent_since [] w.did) → (fed_is.0.closed ≡ false → left ≡ bytes_in l.left)
          → IsLink C (slice_set r.clients (link.conn - 1) fed_is.0) r.driving.linked k (length w.before) bookmarks (stage_of d) (came_of d)
          (sent_since [] w.did) lighter
      with_left left e f = record {
        entry = old.entry;
        some = old.some;
        c = fed_is.0;
        there = set_same r.clients (link.conn - 1) old.c fed_is.0 old.there;
        speaks = new_says;
        left = left;
        sent_is = e;
        waits = f;
        heard = heard_on C (stage_of d) (came_of d) link.down (out_of C old.c) fed_is.2.0 (out_of C fed_is.0) fed_is.2.1 old.heard;
      }

      go : ((old.c.closed ≡ true) × (fed_is.0.bytes ≡ old.c.bytes)) ⊎ ((old.c.closed ≡ false) × (fed_is.0.bytes ≡ old.c.bytes ++ l.moved))
          → IsLink C (slice_set r.clients (link.conn - 1) fed_is.0) r.driving.linked k (length w.before) bookmarks (stage_of d) (came_of d)
          (sent_since [] w.did) lighter
      go (inl x) = with_left old.left (ap (λ (b : List ℕ). b ++ old.left) x.1 ∙ old.sent_is)
          (λ live. absurd (let f : true ≡ false = sym x.0 ∙ fed_is.1.live live in cc))
      go (inr x) = with_left (bytes_in l.left)
          (ap (λ (b : List ℕ). b ++ bytes_in l.left) x.1 ∙ append_assoc old.c.bytes l.moved (bytes_in l.left)
          ∙ ap (λ (b : List ℕ). old.c.bytes ++ b) (split ∙ sym (old.waits x.0)) ∙ old.sent_is)
          (λ live. refl)

    at_lifted : At C (slice_set r.clients (link.conn - 1) fed_is.0) r.driving.linked r.driving.ended k with_link w.before w.work w.did
    at_lifted = record {
      works_are = w.at.works_are;
      fits = w.at.fits;
      jobs = w.at.jobs;
      owes = w.at.owes;
      owes_now = w.at.owes_now;
      ended_are = w.at.ended_are;
      linked_are = w.at.linked_are;
      link = new_link;
    }

    rests_lifted : (s : Stage) → IsAtRest s (Some link) → IsAtRest s (Some lighter)
    rests_lifted (stage.Awaits awaited) h = tt
    rests_lifted _ h = absurd h

    pub lifted_kept : Kept C (goes_up C k r d link l)
    lifted_kept = subst (λ (s : Run S). Kept C s) (sym fed_is.3)
        (kept_beside C says (changed before_it (link.conn - 1) fed_is.0) k with_link
        (beside_changed C before_it k
        (length w.before) with_link link old.c fed_is.0 bookmarks old.some old.entry old.there new_says w.at.owes
        (beside_driver C r k d with_link (beside_kept C r k d here kept)))
        (inr (record {
          before = w.before;
          work = w.work;
          did = w.did;
          at = at_lifted;
          done = w.done;
          rest = rests_lifted (stage_of d) (subst (λ (o : Option Link). IsAtRest (stage_of d) o) is w.rest);
        })))

  lifts_open : (k : ℕ) (r : Run S) (d : Driver) (link : Link) (l : Lifted) → Path C (begun start) r → Kept C r → driver_at r k ≡ Some d
      → d.link ≡ Some link → Rests C r.clients r.driving.linked r.driving.ended k d → l.moved ++ bytes_in l.left ≡ bytes_in link.up
      → Kept C (goes_up C k r d link l)
  lifts_open k r d link l from h here is (inl idle) split = absurd (none_or link (sym idle.link ∙ is))
  lifts_open k r d link l from h here is (inr w) split = lifted_kept k r from h d here link is w l split

  lifts_linked : (k : ℕ) (r : Run S) (d : Driver) (lift : List Parcel → Lifted) → Path C (begun start) r → Kept C r → driver_at r k ≡ Some d
      → Splits lift → (o : Option Link) → d.link ≡ o → Kept C (lifts_by C k r d o lift)
  lifts_linked k r d lift from h here splits None e = h
  lifts_linked k r d lift from h here splits (Some link) e =
      lifts_open k r d link (lift link.up) from h here e (h.sessions k d here) (splits link.up)

  pub lifts_kept : (k : ℕ) (r : Run S) (lift : List Parcel → Lifted) → Path C (begun start) r → Kept C r → Splits lift
      → Kept C (lifts C k r (driver_at r k) lift)
  lifts_kept k r lift from h splits = go (driver_at r k) refl where
    go : (o : Option Driver) → driver_at r k ≡ o → Kept C (lifts C k r o lift)
    go None e = h
    go (Some d) e = lifts_linked k r d lift from h e splits d.link refl

-- Small things that send nothing on a link: what is kept of sessions is kept.
use Rattle.std.proofs.Common.{◌≡◌, inl, inr, ℕ, ◌+◌, ◌-◌, Bool, true, false, List, [], ◌∷◌, ◌++◌, length}
use Rattle.std.proofs.Common.{Some, refl, sym, ap, subst, ◌∙◌, arith, append-nil, eqb-true}
use Rattle.std.specs.Prelude.{slice_get, slice_set, nat_eq}
use Rattle.ncc_tx.specs.declared.entry.Entry.{Entry}
use Rattle.ncc_session.specs.declared.ask.Fact.{Fact}
use Rattle.ncc_session.specs.declared.ask.Fact.TheVariants.{Elsewhere, Full}
use Rattle.ncc_session.specs.Question.{Question, leave, bytes_of, fits}
use Rattle.ncc_session.proofs.Moves.{bytes_join}
use Rattle.ncc_clients.specs.Members.{Cluster, Proposed, elsewhere, full, placed, config_of}
use Rattle.ncc_clients.specs.Links.{Driver, Linked, Driving}
use Rattle.ncc_clients.specs.Run.{Run, Client, begun, talk_of, out_of, question_of, with_bytes, with_fact, with_placing, proposed}
use Rattle.ncc_clients.specs.Moment.{IsOpen, Proposes, Small, Ticks, Opens, Feeds, Tells, Offers, Moves, Restarts, Drives, Closes, Path}
use Rattle.ncc_clients.specs.Four.{Four}
use Rattle.ncc_clients.specs.Laws.{IsAnswered}
use Rattle.ncc_clients.specs.Course.{IsNoLink, LeavesSessions, HasNumbers}
use Rattle.ncc_clients.proofs.Lists.{get_append, set_same, set_other}
use Rattle.ncc_clients.proofs.Known.{Known}
use Rattle.ncc_clients.proofs.Fits.{said_fits}
use Rattle.ncc_clients.proofs.Says.{is_said, is_offered}
use Rattle.ncc_clients.proofs.Keeping.{sound_at, asked_is, newcomer}
use Rattle.ncc_clients.proofs.Speaking.{told_speaks}
use Rattle.ncc_clients.proofs.Linking.{Held, Rests, Around, Kept, Becomes, rests_on}
use Rattle.ncc_clients.proofs.Doing.{becomes_self}
use Rattle.ncc_clients.proofs.Parting.{link_entry_of}
use Rattle.ncc_clients.proofs.Lifting.{same_client, index_not}

module _ {S : Type 0} (C : Cluster S) where
  -- what is kept, by connections and sessions alone
  record Keeps (clients : List Client) (driving : Driving) : Type 0 where
    sessions : (k : ℕ) (d : Driver) → slice_get driving.drivers k ≡ Some d → Rests C clients driving.linked driving.ended k d
    around : Around C clients driving.linked driving.ended (length driving.drivers)

  kept_of : (s : Run S) → Keeps s.clients s.driving → Kept C s
  kept_of s h = record { sessions = h.sessions; around = h.around }

  -- a connection is another that says no more and is heard no less
  becomes_keeps : (r : Run S) (i : ℕ) (c e : Client) → slice_get r.clients i ≡ Some c → Becomes C c e → Kept C r
      → Keeps (slice_set r.clients i e) r.driving
  becomes_keeps r i c e there becomes h = record {
    sessions = λ k d at. rests_on C _ _ _ _ _ _ k d (record {
      linked_back = λ l has mine. has;
      linked_on = λ l has. has;
      ended_back = λ x has mine. has;
      client = λ link x is at_link. on_client (link.conn - 1) x at_link (nat_eq (link.conn - 1) i) refl;
    }) (h.sessions k d at);
    around = record {
      held = λ l has. held_on l (h.around.held l has);
      once = h.around.once;
      links_by = h.around.links_by;
      ends_by = h.around.ends_by;
    };
  } where
    on_client : (j : ℕ) (x : Client) → slice_get r.clients j ≡ Some x → (b : Bool) → nat_eq j i ≡ b
        → (y : Client) × (slice_get (slice_set r.clients i e) j ≡ Some y) × Becomes C x y
    on_client j x at true f =
        let index : j ≡ i = eqb-true j i f in
        let same : c ≡ x = same_client c x (sym there ∙ ap (slice_get r.clients) (sym index) ∙ at) in (
          e,
          ap (slice_get (slice_set r.clients i e)) index ∙ set_same r.clients i c e there,
          subst (λ
              (z : Client). Becomes C z e) same becomes,
        )
    on_client j x at false f = (x, set_other r.clients i j e (index_not i j f) ∙ at, becomes_self C x)

    held_on : (l : Linked) → Held C r.clients r.driving.ended l → Held C (slice_set r.clients i e) r.driving.ended l
    held_on l x =
        let y = on_client (l.conn - 1) x.c x.there (nat_eq (l.conn - 1) i) refl in
        record {
          c = y.0;
          some = x.some;
          there = y.1;
          bookmarks = x.bookmarks;
          speaks = y.2.speaks x.bookmarks x.speaks;
          covers = x.covers;
        }

  -- a connection that is no link is another
  apart_keeps : (r : Run S) (i : ℕ) (e : Client) → IsNoLink r (i + 1) → Kept C r → Keeps (slice_set r.clients i e) r.driving
  apart_keeps r i e apart h = record {
    sessions = λ k d at. rests_on C _ _ _ _ _ _ k d (record {
      linked_back = λ l has mine. has;
      linked_on = λ l has. has;
      ended_back = λ x has mine. has;
      client = λ link x is there.
          let m = link_entry_of C r k d link (h.sessions k d at) is in
          (x, set_other r.clients i (link.conn - 1) e (λ same. apart _ m.2 (omega (arith, same, m.1))) ∙ there, becomes_self C x);
    }) (h.sessions k d at);
    around = record {
      held = λ l has. (
          let x = h.around.held l has in
          record {
            c = x.c;
            some = x.some;
            there = set_other r.clients i (l.conn - 1) e (λ same. apart l has (omega (arith, same, x.some))) ∙ x.there;
            bookmarks = x.bookmarks;
            speaks = x.speaks;
            covers = x.covers;
          });
      once = h.around.once;
      links_by = h.around.links_by;
      ends_by = h.around.ends_by;
    };
  }

  -- one more connects
  opened_keeps : (r : Run S) (x : Client) → Kept C r → Keeps (r.clients ++ x ∷ []) r.driving
  opened_keeps r x h = record {
    sessions = λ k d at. rests_on C _ _ _ _ _ _ k d (record {
      linked_back = λ l has mine. has;
      linked_on = λ l has. has;
      ended_back = λ y has mine. has;
      client = λ link c is there. (c, get_append r.clients (x ∷ []) (link.conn - 1) c there, becomes_self C c);
    }) (h.sessions k d at);
    around = record {
      held = λ l has. (
          let y = h.around.held l has in
          record {
            c = y.c;
            some = y.some;
            there = get_append r.clients (x ∷ []) (l.conn - 1) y.c y.there;
            bookmarks = y.bookmarks;
            speaks = y.speaks;
            covers = y.covers;
          });
      once = h.around.once;
      links_by = h.around.links_by;
      ends_by = h.around.ends_by;
    };
  }

  same_keeps : (r : Run S) → Kept C r → Keeps r.clients r.driving
  same_keeps r h = record { sessions = h.sessions; around = h.around }

  -- ---- a connection is told a fact, is proposed, or is closed

  module _ (start : S) (known : Known) (four : Four C start) (numbers : HasNumbers C start) where
    becomes_told : (r : Run S) (i : ℕ) (c : Client) (q : Question) (fact : Fact) → Path C (begun start) r → IsOpen r i c
        → question_of C c ≡ Some q → fits q fact ≡ true → IsAnswered C r i c fact → Becomes C c (with_fact r.now c fact)
    becomes_told r i c q fact from is asks fit answered =
        let taken = ((sound_at C start known four r from).each i c is.there).served.taken in
        let w = known.on_facts (config_of C c.number) c.bytes c.facts q fact taken (asked_is C start known four c
        (Some q) is.live asks) fit in
        record {
          speaks = λ bookmarks h. told_speaks C start known four bookmarks r i c fact numbers from answered h;
          bytes = refl;
          live = λ e. e;
          more = bytes_of w.more;
          out = ap bytes_of w.written ∙ bytes_join (talk_of C c).written w.more;
        }

    becomes_placed : (r : Run S) (c : Client) (place term : ℕ) → Becomes C c (with_placing r.now c place term)
    becomes_placed r c place term = record {
      speaks = λ bookmarks h. record { leg = h.leg; facts = h.facts; within = h.within };
      bytes = refl;
      live = λ e. e;
      more = [];
      out = sym (append-nil (out_of C c));
    }

    becomes_closed : (c : Client) → Becomes C c (record c { closed = true })
    becomes_closed c = record {
      speaks = λ bookmarks h. record { leg = h.leg; facts = h.facts; within = h.within };
      bytes = refl;
      live = λ e. absurd (let f : true ≡ false = e in cc);
      more = [];
      out = sym (append-nil (out_of C c));
    }

    offered_kept : (line : ℕ) (r : Run S) (i : ℕ) (c : Client) (entry : Entry) (o : Proposed S) → C.propose r.members c.member entry ≡ o
        → Path C (begun start) r → Proposes C r i c entry → Kept C r → Kept C (proposed C line r i c o)
    offered_kept line r i c entry elsewhere e from p h =
        let o = is_offered C r c p.replies in
        kept_of (proposed C line r i c elsewhere) (becomes_keeps r i c (with_fact r.now c Elsewhere) p.there.there
        (becomes_told r i c (leave o.calls o.told) Elsewhere from p.there o.asks o.writes (inr (entry, p, e))) h)
    offered_kept line r i c entry (full entries) e from p h =
        let o = is_offered C r c p.replies in
        kept_of (proposed C line r i c (full entries)) (becomes_keeps r i c (with_fact r.now c (Full entries)) p.there.there
        (becomes_told r i c (leave o.calls o.told) (Full entries) from p.there o.asks o.writes (inr (entry, p, e))) h)
    offered_kept line r i c entry (placed place term after) e from p h =
        kept_of (proposed C line r i c (placed place term after)) (becomes_keeps r i c (with_placing r.now c place term) p.there.there
        (becomes_placed r c place term) h)

    -- ---- every small thing

    pub small_kept : (r s : Run S) (h : Small C r s) → LeavesSessions C r s h → Path C (begun start) r → Kept C r → Kept C s
    small_kept r s (Ticks _ to le) leaves from h = kept_of s (same_keeps r h)
    small_kept r s (Opens _ member printed some) leaves from h = kept_of s (opened_keeps r (newcomer r member printed) h)
    small_kept r s (Feeds _ i c piece is) leaves from h = kept_of s (apart_keeps r i (with_bytes C r.now c piece) leaves h)
    small_kept r s (Tells line _ i c fact t) leaves from h =
        let a = is_said C r c fact t.replies in
        kept_of s (becomes_keeps r i c (with_fact r.now c fact) t.there.there
        (becomes_told r i c a.question fact from t.there a.asks (said_fits C r c known a.question fact a.says) (inl
        (t.there, t.replies))) h)
    small_kept r s (Offers line _ i c entry p) leaves from h =
        offered_kept line r i c entry (C.propose r.members c.member entry) refl from p h
    small_kept r s (Moves _ members m) leaves from h = kept_of s (same_keeps r h)
    small_kept r s (Restarts _ member members m none) leaves from h = kept_of s (same_keeps r h)
    small_kept r s (Drives _ driving) leaves from h = absurd leaves
    small_kept r s (Closes _ i c is) leaves from h =
        kept_of s (becomes_keeps r i c (record c { closed = true }) is.there (becomes_closed c) h)

-- What a session wants done is done, thing by thing: each keeps what is kept of sessions.
use Rattle.std.proofs.Common.{◌≡◌, ◌≢◌, inl, inr, ℕ, zero, suc, ◌+◌, List, [], ◌∷◌, ◌++◌, length}
use Rattle.std.proofs.Common.{Option, Some, None, refl, sym, ap, subst, ◌∙◌, arith, append_assoc, append-nil}
use Rattle.std.specs.Prelude.{slice_get, slice_set}
use Rattle.std.specs.List.{Contains}
use Rattle.std.proofs.lemmas.List.Elements.{Contains-append_left, Contains-append_right}
use Rattle.ncc_pack.specs.declared.value.Value.{Value}
use Rattle.ncc_driver.specs.declared.standing.Stage.{Stage}
use Rattle.ncc_driver.specs.declared.action.Action.{Action}
use Rattle.ncc_driver.specs.declared.action.Action.TheVariants.{Send, Sleep, Receive, Finish}
use Rattle.ncc_driver.specs.Session.{Begun, acts}
use Rattle.ncc_driver.specs.Laws.{presented}
use Rattle.ncc_clients.specs.Members.{Cluster}
use Rattle.ncc_clients.specs.Links.{Link, Driver, Linked, Ended, Parcel, parcel, bytes_in}
use Rattle.ncc_clients.specs.Run.{Run, Client, out_of}
use Rattle.ncc_clients.specs.Drives.{driver_at, with_driver, sends}
use Rattle.ncc_driver.specs.LawsLegs.{presented_behind, sent_since}
use Rattle.ncc_clients.proofs.Lists.{set_same, set_other, set_length}
use Rattle.ncc_clients.proofs.Driving.{sent_join, presented_join, flat_join}
use Rattle.ncc_clients.proofs.Linking.{flat, stage_of, came_of, Covers, IsLinkAt, At, Rests, Around, Mid, Becomes}

-- ---- lists

pub in_one : {A : Type 0} (x y : A) → Contains (x ∷ []) y → x ≡ y
in_one x y (zero, lt, e) = e
in_one x y (suc n, lt, e) = absurd (omega (arith, lt))

pub first_in : {A : Type 0} (x : A) (xs : List A) → Contains (x ∷ xs) x
first_in x xs = (0, omega arith, refl)

pub last_in : {A : Type 0} (xs : List A) (x : A) → Contains (xs ++ x ∷ []) x
last_in xs x = Contains-append_right xs (x ∷ []) x (first_in x [])

pub set_again : {A : Type 0} (xs : List A) (i : ℕ) (x y : A) → slice_set (slice_set xs i x) i y ≡ slice_set xs i y
set_again [] i x y = refl
set_again (z ∷ xs) zero x y = refl
set_again (z ∷ xs) (suc i) x y = ap (λ (l : List _). z ∷ l) (set_again xs i x y)

pub set_back : {A : Type 0} (xs : List A) (i : ℕ) (x : A) → slice_get xs i ≡ Some x → slice_set xs i x ≡ xs
set_back [] i x e = refl
set_back (z ∷ xs) zero x e = let same : z ≡ x = cc in ap (λ (y : _). y ∷ xs) (sym same)
set_back (z ∷ xs) (suc i) x e = ap (λ (l : List _). z ∷ l) (set_back xs i x e)

pub get_end : {A : Type 0} (xs : List A) (x : A) → slice_get (xs ++ x ∷ []) (length xs) ≡ Some x
get_end [] x = refl
get_end (y ∷ xs) x = get_end xs x

pub bytes_join : (a b : List Parcel) → bytes_in (a ++ b) ≡ bytes_in a ++ bytes_in b
bytes_join [] b = refl
bytes_join (p ∷ a) b = ap (λ (l : List ℕ). p.bytes ++ l) (bytes_join a b) ∙ sym (append_assoc p.bytes (bytes_in a) (bytes_in b))

module _ {S : Type 0} (C : Cluster S) where
  pub becomes_self : (c : Client) → Becomes C c c
  becomes_self c = record {
    speaks = λ bookmarks h. h;
    bytes = refl;
    live = λ e. e;
    more = [];
    out = sym (append-nil (out_of C c));
  }

  -- ---- a driver alone is another

  pub mid_from : (r : Run S) (k : ℕ) (d e : Driver) (before : List Begun) (work : Begun) (done : List Action) → driver_at r k ≡ Some d
      → ((j : ℕ) (x : Driver) → j ≢ k → driver_at r j ≡ Some x → Rests C r.clients r.driving.linked r.driving.ended j x)
      → Around C r.clients r.driving.linked r.driving.ended (length r.driving.drivers)
      → At C r.clients r.driving.linked r.driving.ended k e before work done → Mid C (with_driver r k e) k e before work done
  mid_from r k d e before work done here others around h = record {
    here = set_same r.driving.drivers k d e here;
    mine = h;
    others = λ j x n there. others j x n (sym (set_other r.driving.drivers k j e n) ∙ there);
    around = record {
      held = around.held;
      once = around.once;
      links_by = λ l there. omega (arith, around.links_by l there, set_length r.driving.drivers k e);
      ends_by = λ x there. omega (arith, around.ends_by x there, set_length r.driving.drivers k e);
    };
  }

  pub mid_driver : (r : Run S) (k : ℕ) (d e : Driver) (before : List Begun) (work : Begun) (did done : List Action)
      → Mid C r k d before work did
      → At C r.clients r.driving.linked r.driving.ended k e before work done → Mid C (with_driver r k e) k e before work done
  mid_driver r k d e before work did done m h = mid_from r k d e before work done m.here m.others m.around h

  -- what one more action leaves presented
  presented_next : (given : List Value) (before did : List Action) (a : Action) → ((x : List Value) → presented x (a ∷ []) ≡ x)
      → presented given (before ++ (did ++ a ∷ [])) ≡ presented given (before ++ did)
  presented_next given before did a keeps =
      ap (presented given) (sym (append_assoc before did (a ∷ []))) ∙ presented_join given (before ++ did) (a ∷ [])
      ∙ keeps (presented given (before ++ did))

  covers_same : (ended : List Ended) (k n : ℕ) (xs ys : List Value) → ys ≡ xs → Covers C ended k n xs → Covers C ended k n ys
  covers_same ended k n xs ys e h = subst (Covers C ended k n) (sym e) h

  -- an action that opens and ends nothing
  pub at_next : (clients after : List Client) (linked : List Linked) (ended : List Ended) (k : ℕ) (d : Driver) (before : List Begun)
      (work : Begun) (did : List Action) (a : Action) (link : Option Link) (wakes : Option ℕ)
      → ((x : List Value) → presented x (a ∷ []) ≡ x) → At C clients linked ended k d before work did
      → IsLinkAt C after linked k (length before) (presented_behind d.config before) (stage_of d) (came_of d)
      (sent_since [] (did ++ a ∷ [])) link
      → At C after linked ended k (record d { link = link; wakes = wakes }) before work (did ++ a ∷ [])
  at_next clients after linked ended k d before work did a link wakes keeps h l = record {
    works_are = h.works_are;
    fits = h.fits;
    jobs = h.jobs;
    owes = h.owes;
    owes_now = covers_same ended k (length before + 1) _ _ (presented_next d.config.bookmarks
        (acts d.config before) did a keeps) h.owes_now;
    ended_are = λ e there mine. elim (h.ended_are e there mine) [
      | inl less ↦ inl less
      | inr x ↦ inr (x.0, Contains-append_left did (a ∷ []) (Finish e.result) x.1)
    ];
    linked_are = h.linked_are;
    link = l;
  }

  -- ---- Sleep, Receive, Send

  pub link_next : (clients : List Client) (linked : List Linked) (k n : ℕ) (bookmarks : List Value) (at : Stage) (came : List ℕ)
      (sent after : List (List ℕ)) (link : Option Link) → after ≡ sent → IsLinkAt C clients linked k n bookmarks at came sent link
      → IsLinkAt C clients linked k n bookmarks at came after link
  link_next clients linked k n bookmarks at came sent after link e h =
      subst (λ (x : List (List ℕ)). IsLinkAt C clients linked k n bookmarks at came x link) (sym e) h

  link_sends : (clients : List Client) (linked : List Linked) (k n : ℕ) (bookmarks : List Value) (at : Stage) (came : List ℕ)
      (sent : List (List ℕ)) (bytes : List ℕ) (link : Option Link) → IsLinkAt C clients linked k n bookmarks at came sent link
      → IsLinkAt C clients linked k n bookmarks at came (sent ++ bytes ∷ []) (sends bytes link)
  link_sends clients linked k n bookmarks at came sent bytes None h = tt
  link_sends clients linked k n bookmarks at came sent bytes (Some link) h = record {
    entry = h.entry;
    some = h.some;
    c = h.c;
    there = h.there;
    speaks = h.speaks;
    left = h.left ++ bytes;
    sent_is = sym (append_assoc h.c.bytes h.left bytes) ∙ ap (λ (l : List ℕ). l ++ bytes) h.sent_is
        ∙ ap (λ (l : List ℕ). flat sent ++ l) (sym (append-nil bytes)) ∙ sym (flat_join sent (bytes ∷ []));
    waits = λ live. ap (λ (l : List ℕ). l ++ bytes) (h.waits live) ∙ ap (λ (l : List ℕ). bytes_in link.up ++ l) (sym (append-nil bytes))
        ∙ sym (bytes_join link.up (parcel bytes ∷ []));
    heard = h.heard;
  }

  pub mid_sleeps : (r : Run S) (k : ℕ) (d : Driver) (before : List Begun) (work : Begun) (did : List Action) (until : ℕ)
      → Mid C r k d before work did
      → Mid C (with_driver r k (record d { wakes = Some until })) k (record d { wakes = Some until }) before work (did ++ Sleep until ∷ [])
  mid_sleeps r k d before work did until m =
      mid_driver r k d (record d { wakes = Some until }) before work did (did ++ Sleep until ∷ []) m
      (at_next r.clients r.clients r.driving.linked r.driving.ended k d before work did (Sleep until) d.link (Some until) (λ x. refl) m.mine
      (link_next _ _ _ _ _ _ _ _ _ d.link (sent_join [] did (Sleep until ∷ [])) m.mine.link))

  pub mid_receives : (r : Run S) (k : ℕ) (d : Driver) (before : List Begun) (work : Begun) (did : List Action)
      → Mid C r k d before work did → Mid C r k d before work (did ++ Receive ∷ [])
  mid_receives r k d before work did m = record {
    here = m.here;
    mine = at_next r.clients r.clients r.driving.linked r.driving.ended k d before work did Receive d.link d.wakes (λ x. refl) m.mine
        (link_next _ _ _ _ _ _ _ _ _ d.link (sent_join [] did (Receive ∷ [])) m.mine.link);
    others = m.others;
    around = m.around;
  }

  pub mid_sends : (r : Run S) (k : ℕ) (d : Driver) (before : List Begun) (work : Begun) (did : List Action) (bytes : List ℕ)
      → Mid C r k d before work did
      → Mid C (with_driver r k (record d { link = sends bytes d.link })) k (record d { link = sends bytes d.link }) before work
      (did ++ Send bytes ∷ [])
  mid_sends r k d before work did bytes m =
      mid_driver r k d (record d { link = sends bytes d.link }) before work did (did ++ Send bytes ∷ []) m
      (at_next r.clients r.clients r.driving.linked r.driving.ended k d before work did (Send bytes) (sends bytes d.link) d.wakes
      (λ x. refl) m.mine
      (link_next _ _ _ _ _ _ _ _ _ (sends bytes d.link) (sent_join [] did (Send bytes ∷ []))
      (link_sends _ _ _ _ _ _ _ _ bytes d.link m.mine.link)))

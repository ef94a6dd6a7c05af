-- What is kept of sessions beside the one that does something.
use Rattle.std.proofs.Common.{◌≡◌, ◌≢◌, ℕ, ◌-◌, ◌<◌, true, false, List, [], ◌∷◌, ◌++◌, length, Option}
use Rattle.std.proofs.Common.{Some, sym, ap, subst, ◌∙◌, arith}
use Rattle.std.specs.Prelude.{slice_get, Ok}
use Rattle.std.specs.List.{Contains}
use Rattle.ncc_pack.specs.declared.value.Value.{Value}
use Rattle.ncc_driver.specs.declared.action.Action.{Action}
use Rattle.ncc_driver.specs.declared.action.Action.TheVariants.{Finish}
use Rattle.ncc_driver.specs.declared.action.Input.{Input}
use Rattle.ncc_driver.specs.declared.action.Input.TheVariants as i
use Rattle.ncc_driver.specs.declared.action.WorkDone.{WorkDone}
use Rattle.ncc_driver.specs.Session.{Begun, on, session}
use Rattle.ncc_driver.specs.Talk.{grown}
use Rattle.ncc_driver.specs.Laws.{unless_lost, is_awaited}
use Rattle.ncc_clients.specs.Members.{Cluster}
use Rattle.ncc_clients.specs.Links.{Link, Driver}
use Rattle.ncc_clients.specs.Run.{Run, Client}
use Rattle.ncc_clients.specs.Drives.{driver_at, with_driver, with_input, knows, turns_to, told_input}
use Rattle.ncc_driver.specs.LawsFits.{InputBytes}
use Rattle.ncc_driver.specs.LawsLegs.{DoneIn, presented_behind, sent_since}
use Rattle.ncc_clients.proofs.Driven.{DriverSays}
use Rattle.ncc_clients.proofs.Lists.{set_same, set_other, set_length}
use Rattle.ncc_clients.proofs.Speaking.{Speaks}
use Rattle.ncc_clients.proofs.Driving.{told_last}
use Rattle.ncc_clients.proofs.Linking.{IsLinkAt, Covers, At, Rests, Around, Kept}
use Rattle.ncc_clients.proofs.Doing.{mid_from}
use Rattle.ncc_clients.proofs.Parting.{changed, others_as_before, held_still}
use Rattle.ncc_clients.proofs.Wanting.{Success}
use Rattle.ncc_clients.proofs.Inputs.{is_joining, at_told, Hears}
use Rattle.ncc_clients.proofs.Hearing.{turns_kept}

module _ {S : Type 0} (C : Cluster S) where
  pub record Beside (r : Run S) (k : ℕ) (d : Driver) : Type 0 where
    pub here : driver_at r k ≡ Some d
    pub others : (j : ℕ) (e : Driver) → j ≢ k → driver_at r j ≡ Some e → Rests C r.clients r.driving.linked r.driving.ended j e
    pub around : Around C r.clients r.driving.linked r.driving.ended (length r.driving.drivers)

  pub beside_kept : (r : Run S) (k : ℕ) (d : Driver) → driver_at r k ≡ Some d → Kept C r → Beside r k d
  beside_kept r k d here h = record { here = here; others = λ j e n there. h.sessions j e there; around = h.around }

  -- another driver in its place
  pub beside_driver : (r : Run S) (k : ℕ) (d e : Driver) → Beside r k d → Beside (with_driver r k e) k e
  beside_driver r k d e b = record {
    here = set_same r.driving.drivers k d e b.here;
    others = λ j x n there. b.others j x n (sym (set_other r.driving.drivers k j e n) ∙ there);
    around = record {
      held = b.around.held;
      once = b.around.once;
      links_by = λ l there. omega (arith, b.around.links_by l there, set_length r.driving.drivers k e);
      ends_by = λ x there. omega (arith, b.around.ends_by x there, set_length r.driving.drivers k e);
    };
  }

  -- another connection in the place of its link's
  pub beside_changed : (r : Run S) (k n : ℕ) (d : Driver) (link : Link) (old new : Client) (bookmarks : List Value) → 0 < link.conn
      → Contains r.driving.linked (record { conn = link.conn; session = k; work = n }) → slice_get r.clients (link.conn - 1) ≡ Some old
      → Speaks C bookmarks new → Covers C r.driving.ended k n bookmarks → Beside r k d → Beside (changed r (link.conn - 1) new) k d
  beside_changed r k n d link old new bookmarks some entry there speaks covers b = record {
    here = b.here;
    others = λ j x other at. others_as_before C r k n link some entry b.around new j x other (b.others j x other at);
    around = record {
      held = held_still C r k n link some entry b.around old new bookmarks there speaks covers;
      once = b.around.once;
      links_by = b.around.links_by;
      ends_by = b.around.ends_by;
    };
  }

  module _ (says : DriverSays) (line k : ℕ) where
    -- A session is told something: what is kept of it is kept, where what is known of its link goes by what it is told.
    pub told_kept : (old : List Client) (r : Run S) (d : Driver) (before : List Begun) (work : Begun) (did : List Action)
        (input : Input) (link : Option Link)
        → InputBytes input → Beside r k (record d { link = link }) → At C old r.driving.linked r.driving.ended k d before work did
        → DoneIn d.config before work did → is_joining (session d.config (before ++ work ∷ [])).state.place.core.stage ≡ false
        → (let o = on d.config work.job r.now (session d.config (before ++ work ∷ [])).state input in
        IsLinkAt C r.clients r.driving.linked k (length before) (presented_behind d.config before) o.state.place.core.stage o.state.came
        (sent_since [] did) link
        × ((front : List Action) (x : WorkDone) (back : List Action) → o.actions ≡ front ++ Finish (Ok x) ∷ back
        → Success C d.config before x))
        → ((l : Link) → link ≡ Some l
        → unless_lost input (is_awaited (session d.config (before ++ work ∷ [])).state.place.core.stage i.Lost) ≡ true)
        → Kept C (told_input C line k r (record d { link = link }) input)
    told_kept old r d before work did input link bytes b at done calm known linked =
        let e = record d { link = link } in
        let h : Hears C says line k r e before work did input r.now = record {
          works_are = at.works_are;
          done = done;
          mid = mid_from C r k e (knows e (before ++ grown work input r.now ∷ [])) before (grown work input r.now) did b.here b.others
              b.around
              (at_told C old r.clients r.driving.linked r.driving.ended k d before work did input r.now link bytes at known.0);
          linked = linked;
          succeeds = known.1;
        } in
        subst (λ (w : List Begun). Kept C (turns_to C line k r e w))
        (sym (ap (λ (w : List Begun). with_input w (input, r.now)) at.works_are ∙ told_last before work (input, r.now)))
        (turns_kept C says line k r e before work did input r.now h calm)

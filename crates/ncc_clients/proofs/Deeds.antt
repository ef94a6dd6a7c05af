-- Bytes come down to a session, its link is lost, it is woken, or it begins a work: what is kept of sessions is kept.
use Rattle.std.proofs.Common.{◌≡◌, inl, inr, ℕ, ◌+◌, ◌-◌, ◌<◌, Bool, true, false, List, [], ◌∷◌, ◌++◌, length, drop, Option}
use Rattle.std.proofs.Common.{Some, None, refl, sym, ap, subst, ◌∙◌, arith, append_assoc, append-nil, length-append}
use Rattle.std.specs.Prelude.{◌^◌, slice_get, Ok}
use Rattle.ncc_driver.specs.declared.config.SessionConfig.{SessionConfig}
use Rattle.ncc_driver.specs.declared.standing.Asked.{Asked}
use Rattle.ncc_driver.specs.declared.standing.Stage.{Stage}
use Rattle.ncc_driver.specs.declared.standing.Stage.TheVariants as stage
use Rattle.ncc_driver.specs.declared.action.Action.{Action}
use Rattle.ncc_driver.specs.declared.action.Action.TheVariants.{Finish}
use Rattle.ncc_driver.specs.declared.action.Input.TheVariants as i
use Rattle.ncc_driver.specs.declared.action.WorkDone.{WorkDone}
use Rattle.ncc_driver.specs.Work.{Job}
use Rattle.ncc_driver.specs.Session.{State, Ran, Begun, on, on_input, hears, same, session, acts}
use Rattle.ncc_driver.specs.Talk.{grown, works_at}
use Rattle.ncc_driver.specs.Laws.{is_awaited}
use Rattle.ncc_clients.specs.Members.{Cluster}
use Rattle.ncc_clients.specs.Links.{Link, Driver}
use Rattle.ncc_clients.specs.Run.{Run, Client, out_of}
use Rattle.ncc_clients.specs.Drives.{driver_at, with_driver, told_input}
use Rattle.ncc_clients.specs.Drives.{closes, closes_one, waits_above, held_back, comes_down, falls_by, falls, cuts_by, cuts}
use Rattle.ncc_driver.specs.LawsFits.{AreBytes}
use Rattle.ncc_clients.specs.Course.{TakesFront, ComeAsBytes}
use Rattle.ncc_driver.specs.LawsLegs.{DoneIn, presented_behind, sent_since}
use Rattle.ncc_clients.proofs.Driven.{DriverSays}
use Rattle.ncc_clients.proofs.Speaking.{Speaks}
use Rattle.ncc_clients.proofs.Driving.{session_told, drop_front, done_more}
use Rattle.ncc_clients.proofs.Linking.{IsHeard, IsLink, IsLinkAt, IsAtRest, Rests, Works, Kept}
use Rattle.ncc_clients.proofs.Doing.{set_back}
use Rattle.ncc_clients.proofs.Parting.{none_or, changed, Took, took_speaks}
use Rattle.ncc_clients.proofs.Wanting.{Success}
use Rattle.ncc_clients.proofs.Succeeding.{success_of}
use Rattle.ncc_clients.proofs.Inputs.{rest_not_joining}
use Rattle.ncc_clients.proofs.Beside.{Beside, beside_kept, beside_driver, beside_changed, told_kept}

-- ---- one input

on_bytes : (config : SessionConfig) (job : Job) (now : ℕ) (s : State) (asked : Asked) (bytes : List ℕ)
    → s.place.core.stage ≡ stage.Awaits asked
    → on config job now s (i.Bytes bytes) ≡ hears config job now s bytes
unfolding on
on_bytes config job now s asked bytes e = ap (λ (x : Stage). on_input config job now s x (i.Bytes bytes)) e

pub on_woken : (config : SessionConfig) (job : Job) (now : ℕ) (s : State) (asked : Asked) → s.place.core.stage ≡ stage.Awaits asked
    → on config job now s i.Woken ≡ same s
unfolding on
on_woken config job now s asked e = ap (λ (x : Stage). on_input config job now s x i.Woken) e

bytes_not_lost : (bytes : List ℕ) → i.Lost ≡ i.Bytes bytes → ⊥
bytes_not_lost bytes e = cc

pub bytes_not_woken : (bytes : List ℕ) → i.Woken ≡ i.Bytes bytes → ⊥
bytes_not_woken bytes e = cc

pub bytes_not_start : (bytes : List ℕ) → i.Start ≡ i.Bytes bytes → ⊥
bytes_not_start bytes e = cc

-- a session with a link awaits an answer
awaits_at : (s : Stage) (link : Link) → IsAtRest s (Some link) → (asked : Asked) × (s ≡ stage.Awaits asked)
awaits_at (stage.Awaits asked) link h = (asked, refl)
awaits_at stage.Rests link h = absurd h
awaits_at stage.Begun link h = absurd h
awaits_at stage.Sleeps link h = absurd h
awaits_at (stage.Joins leg) link h = absurd h

pub no_link_at : (s : Stage) (o : Option Link) → works_at s ≡ false → IsAtRest s o → o ≡ None
no_link_at stage.Rests None e h = refl
no_link_at stage.Rests (Some link) e h = absurd h
no_link_at _ o e h = absurd (cc)

module _ {S : Type 0} (C : Cluster S) (says : DriverSays) where
  heard_any : (at : Stage) (came : List ℕ) (down : ℕ) (rest out : List ℕ) → length came ≡ down → came ++ rest ≡ out
      → IsHeard C at came down out
  heard_any (stage.Awaits asked) came down rest out e f = (e, (rest, f))
  heard_any _ came down rest out e f = tt

  -- where a session stands that has begun works
  pub record Stands (r : Run S) (k : ℕ) (d : Driver) (w : Works C r.clients r.driving.linked r.driving.ended k d) : Type 0 where
    pub rest : IsAtRest (session d.config (w.before ++ w.work ∷ [])).state.place.core.stage d.link
    pub link : (let s = (session d.config (w.before ++ w.work ∷ [])).state in
        IsLinkAt C r.clients r.driving.linked k (length w.before) (presented_behind d.config w.before) s.place.core.stage s.came
        (sent_since [] w.did) d.link)

  pub stands_at : (r : Run S) (k : ℕ) (d : Driver) (w : Works C r.clients r.driving.linked r.driving.ended k d) → Stands r k d w
  stands_at r k d w = record {
    rest = subst (λ (x : List Begun). IsAtRest (session d.config x).state.place.core.stage d.link) w.at.works_are w.rest;
    link = subst (λ (x : List Begun). IsLinkAt C r.clients r.driving.linked k (length w.before) (presented_behind d.config w.before)
        (session d.config x).state.place.core.stage (session d.config x).state.came (sent_since [] w.did) d.link) w.at.works_are w.at.link;
  }

  abbrev LinkHere : (r : Run S) (k : ℕ) (d : Driver) → Works C r.clients r.driving.linked r.driving.ended k d → Link → Type 0
  LinkHere r k d w link =
      let s = (session d.config (w.before ++ w.work ∷ [])).state in
      IsLink C r.clients r.driving.linked k (length w.before) (presented_behind d.config w.before) s.place.core.stage s.came
      (sent_since [] w.did) link

  pub link_here : (r : Run S) (k : ℕ) (d : Driver) (w : Works C r.clients r.driving.linked r.driving.ended k d) (link : Link)
      → d.link ≡ Some link → LinkHere r k d w link
  link_here r k d w link e =
      subst (λ (o : Option Link). let s = (session d.config (w.before ++ w.work ∷ [])).state in
      IsLinkAt C r.clients r.driving.linked k (length w.before) (presented_behind d.config w.before) s.place.core.stage s.came
      (sent_since [] w.did) o) e (stands_at r k d w).link

  pub asked_here : (r : Run S) (k : ℕ) (d : Driver) (w : Works C r.clients r.driving.linked r.driving.ended k d) (link : Link)
      → d.link ≡ Some link
      → (asked : Asked) × ((session d.config (w.before ++ w.work ∷ [])).state.place.core.stage ≡ stage.Awaits asked)
  asked_here r k d w link e =
      awaits_at _ link (subst (λ (o : Option Link). IsAtRest (session d.config (w.before ++ w.work ∷ [])).state.place.core.stage o) e
      (stands_at r k d w).rest)

  same_down : (asked : Asked) (s : Stage) (came : List ℕ) (down : ℕ) (out : List ℕ) → s ≡ stage.Awaits asked → IsHeard C s came down out
      → (length came ≡ down) × ((rest : List ℕ) × (came ++ rest ≡ out))
  same_down asked s came down out e h = subst (λ (x : Stage). IsHeard C x came down out) e h

  -- ---- bytes come down

  module _ (id : C.id < 2 ^ 64) (line k : ℕ) (r : Run S) (kept : Kept C r) (d : Driver) (here : driver_at r k ≡ Some d) (link : Link)
      (is : d.link ≡ Some link) (w : Works C r.clients r.driving.linked r.driving.ended k d) (bytes : List ℕ) (rest : List ℕ)
      (first : bytes ++ rest ≡ waits_above C r link) (are : AreBytes bytes) where
    abbrev state : State
    state = (session d.config (w.before ++ w.work ∷ [])).state

    abbrev lower : Link
    lower = record link { down = link.down + length bytes }

    abbrev out : Ran
    out = on d.config w.work.job r.now state (i.Bytes bytes)

    l : LinkHere r k d w link
    l = link_here r k d w link is

    asked : (x : Asked) × (state.place.core.stage ≡ stage.Awaits x)
    asked = asked_here r k d w link is

    came_is : out.state.came ≡ state.came ++ bytes
    came_is = ap (λ (x : Ran). x.state.came) (on_bytes d.config w.work.job r.now state asked.0 bytes asked.1)

    heard_before : (length state.came ≡ link.down) × ((more : List ℕ) × (state.came ++ more ≡ out_of C l.c))
    heard_before = same_down asked.0 state.place.core.stage state.came link.down (out_of C l.c) asked.1 l.heard

    waits_is : waits_above C r link ≡ heard_before.1.0
    waits_is = ap (held_back C link) l.there
        ∙ ap (λ (o : List ℕ). drop link.down o) (sym heard_before.1.1)
        ∙ ap (λ (n : ℕ). drop n (state.came ++ heard_before.1.0)) (sym heard_before.0)
        ∙ drop_front state.came heard_before.1.0

    out_is : out.state.came ++ rest ≡ out_of C l.c
    out_is = ap (λ (b : List ℕ). b ++ rest) came_is ∙ append_assoc state.came bytes rest
        ∙ ap (λ (b : List ℕ). state.came ++ b) (first ∙ waits_is) ∙ heard_before.1.1

    down_is : length out.state.came ≡ lower.down
    down_is = omega (arith, ap length came_is, length-append state.came bytes, heard_before.0)

    lower_link : IsLink C r.clients r.driving.linked k (length w.before) (presented_behind d.config w.before) out.state.place.core.stage
        out.state.came (sent_since [] w.did) lower
    lower_link = record {
      entry = l.entry;
      some = l.some;
      c = l.c;
      there = l.there;
      speaks = l.speaks;
      left = l.left;
      sent_is = l.sent_is;
      waits = l.waits;
      heard = heard_any out.state.place.core.stage out.state.came lower.down rest (out_of C l.c) down_is out_is;
    }

    succeeds_here : (front : List Action) (x : WorkDone) (back : List Action) → out.actions ≡ front ++ Finish (Ok x) ∷ back
        → Success C d.config w.before x
    succeeds_here front x back e =
        let done : DoneIn d.config w.before (grown w.work (i.Bytes bytes) r.now) ((w.did ++ front) ++ Finish (Ok x) ∷ back) =
        done_more d.config w.before w.work w.did (i.Bytes bytes) r.now w.done
        ∙ ap (λ (a : List Action). acts d.config w.before ++ a)
        (ap (λ (a : List Action). w.did ++ a) e ∙ sym (append_assoc w.did front (Finish (Ok x) ∷ back))) in
        let c = says.commits d.config w.before (grown w.work (i.Bytes bytes) r.now) (w.did ++ front) x back done in
        let same : (session d.config (w.before ++ grown w.work (i.Bytes bytes) r.now ∷ [])).state.came ≡ out.state.came =
        ap (λ (q : Ran). q.state.came) (session_told d.config w.before w.work (i.Bytes bytes) r.now) in
        success_of C id d.config w.before l.c _ rest x l.speaks (ap (λ (b : List ℕ). b ++ rest) same ∙ out_is) c

    pub bytes_kept : (let e = record d { link = Some lower } in Kept C (told_input C line k (with_driver r k e) e (i.Bytes bytes)))
    bytes_kept =
        let e = record d { link = Some lower } in
        told_kept C says line k r.clients (with_driver r k e) d w.before w.work w.did (i.Bytes bytes) (Some lower) are
        (beside_driver C r k d e (beside_kept C r k d here kept)) w.at w.done
        (rest_not_joining _ d.link (stands_at r k d w).rest) (lower_link, succeeds_here)
        (λ x f. ap (λ (s : Stage). is_awaited s i.Lost) asked.1)

  falls_open : C.id < 2 ^ 64 → (line k : ℕ) (r : Run S) (d : Driver) (link : Link) (front : List ℕ → List ℕ) → Kept C r
      → driver_at r k ≡ Some d → d.link ≡ Some link → Rests C r.clients r.driving.linked r.driving.ended k d → TakesFront front
      → (bytes : List ℕ) → front (waits_above C r link) ≡ bytes → AreBytes bytes → Kept C (comes_down C line k r d link bytes)
  falls_open id line k r d link front h here is (inl idle) takes bytes e are = absurd (none_or link (sym idle.link ∙ is))
  falls_open id line k r d link front h here is (inr w) takes [] e are = h
  falls_open id line k r d link front h here is (inr w) takes (b ∷ bs) e are =
      let t = takes (waits_above C r link) in
      bytes_kept id line k r h d here link is w (b ∷ bs) t.0 (ap (λ (x : List ℕ). x ++ t.0) (sym e) ∙ t.1) are

  falls_linked : C.id < 2 ^ 64 → (line k : ℕ) (r : Run S) (d : Driver) (front : List ℕ → List ℕ) → Kept C r
      → driver_at r k ≡ Some d → TakesFront front → ComeAsBytes C r (Some d) front → (o : Option Link) → d.link ≡ o
      → Kept C (falls_by C line k r d o front)
  falls_linked id line k r d front h here takes are None e = h
  falls_linked id line k r d front h here takes are (Some link) e =
      falls_open id line k r d link front h here e (h.sessions k d here) takes (front (waits_above C r link)) refl (are link e)

  pub falls_kept : C.id < 2 ^ 64 → (line k : ℕ) (r : Run S) (front : List ℕ → List ℕ) → Kept C r → TakesFront front
      → ComeAsBytes C r (driver_at r k) front → Kept C (falls C line k r (driver_at r k) front)
  falls_kept id line k r front h takes are = go (driver_at r k) refl are where
    go : (o : Option Driver) → driver_at r k ≡ o → ComeAsBytes C r o front → Kept C (falls C line k r o front)
    go None e bytes = h
    go (Some d) e bytes = falls_linked id line k r d front h e takes bytes d.link refl

  -- ---- a link is lost

  closing_is : (r : Run S) (i : ℕ) (c : Client) → slice_get r.clients i ≡ Some c
      → (d : Client) × Took c [] d × (closes r i ≡ changed r i d)
  closing_is r i c there = go c.closed refl where
    go : (b : Bool) → c.closed ≡ b → (d : Client) × Took c [] d × (closes r i ≡ changed r i d)
    go true e = (
      c,
      record { facts = refl; live = λ f. f; bytes = inl (e, refl) },
      ap (closes_one r i) there ∙ (rw e refl) ∙ ap (λ (cs : List Client). record r { clients = cs }) (sym (set_back r.clients i c there)),
    )
    go false e = (
      record c { closed = true },
      record { facts = refl; live = λ f. e; bytes = inr (e, sym (append-nil c.bytes)) },
      ap (closes_one r i) there ∙ (rw e refl),
    )

  cuts_open : (line k : ℕ) (r : Run S) (d : Driver) (link : Link) → Kept C r → driver_at r k ≡ Some d → d.link ≡ Some link
      → Rests C r.clients r.driving.linked r.driving.ended k d → Kept C (cuts_by C line k r d (Some link))
  cuts_open line k r d link h here is (inl idle) = absurd (none_or link (sym idle.link ∙ is))
  cuts_open line k r d link h here is (inr w) =
      let e = record d { link = None } in
      let n = length w.before in
      let bookmarks = presented_behind d.config w.before in
      let l = link_here r k d w link is in
      let x = closing_is r (link.conn - 1) l.c l.there in
      let new : Speaks C bookmarks x.0 =
      took_speaks C bookmarks (sent_since [] w.did) l.c x.0 [] l.left l.left
      (says.legs d.config w.before w.work w.did [] w.at.fits w.at.jobs
      (subst (DoneIn d.config w.before w.work) (sym (append-nil w.did)) w.done))
      l.sent_is (λ live. refl) x.1 l.speaks in
      let s = changed r (link.conn - 1) x.0 in
      let b : Beside C s k d =
      beside_changed C r k n d link l.c x.0 bookmarks l.some l.entry l.there new w.at.owes (beside_kept C r k d here h) in
      subst (λ (t : Run S). Kept C (told_input C line k (with_driver t k e) e i.Lost)) (sym x.2)
      (told_kept C says line k r.clients (with_driver s k e) d w.before w.work w.did i.Lost None tt (beside_driver C s k d e b)
      w.at w.done (rest_not_joining _ d.link (stands_at r k d w).rest) (
        tt,
        λ front y back f. absurd (
            let z = (says.succeeds d.config w.work.job r.now (session d.config (w.before ++ w.work ∷ [])).state i.Lost front y back f).1 in
            bytes_not_lost z.0 z.1),
      )
      (λ x f. absurd (none_or x f)))

  cuts_linked : (line k : ℕ) (r : Run S) (d : Driver) → Kept C r → driver_at r k ≡ Some d → (o : Option Link) → d.link ≡ o
      → Kept C (cuts_by C line k r d o)
  cuts_linked line k r d h here None e = h
  cuts_linked line k r d h here (Some link) e = cuts_open line k r d link h here e (h.sessions k d here)

  pub cuts_kept : (line k : ℕ) (r : Run S) → Kept C r → Kept C (cuts C line k r (driver_at r k))
  cuts_kept line k r h = go (driver_at r k) refl where
    go : (o : Option Driver) → driver_at r k ≡ o → Kept C (cuts C line k r o)
    go None e = h
    go (Some d) e = cuts_linked line k r d h e d.link refl

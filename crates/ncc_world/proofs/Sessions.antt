-- What the sessions keep where one of them is another, or there is one more.
use Rattle.std.proofs.Common.{◌≡◌, ◌≢◌, inl, inr, ℕ, ◌+◌, ◌-◌, ◌<◌, ◌≤◌, List, [], ◌∷◌, ◌++◌}
use Rattle.std.proofs.Common.{Option, None, Some, Bool, true, false, cond, ◌||◌}
use Rattle.std.proofs.Common.{refl, ap, sym, ◌∙◌, subst, arith, length, length-append, get_or}
use Rattle.std.specs.Prelude.{slice_get, slice_set, nat_eq, ◌==◌, Result}
use Rattle.std.specs.List.{list_any}
use Rattle.std.proofs.lemmas.List.{map-append}
use Rattle.std.proofs.lemmas.Option.{slice_get-get_or}
use Rattle.std.proofs.lemmas.List.Folds.{list_any-append}
use Rattle.std.proofs.lemmas.Bool.Decides.{eqb_tells}
use Rattle.ncc_wait.specs.declared.parked.Parked.{Parked}
use Rattle.indexmap.specs.IndexSet.{insert_key}
use Rattle.ncc_wait.specs.Room.{Ascending, put, without}
use Rattle.ncc_driver.specs.declared.action.WorkDone.{WorkDone}
use Rattle.ncc_driver.specs.declared.action.WorkError.{WorkError}
use Rattle.ncc_driver.specs.declared.config.SessionConfig.{SessionConfig}
use Rattle.ncc_driver.specs.declared.action.Action.{Action}
use Rattle.ncc_driver.specs.declared.action.Action.TheVariants.{Connect, Send, Close, Sleep, Receive, Finish}
use Rattle.ncc_clients.specs.Links.{Driver, Driving, Link, Linked, nobody_drives}
use Rattle.ncc_clients.specs.Drives.{new_driver}
use Rattle.ncc_clients.specs.Members.{addresses}
use Rattle.ncc_clients.specs.declared.task.Task.{Task}
use Rattle.ncc_clients.specs.Held.{Does, Held, HasTask, IsDriver, began_in, own}
use Rattle.ncc_clients.specs.declared.driver.Effect.{Effect}
use Rattle.ncc_world.specs.declared.setup.Setup.{Setup}
use Rattle.ncc_world.specs.declared.seen.WorkSeen.{WorkSeen}
use Rattle.ncc_world.specs.Showing.{work_seen}
use Rattle.ncc_world.specs.Drivers.{AreAtWork, AreEach, Becomes, DoesFirst, IsAwake, IsOne, KeptDrivers}
use Rattle.ncc_world.specs.Drivers.{due_from, ended_as, joined_as, left_of, made_by_session, sleeper, sleepers_from, with_one, with_session}
use Rattle.ncc_clients.proofs.Lists.{get_push, get_set, get_there, get_within, set_length}
use Rattle.ncc_world.proofs.Rooms.{eq_no, eq_yes}
use Rattle.ncc_world.proofs.Sleeping.{ascends, due_are, no_sleepers, sleepers_more, sleepers_put, sleepers_same, sleepers_woken, stay_are}
use Rattle.ncc_world.proofs.Taking.{over_in, stay_in}

-- ---- a session by its index

left_here : (at : ℕ) (left : List Action) → left_of at left at ≡ left
left_here at left = ap (λ (b : Bool). cond b left []) (eq_yes at at refl)

left_elsewhere : (at index : ℕ) (left : List Action) → index ≢ at → left_of at left index ≡ []
left_elsewhere at index left h = ap (λ (b : Bool). cond b left []) (eq_no index at h)

left_nowhere : (at index : ℕ) → left_of at [] index ≡ []
left_nowhere at index = go (index == at) where
  none : List Action
  none = []

  go : (b : Bool) → cond b none none ≡ none
  go true = refl
  go false = refl

-- where all have all done, it is so at whichever index
pub at_any : (s : Setup) (at index : ℕ) (pending : List ℕ) (k : KeptDrivers) (now : ℕ) (driving : Driving)
    → AreAtWork s at [] pending k now driving → AreAtWork s index [] pending k now driving
at_any s at index pending k now driving w = record {
  names = w.names;
  sleepers = w.sleepers;
  linked = w.linked;
  works = w.works;
  each = record {
    count = w.each.count;
    each = λ i held d e f. subst (IsOne now held d) (left_nowhere at i ∙ sym (left_nowhere index i)) (w.each.each i held d e f);
  };
}

pub one_here : (s : Setup) (index : ℕ) (left : List Action) (pending : List ℕ) (k : KeptDrivers) (now : ℕ) (driving : Driving)
    (held : Held) (d : Driver) → slice_get k.list index ≡ Some held → slice_get driving.drivers index ≡ Some d
    → AreAtWork s index left pending k now driving → IsOne now held d left
one_here s index left pending k now driving held d e f w = subst (IsOne now held d) (left_here index left) (w.each.each index held d e f)

pub was_at : (list : List Held) (index : ℕ) (old : Held) → index < length list → old ≡ get_or list index old
    → slice_get list index ≡ Some old
was_at list index old h e = slice_get-get_or list index old h ∙ ap (λ (x : Held). Some x) (sym e)

-- There is a session of the run for each that is kept.
pub has_one : (s : Setup) (at : ℕ) (left : List Action) (pending : List ℕ) (k : KeptDrivers) (now : ℕ) (driving : Driving) (index : ℕ)
    → index < length k.list → AreAtWork s at left pending k now driving → (d : Driver) × (slice_get driving.drivers index ≡ Some d)
has_one s at left pending k now driving index h w = get_there driving.drivers index (omega (arith, h, w.each.count))

-- ---- another in the place of one

each_set : (now index : ℕ) (left more : List Action) (list : List Held) (drivers : List Driver) (held : Held) (e : Driver)
    → IsOne now held e more → AreEach now index left list drivers
    → AreEach now index more (slice_set list index held) (slice_set drivers index e)
each_set now index left more list drivers held e one are = record {
  count = set_length list index held ∙ are.count ∙ sym (set_length drivers index e);
  each = λ i h x f g. elim (get_set list index held i h f) [
    | inl a ↦ elim (get_set drivers index e i x g) [
      | inl b ↦ subst (λ (y : Held). IsOne now y x (left_of index more i)) a.1
          (subst (λ (y : Driver). IsOne now held y (left_of index more i)) b.1
          (subst (IsOne now held e) (sym (ap (λ (b : Bool). cond b more []) (eq_yes i index a.0))) one))
      | inr b ↦ absurd (b.0 a.0)
    ]
    | inr a ↦ elim (get_set drivers index e i x g) [
      | inl b ↦ absurd (a.0 b.0)
      | inr b ↦ subst (IsOne now h x) (left_elsewhere index i left a.0 ∙ sym (left_elsewhere index i more a.0)) (are.each i h x a.1 b.1)
    ]
  ];
}

-- It stands for another session, which sleeps otherwise.
pub stands_on : (s : Setup) (index : ℕ) (left more : List Action) (pending later : List ℕ) (k : KeptDrivers) (now : ℕ) (driving : Driving)
    (held : Held) (e : Driver) (sleepers : List Parked) → IsOne now held e more
    → sleepers ≡ sleepers_from later 1 (slice_set driving.drivers index e)
    → AreAtWork s index left pending k now driving
    → AreAtWork s index more later (record k { list = slice_set k.list index held; sleepers = sleepers }) now (with_one index e driving)
stands_on s index left more pending later k now driving held e sleepers one sleep w = record {
  each = each_set now index left more k.list driving.drivers held e one w.each;
  names = w.names;
  sleepers = sleep;
  linked = w.linked;
  works = w.works;
}

-- It stands for another session, which sleeps as the one did.
pub stays_on : (s : Setup) (index : ℕ) (left more : List Action) (pending : List ℕ) (k : KeptDrivers) (now : ℕ) (driving : Driving)
    (held : Held) (d e : Driver) → slice_get driving.drivers index ≡ Some d → IsOne now held e more → e.wakes ≡ d.wakes
    → AreAtWork s index left pending k now driving
    → AreAtWork s index more pending (record k { list = slice_set k.list index held }) now (with_one index e driving)
stays_on s index left more pending k now driving held d e there one same w =
    stands_on s index left more pending pending k now driving held e k.sleepers one
    (w.sleepers ∙ sleepers_same pending 1 index driving.drivers d e there same) w

-- ---- with another link, or another sleep

task_on : (held : Held) (d : Driver) (l m : Option Link) (v w : Option ℕ) (task : Option Task) → HasTask held d task
    → HasTask (record held { link = l; wakes = v }) (record d { link = m; wakes = w }) task
task_on held d l m v w None h = h
task_on held d l m v w (Some task) h =
    record { before = h.before; last = h.last; works_are = h.works_are; job_is = h.job_is; behind = h.behind }

pub linked_on : (now : ℕ) (held : Held) (d : Driver) (l m : Option Link) (v w : Option ℕ) (left : List Action) → l ≡ m → v ≡ w
    → IsOne now held d left → IsOne now (record held { link = l; wakes = v }) (record d { link = m; wakes = w }) left
linked_on now held d l m v w left e f one = record {
  stands = record {
    out = one.stands.out;
    session_is = one.stands.session_is;
    left_is = one.stands.left_is;
    task_is = task_on held d l m v w held.task one.stands.task_is;
    still = one.stands.still;
    link_is = e;
    wakes_is = f;
  };
  began = one.began;
}

-- What an action does at the link changes neither works nor sleep.
pub own_works : (d : Driver) (action : Action) → (own d action).works ≡ d.works
own_works d (Connect address) = refl
own_works d (Send bytes) = refl
own_works d Close = refl
own_works d (Sleep until) = refl
own_works d Receive = refl
own_works d (Finish ended) = refl

pub own_wakes : (d : Driver) (action : Action) → (own d action).wakes ≡ d.wakes
own_wakes d (Connect address) = refl
own_wakes d (Send bytes) = refl
own_wakes d Close = refl
own_wakes d (Sleep until) = refl
own_wakes d Receive = refl
own_wakes d (Finish ended) = refl

-- ---- what a session does and hears

-- Where it stood for one session, it stands for another, that began when the one did and sleeps as it did.
pub becomes_on : (s : Setup) (index : ℕ) (k : KeptDrivers) (old held : Held) (d e : Driver) (left more : List Action)
    → slice_get k.list index ≡ Some old → (IsDriver old d left → IsDriver held e more) → began_in e.works ≡ began_in d.works
    → e.wakes ≡ d.wakes → Becomes s index k (record k { list = slice_set k.list index held }) d left e more
becomes_on s index k old held d e left more was makes began wakes now driving pending there w =
    let one = one_here s index left pending k now driving old d was there w in
    stays_on s index left more pending k now driving held d e there
    (record { stands = makes one.stands; began = omega (arith, began, one.began) }) wakes w

-- its first action is done at its own link
pub does_on : (s : Setup) (index : ℕ) (k : KeptDrivers) (old held : Held) (d : Driver) (left : List Action) (effect : Effect)
    → slice_get k.list index ≡ Some old → (IsDriver old d left → Does held d left effect)
    → DoesFirst s index k (record k { list = slice_set k.list index held }) d left effect
does_on s index k old held d left effect was does now driving pending there w =
    let one = one_here s index left pending k now driving old d was there w in
    let f = does one.stands in
    let next : IsOne now held (own d f.action) f.behind =
    record { stands = f.done; began = subst (λ ws. began_in ws ≤ now) (sym (own_works d f.action)) one.began } in (
      f.action,
      f.behind,
      f.first_is,
      f.effect_is,
      stays_on s index left f.behind pending k now driving held d (own d f.action) there next (own_wakes d f.action) w,
    )

-- none is left to do
pub none_on : (s : Setup) (index : ℕ) (k : KeptDrivers) (old : Held) (now : ℕ) (driving : Driving) (left : List Action) (pending : List ℕ)
    → slice_get k.list index ≡ Some old → ((d : Driver) (l : List Action) → IsDriver old d l → l ≡ [])
    → AreAtWork s index left pending k now driving → left ≡ []
none_on s index k old now driving left pending was none w =
    let d = has_one s index left pending k now driving index (get_within k.list index old was) w in
    none d.0 left (one_here s index left pending k now driving old d.0 was d.1 w).stands

-- It stands for some session of a run.
pub lives_on : (s : Setup) (index : ℕ) (k : KeptDrivers) (old : Held) (now : ℕ) (driving : Driving) (pending : List ℕ)
    → slice_get k.list index ≡ Some old → AreAtWork s index [] pending k now driving → (d : Driver) × IsOne now old d []
lives_on s index k old now driving pending was w =
    let d = has_one s index [] pending k now driving index (get_within k.list index old was) w in
    (d.0, one_here s index [] pending k now driving old d.0 was d.1 w)

-- its link is what this makes of it
pub relinked : (s : Setup) (index : ℕ) (k : KeptDrivers) (old held : Held) (d : Driver) (f : Option Link → Option Link)
    → slice_get k.list index ≡ Some old → held ≡ record old { link = f old.link }
    → Becomes s index k (record k { list = slice_set k.list index held }) d [] (record d { link = f d.link }) []
relinked s index k old held d f was e now driving pending there w =
    let one = one_here s index [] pending k now driving old d was there w in
    let next : IsOne now (record old { link = f old.link }) (record d { link = f d.link }) [] =
    linked_on now old d (f old.link) (f d.link) old.wakes d.wakes [] (ap f one.stands.link_is) one.stands.wakes_is one in
    stays_on s index [] [] pending k now driving held d (record d { link = f d.link }) there
    (subst (λ (x : Held). IsOne now x (record d { link = f d.link }) []) (sym e) next) refl w

-- ---- connections of sessions

-- With one more connection, which may have been one before.
pub linked_more : (keys : List ℕ) (linked : List Linked) (new : Linked) (all : List ℕ)
    → all ≡ cond (list_any (nat_eq new.conn) keys) keys (keys ++ new.conn ∷ [])
    → ((conn : ℕ) → list_any (nat_eq conn) keys ≡ list_any (made_by_session conn) linked)
    → (conn : ℕ) → list_any (nat_eq conn) all ≡ list_any (made_by_session conn) (linked ++ new ∷ [])
linked_more keys linked new all e h conn =
    ap (λ (x : List ℕ). list_any (nat_eq conn) x) e
    ∙ go (list_any (nat_eq new.conn) keys) refl
    ∙ ap (λ (b : Bool). b || (list_any (made_by_session conn) (new ∷ []))) (h conn)
    ∙ sym (list_any-append (made_by_session conn) linked (new ∷ [])) where
      flip : nat_eq conn new.conn ≡ (new.conn == conn)
      flip = elim (eqb_tells conn new.conn) [
        | inl k ↦ k.0 ∙ sym (eq_yes new.conn conn (sym k.1))
        | inr k ↦ k.0 ∙ sym (eq_no new.conn conn (λ m. k.1 (sym m)))
      ]

      one : (b c : Bool) → b ≡ true → b ≡ b || (c || false)
      one true c f = refl
      one false c f = absurd (cc)

      none : (b c : Bool) → c ≡ false → b ≡ b || (c || false)
      none true c f = refl
      none false c f = ap (λ (x : Bool). x || false) (sym f)

      go : (b : Bool) → list_any (nat_eq new.conn) keys ≡ b
          → list_any (nat_eq conn) (cond b keys (keys ++ new.conn ∷ []))
          ≡ (list_any (nat_eq conn) keys || list_any (made_by_session conn) (new ∷ []))
      go true f = elim (eqb_tells new.conn conn) [
        | inl k ↦ one (list_any (nat_eq conn) keys) (new.conn == conn) (ap (λ n. list_any (nat_eq n) keys) (sym k.1) ∙ f)
        | inr k ↦ none (list_any (nat_eq conn) keys) (new.conn == conn) k.0
      ]
      go false f = list_any-append (nat_eq conn) keys (new.conn ∷ [])
          ∙ ap (λ (b : Bool). list_any (nat_eq conn) keys || (b || false)) flip

-- ---- one session more

pub each_more : (now : ℕ) (list : List Held) (drivers : List Driver) (held : Held) (d : Driver) → IsOne now held d []
    → AreEach now 0 [] list drivers → AreEach now 0 [] (list ++ held ∷ []) (drivers ++ d ∷ [])
each_more now list drivers held d one are = record {
  count = omega (arith, length-append list (held ∷ []), length-append drivers (d ∷ []), are.count);
  each = λ i h x f g. elim (get_push list held i h f) [
    | inl a ↦ elim (get_push drivers d i x g) [
      | inl b ↦ are.each i h x a b
      | inr b ↦ absurd (omega (arith, get_within list i h a, b.0, are.count))
    ]
    | inr a ↦ elim (get_push drivers d i x g) [
      | inl b ↦ absurd (omega (arith, get_within drivers i x b, a.0, are.count))
      | inr b ↦ subst (λ (y : Held). IsOne now y x (left_of 0 [] i)) a.1
          (subst (λ (y : Driver). IsOne now held y (left_of 0 [] i)) b.1 (subst (IsOne now held d) (sym (left_nowhere 0 i)) one))
    ]
  ];
}

-- ---- what becomes of what is kept

pub none_kept : (s : Setup) (k : KeptDrivers) → k.list ≡ [] → k.names ≡ addresses (s.cores + s.replicas) 1 → k.sleepers ≡ [] → k.linked ≡ []
    → k.works ≡ [] → AreAtWork s 0 [] [] k 0 nobody_drives
none_kept s k list names sleepers linked works = record {
  each = record {
    count = ap (λ (x : List Held). length x) list;
    each = λ i h d e f. absurd (let g : None ≡ Some d = f in cc);
  };
  names = names;
  sleepers = sleepers ∙ sym (no_sleepers [] 1);
  linked = λ conn. ap (λ (x : List ℕ). list_any (nat_eq conn) x) linked;
  works = works;
}

began_none : began_in [] ≡ 0
unfolding began_in
began_none = refl

-- one session more, which was given no work
pub more_kept : (s : Setup) (k : KeptDrivers) (now : ℕ) (driving : Driving) (held : Held) (config : SessionConfig)
    → IsDriver held (new_driver config) [] → AreAtWork s 0 [] [] k now driving
    → AreAtWork s 0 [] [] (record k { list = k.list ++ held ∷ [] }) now (with_session config driving)
more_kept s k now driving held config new w = record {
  each = each_more now k.list driving.drivers held (new_driver config)
      (record { stands = new; began = omega (arith, began_none) }) w.each;
  names = w.names;
  sleepers = w.sleepers ∙ sleepers_more [] 1 driving.drivers (new_driver config) refl;
  linked = w.linked;
  works = w.works;
}

-- one connection more that a session made
pub joined_kept : (s : Setup) (index : ℕ) (left : List Action) (pending : List ℕ) (k : KeptDrivers) (now : ℕ) (driving : Driving)
    (old held : Held) (d : Driver) (conn : ℕ) (all : List ℕ) → slice_get k.list index ≡ Some old
    → held ≡ record old { link = Some (record { conn = conn; up = []; down = 0 }) } → slice_get driving.drivers index ≡ Some d
    → all ≡ insert_key nat_eq k.linked conn → AreAtWork s index left pending k now driving
    → AreAtWork s index left pending (record k { list = slice_set k.list index held; linked = all }) now (joined_as index conn d driving)
joined_kept s index left pending k now driving old held d conn all was e there keys w =
    let link : Option Link = Some (record { conn = conn; up = []; down = 0 }) in
    let one = one_here s index left pending k now driving old d was there w in
    record {
      each = each_set now index left left k.list driving.drivers held (record d { link = link })
          (subst (λ (x : Held). IsOne now x (record d { link = link }) left) (sym e)
          (linked_on now old d link link old.wakes d.wakes left refl one.stands.wakes_is one)) w.each;
      names = w.names;
      sleepers = w.sleepers ∙ sleepers_same pending 1 index driving.drivers d (record d { link = link }) there refl;
      linked = linked_more k.linked driving.linked (record { conn = conn; session = index; work = length d.works - 1 }) all keys w.linked;
      works = w.works;
    }

-- one work more that has ended
pub ended_kept : (s : Setup) (index : ℕ) (left : List Action) (pending : List ℕ) (k : KeptDrivers) (now : ℕ) (driving : Driving)
    (line : ℕ) (d : Driver) (ended : Result WorkDone WorkError) (all : List WorkSeen)
    → all ≡ k.works ++ (record { line = line; session = index + 1; result = ended }) ∷ [] → AreAtWork s index left pending k now driving
    → AreAtWork s index left pending (record k { works = all }) now (ended_as line index d ended driving)
ended_kept s index left pending k now driving line d ended all e w = record {
  each = w.each;
  names = w.names;
  sleepers = w.sleepers;
  linked = w.linked;
  works = e ∙ ap (λ (x : List WorkSeen). x ++ (record { line = line; session = index + 1; result = ended }) ∷ []) w.works
      ∙ sym (map-append work_seen driving.ended
      ((record { line = line; session = index; work = length d.works - 1; result = ended }) ∷ []));
}

pub sleeper_ready : (number until : ℕ) → until ≡ 0 → record { conn = number; need = 0; deadline = 0 } ≡ sleeper number until
sleeper_ready number until e = ap (sleeper number) (sym e)

pub sleeper_late : (number until : ℕ) → until ≢ 0 → record { conn = number; need = 1; deadline = until - 1 } ≡ sleeper number until
sleeper_late number until h =
    ap (λ (b : Bool). record { conn = number; need = cond b 0 1; deadline = until - 1 }) (sym (eq_no until 0 h))

-- One sleeps until a moment.
pub sleeps_kept : (s : Setup) (index : ℕ) (left : List Action) (pending : List ℕ) (k : KeptDrivers) (now : ℕ) (driving : Driving)
    (old held : Held) (d : Driver) (until : ℕ) (all : List Parked) → slice_get k.list index ≡ Some old
    → held ≡ record old { wakes = Some until } → slice_get driving.drivers index ≡ Some d → IsAwake (index + 1) pending
    → all ≡ put (sleeper (index + 1) until) (without (index + 1) k.sleepers)
    → AreAtWork s index left pending k now driving
    → AreAtWork s index left pending (record k { list = slice_set k.list index held; sleepers = all }) now
    (with_one index (record d { wakes = Some until }) driving)
sleeps_kept s index left pending k now driving old held d until all was f there awake e w =
    let one = one_here s index left pending k now driving old d was there w in
    let n : index + 1 ≡ 1 + index = omega arith in
    stands_on s index left left pending pending k now driving held (record d { wakes = Some until }) all
    (subst (λ (x : Held). IsOne now x (record d { wakes = Some until }) left) (sym f)
    (linked_on now old d old.link d.link (Some until) (Some until) left one.stands.link_is refl one))
    (e ∙ ap (λ m. put (sleeper m until) (without m k.sleepers)) n
    ∙ ap (λ (ps : List Parked). put (sleeper (1 + index) until) (without (1 + index) ps)) w.sleepers
    ∙ sleepers_put pending 1 index until driving.drivers d (record d { wakes = Some until }) there
    (ap (λ m. list_any (nat_eq m) pending) (sym n) ∙ awake) refl) w

-- The first of those still to be woken is.
pub woken_kept : (s : Setup) (number : ℕ) (pending : List ℕ) (k : KeptDrivers) (now : ℕ) (driving : Driving)
    (old held : Held) (d : Driver) → 0 < number → slice_get k.list (number - 1) ≡ Some old → held ≡ record old { wakes = None }
    → slice_get driving.drivers (number - 1) ≡ Some d
    → AreAtWork s (number - 1) [] (number ∷ pending) k now driving
    → AreAtWork s (number - 1) [] pending (record k { list = slice_set k.list (number - 1) held }) now
    (with_one (number - 1) (record d { wakes = None }) driving)
woken_kept s number pending k now driving old held d some was e there w =
    let one = one_here s (number - 1) [] (number ∷ pending) k now driving old d was there w in
    stands_on s (number - 1) [] [] (number ∷ pending) pending k now driving held (record d { wakes = None }) k.sleepers
    (subst (λ (x : Held). IsOne now x (record d { wakes = None }) []) (sym e)
    (linked_on now old d old.link d.link None None [] one.stands.link_is refl one))
    (w.sleepers
    ∙ sleepers_woken pending 1 (number - 1) number driving.drivers d (record d { wakes = None }) there (omega (arith, some)) refl) w

-- Those who are due are to be woken.
pub due_kept : (s : Setup) (k : KeptDrivers) (now : ℕ) (driving : Driving) (due : List ℕ) (left : List Parked)
    → (due ≡ over_in now k.sleepers) × (left ≡ stay_in now k.sleepers) → AreAtWork s 0 [] [] k now driving
    → (due ≡ due_from now 1 driving.drivers) × AreAtWork s 0 [] due (record k { sleepers = left }) now driving
due_kept s k now driving due left e w =
    let due_is : due ≡ due_from now 1 driving.drivers = e.0 ∙ ap (over_in now) w.sleepers ∙ due_are now 1 driving.drivers in (
      due_is,
      record {
        each = w.each;
        names = w.names;
        sleepers = e.1 ∙ ap (stay_in now) w.sleepers ∙ stay_are now 1 driving.drivers
            ∙ ap (λ (x : List ℕ). sleepers_from x 1 driving.drivers) (sym due_is);
        linked = w.linked;
        works = w.works;
      },
    )

pub room_ascends : (s : Setup) (k : KeptDrivers) (now : ℕ) (driving : Driving) → AreAtWork s 0 [] [] k now driving → Ascending k.sleepers
room_ascends s k now driving w = subst Ascending (sym w.sleepers) (ascends [] 1 driving.drivers)

-- All that was written on a session's link comes down, and it does what it then wants: the number of a pump's loop falls.
use Rattle.std.proofs.Common.{◌≡◌, ◌≤◌, ◌<◌, ◌⊎◌, inl, inr, ℕ, ◌+◌, ◌-◌, ◌*◌, Bool, true, false, List, [], ◌∷◌, ◌++◌, length, drop}
use Rattle.std.proofs.Common.{Option, Some, None, refl, sym, ap, ◌∙◌, subst, arith}
use Rattle.std.specs.Prelude.{is_some, ◌||◌, if◌then◌else◌, slice_get, Err}
use Rattle.ncc_driver.specs.declared.config.SessionConfig.{SessionConfig}
use Rattle.ncc_driver.specs.declared.standing.Leg.{Leg}
use Rattle.ncc_driver.specs.declared.standing.Stage.{Stage}
use Rattle.ncc_driver.specs.declared.standing.Stage.TheVariants as stage
use Rattle.ncc_driver.specs.declared.action.Action.{Action}
use Rattle.ncc_driver.specs.declared.action.Action.TheVariants.{Connect, Send, Close, Sleep, Receive, Finish}
use Rattle.ncc_driver.specs.declared.action.Input.{Input}
use Rattle.ncc_driver.specs.declared.action.Input.TheVariants as i
use Rattle.ncc_driver.specs.Work.{Job}
use Rattle.ncc_driver.specs.Attempts.{is_spent, drops_table, finishes, sleeps}
use Rattle.ncc_driver.specs.declared.action.Last.TheVariants.{LinkLost}
use Rattle.ncc_driver.specs.declared.action.WorkError.TheVariants.{RetriesSpent}
use Rattle.ncc_driver.specs.Session.{State, Ran, Begun, session, on, on_input}
use Rattle.ncc_driver.specs.Talk.{grown}
use Rattle.ncc_driver.specs.LawsLeft.{HasSteps, messages_in, left_of, begins_attempt}
use Rattle.ncc_driver.proofs.LawsLeft.{sends_lower}
use Rattle.ncc_driver.proofs.LawsJoins.{connects_last}
use Rattle.ncc_clients.specs.Members.{Cluster}
use Rattle.ncc_clients.specs.Links.{Link, Driver, Parcel}
use Rattle.ncc_clients.specs.Run.{Run, Client, out_of}
use Rattle.ncc_clients.specs.Drives.{driver_at, with_driver, member_named, waits_above, held_back, does_more, follows_on, comes_down}
use Rattle.ncc_clients.specs.Drives.{with_input, falls, falls_by, descends, all_bytes, up_at, down_at}
use Rattle.ncc_clients.specs.Measure.{weight, ups, number, number_by}
use Rattle.ncc_clients.proofs.Lists.{set_same}
use Rattle.ncc_clients.proofs.Parcels.{drop_more}
use Rattle.ncc_clients.proofs.Driving.{session_told, told_last, more_is}
use Rattle.ncc_clients.proofs.Inputs.{last_is, last_split}
use Rattle.ncc_clients.specs.Drives.{last_of, joined, more}
use Rattle.ncc_clients.proofs.Counted.{waits_behind, either, on_counts, shake_sends}
use Rattle.ncc_clients.proofs.Falling.{AllDown, Stays, links_behind, told_more}

abbrev nil : List ℕ
nil = []

weight_most : (up : List Parcel) (down : List ℕ) → weight up down ≤ 2
weight_most (p ∷ ps) down = omega arith
weight_most [] (b ∷ bs) = omega arith
weight_most [] [] = omega arith

pub less_most : (n left m first w : ℕ) → n ≡ 3 * left + w → w ≤ 2 → m + left ≤ first → 1 ≤ m → n < 3 * first + 1
less_most n left m first w a b c d = omega (arith, a, b, c, d)

less_none : (n left m first w : ℕ) → n ≡ 3 * left + w → w ≡ 0 → m + left ≤ first → n < 3 * first + 1
less_none n left m first w a b c = omega (arith, a, b, c)

more_two : (m n first left last : ℕ) → m + left ≤ first → n + last ≤ left → (m + n) + last ≤ first
more_two m n first left last a b = omega (arith, a, b)

-- the place of a session whose last work was told one thing more
told_place : (config : SessionConfig) (before : List Begun) (work : Begun) (input : Input) (now : ℕ)
    → (session config (before ++ grown work input now ∷ [])).state
    ≡ (on config work.job now (session config (before ++ work ∷ [])).state input).state
told_place config before work input now = ap (λ (x : Ran). x.state) (session_told config before work input now)

-- It may send less then, by what it sends.
sends_less : (config : SessionConfig) (before : List Begun) (work : Begun) (input : Input) (now : ℕ) → HasSteps 2 work.job
    → begins_attempt input ≡ false
    → messages_in (on config work.job now (session config (before ++ work ∷ [])).state input).actions
    + left_of 2 (session config (before ++ grown work input now ∷ [])).state.place
    ≤ left_of 2 (session config (before ++ work ∷ [])).state.place
sends_less config before work input now few plain =
    let s = (session config (before ++ work ∷ [])).state in
    subst (λ (x : State). messages_in (on config work.job now s input).actions + left_of 2 x.place ≤ left_of 2 s.place)
    (sym (told_place config before work input now)) (sends_lower config work.job 2 now s input few plain)

module _ {S : Type 0} (C : Cluster S) where
  -- a link was made before, or there is such a Connect
  record Linked (actions : List Action) : Type 0 where
    front : List Action
    address : List ℕ
    back : List Action
    split : actions ≡ front ++ Connect address ∷ back
    named : is_some (member_named C address) ≡ true

  ahead : (a : Action) (actions : List Action) → Linked actions → Linked (a ∷ actions)
  ahead a actions h = record {
    front = a ∷ h.front;
    address = h.address;
    back = h.back;
    split = ap (λ (x : List Action). a ∷ x) h.split;
    named = h.named;
  }

  ahead_of : (links : Bool) (a : Action) (actions : List Action) → (links ≡ true) ⊎ Linked actions → (links ≡ true) ⊎ Linked (a ∷ actions)
  ahead_of links a actions (inl e) = inl e
  ahead_of links a actions (inr h) = inr (ahead a actions h)

  made : (links : Bool) (actions : List Action) → links_behind C links actions ≡ true → (links ≡ true) ⊎ Linked actions
  made links [] e = inl e
  made links (Send bytes ∷ actions) e = ahead_of links (Send bytes) actions (made links actions e)
  made links (Close ∷ actions) e = ahead_of links Close actions (made links actions e)
  made links (Sleep until ∷ actions) e = ahead_of links (Sleep until) actions (made links actions e)
  made links (Receive ∷ actions) e = ahead_of links Receive actions (made links actions e)
  made links (Finish end ∷ actions) e = ahead_of links (Finish end) actions (made links actions e)
  made links (Connect address ∷ actions) e = go (is_some (member_named C address)) refl
      (made (is_some (member_named C address) || links) actions e)
    where
      go : (b : Bool) → is_some (member_named C address) ≡ b → ((is_some (member_named C address) || links) ≡ true) ⊎ Linked actions
          → (links ≡ true) ⊎ Linked (Connect address ∷ actions)
      go b n (inr h) = inr (ahead (Connect address) actions h)
      go true n (inl h) = inr (record { front = []; address = address; back = actions; split = refl; named = n })
      go false n (inl h) = inl (sym (ap (λ (x : Bool). x || links) n) ∙ h)

  -- A link is made only by the last of what an input leads to.
  made_last : (config : SessionConfig) (job : Job) (now : ℕ) (s : State) (input : Input)
      → links_behind C false (on config job now s input).actions ≡ true
      → (address : List ℕ) × (last_of (on config job now s input).actions ≡ Some (Connect address))
      × (is_some (member_named C address) ≡ true)
  made_last config job now s input e = go (made false (on config job now s input).actions e) where
    go : (false ≡ true) ⊎ Linked (on config job now s input).actions
        → (address : List ℕ) × (last_of (on config job now s input).actions ≡ Some (Connect address))
        × (is_some (member_named C address) ≡ true)
    go (inl f) = absurd (let g : false ≡ true = f in cc)
    go (inr h) =
        let none = (connects_last config job now s input h.front h.address h.back h.split).0 in
        let last = ap last_of (h.split ∙ ap (λ (x : List Action). h.front ++ Connect h.address ∷ x) none) in
        (h.address, last ∙ last_is h.front (Connect h.address), h.named)

  none_down : (r : Run S) (o : Option Link) → AllDown C r o → elim o [ Some link ↦ waits_above C r link | None ↦ nil ] ≡ nil
  none_down r None h = refl
  none_down r (Some link) h = h

  -- What is left of the number behind inputs that sent so much.
  module _ (k : ℕ) (config : SessionConfig) (works : List Begun) (waits links : Bool) (u : Run S) (m first : ℕ)
      (st : Stays C k config works waits links u) (less : m + left_of 2 (session config works).state.place ≤ first)
      (sent : waits ≡ true → 1 ≤ m) where
    abbrev left : ℕ
    left = left_of 2 (session config works).state.place

    abbrev on_link : List ℕ
    on_link = elim st.d.link [ Some link ↦ waits_above C u link | None ↦ nil ]

    abbrev w : ℕ
    w = weight (ups st.d.link) on_link

    number_is : number C k u ≡ 3 * left + w
    number_is = ap (λ (o : Option Driver). number_by C u o) st.here
        ∙ ap (λ (c : SessionConfig). 3 * left_of 2 (session c st.d.works).state.place + w) st.config_is
        ∙ ap (λ (ws : List Begun). 3 * left_of 2 (session config ws).state.place + w) st.works_are

    sure : 1 ≤ m → number C k u < 3 * first + 1
    sure one = less_most (number C k u) left m first w number_is (weight_most (ups st.d.link) on_link) less one

    leaves_by : (b : Bool) → waits ≡ b → (links ≡ false) ⊎ (1 ≤ m) → number C k u < 3 * first + 1
    leaves_by true e linked = sure (sent e)
    leaves_by false e (inr one) = sure one
    leaves_by false e (inl none) = less_none (number C k u) left m first w number_is
        (ap (λ (up : List Parcel). weight up on_link) (st.up e)
        ∙ ap (λ (down : List ℕ). weight [] down) (none_down u st.d.link (st.down none))) less

    pub leaves : (links ≡ false) ⊎ (1 ≤ m) → number C k u < 3 * first + 1
    leaves linked = leaves_by waits refl linked

  -- ---- the second input

  connected_sends : (config : SessionConfig) (job : Job) (now : ℕ) (s : State) (leg : Leg) → s.place.core.stage ≡ stage.Joins leg
      → 1 ≤ messages_in (on config job now s i.Connected).actions
  unfolding on
  connected_sends config job now s leg e =
      subst (λ (x : Stage). 1 ≤ messages_in (on_input config job now s x i.Connected).actions) (sym e) shake_sends

  lost_links : (config : SessionConfig) (job : Job) (now : ℕ) (s : State) (leg : Leg) (links : Bool) → s.place.core.stage ≡ stage.Joins leg
      → links_behind C links (on config job now s i.Lost).actions ≡ links
  unfolding on
  lost_links config job now s leg links e =
      subst (λ (x : Stage). links_behind C links (on_input config job now s x i.Lost).actions ≡ links) (sym e)
      (spent (is_spent now (drops_table s.place).core.began)) where
        spent : (b : Bool)
            → links_behind C links (if b then finishes (drops_table s.place) (Err (RetriesSpent s.place.core.attempts LinkLost))
            else sleeps (drops_table s.place) now).actions ≡ links
        spent true = refl
        spent false = refl

  named_of : Option Action → Bool
  named_of (Some (Connect address)) = is_some (member_named C address)
  named_of _ = false

  quiet : (line k : ℕ) (t : Run S) (o : Option Driver) → follows_on C line k t o None ≡ t
  quiet line k t None = refl
  quiet line k t (Some d) = refl

  drop_length : (xs : List ℕ) → drop (length xs) xs ≡ nil
  drop_length [] = refl
  drop_length (x ∷ xs) = drop_length xs

  all_down : (link : Link) (bytes : List ℕ) (o : Option Client) → held_back C link o ≡ bytes
      → held_back C (record link { down = link.down + length bytes }) o ≡ nil
  all_down link bytes None e = refl
  all_down link bytes (Some c) e =
      sym (drop_more link.down (length bytes) (out_of C c)) ∙ ap (λ (x : List ℕ). drop (length bytes) x) e ∙ drop_length bytes

  one_more : (m n : ℕ) → 1 ≤ n → 1 ≤ m + n
  one_more m n h = omega (arith, h)

  one_first : (m n : ℕ) → 1 ≤ m → 1 ≤ m + n
  one_first m n h = omega (arith, h)

  module _ (k line : ℕ) (r : Run S) (d : Driver) (before : List Begun) (work : Begun) (link : Link) (b : ℕ) (bs : List ℕ)
      (here : driver_at r k ≡ Some d) (is : d.works ≡ before ++ work ∷ []) (few : HasSteps 2 work.job) (empty : link.up ≡ [])
      (bytes : waits_above C r link ≡ b ∷ bs) where
    abbrev lower : Driver
    lower = record d { link = Some (record link { down = link.down + length (b ∷ bs) }) }

    abbrev from : Run S
    from = with_driver r k lower

    abbrev told : Input
    told = i.Bytes (b ∷ bs)

    abbrev state : State
    state = (session d.config (before ++ work ∷ [])).state

    abbrev out : Ran
    out = on d.config work.job r.now state told

    abbrev later : Begun
    later = grown work told r.now

    abbrev first : ℕ
    first = left_of 2 state.place

    abbrev t : Run S
    t = does_more C line k from lower (with_input d.works (told, r.now))

    st : Stays C k d.config (before ++ later ∷ []) (waits_behind false out.actions) (links_behind C false out.actions) t
    st = told_more C k line false false from lower before work told r.now (set_same r.driving.drivers k d lower here) is (λ e. empty)
        (λ e. all_down link (b ∷ bs) (slice_get r.clients (link.conn - 1)) bytes)

    one : messages_in out.actions + left_of 2 (session d.config (before ++ later ∷ [])).state.place ≤ first
    one = sends_less d.config before work told r.now few refl

    unlinked : (v : Bool) → links_behind C false out.actions ≡ v → named_of (last_of out.actions) ≡ false → v ≡ false
    unfolding named_of
    unlinked false e f = refl
    unlinked true e f =
        let m = made_last d.config work.job r.now state told e in
        absurd (let g : true ≡ false = sym m.2 ∙ sym (ap named_of m.1) ∙ f in cc)

    stops : (x : Option Action) → last_of out.actions ≡ x → named_of x ≡ false
        → number C k (follows_on C line k t (driver_at t k) None) < 3 * first + 1
    stops x e f = subst (λ (u : Run S). number C k u < 3 * first + 1) (sym (quiet line k t (driver_at t k)))
        (leaves k d.config (before ++ later ∷ []) (waits_behind false out.actions) (links_behind C false out.actions) t
        (messages_in out.actions) first st one (on_counts d.config work.job r.now state told)
        (inl (unlinked (links_behind C false out.actions) refl (ap named_of e ∙ f))))

    abbrev config : SessionConfig
    config = st.d.config

    abbrev then_state : State
    then_state = (session config (before ++ later ∷ [])).state

    -- told what became of its Connect
    joins : (address : List ℕ) (input : Input) → last_of out.actions ≡ Some (Connect address) → begins_attempt input ≡ false
        → ((leg : Leg) → then_state.place.core.stage ≡ stage.Joins leg
        → let a = (on config work.job t.now then_state input).actions in
        (links_behind C (links_behind C false out.actions) a ≡ false) ⊎ (1 ≤ messages_in out.actions + messages_in a))
        → number C k (follows_on C line k t (driver_at t k) (Some input)) < 3 * first + 1
    joins address input e plain linked =
        let a = (on config work.job t.now then_state input).actions in
        let s = last_split out.actions (Connect address) e in
        let at = (connects_last d.config work.job r.now state told s.0 address [] s.1).1 in
        let stage_is : then_state.place.core.stage ≡ stage.Joins at.0 =
        subst (λ (c : SessionConfig). (session c (before ++ later ∷ [])).state.place.core.stage ≡ stage.Joins at.0) (sym st.config_is)
        (ap (λ (x : State). x.place.core.stage) (told_place d.config before work told r.now) ∙ at.1) in
        let less : messages_in out.actions + left_of 2 then_state.place ≤ first =
        subst (λ (c : SessionConfig). messages_in out.actions + left_of 2 (session c (before ++ later ∷ [])).state.place ≤ first)
        (sym st.config_is) one in
        let two = told_more C k line (waits_behind false out.actions) (links_behind C false out.actions) t st.d before later input t.now
        st.here st.works_are st.up st.down in
        let after = before ++ grown later input t.now ∷ [] in
        subst (λ (o : Option Driver). number C k (follows_on C line k t o (Some input)) < 3 * first + 1) (sym st.here)
        (leaves k config after (waits_behind (waits_behind false out.actions) a) (links_behind C (links_behind C false out.actions) a)
        (does_more C line k t st.d (with_input st.d.works (input, t.now))) (messages_in out.actions + messages_in a) first two
        (more_two (messages_in out.actions) (messages_in a) first (left_of 2 then_state.place)
        (left_of 2 (session config after).state.place) less (sends_less config before later input t.now few plain))
        (λ f. counted a (either (waits_behind false out.actions) a f) (on_counts config work.job t.now then_state input))
        (linked at.0 stage_is)) where
          counted : (a : List Action) → (waits_behind false out.actions ≡ true) ⊎ (waits_behind false a ≡ true)
              → (waits_behind false a ≡ true → 1 ≤ messages_in a) → 1 ≤ messages_in out.actions + messages_in a
          counted a (inl x) h =
              one_first (messages_in out.actions) (messages_in a) (on_counts d.config work.job r.now state told x)
          counted a (inr y) h = one_more (messages_in out.actions) (messages_in a) (h y)

    follows : (x : Option Action) → last_of out.actions ≡ x
        → number C k (follows_on C line k t (driver_at t k) (joined C x)) < 3 * first + 1
    unfolding named_of
    follows (Some (Connect address)) e = go (is_some (member_named C address)) refl where
      go : (v : Bool) → is_some (member_named C address) ≡ v
          → number C k (follows_on C line k t (driver_at t k) (Some (if v then i.Connected else i.Lost))) < 3 * first + 1
      go true n = joins address i.Connected e refl (λ leg at. inr (one_more (messages_in out.actions)
          (messages_in (on config work.job t.now then_state i.Connected).actions)
          (connected_sends config work.job t.now then_state leg at)))
      go false n = joins address i.Lost e refl (λ leg at. inl (lost_links config work.job t.now then_state leg
          (links_behind C false out.actions) at ∙ unlinked (links_behind C false out.actions) refl (ap named_of e ∙ n)))
    follows None e = stops None e refl
    follows (Some (Send x)) e = stops (Some (Send x)) e refl
    follows (Some Close) e = stops (Some Close) e refl
    follows (Some (Sleep x)) e = stops (Some (Sleep x)) e refl
    follows (Some Receive) e = stops (Some Receive) e refl
    follows (Some (Finish x)) e = stops (Some (Finish x)) e refl

  -- All that was written comes down, and it does what it then wants: the number is less.
  module _ (k line : ℕ) (r : Run S) (before : List Begun) (work : Begun) (few : HasSteps 2 work.job) where
    by_bytes : (d : Driver) (link : Link) (bytes : List ℕ) → driver_at r k ≡ Some d → d.works ≡ before ++ work ∷ [] → d.link ≡ Some link
        → link.up ≡ [] → waits_above C r link ≡ bytes → (bytes ≡ [] → ⊥) → number C k (descends C line k r) < number C k r
    by_bytes d link [] here is linked empty e some = absurd (some refl)
    by_bytes d link (b ∷ bs) here is linked empty e some =
        let fall : descends C line k r ≡ comes_down C line k r d link (b ∷ bs) =
        ap (λ (o : Option Driver). falls C line k r o all_bytes) here
        ∙ ap (λ (o : Option Link). falls_by C line k r d o all_bytes) linked ∙ ap (comes_down C line k r d link) e in
        let was : number C k r ≡ 3 * left_of 2 (session d.config (before ++ work ∷ [])).state.place + 1 =
        ap (λ (o : Option Driver). number_by C r o) here
        ∙ ap (λ (ws : List Begun). 3 * left_of 2 (session d.config ws).state.place + weight (ups d.link) (down_at C r (Some d))) is
        ∙ ap (λ (o : Option Link). 3 * left_of 2 (session d.config (before ++ work ∷ [])).state.place
        + weight (ups o) (elim o [ Some l ↦ waits_above C r l | None ↦ nil ])) linked
        ∙ ap (λ (up : List Parcel). 3 * left_of 2 (session d.config (before ++ work ∷ [])).state.place
        + weight up (waits_above C r link)) empty
        ∙ ap (λ (down : List ℕ). 3 * left_of 2 (session d.config (before ++ work ∷ [])).state.place + weight [] down) e in
        let actions = (on d.config work.job r.now (session d.config (before ++ work ∷ [])).state (i.Bytes (b ∷ bs))).actions in
        let lower : Driver = record d { link = Some (record link { down = link.down + length (b ∷ bs) }) } in
        let works = with_input d.works (i.Bytes (b ∷ bs), r.now) in
        let works_are : works ≡ before ++ grown work (i.Bytes (b ∷ bs)) r.now ∷ [] =
        ap (λ (ws : List Begun). with_input ws (i.Bytes (b ∷ bs), r.now)) is ∙ told_last before work (i.Bytes (b ∷ bs), r.now) in
        let more_are : more lower works ≡ actions =
        ap (more lower) works_are ∙ more_is lower before work (i.Bytes (b ∷ bs)) r.now is in
        let t = does_more C line k (with_driver r k lower) lower works in
        subst (λ (u : Run S). number C k u < number C k r) (sym fall)
        (subst (λ (n : ℕ). number C k (comes_down C line k r d link (b ∷ bs)) < n) (sym was)
        (subst (λ (doing : List Action). number C k (follows_on C line k t (driver_at t k) (joined C (last_of doing)))
        < 3 * left_of 2 (session d.config (before ++ work ∷ [])).state.place + 1) (sym more_are)
        (follows k line r d before work link b bs here is few empty e (last_of actions) refl)))

    by_link : (d : Driver) (o : Option Link) → driver_at r k ≡ Some d → d.works ≡ before ++ work ∷ [] → d.link ≡ o → ups o ≡ []
        → (elim o [ Some l ↦ waits_above C r l | None ↦ nil ] ≡ nil → ⊥) → number C k (descends C line k r) < number C k r
    by_link d None here is linked empty some = absurd (some refl)
    by_link d (Some link) here is linked empty some = by_bytes d link (waits_above C r link) here is linked empty refl some

    pub descends_lower : (d : Driver) → driver_at r k ≡ Some d → d.works ≡ before ++ work ∷ [] → up_at (Some d) ≡ []
        → (down_at C r (Some d) ≡ [] → ⊥) → number C k (descends C line k r) < number C k r
    descends_lower d here is empty some = by_link d d.link here is refl empty some

-- Where a work stands behind one more call, and where it stops.
use Rattle.std.proofs.Common.{◌≡◌, ℕ, ◌+◌, ◌≤◌, List, [], ◌∷◌, ◌++◌, length, map, refl, sym, ap, ◌∙◌, subst, arith, append_assoc, append-nil}
use Rattle.std.proofs.lemmas.List.{map-append, length-append}
use Rattle.std.specs.List.{Contains}
use Rattle.ncc_driver.specs.declared.config.SessionConfig.{SessionConfig}
use Rattle.ncc_driver.specs.declared.standing.Core.{Core}
use Rattle.ncc_driver.specs.declared.action.Action.{Action}
use Rattle.ncc_driver.specs.declared.action.Action.TheVariants.{Finish}
use Rattle.ncc_driver.specs.declared.action.Input.{Input}
use Rattle.ncc_driver.specs.declared.action.Input.TheVariants as i
use Rattle.ncc_driver.specs.Work.{Row, Job}
use Rattle.ncc_driver.specs.State.{BehindAt}
use Rattle.ncc_driver.specs.Session.{State, Moved, Begun, begins, on, told_all, works_all, session, acts, told_in}
use Rattle.ncc_driver.specs.Talk.{Held, Stands, StandsAt, HandsOut, Tells, TellBreaks, StaysWith, grown}
use Rattle.ncc_driver.proofs.LawsMakes.{on_makes}
use Rattle.ncc_client.specs.declared.working.Made.{Made}
use Rattle.ncc_client.specs.declared.working.Made.TheVariants as m
use Rattle.ncc_client.specs.declared.working.Stop.{Stop}
use Rattle.ncc_client.specs.declared.working.Stop.TheVariants as stop
use Rattle.ncc_client.specs.Calls.{Call, action_of, given_by, given}
use Rattle.ncc_client.specs.Working.{End, timed, one_work}
use Rattle.ncc_client.specs.Turning.{At, IsAt, Calls, MakesBy, Went, Goes, Stopped, Stops}
use Rattle.ncc_client.proofs.Lists.{timed_more, given_on, given_one, lost_none}

-- ---- what came of an action

pub nothing_came : (made : List Call → Type 0) (rose same : Type 0) (action : Action) (v : Made) → v ≡ m.Nothing
    → MakesBy made rose same action v → Calls made rose action []
nothing_came made rose same action v e h = subst (λ (x : Made). MakesBy made rose same action x) e h

pub this_came : (made : List Call → Type 0) (rose same : Type 0) (action : Action) (v : Made) (input : Input) → v ≡ m.Given input
    → MakesBy made rose same action v → Calls made rose action (input ∷ [])
this_came made rose same action v input e h = subst (λ (x : Made). MakesBy made rose same action x) e h

pub end_came : (made : List Call → Type 0) (rose same : Type 0) (action : Action) (v : Made) (end : End) → v ≡ m.Ended end
    → MakesBy made rose same action v → (action ≡ Finish end) × same
end_came made rose same action v end e h = subst (λ (x : Made). MakesBy made rose same action x) e h

-- ---- the moment at which it began

told_began : (config : SessionConfig) (job : Job) (s : State) (xs : List Moved)
    → (told_all config job s xs).state.place.core.began ≡ s.place.core.began
unfolding told_all
told_began config job s [] = refl
told_began config job s (x ∷ xs) =
    told_began config job (on config job x.1 s x.0).state xs ∙ (on_makes config job x.1 s x.0).began

one_began : (config : SessionConfig) (w : Begun) → (session config (w ∷ [])).state.place.core.began ≡ w.began
unfolding session works_all begins
one_began config w = told_began config w.job _ w.inputs

pub at_began : (config : SessionConfig) (job : Job) (behind : List (List Row) → Type 0) (calls : List Call) (began : ℕ) (later : List ℕ)
    (held : Held) → At config job behind calls began later held → held.core.began ≡ began
at_began config job behind calls began later held k =
    ap (λ (c : Core). c.began) (sym k.stands.core_is) ∙ one_began config (one_work job began calls later)

-- ---- the next action was handed out

core_stays : (old new : Held) (action : Action) (config : SessionConfig) (works : List Begun) (out : List Action)
    → Stands old config works out → HandsOut old action new → new.core ≡ old.core
core_stays old new action config works out k h = sym (h config works out k).core_is ∙ k.core_is

pub hand_core : (job : Job) (behind : List (List Row) → Type 0) (last : ℕ) (old new : Held) (action : Action)
    → IsAt job behind last old → HandsOut old action new → new.core ≡ old.core
hand_core job behind last old new action k h = core_stays old new action k.config _ _ k.at.stands h

pub hand_later : (job : Job) (behind : List (List Row) → Type 0) (last now : ℕ) (old new : Held) (action : Action)
    → IsAt job behind last old → HandsOut old action new → last ≤ now → new.core.began ≤ now
hand_later job behind last now old new action k h l =
    let e = ap (λ (c : Core). c.began) (hand_core job behind last old new action k h) in
    let f = at_began k.config job behind k.calls k.began k.later old k.at in
    let t = k.in_time in
    omega (arith, e, f, t, l)

pub hand_stands : (job : Job) (behind : List (List Row) → Type 0) (last : ℕ) (old new : Held) (action : Action)
    → IsAt job behind last old → HandsOut old action new → StandsAt old.core.stage behind → StandsAt new.core.stage behind
hand_stands job behind last old new action k h s =
    subst (λ (c : Core). StandsAt c.stage behind) (sym (hand_core job behind last old new action k h)) s

actions_more : (calls : List Call) (call : Call) (action : Action) → action_of call ≡ action
    → map action_of (calls ++ call ∷ []) ≡ map action_of calls ++ action ∷ []
actions_more calls call action e =
    map-append action_of calls (call ∷ []) ∙ ap (λ (x : Action). map action_of calls ++ x ∷ []) e

given_more : (calls : List Call) (call : Call) (inputs : List Input) → given_by call ≡ inputs
    → given (calls ++ call ∷ []) ≡ given calls ++ inputs
given_more calls call inputs e =
    given_on calls (call ∷ []) ∙ ap (λ (l : List Input). given calls ++ l) (given_one call ∙ e)

-- ---- a call that gives nothing

quiet_work : (job : Job) (began : ℕ) (calls : List Call) (later : List ℕ) (call : Call) → given_by call ≡ []
    → one_work job began (calls ++ call ∷ []) (later ++ []) ≡ one_work job began calls later
quiet_work job began calls later call e =
    ap (λ (l : List ℕ). one_work job began (calls ++ call ∷ []) l) (append-nil later)
    ∙ ap (λ (l : List Input). record { job = job; began = began; inputs = (i.Start, began) ∷ timed l later })
    (given_more calls call [] e ∙ append-nil (given calls))

quiet_at : (config : SessionConfig) (job : Job) (behind : List (List Row) → Type 0) (calls : List Call) (began : ℕ) (later : List ℕ)
    (old new : Held) (action : Action) (call : Call) → action_of call ≡ action → given_by call ≡ []
    → At config job behind calls began later old → HandsOut old action new
    → At config job behind (calls ++ call ∷ []) began (later ++ []) new
quiet_at config job behind calls began later old new action call d e k h =
    let w = quiet_work job began calls later call e in
    let core = core_stays old new action config _ _ k.stands h in
    record {
      one_each = ap length (append-nil later) ∙ k.one_each ∙ ap length (sym (given_more calls call [] e ∙ append-nil (given calls)));
      stands = subst (λ (v : Begun). Stands new config (v ∷ []) (map action_of (calls ++ call ∷ []))) (sym w)
          (subst (λ (out : List Action). Stands new config (one_work job began calls later ∷ []) out) (sym (actions_more calls call action d))
          (h config _ _ k.stands));
      is_behind = subst (λ (v : Begun). BehindAt new.core.stage behind (told_in config (v ∷ []))) (sym w)
          (subst (λ (c : Core). BehindAt c.stage behind (told_in config (one_work job began calls later ∷ []))) (sym core) k.is_behind);
    }

pub quiet : (job : Job) (behind : List (List Row) → Type 0) (made : List Call → Type 0) (ticked : List ℕ → Type 0) (rose : Type 0)
    (old new : Held) (action : Action) → HandsOut old action new → Calls made rose action [] → ticked []
    → Goes job behind behind made ticked rose old new
quiet job behind made ticked rose old new action h k t = record {
  went = record {
    calls = k.call ∷ [];
    moments = [];
    made_it = k.made_it;
    ticked_it = t;
    lost = λ x. k.lost (subst (λ (l : List Input). Contains l i.Lost) (given_one k.call ∙ k.gives) x);
  };
  goes_on = λ config calls began later a.
      quiet_at config job behind calls began later old new action k.call k.does k.gives a h;
}

-- ---- a call that gives something

told_work : (job : Job) (began : ℕ) (calls : List Call) (later : List ℕ) (call : Call) (input : Input) (now : ℕ)
    → length later ≡ length (given calls) → given_by call ≡ input ∷ []
    → one_work job began (calls ++ call ∷ []) (later ++ now ∷ [])
    ≡ record { job = job; began = began; inputs = ((i.Start, began) ∷ timed (given calls) later) ++ (input, now) ∷ [] }
told_work job began calls later call input now n e =
    ap (λ (l : List Input). record { job = job; began = began; inputs = (i.Start, began) ∷ timed l (later ++ now ∷ []) })
    (given_more calls call (input ∷ []) e)
    ∙ ap (λ (l : List Moved). record { job = job; began = began; inputs = (i.Start, began) ∷ l })
    (timed_more (given calls) later input now n)

more_each : (calls : List Call) (later : List ℕ) (call : Call) (input : Input) (now : ℕ)
    → length later ≡ length (given calls) → given_by call ≡ input ∷ []
    → length (later ++ now ∷ []) ≡ length (given (calls ++ call ∷ []))
more_each calls later call input now n e =
    length-append later (now ∷ []) ∙ ap (λ (m : ℕ). m + 1) n ∙ sym (length-append (given calls) (input ∷ []))
    ∙ ap length (sym (given_more calls call (input ∷ []) e))

told_at : (config : SessionConfig) (job : Job) (before after : List (List Row) → Type 0) (calls : List Call) (began : ℕ) (later : List ℕ)
    (old mid new : Held) (action : Action) (call : Call) (input : Input) (now : ℕ) → action_of call ≡ action → given_by call ≡ input ∷ []
    → HandsOut old action mid → Tells before mid job input now new → StaysWith before after mid job input now new
    → At config job before calls began later old
    → At config job after (calls ++ call ∷ []) began (later ++ now ∷ []) new
told_at config job before after calls began later old mid new action call input now d e h t s k =
    let w = told_work job began calls later call input now k.one_each e in
    let last = one_work job began calls later in
    let out = map action_of calls ++ action ∷ [] in
    let m = h config _ _ k.stands in
    let core = core_stays old mid action config _ _ k.stands h in
    let b = subst (λ (c : Core). BehindAt c.stage before (told_in config (last ∷ []))) (sym core) k.is_behind in
    record {
      one_each = more_each calls later call input now k.one_each e;
      stands = subst (λ (v : Begun). Stands new config (v ∷ []) (map action_of (calls ++ call ∷ []))) (sym w)
          (subst (λ (o : List Action). Stands new config (grown last input now ∷ []) o) (sym (actions_more calls call action d))
          (t config [] last out refl m b));
      is_behind = subst (λ (v : Begun). BehindAt new.core.stage after (told_in config (v ∷ []))) (sym w) (s config [] last out refl m b);
    }

lost_one : (call : Call) (rose : Type 0) (inputs : List Input) → given_by call ≡ inputs → (Contains inputs i.Lost → rose)
    → Contains (given (call ∷ [])) i.Lost → rose
lost_one call rose inputs e f x = f (subst (λ (l : List Input). Contains l i.Lost) (given_one call ∙ e) x)

pub told : (job : Job) (before after : List (List Row) → Type 0) (made : List Call → Type 0) (ticked : List ℕ → Type 0) (rose : Type 0)
    (old mid new : Held) (action : Action) (input : Input) (now : ℕ) → HandsOut old action mid → Calls made rose action (input ∷ [])
    → ticked (now ∷ []) → Tells before mid job input now new → StaysWith before after mid job input now new
    → Goes job before after made ticked rose old new
told job before after made ticked rose old mid new action input now h k t u s = record {
  went = record {
    calls = k.call ∷ [];
    moments = now ∷ [];
    made_it = k.made_it;
    ticked_it = t;
    lost = lost_one k.call rose (input ∷ []) k.gives k.lost;
  };
  goes_on = λ config calls began later a.
      told_at config job before after calls began later old mid new action k.call input now k.does k.gives h u s a;
}

-- ---- stops

abbrev pub nothing : (made : List Call → Type 0) (ticked : List ℕ → Type 0) (rose : Type 0) → made [] → ticked [] → Went made ticked rose
nothing made ticked rose m t =
    record { calls = []; moments = []; made_it = m; ticked_it = t; lost = lost_none rose }

still_work : (config : SessionConfig) (job : Job) (calls : List Call) (began : ℕ) (later : List ℕ) (why : Stop)
    → Stopped config job calls began later why → Stopped config job (calls ++ []) began (later ++ []) why
still_work config job calls began later why k =
    subst (λ (l : List ℕ). Stopped config job (calls ++ []) began l why) (sym (append-nil later))
    (subst (λ (l : List Call). Stopped config job l began later why) (sym (append-nil calls)) k)

-- no action, or no memory
pub stops_here : (job : Job) (before : List (List Row) → Type 0) (made : List Call → Type 0) (ticked : List ℕ → Type 0) (rose : Type 0)
    (old : Held) → made [] → ticked [] → Stops job before made ticked rose old stop.Memory
stops_here job before made ticked rose old m t = record {
  went = nothing made ticked rose m t;
  stopped = λ config calls began later k. still_work config job calls began later stop.Memory (record {
    one_each = k.one_each;
    rest = old.queue;
    acts_are = k.stands.out_is;
    stops = tt;
  });
}

pub stops_ended : (job : Job) (before : List (List Row) → Type 0) (made : List Call → Type 0) (ticked : List ℕ → Type 0) (rose : Type 0)
    (old new : Held) (action : Action) (end : End) → made [] → ticked [] → HandsOut old action new → action ≡ Finish end
    → Stops job before made ticked rose old (stop.Ended end)
stops_ended job before made ticked rose old new action end m t h e = record {
  went = nothing made ticked rose m t;
  stopped = λ config calls began later k. still_work config job calls began later (stop.Ended end) (record {
    one_each = k.one_each;
    rest = action ∷ new.queue;
    acts_are = (h config _ _ k.stands).out_is ∙ append_assoc (map action_of calls) (action ∷ []) new.queue;
    stops = (new.queue, ap (λ (x : Action). x ∷ new.queue) e);
  });
}

broken_at : (config : SessionConfig) (job : Job) (before : List (List Row) → Type 0) (calls : List Call) (began : ℕ) (later : List ℕ)
    (old mid new : Held) (action : Action) (call : Call) (input : Input) (now : ℕ) → action_of call ≡ action → given_by call ≡ input ∷ []
    → HandsOut old action mid → TellBreaks mid job input now new
    → At config job before calls began later old
    → Stopped config job (calls ++ call ∷ []) began (later ++ now ∷ []) stop.Memory
broken_at config job before calls began later old mid new action call input now d e h t k =
    let w = told_work job began calls later call input now k.one_each e in
    let last = one_work job began calls later in
    let b = t config [] last (map action_of calls ++ action ∷ []) refl (h config _ _ k.stands) in
    record {
      one_each = more_each calls later call input now k.one_each e;
      rest = b.rest;
      acts_are = ap (λ (v : Begun). acts config (v ∷ [])) w ∙ b.begins
          ∙ ap (λ (l : List Action). l ++ b.rest) (sym (actions_more calls call action d));
      stops = tt;
    }

pub stops_broken : (job : Job) (before : List (List Row) → Type 0) (made : List Call → Type 0) (ticked : List ℕ → Type 0) (rose : Type 0)
    (old mid new : Held) (action : Action) (input : Input) (now : ℕ) → HandsOut old action mid → Calls made rose action (input ∷ [])
    → ticked (now ∷ []) → TellBreaks mid job input now new → Stops job before made ticked rose old stop.Memory
stops_broken job before made ticked rose old mid new action input now h k t b = record {
  went = record {
    calls = k.call ∷ [];
    moments = now ∷ [];
    made_it = k.made_it;
    ticked_it = t;
    lost = lost_one k.call rose (input ∷ []) k.gives k.lost;
  };
  stopped = λ config calls began later a.
      broken_at config job before calls began later old mid new action k.call input now k.does k.gives h b a;
}

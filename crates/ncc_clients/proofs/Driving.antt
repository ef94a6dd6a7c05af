-- Sessions of drivers: what one more input makes of them, and what their actions leave.
use Rattle.std.proofs.Common.{◌≡◌, ℕ, Bool, true, false, List, [], ◌∷◌, ◌++◌, length, drop, refl, sym, ap, ◌∙◌}
use Rattle.std.proofs.Common.{append_assoc, append-nil}
use Rattle.std.specs.Prelude.{Ok, Err}
use Rattle.std.specs.List.{flat_map}
use Rattle.ncc_pack.specs.declared.value.Value.{Value}
use Rattle.ncc_driver.specs.declared.config.SessionConfig.{SessionConfig}
use Rattle.ncc_driver.specs.declared.action.Action.{Action}
use Rattle.ncc_driver.specs.declared.action.Action.TheVariants.{Connect, Send, Close, Sleep, Receive, Finish}
use Rattle.ncc_driver.specs.declared.action.Input.{Input}
use Rattle.ncc_driver.specs.Work.{Job}
use Rattle.ncc_driver.specs.Session.{State, Ran, Moved, Begun, new_state, same, on, begins, ahead, told_all, works_all, session, acts}
use Rattle.ncc_driver.specs.Talk.{begun, grown}
use Rattle.ncc_driver.specs.Laws.{presented, linked_by}
use Rattle.ncc_clients.specs.Links.{Driver}
use Rattle.ncc_clients.specs.Drives.{with_input, more}
use Rattle.ncc_driver.specs.LawsLegs.{sent_since, DoneIn}

-- ---- runs that go on

ahead_twice : (a b : List Action) (r : Ran) → ahead a (ahead b r) ≡ ahead (a ++ b) r
ahead_twice a b r = ap (λ (x : List Action). record { state = r.state; actions = x }) (sym (append_assoc a b r.actions))

ahead_none : (a : List Action) (s : State) → ahead a (same s) ≡ record { state = s; actions = a }
ahead_none a s = ap (λ (x : List Action). record { state = s; actions = x }) (append-nil a)

told_on : (config : SessionConfig) (job : Job) (s : State) (xs ys : List Moved)
    → told_all config job s (xs ++ ys) ≡ (let r = told_all config job s xs in ahead r.actions (told_all config job r.state ys))
unfolding told_all
told_on config job s [] ys = refl
told_on config job s (x ∷ xs) ys =
    let r = on config job x.1 s x.0 in
    let q = told_all config job r.state xs in
    ap (λ (t : Ran). ahead r.actions t) (told_on config job r.state xs ys)
    ∙ ahead_twice r.actions q.actions (told_all config job q.state ys)

works_on : (config : SessionConfig) (s : State) (ws vs : List Begun)
    → works_all config s (ws ++ vs) ≡ (let r = works_all config s ws in ahead r.actions (works_all config r.state vs))
unfolding works_all
works_on config s [] vs = refl
works_on config s (w ∷ ws) vs =
    let r = told_all config w.job (begins w.began s) w.inputs in
    let q = works_all config r.state ws in
    ap (λ (t : Ran). ahead r.actions t) (works_on config r.state ws vs) ∙ ahead_twice r.actions q.actions (works_all config q.state vs)

one_work : (config : SessionConfig) (s : State) (w : Begun) → works_all config s (w ∷ []) ≡ told_all config w.job
    (begins w.began s) w.inputs
unfolding works_all
one_work config s w = let r = told_all config w.job (begins w.began s) w.inputs in ahead_none r.actions r.state

one_more : (config : SessionConfig) (job : Job) (s : State) (xs : List Moved) (input : Input) (now : ℕ)
    → told_all config job s (xs ++ (input, now) ∷ [])
    ≡ (let r = told_all config job s xs in ahead r.actions (on config job now r.state input))
unfolding told_all
one_more config job s xs input now =
    let r = told_all config job s xs in
    let o = on config job now r.state input in
    told_on config job s xs ((input, now) ∷ []) ∙ ap (λ (t : Ran). ahead r.actions t) (ahead_none o.actions o.state)

-- a session whose last work was told one thing more
pub session_told : (config : SessionConfig) (works : List Begun) (last : Begun) (input : Input) (now : ℕ)
    → session config (works ++ grown last input now ∷ [])
    ≡ (let r = session config (works ++ last ∷ []) in ahead r.actions (on config last.job now r.state input))
unfolding session
session_told config works last input now =
    let s = works_all config (new_state config) works in
    let from = begins last.began s.state in
    let t = told_all config last.job from last.inputs in
    let o = on config last.job now t.state input in
    let whole : session config (works ++ last ∷ []) ≡ ahead s.actions t =
    works_on config (new_state config) works (last ∷ []) ∙ ap (λ (r : Ran). ahead s.actions r) (one_work config s.state last) in
    works_on config (new_state config) works (grown last input now ∷ [])
    ∙ ap (λ (r : Ran). ahead s.actions r) (one_work config s.state (grown last input now)
    ∙ one_more config last.job from last.inputs input now)
    ∙ ahead_twice s.actions t.actions o
    ∙ ap (λ (r : Ran). ahead r.actions (on config last.job now r.state input)) (sym whole)

-- a session of which one more work was begun
pub session_begun : (config : SessionConfig) (works : List Begun) (job : Job) (now : ℕ)
    → session config (works ++ begun job now ∷ []) ≡
    (let r = session config works in record { state = begins now r.state; actions = r.actions })
unfolding session told_all
session_begun config works job now =
    let s = works_all config (new_state config) works in
    works_on config (new_state config) works (begun job now ∷ [])
    ∙ ap (λ (r : Ran). ahead s.actions r) (one_work config s.state (begun job now)) ∙ ahead_none s.actions (begins now s.state)

-- ---- one more input

pub told_last : (before : List Begun) (work : Begun) (x : Moved) → with_input (before ++ work ∷ []) x ≡ before ++ grown work x.0 x.1 ∷ []
unfolding with_input
told_last [] work x = refl
told_last (b ∷ []) work x = refl
told_last (b ∷ c ∷ before) work x = ap (λ (l : List Begun). b ∷ l) (told_last (c ∷ before) work x)

pub drop_front : {A : Type 0} (xs ys : List A) → drop (length xs) (xs ++ ys) ≡ ys
drop_front [] ys = refl
drop_front (x ∷ xs) ys = drop_front xs ys

-- what is wanted more is what the input led to
pub more_is : (d : Driver) (before : List Begun) (work : Begun) (input : Input) (now : ℕ) → d.works ≡ before ++ work ∷ []
    → more d (before ++ grown work input now ∷ [])
    ≡ (on d.config work.job now (session d.config (before ++ work ∷ [])).state input).actions
more_is d before work input now e =
    let a = acts d.config (before ++ work ∷ []) in
    let o = (on d.config work.job now (session d.config (before ++ work ∷ [])).state input).actions in
    ap (λ (w : List Begun). drop (length (acts d.config w)) (acts d.config (before ++ grown work input now ∷ []))) e
    ∙ ap (λ (r : Ran). drop (length a) r.actions) (session_told d.config before work input now)
    ∙ drop_front a o

pub done_more : (config : SessionConfig) (before : List Begun) (work : Begun) (did : List Action) (input : Input) (now : ℕ)
    → DoneIn config before work did
    → DoneIn config before (grown work input now)
    (did ++ (on config work.job now (session config (before ++ work ∷ [])).state input).actions)
done_more config before work did input now h =
    let o = (on config work.job now (session config (before ++ work ∷ [])).state input).actions in
    ap (λ (r : Ran). r.actions) (session_told config before work input now)
    ∙ ap (λ (a : List Action). a ++ o) h ∙ append_assoc (acts config before) did o

pub done_begun : (config : SessionConfig) (before : List Begun) (job : Job) (now : ℕ) → DoneIn config before (begun job now) []
done_begun config before job now = ap (λ (r : Ran). r.actions) (session_begun config before job now) ∙ sym (append-nil (acts config before))

-- ---- what actions leave

pub sent_join : (before : List (List ℕ)) (xs ys : List Action) → sent_since before (xs ++ ys) ≡ sent_since (sent_since before xs) ys
sent_join before [] ys = refl
sent_join before (Connect address ∷ xs) ys = sent_join [] xs ys
sent_join before (Send bytes ∷ xs) ys = sent_join (before ++ bytes ∷ []) xs ys
sent_join before (Close ∷ xs) ys = sent_join before xs ys
sent_join before (Sleep until ∷ xs) ys = sent_join before xs ys
sent_join before (Receive ∷ xs) ys = sent_join before xs ys
sent_join before (Finish result ∷ xs) ys = sent_join before xs ys

pub presented_join : (given : List Value) (xs ys : List Action) → presented given (xs ++ ys) ≡ presented (presented given xs) ys
presented_join given [] ys = refl
presented_join given (Connect address ∷ xs) ys = presented_join given xs ys
presented_join given (Send bytes ∷ xs) ys = presented_join given xs ys
presented_join given (Close ∷ xs) ys = presented_join given xs ys
presented_join given (Sleep until ∷ xs) ys = presented_join given xs ys
presented_join given (Receive ∷ xs) ys = presented_join given xs ys
presented_join given (Finish (Ok done) ∷ xs) ys = presented_join _ xs ys
presented_join given (Finish (Err error) ∷ xs) ys = presented_join given xs ys

pub linked_join : (b : Bool) (xs ys : List Action) → linked_by b (xs ++ ys) ≡ linked_by (linked_by b xs) ys
linked_join b [] ys = refl
linked_join b (Connect address ∷ xs) ys = linked_join true xs ys
linked_join b (Send bytes ∷ xs) ys = linked_join b xs ys
linked_join b (Close ∷ xs) ys = linked_join false xs ys
linked_join b (Sleep until ∷ xs) ys = linked_join b xs ys
linked_join b (Receive ∷ xs) ys = linked_join b xs ys
linked_join b (Finish result ∷ xs) ys = linked_join b xs ys

pub flat_join : (xs ys : List (List ℕ)) → flat_map (λ (b : List ℕ). b) (xs ++ ys)
    ≡ flat_map (λ (b : List ℕ). b) xs ++ flat_map (λ (b : List ℕ). b) ys
flat_join [] ys = refl
flat_join (x ∷ xs) ys = ap (λ (l : List ℕ). x ++ l) (flat_join xs ys) ∙ sym (append_assoc x _ _)

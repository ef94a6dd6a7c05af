-- A session asks to enter behind a request that begins a transaction, and needs the greatest place that it presents.
use Rattle.std.proofs.Common.{◌≡◌, ℕ, ◌≤◌, ◌⊎◌, inl, inr, Bool, true, false, max, List, [], ◌∷◌, ◌++◌, length, map, refl, sym, ap, subst, ◌∙◌, arith}
use Rattle.std.specs.Prelude.{Some, Result, Ok, Err, codes, nat_lt}
use Rattle.std.specs.List.{All, Contains}
use Rattle.std.proofs.lemmas.List.Elements.{All-nil, All-cons, Contains-append_right}
use Rattle.ncc_pack.specs.declared.value.Value.{Value}
use Rattle.ncc_pack.specs.declared.value.Value.TheVariants as v
use Rattle.ncc_bolt.specs.Fields.{Pairs}
use Rattle.ncc_bolt.specs.Reading.{request_at}
use Rattle.ncc_bolt.specs.declared.message.Request.{Request}
use Rattle.ncc_bolt.specs.declared.error.MessageError.{MessageError}
use Rattle.ncc_store.specs.declared.call.Call.{Call}
use Rattle.ncc_session.specs.declared.config.ConnConfig.{ConnConfig}
use Rattle.ncc_session.specs.declared.state.ConnState.{ConnState}
use Rattle.ncc_session.specs.declared.state.ConnState.TheVariants.{Streaming}
use Rattle.ncc_session.specs.declared.checks.Wish.{Wish}
use Rattle.ncc_session.specs.declared.checks.Entrance.{Entrance}
use Rattle.ncc_session.specs.declared.table.Turn.{Turn}
use Rattle.ncc_session.specs.declared.table.Turn.TheVariants as t
use Rattle.ncc_session.specs.Question.{Question, enter, run, leave, route, Row, questions_of}
use Rattle.ncc_session.specs.Core.{Tx, Situation}
use Rattle.ncc_session.specs.Checks.{Checked, and_then, under, mode_of, bookmarks_of, database_of, user_of, few, place_in, greatest_in, need_of}
use Rattle.ncc_session.specs.Checks.{entrance_of, checked_call, wish_of, is_welcome}
use Rattle.ncc_session.specs.Table.{turn_of}
use Rattle.ncc_session.specs.Turns.{freed, tx_in, pulled, may_leave, ends_tx, ends_result, goes_on, pulls_rows, pulls, checked_step}
use Rattle.ncc_session.specs.Turns.{runs_step, runs_entered, runs_alone, begins_one, asks_route, logs_in, answered, taken, left_in, are_left}
use Rattle.ncc_session.specs.Session.{on_message, counted}
use Rattle.ncc_session.specs.Transactions.{beginning, Presents, IsGreatest, Begins}
use Rattle.ncc_session.proofs.Holding.{replies_ask}

-- ---- the greatest place

and_then_ok : {A B : Type 0} (x : Checked A) (f : A → Checked B) (b : B) → and_then x f ≡ Ok b → (a : A) × (x ≡ Ok a) × (f a ≡ Ok b)
and_then_ok (Ok a) f b e = (a, refl, e)
and_then_ok (Err r) f b e = absurd (cc)

abbrev fine : {A : Type 0} → A → Checked A
fine a = Ok a

same_ok : {A : Type 0} (a b : A) → fine a ≡ fine b → a ≡ b
same_ok a b e = cc

all_more : (n m : ℕ) (places : List ℕ) → n ≤ m → All (λ p. p ≤ n) places → All (λ p. p ≤ m) places
all_more n m places le all k d lt = let a = all k d lt in omega arith

one_of_more : (place n m : ℕ) (places : List ℕ) (b : Bool) → nat_lt n place ≡ b → m ≡ max place n
    → Contains places n ⊎ (n ≡ 0) → Contains (place ∷ places) m ⊎ (m ≡ 0)
one_of_more place n m places true e is h =
    let same : place ≡ m = grind arith in
    inl (subst (λ (x : ℕ). Contains (place ∷ places) x) same (0, omega arith, refl))
one_of_more place n m places false e is (inl c) =
    let same : n ≡ m = grind arith in
    inl (subst (λ (x : ℕ). Contains (place ∷ places) x) same (Contains-append_right (place ∷ []) places n c))
one_of_more place n m places false e is (inr z) = inr (grind arith)

-- the greatest of one place and more
greatest_more : (place n : ℕ) (places : List ℕ) → IsGreatest n places → IsGreatest (max place n) (place ∷ places)
greatest_more place n places g = (
  All-cons (λ p. p ≤ max place n) place places (omega arith) (all_more n (max place n) places (omega arith) g.0),
  one_of_more place n (max place n) places (nat_lt n place) refl refl g.1,
)

one_by_one : (x : Checked ℕ) (xs : List (Checked ℕ)) (place : ℕ) (places : List ℕ) → x ≡ Ok place → xs ≡ map Ok places
    → x ∷ xs ≡ map Ok (place ∷ places)
one_by_one x xs place places e es = rw (e, es) refl

greatest_is : (cluster : ℕ) (texts : List Value) (n : ℕ) → greatest_in cluster texts ≡ Ok n
    → (places : List ℕ) × (map (place_in cluster) texts ≡ map Ok places) × IsGreatest n places
greatest_is cluster [] n e = ([], refl, subst (λ (m : ℕ). IsGreatest m []) (same_ok 0 n e) (All-nil (λ p. p ≤ 0), inr refl))
greatest_is cluster (text ∷ texts) n e =
    let p = and_then_ok (place_in cluster text) (λ place. and_then (greatest_in cluster texts) (λ most. Ok (max place most))) n e in
    let q = and_then_ok (greatest_in cluster texts) (λ most. Ok (max p.0 most)) n p.2 in
    let r = greatest_is cluster texts q.0 q.1 in
    let is : max p.0 q.0 ≡ n = same_ok (max p.0 q.0) n q.2 in
    (p.0 ∷ r.0, one_by_one (place_in cluster text) (map (place_in cluster) texts) p.0 r.0 p.1 r.1, subst (λ (m : ℕ). IsGreatest m (p.0 ∷ r.0)) is (greatest_more p.0 q.0 r.0 r.2))

need_is : (cluster : ℕ) (extra : Pairs) (n : ℕ) → need_of cluster (under (codes "bookmarks") extra) extra ≡ Ok n
    → (places : List ℕ) × Presents cluster extra places × IsGreatest n places
need_is cluster extra n e =
    let texts = and_then_ok (bookmarks_of (under (codes "bookmarks") extra)) _ n e in
    let database = and_then_ok (database_of (under (codes "db") extra)) _ n texts.2 in
    let user = and_then_ok (user_of (under (codes "imp_user") extra)) _ n database.2 in
    let count = and_then_ok (few texts.0) _ n user.2 in
    let r = greatest_is cluster texts.0 n count.2 in
    (r.0, (texts.0, texts.1, r.1), r.2)

entrance_is : (cluster : ℕ) (extra : Pairs) (entrance : Entrance) → entrance_of cluster extra ≡ Ok entrance
    → (places : List ℕ) × Presents cluster extra places × IsGreatest entrance.need places
entrance_is cluster extra entrance e =
    let write = and_then_ok (mode_of (under (codes "mode") extra)) _ entrance e in
    let need = and_then_ok (need_of cluster (under (codes "bookmarks") extra) extra) _ entrance write.2 in
    let is : need.0 ≡ entrance.need = ap (λ (x : Entrance). x.need) (same_ok _ entrance need.2) in
    let r = need_is cluster extra need.0 need.1 in
    (r.0, r.1, subst (λ (m : ℕ). IsGreatest m r.0) is r.2)

-- ---- what does not ask to enter

abbrev NotEnter : List Question → Type 0
NotEnter questions = (need : ℕ) → questions ≡ enter need ∷ [] → ⊥

none_asked : NotEnter []
none_asked need e = absurd (cc)

leaves_not : (place : Situation) (tx : Tx) (may : Bool) → may_leave tx.steps tx.told ≡ may → NotEnter (questions_of (ends_tx place tx).written)
leaves_not place tx false e need = rw (e, ends_tx) (none_asked need)
leaves_not place tx true e need = rw (e, ends_tx) (λ (h : leave tx.steps tx.told ∷ [] ≡ enter need ∷ []). absurd (cc))

result_not : (place : Situation) (state : ConnState) (tx : Tx) (number : ℕ) → NotEnter (questions_of (ends_result place state tx number).written)
result_not place Streaming tx number need = leaves_not place tx (may_leave tx.steps tx.told) refl need
result_not place _ tx number need = none_asked need

on_not : (place : Situation) (tx : Tx) (number : ℕ) (more : Bool) → NotEnter (questions_of (goes_on place tx number more).written)
on_not place tx number true need = none_asked need
on_not place tx number false need = result_not place place.state tx number need

rows_not : (place : Situation) (tx : Tx) (keep : Bool) (wish : Wish) (rows : List Row) (more : Bool)
    → NotEnter (questions_of (pulls_rows place tx keep wish rows more).written)
rows_not place tx keep wish rows more need e =
    let after : Tx = pulled tx wish (length rows) more in
    on_not place after wish.number more need (sym (replies_ask keep rows (goes_on place after wish.number more).written) ∙ e)

pulls_not : (place : Situation) (tx : Tx) (keep : Bool) (extra : Pairs) (wish : Checked Wish) → wish_of tx.results extra ≡ wish
    → NotEnter (questions_of (pulls place tx keep extra).written)
pulls_not place tx keep extra (Err refusal) e need = rw (e, pulls) (none_asked need)
pulls_not place tx keep extra (Ok wish) e need =
    rw (e, pulls) (rows_not place tx keep wish (taken wish.count (left_in tx wish)) (are_left wish.count (left_in tx wish)) need)

step_not : (place : Situation) (tx : Tx) (query : List ℕ) (params : Pairs) (call : Checked Call) → checked_step tx query params ≡ call
    → NotEnter (questions_of (runs_step place tx query params).written)
step_not place tx query params (Err refusal) e need = rw (e, runs_step) (none_asked need)
step_not place tx query params (Ok call) e need =
    rw (e, runs_step) (λ (h : run (tx.steps ++ call ∷ []) ∷ [] ≡ enter need ∷ []). absurd (cc))

route_not : (config : ConnConfig) (place : Situation) (bookmarks : List Value) (extra : Pairs) (need : Checked ℕ)
    → need_of config.members.cluster (Some (v.List bookmarks)) extra ≡ need
    → NotEnter (questions_of (asks_route config place bookmarks extra).written)
route_not config place bookmarks extra (Err refusal) e need = rw (e, asks_route) (none_asked need)
route_not config place bookmarks extra (Ok at) e need = rw (e, asks_route) (λ (h : route ∷ [] ≡ enter need ∷ []). absurd (cc))

login_not : (config : ConnConfig) (place : Situation) (extra : Pairs) (welcome : Bool) → is_welcome config.auth extra ≡ welcome
    → NotEnter (questions_of (logs_in config place extra).written)
login_not config place extra true e need = rw (e, logs_in) (none_asked need)
login_not config place extra false e need = rw (e, logs_in) (none_asked need)

-- ---- what does

abbrev Needs : ℕ → Pairs → ℕ → Type 0
Needs cluster extra need = (places : List ℕ) × Presents cluster extra places × IsGreatest need places

same_need : (a b : ℕ) → enter a ∷ [] ≡ enter b ∷ [] → a ≡ b
same_need a b e = cc

entered_needs : (cluster : ℕ) (place : Situation) (query : List ℕ) (params extra : Pairs) (entrance : Entrance) (call : Checked Call) (need : ℕ)
    → checked_call entrance.write query params ≡ call → entrance_of cluster extra ≡ Ok entrance
    → questions_of (runs_entered place query params entrance).written ≡ enter need ∷ [] → Needs cluster extra need
entered_needs cluster place query params extra entrance (Err refusal) need e en h = absurd (none_asked need (rw (e, runs_entered) at h))
entered_needs cluster place query params extra entrance (Ok call) need e en h =
    let is : entrance.need ≡ need = same_need entrance.need need (rw (e, runs_entered) at h) in
    subst (Needs cluster extra) is (entrance_is cluster extra entrance en)

alone_needs : (config : ConnConfig) (place : Situation) (query : List ℕ) (params extra : Pairs) (entrance : Checked Entrance) (need : ℕ)
    → entrance_of config.members.cluster extra ≡ entrance
    → questions_of (runs_alone config place query params extra).written ≡ enter need ∷ [] → Needs config.members.cluster extra need
alone_needs config place query params extra (Err refusal) need e h = absurd (none_asked need (rw (e, runs_alone) at h))
alone_needs config place query params extra (Ok entrance) need e h =
    entered_needs config.members.cluster place query params extra entrance (checked_call entrance.write query params) need refl e
    (rw (e, runs_alone) at h)

begin_needs : (config : ConnConfig) (place : Situation) (extra : Pairs) (entrance : Checked Entrance) (need : ℕ)
    → entrance_of config.members.cluster extra ≡ entrance
    → questions_of (begins_one config place extra).written ≡ enter need ∷ [] → Needs config.members.cluster extra need
begin_needs config place extra (Err refusal) need e h = absurd (none_asked need (rw (e, begins_one) at h))
begin_needs config place extra (Ok entrance) need e h =
    let is : entrance.need ≡ need = same_need entrance.need need (rw (e, begins_one) at h) in
    subst (Needs config.members.cluster extra) is (entrance_is config.members.cluster extra entrance e)

turn_needs : (config : ConnConfig) (place : Situation) (turn : Turn) (need : ℕ)
    → questions_of (answered config place turn).written ≡ enter need ∷ []
    → (extra : Pairs) × (beginning turn ≡ Some extra) × Needs config.members.cluster extra need
turn_needs config place (t.Run query params extra) need h = (extra, refl, alone_needs config place query params extra (entrance_of config.members.cluster extra) need refl h)
turn_needs config place (t.Begin extra) need h = (extra, refl, begin_needs config place extra (entrance_of config.members.cluster extra) need refl h)
turn_needs config place (t.Rows extra keep) need h =
    absurd (pulls_not (freed place) (tx_in place.doing) keep extra (wish_of (tx_in place.doing).results extra) refl need h)
turn_needs config place (t.Step query params) need h = absurd (step_not (freed place) (tx_in place.doing) query params (checked_step (tx_in place.doing) query params) refl need h)
turn_needs config place t.Commit need h = absurd (leaves_not (freed place) (tx_in place.doing) (may_leave (tx_in place.doing).steps (tx_in place.doing).told) refl need h)
turn_needs config place (t.Route bookmarks extra) need h = absurd (route_not config place bookmarks extra (need_of config.members.cluster (Some (v.List bookmarks)) extra) refl need h)
turn_needs config place (t.Login extra) need h = absurd (login_not config place extra (is_welcome config.auth extra) refl need h)
turn_needs config place t.HelloExpected need h = absurd (none_asked need h)
turn_needs config place t.End need h = absurd (none_asked need h)
turn_needs config place t.Reset need h = absurd (none_asked need h)
turn_needs config place t.Ignore need h = absurd (none_asked need h)
turn_needs config place t.Rollback need h = absurd (none_asked need h)
turn_needs config place t.OutOfPlace need h = absurd (none_asked need h)

message_needs : (config : ConnConfig) (place : Situation) (message : List ℕ) (need : ℕ) (read : Result Request MessageError)
    → request_at message ≡ read → questions_of (on_message config place message).written ≡ enter need ∷ []
    → (places : List ℕ) × Begins config place message places × IsGreatest need places
message_needs config place message need (Err cause) e h = absurd (none_asked need (rw (e, on_message) at h))
message_needs config place message need (Ok request) e h =
    let n = turn_needs config (counted place) (turn_of place.state request) need (rw (e, on_message) at h) in (
      n.2.0,
      record { request = request; extra = n.0; reads = e; begins = n.1; presents = n.2.1 },
      n.2.2,
    )

pub needs_the_greatest : (config : ConnConfig) (place : Situation) (message : List ℕ) (need : ℕ)
    → questions_of (on_message config place message).written ≡ enter need ∷ []
    → (places : List ℕ) × Begins config place message places × IsGreatest need places
needs_the_greatest config place message need h = message_needs config place message need (request_at message) refl h

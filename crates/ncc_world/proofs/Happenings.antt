-- The facts of a run: each was told at a moment of the event of its line, by a turn.
use Rattle.std.proofs.Common.{◌≡◌, ℕ, zero, suc, ◌-◌, ◌<◌, Option, List, [], ◌∷◌, ◌++◌, length, take, Some, inl}
use Rattle.std.proofs.Common.{inr, ◌⊎◌}
use Rattle.std.proofs.Common.{refl, ap, sym, ◌∙◌, arith, subst, append_assoc}
use Rattle.std.proofs.lemmas.List.{take-append-le, take_at}
use Rattle.std.specs.Prelude.{slice_get}
use Rattle.ncc_tx.specs.declared.entry.Entry.{Entry}
use Rattle.ncc_session.specs.declared.ask.Fact.{Fact}
use Rattle.ncc_session.specs.declared.ask.Fact.TheVariants.{Elsewhere, Full}
use Rattle.ncc_session.specs.Question.{Question}
use Rattle.ncc_clients.specs.declared.told.Told.{Told}
use Rattle.ncc_clients.specs.Members.{Cluster, Proposed, elsewhere, full, placed}
use Rattle.ncc_clients.specs.Run.{Client, Reply, waits, tells, proposes, question_of, reply, told_to, proposed}
use Rattle.ncc_clients.specs.Turn.{Turn, Turns, Settles, Here as Ends, Then as Turning, Does}
use Rattle.ncc_clients.specs.Drives.{driver_at, up_at, less, rises, descends, Pumps, Pumping, Rests, Stops, Lifts, Falls, Rising, Risen, Fallen}
use Rattle.ncc_clients.specs.Moment.{Path, Here, IsOpen, Proposes}
use Rattle.ncc_clients.specs.Laws.{IsAnswered, EachFactIsLawful}
use Rattle.ncc_world.specs.declared.setup.Setup.{Setup}
use Rattle.ncc_world.specs.declared.event.Event.{Event}
use Rattle.ncc_world.specs.Setting.{cluster_of, Seats, seats_of}
use Rattle.ncc_world.specs.Events.{CountsSome}
use Rattle.ncc_world.specs.Happening.{WorldRun, start_of, own, Passes, Happens, RunsOn, Within}
use Rattle.ncc_world.specs.Headline.{IsLawful, FactsAreLawful}
use Rattle.ncc_world.proofs.Settling.{path_through, Asking, asking, told_waits, proposed_waits}
use Rattle.ncc_world.proofs.Silent.{Leads, rises_leads, descends_leads}
use Rattle.ncc_world.proofs.Pumping.{some_up, counts_less}
use Rattle.ncc_world.proofs.Moments.{Ways, Kind, pumps, plain, kind_of, own_leads, runs_more, moment_from}

-- a fact as it was told: all that a lawful one has, and the way from there
record IsTold (s : Setup) (es : List (ℕ × Event)) (r : WorldRun) (earlier : List Told) (t : Told) : Type 0 where
  moment : WorldRun
  within : Within s es t.line moment
  told_then : moment.told ≡ earlier
  index : ℕ
  client : Client
  there : IsOpen moment index client
  number : client.number ≡ t.conn
  question : Question
  asks : question_of (cluster_of s) client ≡ Some question
  answered : IsAnswered (cluster_of s) moment index client t.fact
  turn : Turn (cluster_of s) t.line moment (told_to t.line moment index client t.fact)
  since : Path (cluster_of s) (told_to t.line moment index client t.fact) r

abbrev AllTold : Setup → List (ℕ × Event) → WorldRun → Type 0
AllTold s es r = (k : ℕ) (t : Told) → slice_get r.told k ≡ Some t → IsTold s es r (take k r.told) t

-- later it was still told so
told_on : (s : Setup) (es : List (ℕ × Event)) (r u : WorldRun) (earlier : List Told) (t : Told) → Path (cluster_of s) r u
    → IsTold s es r earlier t → IsTold s es u earlier t
told_on s es r u earlier t p h = record {
  moment = h.moment;
  within = h.within;
  told_then = h.told_then;
  index = h.index;
  client = h.client;
  there = h.there;
  number = h.number;
  question = h.question;
  asks = h.asks;
  answered = h.answered;
  turn = h.turn;
  since = path_through (cluster_of s) (told_to t.line h.moment h.index h.client t.fact) r u h.since p;
}

all_told_on : (s : Setup) (es : List (ℕ × Event)) (r u : WorldRun) → Path (cluster_of s) r u → u.told ≡ r.told → AllTold s es r
    → AllTold s es u
all_told_on s es r u p e h = λ k t g.
    let there : slice_get r.told k ≡ Some t = subst (λ ts. slice_get ts k ≡ Some t) e g in
    let here : IsTold s es u (take k r.told) t = told_on s es r u (take k r.told) t p (h k t there) in
    subst (λ ts. IsTold s es u (take k ts) t) (sym e) here

-- ---- one fact more

get_push : {X : Type 0} (xs : List X) (y : X) (i : ℕ) (x : X) → slice_get (xs ++ (y ∷ [])) i ≡ Some x
    → ((slice_get xs i ≡ Some x) × (i < length xs)) ⊎ ((i ≡ length xs) × (y ≡ x))
get_push [] y zero x e = inr (refl, cc)
get_push [] y (suc i) x e = absurd (cc)
get_push (z ∷ xs) y zero x e = inl (e, omega arith)
get_push (z ∷ xs) y (suc i) x e = elim (get_push xs y i x e) [
  | inl h ↦ inl (h.0, omega (arith, h.1))
  | inr h ↦ inr (omega (arith, h.0), h.1)
]

-- what makes a fact told at a moment: its connection asks, and is answered by it
record Answers (s : Setup) (line : ℕ) (m : WorldRun) (i : ℕ) (c : Client) (fact : Fact) : Type 0 where
  there : IsOpen m i c
  question : Question
  asks : question_of (cluster_of s) c ≡ Some question
  answered : IsAnswered (cluster_of s) m i c fact
  turn : Turn (cluster_of s) line m (told_to line m i c fact)

last_told : (s : Setup) (es : List (ℕ × Event)) (line : ℕ) (m : WorldRun) (i : ℕ) (c : Client) (fact : Fact) → Within s es line m
    → Answers s line m i c fact
    → IsTold s es (told_to line m i c fact) m.told (record { line = line; conn = c.number; fact = fact })
last_told s es line m i c fact w a = record {
  moment = m;
  within = w;
  told_then = refl;
  index = i;
  client = c;
  there = a.there;
  number = refl;
  question = a.question;
  asks = a.asks;
  answered = a.answered;
  turn = a.turn;
  since = Here (told_to line m i c fact);
}

one_more : (s : Setup) (es : List (ℕ × Event)) (line : ℕ) (m : WorldRun) (i : ℕ) (c : Client) (fact : Fact) → Within s es line m
    → Answers s line m i c fact → Path (cluster_of s) m (told_to line m i c fact) → AllTold s es m → AllTold s es (told_to line m i c fact)
one_more s es line m i c fact w a p h = λ k t g. go k t (get_push m.told new k t g) where
  new : Told
  new = record { line = line; conn = c.number; fact = fact }

  go : (k : ℕ) (t : Told) → ((slice_get m.told k ≡ Some t) × (k < length m.told)) ⊎ ((k ≡ length m.told) × (new ≡ t))
      → IsTold s es (told_to line m i c fact) (take k (m.told ++ (new ∷ []))) t
  go k t (inl g) =
      let front : take k (m.told ++ (new ∷ [])) ≡ take k m.told = take-append-le k m.told (new ∷ []) (omega (arith, g.1)) in
      subst (λ ts. IsTold s es (told_to line m i c fact) ts t) (sym front)
      (told_on s es m (told_to line m i c fact) (take k m.told) t p (h k t g.0))
  go k t (inr g) =
      let front : take k (m.told ++ (new ∷ [])) ≡ m.told = take_at m.told (new ∷ []) k (sym g.0) in
      let here : IsTold s es (told_to line m i c fact) m.told t =
      subst (λ x. IsTold s es (told_to line m i c fact) m.told x) g.1 (last_told s es line m i c fact w a) in
      subst (λ ts. IsTold s es (told_to line m i c fact) ts t) (sym front) here

-- ---- a turn

turn_told : (s : Setup) (es : List (ℕ × Event)) (line : ℕ) (m u : WorldRun) → Within s es line m → Path (cluster_of s) m u
    → Turn (cluster_of s) line m u → AllTold s es m → AllTold s es u
turn_told s es line m u w p h all =
    by_reply (reply (cluster_of s) m h.client) refl h.does
  where
    -- a fact is told
    by_fact : (fact : Fact) → u ≡ told_to line m h.index h.client fact → Asking (cluster_of s) m h.index h.client
        → IsAnswered (cluster_of s) m h.index h.client fact → AllTold s es u
    by_fact fact e a d =
        let turn : Turn (cluster_of s) line m (told_to line m h.index h.client fact) = subst (λ x. Turn (cluster_of s) line m x) e h in
        let path : Path (cluster_of s) m (told_to line m h.index h.client fact) = subst (λ x. Path (cluster_of s) m x) e p in
        subst (λ x. AllTold s es x) (sym e)
        (one_more s es line m h.index h.client fact w
        (record { there = a.there; question = a.question; asks = a.asks; answered = d; turn = turn }) path all)

    by_proposal : (entry : Entry) → Proposes (cluster_of s) m h.index h.client entry → Asking (cluster_of s) m h.index h.client
        → (q : Proposed Seats) → (cluster_of s).propose m.members h.client.member entry ≡ q
        → u ≡ proposed (cluster_of s) line m h.index h.client q → AllTold s es u
    by_proposal entry d a elsewhere e g = by_fact Elsewhere g a (inr (entry, d, e))
    by_proposal entry d a (full entries) e g = by_fact (Full entries) g a (inr (entry, d, e))
    by_proposal entry d a (placed place term after) e g = all_told_on s es m u p (ap (λ (x : WorldRun). x.told) g) all

    by_reply : (q : Reply) → reply (cluster_of s) m h.client ≡ q → Does (cluster_of s) line m h.index h.client q u → AllTold s es u
    by_reply waits e d = absurd d
    by_reply (tells fact) e d =
        let no : reply (cluster_of s) m h.client ≡ waits → ⊥ = told_waits (reply (cluster_of s) m h.client) fact e in
        let a : Asking (cluster_of s) m h.index h.client = asking (cluster_of s) m h.index h.client h.there no in
        by_fact fact d a (inl (a.there, e))
    by_reply proposes e d =
        let no : reply (cluster_of s) m h.client ≡ waits → ⊥ = proposed_waits (reply (cluster_of s) m h.client) e in
        let a : Asking (cluster_of s) m h.index h.client = asking (cluster_of s) m h.index h.client h.there no in
        by_proposal d.0 (record { there = a.there; replies = e; entry_is = d.1 }) a
        ((cluster_of s).propose m.members h.client.member d.0) refl d.2

-- ---- turns, events, and the whole run

-- each moment from this one on, on the way of turns
abbrev TurnsWithin : Setup → List (ℕ × Event) → ℕ → WorldRun → Type 0
TurnsWithin s es line m = (n : WorldRun) → Turns (cluster_of s) line m n → Within s es line n

turns_told : (s : Setup) → Ways s → (es : List (ℕ × Event)) (line : ℕ) (m u : WorldRun) → TurnsWithin s es line m
    → Turns (cluster_of s) line m u → AllTold s es m → AllTold s es u
turns_told s ways es line m u w (Ends _) all = all
turns_told s ways es line m u w (Turning _ n _ first rest) all =
    let C : Cluster Seats = cluster_of s in
    let path : Path C m n = ways.small line m n (Turning m n n first (Ends n)) in
    turns_told s ways es line n u (λ o q. w o (Turning m n o first q)) rest (turn_told s es line m n (w m (Ends m)) path first all)

leads_told : (s : Setup) (es : List (ℕ × Event)) (r u : WorldRun) → Leads (cluster_of s) r u → AllTold s es r → AllTold s es u
leads_told s es r u h all = all_told_on s es r u h.path h.told all

-- each moment from this one on, where all moves that waits
abbrev PumpsWithin : Setup → List (ℕ × Event) → (line k : ℕ) → Option ℕ → WorldRun → Type 0
PumpsWithin s es line k limit r = (m : WorldRun) → Pumping (cluster_of s) line k limit r m → Within s es line m

module _ (s : Setup) (ways : Ways s) (es : List (ℕ × Event)) (line k : ℕ) where
  risen_told : (limit : Option ℕ) (r t : WorldRun) → (up_at (driver_at r k) ≡ [] → ⊥) → PumpsWithin s es line k limit r
      → Settles (cluster_of s) line (rises (cluster_of s) k limit r) t → AllTold s es r → AllTold s es t
  risen_told limit r t some w h all =
      let C : Cluster Seats = cluster_of s in
      let up : WorldRun = rises C k limit r in
      turns_told s ways es line up t (λ n q. w n (Rising limit r n some q)) h.turns
      (leads_told s es r up (rises_leads C line k limit r) all)

  pumps_told : (limit : Option ℕ) (r t : WorldRun) → CountsSome limit → PumpsWithin s es line k limit r
      → Pumps (cluster_of s) line k limit r t → AllTold s es r → AllTold s es t
  pumps_told limit r _ counts w (Rests _ _ up down) all = all
  pumps_told limit r t counts w (Stops _ _ _ reached h) all =
      risen_told limit r t (some_up limit counts (up_at (driver_at r k)) reached) w h all
  pumps_told limit r t counts w (Lifts _ _ m _ some more h p) all =
      let up = up_at (driver_at r k) in
      pumps_told (less limit up) m t (counts_less limit counts up more) (λ n q. w n (Risen limit r m n some more h q)) p
      (risen_told limit r m some w h all)
  pumps_told limit r t counts w (Falls _ _ _ none some p) all =
      let C : Cluster Seats = cluster_of s in
      let down : WorldRun = descends C line k r in
      pumps_told limit down t counts (λ n q. w n (Fallen limit r n none some q)) p
      (leads_told s es r down (descends_leads C line k r) all)

-- an event
happens_told : (s : Setup) → Ways s → (es : List (ℕ × Event)) (line : ℕ) (event : Event) → Kind event → (r t : WorldRun)
    → ((m : WorldRun) → Passes s line event r m → Within s es line m) → Happens s line event r t → AllTold s es r → AllTold s es t
happens_told s ways es line _ (pumps session requests) r t w h all =
    let k : ℕ = session - 1 in
    let moved : AllTold s es h.stepped =
    pumps_told s ways es line k requests r h.stepped h.steps.0 (λ m p. w m (h.steps.0, inl p)) h.steps.1 all in
    turns_told s ways es line h.stepped t (λ n q. w n (h.steps.0, inr (h.stepped, h.steps.1, q))) h.settles.turns moved
happens_told s ways es line event (plain _ same out in_) r t w h all =
    let u : WorldRun = own s line event r in
    let moved : AllTold s es u = leads_told s es r u (own_leads s line event r h.allowed) all in
    let settles : Turns (cluster_of s) line u t = subst (λ x. Turns (cluster_of s) line x t) (same s line r h.stepped h.steps) h.settles.turns in
    turns_told s ways es line u t (λ n q. w n (in_ s line r n q)) settles moved

runs_told : (s : Setup) → Ways s → (es before behind : List (ℕ × Event)) (r end : WorldRun) → es ≡ before ++ behind
    → RunsOn s before (start_of s) r → AllTold s es r → RunsOn s behind r end → AllTold s es end
runs_told s ways es before [] r end e ran all h = subst (λ x. AllTold s es x) h all
runs_told s ways es before (f ∷ behind) r end e ran all h =
    let w : (m : WorldRun) → Passes s f.0 f.1 r m → Within s es f.0 m = λ m q.
    record {
      before = before;
      event = f.1;
      behind = behind;
      events_are = e;
      from = r;
      ran = ran;
      allowed = h.1.allowed;
      passes = q;
    } in
    let settled : AllTold s es h.0 = happens_told s ways es f.0 f.1 (kind_of f.1) r h.0 w h.1 all in
    runs_told s ways es (before ++ (f ∷ [])) behind h.0 end (e ∙ sym (append_assoc before (f ∷ []) behind))
    (runs_more s before f (start_of s) r h.0 ran h.1) settled h.2

pub facts_are_lawful : (s : Setup) → Ways s → (es : List (ℕ × Event)) (end : WorldRun) → RunsOn s es (start_of s) end
    → EachFactIsLawful (cluster_of s) (seats_of s) end → FactsAreLawful s es end
facts_are_lawful s ways es end h lawful = λ k t e. of (take k end.told) t (all k t e) where
  all : AllTold s es end
  all = runs_told s ways es [] es (start_of s) end refl refl (λ k t e. absurd (cc)) h

  of : (earlier : List Told) (t : Told) → IsTold s es end earlier t → IsLawful s es end earlier t
  of earlier t g = record {
    moment = g.moment;
    within = g.within;
    told_then = g.told_then;
    index = g.index;
    client = g.client;
    there = g.there;
    number = g.number;
    question = g.question;
    asks = g.asks;
    answered = g.answered;
    turn = g.turn;
    lawful = lawful t.line g.moment g.index g.client g.question t.fact (moment_from s ways es t.line g.moment g.within) g.answered g.asks
        g.since;
  }

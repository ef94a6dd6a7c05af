-- What the pieces of an election make is what its rules say.
use Rattle.std.proofs.Common.{◌≡◌, ℕ, ◌+◌, ◌-◌, ◌<◌, ◌≤◌, Bool, true, false, List, [], ◌∷◌, ◌++◌, length, Option, Some, refl, sym, ap}
use Rattle.std.proofs.Common.{◌∙◌, subst}
use Rattle.std.specs.Prelude.{map, nat_eq, ◌&&◌, replicate, slice_index_or, slice_set}
use Rattle.std.proofs.lemmas.Bool.{le-ltb, lt-ltb}
use Rattle.ncc_tx.specs.declared.entry.ChangeSet.{ChangeSet}
use Rattle.ncc_tx.specs.declared.entry.Item.{Item}
use Rattle.ncc_tx.specs.Kept.{Leads}
use Rattle.ncc_raft.specs.declared.message.Body.TheVariants.{VoteReply}
use Rattle.ncc_raft.specs.declared.message.Envelope.{Envelope}
use Rattle.ncc_raft.specs.declared.message.Note.TheVariants.{Nothing, TermsSpent}
use Rattle.ncc_raft.specs.declared.message.RaftRole.TheVariants.{Leader, Candidate}
use Rattle.ncc_raft.specs.declared.message.Step.{Step}
use Rattle.ncc_raft.specs.declared.state.Seat as held
use Rattle.ncc_raft.specs.declared.state.Standing.{Standing}
use Rattle.ncc_raft.specs.declared.state.State.{State}
use Rattle.ncc_raft.specs.Fronts.{elects_of}
use Rattle.ncc_raft.specs.Member.{Seat, Member, Outcome, cores_of, is_candidate, is_leader, letter, majority, notes, sends, still}
use Rattle.ncc_raft.specs.Elections.{ask_to, asks, counted, is_elected, is_spent, may_vote, timed_out, voted, won}
use Rattle.ncc_raft.specs.Appending.{appends}
use Rattle.ncc_raft.specs.State.{IsSoundAt, Made, Stood, appends_of, asks_of, at, may_vote_of, member_of, noop_for, seat_of, timeout_of}
use Rattle.ncc_raft.specs.State.{vote_ask_of, vote_reply_of, won_of}
use Rattle.std.proofs.lemmas.List.{append-nil}
use Rattle.ncc_tx.specs.declared.entry.Entry.TheVariants.{Noop}
use Rattle.ncc_raft.proofs.Cores.{map_more}
use Rattle.ncc_raft.specs.Step.{on_timeout, on_vote_ask, on_vote_reply, tallied, vote_reply}
use Rattle.ncc_raft.proofs.Stands.{from_stood, pick}
use Rattle.ncc_raft.proofs.Appended.{one_item}

pub timeout_leads : (seat : Seat) (m : Member) → is_leader m.role ≡ true → on_timeout seat m ≡ still m
timeout_leads seat m e = ap (λ (b : Bool). pick b (still m) (pick (is_spent m) (notes m TermsSpent)
    (sends (timed_out seat m) (asks seat (timed_out seat m))))) e

pub timeout_spent : (seat : Seat) (m : Member) → is_leader m.role ≡ false → is_spent m ≡ true → on_timeout seat m ≡ notes m TermsSpent
timeout_spent seat m e f =
    ap (λ (b : Bool). pick b (still m) (pick (is_spent m) (notes m TermsSpent) (sends (timed_out seat m) (asks seat (timed_out seat m))))) e
    ∙ ap (λ (b : Bool). pick b (notes m TermsSpent) (sends (timed_out seat m) (asks seat (timed_out seat m)))) f

pub timeout_stands : (seat : Seat) (m : Member) → is_leader m.role ≡ false → is_spent m ≡ false →
    on_timeout seat m ≡ sends (timed_out seat m) (asks seat (timed_out seat m))
timeout_stands seat m e f =
    ap (λ (b : Bool). pick b (still m) (pick (is_spent m) (notes m TermsSpent) (sends (timed_out seat m) (asks seat (timed_out seat m))))) e
    ∙ ap (λ (b : Bool). pick b (notes m TermsSpent) (sends (timed_out seat m) (asks seat (timed_out seat m)))) f

pub vote_yes : (seat : Seat) (m : Member) (from t place last : ℕ) → may_vote m from t place last ≡ true →
    on_vote_ask seat m from t place last ≡ sends (voted m from) (vote_reply seat m from true ∷ [])
vote_yes seat m from t place last e =
    ap (λ (b : Bool). pick b (sends (voted m from) (vote_reply seat m from true ∷ [])) (sends m (vote_reply seat m from false ∷ []))) e

pub vote_no : (seat : Seat) (m : Member) (from t place last : ℕ) → may_vote m from t place last ≡ false →
    on_vote_ask seat m from t place last ≡ sends m (vote_reply seat m from false ∷ [])
vote_no seat m from t place last e =
    ap (λ (b : Bool). pick b (sends (voted m from) (vote_reply seat m from true ∷ [])) (sends m (vote_reply seat m from false ∷ []))) e

abbrev pub asked : Member → ℕ → Bool → Bool
asked m t granted = is_candidate m.role && nat_eq m.term t && granted

pub reply_other : (seat : Seat) (m : Member) (from t : ℕ) (granted : Bool) → asked m t granted ≡ false →
    on_vote_reply seat m from t granted ≡ still m
reply_other seat m from t granted e = ap (λ (b : Bool). pick b (tallied seat (counted m from)) (still m)) e

pub reply_counts : (seat : Seat) (m : Member) (from t : ℕ) (granted : Bool) → asked m t granted ≡ true → is_elected seat
    (counted m from) ≡ false →
    on_vote_reply seat m from t granted ≡ still (counted m from)
reply_counts seat m from t granted e f =
    ap (λ (b : Bool). pick b (tallied seat (counted m from)) (still m)) e
    ∙ ap (λ (b : Bool). pick b (sends (won seat (counted m from)) (appends seat (won seat (counted m from)))) (still (counted m from))) f

pub reply_wins : (seat : Seat) (m : Member) (from t : ℕ) (granted : Bool) → asked m t granted ≡ true → is_elected seat (counted m from)
    ≡ true →
    on_vote_reply seat m from t granted ≡ sends (won seat (counted m from)) (appends seat (won seat (counted m from)))
reply_wins seat m from t granted e f =
    ap (λ (b : Bool). pick b (tallied seat (counted m from)) (still m)) e
    ∙ ap (λ (b : Bool). pick b (sends (won seat (counted m from)) (appends seat (won seat (counted m from)))) (still (counted m from))) f

pub asks_none : (seat : Seat) (m : Member) → [] ≡ map (ask_to seat m) (cores_of 0)
asks_none seat m = refl

pub asks_more : (seat : Seat) (m : Member) (i : ℕ) (out : List Envelope) (e : Envelope) → out ≡ map (ask_to seat m) (cores_of i) → e
    ≡ ask_to seat m (i + 1) →
    out ++ e ∷ [] ≡ map (ask_to seat m) (cores_of (i + 1))
asks_more seat m i out e a b =
    ap (λ (l : List Envelope). l ++ e ∷ []) a ∙ ap (λ (x : Envelope). map (ask_to seat m) (cores_of i) ++ x ∷ []) b ∙ sym
    (map_more (ask_to seat m) i)

pub asks_all : (seat : held.Seat) (st : Standing) (s : State) (i : ℕ) (out : List Envelope) → i ≡ seat.cores →
    out ≡ map (ask_to (seat_of seat) (at st (member_of s))) (cores_of i) → out ≡ asks_of seat st s
unfolding asks_of
asks_all seat st s i out e a = a ∙ ap (λ (n : ℕ). map (ask_to (seat_of seat) (at st (member_of s))) (cores_of n)) e

pub timeout_leads_made : (seat : held.Seat) (old new : State) (s : Step) (b : Bool) → Stood old new old.standing [] Nothing s →
    b ≡ is_leader old.standing.role → b ≡ true → Made old new (timeout_of seat old) s
unfolding timeout_of
timeout_leads_made seat old new s b x e t =
    from_stood old old new old.standing [] Nothing s (on_timeout (seat_of seat) (member_of old)) x refl (timeout_leads (seat_of seat)
    (member_of old) (sym e ∙ t))

pub timeout_spent_made : (seat : held.Seat) (old new : State) (s : Step) (b : Bool) → Stood old new old.standing [] TermsSpent s →
    b ≡ is_leader old.standing.role → b ≡ false → 4_611_686_018_427_387_904 < old.standing.term + 2 → Made old new (timeout_of seat old) s
unfolding timeout_of
timeout_spent_made seat old new s b x e t lt =
    from_stood old old new old.standing [] TermsSpent s (on_timeout (seat_of seat) (member_of old)) x refl
    (timeout_spent (seat_of seat) (member_of old) (sym e ∙ t) (lt-ltb 4_611_686_018_427_387_904 (old.standing.term + 2) lt))

pub timeout_made : (seat : held.Seat) (old new : State) (s : Step) (b : Bool) (v : List Bool) (out : List Envelope) →
    Stood (record old { votes = v }) new
    (record { term = old.standing.term + 1; vote = seat.id; role = Candidate; leader = 0 }) out Nothing s →
    v ≡ replicate seat.cores false → out ≡ asks_of seat
    (record { term = old.standing.term + 1; vote = seat.id; role = Candidate; leader = 0 }) old →
    b ≡ is_leader old.standing.role → b ≡ false → old.standing.term + 2 ≤ 4_611_686_018_427_387_904 → Made old new (timeout_of seat old) s
unfolding timeout_of asks_of
timeout_made seat old new s b v out x ev eo e t le =
    let st : Standing = record { term = old.standing.term + 1; vote = seat.id; role = Candidate; leader = 0 } in
    let f : on_timeout (seat_of seat) (member_of old) ≡ sends (timed_out (seat_of seat) (member_of old))
    (asks (seat_of seat) (timed_out (seat_of seat) (member_of old))) =
    timeout_stands (seat_of seat) (member_of old) (sym e ∙ t) (le-ltb 4_611_686_018_427_387_904 (old.standing.term + 2) le) in
    let g : sends (timed_out (seat_of seat) (member_of old)) (asks (seat_of seat) (timed_out (seat_of seat) (member_of old)))
    ≡ record { member = at st (member_of (record old { votes = v })); sent = out; note = Nothing } =
    λ i. record { member = record (at st (member_of old)) { votes = (sym ev) i }; sent = (sym eo) i; note = Nothing } in
    from_stood old (record old { votes = v }) new st out Nothing s (on_timeout (seat_of seat) (member_of old)) x refl (f ∙ g)

pub vote_yes_made : (seat : held.Seat) (st : Standing) (old new : State) (from t place last : ℕ) (s : Step) (b : Bool)
    (out : List Envelope) →
    Stood old new (record { term = st.term; vote = from; role = st.role; leader = st.leader }) out Nothing s →
    out ≡ letter seat.id from (VoteReply st.term b) ∷ [] → b ≡ may_vote_of st old from t place last → b ≡ true →
    Made old new (vote_ask_of seat st old from t place last) s
unfolding vote_ask_of may_vote_of
vote_yes_made seat st old new from t place last s b out x eo e f =
    let m : Member = at st (member_of old) in
    let a = vote_yes (seat_of seat) m from t place last (sym e ∙ f) in
    let o : letter seat.id from (VoteReply st.term true) ∷ [] ≡ out = ap (λ (y : Bool). letter seat.id from (VoteReply st.term y) ∷ [])
    (sym f) ∙ sym eo in
    from_stood old old new (record { term = st.term; vote = from; role = st.role; leader = st.leader }) out Nothing s
    (on_vote_ask (seat_of seat) m from t place last) x refl (a ∙ ap (λ (es : List Envelope). sends (voted m from) es) o)

pub vote_no_made : (seat : held.Seat) (st : Standing) (old new : State) (from t place last : ℕ) (s : Step) (b : Bool)
    (out : List Envelope) →
    Stood old new st out Nothing s → out ≡ letter seat.id from (VoteReply st.term b) ∷ [] → b ≡ may_vote_of st old from t place last → b
    ≡ false →
    Made old new (vote_ask_of seat st old from t place last) s
unfolding vote_ask_of may_vote_of
vote_no_made seat st old new from t place last s b out x eo e f =
    let m : Member = at st (member_of old) in
    let a = vote_no (seat_of seat) m from t place last (sym e ∙ f) in
    let o : letter seat.id from (VoteReply st.term false) ∷ [] ≡ out = ap (λ (y : Bool). letter seat.id from (VoteReply st.term y) ∷
    []) (sym f) ∙ sym eo in
    from_stood old old new st out Nothing s (on_vote_ask (seat_of seat) m from t place last) x refl
    (a ∙ ap (λ (es : List Envelope). sends m es) o)

pub reply_other_made : (seat : held.Seat) (st : Standing) (old new : State) (from t : ℕ) (y b : Bool) (s : Step) → Stood old new st
    [] Nothing s →
    b ≡ (is_candidate st.role && nat_eq st.term t && y) → b ≡ false → Made old new (vote_reply_of seat st old from t y) s
unfolding vote_reply_of
reply_other_made seat st old new from t y b s x e f =
    let m : Member = at st (member_of old) in
    from_stood old old new st [] Nothing s (on_vote_reply (seat_of seat) m from t y) x refl (reply_other (seat_of seat) m from t y
    (sym e ∙ f))

elected_is : (seat : held.Seat) (st : Standing) (old : State) (from : ℕ) (e : Bool) → IsSoundAt seat st old → e ≡ elects_of old.votes from →
    e ≡ is_elected (seat_of seat) (counted (at st (member_of old)) from)
unfolding elects_of IsSoundAt
elected_is seat st old from e s h = h ∙ ap
    (λ (n : ℕ). majority n (λ core. slice_index_or (slice_set old.votes (from - 1) true) (core - 1) false)) s.votes

pub reply_counts_made : (seat : held.Seat) (st : Standing) (old new : State) (from t : ℕ) (y b e : Bool) (v : List Bool) (s : Step) →
    Stood (record old { votes = v }) new st [] Nothing s → v ≡ slice_set old.votes (from - 1) true → IsSoundAt seat st old →
    b ≡ (is_candidate st.role && nat_eq st.term t && y) → b ≡ true → e ≡ elects_of old.votes from → e ≡ false →
    Made old new (vote_reply_of seat st old from t y) s
unfolding vote_reply_of
reply_counts_made seat st old new from t y b e v s x ev sound f g h k =
    let m : Member = at st (member_of old) in
    let a = reply_counts (seat_of seat) m from t y (sym f ∙ g) (sym (elected_is seat st old from e sound h) ∙ k) in
    from_stood old (record old { votes = v }) new st [] Nothing s (on_vote_reply (seat_of seat) m from t y) x refl
    (a ∙ ap (λ (l : List Bool). still (record m { votes = l })) (sym ev))

pub reply_wins_made : (seat : held.Seat) (st : Standing) (old new : State) (from t : ℕ) (y b e : Bool) (s : Step) → Made old new
    (won_of seat st old from) s →
    IsSoundAt seat st old → b ≡ (is_candidate st.role && nat_eq st.term t && y) → b ≡ true → e ≡ elects_of old.votes from → e ≡ true →
    Made old new (vote_reply_of seat st old from t y) s
unfolding vote_reply_of won_of
reply_wins_made seat st old new from t y b e s x sound f g h k =
    let m : Member = at st (member_of old) in
    let a = reply_wins (seat_of seat) m from t y (sym f ∙ g) (sym (elected_is seat st old from e sound h) ∙ k) in
    subst (λ (o : Outcome). Made old new o s) (sym a) x

pub noop_yes : (seat : held.Seat) (term : ℕ) (log new : List Item) → length log < seat.limit → new ≡ log ++ record
    { term = term; entry = Noop } ∷ [] →
    new ≡ log ++ noop_for seat term log
unfolding noop_for
noop_yes seat term log new lt e =
    e ∙ sym (ap (λ (b : Bool). log ++ pick b (record { term = term; entry = Noop } ∷ []) []) (lt-ltb (length log) seat.limit lt))

pub noop_no : (seat : held.Seat) (term : ℕ) (log : List Item) → seat.limit ≤ length log → log ≡ log ++ noop_for seat term log
unfolding noop_for
noop_no seat term log le =
    sym (append-nil log) ∙ sym (ap (λ (b : Bool). log ++ pick b (record { term = term; entry = Noop } ∷ []) [])
    (le-ltb (length log) seat.limit le))

pub begun_some : (was st : Standing) (old new items : List Item) (x : Item) (keep : ℕ) → new ≡ old ++ x ∷ [] → items ≡ x ∷ [] → keep
    ≡ length old →
    Leads (record { term = was.term; vote = was.vote; log = old }) (record { term = st.term; vote = st.vote; log = new })
    (Some (record { term = st.term; vote = st.vote; keep = keep; items = items }))
begun_some was st old new items x keep e f g = one_item was.term st.term was.vote st.vote old new x items keep e f g

pub won_made : (seat : held.Seat) (st : Standing) (old : State) (from : ℕ) (log : List Item) (v : List Bool) (next matches : List ℕ)
    (change : Option ChangeSet) (out : List Envelope) →
    log ≡ old.log ++ noop_for seat st.term old.log → v ≡ slice_set old.votes (from - 1) true → next ≡ replicate seat.cores
    (length old.log + 1) →
    matches ≡ replicate seat.cores 0 → out ≡ appends_of seat st.term old.commit log next →
    Leads (record { term = old.standing.term; vote = old.standing.vote; log = old.log })
    (record { term = st.term; vote = st.vote; log = log }) change →
    Made old (record {
      standing = record
          { term = st.term; vote = st.vote; role = Leader; leader = seat.id };
      log = log;
      commit = old.commit;
      votes = v;
      next = next;
      matches = matches;
    })
    (won_of seat st old from) (record { change = change; out = out; note = Nothing })
unfolding won_of appends_of noop_for
won_made seat st old from log v next matches change out el ev en em eo l =
    let m : Member = counted (at st (member_of old)) from in
    let w : won (seat_of seat) m ≡ member_of
    (record {
      standing = record
          { term = st.term; vote = st.vote; role = Leader; leader = seat.id };
      log = log;
      commit = old.commit;
      votes = v;
      next = next;
      matches = matches;
    }) =
    λ i. record {
      term = st.term;
      vote = st.vote;
      log = (sym el) i;
      role = Leader;
      leader = seat.id;
      commit = old.commit;
      votes = (sym ev) i;
      next = (sym en) i;
      match = (sym em) i;
    } in
    record { member = sym w; sent = eo ∙ ap (appends (seat_of seat)) (sym w); note = refl; change = l }

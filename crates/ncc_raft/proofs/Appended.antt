-- What the pieces of a leader make is what its rules say.
use Rattle.std.proofs.Common.{◌≡◌, ℕ, ◌+◌, ◌-◌, ◌≤◌, Bool, true, false, min, max, List, [], ◌∷◌, ◌++◌, length, take, drop, Some, refl}
use Rattle.std.proofs.Common.{sym, ap, ◌∙◌, subst, arith}
use Rattle.std.specs.List.{filter}
use Rattle.std.specs.Prelude.{IsTrue, map, nat_eq, not, ◌&&◌, slice_index_or, slice_set}
use Rattle.std.proofs.lemmas.Bool.{eq-eqb, ne_eqb}
use Rattle.ncc_tx.specs.declared.entry.Entry.{Entry}
use Rattle.ncc_tx.specs.declared.entry.Item.{Item}
use Rattle.ncc_tx.specs.Kept.{Leads, term_at}
use Rattle.ncc_raft.specs.declared.message.Body.{Body}
use Rattle.ncc_raft.specs.declared.message.Body.TheVariants.{Append, Pull, Batch}
use Rattle.ncc_raft.specs.declared.message.Envelope.{Envelope}
use Rattle.ncc_raft.specs.declared.message.Note.TheVariants.{Nothing}
use Rattle.ncc_raft.specs.declared.message.Step.{Step}
use Rattle.ncc_raft.specs.declared.state.Seat as held
use Rattle.ncc_raft.specs.declared.state.Standing.{Standing}
use Rattle.ncc_raft.specs.declared.state.State.{State}
use Rattle.ncc_raft.specs.Member.{Seat, Member, Outcome, cores_of, is_leader, letter, next_of, sends, still}
use Rattle.ncc_raft.specs.Appending.{added, append_to, appends, back_to, batch, has_up_to, noted}
use Rattle.ncc_raft.specs.State.{Made, Stood, append_reply_of, appends_of, at, beat_of, body_of, member_of, noted_no_of, noted_yes_of}
use Rattle.ncc_raft.specs.State.{propose_of, seat_of, sender}
use Rattle.ncc_raft.specs.Logs.{allowed_front}
use Rattle.std.proofs.lemmas.List.{get_or-set_same, take_at}
use Rattle.ncc_raft.proofs.Changes.{kept_as, added as one_added}
use Rattle.ncc_raft.proofs.Cores.{others_less, others_more}
use Rattle.ncc_raft.specs.Step.{answered, may_add, on_append_reply, on_beat, on_body, on_propose}
use Rattle.ncc_raft.proofs.Stands.{from_stood, pick}

pub beat_leads : (seat : Seat) (m : Member) → is_leader m.role ≡ true → on_beat seat m ≡ sends m (appends seat m)
beat_leads seat m e = ap (λ (b : Bool). pick b (sends m (appends seat m)) (still m)) e

pub beat_not : (seat : Seat) (m : Member) → is_leader m.role ≡ false → on_beat seat m ≡ still m
beat_not seat m e = ap (λ (b : Bool). pick b (sends m (appends seat m)) (still m)) e

pub propose_adds : (seat : Seat) (m : Member) (entry : Entry) → may_add seat m ≡ true → on_propose seat m entry ≡ sends (added m entry)
    (appends seat (added m entry))
propose_adds seat m entry e = ap (λ (b : Bool). pick b (sends (added m entry) (appends seat (added m entry))) (still m)) e

pub answer_other : (seat : Seat) (m : Member) (from t : ℕ) (has : Bool) (place : ℕ) → (is_leader m.role && nat_eq m.term t) ≡ false →
    on_append_reply seat m from t has place ≡ still m
answer_other seat m from t has place e = ap (λ (b : Bool). pick b (answered seat m from has place) (still m)) e

pub answer_heard : (seat : Seat) (m : Member) (from t : ℕ) (has : Bool) (place : ℕ) → (is_leader m.role && nat_eq m.term t) ≡ true →
    on_append_reply seat m from t has place ≡ answered seat m from has place
answer_heard seat m from t has place e = ap (λ (b : Bool). pick b (answered seat m from has place) (still m)) e

pub appends_none : (seat : Seat) (m : Member) (id : ℕ) → [] ≡ map (append_to seat m) (filter (λ c. not (nat_eq c id)) (cores_of 0))
appends_none seat m id = refl

pub appends_more : (seat : Seat) (term commit i prev k : ℕ) (log : List Item) (next : List ℕ) (out : List Envelope) (body : Body) →
    out ≡ map (append_to seat (sender term commit log next)) (filter (λ c. not (nat_eq c seat.id)) (cores_of i)) →
    body ≡ Append term prev (term_at log prev) commit (allowed_front (drop prev log)) → prev ≡ k - 1 → k ≡ slice_index_or next
    (i + 1 - 1) 0 → (i + 1 ≡ seat.id → ⊥) →
    out ++ record { from = seat.id; to = i + 1; body = body } ∷ []
    ≡ map (append_to seat (sender term commit log next)) (filter (λ c. not (nat_eq c seat.id)) (cores_of (i + 1)))
appends_more seat term commit i prev k log next out body a eb ep ek ne =
    let f : ℕ → Envelope = append_to seat (sender term commit log next) in
    let p : ℕ → Bool = λ c. not (nat_eq c seat.id) in
    let q : prev ≡ slice_index_or next (i + 1 - 1) 0 - 1 = ep ∙ ap (λ (n : ℕ). n - 1) ek in
    let b : letter seat.id (i + 1) body ≡ f (i + 1) =
    ap (letter seat.id (i + 1)) (eb ∙ ap (λ (n : ℕ). Append term n (term_at log n) commit (allowed_front (drop n log))) q) in
    ap (λ (l : List Envelope). l ++ letter seat.id (i + 1) body ∷ []) a ∙ ap (λ (x : Envelope). map f (filter p (cores_of i)) ++ x ∷ []) b
    ∙ sym (others_more f p i (ap not (ne_eqb (i + 1) seat.id ne)))

pub appends_less : (seat : Seat) (m : Member) (i : ℕ) (out : List Envelope) →
    out ≡ map (append_to seat m) (filter (λ c. not (nat_eq c seat.id)) (cores_of i)) → i + 1 ≡ seat.id →
    out ≡ map (append_to seat m) (filter (λ c. not (nat_eq c seat.id)) (cores_of (i + 1)))
appends_less seat m i out a e =
    let f : ℕ → Envelope = append_to seat m in
    let p : ℕ → Bool = λ c. not (nat_eq c seat.id) in
    a ∙ sym (others_less f p i (ap not (eq-eqb (i + 1) seat.id e)))

pub appends_all : (seat : held.Seat) (term commit : ℕ) (log : List Item) (next : List ℕ) (i : ℕ) (out : List Envelope) → i ≡ seat.cores →
    out ≡ map (append_to (seat_of seat) (sender term commit log next)) (filter (λ c. not (nat_eq c seat.id)) (cores_of i)) →
    out ≡ appends_of seat term commit log next
unfolding appends_of
appends_all seat term commit log next i out e a =
    a ∙ ap (λ (n : ℕ). map (append_to (seat_of seat) (sender term commit log next)) (filter (λ c. not (nat_eq c seat.id)) (cores_of n))) e

-- an item that is taken back
pub cut_back : (old l r : List Item) (x : Item) (keep : ℕ) → r ≡ take keep l → l ≡ old ++ x ∷ [] → keep ≡ length old → r ≡ old
cut_back old l r x keep a b e = a ∙ ap (take keep) b ∙ take_at old (x ∷ []) keep (sym e)

pub beat_leads_made : (seat : held.Seat) (old new : State) (out : List Envelope) (s : Step) (b : Bool) →
    Stood old new old.standing out Nothing s →
    out ≡ appends_of seat old.standing.term old.commit old.log old.next → b ≡ is_leader old.standing.role → b ≡ true → Made old new
    (beat_of seat old) s
unfolding beat_of appends_of
beat_leads_made seat old new out s b x eo e f =
    from_stood old old new old.standing out Nothing s (on_beat (seat_of seat) (member_of old)) x refl
    (beat_leads (seat_of seat) (member_of old) (sym e ∙ f) ∙ ap (λ (es : List Envelope). sends (member_of old) es) (sym eo))

pub beat_not_made : (seat : held.Seat) (old new : State) (s : Step) (b : Bool) → Stood old new old.standing [] Nothing s →
    b ≡ is_leader old.standing.role → b ≡ false → Made old new (beat_of seat old) s
unfolding beat_of
beat_not_made seat old new s b x e f =
    from_stood old old new old.standing [] Nothing s (on_beat (seat_of seat) (member_of old)) x refl
    (beat_not (seat_of seat) (member_of old) (sym e ∙ f))

pub one_item : (a b v w : ℕ) (old new : List Item) (x : Item) (items : List Item) (keep : ℕ) → new ≡ old ++ x ∷ [] → items ≡ x ∷ [] → keep
    ≡ length old →
    Leads (kept_as a v old) (kept_as b w new) (Some (record { term = b; vote = w; keep = keep; items = items }))
one_item a b v w old new x items keep e f g =
    subst (λ (l : List Item). Leads (kept_as a v old) (kept_as b w l)
    (Some (record { term = b; vote = w; keep = keep; items = items }))) (sym e)
    (subst (λ (l : List Item). Leads (kept_as a v old) (kept_as b w (old ++ x ∷ []))
    (Some (record { term = b; vote = w; keep = keep; items = l }))) (sym f)
    (subst (λ (n : ℕ). Leads (kept_as a v old) (kept_as b w (old ++ x ∷ []))
    (Some (record { term = b; vote = w; keep = n; items = x ∷ [] }))) (sym g)
    (one_added a b v w old x)))

pub propose_made : (seat : held.Seat) (old : State) (entry : Entry) (log : List Item) (items : List Item) (keep : ℕ) (out : List Envelope) →
    log ≡ old.log ++ record { term = old.standing.term; entry = entry } ∷ [] → items ≡ record
    { term = old.standing.term; entry = entry } ∷ [] →
    keep ≡ length old.log → out ≡ appends_of seat old.standing.term old.commit log old.next → IsTrue
    (may_add (seat_of seat) (member_of old)) →
    Made old (record old { log = log }) (propose_of seat old entry)
    (record {
      change = Some
          (record { term = old.standing.term; vote = old.standing.vote; keep = keep; items = items });
      out = out;
      note = Nothing;
    })
unfolding propose_of appends_of
propose_made seat old entry log items keep out el ei ek eo room =
    let x : Item = record { term = old.standing.term; entry = entry } in
    let a = propose_adds (seat_of seat) (member_of old) entry room in
    let g : sends (member_of (record old { log = log })) out ≡ sends (added (member_of old) entry)
    (appends (seat_of seat) (added (member_of old) entry)) =
    λ i. record {
      member = record (member_of old) { log = el i };
      sent =
          (eo ∙ ap (λ (l : List Item). appends (seat_of seat) (sender old.standing.term old.commit l old.next)) el) i;
      note = Nothing;
    } in
    let o : sends (member_of (record old { log = log })) out ≡ on_propose (seat_of seat) (member_of old) entry = g ∙ sym a in
    record {
      member = ap (λ (y : Outcome). y.member) o;
      sent = ap (λ (y : Outcome). y.sent) o;
      note = ap (λ (y : Outcome). y.note) o;
      change = one_item old.standing.term old.standing.term old.standing.vote old.standing.vote old.log log x items keep el ei ek;
    }

pub noted_yes_made : (st : Standing) (old new : State) (from place has known len : ℕ) (ms ns : List ℕ) (s : Step) →
    Stood (record old { next = ns; matches = ms }) new st [] Nothing s → ms ≡ slice_set old.matches (from - 1) has → ns
    ≡ slice_set old.next (from - 1) (has + 1) →
    has ≡ max known (min place len) → known ≡ slice_index_or old.matches (from - 1) 0 → len ≡ length old.log → Made old new
    (noted_yes_of st old from place) s
unfolding noted_yes_of
noted_yes_made st old new from place has known len ms ns s x em en eh ek el =
    let m : Member = at st (member_of old) in
    let h : has ≡ has_up_to m from place = eh ∙ ap (λ (k : ℕ). max k (min place len)) ek ∙ ap
    (λ (n : ℕ). max (slice_index_or old.matches (from - 1) 0) (min place n)) el in
    let o : still (noted m from true place) ≡ record {
      member = at st (member_of (record old { next = ns; matches = ms }));
      sent =
          [];
      note = Nothing;
    } =
    λ i. still (record m {
      match = (ap (λ (k : ℕ). slice_set old.matches (from - 1) k) (sym h) ∙ sym em) i;
      next = (ap (λ (k : ℕ). slice_set old.next (from - 1) (k + 1)) (sym h) ∙ sym en) i;
    }) in
    from_stood old (record old { next = ns; matches = ms }) new st [] Nothing s (still (noted m from true place)) x refl o

pub noted_no_made : (seat : held.Seat) (st : Standing) (old new : State) (from place prev known before len : ℕ) (ns : List ℕ)
    (body : Body) (out : List Envelope) (s : Step) →
    Stood (record old { next = ns }) new st out Nothing s → ns ≡ slice_set old.next (from - 1) (prev + 1) →
    prev ≡ max known (min before (min place len)) → known ≡ slice_index_or old.matches (from - 1) 0 → before ≡ slice_index_or old.next
    (from - 1) 0 - 1 → len ≡ length old.log →
    body ≡ Append st.term prev (term_at old.log prev) old.commit (allowed_front (drop prev old.log)) → out ≡ letter seat.id from body ∷ [] →
    1 ≤ from → from ≤ length old.next → Made old new (noted_no_of seat st old from place) s
unfolding noted_no_of
noted_no_made seat st old new from place prev known before len ns body out s x en ep ek eb el ebody eo low high =
    let m : Member = at st (member_of old) in
    let p : prev ≡ back_to m from place = ep ∙ ap (λ (k : ℕ). max k (min before (min place len))) ek
    ∙ ap (λ (k : ℕ). max (slice_index_or old.matches (from - 1) 0) (min k (min place len))) eb
    ∙ ap (λ (k : ℕ). max (slice_index_or old.matches (from - 1) 0) (min (slice_index_or old.next (from - 1) 0 - 1) (min place k))) el in
    let n : noted m from false place ≡ at st (member_of (record old { next = ns })) =
    λ i. record m { next = (ap (λ (k : ℕ). slice_set old.next (from - 1) (k + 1)) (sym p) ∙ sym en) i } in
    let slot : next_of (noted m from false place) from ≡ back_to m from place + 1 = get_or-set_same old.next (from - 1)
    (back_to m from place + 1) 0 (omega arith) in
    let sent : append_to (seat_of seat) (noted m from false place) from ≡ letter seat.id from
    (Append st.term prev (term_at old.log prev) old.commit (allowed_front (drop prev old.log))) =
    let q : next_of (noted m from false place) from - 1 ≡ prev = omega (arith, slot, p) in
    ap (λ (k : ℕ). letter seat.id from (Append st.term k (term_at old.log k) old.commit (allowed_front (drop k old.log)))) q in
    let letters : append_to (seat_of seat) (noted m from false place) from ∷ [] ≡ out =
    ap (λ (e : Envelope). e ∷ []) (sent ∙ ap (letter seat.id from) (sym ebody)) ∙ sym eo in
    let o : sends (noted m from false place) (append_to (seat_of seat) (noted m from false place) from ∷ []) ≡
    record { member = at st (member_of (record old { next = ns })); sent = out; note = Nothing } =
    λ i. sends (n i) (letters i) in
    from_stood old (record old { next = ns }) new st out Nothing s (sends (noted m from false place)
    (append_to (seat_of seat) (noted m from false place) from ∷ [])) x refl o

pub answer_other_made : (seat : held.Seat) (st : Standing) (old new : State) (from t : ℕ) (y : Bool) (place : ℕ) (s : Step) (b : Bool) →
    Stood old new st [] Nothing s →
    b ≡ (is_leader st.role && nat_eq st.term t) → b ≡ false → Made old new (append_reply_of seat st old from t y place) s
unfolding append_reply_of
answer_other_made seat st old new from t y place s b x e f =
    let m : Member = at st (member_of old) in
    from_stood old old new st [] Nothing s (on_append_reply (seat_of seat) m from t y place) x refl
    (answer_other (seat_of seat) m from t y place (sym e ∙ f))

pub answer_yes_made : (seat : held.Seat) (st : Standing) (old new : State) (from t : ℕ) (y : Bool) (place : ℕ) (s : Step) (b : Bool) →
    Made old new (noted_yes_of st old from place) s →
    b ≡ (is_leader st.role && nat_eq st.term t) → b ≡ true → y ≡ true → Made old new (append_reply_of seat st old from t y place) s
unfolding append_reply_of noted_yes_of
answer_yes_made seat st old new from t y place s b x e f g =
    let m : Member = at st (member_of old) in
    let a = answer_heard (seat_of seat) m from t y place (sym e ∙ f) ∙ ap (λ (h : Bool). answered (seat_of seat) m from h place) g in
    subst (λ (o : Outcome). Made old new o s) (sym a) x

pub answer_no_made : (seat : held.Seat) (st : Standing) (old new : State) (from t : ℕ) (y : Bool) (place : ℕ) (s : Step) (b : Bool) →
    Made old new (noted_no_of seat st old from place) s →
    b ≡ (is_leader st.role && nat_eq st.term t) → b ≡ true → y ≡ false → Made old new (append_reply_of seat st old from t y place) s
unfolding append_reply_of noted_no_of
answer_no_made seat st old new from t y place s b x e f g =
    let m : Member = at st (member_of old) in
    let a = answer_heard (seat_of seat) m from t y place (sym e ∙ f) ∙ ap (λ (h : Bool). answered (seat_of seat) m from h place) g in
    subst (λ (o : Outcome). Made old new o s) (sym a) x

pub pull_made : (seat : held.Seat) (st : Standing) (old new : State) (from have : ℕ) (items : List Item) (out : List Envelope) (s : Step) →
    Stood old new st out Nothing s → items ≡ allowed_front (drop have (take old.commit old.log)) →
    out ≡ letter seat.id from (Batch (have + 1) items) ∷ [] → Made old new (body_of seat st old from (Pull have)) s
unfolding body_of
pull_made seat st old new from have items out s x ei eo =
    let m : Member = at st (member_of old) in
    let sent : batch (seat_of seat) m from have ∷ [] ≡ out = ap (λ (is : List Item). letter seat.id from (Batch (have + 1) is) ∷ [])
    (sym ei) ∙ sym eo in
    from_stood old old new st out Nothing s (on_body (seat_of seat) m from (Pull have)) x refl
    (ap (λ (es : List Envelope). sends m es) sent)

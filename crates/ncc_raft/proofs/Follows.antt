-- What the pieces of the code make of an Append is what the rules say.
use Rattle.std.proofs.Common.{◌≡◌, ℕ, zero, suc, ◌+◌, ◌-◌, ◌<◌, ◌≤◌, Bool, true, false, min, max, List, [], ◌∷◌, ◌++◌, length}
use Rattle.std.proofs.Common.{take, drop, Option, Some, None, refl, sym, ap, ◌∙◌, subst, arith}
use Rattle.std.specs.Prelude.{IsTrue, nat_eq, nat_le, ◌&&◌}
use Rattle.std.proofs.lemmas.Bool.{and_from, and_parts, eq-eqb, eqb-true, le-leb, le-ltb, leb-true, lt-leb, lt-ltb, ne_eqb}
use Rattle.ncc_tx.specs.declared.entry.ChangeSet.{ChangeSet}
use Rattle.ncc_tx.specs.declared.entry.Item.{Item}
use Rattle.ncc_tx.specs.declared.entry.Saved.{Saved}
use Rattle.ncc_tx.specs.Items.{entry_allowed}
use Rattle.ncc_tx.specs.Kept.{AllAllowed, Leads, Parted, SameTerms, term_at, terms}
use Rattle.ncc_tx.proofs.Changes.{parted_by_terms}
use Rattle.ncc_raft.specs.declared.message.Body.TheVariants.{AppendReply}
use Rattle.ncc_raft.specs.declared.message.Envelope.{Envelope}
use Rattle.ncc_raft.specs.declared.message.Note.TheVariants.{Beyond, Contradicted, Nothing}
use Rattle.ncc_raft.specs.declared.message.RaftRole.TheVariants.{Follower}
use Rattle.ncc_raft.specs.declared.message.Step.{Step}
use Rattle.ncc_raft.specs.declared.state.Seat as held
use Rattle.ncc_raft.specs.declared.state.Standing.{Standing}
use Rattle.ncc_raft.specs.declared.state.State.{State}
use Rattle.ncc_raft.specs.Member.{Seat, Member, Outcome}
use Rattle.ncc_raft.specs.Member.{is_leader, kept, letter, notes, sends, still}
use Rattle.ncc_raft.specs.Logs.{Conflict, accepted, first_conflict}
use Rattle.ncc_raft.specs.Appending.{contradicted, follows, has_prev}
use Rattle.ncc_raft.specs.Appending.{took}
use Rattle.ncc_raft.specs.State.{Made, Stood, append_of}
use Rattle.ncc_raft.specs.State.{at}
use Rattle.ncc_raft.specs.State.{member_of, offered_of, seat_of}
use Rattle.ncc_raft.specs.State.{took_of, took_or_not_of}
use Rattle.std.proofs.lemmas.List.{length-drop}
use Rattle.ncc_raft.proofs.Changes.{grown, kept_as}
use Rattle.ncc_raft.proofs.Merged.{accepted_parts, accepted_whole, parted_on}
use Rattle.std.proofs.lemmas.List.Elements.{All-drop}
use Rattle.ncc_raft.specs.Step.{append_reply, offered, on_append}
use Rattle.ncc_raft.specs.Step.{took_or_not, unless}
use Rattle.ncc_raft.proofs.Stands.{from_stood, pick}

-- ---- which outcome a rule has

abbrev Append-older : Seat → Member → ℕ → Outcome
Append-older seat m from = sends m (append_reply seat m from false 0 ∷ [])

pub append_older : (seat : Seat) (m : Member) (from t prev prev_term commit : ℕ) (items : List Item) → t < m.term →
    on_append seat m from t prev prev_term commit items ≡ sends m (append_reply seat m from false 0 ∷ [])
append_older seat m from t prev prev_term commit items lt =
    ap (λ (b : Bool). pick b (Append-older seat m from) (pick (is_leader m.role) (still m)
    (offered seat (follows m from) from prev prev_term commit items)))
    (lt-ltb t m.term lt)

pub append_leads : (seat : Seat) (m : Member) (from t prev prev_term commit : ℕ) (items : List Item) → m.term ≤ t → is_leader m.role
    ≡ true →
    on_append seat m from t prev prev_term commit items ≡ still m
append_leads seat m from t prev prev_term commit items le e =
    ap (λ (b : Bool). pick b (Append-older seat m from) (pick (is_leader m.role) (still m)
    (offered seat (follows m from) from prev prev_term commit items)))
    (le-ltb t m.term le)
    ∙ ap (λ (b : Bool). pick b (still m) (offered seat (follows m from) from prev prev_term commit items)) e

pub append_follows : (seat : Seat) (m : Member) (from t prev prev_term commit : ℕ) (items : List Item) → m.term ≤ t → is_leader m.role
    ≡ false →
    on_append seat m from t prev prev_term commit items ≡ offered seat (follows m from) from prev prev_term commit items
append_follows seat m from t prev prev_term commit items le e =
    ap (λ (b : Bool). pick b (Append-older seat m from) (pick (is_leader m.role) (still m)
    (offered seat (follows m from) from prev prev_term commit items)))
    (le-ltb t m.term le)
    ∙ ap (λ (b : Bool). pick b (still m) (offered seat (follows m from) from prev prev_term commit items)) e

pub offered_beyond : (seat : Seat) (m : Member) (from prev prev_term commit : ℕ) (items : List Item) → seat.limit < prev + length items →
    offered seat m from prev prev_term commit items ≡ notes m (Beyond (prev + length items))
offered_beyond seat m from prev prev_term commit items lt =
    ap (λ (b : Bool). pick b (notes m (Beyond (prev + length items))) (unless (contradicted m prev prev_term items) m
    (took_or_not seat m from prev prev_term commit items)))
    (lt-ltb seat.limit (prev + length items) lt)

offered_within : (seat : Seat) (m : Member) (from prev prev_term commit : ℕ) (items : List Item) → prev + length items ≤ seat.limit →
    offered seat m from prev prev_term commit items ≡ unless (contradicted m prev prev_term items) m
    (took_or_not seat m from prev prev_term commit items)
offered_within seat m from prev prev_term commit items le =
    ap (λ (b : Bool). pick b (notes m (Beyond (prev + length items))) (unless (contradicted m prev prev_term items) m
    (took_or_not seat m from prev prev_term commit items)))
    (le-ltb seat.limit (prev + length items) le)

pub offered_clash : (seat : Seat) (m : Member) (from prev prev_term commit : ℕ) (items : List Item) (x : Conflict) →
    prev + length items ≤ seat.limit →
    contradicted m prev prev_term items ≡ Some x →
    offered seat m from prev prev_term commit items ≡ notes m (Contradicted x.place x.kept x.told)
offered_clash seat m from prev prev_term commit items x le e =
    offered_within seat m from prev prev_term commit items le
    ∙ ap (λ (c : Option Conflict). unless c m (took_or_not seat m from prev prev_term commit items)) e

pub offered_fits : (seat : Seat) (m : Member) (from prev prev_term commit : ℕ) (items : List Item) → prev + length items ≤ seat.limit →
    contradicted m prev prev_term items ≡ None →
    offered seat m from prev prev_term commit items ≡ took_or_not seat m from prev prev_term commit items
offered_fits seat m from prev prev_term commit items le e =
    offered_within seat m from prev prev_term commit items le
    ∙ ap (λ (c : Option Conflict). unless c m (took_or_not seat m from prev prev_term commit items)) e

pub took_yes : (seat : Seat) (m : Member) (from prev prev_term commit : ℕ) (items : List Item) → prev ≤ length m.log →
    term_at m.log prev ≡ prev_term →
    took_or_not seat m from prev prev_term commit items ≡ sends (took m prev commit items) (append_reply seat m from true
    (prev + length items) ∷ [])
took_yes seat m from prev prev_term commit items le e =
    ap (λ (b : Bool). pick b (sends (took m prev commit items) (append_reply seat m from true (prev + length items) ∷ []))
    (sends m (append_reply seat m from false (min (prev - 1) (length m.log)) ∷ [])))
    (and_from (nat_le prev (length m.log)) (nat_eq (term_at m.log prev) prev_term) (le-leb prev (length m.log) le)
    (eq-eqb (term_at m.log prev) prev_term e))

pub took_not : (seat : Seat) (m : Member) (from prev prev_term commit : ℕ) (items : List Item) → has_prev m prev prev_term ≡ false →
    took_or_not seat m from prev prev_term commit items ≡ sends m (append_reply seat m from false (min (prev - 1) (length m.log)) ∷ [])
took_not seat m from prev prev_term commit items e =
    ap (λ (b : Bool). pick b (sends (took m prev commit items) (append_reply seat m from true (prev + length items) ∷ []))
    (sends m (append_reply seat m from false (min (prev - 1) (length m.log)) ∷ []))) e

pub no_prev : (m : Member) (prev prev_term : ℕ) → length m.log < prev → has_prev m prev prev_term ≡ false
no_prev m prev prev_term lt = ap (λ (b : Bool). b && nat_eq (term_at m.log prev) prev_term) (lt-leb prev (length m.log) lt)

pub other_prev : (m : Member) (prev prev_term : ℕ) → prev ≤ length m.log → (term_at m.log prev ≡ prev_term → ⊥) →
    has_prev m prev prev_term ≡ false
other_prev m prev prev_term le ne =
    ap (λ (b : Bool). b && nat_eq (term_at m.log prev) prev_term) (le-leb prev (length m.log) le) ∙ ne_eqb (term_at m.log prev) prev_term ne

-- ---- items that are taken

pub taken_state : (old : State) (st : Standing) (l xs items : List Item) (prev n keep commit : ℕ) → l ≡ take keep old.log ++ xs → keep
    ≡ prev + n → xs ≡ drop n items →
    SameTerms (drop prev old.log) items n → n < length items →
    record { standing = st; log = l; commit = commit; votes = old.votes; next = old.next; matches = old.matches }
    ≡ record old { standing = st; log = accepted old.log prev items; commit = commit }
taken_state old st l xs items prev n keep commit el ek ex same lt =
    let e : l ≡ accepted old.log prev items = el ∙ ap (λ (k : ℕ). take k old.log ++ xs) ek ∙ ap (λ (ys : List Item). take
    (prev + n) old.log ++ ys) ex
    ∙ accepted_parts old.log items prev n same lt in
    λ i. record old { standing = st; log = e i; commit = commit }

some_left : (n : ℕ) (xs : List Item) → n < length xs → drop n xs ≡ [] → ⊥
some_left n [] lt e = absurd (omega arith)
some_left zero (x ∷ xs) lt e = absurd (cc)
some_left (suc n) (x ∷ xs) lt e = some_left n xs (omega arith) e

pub taken_leads : (a b v w : ℕ) (old items told : List Item) (prev n keep : ℕ) → keep ≡ prev + n → told ≡ drop n items → prev ≤ length old →
    SameTerms (drop prev old) items n → n < length items →
    Leads (record { term = a; vote = v; log = old }) (record { term = b; vote = w; log = accepted old prev items })
    (Some (record { term = b; vote = w; keep = keep; items = told }))
taken_leads a b v w old items told prev n keep ek et le same lt =
    let within : prev + n ≤ length old = omega (arith, same.in_first, length-drop prev old) in
    let parted : Parted (drop (prev + n) old) (drop n items) = parted_on old items prev n (parted_by_terms (drop n (drop prev old))
    (drop n items) same.most) in
    let g = grown a b v w old (prev + n) (drop n items) within parted (some_left n items lt) in
    subst (λ (l : List Item). Leads (kept_as a v old) (kept_as b w l)
    (Some (record { term = b; vote = w; keep = keep; items = told }))) (accepted_parts old items prev n same lt)
    (subst (λ (k : ℕ). Leads (kept_as a v old) (kept_as b w (take (prev + n) old ++ drop n items))
    (Some (record { term = b; vote = w; keep = k; items = told }))) (sym ek)
    (subst (λ (l : List Item). Leads (kept_as a v old) (kept_as b w (take (prev + n) old ++ drop n items))
    (Some (record { term = b; vote = w; keep = prev + n; items = l }))) (sym et) g))

pub part_allowed : (items xs : List Item) (n : ℕ) → AllAllowed items → xs ≡ drop n items → AllAllowed xs
part_allowed items xs n ok e = subst AllAllowed (sym e) (All-drop (λ (y : Item). IsTrue (entry_allowed y.entry)) n items ok)

pub same_on : (log xs ys items : List Item) (prev n : ℕ) → SameTerms xs ys n → xs ≡ drop prev log → ys ≡ items → SameTerms
    (drop prev log) items n
same_on log xs ys items prev n s e f = subst (λ (l : List Item). SameTerms l items n) e (subst (λ (l : List Item). SameTerms xs l n) f s)

pub part_some : (xs ys : List Item) (n : ℕ) → SameTerms xs ys n → (n ≡ length ys → ⊥) → n < length ys
part_some xs ys n s ne = omega (arith, s.in_second)

pub took_whole_made : (seat : held.Seat) (st : Standing) (old new : State) (from prev commit place n c : ℕ) (items xs ys : List Item)
    (out : List Envelope) (s : Step) →
    Stood (record old { commit = c }) new st out Nothing s → out ≡ letter seat.id from (AppendReply st.term true place) ∷ [] →
    SameTerms xs ys n → xs ≡ drop prev old.log → ys ≡ items → n ≡ length ys → place ≡ prev + length ys →
    c ≡ max old.commit (min commit place) → Made old new (took_of seat st old from prev commit items) s
unfolding took_of
took_whole_made seat st old new from prev commit place n c items xs ys out s x eo same ex ey en ep ec =
    let m : Member = at st (member_of old) in
    let p : place ≡ prev + length items = ep ∙ ap (λ (l : List Item). prev + length l) ey in
    let log : old.log ≡ accepted old.log prev items = accepted_whole old.log items prev n
    (same_on old.log xs ys items prev n same ex ey) (en ∙ ap length ey) in
    let commit_is : c ≡ max old.commit (min commit (prev + length items)) = ec ∙ ap (λ (k : ℕ). max old.commit (min commit k)) p in
    let sent : out ≡ append_reply (seat_of seat) m from true (prev + length items) ∷ [] = eo ∙ ap (λ (k : ℕ). letter seat.id from
    (AppendReply st.term true k) ∷ []) p in
    let o : sends (took m prev commit items) (append_reply (seat_of seat) m from true (prev + length items) ∷ []) ≡ record
    { member = at st (member_of (record old { commit = c })); sent = out; note = Nothing } =
    λ i. sends (record m { log = (sym log) i; commit = (sym commit_is) i }) ((sym sent) i) in
    from_stood old (record old { commit = c }) new st out Nothing s (sends (took m prev commit items)
    (append_reply (seat_of seat) m from true (prev + length items) ∷ [])) x refl o

pub took_part_made : (seat : held.Seat) (st : Standing) (old new : State) (from prev commit place c : ℕ) (items ys : List Item)
    (out : List Envelope) (ch : ChangeSet) →
    new ≡ record old { standing = st; log = accepted old.log prev ys; commit = c } →
    Leads (record { term = old.standing.term; vote = old.standing.vote; log = old.log })
    (record { term = st.term; vote = st.vote; log = accepted old.log prev ys }) (Some ch) →
    out ≡ letter seat.id from (AppendReply st.term true place) ∷ [] → ys ≡ items → place ≡ prev + length ys → c ≡ max old.commit
    (min commit place) →
    Made old new (took_of seat st old from prev commit items) (record { change = Some ch; out = out; note = Nothing })
unfolding took_of
took_part_made seat st old new from prev commit place c items ys out ch en l eo ey ep ec =
    let m : Member = at st (member_of old) in
    let p : place ≡ prev + length items = ep ∙ ap (λ (l : List Item). prev + length l) ey in
    let commit_is : c ≡ max old.commit (min commit (prev + length items)) = ec ∙ ap (λ (k : ℕ). max old.commit (min commit k)) p in
    let after : member_of (record old { standing = st; log = accepted old.log prev ys; commit = c }) ≡ took m prev commit items =
    λ i. record m { log = accepted old.log prev (ey i); commit = commit_is i } in
    record {
      member = ap member_of en ∙ after;
      sent = eo ∙ ap (λ (k : ℕ). letter seat.id from (AppendReply st.term true k) ∷ []) p;
      note = refl;
      change = subst (λ (y : Saved). Leads (kept (member_of old)) y (Some ch)) (sym (ap (λ (z : State). kept (member_of z)) en)) l;
    }

pub has_prev_within : (log : List Item) (prev prev_term : ℕ) (b : Bool) → b ≡ (nat_le prev (length log) && nat_eq
    (term_at log prev) prev_term) → b ≡ true → prev ≤ length log
has_prev_within log prev prev_term b e f = leb-true prev (length log) (and_parts (nat_le prev (length log))
    (nat_eq (term_at log prev) prev_term) (sym e ∙ f)).0

pub took_yes_made : (seat : held.Seat) (st : Standing) (old new : State) (from prev prev_term commit : ℕ) (items : List Item)
    (b : Bool) (s : Step) →
    Made old new (took_of seat st old from prev commit items) s → b ≡ (nat_le prev (length old.log) && nat_eq
    (term_at old.log prev) prev_term) → b ≡ true →
    Made old new (took_or_not_of seat st old from prev prev_term commit items) s
unfolding took_or_not_of took_of
took_yes_made seat st old new from prev prev_term commit items b s x e f =
    let m : Member = at st (member_of old) in
    let p = and_parts (nat_le prev (length old.log)) (nat_eq (term_at old.log prev) prev_term) (sym e ∙ f) in
    subst (λ (o : Outcome). Made old new o s)
    (sym (took_yes (seat_of seat) m from prev prev_term commit items (leb-true prev (length old.log) p.0)
    (eqb-true (term_at old.log prev) prev_term p.1))) x

pub took_not_made : (seat : held.Seat) (st : Standing) (old new : State) (from prev prev_term commit p len : ℕ) (items : List Item)
    (b : Bool) (out : List Envelope) (s : Step) →
    Stood old new st out Nothing s → out ≡ letter seat.id from (AppendReply st.term false p) ∷ [] → p ≡ min (prev - 1) len → len
    ≡ length old.log →
    b ≡ (nat_le prev (length old.log) && nat_eq (term_at old.log prev) prev_term) → b ≡ false →
    Made old new (took_or_not_of seat st old from prev prev_term commit items) s
unfolding took_or_not_of
took_not_made seat st old new from prev prev_term commit p len items b out s x eo ep el e f =
    let m : Member = at st (member_of old) in
    let place : p ≡ min (prev - 1) (length old.log) = ep ∙ ap (λ (k : ℕ). min (prev - 1) k) el in
    let sent : out ≡ append_reply (seat_of seat) m from false (min (prev - 1) (length old.log)) ∷ [] = eo ∙ ap
    (λ (k : ℕ). letter seat.id from (AppendReply st.term false k) ∷ []) place in
    from_stood old old new st out Nothing s (took_or_not (seat_of seat) m from prev prev_term commit items) x refl
    (took_not (seat_of seat) m from prev prev_term commit items (sym e ∙ f) ∙ ap (λ (es : List Envelope). sends m es) (sym sent))

pub beyond_made : (seat : held.Seat) (st : Standing) (old new : State) (from prev prev_term commit last n : ℕ) (items : List Item)
    (s : Step) →
    Stood old new st [] (Beyond last) s → last ≡ prev + n → n ≡ length items → seat.limit < last →
    Made old new (offered_of seat st old from prev prev_term commit items) s
unfolding offered_of
beyond_made seat st old new from prev prev_term commit last n items s x el en lt =
    let m : Member = at st (member_of old) in
    let e : last ≡ prev + length items = el ∙ ap (λ (k : ℕ). prev + k) en in
    from_stood old old new st [] (Beyond last) s (offered (seat_of seat) m from prev prev_term commit items) x refl
    (offered_beyond (seat_of seat) m from prev prev_term commit items (omega (arith, e)) ∙ ap (λ (k : ℕ). notes m (Beyond k)) (sym e))

pub clash_made : (seat : held.Seat) (st : Standing) (old new : State) (from prev prev_term commit last n p k t : ℕ)
    (items ls is : List Item) (s : Step) →
    Stood old new st [] (Contradicted p k t) s → first_conflict ls old.commit prev (prev_term ∷ terms is) ≡ Some
    (record { place = p; kept = k; told = t }) →
    ls ≡ old.log → is ≡ items → last ≡ prev + n → n ≡ length items → last ≤ seat.limit →
    Made old new (offered_of seat st old from prev prev_term commit items) s
unfolding offered_of
clash_made seat st old new from prev prev_term commit last n p k t items ls is s x c els eis el en le =
    let m : Member = at st (member_of old) in
    let f : first_conflict old.log old.commit prev (prev_term ∷ terms items) ≡ Some (record { place = p; kept = k; told = t }) =
    ap (λ (l : List Item). first_conflict l old.commit prev (prev_term ∷ terms items)) (sym els)
    ∙ ap (λ (l : List Item). first_conflict ls old.commit prev (prev_term ∷ terms l)) (sym eis) ∙ c in
    from_stood old old new st [] (Contradicted p k t) s (offered (seat_of seat) m from prev prev_term commit items) x refl
    (offered_clash (seat_of seat) m from prev prev_term commit items (record { place = p; kept = k; told = t }) (omega (arith, el, en)) f)

pub fits_made : (seat : held.Seat) (st : Standing) (old new : State) (from prev prev_term commit last n : ℕ) (items ls is : List Item)
    (s : Step) →
    Made old new (took_or_not_of seat st old from prev prev_term commit items) s → first_conflict ls old.commit prev
    (prev_term ∷ terms is) ≡ None →
    ls ≡ old.log → is ≡ items → last ≡ prev + n → n ≡ length items → last ≤ seat.limit →
    Made old new (offered_of seat st old from prev prev_term commit items) s
unfolding offered_of took_or_not_of
fits_made seat st old new from prev prev_term commit last n items ls is s x c els eis el en le =
    let m : Member = at st (member_of old) in
    let f : first_conflict old.log old.commit prev (prev_term ∷ terms items) ≡ None =
    ap (λ (l : List Item). first_conflict l old.commit prev (prev_term ∷ terms items)) (sym els)
    ∙ ap (λ (l : List Item). first_conflict ls old.commit prev (prev_term ∷ terms l)) (sym eis) ∙ c in
    subst (λ (o : Outcome). Made old new o s)
    (sym (offered_fits (seat_of seat) m from prev prev_term commit items (omega (arith, el, en)) f)) x

pub older_made : (seat : held.Seat) (st : Standing) (old new : State) (from t prev prev_term commit : ℕ) (items : List Item)
    (out : List Envelope) (s : Step) →
    Stood old new st out Nothing s → out ≡ letter seat.id from (AppendReply st.term false 0) ∷ [] → t < st.term →
    Made old new (append_of seat st old from t prev prev_term commit items) s
unfolding append_of
older_made seat st old new from t prev prev_term commit items out s x eo lt =
    let m : Member = at st (member_of old) in
    from_stood old old new st out Nothing s (on_append (seat_of seat) m from t prev prev_term commit items) x refl
    (append_older (seat_of seat) m from t prev prev_term commit items lt ∙ ap (λ (es : List Envelope). sends m es) (sym eo))

pub append_leads_made : (seat : held.Seat) (st : Standing) (old new : State) (from t prev prev_term commit : ℕ) (items : List Item)
    (b : Bool) (s : Step) →
    Stood old new st [] Nothing s → st.term ≤ t → b ≡ is_leader st.role → b ≡ true → Made old new
    (append_of seat st old from t prev prev_term commit items) s
unfolding append_of
append_leads_made seat st old new from t prev prev_term commit items b s x le e f =
    let m : Member = at st (member_of old) in
    from_stood old old new st [] Nothing s (on_append (seat_of seat) m from t prev prev_term commit items) x refl
    (append_leads (seat_of seat) m from t prev prev_term commit items le (sym e ∙ f))

pub follows_made : (seat : held.Seat) (st : Standing) (old new : State) (from t prev prev_term commit : ℕ) (items : List Item)
    (b : Bool) (s : Step) →
    Made old new (offered_of seat
    (record { term = st.term; vote = st.vote; role = Follower; leader = from }) old from prev prev_term commit items) s →
    st.term ≤ t → b ≡ is_leader st.role → b ≡ false → Made old new (append_of seat st old from t prev prev_term commit items) s
unfolding append_of offered_of
follows_made seat st old new from t prev prev_term commit items b s x le e f =
    let m : Member = at st (member_of old) in
    subst (λ (o : Outcome). Made old new o s) (sym (append_follows (seat_of seat) m from t prev prev_term commit items le (sym e ∙ f))) x

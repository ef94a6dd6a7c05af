-- No core notes a contradiction or an Append beyond its limit, and no replica refuses a Batch.
use Rattle.std.proofs.Common.{◌≡◌, ℕ, zero, suc, ◌+◌, ◌-◌, ◌≤◌, Bool, true, false, not, ◌&&◌, nat_eq, nat_lt, nat_le, if◌then◌else◌, List, [], ◌∷◌, length, slice_get, Option, Some, None, ◌⊎◌, refl, sym, ap, ◌∙◌, subst, inl, inr, arith}
use Rattle.std.proofs.lemmas.Bool.{cases_eq, ltb-true, ltb-false, leb-true, eqb-true, eq-eqb, and_parts}
use Rattle.std.proofs.lemmas.Option.{slice_get_within}
use Rattle.ncc_tx.specs.declared.entry.Item.{Item}
use Rattle.ncc_tx.specs.Kept.{term_at, term_of, terms}
use Rattle.ncc_raft.specs.declared.message.Envelope.{Envelope}
use Rattle.ncc_raft.specs.declared.message.Body.{Body}
use Rattle.ncc_raft.specs.declared.message.Body.TheVariants.{VoteAsk, VoteReply, Append, AppendReply, Pull, Batch}
use Rattle.ncc_raft.specs.declared.message.Note.TheVariants as notes
use Rattle.ncc_raft.specs.Member.{Seat, Member, Outcome, letter, is_core, is_leader, is_candidate}
use Rattle.ncc_raft.specs.Member as core
use Rattle.ncc_raft.specs.Logs.{Conflict, first_conflict}
use Rattle.ncc_raft.specs.Elections.{raised, is_spent, may_vote, counted, is_elected}
use Rattle.ncc_raft.specs.Appending.{follows, contradicted, has_prev}
use Rattle.ncc_raft.specs.Step.{may_add, on_vote_reply, took_or_not, unless, on_append, on_append_reply, on_body, lifted, heard, settled, step}
use Rattle.ncc_raft.specs.Pulled.{Taken, Grown, Gap, Stale, Contradicted, taken}
use Rattle.ncc_raft.specs.Pulled as pulled
use Rattle.ncc_safety.specs.Lists.{Agree, IsCut}
use Rattle.ncc_safety.specs.Cluster.{Cluster, seat_of}
use Rattle.ncc_safety.specs.Laws.{IsHarmless, NeverNoted, IsContradicted, NeverRefused}
use Rattle.ncc_safety.specs.Nine.{Cut}
use Rattle.ncc_safety.specs.Run.{Act, Timeout, Beat, Propose, Deliver, Acts, Pulls, Crash, Interrupt, Send, Serve, message, outcome, note_where, note_at, note_of_act}
use Rattle.ncc_safety.specs.Sentences.{IsCommitted, Front, IsPlaced}
use Rattle.ncc_safety.specs.Steps.{Sent}
use Rattle.ncc_safety.proofs.Agree.{cut_fits}
use Rattle.ncc_safety.proofs.Commits.{chosen_leads}
use Rattle.ncc_safety.proofs.CommitSteps.{one_commit_of}
use Rattle.ncc_safety.proofs.Fronts.{front_in}
use Rattle.ncc_safety.proofs.Nines.{cuts_of}
use Rattle.ncc_safety.proofs.Runs.{message_sent}
use Rattle.ncc_safety.proofs.Sane.{Sane}
use Rattle.ncc_safety.proofs.Whole.{CanCome}

-- ---- no conflict

-- where each told term that counts is the log's
no_conflict : (log : List Item) (last place : ℕ) (ts : List ℕ) →
    ((k t : ℕ) → slice_get ts k ≡ Some t → place + k ≤ last → term_at log (place + k) ≡ t) → first_conflict log last place ts ≡ None
unfolding first_conflict
no_conflict log last place [] h = refl
no_conflict log last place (t ∷ ts) h =
    go (no_conflict log last (suc place) ts (λ k u e l. let s : suc place + k ≡ place + suc k = omega arith in
    rw s (h (suc k) u e (omega arith)))) (nat_le place last && not (nat_eq (term_at log place) t)) refl
  where
    here : place ≤ last → term_at log place ≡ t
    here l = let z : place + 0 ≡ place = omega arith in subst (λ p. term_at log p ≡ t) z (h 0 t refl (omega arith))

    go : first_conflict log last (suc place) ts ≡ None → (b : Bool) → (nat_le place last && not (nat_eq (term_at log place) t)) ≡ b →
        (if b then Some (record { place = place; kept = term_at log place; told = t }) else first_conflict log last (suc place) ts) ≡ None
    go rest false e = rest
    go rest true e =
        let p = and_parts (nat_le place last) (not (nat_eq (term_at log place) t)) e in
        let q = eq-eqb (term_at log place) t (here (leb-true place last p.0)) in
        absurd (cc)

get_terms : (items : List Item) (k t : ℕ) → slice_get (terms items) k ≡ Some t → (x : Item) × (slice_get items k ≡ Some x) × (x.term ≡ t)
get_terms [] k t e = absurd (cc)
get_terms (x ∷ xs) zero t e = (x, refl, cc)
get_terms (x ∷ xs) (suc k) t e = get_terms xs k t e

-- terms that are told of a cut, where a log agrees with what it is cut from
told_terms : (log lead : List Item) (last prev pterm : ℕ) (items : List Item) → Agree last log lead → term_at lead prev ≡ pterm →
    IsCut lead prev items → first_conflict log last prev (pterm ∷ terms items) ≡ None
told_terms log lead last prev pterm items a e c = no_conflict log last prev (pterm ∷ terms items) each
  where
    same : (p : ℕ) → p ≤ last → term_at log p ≡ term_at lead p
    same zero l = refl
    same (suc q) l = ap term_of (a q l)

    each : (k t : ℕ) → slice_get (pterm ∷ terms items) k ≡ Some t → prev + k ≤ last → term_at log (prev + k) ≡ t
    each zero t q l =
        let z : prev + 0 ≡ prev = omega arith in
        let pt : pterm ≡ t = cc in
        rw z (same prev (omega arith) ∙ e ∙ pt)
    each (suc k) t q l =
        let s : prev + suc k ≡ suc (prev + k) = omega arith in
        let x = get_terms items k t q in
        rw s (ap term_of (a (prev + k) (omega arith) ∙ c k x.0 x.1) ∙ x.2)

-- ---- an Append

-- of the own term or a later one
module _ (c : Cluster) (i t prev pterm : ℕ) (items : List Item) (k : Sane c) (cut : Cut c t prev pterm items) (le : (c.at i).term ≤ t) where
  not_contradicted : contradicted (c.at i) prev pterm items ≡ None
  not_contradicted = go (cases_eq (c.records.owner t) 0) (k.commits.members i)
    where
      nothing : (lead : List Item) → lead ≡ [] → prev ≤ length lead → term_at lead prev ≡ pterm → IsCut lead prev items →
          (prev ≡ 0) × (0 ≡ pterm) × (items ≡ [])
      nothing lead e lo same cut = empty (items) refl
        where
          p : prev ≡ 0
          p = let z : length lead ≡ 0 = ap length e in omega arith

          pt : 0 ≡ pterm
          pt = let P : ℕ → Type 0 = λ v. term_at lead v ≡ pterm in subst P p same

          empty : (is : List Item) → items ≡ is → (prev ≡ 0) × (0 ≡ pterm) × (items ≡ [])
          empty [] q = (p, pt, q)
          empty (x ∷ xs) q =
              let f : slice_get items 0 ≡ Some x = ap (λ w. slice_get w 0) q in
              let g = cut 0 x f in
              let w = slice_get_within lead (prev + 0) x g in
              let z : length lead ≡ 0 = ap length e in
              absurd (omega arith)

      go : (c.records.owner t ≡ 0) ⊎ (c.records.owner t ≡ 0 → ⊥) →
          IsCommitted c.cores c.records (c.at i).term (c.at i).commit (c.at i).log → contradicted (c.at i) prev pterm items ≡ None
      go (inl o) x =
          let n = nothing (c.records.lead t) (k.logs.records.no_lead t o) cut.low cut.same cut.cut in
          let P : ℕ → ℕ → List Item → Type 0 = λ a b is. first_conflict (c.at i).log (c.at i).commit a (b ∷ terms is) ≡ None in
          subst (λ a. P a pterm items) (sym n.0) (subst (λ b. P 0 b items) n.1 (subst (λ is. P 0 0 is) (sym n.2) zero_alone))
        where
          zero_alone : first_conflict (c.at i).log (c.at i).commit 0 (0 ∷ terms []) ≡ None
          zero_alone = no_conflict (c.at i).log (c.at i).commit 0 (0 ∷ []) each
            where
              each : (q u : ℕ) → slice_get (0 ∷ []) q ≡ Some u → 0 + q ≤ (c.at i).commit → term_at (c.at i).log (0 + q) ≡ u
              each zero u e l = let z : 0 ≡ u = cc in z
              each (suc q) u e l = absurd (cc)
      go (inr o) (inl z) = told_terms (c.at i).log (c.records.lead t) (c.at i).commit prev pterm items (λ j l. absurd (omega arith))
          cut.same cut.cut
      go (inr o) (inr x) =
          let early = x.early in
          let e = chosen_leads c x.term x.place t k.safe x.chosen o (omega arith) in
          let b = x.below in
          told_terms (c.at i).log (c.records.lead t) (c.at i).commit prev pterm items (λ j l. x.agree j l ∙ e j (omega arith)) cut.same
          cut.cut

  not_beyond : nat_lt c.limit (prev + length items) ≡ false
  not_beyond = go (nat_lt c.limit (prev + length items)) refl
    where
      go : (b : Bool) → nat_lt c.limit (prev + length items) ≡ b → b ≡ false
      go false e = refl
      go true e =
          let l = ltb-true c.limit (prev + length items) e in
          let f = cut_fits (c.records.lead t) prev items cut.low cut.cut in
          let g = k.fits t in
          absurd (omega arith)

-- ---- notes

if_harmless : (b : Bool) (x y : Outcome) → (b ≡ true → IsHarmless x.note) → (b ≡ false → IsHarmless y.note) →
    IsHarmless (if b then x else y).note
if_harmless true x y p q = p refl
if_harmless false x y p q = q refl

settled_harmless : (seat : Seat) (o : Outcome) → IsHarmless o.note → IsHarmless (settled seat o).note
settled_harmless seat o h = if_harmless (is_leader o.member.role) _ o (λ b. h) (λ b. h)

append_harmless : (c : Cluster) (i from t prev pterm commit : ℕ) (items : List Item) → Sane c → Cut c t prev pterm items → (m : Member) →
    m.log ≡ (c.at i).log → m.commit ≡ (c.at i).commit → (nat_lt t m.term ≡ false → (c.at i).term ≤ t) →
    IsHarmless (on_append (seat_of c i) m from t prev pterm commit items).note
append_harmless c i from t prev pterm commit items k cut m el ec low =
    if_harmless (nat_lt t m.term) _ _ (λ b. tt) (λ b.
    if_harmless (is_leader m.role) _ _ (λ b1. tt) (λ b1.
    if_harmless (nat_lt c.limit (prev + length items)) _ _ (λ b2. let z = not_beyond c i t prev pterm items k cut (low b) in absurd (cc))
    (λ b2. judge (contradicted (follows m from) prev pterm items) (same (low b)))))
  where
    same : (c.at i).term ≤ t → contradicted (follows m from) prev pterm items ≡ None
    same le = ap (λ log. first_conflict log m.commit prev (pterm ∷ terms items)) el ∙ ap
        (λ last. first_conflict (c.at i).log last prev (pterm ∷ terms items)) ec ∙ not_contradicted c i t prev pterm items k cut le

    judge : (x : Option Conflict) → x ≡ None →
        IsHarmless (unless x (follows m from) (took_or_not (seat_of c i) (follows m from) from prev pterm commit items)).note
    judge (Some x) e = absurd (cc)
    judge None e = if_harmless (has_prev (follows m from) prev pterm) _ _ (λ b. tt) (λ b. tt)

body_harmless : (c : Cluster) (i from : ℕ) (b : Body) → Sane c → Sent c (letter from i b) →
    IsHarmless (on_body (seat_of c i) (lifted (c.at i) b) from b).note
body_harmless c i from (VoteAsk t place last) k s =
    if_harmless (may_vote (lifted (c.at i) (VoteAsk t place last)) from t place last) _ _ (λ b. tt) (λ b. tt)
body_harmless c i from (VoteReply t granted) k s = go (lifted (c.at i) (VoteReply t granted))
  where
    go : (m : Member) → IsHarmless (on_vote_reply (seat_of c i) m from t granted).note
    go m = if_harmless (is_candidate m.role && nat_eq m.term t && granted) _ _
        (λ b. if_harmless (is_elected (seat_of c i) (counted m from)) _ _ (λ b1. tt) (λ b1. tt)) (λ b. tt)
body_harmless c i from (Append t prev pterm commit items) k s = go (nat_lt (c.at i).term t) refl
  where
    cut : Cut c t prev pterm items
    cut = cuts_of c k from i t prev pterm commit items s

    go : (b : Bool) → nat_lt (c.at i).term t ≡ b →
        IsHarmless (on_append (seat_of c i) (if b then raised (c.at i) t else c.at i) from t prev pterm commit items).note
    go true e = append_harmless c i from t prev pterm commit items k cut (raised (c.at i) t) refl refl
        (λ z. let l = ltb-true (c.at i).term t e in omega arith)
    go false e = append_harmless c i from t prev pterm commit items k cut (c.at i) refl refl (λ z. let l = ltb-false t (c.at i).term z in l)
body_harmless c i from (AppendReply t has place) k s = go (lifted (c.at i) (AppendReply t has place)) has
  where
    go : (m : Member) (b : Bool) → IsHarmless (on_append_reply (seat_of c i) m from t b place).note
    go m true = if_harmless (is_leader m.role && nat_eq m.term t) _ _ (λ b. tt) (λ b. tt)
    go m false = if_harmless (is_leader m.role && nat_eq m.term t) _ _ (λ b. tt) (λ b. tt)
body_harmless c i from (Pull have) k s = tt
body_harmless c i from (Batch first items) k s = tt

pub step_harmless : (c : Cluster) (i : ℕ) (event : core.Event) → Sane c → CanCome c event → IsHarmless (outcome c i event).note
unfolding step
step_harmless c i core.Timeout k s =
    settled_harmless (seat_of c i) _
    (if_harmless (is_leader (c.at i).role) _ _ (λ b. tt) (λ b. if_harmless (is_spent (c.at i)) _ _ (λ b1. tt) (λ b1. tt)))
step_harmless c i core.Beat k s = settled_harmless (seat_of c i) _ (if_harmless (is_leader (c.at i).role) _ _ (λ b. tt) (λ b. tt))
step_harmless c i (core.Propose entry) k s =
    settled_harmless (seat_of c i) _ (if_harmless (may_add (seat_of c i) (c.at i)) _ _ (λ b. tt) (λ b. tt))
step_harmless c i (core.Receive e) k s =
    if_harmless (heard (seat_of c i) e) _ _
    (λ b.
    let p = and_parts (nat_eq e.to i) _ b in
    let s' : Sent c (letter e.from i e.body) = subst (λ t. Sent c (letter e.from t e.body)) (eqb-true e.to i p.0) s in
    settled_harmless (seat_of c i) _ (body_harmless c i e.from e.body k s'))
    (λ b. tt)

where_harmless : (c : Cluster) (i : ℕ) (event : core.Event) → Sane c → CanCome c event → IsHarmless (note_where c i event)
where_harmless c i event k s = go (is_core c.cores i)
  where
    go : (b : Bool) → IsHarmless (if b then (outcome c i event).note else notes.Nothing)
    go true = step_harmless c i event k s
    go false = tt

at_harmless : (c : Cluster) (o : Option Envelope) → Sane c → ((e : Envelope) → o ≡ Some e → Sent c e) → IsHarmless (note_at c o)
at_harmless c None k s = tt
at_harmless c (Some e) k s = where_harmless c e.to (core.Receive e) k (s e refl)

act_harmless : (c : Cluster) (act : Act) → Sane c → IsHarmless (note_of_act c act)
act_harmless c (Timeout i) k = where_harmless c i core.Timeout k tt
act_harmless c (Beat i) k = where_harmless c i core.Beat k tt
act_harmless c (Propose i entry) k = where_harmless c i (core.Propose entry) k tt
act_harmless c (Deliver n) k = at_harmless c (message c n) k (λ e q. message_sent c n e q)

pub never_noted : (c : Cluster) → Sane c → NeverNoted c
never_noted c k (Acts act) = act_harmless c act k
never_noted c k (Interrupt act commit) = act_harmless c act k
never_noted c k (Crash i commit) = tt
never_noted c k (Pulls j i) = tt
never_noted c k (Send i to prev count commit) = tt
never_noted c k (Serve i to before count) = tt

-- ---- replicas

-- a Batch of what was chosen does not contradict a list that was chosen
batch_agrees : (c : Cluster) (xs : List Item) (before : ℕ) (items : List Item) → Sane c → Front c.cores c.records xs →
    IsPlaced c.cores c.records before items → first_conflict xs (length xs) (before + 1) (terms items) ≡ None
batch_agrees c xs before items k f p = no_conflict xs (length xs) (before + 1) (terms items) (λ q t e l. each q t e l p)
  where
    each : (q t : ℕ) → slice_get (terms items) q ≡ Some t → before + 1 + q ≤ length xs → IsPlaced c.cores c.records before items →
        term_at xs (before + 1 + q) ≡ t
    each q t e l (inl z) = let x = get_terms items q t e in let w = slice_get_within items q x.0 x.1 in absurd (omega arith)
    each q t e l (inr p) =
        let x = get_terms items q t e in
        let w = slice_get_within items q x.0 x.1 in
        let s : before + 1 + q ≡ suc (before + q) = omega arith in
        rw s (ap term_of (front_in c k.logs k.safe xs before items f p (before + q) (omega arith) (omega arith) ∙ p.cut q x.0 x.1) ∙ x.2)

pub never_refused : (c : Cluster) → Sane c → NeverRefused c
unfolding taken
never_refused c k i to first items j s =
    let b = one_commit_of c.cores c.records c.sent s.0 (letter i to (Batch first items)) k.commits.messages s.1 in
    let none = subst (λ f. first_conflict (c.lists j) (length (c.lists j)) f (terms items) ≡ None) (sym b.1)
    (batch_agrees c (c.lists j) b.0 items k (k.fronts.lists j) b.2) in
    go (nat_lt (length (c.lists j) + 1) first) (nat_le (first + length items) (length (c.lists j) + 1))
    (first_conflict (c.lists j) (length (c.lists j)) first (terms items)) none
  where
    go : (a b : Bool) (x : Option Conflict) → x ≡ None →
        IsContradicted (if a then Gap (length (c.lists j)) first else
        (if b then Stale (length (c.lists j)) (first + length items - 1) else pulled.grown (c.lists j) first items x)) → ⊥
    go true b x e q = q
    go false true x e q = q
    go false false (Some x) e q = absurd (cc)
    go false false None e q = q

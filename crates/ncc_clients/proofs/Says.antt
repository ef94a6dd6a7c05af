-- What a member answers, case by case.
use Rattle.std.proofs.Common.{◌≡◌, ℕ, zero, suc, ◌-◌, ◌<◌, ◌≤◌, Bool, true, false, not, cond, List, [], ◌∷◌, length, take, Option, None}
use Rattle.std.proofs.Common.{Some, refl, ap, sym, ◌∙◌, arith, subst, leb-true}
use Rattle.std.specs.Prelude.{slice_get, nat_eq, nat_le, nat_lt, ◌&&◌, if◌then◌else◌, Ok, Err}
use Rattle.ncc_wait.specs.Waiting.{outcome_of}
use Rattle.ncc_wait.specs.declared.outcomes.Outcome.{Outcome}
use Rattle.ncc_wait.specs.declared.outcomes.Outcome.TheVariants.{Ready, NotYet, Late as IsLate}
use Rattle.ncc_store.specs.declared.call.Call.{Call}
use Rattle.ncc_store.specs.declared.fault.RunFault.{RunFault}
use Rattle.ncc_store.specs.Graph.{Graph}
use Rattle.ncc_store.specs.Sum.{Answer}
use Rattle.ncc_store.specs.Exec.{Ended, exec}
use Rattle.ncc_tx.specs.declared.entry.Item.{Item}
use Rattle.ncc_tx.specs.declared.stamp.Stamp.{Stamp}
use Rattle.ncc_tx.specs.State.{state, state_from, stamps, stamps_from, stamp_at, after}
use Rattle.ncc_apply.specs.View.{stamp_of}
use Rattle.ncc_session.specs.declared.ask.Fact.{Fact}
use Rattle.ncc_session.specs.declared.ask.Fact.TheVariants.{Entered, Late, Rows, Faulted, Done, Unsure, Elsewhere, Routed}
use Rattle.ncc_session.specs.Question.{Question, enter, run, leave, leave_noop, route, Row, last_writes, some_writes}
use Rattle.ncc_clients.specs.Members.{Cluster, applied, at_of}
use Rattle.ncc_clients.specs.Run.{Run, Client, Placing, waits, tells, proposes, question_of, deadline_of, last_rows, ran, enters, found}
use Rattle.ncc_clients.specs.Run.{found_at, lands, leaves, answers, reply, reply_by}
use Rattle.ncc_clients.proofs.Lists.{get_within}

-- an item of a list at a place, and what a waiting proposal is told of it
pub record Finds (list : List Item) (p : Placing) (fact : Fact) : Type 0 where
  pub item : Item
  pub positive : 0 < p.place
  pub reached : p.place ≤ length list
  pub there : slice_get list (p.place - 1) ≡ Some item
  pub fact_is : fact ≡ found_at p (stamp_at (state (take (p.place - 1) list)) item)

-- the facts that a member may tell to a question, each with its cause
pub data Says {S : Type 0} (C : Cluster S) (r : Run S) (c : Client) : Question → Fact → Type 0 where
  says_entered : (need : ℕ) → need ≤ at_of C r.members c.member → Says C r c (enter need) (Entered (at_of C r.members c.member))
  says_late : (need : ℕ) → outcome_of (at_of C r.members c.member) need r.now (deadline_of C c) ≡ IsLate
      → Says C r c (enter need) (Late need (at_of C r.members c.member) r.now)
  says_rows : (calls : List Call) (end : Ended) → exec (state (applied C r.members c.member)) calls ≡ Ok end
      → Says C r c (run calls) (Rows (at_of C r.members c.member) (last_rows end.rows))
  says_faulted : (calls : List Call) (fault : RunFault) → exec (state (applied C r.members c.member)) calls ≡ Err fault
      → Says C r c (run calls) (Faulted (at_of C r.members c.member) fault)
  says_elsewhere : (calls : List Call) → last_writes calls ≡ true → C.leads r.members c.member ≡ false → Says C r c (run calls) Elsewhere
  says_done : (calls : List Call) (told : List (List Row)) → some_writes calls ≡ false
      → Says C r c (leave calls told) (Done (at_of C r.members c.member))
  says_nothing : Says C r c leave_noop (Done (at_of C r.members c.member))
  says_found : (calls : List Call) (told : List (List Row)) (p : Placing) (fact : Fact) → some_writes calls ≡ true → c.placing ≡ Some p
      → Finds (applied C r.members c.member) p fact → Says C r c (leave calls told) fact
  says_unsure : (calls : List Call) (told : List (List Row)) (p : Placing) → some_writes calls ≡ true → c.placing ≡ Some p
      → outcome_of (at_of C r.members c.member) p.place r.now (deadline_of C c) ≡ IsLate
      → Says C r c (leave calls told) (Unsure p.place (at_of C r.members c.member) r.now)
  says_routed : Says C r c route (Routed (C.leader r.members c.member))

tells_same : (a b : Fact) → tells a ≡ tells b → a ≡ b
tells_same a b e = cc

pub ready_reaches : (at need now deadline : ℕ) → outcome_of at need now deadline ≡ Ready → need ≤ at
ready_reaches at need now deadline e = go (nat_le need at) refl e where
  go : (b : Bool) → nat_le need at ≡ b → cond b Ready (cond (nat_lt deadline now) IsLate NotYet) ≡ Ready → need ≤ at
  go true h e = leb-true need at h
  go false h e = absurd (go_late (nat_lt deadline now) e) where
    go_late : (b : Bool) → cond b IsLate NotYet ≡ Ready → ⊥
    go_late true e = cc
    go_late false e = cc

-- ---- stamps

stamp_item : (g : Graph) (h : List Item) (k : ℕ) (s : Stamp) → slice_get (stamps_from g h) k ≡ Some s
    → (item : Item) × (slice_get h k ≡ Some item) × (s ≡ stamp_at (state_from g (take k h)) item)
unfolding stamps_from state_from
stamp_item g [] k s e = absurd (cc)
stamp_item g (i ∷ is) zero s e = (i, refl, (let same : stamp_at g i ≡ s = cc in sym same))
stamp_item g (i ∷ is) (suc k) s e = stamp_item (after g i.entry) is k s e

pub stamp_there : (g : Graph) (h : List Item) (k : ℕ) (item : Item) → slice_get h k ≡ Some item
    → slice_get (stamps_from g h) k ≡ Some (stamp_at (state_from g (take k h)) item)
unfolding stamps_from state_from
stamp_there g [] k item e = absurd (cc)
stamp_there g (i ∷ is) zero item e = let same : i ≡ item = cc in ap (λ x. Some (stamp_at g x)) same
stamp_there g (i ∷ is) (suc k) item e = stamp_there (after g i.entry) is k item e

not_zero : (n : ℕ) → nat_eq n 0 ≡ false → 0 < n
not_zero zero h = absurd (let f : true ≡ false = h in cc)
not_zero (suc n) h = omega arith

-- a stamp of a place is that of the item there
finds_by : (list : List Item) (p : Placing) (fact : Fact) (b : Bool) → nat_eq p.place 0 ≡ b
    → found p (if b then None else slice_get (stamps list) (p.place - 1)) ≡ tells fact → Finds list p fact
finds_by list p fact true h e = absurd (let f : waits ≡ tells fact = e in cc)
finds_by list p fact false h e = go (slice_get (stamps list) (p.place - 1)) refl e where
  go : (o : Option Stamp) → slice_get (stamps list) (p.place - 1) ≡ o → found p o ≡ tells fact → Finds list p fact
  go None g f = absurd (let k : waits ≡ tells fact = f in cc)
  go (Some s) g f =
      let i = stamp_item _ list (p.place - 1) s g in
      let positive : 0 < p.place = not_zero p.place h in
      record {
        item = i.0;
        positive = positive;
        reached = omega (arith, positive, get_within list (p.place - 1) i.0 i.1);
        there = i.1;
        fact_is = sym (tells_same (found_at p s) fact f) ∙ ap (found_at p) i.2;
      }

module _ {S : Type 0} (C : Cluster S) (r : Run S) (c : Client) where
  abbrev list : List Item
  list = applied C r.members c.member

  abbrev at : ℕ
  at = at_of C r.members c.member

  to_enter : (need : ℕ) (fact : Fact) (o : Outcome) → outcome_of at need r.now (deadline_of C c) ≡ o → enters at need r.now o ≡ tells fact
      → Says C r c (enter need) fact
  to_enter need fact Ready h e = subst (Says C r c (enter need)) (tells_same _ _ e)
      (says_entered need (ready_reaches at need r.now (deadline_of C c) h))
  to_enter need fact NotYet h e = absurd (cc)
  to_enter need fact IsLate h e = subst (Says C r c (enter need)) (tells_same _ _ e) (says_late need h)

  to_ran : (calls : List Call) (fact : Fact) (o : Answer Ended) → exec (state list) calls ≡ o → tells (ran at o) ≡ tells fact
      → Says C r c (run calls) fact
  to_ran calls fact (Ok end) h e = subst (Says C r c (run calls)) (tells_same _ _ e) (says_rows calls end h)
  to_ran calls fact (Err fault) h e = subst (Says C r c (run calls)) (tells_same _ _ e) (says_faulted calls fault h)

  to_run : (calls : List Call) (fact : Fact) (w l : Bool) → last_writes calls ≡ w → C.leads r.members c.member ≡ l
      → (if w && not l then tells Elsewhere else tells (ran at (exec (state list) calls))) ≡ tells fact → Says C r c (run calls) fact
  to_run calls fact true true h k e = to_ran calls fact (exec (state list) calls) refl e
  to_run calls fact true false h k e = subst (Says C r c (run calls)) (tells_same _ _ e) (says_elsewhere calls h k)
  to_run calls fact false l h k e = to_ran calls fact (exec (state list) calls) refl e

  to_land : (calls : List Call) (told : List (List Row)) (fact : Fact) (p : Placing) (o : Outcome) → some_writes calls ≡ true
      → c.placing ≡ Some p → outcome_of at p.place r.now (deadline_of C c) ≡ o → lands list r.now p o ≡ tells fact
      → Says C r c (leave calls told) fact
  to_land calls told fact p Ready w is h e = says_found calls told p fact w is (finds_by list p fact (nat_eq p.place 0) refl e)
  to_land calls told fact p NotYet w is h e = absurd (let k : waits ≡ tells fact = e in cc)
  to_land calls told fact p IsLate w is h e = subst (Says C r c (leave calls told)) (tells_same _ _ e) (says_unsure calls told p w is h)

  to_leave : (calls : List Call) (told : List (List Row)) (fact : Fact) (w : Bool) (o : Option Placing) → some_writes calls ≡ w
      → c.placing ≡ o → leaves list r.now (deadline_of C c) w o ≡ tells fact → Says C r c (leave calls told) fact
  to_leave calls told fact false o w is e = subst (Says C r c (leave calls told)) (tells_same _ _ e) (says_done calls told w)
  to_leave calls told fact true None w is e = absurd (let k : proposes ≡ tells fact = e in cc)
  to_leave calls told fact true (Some p) w is e = to_land calls told fact p (outcome_of at p.place r.now (deadline_of C c)) w is refl e

  to_answer : (q : Question) (fact : Fact) → answers C r c q ≡ tells fact → Says C r c q fact
  to_answer (enter need) fact e = to_enter need fact (outcome_of at need r.now (deadline_of C c)) refl e
  to_answer (run calls) fact e = to_run calls fact (last_writes calls) (C.leads r.members c.member) refl refl e
  to_answer (leave calls told) fact e = to_leave calls told fact (some_writes calls) c.placing refl refl e
  to_answer leave_noop fact e = subst (Says C r c leave_noop) (tells_same _ _ e) says_nothing
  to_answer route fact e = subst (Says C r c route) (tells_same _ _ e) says_routed

  -- an answer is to a question
  pub record Answered (fact : Fact) : Type 0 where
    pub question : Question
    pub asks : question_of C c ≡ Some question
    pub says : Says C r c question fact

  to_reply : (fact : Fact) (o : Option Question) → question_of C c ≡ o → reply_by C r c o ≡ tells fact → Answered fact
  to_reply fact None h e = absurd (let k : waits ≡ tells fact = e in cc)
  to_reply fact (Some q) h e = record { question = q; asks = h; says = to_answer q fact e }

  pub is_said : (fact : Fact) → reply C r c ≡ tells fact → Answered fact
  unfolding reply
  is_said fact e = to_reply fact (question_of C c) refl e

  -- ---- what is proposed

  pub record Offered : Type 0 where
    pub calls : List Call
    pub told : List (List Row)
    pub asks : question_of C c ≡ Some (leave calls told)
    pub writes : some_writes calls ≡ true
    pub none : c.placing ≡ None

  not_land : (p : Placing) (o : Outcome) → lands list r.now p o ≡ proposes → ⊥
  not_land p Ready e = go (stamp_of p.place (stamps list)) e where
    go : (o : Option Stamp) → found p o ≡ proposes → ⊥
    go None e = let k : waits ≡ proposes = e in cc
    go (Some s) e = let k : tells (found_at p s) ≡ proposes = e in cc
  not_land p NotYet e = let k : waits ≡ proposes = e in cc
  not_land p IsLate e = cc

  offers_leave : (calls : List Call) (told : List (List Row)) (w : Bool) (o : Option Placing) → question_of C c ≡ Some (leave calls told)
      → some_writes calls ≡ w → c.placing ≡ o → leaves list r.now (deadline_of C c) w o ≡ proposes → Offered
  offers_leave calls told false o h w is e = absurd (let k : tells (Done at) ≡ proposes = e in cc)
  offers_leave calls told true None h w is e = record { calls = calls; told = told; asks = h; writes = w; none = is }
  offers_leave calls told true (Some p) h w is e = absurd (not_land p (outcome_of at p.place r.now (deadline_of C c)) e)

  not_enter : (need : ℕ) (o : Outcome) → enters at need r.now o ≡ proposes → ⊥
  not_enter need Ready e = cc
  not_enter need NotYet e = cc
  not_enter need IsLate e = cc

  not_run : (b : Bool) (f g : Fact) → (if b then tells f else tells g) ≡ proposes → ⊥
  not_run true f g e = cc
  not_run false f g e = cc

  to_offer : (o : Option Question) → question_of C c ≡ o → reply_by C r c o ≡ proposes → Offered
  to_offer None h e = absurd (let k : waits ≡ proposes = e in cc)
  to_offer (Some (enter need)) h e = absurd (not_enter need (outcome_of at need r.now (deadline_of C c)) e)
  to_offer (Some (run calls)) h e =
      absurd (not_run (last_writes calls && not (C.leads r.members c.member)) Elsewhere (ran at (exec (state list) calls)) e)
  to_offer (Some (leave calls told)) h e = offers_leave calls told (some_writes calls) c.placing h refl refl e
  to_offer (Some leave_noop) h e = absurd (let k : tells (Done at) ≡ proposes = e in cc)
  to_offer (Some route) h e = absurd (let k : tells (Routed (C.leader r.members c.member)) ≡ proposes = e in cc)

  pub is_offered : reply C r c ≡ proposes → Offered
  unfolding reply
  is_offered e = to_offer (question_of C c) refl e

-- At rest only those wait who have to.
use Rattle.std.proofs.Common.{◌≡◌, ℕ, ◌-◌, ◌<◌, ◌≤◌, Bool, true, false, not, List, length, Option, None, Some, refl, arith, eqb-true}
use Rattle.std.specs.Prelude.{slice_get, ◌&&◌, if◌then◌else◌, nat_eq}
use Rattle.ncc_wait.specs.Waiting.{outcome_of}
use Rattle.ncc_wait.specs.declared.outcomes.Outcome.{Outcome}
use Rattle.ncc_wait.specs.declared.outcomes.Outcome.TheVariants.{Ready, NotYet, Late as IsLate}
use Rattle.ncc_store.specs.declared.call.Call.{Call}
use Rattle.ncc_store.specs.Exec.{exec}
use Rattle.ncc_tx.specs.declared.entry.Item.{Item}
use Rattle.ncc_tx.specs.declared.stamp.Stamp.{Stamp}
use Rattle.ncc_tx.specs.State.{state, stamps}
use Rattle.ncc_apply.specs.View.{stamp_of}
use Rattle.ncc_session.specs.declared.ask.Fact.{Fact}
use Rattle.ncc_session.specs.declared.ask.Fact.TheVariants.{Elsewhere}
use Rattle.ncc_session.specs.Question.{Question, enter, run, leave, leave_noop, route, Row, last_writes, some_writes}
use Rattle.ncc_clients.specs.Members.{Cluster, applied}
use Rattle.ncc_clients.specs.Run.{Run, Client, Placing, tells, begun, question_of, deadline_of, enters, ran, found, lands}
use Rattle.ncc_clients.specs.Run.{leaves, reply, reply_by}
use Rattle.ncc_clients.specs.Moment.{Path}
use Rattle.ncc_clients.specs.Four.{Four}
use Rattle.ncc_clients.specs.Turn.{acts, is_answer, AtRest, MayWait, WaitsFor, NobodyIsForgotten}
use Rattle.ncc_clients.proofs.Lists.{all_get, all_from, get_there, nobody_passes}
use Rattle.ncc_clients.proofs.Known.{Known}
use Rattle.ncc_clients.proofs.Lives.{asks_live}
use Rattle.ncc_clients.proofs.Says.{ready_reaches, stamp_there}
use Rattle.ncc_clients.proofs.Sound.{Waits}
use Rattle.ncc_clients.proofs.Keeping.{sound_at}

-- who asks is not closed
pub open_by : (b : Bool) (o : Option Question) (q : Question) → (if b then None else o) ≡ Some q → b ≡ false
open_by true o q e = absurd (let f : None ≡ Some q = e in cc)
open_by false o q e = refl

-- who acts does not wait
busy : {P : Type 0} → true ≡ false → P
busy e = absurd (let f : true ≡ false = e in cc)

-- the stamp of a place within a list is there
stamp_is : (list : List Item) (place : ℕ) → 0 < place → place ≤ length list → (s : Stamp) × (stamp_of place (stamps list) ≡ Some s)
stamp_is list place some less = go (nat_eq place 0) refl where
  x : (item : Item) × (slice_get list (place - 1) ≡ Some item)
  x = get_there list (place - 1) (omega (arith, some, less))

  go : (b : Bool) → nat_eq place 0 ≡ b → (s : Stamp) × ((if b then None else slice_get (stamps list) (place - 1)) ≡ Some s)
  go true e = absurd (omega (arith, some, eqb-true place 0 e))
  go false e = (_, stamp_there _ list (place - 1) x.0 x.1)

module _ {S : Type 0} (C : Cluster S) (start : S) (known : Known) (four : Four C start) (r : Run S) (from : Path C (begun start) r) where
  module _ (i : ℕ) (c : Client) (there : slice_get r.clients i ≡ Some c) where
    abbrev list : List Item
    list = applied C r.members c.member

    to_enter : (need : ℕ) (o : Outcome) → outcome_of (length list) need r.now (deadline_of C c) ≡ o
        → is_answer (enters (length list) need r.now o) ≡ false → o ≡ NotYet
    to_enter need Ready h e = busy e
    to_enter need NotYet h e = refl
    to_enter need IsLate h e = busy e

    to_run : (b : Bool) (f g : Fact) → is_answer (if b then tells f else tells g) ≡ false → ⊥
    to_run true f g e = busy e
    to_run false f g e = busy e

    to_find : (p : Placing) (o : Option Stamp) (s : Stamp) → o ≡ Some s → is_answer (found p o) ≡ false → ⊥
    to_find p None s h e = let f : None ≡ Some s = h in cc
    to_find p (Some x) s h e = busy e

    to_land : (calls : List Call) (p : Placing) (o : Outcome) → 0 < p.place → outcome_of (length list) p.place r.now (deadline_of C c) ≡ o
        → is_answer (lands list r.now p o) ≡ false → o ≡ NotYet
    to_land calls p Ready some h e =
        let s = stamp_is list p.place some (ready_reaches (length list) p.place r.now (deadline_of C c) h) in
        absurd (to_find p (stamp_of p.place (stamps list)) s.0 s.1 e)
    to_land calls p NotYet some h e = refl
    to_land calls p IsLate some h e = busy e

    to_leave : (calls : List Call) (told : List (List Row)) (w : Bool) (o : Option Placing) → some_writes calls ≡ w
        → Waits C start r i c o → is_answer (leaves list r.now (deadline_of C c) w o) ≡ false → WaitsFor C r c (leave calls told) o
    to_leave calls told false o w k e = busy e
    to_leave calls told true None w k e = busy e
    to_leave calls told true (Some p) w k e =
        let x = k.proposal in
        let b = four.behind x.then_ i x.it x.entry p.place p.term x.after k.from x.accepts in
        (w, to_land calls p (outcome_of (length list) p.place r.now (deadline_of C c)) (omega (arith, b)) refl e)

    to_wait : (q : Question) → question_of C c ≡ Some q → is_answer (reply_by C r c (Some q)) ≡ false → WaitsFor C r c q c.placing
    to_wait (enter need) h e = to_enter need (outcome_of (length list) need r.now (deadline_of C c)) refl e
    to_wait (run calls) h e =
        absurd (to_run (last_writes calls && not (C.leads r.members c.member)) Elsewhere (ran (length list) (exec (state list) calls)) e)
    to_wait (leave calls told) h e =
        to_leave calls told (some_writes calls) c.placing refl
        (((sound_at C start known four r from).each i c there).live (asks_live C c (leave calls told) h)).waits e
    to_wait leave_noop h e = busy e
    to_wait route h e = busy e

    by_question : (o : Option Question) → question_of C c ≡ o → is_answer (reply_by C r c o) ≡ false → MayWait C r c o
    by_question None h e = tt
    by_question (Some q) h e = to_wait q h e

    may_wait : acts C r c ≡ false → MayWait C r c (question_of C c)
    unfolding reply
    may_wait e = by_question (question_of C c) refl e

  pub nobody_is_forgotten : AtRest C r → NobodyIsForgotten C r
  nobody_is_forgotten rest =
      let quiet = nobody_passes (acts C r) r.clients rest in
      all_from (λ c. MayWait C r c (question_of C c)) r.clients
      (λ i c e. may_wait i c e (all_get (λ d. acts C r d ≡ false) r.clients i c quiet e))

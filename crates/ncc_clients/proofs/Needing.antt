-- A transaction ends at or behind the place that it needs.
use Rattle.std.proofs.Common.{◌≡◌, ℕ, ◌-◌, ◌≤◌, Bool, true, false, inl, inr, List, [], ◌∷◌, ◌++◌, map, Some, refl, ap, sym, ◌∙◌}
use Rattle.std.proofs.Common.{arith, subst}
use Rattle.std.specs.Prelude.{◌==◌, if◌then◌else◌, take}
use Rattle.ncc_store.specs.Exec.{call_of}
use Rattle.ncc_tx.specs.declared.entry.Entry.{Entry}
use Rattle.ncc_tx.specs.declared.entry.Entry.TheVariants as e
use Rattle.ncc_tx.specs.State.{state, stamp_at}
use Rattle.ncc_session.specs.declared.ask.Fact.{Fact}
use Rattle.ncc_session.specs.declared.ask.Fact.TheVariants.{Placed, Stale, Replaced, Elsewhere, Full}
use Rattle.ncc_session.specs.Core.{leave_of}
use Rattle.ncc_session.specs.Question.{Question, leave, leave_noop, Output, questions_of}
use Rattle.ncc_session.specs.Session.{Standing, session}
use Rattle.ncc_clients.specs.Members.{Cluster, applied, at_of, config_of}
use Rattle.ncc_clients.specs.Run.{Run, Client, Placing, begun, talk_of, question_of, has_ended, accepted, with_placing}
use Rattle.ncc_clients.specs.Moment.{IsOpen, Path}
use Rattle.ncc_clients.specs.Four.{Four}
use Rattle.ncc_clients.specs.Lawful.{needed, need_of}
use Rattle.ncc_clients.specs.Laws.{Refuses, EndsBehind, StandsBehindItsNeed, GoesOn}
use Rattle.ncc_clients.proofs.Lists.{set_same}
use Rattle.ncc_clients.proofs.Known.{Known}
use Rattle.ncc_clients.proofs.Lives.{asks_live}
use Rattle.ncc_clients.proofs.Says.{Says, Finds, is_said, says_entered, says_late, says_rows, says_faulted, says_elsewhere}
use Rattle.ncc_clients.proofs.Says.{says_done, says_nothing, says_found, says_unsure, says_routed}
use Rattle.ncc_clients.proofs.Asked.{FollowsOpen, open_leave, open_noop, need_reached}
use Rattle.ncc_clients.proofs.Sound.{Waiting, Waits}
use Rattle.ncc_clients.proofs.Keeping.{sound_at, asked_is}
use Rattle.ncc_clients.proofs.Vanishing.{nobody_vanishes}

ends_open : (entry : Entry) → FollowsOpen (leave_of entry)
ends_open e.Noop = open_noop
ends_open (e.Tx steps told) = open_leave (map call_of steps) told

ends_same : (entry : Entry) (n : ℕ) → needed n (leave_of entry ∷ []) ≡ n
ends_same e.Noop n = refl
ends_same (e.Tx steps told) n = refl

same_client : (c d : Client) → Some c ≡ Some d → c ≡ d
same_client c d e = cc

module _ {S : Type 0} (C : Cluster S) (start : S) (known : Known) (four : Four C start) where
  -- where a question of an open transaction waits, its member has applied what the transaction needs
  pub applied_need : (r : Run S) (i : ℕ) (c : Client) (q : Question) → Path C (begun start) r → IsOpen r i c → question_of C c ≡ Some q
      → FollowsOpen q → ((n : ℕ) → needed n (q ∷ []) ≡ n) → need_of C c ≤ at_of C r.members c.member
  applied_need r i c q from is asks open_ same =
      let s = (sound_at C start known four r from).each i c is.there in
      need_reached (talk_of C c) c.facts (at_of C r.members c.member) q open_ same s.asks
      (asked_is C start known four c (Some q) is.live asks)
      (known.in_turn (config_of C c.number) c.bytes c.facts) (s.live (asks_live C c q asks)).reached

  -- while its question waits, more bytes change nothing of what it needs
  same_need : (c d : Client) (q : Question) → GoesOn c d → d.facts ≡ c.facts → c.closed ≡ false → question_of C c ≡ Some q
      → (talk_of C c).facts ≡ [] → need_of C d ≡ need_of C c
  same_need c d q g facts live asks taken =
      let still = known.stands_still (config_of C c.number) c.bytes g.more_bytes c.facts q taken
      (asked_is C start known four c (Some q) live asks) in
      let is : talk_of C d ≡ session (config_of C c.number) (c.bytes ++ g.more_bytes) c.facts =
      ap (λ (n : ℕ). session (config_of C n) d.bytes d.facts) g.number
      ∙ ap (λ (b : List ℕ). session (config_of C c.number) b d.facts) g.bytes
      ∙ ap (λ (fs : List Fact). session (config_of C c.number) (c.bytes ++ g.more_bytes) fs) facts in
      ap (λ (s : Standing). needed 0 (questions_of s.written)) is
      ∙ ap (λ (w : List Output). needed 0 (questions_of w)) still.written

  module _ (r : Run S) (i : ℕ) (c : Client) (from : Path C (begun start) r) (is : IsOpen r i c) where
    -- an accepted proposal stands behind it
    placed_behind : (p : Placing) → Waiting C start r i c p → need_of C c ≤ p.place
    placed_behind p w =
        let x = w.proposal in
        let there = x.accepts.proposes.there in
        let at = with_placing x.then_.now x.it p.place p.term in
        let goes = nobody_vanishes C (accepted C x.then_ i x.it p.place p.term x.after) r x.since i at
        (set_same x.then_.clients i x.it at there.there) in
        let now_is : goes.0 ≡ c = same_client goes.0 c (sym goes.1 ∙ is.there) in
        let on : GoesOn at c = subst (λ (d : Client). GoesOn at d) now_is goes.2 in
        let asks : question_of C x.it ≡ Some (leave_of x.entry) = x.same_question ∙ x.asks in
        let sound = (sound_at C start known four x.then_ w.from).each i x.it there.there in
        let same = same_need at c (leave_of x.entry) on (sym x.same_facts) there.live asks sound.served.taken in
        let reached = applied_need x.then_ i x.it (leave_of x.entry) w.from there asks (ends_open x.entry) (ends_same x.entry) in
        let behind = four.behind x.then_ i x.it x.entry p.place p.term x.after w.from x.accepts in
        omega (arith, same, reached, behind)

    found : (p : Placing) (fact : Fact) → has_ended C c ≡ false → c.placing ≡ Some p → Finds (applied C r.members c.member) p fact
        → EndsBehind (need_of C c) fact
    found p fact alive e f =
        subst (EndsBehind (need_of C c)) (sym f.fact_is)
        (go (f.item.term == p.term) (stamp_at (state (take (p.place - 1) (applied C r.members c.member))) f.item).valid)
      where
        behind : need_of C c ≤ p.place
        behind =
            let s = (sound_at C start known four r from).each i c is.there in
            placed_behind p (subst (Waits C start r i c) e (s.live alive).waits)

        go : (t v : Bool)
            → EndsBehind (need_of C c) (if t then (if v then Placed p.place else Stale p.place) else Replaced p.place p.term f.item.term)
        go true true = behind
        go true false = behind
        go false v = tt

    said : (q : Question) (fact : Fact) → question_of C c ≡ Some q → Says C r c q fact → EndsBehind (need_of C c) fact
    said _ _ asks (says_entered need h) = tt
    said _ _ asks (says_late need h) = tt
    said _ _ asks (says_rows calls last h) = tt
    said _ _ asks (says_faulted calls fault h) = tt
    said _ _ asks (says_elsewhere calls h l) = tt
    said _ _ asks (says_done calls told h) = applied_need r i c (leave calls told) from is asks (open_leave calls told) (λ n. refl)
    said _ _ asks says_nothing = applied_need r i c leave_noop from is asks open_noop (λ n. refl)
    said _ _ asks (says_found calls told p fact w is f) = found p fact (asks_live C c (leave calls told) asks) is f
    said _ _ asks (says_unsure calls told p w is h) = tt
    said _ _ asks says_routed = tt

  refused : (r : Run S) (c : Client) (entry : Entry) (fact : Fact) → Refuses C r c entry fact → EndsBehind (need_of C c) fact
  refused r c entry Elsewhere h = tt
  refused r c entry (Full entries) h = tt
  refused r c entry _ h = absurd h

  pub stands_behind_its_need : StandsBehindItsNeed C start
  stands_behind_its_need r i c fact from (inl a) =
      let x = is_said C r c fact a.1 in said r i c from a.0 x.question fact x.asks x.says
  stands_behind_its_need r i c fact from (inr a) = refused r c a.0 fact a.2

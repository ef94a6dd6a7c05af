-- Each fact is lawful where it is told.
use Rattle.std.proofs.Common.{◌≡◌, ℕ, ◌-◌, ◌≤◌, Bool, true, false, inl, inr, List, [], ◌∷◌, length, take, Some, refl, ap, sym, ◌∙◌}
use Rattle.std.proofs.Common.{arith, subst, eqb-true}
use Rattle.std.specs.Prelude.{◌==◌, if◌then◌else◌, nat_eq}
use Rattle.ncc_store.specs.Exec.{exec}
use Rattle.ncc_tx.specs.declared.entry.Entry.{Entry}
use Rattle.ncc_tx.specs.declared.entry.Item.{Item}
use Rattle.ncc_tx.specs.State.{state, valid, stamp_at}
use Rattle.ncc_session.specs.declared.ask.Fact.{Fact}
use Rattle.ncc_session.specs.declared.ask.Fact.TheVariants.{Placed, Stale, Replaced, Elsewhere, Full}
use Rattle.ncc_session.specs.Core.{leave_of}
use Rattle.ncc_session.specs.Question.{Question, enter, run, leave, leave_noop}
use Rattle.ncc_clients.specs.Members.{Cluster, Proposed, elsewhere, full, applied, at_of, config_of}
use Rattle.ncc_clients.specs.Run.{Run, Client, Placing, begun, talk_of, question_of, told_to, proposed}
use Rattle.ncc_clients.specs.Moment.{IsOpen, Proposes, Small, Tells, Offers, Path, Then}
use Rattle.ncc_clients.specs.Four.{Four}
use Rattle.ncc_clients.specs.Lawful.{Lawful, MayReadAt, NoneBeyond, needed, HasIt, IsProposal, StandsAt, WantsLeader}
use Rattle.ncc_clients.specs.Laws.{IsAnswered, Refuses, EachFactIsLawful}
use Rattle.ncc_clients.proofs.Lists.{Starts, starts_length, starts_take, take_starts, get_starts, get_within}
use Rattle.ncc_clients.proofs.Known.{Known}
use Rattle.ncc_clients.proofs.Lives.{asks_live}
use Rattle.ncc_clients.proofs.Says.{Says, Finds, is_said, is_offered, says_entered, says_late, says_rows, says_faulted, says_elsewhere}
use Rattle.ncc_clients.proofs.Says.{says_done, says_nothing, says_found, says_unsure, says_routed}
use Rattle.ncc_clients.proofs.Fits.{same_test}
use Rattle.ncc_clients.proofs.Asked.{FollowsOpen, open_run, open_leave, open_noop, need_reached}
use Rattle.ncc_clients.proofs.Sound.{Waiting, Waits, Sound}
use Rattle.ncc_clients.proofs.Keeping.{sound_at, asked_is}
use Rattle.ncc_clients.proofs.Claims.{list_begins}

same_question : (a b : Question) → Some a ≡ Some b → a ≡ b
same_question a b e = cc

module _ {S : Type 0} (C : Cluster S) (start : S) (known : Known) (four : Four C start) where
  -- an open connection of a moment on the way to an end
  record Case (r end : Run S) (i : ℕ) (c : Client) (q : Question) : Type 0 where
    pub from : Path C (begun start) r
    pub to : Path C r end
    pub is : IsOpen r i c
    pub asks : question_of C c ≡ Some q

  module _ (r end : Run S) (i : ℕ) (c : Client) where
    abbrev here : List Item
    here = applied C r.members c.member

    sound : (q : Question) → Case r end i c q → Sound C start r i c
    sound q k = (sound_at C start known four r k.from).each i c k.is.there

    begins : (q : Question) → Case r end i c q → Starts here end.history
    begins q k = list_begins C start four r end c.member k.from k.to

    within : (q : Question) → Case r end i c q → at_of C r.members c.member ≤ length end.history
    within q k = starts_length here end.history (begins q k)

    none_beyond : (q : Question) → Case r end i c q → NoneBeyond (at_of C r.members c.member) c.facts
    none_beyond q k = ((sound q k).live (asks_live C c q k.asks)).below

    reads : (q : Question) → Case r end i c q → FollowsOpen q → ((n : ℕ) → needed n (q ∷ []) ≡ n)
        → MayReadAt C end.history c (at_of C r.members c.member)
    reads q k open_ same =
        let s = sound q k in
        record {
          covers = need_reached (talk_of C c) c.facts (at_of C r.members c.member) q open_ same s.asks
              (asked_is C start known four c (Some q) k.is.live k.asks)
              (known.in_turn (config_of C c.number) c.bytes c.facts) (s.live (asks_live C c q k.asks)).reached;
          within = within q k;
          none_beyond = none_beyond q k;
        }

    -- the applied list, as what the history begins with
    state_is : (q : Question) → Case r end i c q → here ≡ take (at_of C r.members c.member) end.history
    state_is q k = sym (starts_take here end.history (begins q k))

    waiting : (q : Question) (p : Placing) → Case r end i c q → c.placing ≡ Some p → Waiting C start r i c p
    waiting q p k e = subst (Waits C start r i c) e ((sound q k).live (asks_live C c q k.asks)).waits

    -- ---- a proposal whose place is reached

    found : (q : Question) (p : Placing) (fact : Fact) → Case r end i c q → c.placing ≡ Some p → Finds here p fact
        → Lawful C end.history r i c q fact
    found q p fact k e f =
        subst (Lawful C end.history r i c q) (sym f.fact_is)
        (go (f.item.term == p.term) (stamp_at (state (take (p.place - 1) here)) f.item).valid refl refl)
      where
        w : Waiting C start r i c p
        w = waiting q p k e

        stands : StandsAt end.history p.place f.item
        stands = (f.positive, get_starts here end.history (p.place - 1) f.item (begins q k) f.there)

        valid_then : (v : Bool) → valid (state (take (p.place - 1) here)) f.item.entry ≡ v
            → valid (state (take (p.place - 1) end.history)) f.item.entry ≡ v
        valid_then v h =
            let less : p.place - 1 ≤ length here = (let b = get_within here (p.place - 1) f.item f.there in omega (arith, b)) in
            ap (λ (l : List Item). valid (state l) f.item.entry) (take_starts (p.place - 1) here end.history less (begins q k)) ∙ h

        its : f.item.term ≡ p.term → (v : Bool) → valid (state (take (p.place - 1) here)) f.item.entry ≡ v
            → HasIt C end.history r i c p.place v
        its t v h =
            let x = w.proposal in
            let same : f.item.entry ≡ x.entry =
            four.keeps x.then_ r i x.it x.entry p.place p.term x.after c.member f.item w.from x.accepts x.since f.there t in
            record {
              item = f.item;
              proposal = subst (IsProposal C r i c p.place) (sym t) x;
              stands = stands;
              entry_is = x.asks ∙ ap (λ (y : Entry). Some (leave_of y)) (sym same);
              valid_is = valid_then v h;
            }

        go : (t v : Bool) → nat_eq f.item.term p.term ≡ t → valid (state (take (p.place - 1) here)) f.item.entry ≡ v
            → Lawful C end.history r i c q (if t then (if v then Placed p.place else Stale p.place)
            else Replaced p.place p.term f.item.term)
        go true true t h = its (eqb-true f.item.term p.term t) true h
        go true false t h = its (eqb-true f.item.term p.term t) false h
        go false v t h = record {
          item = f.item;
          proposal = w.proposal;
          stands = stands;
          found_is = refl;
          differ = λ d. let g : true ≡ false = sym (same_test p.term) ∙ ap (λ n. nat_eq n p.term) d ∙ t in cc;
        }

    -- ---- each fact

    said : (q : Question) (fact : Fact) → Case r end i c q → Says C r c q fact → Lawful C end.history r i c q fact
    said _ _ k (says_entered need h) = (need, refl, h, refl, within (enter need) k, none_beyond (enter need) k)
    said _ _ k (says_late need h) = (refl, record { at_is = refl; now_is = refl; late = h })
    said _ _ k (says_rows calls last h) = (
      calls,
      refl,
      refl,
      reads (run calls) k (open_run calls) (λ n. refl),
      record { end = last; runs = ap (λ (l : List Item). exec (state l) calls) (sym (state_is (run calls) k)) ∙ h; rows_are = refl },
    )
    said _ _ k (says_faulted calls fault h) = (
      calls,
      refl,
      refl,
      reads (run calls) k (open_run calls) (λ n. refl),
      ap (λ (l : List Item). exec (state l) calls) (sym (state_is (run calls) k)) ∙ h,
    )
    said _ _ k (says_elsewhere calls h l) = (h, l)
    said _ _ k (says_done calls told h) = (h, refl, reads (leave calls told) k (open_leave calls told) (λ n. refl))
    said _ _ k says_nothing = (refl, refl, reads leave_noop k open_noop (λ n. refl))
    said _ _ k (says_found calls told p fact w is f) = found (leave calls told) p fact k is f
    said _ _ k (says_unsure calls told p w is h) =
        (p.term, (waiting (leave calls told) p k is).proposal, record { at_is = refl; now_is = refl; late = h })
    said _ _ k says_routed = (refl, refl)

    -- ---- a proposal that is not accepted

    leads_full : (entry : Entry) (entries : ℕ) → C.propose r.members c.member entry ≡ full entries → C.leads r.members c.member ≡ true
    leads_full entry entries e = go (C.leads r.members c.member) refl where
      go : (b : Bool) → C.leads r.members c.member ≡ b → b ≡ true
      go true h = refl
      go false h = absurd (let f : elsewhere ≡ full entries = sym (four.leads r.members c.member entry h) ∙ e in cc)

    refused : (q : Question) (entry : Entry) (fact : Fact) → Proposes C r i c entry → Refuses C r c entry fact → question_of C c ≡ Some q
        → Lawful C end.history r i c q fact
    refused q entry Elsewhere p e asks =
        let o = is_offered C r c p.replies in (
          subst WantsLeader (same_question (leave o.calls o.told) q (sym o.asks ∙ asks)) o.writes,
          four.refuses r.members c.member entry e,
        )
    refused q entry (Full entries) p e asks =
        (entry, same_question q (leave_of entry) (sym asks ∙ p.entry_is), leads_full entry entries e, e)
    refused q entry _ p e asks = absurd e

    -- ---- by the way that it is told

    refused_to : (line : ℕ) (entry : Entry) (fact : Fact) → Proposes C r i c entry → Refuses C r c entry fact
        → Small C r (told_to line r i c fact)
    refused_to line entry Elsewhere p e = subst (λ (o : Proposed S). Small C r (proposed C line r i c o)) e (Offers line r i c entry p)
    refused_to line entry (Full entries) p e = subst (λ (o : Proposed S). Small C r (proposed C line r i c o)) e (Offers line r i c entry p)
    refused_to line entry _ p e = absurd e

    answered : (line : ℕ) (q : Question) (fact : Fact) → Path C (begun start) r → IsAnswered C r i c fact → question_of C c ≡ Some q
        → Path C (told_to line r i c fact) end → Lawful C end.history r i c q fact
    answered line q fact from (inl a) asks to =
        let x = is_said C r c fact a.1 in
        let same = same_question x.question q (sym x.asks ∙ asks) in
        let step = Tells line r i c fact (record { there = a.0; replies = a.1 }) in
        said q fact (record { from = from; to = Then r (told_to line r i c fact) end step to; is = a.0; asks = asks })
        (subst (λ (y : Question). Says C r c y fact) same x.says)
    answered line q fact from (inr a) asks to = refused q a.0 fact a.1 a.2 asks

  pub each_fact_is_lawful : (end : Run S) → EachFactIsLawful C start end
  each_fact_is_lawful end line r i c q fact from a asks to = answered r end i c line q fact from a asks to

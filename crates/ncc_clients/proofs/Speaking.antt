-- What the connection of a link keeps, whatever its member tells it: a transaction that presents a place enters, reads and ends at or
-- behind
-- it.
use Rattle.std.proofs.Common.{◌≡◌, ◌⊎◌, inl, inr, ℕ, ◌-◌, ◌≤◌, Bool, List, [], ◌∷◌, ◌++◌, map, Option, Some, refl, ap, sym, ◌∙◌, arith}
use Rattle.std.proofs.Common.{subst}
use Rattle.std.specs.Prelude.{◌<◌, ◌^◌, Ok, take}
use Rattle.std.specs.List.{All, AllByRecursion}
use Rattle.ncc_pack.specs.declared.value.Value.{Value, out-Value}
use Rattle.ncc_pack.specs.declared.value.Value.TheVariants as v
use Rattle.ncc_bookmark.specs.Spelling.{text_of}
use Rattle.ncc_bookmark.proofs.Naming.{reads_same}
use Rattle.ncc_tx.specs.declared.entry.Entry.{Entry}
use Rattle.ncc_tx.specs.declared.entry.Item.{Item}
use Rattle.ncc_tx.specs.State.{state, stamp_at}
use Rattle.ncc_session.specs.declared.ask.Fact.{Fact}
use Rattle.ncc_session.specs.declared.ask.Fact.TheVariants as f
use Rattle.ncc_session.specs.Asking.{waiting}
use Rattle.ncc_session.specs.Checks.{Checked, bookmarks_in, place_in, place_read}
use Rattle.ncc_session.specs.Question.{Question, enter, run, leave, leave_noop, route, questions_of}
use Rattle.ncc_session.specs.Transactions.{Presents}
use Rattle.ncc_driver.proofs.LawsGrammar.{list_out}
use Rattle.ncc_clients.specs.Members.{Cluster, applied, config_of}
use Rattle.ncc_clients.specs.Run.{Run, Client, begun, talk_of, question_of, with_fact}
use Rattle.ncc_clients.specs.Moment.{IsOpen, Path, Here}
use Rattle.ncc_clients.specs.Four.{Four, Begins}
use Rattle.ncc_clients.specs.Lawful.{place_of, needed, need_of}
use Rattle.ncc_clients.specs.Laws.{IsAnswered, Refuses, EndsBehind}
use Rattle.ncc_clients.specs.Transacting.{Transacts, Routes, AsksElse, AsksOnce}
use Rattle.ncc_clients.specs.Course.{HasNumbers}
use Rattle.ncc_clients.proofs.Driven.{begins_with}
use Rattle.ncc_clients.proofs.Lists.{all_append, all_or, starts_length}
use Rattle.ncc_clients.proofs.Known.{Known}
use Rattle.ncc_clients.proofs.Asked.{needed_push, open_run}
use Rattle.ncc_clients.proofs.Fits.{found_by, said_below}
use Rattle.ncc_clients.proofs.Keeping.{sound_at, asked_is}
use Rattle.ncc_clients.proofs.Needing.{applied_need, stands_behind_its_need}
use Rattle.ncc_clients.proofs.Says.{Says, is_said, says_entered, says_late, says_rows, says_faulted, says_elsewhere}
use Rattle.ncc_clients.proofs.Says.{says_done, says_nothing, says_found, says_unsure, says_routed}
use Rattle.ncc_clients.proofs.Transacting.{enters_once}
use Rattle.ncc_clients.proofs.Routing.{routes_alone}

abbrev texts_ok : List Value → Checked (List Value)
texts_ok a = Ok a

abbrev place_ok : ℕ → Checked ℕ
place_ok n = Ok n

-- the fact stands at this place or behind it
abbrev pub Behind : ℕ → Fact → Type 0
Behind q (f.Entered at) = q ≤ at
Behind q (f.Rows at rows) = q ≤ at
Behind q (f.Done at) = q ≤ at
Behind q (f.Placed place) = q ≤ place
Behind q _ = Unit {0}

-- these bookmarks are the one of this place
pub record Presented (cluster : ℕ) (bookmarks : List Value) (q : ℕ) : Type 0 where
  pub number : cluster < 2 ^ 64
  pub place : q < 2 ^ 64
  pub is : bookmarks ≡ v.Text (text_of (record { cluster = cluster; place = q })) ∷ []

-- What the connection of a link keeps where its transaction presents these bookmarks.
pub record Speaks {S : Type 0} (C : Cluster S) (bookmarks : List Value) (c : Client) : Type 0 where
  pub leg : Routes c.bytes ⊎ ((writes : Bool) × Transacts (begins_with bookmarks writes) c.bytes)
  pub facts : (q : ℕ) → Presented C.id bookmarks q → AllByRecursion (Behind q) c.facts
  pub within : AllByRecursion (λ fact. place_of fact < 2 ^ 64) c.facts

-- ---- what one transaction needs

same_texts : (a b : List Value) → texts_ok a ≡ Ok b → a ≡ b
same_texts a b e = cc

one_place : (x : Checked ℕ) (q : ℕ) (places : List ℕ) → x ≡ Ok q → x ∷ [] ≡ map place_ok places → places ≡ q ∷ []
one_place x q [] e h = absurd (cc)
one_place x q (p ∷ []) e h = let same : place_ok q ≡ place_ok p = sym e ∙ (let f : x ≡ place_ok p = cc in f) in cc
one_place x q (p ∷ r ∷ places) e h = absurd (cc)

-- the place that is presented is among those that are looked at
presents_one : (cluster : ℕ) (bookmarks : List Value) (writes : Bool) (q : ℕ) (places : List ℕ) → Presented cluster bookmarks q
    → Presents cluster (begins_with bookmarks writes) places → places ≡ q ∷ []
presents_one cluster bookmarks writes q places p h =
    let text = text_of (record { cluster = cluster; place = q }) in
    let texts : v.Text text ∷ [] ≡ h.0 =
    same_texts (v.Text text ∷ []) h.0
    (sym (ap bookmarks_in (ap (λ (b : List Value). out-Value (v.List b)) p.is ∙ list_out (v.Text text ∷ []))) ∙ h.1) in
    one_place (place_in cluster (v.Text text)) q places
    (ap place_read (reads_same text cluster (record { cluster = cluster; place = q })
    (record { cluster = p.number; place = p.place }) refl refl))
    (ap (λ (t : List Value). map (place_in cluster) t) texts ∙ h.2)

needed_else : (need : ℕ) (xs : List Question) → AllByRecursion AsksElse xs → needed need xs ≡ need
needed_else need [] h = refl
needed_else need (enter later ∷ xs) h = absurd h.0
needed_else need (run calls ∷ xs) h = needed_else need xs h.1
needed_else need (leave calls told ∷ xs) h = needed_else need xs h.1
needed_else need (leave_noop ∷ xs) h = needed_else need xs h.1
needed_else need (route ∷ xs) h = needed_else need xs h.1

once_needs : (cluster : ℕ) (bookmarks : List Value) (writes : Bool) (q : ℕ) → Presented cluster bookmarks q
    → (x : Question) (xs : List Question) → AsksOnce cluster (begins_with bookmarks writes) (x ∷ xs) → q ≤ needed 0 (x ∷ xs)
once_needs cluster bookmarks writes q p (enter need) xs h =
    let same = presents_one cluster bookmarks writes q h.0.0 p h.0.1 in
    let less : q ≤ need = (subst (λ (ps : List ℕ). All (λ (place : ℕ). place ≤ need) ps) same h.0.2.0) 0 q (omega arith) in
    omega (arith, less, needed_else need xs h.1)
once_needs cluster bookmarks writes q p (run calls) xs h = absurd h
once_needs cluster bookmarks writes q p (leave calls told) xs h = absurd h
once_needs cluster bookmarks writes q p leave_noop xs h = absurd h
once_needs cluster bookmarks writes q p route xs h = absurd h

some_needs : (cluster : ℕ) (bookmarks : List Value) (writes : Bool) (q : ℕ) → Presented cluster bookmarks q
    → (xs : List Question) (x : Question) → AsksOnce cluster (begins_with bookmarks writes) (xs ++ x ∷ []) → q ≤ needed 0 (xs ++ x ∷ [])
some_needs cluster bookmarks writes q p [] x h = once_needs cluster bookmarks writes q p x [] h
some_needs cluster bookmarks writes q p (y ∷ xs) x h = once_needs cluster bookmarks writes q p y (xs ++ x ∷ []) h

-- ---- what it is told

-- what is told to who asks who leads
pub routed_behind : {S : Type 0} (C : Cluster S) (r : Run S) (c : Client) (q : ℕ) (x : Question) (fact : Fact) → x ≡ route
    → Says C r c x fact → Behind q fact
routed_behind C r c q _ _ e (says_entered need h) = absurd (cc)
routed_behind C r c q _ _ e (says_late need h) = absurd (cc)
routed_behind C r c q _ _ e (says_rows calls end h) = absurd (cc)
routed_behind C r c q _ _ e (says_faulted calls fault h) = absurd (cc)
routed_behind C r c q _ _ e (says_elsewhere calls h l) = absurd (cc)
routed_behind C r c q _ _ e (says_done calls told h) = absurd (cc)
routed_behind C r c q _ _ e says_nothing = absurd (cc)
routed_behind C r c q _ _ e (says_found calls told p fact w is f) = absurd (cc)
routed_behind C r c q _ _ e (says_unsure calls told p w is h) = absurd (cc)
routed_behind C r c q _ _ e says_routed = tt

last_all : {A : Type 0} (P : A → Type 0) (xs : List A) (x : A) → AllByRecursion P (xs ++ x ∷ []) → P x
last_all P [] x h = h.0
last_all P (y ∷ ys) x h = last_all P ys x h.1

module _ {S : Type 0} (C : Cluster S) (start : S) (known : Known) (four : Four C start) where
  -- the question that waits is the last one
  asked_last : (r : Run S) (i : ℕ) (c : Client) (q : Question) → Path C (begun start) r → IsOpen r i c → question_of C c ≡ Some q
      → (answered : List Question) × (questions_of (talk_of C c).written ≡ answered ++ q ∷ [])
  asked_last r i c q from is asks =
      let s = (sound_at C start known four r from).each i c is.there in (
        s.asks.answered,
        s.asks.split ∙ ap (λ (o : Option Question). s.asks.answered ++ waiting o) (asked_is C start known four c (Some q) is.live asks),
      )

  -- what is told stands at or behind what is needed
  needs_met : (r : Run S) (i : ℕ) (c : Client) (x : Question) (fact : Fact) (q : ℕ) → Path C (begun start) r → IsOpen r i c
      → question_of C c ≡ Some x → q ≤ need_of C c → Says C r c x fact → EndsBehind (need_of C c) fact → Behind q fact
  needs_met r i c _ _ q from is asks less (says_entered need h) ends =
      let l = asked_last r i c (enter need) from is asks in
      let same : need_of C c ≡ need = ap (needed 0) l.1 ∙ needed_push 0 l.0 (enter need) in
      omega (arith, less, same, h)
  needs_met r i c _ _ q from is asks less (says_late need h) ends = tt
  needs_met r i c _ _ q from is asks less (says_rows calls end h) ends =
      omega (arith, less, applied_need C start known four r i c (run calls) from is asks (open_run calls) (λ n. refl))
  needs_met r i c _ _ q from is asks less (says_faulted calls fault h) ends = tt
  needs_met r i c _ _ q from is asks less (says_elsewhere calls h l) ends = tt
  needs_met r i c _ _ q from is asks less (says_done calls told h) ends = omega (arith, less, ends)
  needs_met r i c _ _ q from is asks less says_nothing ends = omega (arith, less, ends)
  needs_met r i c _ fact q from is asks less (says_found calls told p _ w at g) ends =
      subst (λ (x : Fact). EndsBehind (need_of C c) x → Behind q x) (sym g.fact_is)
      (found_by (λ (x : Fact). EndsBehind (need_of C c) x → Behind q x) p
      (stamp_at (state (take (p.place - 1) (applied C r.members c.member))) g.item)
      (λ e. omega (arith, less, e)) (λ e. tt) (λ e. tt)) ends
  needs_met r i c _ _ q from is asks less (says_unsure calls told p w at h) ends = tt
  needs_met r i c _ _ q from is asks less says_routed ends = tt

  said_behind : (bookmarks : List Value) (r : Run S) (i : ℕ) (c : Client) (x : Question) (fact : Fact) (q : ℕ) → Path C (begun start) r
      → IsOpen r i c → question_of C c ≡ Some x → Says C r c x fact → EndsBehind (need_of C c) fact → Presented C.id bookmarks q
      → Routes c.bytes ⊎ ((writes : Bool) × Transacts (begins_with bookmarks writes) c.bytes) → Behind q fact
  said_behind bookmarks r i c x fact q from is asks says ends p (inl routes) =
      let l = asked_last r i c x from is asks in
      let all = subst (AllByRecursion (λ (y : Question). y ≡ route)) l.1 (routes_alone (config_of C c.number) c.bytes c.facts routes).0 in
      routed_behind C r c q x fact (last_all (λ (y : Question). y ≡ route) l.0 x all) says
  said_behind bookmarks r i c x fact q from is asks says ends p (inr t) =
      let l = asked_last r i c x from is asks in
      let extra = begins_with bookmarks t.0 in
      let once : AsksOnce C.id extra (l.0 ++ x ∷ []) =
      subst (AsksOnce C.id extra) l.1 (enters_once (config_of C c.number) extra c.bytes c.facts t.1) in
      let less : q ≤ need_of C c =
      omega (arith, some_needs C.id bookmarks t.0 q p l.0 x once, ap (needed 0) l.1) in
      needs_met r i c x fact q from is asks less says ends

  refused_behind : (r : Run S) (c : Client) (entry : Entry) (fact : Fact) (q : ℕ) → Refuses C r c entry fact → Behind q fact
  refused_behind r c entry f.Elsewhere q h = tt
  refused_behind r c entry (f.Full entries) q h = tt
  refused_behind r c entry _ q h = absurd h

  -- whatever its member tells it
  pub told_behind : (bookmarks : List Value) (r : Run S) (i : ℕ) (c : Client) (fact : Fact) (q : ℕ) → Path C (begun start) r
      → IsAnswered C r i c fact → Presented C.id bookmarks q
      → Routes c.bytes ⊎ ((writes : Bool) × Transacts (begins_with bookmarks writes) c.bytes) → Behind q fact
  told_behind bookmarks r i c fact q from (inl a) p leg =
      let x = is_said C r c fact a.1 in
      said_behind bookmarks r i c x.question fact q from a.0 x.asks x.says
      (stands_behind_its_need C start known four r i c fact from (inl a)) p leg
  told_behind bookmarks r i c fact q from (inr a) p leg = refused_behind r c a.0 fact q a.2

  told_within : (r : Run S) (i : ℕ) (c : Client) (fact : Fact) → HasNumbers C start → Path C (begun start) r → IsAnswered C r i c fact
      → place_of fact < 2 ^ 64
  told_within r i c fact numbers from (inl a) =
      let x = is_said C r c fact a.1 in
      let begins = all_or (λ (l : List Item). Begins l r.history) (C.lists r.members) (c.member - 1) [] (four.begins r r from (Here r))
      (r.history, refl) in
      omega (
        arith,
        said_below C r c x.question fact x.says,
        starts_length (applied C r.members c.member) r.history begins,
        numbers.places r from,
      )
  told_within r i c f.Elsewhere numbers from (inr a) = omega arith
  told_within r i c (f.Full entries) numbers from (inr a) = omega arith
  told_within r i c _ numbers from (inr a) = absurd a.2

  pub told_speaks : (bookmarks : List Value) (r : Run S) (i : ℕ) (c : Client) (fact : Fact) → HasNumbers C start → Path C (begun start) r
      → IsAnswered C r i c fact → Speaks C bookmarks c → Speaks C bookmarks (with_fact r.now c fact)
  told_speaks bookmarks r i c fact numbers from a k = record {
    leg = k.leg;
    facts = λ q p. all_append (Behind q) c.facts (fact ∷ []) (k.facts q p) (told_behind bookmarks r i c fact q from a p k.leg, tt);
    within = all_append (λ (x : Fact). place_of x < 2 ^ 64) c.facts (fact ∷ []) k.within (told_within r i c fact numbers from a, tt);
  }

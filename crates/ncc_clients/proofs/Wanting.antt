-- All that a session wants done behind an input is done.
use Rattle.std.proofs.Common.{◌≡◌, ◌≢◌, ◌⊎◌, inl, inr, ℕ, zero, suc, ◌+◌, ◌-◌, ◌<◌, ◌≤◌, List, [], ◌∷◌, ◌++◌, length}
use Rattle.std.proofs.Common.{Some, refl, sym, ap, subst, ◌∙◌, arith, append_assoc}
use Rattle.std.specs.Prelude.{Result, Ok, Err}
use Rattle.std.specs.List.{Contains}
use Rattle.std.proofs.lemmas.List.Elements.{Contains-append_left, Contains-append_cases}
use Rattle.ncc_pack.specs.declared.value.Value.{Value}
use Rattle.ncc_pack.specs.declared.value.Value.TheVariants as v
use Rattle.ncc_driver.specs.declared.config.SessionConfig.{SessionConfig}
use Rattle.ncc_driver.specs.declared.action.Action.{Action}
use Rattle.ncc_driver.specs.declared.action.Action.TheVariants.{Finish}
use Rattle.ncc_driver.specs.declared.action.WorkDone.{WorkDone}
use Rattle.ncc_driver.specs.declared.action.WorkError.{WorkError}
use Rattle.ncc_driver.specs.Session.{Begun, acts}
use Rattle.ncc_driver.specs.Laws.{presented}
use Rattle.ncc_clients.specs.Members.{Cluster}
use Rattle.ncc_clients.specs.Links.{Driver, Linked, Ended}
use Rattle.ncc_clients.specs.Run.{Run}
use Rattle.ncc_clients.specs.Drives.{ends}
use Rattle.ncc_clients.specs.Reads.{committed_at}
use Rattle.ncc_driver.specs.LawsLegs.{DoneIn, presented_behind}
use Rattle.ncc_clients.proofs.Driven.{DriverSays}
use Rattle.ncc_clients.proofs.Lists.{get_within}
use Rattle.ncc_clients.proofs.Speaking.{Presented}
use Rattle.ncc_clients.proofs.Driving.{sent_join, presented_join}
use Rattle.ncc_clients.proofs.Linking.{Covers, Held, At, Rests, Mid, rests_on}
use Rattle.ncc_clients.proofs.Doing.{in_one, last_in, becomes_self, link_next}
use Rattle.ncc_clients.proofs.Parting.{last_work, none_or}

-- what stands before and behind an element
split_at : {A : Type 0} (xs : List A) (x : A) → Contains xs x → (front : List A) × (back : List A) × (xs ≡ front ++ x ∷ back)
split_at [] x (n, lt, e) = absurd (omega (arith, lt))
split_at (y ∷ xs) x (zero, lt, e) = ([], xs, ap (λ (z : _). z ∷ xs) e)
split_at (y ∷ xs) x (suc n, lt, e) =
    let s = split_at xs x (n, omega (arith, lt), e) in (y ∷ s.0, s.1, ap (λ (l : List _). y ∷ l) s.2)

not_nothing : {A : Type 0} (xs : List A) (x : A) (ys : List A) → xs ++ x ∷ ys ≡ [] → ⊥
not_nothing [] x ys e = absurd (cc)
not_nothing (z ∷ xs) x ys e = absurd (cc)

same_place : (p q : ℕ) → Some p ≡ Some q → p ≡ q
same_place p q e = cc

module _ {S : Type 0} (C : Cluster S) where
  -- What a success is: its bookmark is that of its place, at or behind the place that its work presented.
  pub record Success (config : SessionConfig) (before : List Begun) (done : WorkDone) : Type 0 where
    pub q : ℕ
    pub presented_is : Presented C.id (v.Text done.bookmark ∷ []) q
    pub place_is : done.place ≡ Some q
    pub after : (old : ℕ) → Presented C.id (presented_behind config before) old → old ≤ q

  -- ---- Finish

  -- a work ends once
  ends_once : DriverSays → (config : SessionConfig) (before : List Begun) (work : Begun) (did todo : List Action)
      (first result : Result WorkDone WorkError) → DoneIn config before work (did ++ Finish result ∷ todo) → Contains did (Finish first) → ⊥
  ends_once says config before work did todo first result done there =
      let s = split_at did (Finish first) there in
      let again : DoneIn config before work (s.0 ++ Finish first ∷ (s.1 ++ Finish result ∷ todo)) =
      done ∙ ap (λ (l : List Action). acts config before ++ l)
      (ap (λ (l : List Action). l ++ Finish result ∷ todo) s.2 ∙ append_assoc s.0 (Finish first ∷ s.1) (Finish result ∷ todo)) in
      not_nothing s.1 (Finish result) todo (says.ends_last config before work s.0 first (s.1 ++ Finish result ∷ todo) again)

  module _ (says : DriverSays) (line : ℕ) (r : Run S) (k : ℕ) (d : Driver) (before : List Begun) (work : Begun) (did todo : List Action)
      (result : Result WorkDone WorkError) (m : Mid C r k d before work did)
      (done : DoneIn d.config before work (did ++ Finish result ∷ todo)) where
    abbrev ended : Ended
    ended = record { line = line; session = k; work = length d.works - 1; result = result }

    abbrev all : List Ended
    all = r.driving.ended ++ ended ∷ []

    work_is : (length d.works - 1) ≡ length before
    work_is = last_work C d before work m.mine.works_are

    which : (e : Ended) → Contains all e → Contains r.driving.ended e ⊎ (ended ≡ e)
    which e there = elim (Contains-append_cases r.driving.ended (ended ∷ []) e there) [
      | inl x ↦ inl x
      | inr x ↦ inr (in_one ended e x)
    ]

    ended_here : (e : Ended) → ended ≡ e → e.work ≡ length before
    ended_here e x = sym (ap (λ (z : Ended). z.work) x) ∙ work_is

    owes_end : (e : Ended) (p : ℕ) → Contains all e → e.session ≡ k → e.work < length before → committed_at e.result ≡ Some p
        → (q : ℕ) × Presented C.id (presented_behind d.config before) q × (p ≤ q)
    owes_end e p there mine less is = elim (which e there) [
      | inl x ↦ m.mine.owes e p x mine less is
      | inr x ↦ absurd (omega (arith, less, ended_here e x))
    ]

    presented_end : presented d.config.bookmarks (acts d.config before ++ (did ++ Finish result ∷ []))
        ≡ presented (presented d.config.bookmarks (acts d.config before ++ did)) (Finish result ∷ [])
    presented_end = ap (presented d.config.bookmarks) (sym (append_assoc (acts d.config before) did (Finish result ∷ [])))
        ∙ presented_join d.config.bookmarks (acts d.config before ++ did) (Finish result ∷ [])

    covers_end : ((x : WorkDone) → result ≡ Ok x → Success d.config before x) → (bookmarks : List Value)
        → (x : Result WorkDone WorkError) → result ≡ x
        → bookmarks ≡ presented (presented d.config.bookmarks (acts d.config before ++ did)) (Finish x ∷ [])
        → Covers C all k (length before + 1) bookmarks
    covers_end success bookmarks (Err error) f e = subst (Covers C all k (length before + 1)) (sym e) go where
      go : Covers C all k (length before + 1) (presented d.config.bookmarks (acts d.config before ++ did))
      go y p there mine less is = elim (which y there) [
        | inl z ↦ m.mine.owes_now y p z mine less is
        | inr z ↦ absurd (none_or p (sym (ap committed_at f) ∙ ap (λ (w : Ended). committed_at w.result) z ∙ is))
      ]
    covers_end success bookmarks (Ok x) f e = subst (Covers C all k (length before + 1)) (sym e) go where
      s : Success d.config before x
      s = success x f

      old : (y : Ended) (p : ℕ) → Contains r.driving.ended y → y.session ≡ k → committed_at y.result ≡ Some p
          → (y.work < length before) ⊎ ((y.work ≡ length before) × Contains did (Finish y.result)) → p ≤ s.q
      old y p there mine is (inl less) =
          let o = m.mine.owes y p there mine less is in omega (arith, o.2, s.after o.0 o.1)
      old y p there mine is (inr z) = absurd (ends_once says d.config before work did todo y.result result done z.1)

      go : Covers C all k (length before + 1) (v.Text x.bookmark ∷ [])
      go y p there mine less is = elim (which y there) [
        | inl z ↦ (s.q, s.presented_is, old y p z mine is (m.mine.ended_are y z mine))
        | inr z ↦ (
            let same : p ≡ s.q = same_place p s.q
            (sym (sym (ap committed_at f) ∙ ap (λ (w : Ended). committed_at w.result) z ∙ is) ∙ s.place_is) in
            (s.q, s.presented_is, omega (arith, same)))
      ]

    at_end : ((x : WorkDone) → result ≡ Ok x → Success d.config before x)
        → At C r.clients r.driving.linked all k d before work (did ++ Finish result ∷ [])
    at_end success = record {
      works_are = m.mine.works_are;
      fits = m.mine.fits;
      jobs = m.mine.jobs;
      owes = owes_end;
      owes_now = covers_end success _ result refl presented_end;
      ended_are = λ e there mine. go e (which e there) mine;
      linked_are = m.mine.linked_are;
      link = link_next C _ _ _ _ _ _ _ _ _ d.link (sent_join [] did (Finish result ∷ [])) m.mine.link;
    } where
      go : (e : Ended) → Contains r.driving.ended e ⊎ (ended ≡ e) → e.session ≡ k
          → (e.work < length before) ⊎ ((e.work ≡ length before) × Contains (did ++ Finish result ∷ []) (Finish e.result))
      go e (inl x) mine = elim (m.mine.ended_are e x mine) [
        | inl less ↦ inl less
        | inr y ↦ inr (y.0, Contains-append_left did (Finish result ∷ []) (Finish e.result) y.1)
      ]
      go e (inr x) mine = inr (
        ended_here e x,
        subst (λ (z : Ended). Contains (did ++ Finish result ∷ []) (Finish z.result)) x (last_in did (Finish result)),
      )

    others_end : (j : ℕ) (x : Driver) → j ≢ k → Rests C r.clients r.driving.linked r.driving.ended j x
        → Rests C r.clients r.driving.linked all j x
    others_end j x n h = rests_on C _ _ _ _ _ _ j x (record {
      linked_back = λ l there mine. there;
      linked_on = λ l there. there;
      ended_back = λ e there mine. elim (which e there) [
        | inl y ↦ y
        | inr y ↦ absurd (n (sym mine ∙ ap (λ (z : Ended). z.session) (sym y)))
      ];
      client = λ l c is there. (c, there, becomes_self C c);
    }) h

    held_end : (l : Linked) → Contains r.driving.linked l → Held C r.clients all l
    held_end l there =
        let h = m.around.held l there in
        record {
          c = h.c;
          some = h.some;
          there = h.there;
          bookmarks = h.bookmarks;
          speaks = h.speaks;
          covers = λ e p has mine less is. elim (which e has) [
            | inl y ↦ h.covers e p y mine less is
            | inr y ↦ absurd (
                omega (arith, less, ended_here e y, m.mine.linked_are l there (sym mine ∙ ap (λ (z : Ended). z.session) (sym y))))
          ];
        }

    pub mid_ends : ((x : WorkDone) → result ≡ Ok x → Success d.config before x)
        → Mid C (ends line k d r ended) k d before work (did ++ Finish result ∷ [])
    mid_ends success = record {
      here = m.here;
      mine = at_end success;
      others = λ j x n there. others_end j x n (m.others j x n there);
      around = record {
        held = held_end;
        once = m.around.once;
        links_by = m.around.links_by;
        ends_by = λ e there. elim (which e there) [
          | inl y ↦ m.around.ends_by e y
          | inr y ↦ omega (arith, ap (λ (z : Ended). z.session) y, get_within r.driving.drivers k d m.here)
        ];
      };
    }

-- Sessions of drivers read their writes.
use Rattle.std.proofs.Common.{◌≡◌, ℕ, zero, suc, ◌-◌, ◌≤◌, Bool, true, false, List, [], ◌∷◌, Some, None, refl, sym}
use Rattle.std.proofs.Common.{ap, subst, ◌∙◌, arith}
use Rattle.std.specs.Prelude.{nat_eq, if◌then◌else◌}
use Rattle.std.specs.List.{Contains}
use Rattle.ncc_session.specs.declared.ask.Fact.{Fact}
use Rattle.ncc_session.specs.declared.ask.Fact.TheVariants as f
use Rattle.ncc_clients.specs.declared.told.Told.{Told}
use Rattle.ncc_clients.specs.Members.{Cluster}
use Rattle.ncc_clients.specs.Run.{Run, begun}
use Rattle.ncc_clients.specs.Moment.{Path, Here}
use Rattle.ncc_clients.specs.Four.{Four}
use Rattle.ncc_clients.specs.Laws.{facts_to}
use Rattle.ncc_clients.specs.Reads.{Holds, SessionsReadTheirWrites}
use Rattle.ncc_clients.specs.Course.{Deed, Plain, Makes, Begins, Lifts, Falls, Cuts, Wakes, Course, HasNumbers, SessionsAreServed}
use Rattle.ncc_clients.specs.Course.{Here as Nothing, Then as And}
use Rattle.ncc_clients.proofs.Driven.{DriverSays}
use Rattle.ncc_clients.proofs.Known.{Known}
use Rattle.ncc_clients.proofs.Paths.{path_join}
use Rattle.ncc_clients.proofs.Fits.{same_test}
use Rattle.ncc_clients.proofs.Keeping.{sound_at}
use Rattle.ncc_clients.proofs.Speaking.{Behind}
use Rattle.ncc_clients.proofs.Linking.{Kept}
use Rattle.ncc_clients.proofs.Succeeding.{all_has}
use Rattle.ncc_clients.proofs.Deeds.{falls_kept, cuts_kept}
use Rattle.ncc_clients.proofs.Beginning.{woken_kept, begins_kept, makes_kept}
use Rattle.ncc_clients.proofs.Lifting.{lifts_kept}
use Rattle.ncc_clients.proofs.Smalls.{small_kept}
use Rattle.ncc_clients.proofs.Courses.{deed_path, course_path}

none_in : {A : Type 0} (x : A) → Contains [] x → ⊥
none_in x (n, lt, e) = absurd (omega (arith, lt))

none_some : {A : Type 0} (x : A) → None ≡ Some x → ⊥
none_some x e = cc

-- what was told to a connection is among its facts
told_here : (n : ℕ) (ts : List Told) (t : Told) → Contains ts t → t.conn ≡ n → Contains (facts_to n ts) t.fact
told_here n [] t h e = absurd (none_in t h)
told_here n (x ∷ ts) t (zero, lt, g) e = go (nat_eq x.conn n) refl where
  go : (b : Bool) → nat_eq x.conn n ≡ b → Contains (if b then x.fact ∷ facts_to n ts else facts_to n ts) t.fact
  go true f = (zero, omega arith, ap (λ (y : Told). y.fact) g)
  go false f = absurd (let c : true ≡ false = sym (same_test n) ∙ ap (λ (m : ℕ). nat_eq m n) (sym (ap (λ (y : Told). y.conn) g ∙ e))
      ∙ f in cc)
told_here n (x ∷ ts) t (suc k, lt, g) e = go (nat_eq x.conn n) (told_here n ts t (k, omega (arith, lt), g) e) where
  go : (b : Bool) → Contains (facts_to n ts) t.fact → Contains (if b then x.fact ∷ facts_to n ts else facts_to n ts) t.fact
  go true h = (suc h.0, omega (arith, h.1), h.2)
  go false h = h

behind_holds : (p q : ℕ) (fact : Fact) → p ≤ q → Behind q fact → Holds p fact
behind_holds p q (f.Entered at) less h = omega (arith, less, h)
behind_holds p q (f.Rows at rows) less h = omega (arith, less, h)
behind_holds p q _ less h = tt

module _ {S : Type 0} (C : Cluster S) (known : Known) (says : DriverSays) (start : S) (four : Four C start)
    (numbers : HasNumbers C start) where
  begun_kept : Kept C (begun start)
  begun_kept = record {
    sessions = λ k d there. absurd (none_some d there);
    around = record {
      held = λ l has. absurd (none_in l has);
      once = λ l m has also same. absurd (none_in l has);
      links_by = λ l has. absurd (none_in l has);
      ends_by = λ e has. absurd (none_in e has);
    };
  }

  deed_kept : (r s : Run S) → Deed C r s → Path C (begun start) r → Kept C r → Kept C s
  deed_kept r s (Plain _ _ h leaves) from k = small_kept C start known four numbers r s h leaves from k
  deed_kept r _ (Makes _ config fits) from k = makes_kept C says r config fits k
  deed_kept r _ (Begins line _ n d job here free fits) from k = begins_kept C says line n r d job k here free fits
  deed_kept r _ (Lifts _ n lift splits) from k = lifts_kept C start known four says n r lift from k splits
  deed_kept r _ (Falls line _ n front takes bytes) from k = falls_kept C says numbers.id line n r front k takes bytes
  deed_kept r _ (Cuts line _ n) from k = cuts_kept C says line n r k
  deed_kept r _ (Wakes line _ n d here) from k = woken_kept C says line n r d k here

  course_kept : (r s : Run S) → Course C r s → Path C (begun start) r → Kept C r → Kept C s
  course_kept r _ (Nothing _) from k = k
  course_kept r s (And _ m _ h p) from k =
      course_kept m s p (path_join C (begun start) r m from (deed_path C r m h)) (deed_kept r m h from k)

  pub they_read : (end : Run S) → Course C (begun start) end → SessionsReadTheirWrites end
  they_read end course e place l t ended committed linked later told conn =
      let from = course_path C (begun start) end course in
      let k = course_kept (begun start) end course (Here (begun start)) begun_kept in
      let h = k.around.held l linked in
      let q = h.covers e place ended (sym later.session) later.later committed in
      let served = ((sound_at C start known four end from).each (l.conn - 1) h.c h.there).served in
      let number : t.conn ≡ h.c.number = omega (arith, conn, served.number, h.some) in
      let mine : Contains h.c.facts t.fact =
      subst (λ (xs : List Fact). Contains xs t.fact) (sym served.facts) (told_here h.c.number end.told t told number) in
      behind_holds place q.0 t.fact q.2 (all_has (Behind q.0) h.c.facts t.fact (h.speaks.facts q.0 q.1) mine)

pub sessions_read : {S : Type 0} (C : Cluster S) → Known → DriverSays → SessionsAreServed C
sessions_read C known says start end four numbers course = they_read C known says start four numbers end course

-- A member that ends and starts again is a course: its connections are closed one by one, it starts again, and the sessions whose links
-- those were are told one by one.
use Rattle.std.proofs.Common.{◌≡◌, ◌≢◌, ℕ, zero, suc, Bool, true, false, not, List, [], ◌∷◌, ◌++◌, length, map, Option, Some, None}
use Rattle.std.proofs.Common.{refl, sym, ap, ◌∙◌, subst, append_assoc}
use Rattle.std.specs.Prelude.{nat_eq, ◌&&◌, if◌then◌else◌, slice_get, slice_set}
use Rattle.ncc_clients.specs.Members.{Cluster}
use Rattle.ncc_clients.specs.Links.{Link, Driver}
use Rattle.ncc_clients.specs.Run.{Run, Client, has_ended, moved, closed_at}
use Rattle.ncc_clients.specs.Moment.{IsOpen, NobodyLivesAt, Restarts, Closes}
use Rattle.ncc_clients.specs.Drives.{driver_at, cuts, lives_at, closed_with, closes_all, hangs_on, loses_from, ends_at}
use Rattle.ncc_clients.specs.Course.{Plain, Cuts, Course, EndsAreCourses, CoursesArePaths}
use Rattle.ncc_clients.specs.Course.{Here as Nothing, Then as And}
use Rattle.ncc_clients.proofs.Fits.{same_test}
use Rattle.ncc_clients.proofs.Lives.{lives_open}
use Rattle.ncc_clients.proofs.Courses.{course_path}
use Rattle.ncc_clients.proofs.Waking.{course_join}

-- ---- lists

get_here : {X : Type 0} (front : List X) (x : X) (back : List X) → slice_get (front ++ x ∷ back) (length front) ≡ Some x
get_here [] x back = refl
get_here (y ∷ front) x back = get_here front x back

set_here : {X : Type 0} (front : List X) (x y : X) (back : List X) → slice_set (front ++ x ∷ back) (length front) y ≡ front ++ y ∷ back
set_here [] x y back = refl
set_here (z ∷ front) x y back = ap (λ (l : List _). z ∷ l) (set_here front x y back)

-- what stands in a list that was mapped is what one of its elements became
get_map : {X Y : Type 0} (f : X → Y) (xs : List X) (i : ℕ) (y : Y) → slice_get (map f xs) i ≡ Some y → (x : X) × (f x ≡ y)
get_map f [] i y e = absurd (let g : None ≡ Some y = e in cc)
get_map f (x ∷ xs) zero y e = (x, cc)
get_map f (x ∷ xs) (suc i) y e = get_map f xs i y e

both : (a b : Bool) → (a && b) ≡ true → (a ≡ true) × (b ≡ true)
both true true e = (refl, refl)
both true false e = absurd (let f : false ≡ true = e in cc)
both false b e = absurd (let f : false ≡ true = e in cc)

not_true : (b : Bool) → not b ≡ true → b ≡ false
not_true true e = absurd (let f : false ≡ true = e in cc)
not_true false e = refl

module _ {S : Type 0} (C : Cluster S) where
  -- ---- its connections are closed

  open_at : (member : ℕ) (c : Client) → lives_at C member c ≡ true → c.closed ≡ false
  open_at member c e = lives_open C c (not_true (has_ended C c) (both (nat_eq c.member member) (not (has_ended C c)) e).1)

  -- these are the connections
  abbrev with_ : Run S → List Client → Run S
  with_ r clients = record r { clients = clients }

  -- what is closed of connections behind others
  abbrev Closing : ℕ → Run S → List Client → List Client → Type 0
  Closing member r front back = Course C (with_ r (front ++ back)) (with_ r (front ++ map (closed_with C member) back))

  past : (member : ℕ) (r : Run S) (front cs : List Client) (d : Client) → Closing member r (front ++ d ∷ []) cs
      → Course C (with_ r (front ++ d ∷ cs)) (with_ r (front ++ d ∷ map (closed_with C member) cs))
  past member r front cs d h =
      let later = map (closed_with C member) cs in
      subst (λ (l : List Client). Course C (with_ r l) (with_ r (front ++ d ∷ later))) (append_assoc front (d ∷ []) cs)
      (subst (λ (l : List Client). Course C (with_ r ((front ++ d ∷ []) ++ cs)) (with_ r l)) (append_assoc front (d ∷ []) later) h)

  closes_first : (member : ℕ) (r : Run S) (front : List Client) (c : Client) (cs : List Client) (b : Bool) → lives_at C member c ≡ b
      → ((d : Client) → Closing member r (front ++ d ∷ []) cs)
      → Course C (with_ r (front ++ c ∷ cs)) (with_ r (front ++ (if b then record c { closed = true } else c) ∷ map (closed_with C member) cs))
  closes_first member r front c cs false e h = past member r front cs c (h c)
  closes_first member r front c cs true e h =
      let d : Client = record c { closed = true } in
      let s = with_ r (front ++ c ∷ cs) in
      let is : IsOpen s (length front) c = record { there = get_here front c cs; live = open_at member c e } in
      let t = closed_at s (length front) c in
      let same : t ≡ with_ r (front ++ d ∷ cs) = ap (with_ r) (set_here front c d cs) in
      And s t (with_ r (front ++ d ∷ map (closed_with C member) cs)) (Plain s t (Closes s (length front) c is) tt)
      (subst (λ (x : Run S). Course C x (with_ r (front ++ d ∷ map (closed_with C member) cs))) (sym same) (past member r front cs d (h d)))

  -- from one connection on
  closing : (member : ℕ) (r : Run S) (front back : List Client) → Closing member r front back
  closing member r front [] = Nothing (with_ r (front ++ []))
  closing member r front (c ∷ cs) =
      closes_first member r front c cs (lives_at C member c) refl (λ d. closing member r (front ++ d ∷ []) cs)

  -- ---- none of them is live then

  nobody_left : (member : ℕ) (c : Client) → has_ended C (closed_with C member c) ≡ false → (closed_with C member c).member ≢ member
  nobody_left member c alive = go (lives_at C member c) refl alive where
    other : (b : Bool) → nat_eq c.member member ≡ b → has_ended C c ≡ false → (b && not (has_ended C c)) ≡ false → c.member ≢ member
    other true e live none same = let f : true ≡ false = sym (ap not live) ∙ none in cc
    other false e live none same =
        let f : true ≡ false = sym (same_test member) ∙ ap (λ (n : ℕ). nat_eq n member) (sym same) ∙ e in cc

    go : (b : Bool) → lives_at C member c ≡ b → has_ended C (if b then record c { closed = true } else c) ≡ false
        → (if b then record c { closed = true } else c).member ≢ member
    go true e live same = let f : true ≡ false = live in cc
    go false e live same = other (nat_eq c.member member) refl live e same

  nobody_lives : (member : ℕ) (r : Run S) → NobodyLivesAt C (closes_all C member r) member
  nobody_lives member r i c lives =
      let was = get_map (closed_with C member) r.clients i c lives.there in
      subst (λ (d : Client). d.member ≢ member) was.1
      (nobody_left member was.0 (subst (λ (d : Client). has_ended C d ≡ false) (sym was.1) lives.live))

  -- ---- sessions are told

  loses_first : (line k : ℕ) (lost : Option Link → Bool) (ds : List Driver) (r : Run S) (b : Bool)
      → ((m : Run S) → Course C m (loses_from C line (suc k) lost ds m))
      → Course C r (loses_from C line (suc k) lost ds (if b then cuts C line k r (driver_at r k) else r))
  loses_first line k lost ds r false h = h r
  loses_first line k lost ds r true h =
      let m = cuts C line k r (driver_at r k) in
      And r m (loses_from C line (suc k) lost ds m) (Cuts line r k) (h m)

  losing : (line k : ℕ) (lost : Option Link → Bool) (ds : List Driver) (r : Run S) → Course C r (loses_from C line k lost ds r)
  unfolding loses_from
  losing line k lost [] r = Nothing r
  losing line k lost (d ∷ ds) r = loses_first line k lost ds r (lost d.link) (λ m. losing line (suc k) lost ds m)

  -- ---- all of it

  pub ends_are_courses : EndsAreCourses C
  ends_are_courses line member members r restarts =
      let s = closes_all C member r in
      let t = moved C s members in
      course_join C r s (ends_at C line member members r) (closing member r [] r.clients)
      (And s t (ends_at C line member members r) (Plain s t (Restarts s member members restarts (nobody_lives member r)) tt)
      (losing line 0 (hangs_on C member r) r.driving.drivers t))

  pub courses_are_paths : CoursesArePaths C
  courses_are_paths r s h = course_path C r s h

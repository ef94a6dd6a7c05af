-- How a run of device calls goes on.
use Rattle.std.proofs.Common.{inl, inr, ⊎_elim, ℕ, ◌≤◌, List, [], ◌∷◌, ◌++◌, refl, sym, ◌∙◌, arith}
use Rattle.std.proofs.Common.{subst}
use Rattle.std.proofs.lemmas.List.{append-nil}
use Rattle.std.proofs.Common.{append_assoc}
use Rattle.ncc_base.specs.declared.disk.Disk.{Ghosts}
use Rattle.ncc_base.specs.Disk.{Asked, AsksNothing, AsksOneMore, Elapses, LeavesOnly, Stays, Torn}
use Rattle.ncc_log.specs.Calls.{Asks, Looks}

pub torn_none : (at n : ℕ) (file : List ℕ) → Torn at n file file
torn_none at n file = record { before = refl; after = refl; no_shorter = omega arith; no_longer = omega arith }

module _ {D : Type 0} (moment : D → ℕ) (left_since : D → ℕ → List ℕ → Type 0) where
  -- before the first call
  pub started : (old : D) (P : List ℕ → Type 0) → ((c : List ℕ) → left_since old (moment old) c → P c) →
      LeavesOnly moment left_since old old P
  started old P here = record { later = omega arith; each = here; before = λ t c le left. inl left }

  -- one call more, after which a crash leaves what has P
  pub goes_on : (old mid new : D) (P images : List ℕ → Type 0) → LeavesOnly moment left_since old mid P →
      Elapses (moment mid) (moment new) (left_since mid) (left_since new) images → ((c : List ℕ) → images c → P c)
      → LeavesOnly moment left_since old new P
  goes_on old mid new P images so_far time here = record {
    later = omega (arith, so_far.later, time.later);
    each = λ c left. ⊎_elim (so_far.each c) (here c) (time.nothing_else (moment old) c so_far.later left);
    before = λ t c le left.
        ⊎_elim (so_far.before t c le) (λ now. inr (here c now)) (time.nothing_else t c (omega (arith, le, so_far.later)) left);
  }

  -- two runs, one behind the other
  pub joins : (old mid new : D) (P Q R : List ℕ → Type 0) → LeavesOnly moment left_since old mid P →
      LeavesOnly moment left_since mid new Q → ((c : List ℕ) → P c → R c) → ((c : List ℕ) → Q c → R c)
      → LeavesOnly moment left_since old new R
  joins old mid new P Q R first second p q = record {
    later = omega (arith, first.later, second.later);
    each = λ c left. ⊎_elim (λ was. p c (first.each c was)) (q c) (second.before (moment old) c first.later left);
    before = λ t c le left. ⊎_elim
        (λ was. ⊎_elim (λ (l : left_since old t c). inl l) (λ h. inr (p c h)) (first.before t c le was))
        (λ h. inr (q c h)) (second.before t c (omega (arith, le, first.later)) left);
  }

  pub weaker : (old new : D) (P R : List ℕ → Type 0) → LeavesOnly moment left_since old new P → ((c : List ℕ) → P c → R c) →
      LeavesOnly moment left_since old new R
  weaker old new P R run p = record {
    later = run.later;
    each = λ c left. p c (run.each c left);
    before = λ t c le left. ⊎_elim (λ (l : left_since old t c). inl l) (λ h. inr (p c h)) (run.before t c le left);
  }

module _ {D : Type 0} (g : Ghosts D) where
  -- what was asked, call by call
  pub asks_none : (old new : D) → AsksNothing (g.moment old) (g.asked_since old) (g.asked_since new) → g.went old [] new →
      Asks g old new []
  asks_none old new none went = record {
    since = λ t before le was. subst (g.asked_since new t) (sym (append-nil before)) (none t before le was);
    went = went;
  }

  pub asks_one : (old new : D) (call : Asked) → AsksOneMore (g.moment old) call (g.asked_since old) (g.asked_since new) →
      g.went old (call ∷ []) new → Asks g old new (call ∷ [])
  asks_one old new call one went = record { since = λ t before le was. one t before le was; went = went }

  abbrev pub WentOn : Type 0
  WentOn = (a b c : D) (xs ys : List Asked) → g.went a xs b → g.went b ys c → g.went a (xs ++ ys) c

  abbrev pub WentNone : Type 0
  WentNone = (disk : D) → g.went disk [] disk

  pub asks_on : WentOn → (old mid new : D) (xs ys : List Asked) → g.moment old ≤ g.moment mid → Asks g old mid xs → Asks g mid new ys →
      Asks g old new (xs ++ ys)
  asks_on law old mid new xs ys le first second = record {
    since = λ t before early was.
        subst (g.asked_since new t) (append_assoc before xs ys)
        (second.since t (before ++ xs) (omega (arith, early, le)) (first.since t before early was));
    went = law old mid new xs ys first.went second.went;
  }

  abbrev pub OnlyNow : Type 0
  OnlyNow = (disk : D) (c : List ℕ) → g.told → g.left_since disk (g.moment disk) c → g.may_leave disk c

  pub looks_none : OnlyNow → WentNone → (disk : D) → Looks g disk disk
  looks_none law none disk = record {
    stays = λ told. record { seen = refl; no_more = λ c h. h; no_less = λ c h. h };
    time = λ told. started g.moment g.left_since disk (g.may_leave disk) (λ c left. law disk c told left);
    asked = λ told. asks_none disk disk (λ t before le was. was) (none disk);
    calm = λ h. h;
    never_falls = omega arith;
    room_calls = omega arith;
    room_bytes = omega arith;
  }

  pub looks_on : WentOn → (a b c : D) → Looks g a b → Looks g b c → Looks g a c
  looks_on law a b c first second = record {
    stays = λ told. record {
      seen = (second.stays told).seen ∙ (first.stays told).seen;
      no_more = λ x h. (first.stays told).no_more x ((second.stays told).no_more x h);
      no_less = λ x h. (second.stays told).no_less x ((first.stays told).no_less x h);
    };
    time = λ told. joins g.moment g.left_since a b c (g.may_leave a) (g.may_leave b) (g.may_leave a) (first.time told)
        (second.time told) (λ x h. h) (λ x h. (first.stays told).no_more x h);
    asked = λ told. asks_on law a b c [] [] (first.time told).later (first.asked told) (second.asked told);
    calm = λ h. second.calm (first.calm h);
    never_falls = omega (arith, first.never_falls, second.never_falls);
    room_calls = omega (arith, first.room_calls, second.room_calls);
    room_bytes = omega (arith, first.room_bytes, second.room_bytes);
  }

  -- one call that neither writes nor syncs
  pub looks_once : OnlyNow → (old new : D) → (g.told → Stays (g.seen old) (g.seen new) (g.may_leave old) (g.may_leave new)) →
      (g.told → Elapses (g.moment old) (g.moment new) (g.left_since old) (g.left_since new) (g.may_leave new))
      → AsksNothing (g.moment old) (g.asked_since old) (g.asked_since new) → g.went old [] new → (g.calm old → g.calm new)
      → g.fault_count old ≤ g.fault_count new → g.room_calls old ≤ g.room_calls new → g.room_bytes old ≤ g.room_bytes new
      → Looks g old new
  looks_once law old new stays time asked went calm falls calls bytes = record {
    stays = stays;
    time = λ told. goes_on g.moment g.left_since old old new (g.may_leave old) (g.may_leave new)
        (started g.moment g.left_since old (g.may_leave old) (λ c left. law old c told left)) (time told) (stays told).no_more;
    asked = λ told. asks_none old new asked went;
    calm = calm;
    never_falls = falls;
    room_calls = calls;
    room_bytes = bytes;
  }

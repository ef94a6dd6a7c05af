-- What is known of those who wait below a node.
use Rattle.std.proofs.Common.{◌≡◌, ◌∙◌, ℕ, ◌<◌, ◌≤◌, ◌^◌, inl, inr, Bool, true, false, ◌||◌, List, []}
use Rattle.std.proofs.Common.{◌∷◌, ◌++◌, length, Box, refl, sym, ap}
use Rattle.std.proofs.Common.{subst, arith, None}
use Rattle.std.proofs.lemmas.List.Elements.{filter-append}
use Rattle.std.proofs.lemmas.List.Folds.{list_any-append}
use Rattle.std.specs.declared.alloc.Global.{Global}
use Rattle.ncc_wait.specs.declared.parked.Parked.{Parked}
use Rattle.ncc_wait.specs.declared.span.Span.{Span}
use Rattle.ncc_wait.specs.declared.tree.Tree.{Tree}
use Rattle.ncc_wait.specs.declared.tree.Node.{Node}
use Rattle.ncc_wait.specs.declared.tree.Node.TheVariants.{Empty, One, Fork}
use Rattle.ncc_wait.specs.Room.{Ascending, is_parked, next, put, without}
use Rattle.ncc_wait.specs.Tree.{IsFork, IsHigh, IsLoose, IsLow, IsTree, IsWithin, Outside, WaitFrom, below, ends_of}
use Rattle.ncc_wait.proofs.Orders.{all_both, all_more, all_put, all_without, ascending_join, ascending_put, ascending_without}
use Rattle.ncc_wait.proofs.Orders.{next_none, none_of, put_back, put_front, put_high, put_low, without_none}

joined_ascends : (s : Span) (l h : List Parked) → IsLoose s l h → Ascending (l ++ h)
joined_ascends s l h f =
    ascending_join s.split l h (all_more (IsLow s) (λ p. p.conn < s.split) (λ p a. a.1) l f.lows)
    (all_more (IsHigh s) (λ p. s.split ≤ p.conn) (λ p a. a.0) h f.highs) f.low_ascends f.high_ascends

node_ascends : (n : Node) → IsTree n → Ascending (below n)
unfolding Ascending
node_ascends Empty t = tt
node_ascends (One p) t = (tt, tt)
node_ascends (Fork s low high) t = joined_ascends s low.value high.value t.loose

pub ascends : (n : Node) (d : List Parked) → below n ≡ d → IsTree n → Ascending d
ascends n d view tree = subst Ascending view (node_ascends n tree)

-- a value whose node is a fork
pub record AtFork (d : List Parked) (s : Span) (l h : List Parked) : Type 0 where
  pub is : d ≡ l ++ h
  pub fork : IsFork s l h

pub at_fork : {n : Node} {d : List Parked} {s : Span} {low high : Box Tree Global} → below n ≡ d → IsTree n → n ≡ Fork s low high →
    AtFork d s low.value high.value
at_fork {n} {d} {s} {low} {high} view tree is = record { is = sym view ∙ ap below is; fork = subst IsTree is tree }

-- ---- one number

none_high : (c : ℕ) (s : Span) (l h : List Parked) → IsLoose s l h → c < s.split → is_parked c h ≡ false
none_high c s l h f low = none_of (IsHigh s) c (λ p a e. absurd (omega (arith, a.0))) h f.highs

none_low : (c : ℕ) (s : Span) (l h : List Parked) → IsLoose s l h → s.split ≤ c → is_parked c l ≡ false
none_low c s l h f high = none_of (IsLow s) c (λ p a e. absurd (omega (arith, a.1))) l f.lows

or_right : (a b : Bool) → b ≡ false → (a || b) ≡ a
or_right true b e = refl
or_right false b e = e

or_left : (a b : Bool) → a ≡ false → (a || b) ≡ b
or_left true b e = absurd (cc)
or_left false b e = refl

pub parked_low : (c : ℕ) (s : Span) (l h : List Parked) → IsLoose s l h → c < s.split → is_parked c (l ++ h) ≡ is_parked c l
parked_low c s l h f low = list_any-append _ l h ∙ or_right (is_parked c l) (is_parked c h) (none_high c s l h f low)

pub parked_high : (c : ℕ) (s : Span) (l h : List Parked) → IsLoose s l h → s.split ≤ c → is_parked c (l ++ h) ≡ is_parked c h
parked_high c s l h f high = list_any-append _ l h ∙ or_left (is_parked c l) (is_parked c h) (none_low c s l h f high)

pub without_low : (c : ℕ) (s : Span) (l h : List Parked) → IsLoose s l h → c < s.split → without c (l ++ h) ≡ without c l ++ h
without_low c s l h f low = filter-append _ l h ∙ ap (λ x. without c l ++ x) (without_none c h (none_high c s l h f low))

pub without_high : (c : ℕ) (s : Span) (l h : List Parked) → IsLoose s l h → s.split ≤ c → without c (l ++ h) ≡ l ++ without c h
without_high c s l h f high = filter-append _ l h ∙ ap (λ x. x ++ without c h) (without_none c l (none_low c s l h f high))

pub loose_without_low : (c : ℕ) (s : Span) (l h new : List Parked) → IsLoose s l h → new ≡ without c l → IsLoose s new h
loose_without_low c s l h new f e = subst (λ x. IsLoose s x h) (sym e) (record {
  from = f.from;
  to = f.to;
  lows = all_without (IsLow s) c l f.lows;
  highs = f.highs;
  low_ascends = ascending_without c l f.low_ascends;
  high_ascends = f.high_ascends;
})

pub loose_without_high : (c : ℕ) (s : Span) (l h new : List Parked) → IsLoose s l h → new ≡ without c h → IsLoose s l new
loose_without_high c s l h new f e = subst (λ x. IsLoose s l x) (sym e) (record {
  from = f.from;
  to = f.to;
  lows = f.lows;
  highs = all_without (IsHigh s) c h f.highs;
  low_ascends = f.low_ascends;
  high_ascends = ascending_without c h f.high_ascends;
})

-- ---- one more

pub put_in_low : (p : Parked) (s : Span) (l h : List Parked) → IsLoose s l h → p.conn < s.split → put p (l ++ h) ≡ put p l ++ h
put_in_low p s l h f low = put_low p l h (all_more (IsHigh s) (λ q. p.conn < q.conn) (λ q a. omega (arith, a.0)) h f.highs)

pub put_in_high : (p : Parked) (s : Span) (l h : List Parked) → IsLoose s l h → s.split ≤ p.conn → put p (l ++ h) ≡ l ++ put p h
put_in_high p s l h f high = put_high p l h (all_more (IsLow s) (λ q. q.conn < p.conn) (λ q a. omega (arith, a.1)) l f.lows)

pub loose_put_low : (p : Parked) (s : Span) (l h new : List Parked) → IsLoose s l h → is_parked p.conn l ≡ false → s.from ≤ p.conn →
    p.conn < s.split → new ≡ put p l → IsLoose s new h
loose_put_low p s l h new f apart from low e = subst (λ x. IsLoose s x h) (sym e) (record {
  from = f.from;
  to = f.to;
  lows = all_put (IsLow s) p l (from, low) f.lows;
  highs = f.highs;
  low_ascends = ascending_put p l f.low_ascends apart;
  high_ascends = f.high_ascends;
})

pub loose_put_high : (p : Parked) (s : Span) (l h new : List Parked) → IsLoose s l h → is_parked p.conn h ≡ false → s.split ≤ p.conn →
    p.conn ≤ s.to → new ≡ put p h → IsLoose s l new
loose_put_high p s l h new f apart high to e = subst (λ x. IsLoose s l x) (sym e) (record {
  from = f.from;
  to = f.to;
  lows = f.lows;
  highs = all_put (IsHigh s) p h (high, to) f.highs;
  low_ascends = f.low_ascends;
  high_ascends = ascending_put p h f.high_ascends apart;
})

-- ---- the ends of a node

some_of_both : (l h : List Parked) → 0 < length l → 0 < length (l ++ h)
some_of_both [] h some = absurd (omega arith)
some_of_both (p ∷ ps) h some = omega arith

pub within_ends : (n : Node) (c : ℕ) → IsTree n → Outside c n → c < 2 ^ 64 → IsWithin (ends_of n) (below n)
unfolding Ascending
within_ends Empty c t (inl low) fits = absurd (omega arith)
within_ends Empty c t (inr high) fits = absurd (omega arith)
within_ends (One p) c t outside fits = record { some = omega arith; ascends = (tt, tt); within = ((omega arith, omega arith), tt) }
within_ends (Fork s low high) c t outside fits = record {
  some = some_of_both low.value high.value t.some_low;
  ascends = joined_ascends s low.value high.value t.loose;
  within =
      all_both (λ p. (s.from ≤ p.conn) × (p.conn ≤ s.to)) low.value high.value
      (all_more (IsLow s) (λ p. (s.from ≤ p.conn) × (p.conn ≤ s.to)) (λ p a. (a.0, omega (arith, a.1, t.loose.to))) low.value t.loose.lows)
      (all_more (IsHigh s) (λ p. (s.from ≤ p.conn) × (p.conn ≤ s.to)) (λ p a. (omega (arith, a.0, t.loose.from), a.1)) high.value
      t.loose.highs);
}

-- ---- who is next

pub none_next : (at now : ℕ) (s : Span) (l h : List Parked) → IsFork s l h → at < s.need → now ≤ s.deadline → next at now (l ++ h) ≡ None
none_next at now s l h f need deadline =
    let wait : (p : Parked) → WaitFrom s.need s.deadline p → (at < p.need) × (now ≤ p.deadline) =
    λ p a. (omega (arith, a.0), omega (arith, a.1)) in
    next_none at now (l ++ h) (all_both _ l h (all_more _ _ wait l f.waits_low) (all_more _ _ wait h f.waits_high))

pub empty_next : (at now : ℕ) (n : Node) (d : List Parked) → below n ≡ d → n ≡ Empty → None ≡ next at now d
unfolding next
empty_next at now n d view is = ap (next at now) (sym (ap below is) ∙ view)

pub empty_put : (p : Parked) (n : Node) (d : List Parked) → below n ≡ d → n ≡ Empty → p ∷ [] ≡ put p d
unfolding put
empty_put p n d view is = ap (put p) (sym (ap below is) ∙ view)

-- ---- beside a node

pub within_one : (p : Parked) (ps : List Parked) → ps ≡ p ∷ [] → IsWithin (p.conn, p.conn) ps
unfolding Ascending
within_one p ps e =
    subst (IsWithin (p.conn, p.conn)) (sym e)
    (record { some = omega arith; ascends = (tt, tt); within = ((omega arith, omega arith), tt) })

pub put_under : (ends : ℕ × ℕ) (ps : List Parked) (p : Parked) → IsWithin ends ps → p.conn < ends.0 → put p ps ≡ p ∷ ps
put_under ends ps p w low =
    put_front p ps (all_more (λ q. (ends.0 ≤ q.conn) × (q.conn ≤ ends.1)) (λ q. p.conn < q.conn) (λ q a. omega (arith, a.0)) ps w.within)

pub put_over : (ends : ℕ × ℕ) (ps : List Parked) (p : Parked) → IsWithin ends ps → ends.1 < p.conn → put p ps ≡ ps ++ p ∷ []
put_over ends ps p w high =
    put_back p ps (all_more (λ q. (ends.0 ≤ q.conn) × (q.conn ≤ ends.1)) (λ q. q.conn < p.conn) (λ q a. omega (arith, a.1)) ps w.within)

pub other_side : (n : Node) (c : ℕ) → Outside c n → (ends_of n).0 ≤ c → (ends_of n).1 < c
other_side n c (inl low) le = absurd (omega arith)
other_side n c (inr high) le = high

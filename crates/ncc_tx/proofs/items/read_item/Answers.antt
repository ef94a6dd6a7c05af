use Rattle.std.proofs.Common.{◌≡◌, ◌≤◌, ℕ, ◌+◌, ◌-◌, List, length, take, drop, ap, subst, sym, arith, length-drop}
use Rattle.std.specs.Prelude.{IsTrue}
use Rattle.std.proofs.lemmas.List.{take_rest}
use Rattle.ncc_tx.specs.Fields.{Behind, RightEntry, RightTerm, size_at_front, term_at_front}
use Rattle.ncc_tx.specs.Items.{entry_allowed}
use Rattle.ncc_tx.proofs.ItemBytes.{length_item}
use Rattle.ncc_tx.proofs.ItemRead.{begins_right, found_is, in_bounds, none_wrong, only_ok, rest_bytes}
use Rattle.ncc_tx.proofs.items.read_item.Goals as goal
use Rattle.ncc_tx.proofs.items.read_item.Goals.{In-Some-2}

pub returns-in_default-clause-only : goal.returns-in_default-clause-only
returns-in_default-clause-only c = λ i b.
    let bs = drop c.args.at c.args.bytes.now in
    let none = subst (λ (l : List ℕ). RightTerm c.args.least c.args.greatest l →
    ⊥) (take_rest c.args.bytes.now c.args.at) c.in_default.ensures.none in
    absurd (none (begins_right c.args.least c.args.greatest bs i (omega arith) b).0)

pub returns-in_default-right_size-clause-only : goal.returns-in_default-right_size-clause-only
returns-in_default-right_size-clause-only c = λ i b.
    let bs = drop c.args.at c.args.bytes.now in
    let there = (begins_right c.args.least c.args.greatest bs i (omega arith) b).1 in
    absurd (omega (arith, there, c.in_default-right_size.ensures.none, ap length (take_rest c.args.bytes.now c.args.at)))

pub returns-in-None-clause-only : goal.returns-in-None-clause-only
returns-in-None-clause-only c = λ i b.
    let bs = drop c.args.at c.args.bytes.now in
    let none = rw c.in-None.is at c.in_ok-right_entry.ensures.none in
    let there = begins_right c.args.least c.args.greatest bs i (omega arith) b in
    absurd (none (subst RightEntry (sym (take_rest c.args.bytes.now c.args.at)) there.2))

-- what was read in the rest of the bytes
whole : (c : In-Some-2) → take (length c.args.bytes.now - c.args.at) (drop c.args.at c.args.bytes.now) ≡ drop c.args.at c.args.bytes.now
whole c = take_rest c.args.bytes.now c.args.at

right : (c : In-Some-2) → RightTerm c.args.least c.args.greatest (drop c.args.at c.args.bytes.now)
right c = subst (RightTerm c.args.least c.args.greatest) (whole c) c.in-Some.ensures.some.0

there : (c : In-Some-2) → 12 ≤ length (drop c.args.at c.args.bytes.now)
there c = subst (λ (l : List ℕ). 12 ≤ length l) (whole c) c.in-Some-right_size.ensures.some.0

size : (c : In-Some-2) → c.in-Some-right_size.size ≡ size_at_front (drop c.args.at c.args.bytes.now)
size c = subst (λ (l : List ℕ). c.in-Some-right_size.size ≡ size_at_front l) (whole c) c.in-Some-right_size.ensures.some.1

entry : (c : In-Some-2) → IsTrue (entry_allowed c.in-Some-2.entry) × Behind (drop c.args.at c.args.bytes.now) c.in-Some-2.entry
entry c =
    let f = rw c.in-Some-2.is at c.in_ok-right_entry.ensures.some in
    (f.0, subst (λ (l : List ℕ). Behind l c.in-Some-2.entry) (whole c) f.1)

pub overflow_add-result-in-Some-2 : goal.overflow_add-result-in-Some-2
overflow_add-result-in-Some-2 c = omega (
  arith,
  in_bounds (drop c.args.at c.args.bytes.now) c.in-Some-2.entry c.in-Some-right_size.size (there c) (size c) (entry c).1,
  length-drop c.args.at c.args.bytes.now,
)

pub returns-in-Some-2-clause-behind : goal.returns-in-Some-2-clause-behind
returns-in-Some-2-clause-behind c = omega (
  arith,
  length_item (record { term = c.in-Some.term; entry = c.in-Some-2.entry }),
  (entry c).1.size,
  size c,
)

pub returns-in-Some-2-clause-found : goal.returns-in-Some-2-clause-found
returns-in-Some-2-clause-found c =
    let term : c.in-Some.term ≡ term_at_front (drop c.args.at c.args.bytes.now) =
    subst (λ (l : List ℕ). c.in-Some.term ≡ term_at_front l) (whole c) c.in-Some.ensures.some.1 in
    found_is c.args.least c.args.greatest (drop c.args.at c.args.bytes.now) c.in-Some.term c.in-Some-2.entry
    (rest_bytes c.args.bytes.now c.args.at (λ k. omega (arith, c.type_inv.bytes k))) (there c) (right c) term (entry c).0 (entry c).1

pub returns-in-Some-2-clause-only : goal.returns-in-Some-2-clause-only
returns-in-Some-2-clause-only c = λ i b.
    only_ok c.one_spelling.ensures.one c.args.least c.args.greatest (drop c.args.at c.args.bytes.now) c.args.at
    (c.args.at + 12 + c.in-Some-right_size.size) i (record { term = c.in-Some.term; entry = c.in-Some-2.entry }) (omega arith) b
    (returns-in-Some-2-clause-found c) (returns-in-Some-2-clause-behind c)

pub returns-in-Some-2-clause-exact : goal.returns-in-Some-2-clause-exact
returns-in-Some-2-clause-exact c = λ field w.
    absurd (none_wrong c.args.least c.args.greatest (drop c.args.at c.args.bytes.now) field (right c) (there c) (
      c.in-Some-2.entry,
      (entry c).0,
      (entry c).1,
    ) w)

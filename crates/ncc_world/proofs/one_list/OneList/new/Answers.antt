use Rattle.std.proofs.Common.{◌≡◌, ◌+◌, ◌++◌, ◌∷◌, [], suc, sym, subst, arith, List, ℕ}
use Rattle.ncc_tx.specs.declared.entry.Item.{Item}
use Rattle.ncc_apply.specs.Shelf.{Shown as Shelved}
use Rattle.ncc_world.specs.declared.seen.MemberSeen.{MemberSeen}
use Rattle.ncc_world.specs.World.{AreOneList}
use Rattle.ncc_world.specs.Parts.{list_in}
use Rattle.ncc_world.proofs.Firstly.{AreFirst, empties, first_none, first_more, first_members}
use Rattle.ncc_world.proofs.one_list.OneList.new.Goals as goal

pub loop-index-init : goal.loop-index-init
loop-index-init c =
    subst (λ (x : List Item). AreFirst c.args.setup.now 0 x c.new-2.result.items c.new-3.result) (sym c.new.ensures.empty)
    (subst (λ (x : List Shelved). AreFirst c.args.setup.now 0 [] x c.new-3.result) (sym c.new-2.ensures.items)
    (subst (λ (x : List MemberSeen). AreFirst c.args.setup.now 0 [] [] x) (sym c.new-3.ensures.empty) (first_none c.args.setup.now)))

pub loop-index-preserved : goal.loop-index-preserved
loop-index-preserved c =
    let s = c.args.setup.now in
    let n = c.loop-index.index in
    let items = c.loop-index.members.items in
    let next : suc n ≡ n + 1 = omega arith in
    let more = first_more s n items c.loop-index.members.shelves.items c.loop-index.members.seen c.in_ok-new.field-0 c.seen_new.result
    c.loop-index.invariant c.in_ok-new.ensures.empty c.seen_new.ensures in
    subst (λ (k : ℕ). AreFirst s k items c.push.new.self.items c.push-in-loop-index.new.self) next
    (subst (λ (x : List Shelved). AreFirst s (suc n) items x c.push-in-loop-index.new.self) (sym c.in_ok-push.ensures.items)
    (subst (λ (x : List MemberSeen). AreFirst s (suc n) items (c.loop-index.members.shelves.items ++ (c.in_ok-new.field-0 ∷ [])) x)
    (sym c.in_ok-push-2.ensures.ok) more))

pub returns : goal.returns
returns c =
    let n = c.args.setup.now.cores + c.args.setup.now.replicas in
    let whole : c.loop-index.index ≡ n = omega (arith, c.loop-index-test.false, c.loop-index.auto.index-end) in
    record {
      new = subst (λ (k : ℕ). AreOneList c.args.setup.now (list_in c.loop-index.members) (empties k)) whole
          (first_members c.args.setup.now c.loop-index.index c.loop-index.members.items c.loop-index.members.shelves.items
          c.loop-index.members.seen (omega (arith, whole, c.requires.allowed.cores.0)) c.loop-index.invariant);
    }

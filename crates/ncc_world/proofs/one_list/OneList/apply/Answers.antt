use Rattle.std.proofs.Common.{◌≡◌, ◌+◌, ◌-◌, min, ◌∙◌, ap, sym, length, arith, subst, List, get_or, take, refl}
use Rattle.std.specs.Prelude.{slice_set}
use Rattle.ncc_apply.specs.Shelf.{Stands}
use Rattle.ncc_tx.specs.declared.entry.Item.{Item}
use Rattle.ncc_world.specs.declared.seen.MemberSeen.{MemberSeen}
use Rattle.ncc_world.specs.World.{AreOneList}
use Rattle.ncc_world.specs.Setting.{lagging}
use Rattle.ncc_world.proofs.Listing.{shelf_count, seen_count, shelf_short}
use Rattle.ncc_world.proofs.Moving.{kept, lagged}
use Rattle.ncc_world.proofs.one_list.OneList.apply.Goals as goal

pub index_mut-requires-2 : goal.index_mut-requires-2
index_mut-requires-2 c =
    let k = c.requires.lists.1.are in
    let e = ap length c.taken-seen.ensures.same ∙ ap length k.seen ∙ seen_count c.requires.lists.0 1 c.requires.lists.1.lists in
    omega (arith, e, shelf_count _ _ c.requires.lists.1.lists k.shelves, c.requires.there)

pub apply_to-applied-requires-clause-from : goal.apply_to-applied-requires-clause-from
apply_to-applied-requires-clause-from c =
    let k = c.requires.lists.1.are in
    let at = c.at-from.ensures.at c.requires.lists.0 c.requires.lists.1.lists k in
    let short = shelf_short _ _ c.requires.lists.1.lists (c.args.member - 1) k.shelves in
    omega (arith, at, short)

pub returns-clause-ok : goal.returns-clause-ok
returns-clause-ok c = λ s lists k far.
    let i = c.args.member - 1 in
    let x = c.index_mut.result.now in
    let m = c.index_mut-2.result.now in
    let y = c.apply_to-applied.new.shelf in
    let n = c.apply_to-applied.new.seen in
    let from = c.at-from.result in
    let goal = c.min-goal.result in
    let items = c.args.self.now.items in
    let shelves = c.args.self.now.shelves.items in
    let seen = c.args.self.now.seen in
    let goal_is : goal ≡ min (from + c.args.count) (length items) = omega arith in
    let shown : c.from_vec.result ≡ slice_set seen i n =
    c.from_vec.ensures.same ∙ ap (λ (l : List MemberSeen). slice_set l i n) c.taken-seen.ensures.same in
    let same = c.as_slice.ensures.same ∙ c.entries.ensures.same in
    subst (λ (l : List MemberSeen). AreOneList s (kept items (slice_set shelves i y) l) (lagging lists c.args.member c.args.count)) (sym shown)
    (lagged s items shelves seen lists i c.args.member c.args.count from goal x y m n k far refl
    (omega (arith, c.requires.there)) c.index_mut.ensures.value
    (c.index_mut-2.ensures.value ∙ ap (λ (l : List MemberSeen). get_or l i m) c.taken-seen.ensures.same)
    (c.at-from.ensures.at s lists k) goal_is
    (λ st. subst (λ (l : List Item). Stands y (take goal l)) same
    (c.in_ok-applied.ensures.shelf (subst (λ (l : List Item). Stands x (take from l)) (sym same) st)))
    (λ st. c.in_ok-applied.ensures.seen (subst (λ (l : List Item). Stands x (take from l)) (sym same) st)))

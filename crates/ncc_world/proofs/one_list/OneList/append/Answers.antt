use Rattle.std.proofs.Common.{◌≡◌, ◌∙◌, ap, sym, length, arith, subst, List, ◌∷◌, [], ◌++◌, get_or}
use Rattle.std.specs.Prelude.{slice_set}
use Rattle.ncc_tx.specs.declared.entry.Item.{Item}
use Rattle.ncc_world.specs.World.{AreOneList}
use Rattle.ncc_world.specs.Setting.{list_at}
use Rattle.ncc_world.specs.declared.seen.MemberSeen.{MemberSeen}
use Rattle.ncc_world.proofs.Listing.{shelf_count, seen_count}
use Rattle.ncc_world.proofs.Moving.{kept, appended_one}
use Rattle.ncc_world.proofs.one_list.OneList.append.Goals as goal

pub index_mut-requires : goal.index_mut-requires
index_mut-requires c =
    let k = c.requires.lists.1.are in omega (arith, shelf_count _ _ c.requires.lists.1.lists k.shelves, k.some)

pub index_mut-requires-2 : goal.index_mut-requires-2
index_mut-requires-2 c =
    let k = c.requires.lists.1.are in
    let e = ap length c.taken-seen.ensures.same ∙ ap length k.seen ∙ seen_count c.requires.lists.0 1 c.requires.lists.1.lists in
    omega (arith, e, k.some)

pub returns : goal.returns
returns c = record {
  ok = λ s lists k.
      let x = c.index_mut.result.now in
      let m = c.index_mut-2.result.now in
      let y = c.apply_one-applied.new.shelf in
      let n = c.apply_one-applied.new.seen in
      let items = c.args.self.now.items in
      let shelves = c.args.self.now.shelves.items in
      let seen = c.args.self.now.seen in
      let new = slice_set lists 0 (list_at lists 1 ++ (c.args.item ∷ [])) in
      let shown : c.from_vec.result ≡ slice_set seen 0 n =
      c.from_vec.ensures.same ∙ ap (λ (l : List MemberSeen). slice_set l 0 n) c.taken-seen.ensures.same in
      subst (λ (l : List MemberSeen). AreOneList s (kept c.push.new.self (slice_set shelves 0 y) l) new) (sym shown)
      (subst (λ (l : List Item). AreOneList s (kept l (slice_set shelves 0 y) (slice_set seen 0 n)) new) (sym c.in_ok-push.ensures.ok)
      (appended_one s items shelves seen lists c.args.item x y m n k c.index_mut.ensures.value
      (c.index_mut-2.ensures.value ∙ ap (λ (l : List MemberSeen). get_or l 0 m) c.taken-seen.ensures.same)
      c.in_ok-applied.ensures.shelf c.in_ok-applied.ensures.seen));
}

-- Members that apply more of the one list.
use Rattle.std.proofs.Common.{◌≡◌, ℕ, zero, suc, ◌+◌, ◌-◌, ◌<◌, ◌≤◌, min, List, [], ◌∷◌, ◌++◌, length, get_or, take, drop}
use Rattle.std.proofs.Common.{refl, ap, sym, ◌∙◌, subst, arith, append-nil, length-append, inl, inr}
use Rattle.std.specs.Prelude.{slice_set}
use Rattle.std.proofs.lemmas.List.{get_or-set_same, get_or-set_other, length-set}
use Rattle.std.proofs.Math.Seq.{take-add, take-length}
use Rattle.std.proofs.lemmas.Bool.Decides.{leb_tells}
use Rattle.ncc_tx.specs.declared.entry.Item.{Item}
use Rattle.ncc_apply.specs.Shelf.{Shown as Shelved, Stands as ShelfStands}
use Rattle.ncc_world.specs.declared.setup.Setup.{Setup}
use Rattle.ncc_world.specs.declared.seen.MemberSeen.{MemberSeen}
use Rattle.ncc_world.specs.Setting.{Lists, list_at, extended, lagging}
use Rattle.ncc_world.specs.World.{IsShelf, AreOneList, KeptMembers}
use Rattle.ncc_world.proofs.Listing.{shelf_at, shelf_set, shelf_count, shelves_grown, seen_set, seen_at}

abbrev pub kept : List Item → List Shelved → List MemberSeen → KeptMembers
kept items shelves seen = record { items = items; shelves = shelves; seen = seen }

-- one member has applied this instead
pub replaced : (s : Setup) (items : List Item) (shelves : List Shelved) (seen : List MemberSeen) (lists : Lists) (i : ℕ) (y : Shelved)
    (m : MemberSeen) (list : List Item) → AreOneList s (kept items shelves seen) lists → i < length lists → IsShelf items y list
    → m ≡ get_or seen i m → list_at (slice_set lists i list) 1 ≡ items
    → AreOneList s (kept items (slice_set shelves i y) (slice_set seen i (record m { at = length list }))) (slice_set lists i list)
replaced s items shelves seen lists i y m list k l h e f = record {
  shelves = shelf_set items shelves lists i y list k.shelves h;
  first = f;
  some = omega (arith, length-set lists i list, k.some);
  seen = ap (λ (x : List MemberSeen). slice_set x i (record m { at = length list })) k.seen
      ∙ seen_set s 1 lists i m list l (e ∙ ap (λ (x : List MemberSeen). get_or x i m) k.seen);
}

pub appended_one : (s : Setup) (items : List Item) (shelves : List Shelved) (seen : List MemberSeen) (lists : Lists) (item : Item)
    (x y : Shelved) (m n : MemberSeen) → AreOneList s (kept items shelves seen) lists
    → x ≡ get_or shelves 0 x → m ≡ get_or seen 0 m
    → ((h : List Item) → ShelfStands x h → ShelfStands y (h ++ (item ∷ [])))
    → ((h : List Item) → ShelfStands x h → n ≡ record m { at = length h + 1 })
    → AreOneList s (kept (items ++ (item ∷ [])) (slice_set shelves 0 y) (slice_set seen 0 n)) (slice_set lists 0 (list_at lists 1 ++ (item ∷ [])))
appended_one s items shelves seen lists item x y m n k e f g h =
    let some : 0 < length shelves = omega (arith, shelf_count items shelves lists k.shelves, k.some) in
    let old : IsShelf items x (list_at lists 1) = shelf_at items shelves lists 0 x k.shelves some e in
    let list : List Item = list_at lists 1 ++ (item ∷ []) in
    let whole : list ≡ items ++ (item ∷ []) = ap (λ (l : List Item). l ++ (item ∷ [])) k.first in
    let new : IsShelf (items ++ (item ∷ [])) y list = record {
      stands = g (list_at lists 1) old.stands;
      rest = [];
      begins = append-nil list ∙ whole;
    } in
    let long : length list ≡ length (list_at lists 1) + 1 = length-append (list_at lists 1) (item ∷ []) in
    let shows : n ≡ record m { at = length list } = h (list_at lists 1) old.stands ∙ ap (λ k. record m { at = k }) (sym long) in
    record {
      shelves = shelf_set (items ++ (item ∷ [])) shelves lists 0 y list (shelves_grown items (item ∷ []) shelves lists k.shelves) new;
      first = get_or-set_same lists 0 list [] k.some ∙ whole;
      some = omega (arith, length-set lists 0 list, k.some);
      seen = ap (λ (z : MemberSeen). slice_set seen 0 z) shows
          ∙ ap (λ (z : List MemberSeen). slice_set z 0 (record m { at = length list })) k.seen
          ∙ seen_set s 1 lists 0 m list k.some (f ∙ ap (λ (z : List MemberSeen). get_or z 0 m) k.seen);
    }

take_past : (n : ℕ) (l : List Item) → length l ≤ n → take n l ≡ l
take_past zero [] g = refl
take_past (suc n) [] g = refl
take_past zero (x ∷ l) g = absurd (omega arith)
take_past (suc n) (x ∷ l) g = ap (λ k. x ∷ k) (take_past n l (omega arith))

take_goal : (items : List Item) (from count goal : ℕ) → goal ≡ min (from + count) (length items)
    → take goal items ≡ take from items ++ take count (drop from items)
take_goal items from count goal e = elim (leb_tells (from + count) (length items)) [
  | inl h ↦ ap (λ k. take k items) (let g : goal ≡ from + count = omega (arith, e, h.1) in g) ∙ take-add from count items
  | inr h ↦ ap (λ k. take k items) (let g : goal ≡ length items = omega (arith, e, h.1) in g) ∙ take-length items
      ∙ sym (take_past (from + count) items (omega (arith, h.1))) ∙ take-add from count items
]

begins_take : (list rest items : List Item) → list ++ rest ≡ items → take (length list) items ≡ list
begins_take [] rest items e = refl
begins_take (x ∷ xs) rest [] e = absurd (cc)
begins_take (x ∷ xs) rest (y ∷ ys) e =
    let same : x ≡ y = cc in let behind : xs ++ rest ≡ ys = cc in
    ap (λ (l : List Item). y ∷ l) (begins_take xs rest ys behind) ∙ ap (λ (z : Item). z ∷ xs) (sym same)

take_drop : (n : ℕ) (l : List Item) → take n l ++ drop n l ≡ l
take_drop zero l = refl
take_drop (suc n) [] = refl
take_drop (suc n) (x ∷ l) = ap (λ k. x ∷ k) (take_drop n l)

length_take : (n : ℕ) (l : List Item) → n ≤ length l → length (take n l) ≡ n
length_take zero l h = refl
length_take (suc n) [] h = absurd (omega (arith, h))
length_take (suc n) (x ∷ l) h = ap suc (length_take n l (omega (arith, h)))

pub lagged : (s : Setup) (items : List Item) (shelves : List Shelved) (seen : List MemberSeen) (lists : Lists) (i member count from goal : ℕ)
    (x y : Shelved) (m n : MemberSeen) → AreOneList s (kept items shelves seen) lists → 1 < member → i ≡ member - 1 → i < length shelves
    → x ≡ get_or shelves i x → m ≡ get_or seen i m
    → from ≡ length (get_or lists i []) → goal ≡ min (from + count) (length items)
    → (ShelfStands x (take from items) → ShelfStands y (take goal items))
    → (ShelfStands x (take from items) → m.at ≡ from → n ≡ record m { at = goal })
    → AreOneList s (kept items (slice_set shelves i y) (slice_set seen i n)) (lagging lists member count)
lagged s items shelves seen lists i member count from goal x y m n k far is within e f at goal_is g h =
    let there : i < length lists = omega (arith, shelf_count items shelves lists k.shelves, within) in
    let own : List Item = get_or lists i [] in
    let old : IsShelf items x own = shelf_at items shelves lists i x k.shelves within e in
    let front : take from items ≡ own = ap (λ j. take j items) at ∙ begins_take own old.rest items old.begins in
    let stood : ShelfStands x (take from items) = subst (ShelfStands x) (sym front) old.stands in
    let list : List Item = extended own items count in
    let becomes : take goal items ≡ list =
    take_goal items from count goal goal_is ∙ ap (λ (l : List Item). l ++ take count (drop from items)) front
    ∙ ap (λ j. own ++ take count (drop j items)) at in
    let few : goal ≤ length items = omega (arith, goal_is) in
    let new : IsShelf items y list = record {
      stands = subst (ShelfStands y) becomes (g stood);
      rest = drop goal items;
      begins = ap (λ (l : List Item). l ++ drop goal items) (sym becomes) ∙ take_drop goal items;
    } in
    let long : goal ≡ length list = sym (length_take goal items few) ∙ ap length becomes in
    let showed : m.at ≡ from =
    seen_at s 1 lists i m there (f ∙ ap (λ (z : List MemberSeen). get_or z i m) k.seen) ∙ sym at in
    let shows : n ≡ record m { at = length list } = h stood showed ∙ ap (λ j. record m { at = j }) long in
    let other : list_at (slice_set lists i list) 1 ≡ items =
    get_or-set_other lists i 0 list [] (λ z. absurd (omega (arith, z, is, far))) ∙ k.first in
    let all : AreOneList s (kept items (slice_set shelves i y) (slice_set seen i n)) (slice_set lists i list) =
    subst (λ (z : MemberSeen). AreOneList s (kept items (slice_set shelves i y) (slice_set seen i z)) (slice_set lists i list)) (sym shows)
    (replaced s items shelves seen lists i y m list k there new f other) in
    subst (λ (l : Lists). AreOneList s (kept items (slice_set shelves i y) (slice_set seen i n)) l)
    (ap (λ (l : List Item). slice_set lists i (extended own l count)) (sym k.first)
    ∙ ap (λ j. slice_set lists j (extended (get_or lists j []) (list_at lists 1) count)) is) all

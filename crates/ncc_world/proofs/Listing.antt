-- Members over one list, each by its index.
use Rattle.std.proofs.Common.{◌≡◌, ℕ, zero, suc, ◌+◌, ◌<◌, ◌≤◌, List, [], ◌∷◌, ◌++◌, length, get_or, Bool, true, false, cond}
use Rattle.std.proofs.Common.{refl, ap, sym, ◌∙◌, subst, arith, append_assoc, append-nil, length-append}
use Rattle.std.specs.Prelude.{slice_set, ◌==◌, nat_le, nat_lt}
use Rattle.ncc_tx.specs.declared.entry.Item.{Item}
use Rattle.ncc_apply.specs.Shelf.{Shown as Shelved}
use Rattle.ncc_clients.specs.Members.{longest}
use Rattle.ncc_world.specs.declared.setup.Setup.{Setup}
use Rattle.ncc_world.specs.declared.seen.MemberSeen.{MemberSeen}
use Rattle.ncc_world.specs.Setting.{Lists, list_at}
use Rattle.ncc_world.specs.Showing.{member_seen, members_from}
use Rattle.ncc_world.specs.World.{IsShelf, AreShelves}
use Rattle.ncc_world.proofs.Rooms.{lt_no, lt_yes}

pub shelf_count : (items : List Item) (shelves : List Shelved) (lists : Lists) → AreShelves items shelves lists → length shelves ≡ length lists
unfolding AreShelves
shelf_count items [] [] h = refl
shelf_count items [] (l ∷ ls) h = absurd h
shelf_count items (x ∷ xs) [] h = absurd h
shelf_count items (x ∷ xs) (l ∷ ls) h = omega (arith, shelf_count items xs ls h.1)

pub shelf_at : (items : List Item) (shelves : List Shelved) (lists : Lists) (i : ℕ) (x : Shelved) → AreShelves items shelves lists
    → i < length shelves → x ≡ get_or shelves i x → IsShelf items x (get_or lists i [])
unfolding AreShelves
shelf_at items [] [] i x h l e = absurd (omega (arith, l))
shelf_at items [] (y ∷ ys) i x h l e = absurd h
shelf_at items (z ∷ zs) [] i x h l e = absurd h
shelf_at items (z ∷ zs) (y ∷ ys) zero x h l e = subst (λ (w : Shelved). IsShelf items w y) (sym e) h.0
shelf_at items (z ∷ zs) (y ∷ ys) (suc i) x h l e = shelf_at items zs ys i x h.1 (omega (arith, l)) e

pub shelf_set : (items : List Item) (shelves : List Shelved) (lists : Lists) (i : ℕ) (x : Shelved) (list : List Item)
    → AreShelves items shelves lists → IsShelf items x list → AreShelves items (slice_set shelves i x) (slice_set lists i list)
unfolding AreShelves
shelf_set items [] [] i x list h k = tt
shelf_set items [] (y ∷ ys) i x list h k = absurd h
shelf_set items (z ∷ zs) [] i x list h k = absurd h
shelf_set items (z ∷ zs) (y ∷ ys) zero x list h k = (k, h.1)
shelf_set items (z ∷ zs) (y ∷ ys) (suc i) x list h k = (h.0, shelf_set items zs ys i x list h.1 k)

-- the one list grows
grown : (items more : List Item) (x : Shelved) (list : List Item) → IsShelf items x list → IsShelf (items ++ more) x list
grown items more x list h = record {
  stands = h.stands;
  rest = h.rest ++ more;
  begins = sym (append_assoc list h.rest more) ∙ ap (λ (l : List Item). l ++ more) h.begins;
}

pub shelves_grown : (items more : List Item) (shelves : List Shelved) (lists : Lists) → AreShelves items shelves lists
    → AreShelves (items ++ more) shelves lists
unfolding AreShelves
shelves_grown items more [] [] h = tt
shelves_grown items more [] (y ∷ ys) h = absurd h
shelves_grown items more (z ∷ zs) [] h = absurd h
shelves_grown items more (z ∷ zs) (y ∷ ys) h = (grown items more z y h.0, shelves_grown items more zs ys h.1)

pub shelves_more : (items : List Item) (shelves : List Shelved) (lists : Lists) (x : Shelved) (list : List Item)
    → AreShelves items shelves lists → IsShelf items x list → AreShelves items (shelves ++ (x ∷ [])) (lists ++ (list ∷ []))
unfolding AreShelves
shelves_more items [] [] x list h k = (k, tt)
shelves_more items [] (y ∷ ys) x list h k = absurd h
shelves_more items (z ∷ zs) [] x list h k = absurd h
shelves_more items (z ∷ zs) (y ∷ ys) x list h k = (h.0, shelves_more items zs ys x list h.1 k)

-- ---- what members show

pub seen_count : (s : Setup) (from : ℕ) (lists : Lists) → length (members_from s from lists) ≡ length lists
unfolding members_from
seen_count s from [] = refl
seen_count s from (l ∷ ls) = ap suc (seen_count s (from + 1) ls)

at_by : (a b : Bool) (x y z : MemberSeen) (n : ℕ) → record (cond a x (cond b y z)) { at = n } ≡
    cond a (record x { at = n }) (cond b (record y { at = n }) (record z { at = n }))
at_by true b x y z n = refl
at_by false true x y z n = refl
at_by false false x y z n = refl

seen_with : (s : Setup) (id : ℕ) (list other : List Item) → record (member_seen s id list) { at = length other } ≡ member_seen s id other
seen_with s id list other = at_by (id == 1) (nat_le id s.cores) _ _ _ (length other)

pub seen_set : (s : Setup) (from : ℕ) (lists : Lists) (i : ℕ) (x : MemberSeen) (list : List Item) → i < length lists
    → x ≡ get_or (members_from s from lists) i x
    → slice_set (members_from s from lists) i (record x { at = length list }) ≡ members_from s from (slice_set lists i list)
unfolding members_from
seen_set s from [] i x list l e = absurd (omega (arith, l))
seen_set s from (y ∷ ys) zero x list l e =
    ap (λ (z : MemberSeen). z ∷ members_from s (from + 1) ys)
    (ap (λ (z : MemberSeen). record z { at = length list }) e ∙ seen_with s from y list)
seen_set s from (y ∷ ys) (suc i) x list l e = ap (λ z. member_seen s from y ∷ z) (seen_set s (from + 1) ys i x list (omega (arith, l)) e)

pub seen_at : (s : Setup) (from : ℕ) (lists : Lists) (i : ℕ) (x : MemberSeen) → i < length lists
    → x ≡ get_or (members_from s from lists) i x → x.at ≡ length (get_or lists i [])
unfolding members_from
seen_at s from [] i x l e = absurd (omega (arith, l))
seen_at s from (y ∷ ys) zero x l e = ap (λ (z : MemberSeen). z.at) e ∙ ap (λ (z : MemberSeen). z.at) (sym (seen_with s from y y))
seen_at s from (y ∷ ys) (suc i) x l e = seen_at s (from + 1) ys i x (omega (arith, l)) e

pub seen_more : (s : Setup) (from : ℕ) (lists : Lists) (list : List Item)
    → members_from s from lists ++ (member_seen s (from + length lists) list ∷ []) ≡ members_from s from (lists ++ (list ∷ []))
unfolding members_from
seen_more s from [] list = ap (λ n. member_seen s n list ∷ []) (let e : from + 0 ≡ from = omega arith in e)
seen_more s from (y ∷ ys) list =
    ap (λ (z : List MemberSeen). member_seen s from y ∷ z)
    (ap (λ n. members_from s (from + 1) ys ++ (member_seen s n list ∷ [])) (let e : from + length (y ∷ ys) ≡ from + 1 + length ys = omega arith in e)
    ∙ seen_more s (from + 1) ys list)

-- ---- the history is the one list

longest_by : (b : Bool) (history list : List Item) (h : history ≡ list) → cond b list history ≡ list
longest_by true history list h = refl
longest_by false history list h = h

longest_same : (items : List Item) (shelves : List Shelved) (lists : Lists) → AreShelves items shelves lists → longest items lists ≡ items
unfolding AreShelves longest
longest_same items [] [] h = refl
longest_same items [] (y ∷ ys) h = absurd h
longest_same items (z ∷ zs) [] h = absurd h
longest_same items (z ∷ zs) (y ∷ ys) h =
    let short : length y + length h.0.rest ≡ length items = sym (length-append y h.0.rest) ∙ ap length h.0.begins in
    ap (λ (b : Bool). longest (cond b y items) ys) (lt_no (length items) (length y) (omega (arith, short)))
    ∙ longest_same items zs ys h.1

-- where member 1 has applied the one list, and the history began it
pub longest_is : (history rest items : List Item) (shelves : List Shelved) (lists : Lists) → AreShelves items shelves lists
    → list_at lists 1 ≡ items → 0 < length lists → history ++ rest ≡ items → longest history lists ≡ items
unfolding AreShelves longest
longest_is history rest items [] [] h f l e = absurd (omega (arith, l))
longest_is history rest items [] (y ∷ ys) h f l e = absurd h
longest_is history rest items (z ∷ zs) [] h f l e = absurd h
longest_is history rest items (z ∷ zs) (y ∷ ys) h f l e = ap (λ (x : List Item). longest x ys) (go rest e) ∙ longest_same items zs ys h.1 where
  go : (rest : List Item) → history ++ rest ≡ items → cond (nat_lt (length history) (length y)) y history ≡ items
  go [] k =
      let same : history ≡ items = sym (append-nil history) ∙ k in
      ap (λ (x : List Item). cond (nat_lt (length history) (length y)) x history) f
      ∙ longest_by (nat_lt (length history) (length y)) history items same
  go (x ∷ xs) k =
      let longer : length items ≡ length history + length (x ∷ xs) = ap length (sym k) ∙ length-append history (x ∷ xs) in
      let same : length y ≡ length items = ap length f in
      ap (λ (b : Bool). cond b y history) (lt_yes (length history) (length y) (omega (arith, longer, same))) ∙ f

-- no list is longer than the one list
pub shelf_short : (items : List Item) (shelves : List Shelved) (lists : Lists) (i : ℕ) → AreShelves items shelves lists
    → length (get_or lists i []) ≤ length items
unfolding AreShelves
shelf_short items [] [] i h = omega arith
shelf_short items [] (y ∷ ys) i h = absurd h
shelf_short items (z ∷ zs) [] i h = absurd h
shelf_short items (z ∷ zs) (y ∷ ys) zero h = omega (arith, length-append y h.0.rest, ap length h.0.begins)
shelf_short items (z ∷ zs) (y ∷ ys) (suc i) h = shelf_short items zs ys i h.1

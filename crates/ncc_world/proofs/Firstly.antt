-- Members and connections at the beginning of a run.
use Rattle.std.proofs.Common.{◌≡◌, ℕ, zero, suc, ◌+◌, ◌<◌, List, [], ◌∷◌, ◌++◌, length, replicate, get_or, subst, refl, ap, sym, ◌∙◌, arith}
use Rattle.ncc_tx.specs.declared.entry.Item.{Item}
use Rattle.ncc_apply.specs.Shelf.{Shown as Shelved, Stands as ShelfStands}
use Rattle.ncc_world.specs.declared.setup.Setup.{Setup}
use Rattle.ncc_world.specs.declared.seen.MemberSeen.{MemberSeen}
use Rattle.ncc_world.specs.Setting.{Lists}
use Rattle.ncc_world.specs.Showing.{member_seen, members_from}
use Rattle.ncc_world.specs.World.{IsShelf, AreShelves, AreOneList}

-- as many lists without an item
abbrev pub empties : ℕ → Lists
empties n = replicate n []

pub record AreFirst (s : Setup) (n : ℕ) (items : List Item) (shelves : List Shelved) (seen : List MemberSeen) : Type 0 where
  pub none : items ≡ []
  pub shelves_are : AreShelves [] shelves (empties n)
  pub seen_is : seen ≡ members_from s 1 (empties n)

empty_one : (shelf : Shelved) → ShelfStands shelf [] → IsShelf [] shelf []
empty_one shelf h = record { stands = h; rest = []; begins = refl }

-- one more shelf behind
shelves_more : (n : ℕ) (shelves : List Shelved) (shelf : Shelved) → AreShelves [] shelves (empties n) → ShelfStands shelf []
    → AreShelves [] (shelves ++ (shelf ∷ [])) (empties (suc n))
unfolding AreShelves
shelves_more zero [] shelf k h = (empty_one shelf h, tt)
shelves_more zero (x ∷ xs) shelf k h = absurd k
shelves_more (suc n) [] shelf k h = absurd k
shelves_more (suc n) (x ∷ xs) shelf k h = (k.0, shelves_more n xs shelf k.1 h)

-- and one more that shows it
seen_more : (s : Setup) (n id : ℕ) → members_from s id (empties n) ++ (member_seen s (id + n) [] ∷ []) ≡ members_from s id (empties (suc n))
unfolding members_from
seen_more s zero id = let e : id + 0 ≡ id = omega arith in ap (λ (m : ℕ). member_seen s m [] ∷ []) e
seen_more s (suc n) id =
    let e : id + suc n ≡ (id + 1) + n = omega arith in
    ap (λ (m : ℕ). member_seen s id [] ∷ (members_from s (id + 1) (empties n) ++ (member_seen s m [] ∷ []))) e
    ∙ ap (λ (xs : List MemberSeen). member_seen s id [] ∷ xs) (seen_more s n (id + 1))

pub first_none : (s : Setup) → AreFirst s 0 [] [] []
unfolding AreShelves members_from
first_none s = record { none = refl; shelves_are = tt; seen_is = refl }

pub first_more : (s : Setup) (n : ℕ) (items : List Item) (shelves : List Shelved) (seen : List MemberSeen) (shelf : Shelved) (m : MemberSeen)
    → AreFirst s n items shelves seen → ShelfStands shelf [] → m ≡ member_seen s (n + 1) []
    → AreFirst s (suc n) items (shelves ++ (shelf ∷ [])) (seen ++ (m ∷ []))
first_more s n items shelves seen shelf m k h e = record {
  none = k.none;
  shelves_are = shelves_more n shelves shelf k.shelves_are h;
  seen_is =
      let at : n + 1 ≡ 1 + n = omega arith in
      ap (λ (xs : List MemberSeen). xs ++ (m ∷ [])) k.seen_is
      ∙ ap (λ (x : MemberSeen). members_from s 1 (empties n) ++ (x ∷ [])) (e ∙ ap (λ (i : ℕ). member_seen s i []) at)
      ∙ seen_more s n 1;
}

pub first_list : (n : ℕ) → get_or (empties n) 0 [] ≡ []
first_list zero = refl
first_list (suc n) = refl

pub empties_count : (n : ℕ) → length (empties n) ≡ n
empties_count zero = refl
empties_count (suc n) = ap suc (empties_count n)

-- they are the members at the beginning
pub first_members : (s : Setup) (n : ℕ) (items : List Item) (shelves : List Shelved) (seen : List MemberSeen) → 0 < n
    → AreFirst s n items shelves seen → AreOneList s (record { items = items; shelves = shelves; seen = seen }) (empties n)
first_members s n items shelves seen h k = record {
  shelves = subst (λ (l : List Item). AreShelves l shelves (empties n)) (sym k.none) k.shelves_are;
  first = first_list n ∙ sym k.none;
  some = omega (arith, h, empties_count n);
  seen = k.seen_is;
}

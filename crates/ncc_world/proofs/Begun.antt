-- Lists that begin others, and lists in which one list grows.
use Rattle.std.proofs.Common.{◌≡◌, ℕ, zero, suc, ◌<◌, ◌≤◌, Bool, true, false, cond, List, [], ◌∷◌, ◌++◌, length, take, drop, Some, refl}
use Rattle.std.proofs.Common.{ap, sym, ◌∙◌}
use Rattle.std.proofs.Common.{arith, append_assoc, length-append, subst, take-append-drop, ltb-true, ltb-false}
use Rattle.std.proofs.lemmas.List.{append-nil, drop_at}
use Rattle.std.specs.Prelude.{slice_get, slice_set, slice_index_or, nat_lt}
use Rattle.std.specs.List.{AllByRecursion}
use Rattle.ncc_tx.specs.declared.entry.Item.{Item}
use Rattle.ncc_clients.specs.Members.{longest}
use Rattle.ncc_clients.specs.Four.{Begins}
use Rattle.ncc_world.specs.Setting.{Lists, extended}

pub begins_self : (xs : List Item) → Begins xs xs
begins_self xs = ([], append-nil xs)

pub begins_more : (xs ys : List Item) → Begins xs (xs ++ ys)
begins_more xs ys = (ys, refl)

pub begins_through : (xs ys zs : List Item) → Begins xs ys → Begins ys zs → Begins xs zs
begins_through xs ys zs f g = (f.0 ++ g.0, sym (append_assoc xs f.0 g.0) ∙ (ap (λ l. l ++ g.0) f.1 ∙ g.1))

pub begins_length : (xs ys : List Item) → Begins xs ys → length xs ≤ length ys
begins_length xs ys f = omega (arith, ap length f.1, length-append xs f.0)

get_append : (xs ys : List Item) (i : ℕ) (x : Item) → slice_get xs i ≡ Some x → slice_get (xs ++ ys) i ≡ Some x
get_append [] ys i x e = absurd (cc)
get_append (y ∷ xs) ys zero x e = e
get_append (y ∷ xs) ys (suc i) x e = get_append xs ys i x e

-- what stands in a list stands in each that it begins
pub get_begins : (xs ys : List Item) (i : ℕ) (x : Item) → Begins xs ys → slice_get xs i ≡ Some x → slice_get ys i ≡ Some x
get_begins xs ys i x f e = let P : List Item → Type 0 = λ l. slice_get l i ≡ Some x in subst P f.1 (get_append xs f.0 i x e)

pub get_last : (xs : List Item) (x : Item) → slice_get (xs ++ (x ∷ [])) (length xs) ≡ Some x
get_last [] x = refl
get_last (y ∷ xs) x = get_last xs x

pub all_begin_more : (old new : List Item) (lists : Lists) → Begins old new → AllByRecursion (λ l. Begins l old) lists
    → AllByRecursion (λ l. Begins l new) lists
all_begin_more old new [] f h = tt
all_begin_more old new (l ∷ ls) f h = (begins_through l old new h.0 f, all_begin_more old new ls f h.1)

pub all_begin_or : (whole : List Item) (lists : Lists) (i : ℕ) → AllByRecursion (λ l. Begins l whole) lists
    → Begins (slice_index_or lists i []) whole
all_begin_or whole [] i h = (whole, refl)
all_begin_or whole (l ∷ ls) zero h = h.0
all_begin_or whole (l ∷ ls) (suc i) h = all_begin_or whole ls i h.1

pub all_begin_set : (whole : List Item) (lists : Lists) (i : ℕ) (list : List Item) → AllByRecursion (λ l. Begins l whole) lists
    → Begins list whole → AllByRecursion (λ l. Begins l whole) (slice_set lists i list)
all_begin_set whole [] i list h f = tt
all_begin_set whole (l ∷ ls) zero list h f = (f, h.1)
all_begin_set whole (l ∷ ls) (suc i) list h f = (h.0, all_begin_set whole ls i list h.1 f)

-- where one list grows, each begins what it becomes
pub grows_set : (lists : Lists) (i : ℕ) (list : List Item) → Begins (slice_index_or lists i []) list → (j : ℕ)
    → Begins (slice_index_or lists j []) (slice_index_or (slice_set lists i list) j [])
grows_set [] i list f j = begins_self []
grows_set (l ∷ ls) zero list f zero = f
grows_set (l ∷ ls) zero list f (suc j) = begins_self (slice_index_or ls j [])
grows_set (l ∷ ls) (suc i) list f zero = begins_self l
grows_set (l ∷ ls) (suc i) list f (suc j) = grows_set ls i list f j

-- further entries of a list, behind one that begins it
pub extended_begins : (own all : List Item) (count : ℕ) → Begins own all → Begins (extended own all count) all
extended_begins own all count f =
    let rest : drop (length own) all ≡ f.0 = ap (drop (length own)) (sym f.1) ∙ drop_at own f.0 (length own) refl in
    let whole : (own ++ take count f.0) ++ drop count f.0 ≡ all =
    append_assoc own (take count f.0) (drop count f.0) ∙ (ap (λ l. own ++ l) (take-append-drop count f.0) ∙ f.1) in
    subst (λ l. Begins (own ++ take count l) all) (sym rest) (drop count f.0, whole)

-- lists that begin the history leave it as the longest
pub longest_stays : (history : List Item) (lists : Lists) → AllByRecursion (λ l. Begins l history) lists → longest history lists ≡ history
unfolding longest
longest_stays history [] h = refl
longest_stays history (l ∷ ls) h = go (nat_lt (length history) (length l)) refl (longest_stays history ls h.1) where
  go : (b : Bool) → nat_lt (length history) (length l) ≡ b → longest history ls ≡ history → longest (cond b l history) ls ≡ history
  go true e again = absurd (omega (arith, ltb-true (length history) (length l) e, begins_length l history h.0))
  go false e again = again

-- a first list that is longer becomes the history
pub longest_first : (history list : List Item) (lists : Lists) → length history < length list
    → AllByRecursion (λ l. Begins l list) lists → longest history (list ∷ lists) ≡ list
unfolding longest
longest_first history list lists h b = go (nat_lt (length history) (length list)) refl where
  go : (t : Bool) → nat_lt (length history) (length list) ≡ t → longest (cond t list history) lists ≡ list
  go true e = longest_stays list lists b
  go false e = absurd (omega (arith, ltb-false (length history) (length list) e))

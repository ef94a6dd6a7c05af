-- Which address is picked, and what an item tells.
use Rattle.std.proofs.Common.{◌≡◌, ◌≢◌, ℕ, zero, suc, ◌<◌, ◌%◌, Bool, true, false, List, [], ◌∷◌, length, get_or, refl, sym, ap, ◌∙◌}
use Rattle.std.proofs.Common.{subst, arith}
use Rattle.std.specs.Prelude.{Option, Some, slice_get}
use Rattle.ncc_pack.specs.declared.value.Value.{Value}
use Rattle.ncc_pack.specs.declared.value.Value.TheVariants as v
use Rattle.ncc_pack.specs.Texts.{is_text, texts_alone}
use Rattle.ncc_pack.proofs.Loops.{all_at}
use Rattle.ncc_route.specs.declared.table.Table.{Table}
use Rattle.ncc_route.specs.Addresses.{table_is_texts}
use Rattle.ncc_route.specs.Routing.{picked}
use Rattle.ncc_driver.specs.declared.standing.Asked.{Asked}
use Rattle.ncc_driver.specs.declared.standing.Asked.TheVariants as a
use Rattle.ncc_driver.specs.declared.standing.Leg.{Leg}
use Rattle.ncc_driver.specs.declared.answers.Told.{Told}
use Rattle.ncc_driver.specs.declared.answers.Told.TheVariants as m
use Rattle.ncc_driver.specs.declared.link.Item.{Item}
use Rattle.ncc_driver.specs.declared.link.Item.TheVariants.{Shaken}
use Rattle.ncc_driver.specs.Config.{text_has_spelling, texts_fit}
use Rattle.ncc_driver.specs.Keeping.{addresses_fit, table_fits}
use Rattle.ncc_driver.specs.Work.{Row}
use Rattle.ncc_driver.specs.Hearing.{shake_told}
use Rattle.ncc_driver.specs.Session.{told_by}
use Rattle.ncc_driver.proofs.Kept.{named, left, right}

-- ---- texts alone

pub alone : (xs : List Value) → texts_fit xs ≡ true → texts_alone xs ≡ true
alone [] h = refl
alone (x ∷ xs) h =
    let n = named x (left (text_has_spelling x) (texts_fit xs) h) in
    let t : is_text x ≡ true = subst (λ (y : Value). is_text y ≡ true) (sym n.1) refl in
    rw (t, alone xs (right (text_has_spelling x) (texts_fit xs) h)) refl

pub table_alone : (o : Option Table) (table : Table) → o ≡ Some table → table_fits o ≡ true → table_is_texts table ≡ true
table_alone o table is h =
    let f : addresses_fit table ≡ true = subst (λ (x : Option Table). table_fits x ≡ true) is h in
    let two = left _ _ f in
    let w : texts_alone table.write ≡ true = alone table.write (left _ _ two) in
    let r : texts_alone table.read ≡ true = alone table.read (right _ _ two) in
    let o : texts_alone table.route ≡ true = alone table.route (right _ _ f) in
    rw (w, r, o) refl

-- ---- the router whose turn it is

some_left : (xs : List Value) → xs ≢ [] → 0 < length xs
some_left [] n = absurd (n refl)
some_left (x ∷ xs) n = omega arith

not_empty : (xs : List Value) (b : Bool) → (xs ≡ [] → b ≡ true) → b ≡ false → xs ≢ []
not_empty xs b h e n = let f : false ≡ true = sym e ∙ h n in absurd (cc)

turn_within : (k n : ℕ) → 0 < n → k % n < n
turn_within k n lt = omega arith

pub text_there : (xs same : List Value) (k : ℕ) (x : Value) (b : Bool) → same ≡ xs → (xs ≡ [] → b ≡ true) → b ≡ false
    → x ≡ get_or same (k % length same) x → texts_fit xs ≡ true → (t : List ℕ) × (x ≡ v.Text t)
text_there xs same k x b e h f is fit =
    let n = some_left same (λ z. not_empty xs b h f (sym e ∙ z)) in
    let all : texts_fit same ≡ true = ap texts_fit e ∙ fit in
    let one = all_at text_has_spelling same (k % length same) x (turn_within k (length same) n) all in
    let t = named x (subst (λ (y : Value). text_has_spelling y ≡ true) (sym is) one) in
    (t.0, t.1)

get_some : (xs : List Value) (i : ℕ) (x : Value) → i < length xs → slice_get xs i ≡ Some (get_or xs i x)
get_some [] i x lt = absurd (omega arith)
get_some (y ∷ ys) zero x lt = refl
get_some (y ∷ ys) (suc i) x lt = get_some ys i x (omega arith)

pub picks_there : (xs same : List Value) (k : ℕ) (x : Value) (t u : List ℕ) (b : Bool) → same ≡ xs → (xs ≡ [] → b ≡ true) → b ≡ false
    → x ≡ get_or same (k % length same) x → x ≡ v.Text t → u ≡ t → picked k xs ≡ Some (v.Text u)
picks_there xs same k x t u b e h f is text copy =
    let n = some_left same (λ z. not_empty xs b h f (sym e ∙ z)) in
    subst (λ (ys : List Value). picked k ys ≡ Some (v.Text u)) e
    (get_some same (k % length same) x (turn_within k (length same) n)
    ∙ ap (λ (y : Value). Some y) (sym is ∙ text ∙ ap (λ (z : List ℕ). v.Text z) (sym copy)))

-- ---- four bytes

shake_told_is : (asked : Asked) (now : ℕ) (rows : List Row) (bytes : List ℕ)
    → shake_told asked bytes ≡ told_by asked now rows (Shaken bytes)
shake_told_is (a.Shake leg) now rows bytes = refl
shake_told_is (a.Hello leg) now rows bytes = refl
shake_told_is a.Route now rows bytes = refl
shake_told_is a.Begin now rows bytes = refl
shake_told_is a.Run now rows bytes = refl
shake_told_is a.Pull now rows bytes = refl
shake_told_is a.Commit now rows bytes = refl

pub shaken_told : (asked : Asked) (now : ℕ) (rows : List Row) (bytes slice : List ℕ) (item : Item) (told : Told)
    → told ≡ shake_told asked slice → slice ≡ bytes → item ≡ Shaken bytes → told ≡ told_by asked now rows item
shaken_told asked now rows bytes slice item told e s is =
    e ∙ ap (λ (b : List ℕ). shake_told asked b) s ∙ shake_told_is asked now rows bytes
    ∙ ap (λ (x : Item). told_by asked now rows x) (sym is)

pub not_shake : (asked : Asked) (bytes : List ℕ) → ((leg : Leg) → asked ≢ a.Shake leg) → m.Bad ≡ shake_told asked bytes
not_shake (a.Shake leg) bytes n = absurd (n leg refl)
not_shake (a.Hello leg) bytes n = refl
not_shake a.Route bytes n = refl
not_shake a.Begin bytes n = refl
not_shake a.Run bytes n = refl
not_shake a.Pull bytes n = refl
not_shake a.Commit bytes n = refl

-- Rows that fit, and rows as text.
use Rattle.std.proofs.Common.{◌≡◌, ℕ, zero, suc, ◌+◌, ◌/◌, ◌%◌, ◌<◌, ◌≤◌, Bool, true, false, ◌&&◌, List, [], ◌∷◌, ◌++◌, length, map, take}
use Rattle.std.proofs.Common.{get_or, refl, sym, ap, ◌∙◌, subst, arith, append_assoc, append-nil}
use Rattle.std.specs.Prelude.{nat_le}
use Rattle.std.specs.List.{list_all}
use Rattle.std.proofs.lemmas.Bool.{le-leb}
use Rattle.std.proofs.lemmas.List.{length-map, take_all}
use Rattle.std.proofs.lemmas.List.Folds.{list_all-map}
use Rattle.ncc_pack.specs.declared.value.Value.{Value}
use Rattle.ncc_pack.specs.declared.value.Value.TheVariants as v
use Rattle.ncc_pack.specs.Limits.{max_size}
use Rattle.ncc_pack.specs.Spells.{lists}
use Rattle.ncc_pack.specs.Short.{concat, head, short, list}
use Rattle.ncc_pack.specs.Fits.{fits, fits_within}
use Rattle.ncc_pack.proofs.Loops.{all_at, short_list, joined_more}
use Rattle.ncc_pack.proofs.Single.{fits_of_list}
use Rattle.ncc_pack.proofs.Fitting.{list_more, one_fails, all_pass, and_false}
use Rattle.ncc_pack.proofs.Deeper.{deeper}
use Rattle.ncc_driver.specs.Work.{Row, rows_fit}
use Rattle.ncc_driver.specs.RowText.{hex_of, digit}

abbrev pub row_fits : Row → Bool
row_fits row = fits_within (v.List row) 31

abbrev pub short_row : Row → List ℕ
short_row row = short (v.List row)

pub rows_fit_is : (rows : List Row) → rows_fit rows ≡ (nat_le (length rows) max_size && list_all row_fits rows)
rows_fit_is rows =
    fits_of_list (map v.List rows) ∙ list_more (map v.List rows) 32 (omega arith)
    ∙ rw (length-map rows v.List, list_all-map (λ (x : Value). fits_within x 31) v.List rows) refl

pub few_rows : (rows : List Row) → rows_fit rows ≡ true → length rows ≤ max_size
few_rows rows h = let e : (nat_le (length rows) max_size && list_all row_fits rows) ≡ true = sym (rows_fit_is rows) ∙ h in grind arith

pub each_row : (rows : List Row) → rows_fit rows ≡ true → list_all row_fits rows ≡ true
each_row rows h = let e : (nat_le (length rows) max_size && list_all row_fits rows) ≡ true = sym (rows_fit_is rows) ∙ h in grind arith

pub rows_fit_by : (rows : List Row) → length rows ≤ max_size → list_all row_fits rows ≡ true → rows_fit rows ≡ true
rows_fit_by rows few all = rows_fit_is rows ∙ rw (le-leb (length rows) max_size few, all) refl

-- a row among rows that fit fits by itself
pub row_alone : (rows items : List Row) (i : ℕ) (row : Row) → items ≡ rows → i < length items → row ≡ get_or items i row
    → rows_fit rows ≡ true → fits (v.List row) ≡ true
row_alone rows items i row same lt is h =
    let all : list_all row_fits items ≡ true = ap (list_all row_fits) same ∙ each_row rows h in
    deeper (v.List row) 31 (subst (λ (r : Row). row_fits r ≡ true) (sym is) (all_at row_fits items i row lt all))

pub row_unfit : (rows items : List Row) (i : ℕ) (row : Row) → items ≡ rows → i < length items → row ≡ get_or items i row
    → row_fits row ≡ false → rows_fit rows ≡ false
row_unfit rows items i row same lt is h =
    rows_fit_is rows ∙ rw (one_fails row_fits rows items i row same lt is h) (and_false (nat_le (length rows) max_size))

pub all_rows_fit : (rows items : List Row) (i n : ℕ) → items ≡ rows → n ≡ length rows → n ≤ max_size → length items ≤ i
    → list_all row_fits (take i items) ≡ true → rows_fit rows ≡ true
all_rows_fit rows items i n same e few done h =
    rows_fit_by rows (subst (λ (k : ℕ). k ≤ max_size) e few) (all_pass row_fits rows items i same done h)

-- ---- digits

pub no_hex : (text : List ℕ) → text ≡ text ++ hex_of []
unfolding hex_of
no_hex text = sym (append-nil text)

pub hex_more : (bytes : List ℕ) (i : ℕ) (b : ℕ) → i < length bytes → b ≡ get_or bytes i 0
    → hex_of (take (i + 1) bytes) ≡ hex_of (take i bytes) ++ (digit (b / 16) ∷ digit (b % 16) ∷ [])
unfolding hex_of
hex_more [] i b lt is = absurd (omega arith)
hex_more (x ∷ xs) zero b lt is = ap (λ (y : ℕ). digit (y / 16) ∷ digit (y % 16) ∷ []) (sym is)
hex_more (x ∷ xs) (suc i) b lt is =
    let lt' : i < length xs = omega arith in
    let e : suc i + 1 ≡ suc (i + 1) = omega arith in
    rw e (ap (λ (t : List ℕ). digit (x / 16) ∷ digit (x % 16) ∷ t) (hex_more xs i b lt' is))

pub pushed_hex : (bytes before text one two high low : List ℕ) (i : ℕ) (b : ℕ) → i < length bytes → b ≡ get_or bytes i 0
    → text ≡ before ++ hex_of (take i bytes) → high ≡ digit (b / 16) ∷ [] → low ≡ digit (b % 16) ∷ [] → one ≡ text ++ high
    → two ≡ one ++ low → two ≡ before ++ hex_of (take (i + 1) bytes)
pushed_hex bytes before text one two high low i b lt is e h l p q =
    let f : one ≡ text ++ digit (b / 16) ∷ [] = p ∙ ap (λ (t : List ℕ). text ++ t) h in
    let g : two ≡ one ++ digit (b % 16) ∷ [] = q ∙ ap (λ (t : List ℕ). one ++ t) l in
    g ∙ ap (λ (t : List ℕ). t ++ digit (b % 16) ∷ []) f ∙ append_assoc text (digit (b / 16) ∷ []) (digit (b % 16) ∷ [])
    ∙ ap (λ (t : List ℕ). t ++ (digit (b / 16) ∷ digit (b % 16) ∷ [])) e
    ∙ append_assoc before (hex_of (take i bytes)) (digit (b / 16) ∷ digit (b % 16) ∷ [])
    ∙ ap (λ (t : List ℕ). before ++ t) (sym (hex_more bytes i b lt is))

-- ---- the spelling of rows

shorts : (rows : List Row) → map short (map v.List rows) ≡ map short_row rows
shorts [] = refl
shorts (r ∷ rows) = ap (λ (t : List (List ℕ)). short_row r ∷ t) (shorts rows)

pub short_rows : (rows : List Row) → short (v.List (map v.List rows)) ≡ head lists (length rows) ++ concat (map short_row rows)
unfolding list
short_rows rows = short_list (map v.List rows) ∙ rw (shorts rows, length-map rows short_row) refl

pub spelled_more : (items : List Row) (i : ℕ) (row : Row) (front bytes new : List ℕ) → i < length items → row ≡ get_or items i row
    → bytes ≡ front ++ concat (map short_row (take i items)) → new ≡ bytes ++ short_row row
    → new ≡ front ++ concat (map short_row (take (i + 1) items))
spelled_more items i row front bytes new lt is e f =
    f ∙ ap (λ (t : List ℕ). t ++ short_row row) e ∙ append_assoc front (concat (map short_row (take i items))) (short_row row)
    ∙ ap (λ (t : List ℕ). front ++ t)
    (ap (λ (r : Row). concat (map short_row (take i items)) ++ short_row r) is ∙ sym (joined_more short_row items i row lt))

pub spelled_all : (rows items : List Row) (i : ℕ) (bytes : List ℕ) → items ≡ rows → length items ≤ i
    → bytes ≡ head lists (length rows) ++ concat (map short_row (take i items)) → bytes ≡ short (v.List (map v.List rows))
spelled_all rows items i bytes same done e =
    e ∙ ap (λ (t : List Row). head lists (length rows) ++ concat (map short_row t)) (take_all i items done ∙ same) ∙ sym (short_rows rows)

-- The steps of the three works have a spelling.
use Rattle.std.proofs.Common.{◌≡◌, ℕ, true, ◌&&◌, List, [], ◌∷◌, length, map, codes, refl, sym, ◌∙◌, subst, arith, pos}
use Rattle.std.specs.Prelude.{ℤ, nat_le}
use Rattle.std.specs.List.{list_all}
use Rattle.ncc_pack.specs.declared.value.Value.{Value, roll-Value, out-Value, roll-out-Value}
use Rattle.ncc_pack.specs.declared.value.Value.TheOpen.{Value-F}
use Rattle.ncc_pack.specs.declared.value.Value.TheVariants as v
use Rattle.ncc_pack.specs.declared.value.NodeValue.{NodeValue}
use Rattle.ncc_pack.specs.Limits.{max_size}
use Rattle.ncc_pack.specs.Fits.{fits, fits_i64, fits_within}
use Rattle.ncc_pack.proofs.Deeper.{deeper}
use Rattle.ncc_driver.specs.Work.{Row, rows_fit, step_fits}
use Rattle.ncc_driver.specs.Works.{key_at, counted, old_in, reads_counter, raises_counter, add_steps, put_steps, gets_pair, get_steps}
use Rattle.ncc_driver.specs.Works.{puts_pair}
use Rattle.ncc_driver.specs.Spelling.{all_fit, text_alone, number_within, list_within, literal_alone, pair_on, text_on, dict_by}

zero_fits : (d : ℕ) → fits_within (v.Int (pos 0)) d ≡ true
zero_fits d = number_within (pos 0) d refl

-- ---- the old value of a counter

Counts : ℕ → Value → Type 0
Counts d x = fits_within x d ≡ true → fits_within (counted x) d ≡ true

counts_by : (l : Value-F Value NodeValue) (d : ℕ) → Counts d (roll-Value l)
unfolding Counts
counts_by Value-F.Null d = subst (Counts d) (sym v.rolls-Null) (λ h. zero_fits d)
counts_by (Value-F.Bool b) d = subst (Counts d) (sym (v.rolls-Bool b)) (λ h. h)
counts_by (Value-F.Int z) d = subst (Counts d) (sym (v.rolls-Int z)) (λ h. h)
counts_by (Value-F.Bytes b) d = subst (Counts d) (sym (v.rolls-Bytes b)) (λ h. h)
counts_by (Value-F.Text t) d = subst (Counts d) (sym (v.rolls-Text t)) (λ h. h)
counts_by (Value-F.List xs) d = subst (Counts d) (sym (v.rolls-List xs)) (λ h. h)
counts_by (Value-F.Dict ps) d = subst (Counts d) (sym (v.rolls-Dict ps)) (λ h. h)
counts_by (Value-F.Node n) d = subst (Counts d) (sym (v.rolls-Node n)) (λ h. h)

counted_fits : (x : Value) (d : ℕ) → fits_within x d ≡ true → fits_within (counted x) d ≡ true
unfolding Counts
counted_fits x d = subst (Counts d) (roll-out-Value x) (counts_by (out-Value x) d)

first_of : (row : Row) (rows : List Row) → rows_fit (row ∷ rows) ≡ true → fits_within (v.List row) 31 ≡ true
first_of row rows h =
    let e : (nat_le (length (v.List row ∷ map v.List rows)) max_size && list_all (λ x. fits_within x 31)
    (v.List row ∷ map v.List rows)) ≡ true =
    sym (list_within (v.List row ∷ map v.List rows) 32 (omega arith)) ∙ h in
    grind arith

value_of : (x : Value) (row : List Value) → fits_within (v.List (x ∷ row)) 31 ≡ true → fits_within x 30 ≡ true
value_of x row h =
    let e : (nat_le (length (x ∷ row)) max_size && list_all (λ y. fits_within y 30) (x ∷ row)) ≡ true =
    sym (list_within (x ∷ row) 31 (omega arith)) ∙ h in
    grind arith

old_fits : (rows : List Row) → rows_fit rows ≡ true → fits_within (old_in rows) 31 ≡ true
old_fits [] h = zero_fits 31
old_fits ([] ∷ rows) h = zero_fits 31
old_fits ((x ∷ row) ∷ rows) h = counted_fits x 31 (deeper x 30 (value_of x row (first_of (x ∷ row) rows h)))

-- ---- steps

key_fits : (key : List ℕ) → fits (v.Text key) ≡ true → all_fit (key_at key ∷ []) 31 ≡ true
key_fits key h = text_on (codes "k") key [] 31 refl (text_alone key h) refl

reads_fits : (key : List ℕ) → fits (v.Text key) ≡ true → step_fits (reads_counter key) ≡ true
reads_fits key h =
    rw (
      literal_alone (codes "MERGE (n:Counter {k: $k}) RETURN n.v") refl,
      dict_by (key_at key ∷ []) 31 refl (key_fits key h) refl,
    ) refl

raises_fits : (key : List ℕ) (by : ℤ) (old : Value) → fits (v.Text key) ≡ true → fits_i64 by ≡ true → fits_within old 31 ≡ true
    → step_fits (raises_counter key by old) ≡ true
raises_fits key by old h b o =
    let d = pair_on (codes "d") (v.Int by) [] 31 refl (number_within by 31 b) refl in
    let od = pair_on (codes "old") old ((codes "d", v.Int by) ∷ []) 31 refl o d in
    let kod = text_on (codes "k") key ((codes "old", old) ∷ (codes "d", v.Int by) ∷ []) 31 refl (text_alone key h) od in
    rw (
      literal_alone (codes "MATCH (n:Counter {k: $k}) SET n.v = $old + $d RETURN n.v") refl,
      dict_by (key_at key ∷ (codes "old", old) ∷ (codes "d", v.Int by) ∷ []) 31 refl kod refl,
    ) refl

pub add_fits : (key : List ℕ) (by : ℤ) (told : List (List Row)) → fits (v.Text key) ≡ true → fits_i64 by ≡ true
    → list_all rows_fit told ≡ true → step_fits (add_steps key by told) ≡ true
add_fits key by [] h b t = reads_fits key h
add_fits key by (rows ∷ []) h b t =
    let r : rows_fit rows ≡ true = grind arith in
    raises_fits key by (old_in rows) h b (old_fits rows r)
add_fits key by (rows ∷ more ∷ told) h b t = refl

puts_fits : (key value : List ℕ) → fits (v.Text key) ≡ true → fits (v.Text value) ≡ true → step_fits (puts_pair key value) ≡ true
puts_fits key value h f =
    let last = text_on (codes "v") value [] 31 refl (text_alone value f) refl in
    let all = text_on (codes "k") key ((codes "v", v.Text value) ∷ []) 31 refl (text_alone key h) last in
    rw (
      literal_alone (codes "MERGE (n:Pair {k: $k}) SET n.v = $v") refl,
      dict_by (key_at key ∷ (codes "v", v.Text value) ∷ []) 31 refl all refl,
    ) refl

pub put_fits : (key value : List ℕ) (told : List (List Row)) → fits (v.Text key) ≡ true → fits (v.Text value) ≡ true
    → step_fits (put_steps key value told) ≡ true
put_fits key value [] h f = puts_fits key value h f
put_fits key value (rows ∷ told) h f = refl

gets_fits : (key : List ℕ) → fits (v.Text key) ≡ true → step_fits (gets_pair key) ≡ true
gets_fits key h =
    rw (literal_alone (codes "MATCH (n:Pair {k: $k}) RETURN n.v") refl, dict_by (key_at key ∷ []) 31 refl (key_fits key h) refl) refl

pub get_fits : (key : List ℕ) (told : List (List Row)) → fits (v.Text key) ≡ true → step_fits (get_steps key told) ≡ true
get_fits key [] h = gets_fits key h
get_fits key (rows ∷ told) h = refl

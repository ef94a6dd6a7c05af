-- Which entry bytes spell.
use Rattle.std.proofs.Common.{◌≡◌, ℕ, suc, ◌-◌, ◌<◌, true, ◌&&◌, List, [], ◌∷◌, ◌++◌, length, map, drop, get_or, Result, Ok, Err}
use Rattle.std.proofs.Common.{refl, sym, ap, ◌∙◌, subst, arith}
use Rattle.std.specs.Prelude.{IsTrue, nat_eq, nat_le}
use Rattle.std.specs.List.{All, list_all}
use Rattle.std.proofs.lemmas.List.{append-nil}
use Rattle.ncc_pack.specs.declared.value.Value.{Value, fold-roll-Value}
use Rattle.ncc_pack.specs.declared.value.Value.TheOpen.{Value-F}
use Rattle.ncc_pack.specs.declared.value.Value.TheVariants as v
use Rattle.ncc_pack.specs.declared.error.PackError.{PackError}
use Rattle.ncc_pack.specs.declared.error.PackError.TheVariants as p
use Rattle.ncc_pack.specs.Limits.{max_depth, max_size}
use Rattle.ncc_pack.specs.Fits.{Fit, fits, fits_within}
use Rattle.ncc_pack.specs.Short.{node_step, short, short_step}
use Rattle.ncc_pack.specs.Reading.{Fails, Gives, read_value}
use Rattle.ncc_pack.proofs.Fields.{ok_is}
use Rattle.ncc_pack.proofs.Loops.{all_at, both, fit_of}
use Rattle.ncc_store.specs.declared.step.Step.{Step}
use Rattle.ncc_store.specs.declared.call.Call.{Call}
use Rattle.ncc_tx.specs.declared.shape.Shape.{Shape}
use Rattle.ncc_tx.specs.declared.shape.Shape.TheVariants as h
use Rattle.ncc_tx.specs.declared.entry.Entry.{Entry}
use Rattle.ncc_tx.specs.declared.entry.Entry.TheVariants as e
use Rattle.ncc_tx.specs.declared.entry.EntryError.{EntryError}
use Rattle.ncc_tx.specs.declared.entry.EntryError.TheVariants.{Pack, BadShape, Memory}
use Rattle.ncc_store.specs.Exec.{call_of}
use Rattle.ncc_tx.specs.Spelled.{IsShape, EntryOrMemory, Refuses, StepsOrMemory, call_value, calls_value, entry_fits, paired}
use Rattle.ncc_tx.specs.Spelled.{rows_value, shape_of, shape_value, spelled, told_value, whole}
use Rattle.ncc_pack.proofs.Laws.{one_form}
use Rattle.ncc_pack.proofs.Trip.{short_is}
use Rattle.ncc_tx.specs.Items.{entry_allowed}
use Rattle.ncc_tx.proofs.ItemBytes.{allowed_by}
use Rattle.ncc_tx.proofs.Steps.{same_steps}
use Rattle.ncc_tx.proofs.Listed.{list_by, parts}
use Rattle.ncc_tx.proofs.Layers.{list_same, text_same, dict_same, null_is_no_list}
use Rattle.ncc_tx.proofs.Pairs.{whole_by}

-- ---- a value is of one shape

all_same : {A B : Type 0} (f : A → B) → ((x y : A) → f x ≡ f y → x ≡ y) → (xs ys : List A) → map f xs ≡ map f ys → xs ≡ ys
all_same f one [] [] e = refl
all_same f one [] (y ∷ ys) e = absurd cc
all_same f one (x ∷ xs) [] e = absurd cc
all_same f one (x ∷ xs) (y ∷ ys) e =
    let first : f x ≡ f y = cc in
    let rest : map f xs ≡ map f ys = cc in
    let a = one x y first in
    let b = all_same f one xs ys rest in
    cc

call_same : (c d : Call) → call_value c ≡ call_value d → c ≡ d
call_same c d e =
    let items = list_same (v.Text c.source ∷ v.Dict c.params ∷ []) (v.Text d.source ∷ v.Dict d.params ∷ []) e in
    let first : v.Text c.source ≡ v.Text d.source = cc in
    let second : v.Dict c.params ≡ v.Dict d.params = cc in
    let source = text_same c.source d.source first in
    let params = dict_same c.params d.params second in
    λ i. record { source = source i; params = params i }

rows_same : (a b : List (List Value)) → rows_value a ≡ rows_value b → a ≡ b
rows_same a b e = all_same v.List list_same a b (list_same (map v.List a) (map v.List b) e)

pub tx_same : (cs ds : List Call) (ts us : List (List (List Value))) → shape_value (h.Tx cs ts) ≡ shape_value (h.Tx ds us) →
    (cs ≡ ds) × (ts ≡ us)
tx_same cs ds ts us e =
    let items = list_same (calls_value cs ∷ told_value ts ∷ []) (calls_value ds ∷ told_value us ∷ []) e in
    let first : calls_value cs ≡ calls_value ds = cc in
    let second : told_value ts ≡ told_value us = cc in (
      all_same call_value call_same cs ds (list_same (map call_value cs) (map call_value ds) first),
      all_same rows_value rows_same ts us (list_same (map rows_value ts) (map rows_value us) second),
    )

-- ---- what a shape's value fits

fits_null : IsTrue (fits v.Null)
fits_null = ap (λ (f : Fit). f.levels 32) (fit_of v.Null Value-F.Null v.rolls-Null)

pub shape_fits : (s : Shape) → IsTrue (whole s) → IsTrue (fits (shape_value s))
shape_fits h.Noop w = fits_null
shape_fits (h.Tx calls told) w = (both (nat_eq (length calls) (length told)) (fits (shape_value (h.Tx calls told))) w).1

shape_pairs : (s : Shape) → IsTrue (whole s) → IsTrue (paired s)
shape_pairs h.Noop w = w
shape_pairs (h.Tx calls told) w = (both (nat_eq (length calls) (length told)) (fits (shape_value (h.Tx calls told))) w).0

pair_fits : (x y : Value) (d : ℕ) → 0 < d → IsTrue (fits_within (v.List (x ∷ y ∷ [])) d) → IsTrue (fits_within x (d - 1))
    × IsTrue (fits_within y (d - 1))
pair_fits x y d pos f =
    let b = both (nat_le 2 max_size) (list_all (λ z. fits_within z (d - 1)) (x ∷ y ∷ [])) (sym (list_by (x ∷ y ∷ []) d pos) ∙ f) in
    let one = both (fits_within x (d - 1)) (fits_within y (d - 1) && true) b.1 in
    let two = both (fits_within y (d - 1)) true one.1 in
    (one.0, two.0)

-- the parameters of each call fit by themselves
pub params_fit : ((x : Value) (d : ℕ) → IsTrue (fits_within x d) → IsTrue (fits_within x (suc d))) →
    (calls : List Call) (told : List (List (List Value))) → IsTrue (fits (shape_value (h.Tx calls told)))
    → All (λ c. IsTrue (fits (v.Dict c.params))) calls
params_fit deeper calls told f = λ k d lt.
    let all = (parts call_value calls 31 (omega arith) (pair_fits (calls_value calls) (told_value told) 32 (omega arith) f).0).1 in
    let one : IsTrue (fits_within (call_value (get_or calls k d)) 30) = all_at (λ c. fits_within (call_value c) 30) calls k d lt all in
    whole_by deeper (v.Dict (get_or calls k d).params) (pair_fits (v.Text (get_or calls k d).source)
    (v.Dict (get_or calls k d).params) 30 (omega arith) one).1

-- ---- a refusal by what reads a value

no_reading : {Y : Type 0} (x : PackError) (y : Y) → (x ≡ p.Memory → ⊥) → Fails x (Ok y) → ⊥
no_reading p.Memory y other f = other refl
no_reading x y other f = cc

pack_refuses : (bytes : List ℕ) (x : PackError) → (x ≡ p.Memory → ⊥) → Fails x (read_value bytes) → Refuses bytes (Pack x)
pack_refuses bytes p.Memory other f = other refl
pack_refuses bytes x other f = f

-- ---- bytes that are the spelling of a shape

abbrev read_as : Value → ℕ → Result (Value × ℕ) PackError
read_as x n = Ok (x, n)

-- what reads a value reads what was written again
abbrev pub Again : List ℕ → Result (Value × ℕ) PackError → Type 0
Again bytes result = (x : Value) (rest : List ℕ) → IsTrue (fits x) → bytes ≡ short x ++ rest →
    Gives {Y = Value × ℕ} (λ r. r) result (read_as x (length (short x)))

abbrev pub Unshaped : List ℕ → Type 0
Unshaped bytes = (s : Shape) → IsShape s bytes → ⊥

written : (bytes : List ℕ) (result : Result (Value × ℕ) PackError) → Again bytes result → (s : Shape) → IsShape s bytes →
    Gives {Y = Value × ℕ} (λ r. r) result (read_as (shape_value s) (length (short (shape_value s))))
written bytes result again s is = again (shape_value s) [] (shape_fits s is.whole) (is.same ∙ sym (append-nil (short (shape_value s))))

pub unread : (bytes : List ℕ) (x : PackError) → (x ≡ p.Memory → ⊥) → Again bytes (Err x) → Unshaped bytes
unread bytes x other again s is = no_reading x _ other (written bytes (Err x) again s is)

module _ (bytes : List ℕ) (value : Value) (used : ℕ) (again : Again bytes (read_as value used)) where
  read_of : (s : Shape) → IsShape s bytes → (shape_value s ≡ value) × (length bytes ≡ used)
  read_of s is =
      let same : read_as (shape_value s) (length (short (shape_value s))) ≡ read_as value used =
      written bytes (read_as value used) again s is in
      let pair = ok_is (shape_value s, length (short (shape_value s))) (value, used) same in
      (ap (λ (r : Value × ℕ). r.0) pair, ap length is.same ∙ ap (λ (r : Value × ℕ). r.1) pair)

  pub more_follows : (used ≡ length bytes → ⊥) → Unshaped bytes
  more_follows other s is = other (sym (read_of s is).1)

  pub not_short : (bytes ≡ short value → ⊥) → Unshaped bytes
  not_short other s is = other (is.same ∙ ap short (read_of s is).0)

  pub no_shape_is : ((s : Shape) → IsTrue (paired s) → value ≡ shape_value s → ⊥) → Unshaped bytes
  no_shape_is none s is = none s (shape_pairs s is.whole) (sym (read_of s is).0)

  pub null_is : value ≡ v.Null → (x : Entry) → IsShape (shape_of x) bytes → x ≡ e.Noop
  null_is null e.Noop is = refl
  null_is null (e.Tx steps told) is = absurd (null_is_no_list _ (sym null ∙ sym (read_of (shape_of (e.Tx steps told)) is).0))

  pub tx_is : (calls : List Call) (told : List (List (List Value))) → value ≡ shape_value (h.Tx calls told) → (x : Entry) →
      IsShape (shape_of x) bytes → (ss : List Step) × (map call_of ss ≡ calls) × (x ≡ e.Tx ss told)
  tx_is calls told same e.Noop is = absurd (null_is_no_list _ ((read_of (shape_of e.Noop) is).0 ∙ same))
  tx_is calls told same (e.Tx ss ts) is =
      let t = tx_same (map call_of ss) calls ts told ((read_of (shape_of (e.Tx ss ts)) is).0 ∙ same) in
      (ss, t.0, ap (λ (u : List (List (List Value))). e.Tx ss u) t.1)

-- ---- what is answered

abbrev okay : Entry → Result Entry EntryError
okay x = Ok x

abbrev refusal : EntryError → Result Entry EntryError
refusal x = Err x

pub is_of : (bytes : List ℕ) (x : Entry) → IsTrue (entry_fits x) → bytes ≡ spelled x → IsShape (shape_of x) bytes
is_of bytes x f same = record { whole = f; same = same }

pub none_spelled : (bytes : List ℕ) → Unshaped bytes → (x : Entry) → IsTrue (entry_fits x) → bytes ≡ spelled x → ⊥
none_spelled bytes none x f same = none (shape_of x) (is_of bytes x f same)

pub bad_shape : (bytes : List ℕ) (value : Value) (used : ℕ) → read_value bytes ≡ Ok (value, drop used bytes) → Unshaped bytes →
    (x : EntryError) → refusal BadShape ≡ refusal x → Refuses bytes x
bad_shape bytes value used read none x is =
    let same : BadShape ≡ x = cc in
    subst (Refuses bytes) same (value, drop used bytes, read, none)

pub pack_refused : (bytes : List ℕ) (x : PackError) (y : EntryError) → (x ≡ p.Memory → ⊥) → Fails x (read_value bytes) →
    refusal (Pack x) ≡ refusal y → Refuses bytes y
pack_refused bytes x y other f is =
    let same : Pack x ≡ y = cc in
    subst (Refuses bytes) same (pack_refuses bytes x other f)

-- what was answered to a refusal of the steps
pub steps_refused : (x : EntryError) (ss : List Step) → StepsOrMemory ss (Err x) → (y : Entry) → EntryOrMemory (Err x) (Ok y)
steps_refused Memory ss f y = tt
steps_refused x ss f y = absurd cc

abbrev made : List Step → Result (List Step) EntryError
made ss = Ok ss

pub steps_answered : (x : Entry) (steps ss : List Step) (told : List (List (List Value))) → made steps ≡ made ss →
    x ≡ e.Tx ss told → okay x ≡ okay (e.Tx steps told)
steps_answered x steps ss told same is = let one : steps ≡ ss = cc in ap okay (is ∙ ap (λ (s : List Step). e.Tx s told) (sym one))

-- ---- an entry has one spelling

same_entry : (x y : Entry) → shape_value (shape_of x) ≡ shape_value (shape_of y) → x ≡ y
same_entry e.Noop e.Noop h = refl
same_entry e.Noop (e.Tx ss ts) h = absurd (null_is_no_list _ h)
same_entry (e.Tx ss ts) e.Noop h = absurd (null_is_no_list _ (sym h))
same_entry (e.Tx ss ts) (e.Tx us ws) h =
    let t = tx_same (map call_of ss) (map call_of us) ts ws h in
    ap (λ (z : List Step). e.Tx z ts) (same_steps ss us t.0) ∙ ap (λ (z : List (List (List Value))). e.Tx us z) t.1

pub one_entry : (x y : Entry) → IsTrue (entry_fits x) → IsTrue (entry_fits y) → spelled x ≡ spelled y → x ≡ y
one_entry x y f g same =
    let a = short_is max_depth (shape_value (shape_of x)) (shape_fits (shape_of x) f) in
    let b = short_is max_depth (shape_value (shape_of y)) (shape_fits (shape_of y) g) in
    same_entry x y (one_form max_depth (shape_value (shape_of x)) (shape_value (shape_of y)) (spelled x) (spelled y) [] [] a b
    (ap (λ (l : List ℕ). l ++ []) same)).0

pub noop_is : IsTrue (entry_allowed e.Noop)
noop_is =
    let null : spelled e.Noop ≡ 0xC0 ∷ [] = ap short (sym v.rolls-Null)
    ∙ fold-roll-Value (List ℕ) (List ℕ) short_step node_step Value-F.Null in
    allowed_by e.Noop refl (omega (arith, ap length null))

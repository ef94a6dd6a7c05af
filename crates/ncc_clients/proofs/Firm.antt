-- What is read where the shortest spelling of a SUCCESS stands, whether its values fit or not: a dictionary of its own keys.
use Rattle.std.proofs.Common.{◌≡◌, ℕ, suc, ◌-◌, ◌≤◌, cond, List, [], ◌∷◌, ◌++◌, length, map, take, drop}
use Rattle.std.proofs.Common.{Ok, Err, refl, sym, ap, ◌∙◌, append_assoc, append-nil}
use Rattle.std.specs.Prelude.{IsTrue, bytes_eq}
use Rattle.std.specs.List.{AllByRecursion, list_any}
use Rattle.std.proofs.lemmas.List.{take_at, drop_at, length-map}
use Rattle.ncc_pack.specs.declared.value.Value.{Value, fold-roll-Value, out-Value, out-roll-Value}
use Rattle.ncc_pack.specs.declared.value.Value.TheOpen.{Value-F}
use Rattle.ncc_pack.specs.declared.value.Value.TheVariants as v
use Rattle.ncc_pack.specs.declared.value.NodeValue.{NodeValue}
use Rattle.ncc_pack.specs.declared.error.PackError.TheVariants.{RepeatedKey}
use Rattle.ncc_pack.specs.declared.mark.Mark.TheVariants as k
use Rattle.ncc_pack.specs.Limits.{max_size}
use Rattle.ncc_pack.specs.Spells.{texts, lists, dicts}
use Rattle.ncc_pack.specs.Short.{head, text, list, dict, concat, pairs, short, short_pair, short_step, node_step}
use Rattle.ncc_pack.specs.Fits.{fits_within}
use Rattle.ncc_pack.specs.Reading.{◌>>=◌, Read, Holders, text_at, key_at, items_at, pairs_at, value_with, list_of, dict_of, within}
use Rattle.ncc_pack.specs.Reading.{value_at}
use Rattle.ncc_pack.proofs.Fields.{bind_ok, ok_is}
use Rattle.ncc_pack.proofs.Texts.{text_whole}
use Rattle.ncc_pack.proofs.Stops.{text_ok}
use Rattle.ncc_pack.proofs.Trip.{head_is, short_is}
use Rattle.ncc_pack.proofs.Taken.{guard_err}
use Rattle.ncc_pack.proofs.Spelled.{Heads, text_head, list_head, dict_head, value_again}
use Rattle.ncc_bolt.specs.Fields.{Pairs}

-- a reader takes just these bytes, where it takes any
abbrev pub Firm : {A : Type 0} → (List ℕ → Read A) → List ℕ → Type 0
Firm {A} read b = (rest : List ℕ) (y : A × List ℕ) → read (b ++ rest) ≡ Ok y → y.1 ≡ rest

-- ---- values that fit

pub fits_firm : (total d : ℕ) (x : Value) → IsTrue (fits_within x d) → Firm (value_at total d) (short x)
fits_firm total d x h rest y e =
    ap (λ (z : Value × List ℕ). z.1) (ok_is y (x, rest) (sym e ∙ value_again total d x (short x) rest (short_is d x h)))

-- ---- texts

text_takes : (total : ℕ) (t rest : List ℕ) (y : List ℕ × List ℕ) → text_at total (length t) (t ++ rest) ≡ Ok y → y ≡ (t, rest)
text_takes total t rest y e =
    let k = text_ok total (length t) (t ++ rest) y e in
    let w = text_whole total (length t) (t ++ rest) k.0 k.1 in
    ok_is y (take (length t) (t ++ rest), drop (length t) (t ++ rest)) (sym e ∙ w)
    ∙ rw (take_at t rest (length t) refl, drop_at t rest (length t) refl) refl

text_sized : (t : List ℕ) → length t ≤ max_size → Heads k.Text (length t) (head texts (length t))
text_sized t le = text_head (length t) (head texts (length t)) (head_is texts (length t) le)

text_front : (t rest : List ℕ) (hd : Heads k.Text (length t) (head texts (length t)))
    → text t ++ rest ≡ hd.mark ∷ (hd.more ++ (t ++ rest))
unfolding text
text_front t rest hd = append_assoc (head texts (length t)) t rest ∙ ap (λ (z : List ℕ). z ++ (t ++ rest)) hd.is

key_is : (total : ℕ) (t rest : List ℕ) → length t ≤ max_size → key_at total (text t ++ rest) ≡ text_at total (length t) (t ++ rest)
unfolding key_at
key_is total t rest le =
    let hd = text_sized t le in
    ap (key_at total) (text_front t rest hd)
    ∙ rw (hd.marks, hd.reads (total - length (hd.mark ∷ (hd.more ++ (t ++ rest)))) (t ++ rest)) refl

value_text : (total : ℕ) (hold : Holders) (t rest : List ℕ) → length t ≤ max_size
    → value_with total hold (text t ++ rest) ≡ (text_at total (length t) (t ++ rest) >>= λ x. Ok (v.Text x.0, x.1))
unfolding value_with
value_text total hold t rest le =
    let hd = text_sized t le in
    ap (value_with total hold) (text_front t rest hd)
    ∙ rw (hd.marks, hd.reads (total - length (hd.mark ∷ (hd.more ++ (t ++ rest)))) (t ++ rest)) refl

key_takes : (total : ℕ) (t rest : List ℕ) (y : List ℕ × List ℕ) → length t ≤ max_size → key_at total (text t ++ rest) ≡ Ok y → y ≡ (t, rest)
key_takes total t rest y le e = text_takes total t rest y (sym (key_is total t rest le) ∙ e)

pub short_text : (t : List ℕ) → short (v.Text t) ≡ text t
short_text t = ap short (sym (v.rolls-Text t)) ∙ fold-roll-Value (List ℕ) (List ℕ) short_step node_step (Value-F.Text t)

text_by : (total : ℕ) (hold : Holders) (t : List ℕ) → length t ≤ max_size → Firm (value_with total hold) (text t)
text_by total hold t le rest y e =
    let b = bind_ok (text_at total (length t) (t ++ rest)) (λ x. Ok (v.Text x.0, x.1)) y (sym (value_text total hold t rest le) ∙ e) in
    ap (λ (z : Value × List ℕ). z.1) (sym (ok_is (v.Text b.0.0, b.0.1) y b.2))
    ∙ ap (λ (z : List ℕ × List ℕ). z.1) (text_takes total t rest b.0 b.1)

pub text_firm : (total : ℕ) (hold : Holders) (t : List ℕ) → length t ≤ max_size → Firm (value_with total hold) (short (v.Text t))
text_firm total hold t le = rw (short_text t) (text_by total hold t le)

-- ---- lists

items_firm : {A B : Type 0} (one : List ℕ → Read A) (f : B → List ℕ) (xs : List B) → AllByRecursion (λ x. Firm one (f x)) xs
    → Firm (items_at one (length xs)) (concat (map f xs))
unfolding items_at
items_firm one f [] all rest y e = ap (λ (z : List _ × List ℕ). z.1) (sym (ok_is ([], rest) y e))
items_firm one f (x ∷ xs) all rest y e =
    let more = concat (map f xs) in
    let whole : items_at one (suc (length xs)) (f x ++ (more ++ rest)) ≡ Ok y =
    ap (items_at one (suc (length xs))) (sym (append_assoc (f x) more rest)) ∙ e in
    let first = bind_ok (one (f x ++ (more ++ rest))) _ y whole in
    let at : first.0.1 ≡ more ++ rest = all.0 (more ++ rest) first.0 first.1 in
    let others = bind_ok (items_at one (length xs) first.0.1) _ y first.2 in
    ap (λ (z : List _ × List ℕ). z.1) (sym (ok_is (first.0.0 ∷ others.0.0, others.0.1) y others.2))
    ∙ items_firm one f xs all.1 rest others.0 (ap (items_at one (length xs)) (sym at) ∙ others.1)

pub short_list : (xs : List Value) → short (v.List xs) ≡ list (map short xs)
short_list xs = ap short (sym (v.rolls-List xs)) ∙ fold-roll-Value (List ℕ) (List ℕ) short_step node_step (Value-F.List xs)

list_front : (xs : List Value) (rest : List ℕ) (hd : Heads k.List (length xs) (head lists (length xs)))
    → list (map short xs) ++ rest ≡ hd.mark ∷ (hd.more ++ (concat (map short xs) ++ rest))
unfolding list
list_front xs rest hd =
    ap (λ (n : ℕ). (head lists n ++ concat (map short xs)) ++ rest) (length-map xs short)
    ∙ append_assoc (head lists (length xs)) (concat (map short xs)) rest
    ∙ ap (λ (z : List ℕ). z ++ (concat (map short xs) ++ rest)) hd.is

value_list : (total d : ℕ) (xs : List Value) (rest : List ℕ) → length xs ≤ max_size
    → value_at total (suc d) (list (map short xs) ++ rest)
    ≡ (items_at (value_at total d) (length xs) (concat (map short xs) ++ rest) >>= λ z. Ok (v.List z.0, z.1))
unfolding value_with within list_of
value_list total d xs rest le =
    let hd = list_head (length xs) (head lists (length xs)) (head_is lists (length xs) le) in
    let items = concat (map short xs) ++ rest in
    ap (value_at total (suc d)) (list_front xs rest hd)
    ∙ rw (hd.marks, hd.reads (total - length (hd.mark ∷ (hd.more ++ items))) items) refl

list_by : (total d : ℕ) (xs : List Value) → length xs ≤ max_size → AllByRecursion (λ x. Firm (value_at total d) (short x)) xs
    → Firm (value_at total (suc d)) (list (map short xs))
list_by total d xs le all rest y e =
    let b = bind_ok (items_at (value_at total d) (length xs) (concat (map short xs) ++ rest)) (λ z. Ok (v.List z.0, z.1)) y
    (sym (value_list total d xs rest le) ∙ e) in
    ap (λ (z : Value × List ℕ). z.1) (sym (ok_is (v.List b.0.0, b.0.1) y b.2))
    ∙ items_firm (value_at total d) short xs all rest b.0 b.1

pub list_firm : (total d : ℕ) (xs : List Value) → length xs ≤ max_size → AllByRecursion (λ x. Firm (value_at total d) (short x)) xs
    → Firm (value_at total (suc d)) (short (v.List xs))
list_firm total d xs le all = rw (short_list xs) (list_by total d xs le all)

-- ---- dictionaries

abbrev pub keys_of : Pairs → List (List ℕ)
keys_of ps = map (λ (p : List ℕ × Value). p.0) ps

-- all values are taken as they are, but for the last, behind which no key comes
abbrev pub Firms : (List ℕ → Read Value) → Pairs → Type 0
Firms value [] = Unit {0}
Firms value (p ∷ []) = length p.0 ≤ max_size
Firms value (p ∷ q ∷ ps) = (length p.0 ≤ max_size) × Firm value (short p.1) × Firms value (q ∷ ps)

module _ (total : ℕ) (value : List ℕ → Read Value) where
  abbrev behind_key : List (List ℕ) → ℕ → ℕ → List ℕ × List ℕ → Read Pairs
  behind_key earlier n at key =
      cond (list_any (bytes_eq key.0) earlier) (Err (RepeatedKey at))
      (value key.1 >>= λ x. pairs_at total value (earlier ++ key.0 ∷ []) n x.1 >>= λ more. Ok ((key.0, x.0) ∷ more.0, more.1))

  -- what was read of a pair and of those behind it
  record Step (earlier : List (List ℕ)) (n : ℕ) (key more : List ℕ) (y : Pairs × List ℕ) : Type 0 where
    one : Value × List ℕ
    others : Pairs × List ℕ
    reads : value more ≡ Ok one
    goes_on : pairs_at total value (earlier ++ key ∷ []) n one.1 ≡ Ok others
    is : y.0 ≡ (key, one.0) ∷ others.0

  step_of : (earlier : List (List ℕ)) (n at : ℕ) (key more : List ℕ) (y : Pairs × List ℕ)
      → behind_key earlier n at (key, more) ≡ Ok y → Step earlier n key more y
  step_of earlier n at key more y e =
      let g = guard_err (list_any (bytes_eq key) earlier) (RepeatedKey at)
      (value more >>= λ x. pairs_at total value (earlier ++ key ∷ []) n x.1 >>= λ z. Ok ((key, x.0) ∷ z.0, z.1)) y e in
      let one = bind_ok (value more) _ y g.1 in
      let others = bind_ok (pairs_at total value (earlier ++ key ∷ []) n one.0.1) _ y one.2 in
      record {
        one = one.0;
        others = others.0;
        reads = one.1;
        goes_on = others.1;
        is = ap (λ (z : Pairs × List ℕ). z.0) (sym (ok_is ((key, one.0.0) ∷ others.0.0, others.0.1) y others.2));
      }

  pair_read : (earlier : List (List ℕ)) (n : ℕ) (key more : List ℕ) (y : Pairs × List ℕ) → length key ≤ max_size
      → pairs_at total value earlier (suc n) (text key ++ more) ≡ Ok y → Step earlier n key more y
  unfolding pairs_at
  pair_read earlier n key more y le e =
      let at = total - length (text key ++ more) in
      let read = bind_ok (key_at total (text key ++ more)) (behind_key earlier n at) y e in
      let same : read.0 ≡ (key, more) = key_takes total key more read.0 le read.1 in
      step_of earlier n at key more y (ap (behind_key earlier n at) (sym same) ∙ read.2)

  pairs_front : (p : List ℕ × Value) (ps : Pairs) (rest : List ℕ)
      → pairs (map short_pair (p ∷ ps)) ++ rest ≡ text p.0 ++ (short p.1 ++ (pairs (map short_pair ps) ++ rest))
  pairs_front p ps rest =
      append_assoc (text p.0 ++ short p.1) (pairs (map short_pair ps)) rest
      ∙ append_assoc (text p.0) (short p.1) (pairs (map short_pair ps) ++ rest)

  pairs_keys : (earlier : List (List ℕ)) (ps : Pairs) (rest : List ℕ) (y : Pairs × List ℕ) → Firms value ps
      → pairs_at total value earlier (length ps) (pairs (map short_pair ps) ++ rest) ≡ Ok y → keys_of y.0 ≡ keys_of ps
  unfolding pairs_at
  pairs_keys earlier [] rest y firm e = ap (λ (z : Pairs × List ℕ). keys_of z.0) (sym (ok_is ([], rest) y e))
  pairs_keys earlier (p ∷ []) rest y firm e =
      let s = pair_read earlier 0 p.0 (short p.1 ++ rest) y firm
      (ap (pairs_at total value earlier 1) (sym (pairs_front p [] rest)) ∙ e) in
      let none : s.others.0 ≡ [] = ap (λ (z : Pairs × List ℕ). z.0) (sym (ok_is ([], s.one.1) s.others s.goes_on)) in
      ap keys_of s.is ∙ ap (λ (z : Pairs). p.0 ∷ keys_of z) none
  pairs_keys earlier (p ∷ q ∷ ps) rest y firm e =
      let more = pairs (map short_pair (q ∷ ps)) ++ rest in
      let s = pair_read earlier (length (q ∷ ps)) p.0 (short p.1 ++ more) y firm.0
      (ap (pairs_at total value earlier (suc (length (q ∷ ps)))) (sym (pairs_front p (q ∷ ps) rest)) ∙ e) in
      let at : s.one.1 ≡ more = firm.1 more s.one s.reads in
      let others = pairs_keys (earlier ++ p.0 ∷ []) (q ∷ ps) rest s.others firm.2
      (ap (pairs_at total value (earlier ++ p.0 ∷ []) (length (q ∷ ps))) (sym at) ∙ s.goes_on) in
      ap keys_of s.is ∙ ap (λ (z : List (List ℕ)). p.0 ∷ z) others

pub short_dict : (ps : Pairs) → short (v.Dict ps) ≡ dict (map short_pair ps)
short_dict ps = ap short (sym (v.rolls-Dict ps)) ∙ fold-roll-Value (List ℕ) (List ℕ) short_step node_step (Value-F.Dict ps)

dict_front : (ps : Pairs) (rest : List ℕ) (hd : Heads k.Dict (length ps) (head dicts (length ps)))
    → dict (map short_pair ps) ++ rest ≡ hd.mark ∷ (hd.more ++ (pairs (map short_pair ps) ++ rest))
unfolding dict
dict_front ps rest hd =
    ap (λ (n : ℕ). (head dicts n ++ pairs (map short_pair ps)) ++ rest) (length-map ps short_pair)
    ∙ append_assoc (head dicts (length ps)) (pairs (map short_pair ps)) rest
    ∙ ap (λ (z : List ℕ). z ++ (pairs (map short_pair ps) ++ rest)) hd.is

value_dict : (total d : ℕ) (ps : Pairs) (rest : List ℕ) → length ps ≤ max_size
    → value_at total (suc d) (dict (map short_pair ps) ++ rest)
    ≡ (pairs_at total (value_at total d) [] (length ps) (pairs (map short_pair ps) ++ rest) >>= λ z. Ok (v.Dict z.0, z.1))
unfolding value_with within dict_of
value_dict total d ps rest le =
    let hd = dict_head (length ps) (head dicts (length ps)) (head_is dicts (length ps) le) in
    let items = pairs (map short_pair ps) ++ rest in
    ap (value_at total (suc d)) (dict_front ps rest hd)
    ∙ rw (hd.marks, hd.reads (total - length (hd.mark ∷ (hd.more ++ items))) items) refl

-- the pairs of a dictionary, and the bytes of a text
pairs_in : Value-F Value NodeValue → Pairs
pairs_in (Value-F.Dict ps) = ps
pairs_in _ = []

pairs_back : (ps : Pairs) → pairs_in (out-Value (v.Dict ps)) ≡ ps
unfolding pairs_in
pairs_back ps = ap pairs_in (ap out-Value (sym (v.rolls-Dict ps)) ∙ out-roll-Value (Value-F.Dict ps))

same_dict : (ps qs : Pairs) → v.Dict ps ≡ v.Dict qs → ps ≡ qs
same_dict ps qs e = sym (pairs_back ps) ∙ ap (λ (x : Value). pairs_in (out-Value x)) e ∙ pairs_back qs

bytes_in : Value-F Value NodeValue → List ℕ
bytes_in (Value-F.Text t) = t
bytes_in _ = []

bytes_back : (t : List ℕ) → bytes_in (out-Value (v.Text t)) ≡ t
unfolding bytes_in
bytes_back t = ap bytes_in (ap out-Value (sym (v.rolls-Text t)) ∙ out-roll-Value (Value-F.Text t))

pub same_text : (a b : List ℕ) → v.Text a ≡ v.Text b → a ≡ b
same_text a b e = sym (bytes_back a) ∙ ap (λ (x : Value). bytes_in (out-Value x)) e ∙ bytes_back b

-- a dictionary is read with its own keys
pub dict_keys : (total d : ℕ) (ps qs : Pairs) (rest : List ℕ) → length ps ≤ max_size → Firms (value_at total d) ps
    → value_at total (suc d) (short (v.Dict ps)) ≡ Ok (v.Dict qs, rest) → keys_of qs ≡ keys_of ps
dict_keys total d ps qs rest le firm e =
    let whole : value_at total (suc d) (dict (map short_pair ps) ++ []) ≡ Ok (v.Dict qs, rest) =
    ap (value_at total (suc d)) (append-nil (dict (map short_pair ps)) ∙ sym (short_dict ps)) ∙ e in
    let b = bind_ok (pairs_at total (value_at total d) [] (length ps) (pairs (map short_pair ps) ++ [])) (λ z. Ok (v.Dict z.0, z.1))
    (v.Dict qs, rest) (sym (value_dict total d ps [] le) ∙ whole) in
    let same : b.0.0 ≡ qs =
    same_dict b.0.0 qs (ap (λ (z : Value × List ℕ). z.0) (ok_is (v.Dict b.0.0, b.0.1) (v.Dict qs, rest) b.2)) in
    ap keys_of (sym same) ∙ pairs_keys total (value_at total d) [] ps [] b.0 firm b.1

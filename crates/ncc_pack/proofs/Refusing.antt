-- Where lists, dictionaries, nodes and values stop, at each depth.
use Rattle.std.proofs.Common.{◌≡◌, ◌⊎◌, inl, inr, ℕ, zero, suc, ◌+◌, ◌-◌, ◌^◌, ◌<◌, Bool, true, false, cond, IsTrue, List, [], ◌∷◌}
use Rattle.std.proofs.Common.{◌++◌, length, Ok, Err, refl, sym, ap, subst, ◌∙◌, append_assoc, append-nil, arith}
use Rattle.std.specs.Prelude.{ℤ, ◌==◌}
use Rattle.std.specs.Int.{Width, w8, w16, w32, w64, cast_signed, to_be_bytes}
use Rattle.std.proofs.lemmas.Bool.{eqb-true}
use Rattle.ncc_pack.specs.declared.value.Value.{Value}
use Rattle.ncc_pack.specs.declared.value.Value.TheVariants as v
use Rattle.ncc_pack.specs.declared.value.NodeValue.{NodeValue}
use Rattle.ncc_pack.specs.declared.error.PackError.{PackError}
use Rattle.ncc_pack.specs.declared.error.PackError.TheVariants.{Short, BadMarker, TooDeep, TooLong}
use Rattle.ncc_pack.specs.declared.error.PackError.TheVariants as refusal
use Rattle.ncc_pack.specs.declared.mark.Mark.{Mark}
use Rattle.ncc_pack.specs.declared.mark.Mark.TheVariants as k
use Rattle.ncc_pack.specs.declared.mark.Size.{Size}
use Rattle.ncc_pack.specs.Keys.{distinct}
use Rattle.ncc_pack.specs.Marker.{marker}
use Rattle.ncc_pack.specs.Reading.{◌>>=◌, Read, integer_at, size_at, bytes_at, other_kind, id_at, items_at, pairs_at, by_mark}
use Rattle.ncc_pack.specs.Reading.{value_with, labels_at, props_by, props_at, tag_at, fields_at, list_of, dict_of, within, value_at}
use Rattle.ncc_pack.specs.Spells.{Kind, texts, lists, dicts, bytes_mark, IsWide, IsHead, SpellsInt, SpellsText, Each, Listed, Pair}
use Rattle.ncc_pack.specs.Spells.{Label, Holding, Spells, Fields, levels}
use Rattle.ncc_pack.specs.Spells as s
use Rattle.ncc_pack.proofs.Fields.{IsBytes, bind_ok, Wide, wide8, wide16, wide32, wide64}
use Rattle.ncc_pack.proofs.Marks.{WideSays, SizeSays, Says, says}
use Rattle.ncc_pack.proofs.Fitted.{head_size}
use Rattle.ncc_pack.proofs.Taken.{IsBytes-rest, id_taken, labels_taken, value_taken}
use Rattle.ncc_pack.proofs.Spelled.{id_again, labels_again, value_again}
use Rattle.ncc_pack.proofs.Faults.{Open, AtMarker, PlacedAt, Shaped, GoesOn, Reader, Fault, goes_map, passed, short_fault, split}
use Rattle.ncc_pack.proofs.Stops.{kind_heading, bytes_heading, sized_fault, HeldOf, bytes_fill, bytes_fault, TextGoes, text_reader}
use Rattle.ncc_pack.proofs.Stops.{text_fault}
use Rattle.ncc_pack.proofs.Stopped.{failed, done, float_is, wrapped, bind_assoc, one_fault, other_fault, no_ok, ItemsOf}
use Rattle.ncc_pack.proofs.Stopped.{items_reader, items_fault, Known, spelled_on, spelled_cut, listed_on, listed_cut, no_items}
use Rattle.ncc_pack.proofs.Stopped.{labels_fault, zero_int, int_fault, id_fault}
use Rattle.ncc_pack.proofs.Unread.{PairsOf, pairs_reader, pairs_fill, pairs_fault}

abbrev pub value_reader : ℕ → Reader Value
value_reader d all z = value_at all d z

abbrev Spelt : ℕ → Value → List ℕ → Type 0
Spelt d = Spells (levels d)

abbrev pub Finds : ℕ → Type 0
Finds d = (total : ℕ) (z : List ℕ) (err : PackError) → IsBytes z → value_at total d z ≡ Err err →
    Fault (GoesOn (Spells (levels d))) (value_reader d) total z err

null_open : (d : ℕ) → Open (Spelt d) []
null_open d = (0xC0 ∷ [], v.Null, s.null)

known : (d : ℕ) → Finds d → Known (value_reader d) (Spells (levels d))
known d finds = record {
  default = null_open d;
  taken = λ total z y fits e. value_taken total d z y fits e;
  again = λ total x b rest r. value_again total d x b rest r;
  finds = finds;
}

-- ---- dictionaries

abbrev DictOf : ℕ → List (List ℕ × Value) → List ℕ → Type 0
DictOf d ps b = Listed dicts (Pair (Spells (levels d))) ps b × IsTrue (distinct [] ps)

dict_on : (d n : ℕ) (front : List ℕ) → IsHead dicts n front → (z : List ℕ) → Open (PairsOf (Spelt d) [] n) z → Open (DictOf d) (front ++ z)
dict_on d n front hd z o = (
  o.0,
  o.1,
  (
    (
      front,
      z ++ o.0,
      subst (λ (i : ℕ). IsHead dicts i front) (sym o.2.1) hd,
      o.2.0,
      append_assoc front z o.0,
    ),
    o.2.2,
  ),
)

dict_cut : (d n : ℕ) (b more : List ℕ) → IsHead dicts n (b ++ more) → Open (DictOf d) b
dict_cut d n b more hd =
    let le = head_size dicts n (b ++ more) hd in
    let o = dict_on d n (b ++ more) hd [] (pairs_fill (Spelt d) (null_open d) n [] (omega arith)) in
    (more ++ o.0, o.1, subst (DictOf d o.1) (ap (λ (q : List ℕ). q ++ o.0) (append-nil (b ++ more)) ∙ append_assoc b more o.0) o.2)

no_pairs : (d : ℕ) → Open (DictOf d) []
no_pairs d = ((dicts.tiny + 0) ∷ [], [], (((dicts.tiny + 0) ∷ [], [], s.tiny (omega arith), refl, refl), refl))

as_dict : (d : ℕ) (z : List ℕ) → Open (DictOf d) z → Open (Spelt (suc d)) z
unfolding levels
as_dict d z o = (o.0, v.Dict o.1, s.dict o.1 (z ++ o.0) o.2)

value_dict : (d all m : ℕ) (z : List ℕ) (size : Size) → marker m ≡ k.Dict size
    → value_at all (suc d) (m ∷ z) ≡
    (size_at (all - length (m ∷ z)) size z >>= λ n. pairs_reader (value_reader d) [] n.0 all n.1 >>= λ ps. Ok (v.Dict ps.0, ps.1))
unfolding value_with within dict_of
value_dict d all m z size mk =
    ap (λ (q : Mark). by_mark all (within all (suc d)) (all - length (m ∷ z)) q z) mk
    ∙ bind_assoc (size_at (all - length (m ∷ z)) size z) (λ n. pairs_at all (value_with all (within all d)) [] n.0 n.1)
    (λ ps. Ok (v.Dict ps.0, ps.1))

dict_fault : (d : ℕ) → Finds d → (total m : ℕ) (bytes : List ℕ) (err : PackError) (size : Size) → marker m ≡ k.Dict size →
    SizeSays dicts m size → IsBytes bytes → value_at total (suc d) (m ∷ bytes) ≡ Err err
    → Fault (GoesOn (Spelt (suc d))) (value_reader (suc d)) total (m ∷ bytes) err
dict_fault d finds total m bytes err size mk sa fits e =
    let R = Spelt d in
    let K : ℕ → Reader Value = λ n all z. pairs_reader (value_reader d) [] n all z >>= λ ps. Ok (v.Dict ps.0, ps.1) in
    sized_fault (GoesOn (Spelt (suc d))) (value_reader (suc d)) K m size (IsHead dicts) (kind_heading dicts m size sa)
    (λ all z. value_dict d all m z size mk) (λ at. inl (null_open (suc d)))
    (λ z more n hd. inl (as_dict d (m ∷ z) (dict_cut d n (m ∷ z) more hd))) (λ n. GoesOn (PairsOf R [] n))
    (λ n front hd all z q fit o. wrapped (GoesOn (PairsOf R [] n)) (pairs_reader (value_reader d) [] n) (λ ps. (
      v.Dict ps.0,
      ps.1,
    )) all z q o (λ p.
    let le = head_size dicts n front hd in pairs_fault (value_reader d) R (known d finds) n all [] z q (omega arith) fit p))
    (λ n front hd q z g. goes_map (PairsOf R [] n) (Spelt (suc d)) front
    (λ u o. as_dict d (front ++ u) (dict_on d n front hd u o)) q z g) total bytes err fits e

props_dict : (d all m : ℕ) (z : List ℕ) (size : Size) → marker m ≡ k.Dict size
    → props_at all (within all (suc d)) (m ∷ z) ≡
    (size_at (all - length (m ∷ z)) size z >>= λ n. pairs_reader (value_reader d) [] n.0 all n.1)
unfolding props_at within dict_of
props_dict d all m z size mk = ap (λ (q : Mark). props_by (within all (suc d)) (all - length (m ∷ z)) q z) mk

abbrev props_reader : ℕ → Reader (List (List ℕ × Value))
props_reader d all z = props_at all (within all (suc d)) z

props_by_fault : (d : ℕ) → Finds d → (total m : ℕ) (bytes : List ℕ) (err : PackError) (mark : Mark) → marker m ≡ mark →
    Says m mark → IsBytes bytes → props_by (within total (suc d)) (total - length (m ∷ bytes)) mark bytes ≡ Err err
    → Fault (GoesOn (DictOf d)) (props_reader d) total (m ∷ bytes) err
unfolding props_at within dict_of
props_by_fault d finds total m bytes err (k.Dict size) mk sa fits e =
    let R = Spelt d in
    sized_fault (GoesOn (DictOf d)) (props_reader d) (λ n. pairs_reader (value_reader d) [] n) m size (IsHead dicts)
    (kind_heading dicts m size sa) (λ all z. props_dict d all m z size mk) (λ at. inl (no_pairs d))
    (λ z more n hd. inl (dict_cut d n (m ∷ z) more hd)) (λ n. GoesOn (PairsOf R [] n))
    (λ n front hd all z q fit o. let le = head_size dicts n front hd in
    pairs_fault (value_reader d) R (known d finds) n all [] z q (omega arith) fit o)
    (λ n front hd q z g. goes_map (PairsOf R [] n) (DictOf d) front (dict_on d n front hd) q z g) total bytes err fits
    (props_dict d total m bytes size mk ∙ e)
props_by_fault d finds total m bytes err mark mk sa fits e =
    other_fault (GoesOn (DictOf d)) (props_reader d) total m bytes mark mk err
    (let q : other_kind (total - length (m ∷ bytes)) mark ≡ err = cc in ap (λ (d : PackError). failed d) q) (λ _. inl (no_pairs d))
    (λ all c y o. no_ok (other_kind (all - length (m ∷ c)) mark) (props_at all (within all (suc d)) (m ∷ c)) y
    (ap (λ (q : Mark). props_by (within all (suc d)) (all - length (m ∷ c)) q c) mk) o)

props_fault : (d : ℕ) → Finds d → (total : ℕ) (z : List ℕ) (err : PackError) → IsBytes z →
    props_at total (within total (suc d)) z ≡ Err err → Fault (GoesOn (DictOf d)) (props_reader d) total z err
unfolding props_at
props_fault d finds total [] err fits e = let same : Short ≡ err = cc in
    subst (λ (q : PackError). Fault (GoesOn (DictOf d)) (props_reader d) total [] q) same
    (short_fault (GoesOn (DictOf d)) (props_reader d) total [] (inl (no_pairs d)))
props_fault d finds total (m ∷ bytes) err fits e =
    props_by_fault d finds total m bytes err (marker m) refl (says m (fits 0)) (IsBytes-rest m bytes fits) e

-- ---- lists

as_list : (d : ℕ) (z : List ℕ) → Open (Listed lists (Spelt d)) z → Open (Spelt (suc d)) z
unfolding levels
as_list d z o = (o.0, v.List o.1, s.list o.1 (z ++ o.0) o.2)

value_list : (d all m : ℕ) (z : List ℕ) (size : Size) → marker m ≡ k.List size
    → value_at all (suc d) (m ∷ z) ≡
    (size_at (all - length (m ∷ z)) size z >>= λ n. items_reader (value_reader d) n.0 all n.1 >>= λ xs. Ok (v.List xs.0, xs.1))
unfolding value_with within list_of
value_list d all m z size mk =
    ap (λ (q : Mark). by_mark all (within all (suc d)) (all - length (m ∷ z)) q z) mk
    ∙ bind_assoc (size_at (all - length (m ∷ z)) size z) (λ n. items_at (value_with all (within all d)) n.0 n.1)
    (λ xs. Ok (v.List xs.0, xs.1))

list_fault : (d : ℕ) → Finds d → (total m : ℕ) (bytes : List ℕ) (err : PackError) (size : Size) → marker m ≡ k.List size →
    SizeSays lists m size → IsBytes bytes → value_at total (suc d) (m ∷ bytes) ≡ Err err
    → Fault (GoesOn (Spelt (suc d))) (value_reader (suc d)) total (m ∷ bytes) err
list_fault d finds total m bytes err size mk sa fits e =
    let R = Spelt d in
    let K : ℕ → Reader Value = λ n all z. items_reader (value_reader d) n all z >>= λ xs. Ok (v.List xs.0, xs.1) in
    sized_fault (GoesOn (Spelt (suc d))) (value_reader (suc d)) K m size (IsHead lists) (kind_heading lists m size sa)
    (λ all z. value_list d all m z size mk) (λ at. inl (null_open (suc d)))
    (λ z more n hd. inl (as_list d (m ∷ z) (listed_cut lists R (null_open d) n (m ∷ z) more hd))) (λ n. GoesOn (ItemsOf R n))
    (λ n front hd all z q fit o. wrapped (GoesOn (ItemsOf R n)) (items_reader (value_reader d) n) (λ xs. (
      v.List xs.0,
      xs.1,
    )) all z q o (λ p. items_fault (value_reader d) R (known d finds) n all z q fit p))
    (λ n front hd q z g. goes_map (ItemsOf R n) (Spelt (suc d)) front
    (λ u o. as_list d (front ++ u) (listed_on lists R n front hd u o)) q z g) total bytes err fits e

-- ---- nodes

abbrev NodeOf : ℕ → NodeValue → List ℕ → Type 0
NodeOf d n b = Fields (levels (suc d)) n (0xB3 ∷ b)

abbrev fields_reader : ℕ → Reader NodeValue
fields_reader d all z = fields_at all (within all (suc d)) z

abbrev made : ℤ → List Value → List (List ℕ × Value) → NodeValue
made i l p = record { id = i; labels = l; props = p }

-- the parts of a node, each behind those before it
node_on : (d : ℕ) (z : ℤ) (i : List ℕ) (ls : List Value) (l : List ℕ) → SpellsInt z i → Listed lists Label ls l → (q : List ℕ) →
    Open (DictOf d) q → Open (NodeOf d) ((0x4E ∷ (i ++ l)) ++ q)
unfolding levels
node_on d z i ls l si sl q o = (
  o.0,
  made z ls o.1,
  (
    i,
    l,
    q ++ o.0,
    si,
    sl,
    o.2,
    ap (λ (w : List ℕ). 0xB3 ∷ 0x4E ∷ w) (append_assoc (i ++ l) q o.0),
  ),
)

labels_on : (d : ℕ) (z : ℤ) (i : List ℕ) → SpellsInt z i → (q : List ℕ) → Open (Listed lists Label) q → Open (NodeOf d) ((0x4E ∷ i) ++ q)
labels_on d z i si q o =
    let p = node_on d z i o.1 (q ++ o.0) si o.2 [] (no_pairs d) in (
      o.0 ++ p.0,
      p.1,
      subst (NodeOf d p.1) (ap (λ (w : List ℕ). 0x4E ∷ w)
          (ap (λ (w : List ℕ). w ++ p.0) (append-nil (i ++ (q ++ o.0)) ∙ sym (append_assoc i q o.0)) ∙ append_assoc (i ++ q) o.0 p.0)) p.2,
    )

id_on : (d : ℕ) (q : List ℕ) → Open SpellsInt q → Open (NodeOf d) ((0x4E ∷ []) ++ q)
id_on d q o =
    let p = labels_on d o.1 (q ++ o.0) o.2 [] (no_items lists Label) in (
      o.0 ++ p.0,
      p.1,
      subst (NodeOf d p.1) (ap (λ (w : List ℕ). 0x4E ∷ w) (ap (λ (w : List ℕ). w ++ p.0) (append-nil (q ++ o.0))
          ∙ append_assoc q o.0 p.0)) p.2,
    )

no_node : (d : ℕ) → Open (NodeOf d) []
no_node d = let p = id_on d [] zero_int in (0x4E ∷ p.0, p.1, p.2)

-- what is read behind the tag, behind the id, and behind the labels
abbrev last_part : ℕ → ℕ → ℤ → List Value → List ℕ → Read NodeValue
last_part d all i ls z = props_at all (within all (suc d)) z >>= λ p. Ok (made i ls p.0, p.1)

abbrev labels_part : ℕ → ℕ → ℤ → List ℕ → Read NodeValue
labels_part d all i z = labels_at all z >>= λ l. last_part d all i l.0 l.1

abbrev id_part : ℕ → ℕ → List ℕ → Read NodeValue
id_part d all z = id_at all z >>= λ i. labels_part d all i.0 i.1

behind_tag : (d all : ℕ) (z : List ℕ) → fields_at all (within all (suc d)) (0x4E ∷ z) ≡ id_part d all z
unfolding fields_at tag_at
behind_tag d all z = refl

behind_id : (d all : ℕ) (x : ℤ) (i z : List ℕ) → SpellsInt x i →
    fields_at all (within all (suc d)) ((0x4E ∷ i) ++ z) ≡ labels_part d all x z
behind_id d all x i z si = behind_tag d all (i ++ z) ∙ ap (λ (r : Read ℤ). r >>= λ i. labels_part d all i.0 i.1) (id_again all x i z si)

behind_labels : (d all : ℕ) (x : ℤ) (i : List ℕ) (ls : List Value) (l z : List ℕ) → SpellsInt x i → Listed lists Label ls l →
    fields_at all (within all (suc d)) ((0x4E ∷ (i ++ l)) ++ z) ≡ last_part d all x ls z
behind_labels d all x i ls l z si sl =
    ap (λ (q : List ℕ). fields_at all (within all (suc d)) (0x4E ∷ q)) (append_assoc i l z)
    ∙ behind_id d all x i (l ++ z) si ∙ ap (λ (r : Read (List Value)). r >>= λ l. last_part d all x l.0 l.1) (labels_again all ls l z sl)

module _ (d : ℕ) (finds : Finds d) (total : ℕ) (err : PackError) where
  abbrev Stop : List ℕ → Type 0
  Stop z = Fault (GoesOn (NodeOf d)) (fields_reader d) total z err

  last_fault : (z : List ℕ) (x : ℤ) (i : List ℕ) (ls : List Value) (l rest : List ℕ) → SpellsInt x i → Listed lists Label ls l →
      z ≡ (0x4E ∷ (i ++ l)) ++ rest → IsBytes rest → last_part d total x ls rest ≡ Err err → Stop z
  last_fault z x i ls l rest si sl parts fits e =
      by (split (props_at total (within total (suc d)) rest) (λ p. Ok (made x ls p.0, p.1)) err e)
    where
      by : (props_at total (within total (suc d)) rest ≡ Err err)
          ⊎ ((p : List (List ℕ × Value) × List ℕ) × (props_at total (within total (suc d)) rest ≡ Ok p)
          × (done {A = NodeValue × List ℕ} (made x ls p.0, p.1) ≡ Err err)) → Fault (GoesOn (NodeOf d)) (fields_reader d) total z err
      by (inl q) =
          passed (GoesOn (DictOf d)) (GoesOn (NodeOf d)) (props_reader d) (fields_reader d) total (0x4E ∷ (i ++ l)) rest z err parts
          (λ w g. goes_map (DictOf d) (NodeOf d) (0x4E ∷ (i ++ l)) (node_on d x i ls l si sl) err w g)
          (λ all w y o. let b = bind_ok (props_at all (within all (suc d)) w) (λ p. Ok (
            made x ls p.0,
            p.1,
          )) y (sym (behind_labels d all x i ls l w si sl) ∙ o) in (b.0, b.1)) (props_fault d finds total rest err fits q)
      by (inr r) = absurd (let no : done {A = NodeValue × List ℕ} (made x ls r.0.0, r.0.1) ≡ Err err = r.2 in cc)

  labels_stop : (z : List ℕ) (x : ℤ) (i rest : List ℕ) → SpellsInt x i → z ≡ (0x4E ∷ i) ++ rest → IsBytes rest →
      labels_part d total x rest ≡ Err err → Stop z
  labels_stop z x i rest si parts fits e = by (split (labels_at total rest) (λ l. last_part d total x l.0 l.1) err e)
    where
      by : (labels_at total rest ≡ Err err) ⊎ ((l : List Value × List ℕ) × (labels_at total rest ≡ Ok l)
          × (last_part d total x l.0 l.1 ≡ Err err)) → Fault (GoesOn (NodeOf d)) (fields_reader d) total z err
      by (inl q) =
          passed (GoesOn (Listed lists Label)) (GoesOn (NodeOf d)) labels_at (fields_reader d) total (0x4E ∷ i) rest z err parts
          (λ w g. goes_map (Listed lists Label) (NodeOf d) (0x4E ∷ i) (labels_on d x i si) err w g)
          (λ all w y o. let b = bind_ok (labels_at all w) (λ l. last_part d all x l.0 l.1) y (sym (behind_id d all x i w si) ∙ o) in
          (b.0, b.1)) (labels_fault total rest err fits q)
      by (inr r) =
          let t = labels_taken total rest r.0 fits r.1 in
          last_fault z x i r.0.0 t.front r.0.1 si t.spells (parts
          ∙ ap (λ (w : List ℕ). 0x4E ∷ w) (ap (λ (w : List ℕ). i ++ w) t.parts ∙ sym (append_assoc i t.front r.0.1))) t.rest_fits r.2

  id_stop : (z rest : List ℕ) → z ≡ 0x4E ∷ rest → IsBytes rest → id_part d total rest ≡ Err err → Stop z
  id_stop z rest parts fits e = by (split (id_at total rest) (λ i. labels_part d total i.0 i.1) err e)
    where
      by : (id_at total rest ≡ Err err) ⊎ ((i : ℤ × List ℕ) × (id_at total rest ≡ Ok i) × (labels_part d total i.0 i.1 ≡ Err err)) →
          Fault (GoesOn (NodeOf d)) (fields_reader d) total z err
      by (inl q) =
          passed (GoesOn SpellsInt) (GoesOn (NodeOf d)) id_at (fields_reader d) total (0x4E ∷ []) rest z err parts
          (λ w g. goes_map SpellsInt (NodeOf d) (0x4E ∷ []) (id_on d) err w g)
          (λ all w y o. let b = bind_ok (id_at all w) (λ i. labels_part d all i.0 i.1) y (sym (behind_tag d all w) ∙ o) in
          (b.0, b.1)) (id_fault total rest err fits q)
      by (inr r) = let t = id_taken total rest r.0 fits r.1 in
          labels_stop z r.0.0 t.front r.0.1 t.spells (parts ∙ ap (λ (w : List ℕ). 0x4E ∷ w) t.parts) t.rest_fits r.2

  pub fields_fault : (z : List ℕ) → IsBytes z → fields_at total (within total (suc d)) z ≡ Err err → Stop z
  unfolding fields_at tag_at
  fields_fault [] fits e = let same : Short ≡ err = cc in
      subst (λ (q : PackError). Fault (GoesOn (NodeOf d)) (fields_reader d) total [] q) same
      (short_fault (GoesOn (NodeOf d)) (fields_reader d) total [] (inl (no_node d)))
  fields_fault (t ∷ z) fits e = by (t == 0x4E) refl e
    where
      by : (b : Bool) → (t == 0x4E) ≡ b →
          (cond b (Ok z) (failed (BadMarker (total - length (t ∷ z)))) >>= λ after. id_part d total after) ≡ Err err →
          Fault (GoesOn (NodeOf d)) (fields_reader d) total (t ∷ z) err
      by true is o = id_stop (t ∷ z) z (ap (λ (q : ℕ). q ∷ z) (eqb-true t 0x4E is)) (IsBytes-rest t z fits) o
      by false is o =
          let same : BadMarker (total - length (t ∷ z)) ≡ err = cc in
          subst (λ (q : PackError). Fault (GoesOn (NodeOf d)) (fields_reader d) total (t ∷ z) q) same
          (one_fault (GoesOn (NodeOf d)) (fields_reader d) total t z (BadMarker (total - length (t ∷ z))) tt refl (inl (no_node d)) refl
          (λ all c y o. no_ok (BadMarker (all - length (t ∷ c))) (fields_at all (within all (suc d)) (t ∷ c)) y
          (ap (λ (q : Bool). cond q (Ok c) (failed (BadMarker (all - length (t ∷ c)))) >>= λ after. id_part d all after) is) o))

-- ---- what a marker begins

as_int : (d : ℕ) (z : List ℕ) → Open SpellsInt z → Open (Spelt d) z
as_int d z o = (o.0, v.Int o.1, s.int o.1 (z ++ o.0) o.2)

value_int : (d total m : ℕ) (bytes : List ℕ) (err : PackError) (w : Width) (limit : ℕ) → Wide w limit → (mark : ℕ) → m ≡ mark →
    ((n : ℕ) → n < limit → SpellsInt (cast_signed w n) (mark ∷ to_be_bytes w n))
    → IsBytes bytes → (integer_at w bytes >>= λ n. done {A = Value × List ℕ} (v.Int n.0, n.1)) ≡ Err err →
    Fault (GoesOn (Spelt d)) (value_reader d) total (m ∷ bytes) err
value_int d total m bytes err w limit wide mark sa spell fits e =
    by (split (integer_at w bytes) (λ n. done {A = Value × List ℕ} (v.Int n.0, n.1)) err e)
  where
    by : (integer_at w bytes ≡ Err err) ⊎ ((n : ℤ × List ℕ) × (integer_at w bytes ≡ Ok n)
        × (done {A = Value × List ℕ} (v.Int n.0, n.1) ≡ Err err)) → Fault (GoesOn (Spelt d)) (value_reader d) total (m ∷ bytes) err
    by (inl q) = int_fault (GoesOn (Spelt d)) (value_reader d) total m bytes err w limit wide mark sa spell
        (λ o. inl (as_int d (m ∷ bytes) o)) fits q
    by (inr r) = absurd (let no : done {A = Value × List ℕ} (v.Int r.0.0, r.0.1) ≡ Err err = r.2 in cc)

bytes_on : (d n : ℕ) (front : List ℕ) → IsWide bytes_mark n front → (z : List ℕ) → Open (HeldOf n) z → Open (Spelt d) (front ++ z)
bytes_on d n front hd z o =
    let is : (front ++ z) ++ o.0 ≡ front ++ o.1 = append_assoc front z o.0 ∙ ap (λ (q : List ℕ). front ++ q) o.2.1 in (
      o.0,
      v.Bytes o.1,
      subst (Spelt d (v.Bytes o.1)) (sym is)
          (s.bytes o.1 front (subst (λ (i : ℕ). IsWide bytes_mark i front) (sym o.2.0) hd)),
    )

bytes_cut : (d n : ℕ) (b more : List ℕ) → IsWide bytes_mark n (b ++ more) → Open (Spelt d) b
bytes_cut d n b more hd =
    let o = bytes_on d n (b ++ more) hd [] (bytes_fill n [] (omega arith)) in
    (more ++ o.0, o.1, subst (Spelt d o.1) (ap (λ (q : List ℕ). q ++ o.0) (append-nil (b ++ more)) ∙ append_assoc b more o.0) o.2)

as_text : (d : ℕ) (z : List ℕ) → Open SpellsText z → Open (Spelt d) z
as_text d z o = (o.0, v.Text o.1, s.text o.1 (z ++ o.0) o.2)

module _ (d total m : ℕ) (bytes : List ℕ) (err : PackError) where
  abbrev Stops : Type 0
  Stops = Fault (GoesOn (Spelt d)) (value_reader d) total (m ∷ bytes) err

  marked_so : (mark : Mark) → marker m ≡ mark → (all : ℕ) (z : List ℕ) →
      value_at all d (m ∷ z) ≡ by_mark all (within all d) (all - length (m ∷ z)) mark z
  unfolding value_with
  marked_so mark mk all z = ap (λ (q : Mark). by_mark all (within all d) (all - length (m ∷ z)) q z) mk

  value_bytes : (size : Size) → marker m ≡ k.Bytes size → WideSays bytes_mark m size → IsBytes bytes →
      value_at total d (m ∷ bytes) ≡ Err err → Stops
  value_bytes size mk sa fits e =
      let K : ℕ → Reader Value = λ n all z. bytes_at n z >>= λ t. Ok (v.Bytes t.0, t.1) in
      sized_fault (GoesOn (Spelt d)) (value_reader d) K m size (IsWide bytes_mark) (bytes_heading m size sa)
      (λ all z. marked_so (k.Bytes size) mk all z) (λ at. inl (null_open d))
      (λ z more n hd. inl (bytes_cut d n (m ∷ z) more hd)) (λ n q z. Open (HeldOf n) z)
      (λ n front hd all z q fit o. wrapped (λ q z. Open (HeldOf n) z) (λ all z. bytes_at n z) (λ t. (
        v.Bytes t.0,
        t.1,
      )) all z q o (λ p. bytes_fault n all z q p))
      (λ n front hd q z o. inl (bytes_on d n front hd z o)) total bytes err fits e

  value_text : (size : Size) → marker m ≡ k.Text size → SizeSays texts m size → IsBytes bytes →
      value_at total d (m ∷ bytes) ≡ Err err → Stops
  value_text size mk sa fits e =
      let K : ℕ → Reader Value = λ n all z. text_reader n all z >>= λ t. Ok (v.Text t.0, t.1) in
      sized_fault (GoesOn (Spelt d)) (value_reader d) K m size (IsHead texts) (kind_heading texts m size sa)
      (λ all z. marked_so (k.Text size) mk all z) (λ at. inl (null_open d))
      (λ z more n hd. inl (as_text d (m ∷ z) (spelled_cut n (m ∷ z) more hd))) TextGoes
      (λ n front hd all z q fit o. wrapped (TextGoes n) (text_reader n) (λ t. (v.Text t.0, t.1)) all z q o (λ p. text_fault n all z q p))
      (λ n front hd q z g. inl (as_text d (front ++ z) (spelled_on n front hd z g.1))) total bytes err fits e

  -- a refusal at the marker itself
  at_marker : (mark : Mark) → marker m ≡ mark → (refused : ℕ → PackError) → ((n : ℕ) → AtMarker (refused n)) →
      ((n : ℕ) → PlacedAt (refused n) n) → ((n : ℕ) → Shaped (refused n) (m ∷ []))
      → ((all : ℕ) (z : List ℕ) → by_mark all (within all d) (all - length (m ∷ z)) mark z ≡ Err (refused (all - length (m ∷ z)))) →
      value_at total d (m ∷ bytes) ≡ Err err → Stops
  at_marker mark mk refused hard place shape h e =
      let at = total - length (m ∷ bytes) in
      let first : failed {A = Value × List ℕ} (refused at) ≡ Err err = sym (h total bytes) ∙ sym (marked_so mark mk total bytes) ∙ e in
      let same : refused at ≡ err = cc in
      subst (λ (q : PackError). Fault (GoesOn (Spelt d)) (value_reader d) total (m ∷ bytes) q) same
      (one_fault (GoesOn (Spelt d)) (value_reader d) total m bytes (refused at) (hard at) (place at) (inl (null_open d)) (shape at)
      (λ all c y o. no_ok (refused (all - length (m ∷ c))) (value_at all d (m ∷ c)) y (marked_so mark mk all c ∙ h all c) o))

  too_deep : (mark : Mark) → marker m ≡ mark → ((all : ℕ) (z : List ℕ) →
      by_mark all (within all d) (all - length (m ∷ z)) mark z ≡ Err (TooDeep (all - length (m ∷ z)))) →
      value_at total d (m ∷ bytes) ≡ Err err → Stops
  too_deep mark mk h e = at_marker mark mk (λ n. TooDeep n) (λ n. tt) (λ n. refl) (λ n. refl) h e

-- what may hold values at a depth
pub record HoldsStop (d : ℕ) : Type 0 where
  pub list : (total m : ℕ) (bytes : List ℕ) (err : PackError) (size : Size) → marker m ≡ k.List size → SizeSays lists m size →
      IsBytes bytes → value_at total d (m ∷ bytes) ≡ Err err → Stops d total m bytes err
  pub dict : (total m : ℕ) (bytes : List ℕ) (err : PackError) (size : Size) → marker m ≡ k.Dict size → SizeSays dicts m size →
      IsBytes bytes → value_at total d (m ∷ bytes) ≡ Err err → Stops d total m bytes err
  pub node : (total m : ℕ) (bytes : List ℕ) (err : PackError) → marker m ≡ k.Node → m ≡ 0xB3 → IsBytes bytes →
      value_at total d (m ∷ bytes) ≡ Err err → Stops d total m bytes err

-- it is read, so there is no refusal
abbrev Unrefused : {A : Type 0} → A → PackError → Type 0
Unrefused x err = done x ≡ Err err

none_refused : {A : Type 0} (x : A) (err : PackError) → Unrefused x err → ⊥
none_refused x err e = cc

value_by : (d : ℕ) → HoldsStop d → (total m : ℕ) (bytes : List ℕ) (err : PackError) (mark : Mark) → marker m ≡ mark → Says m mark →
    IsBytes bytes → value_at total d (m ∷ bytes) ≡ Err err → Stops d total m bytes err
value_by d h total m bytes err k.Null mk sa fits e = absurd (none_refused (
  v.Null,
  bytes,
) err (sym (marked_so d total m bytes err k.Null mk total bytes) ∙ e))
value_by d h total m bytes err (k.Bool b) mk sa fits e = absurd (none_refused (
  v.Bool b,
  bytes,
) err (sym (marked_so d total m bytes err (k.Bool b) mk total bytes) ∙ e))
value_by d h total m bytes err (k.Small z) mk sa fits e = absurd (none_refused (
  v.Int z,
  bytes,
) err (sym (marked_so d total m bytes err (k.Small z) mk total bytes) ∙ e))
value_by d h total m bytes err k.Int1 mk sa fits e =
    value_int d total m bytes err w8 (2 ^ 8) wide8 0xC8 sa s.int1 fits (sym (marked_so d total m bytes err k.Int1 mk total bytes) ∙ e)
value_by d h total m bytes err k.Int2 mk sa fits e =
    value_int d total m bytes err w16 (2 ^ 16) wide16 0xC9 sa s.int2 fits (sym (marked_so d total m bytes err k.Int2 mk total bytes) ∙ e)
value_by d h total m bytes err k.Int4 mk sa fits e =
    value_int d total m bytes err w32 (2 ^ 32) wide32 0xCA sa s.int4 fits (sym (marked_so d total m bytes err k.Int4 mk total bytes) ∙ e)
value_by d h total m bytes err k.Int8 mk sa fits e =
    value_int d total m bytes err w64 (2 ^ 64) wide64 0xCB sa s.int8 fits (sym (marked_so d total m bytes err k.Int8 mk total bytes) ∙ e)
value_by d h total m bytes err (k.Bytes size) mk sa fits e = value_bytes d total m bytes err size mk sa fits e
value_by d h total m bytes err (k.Text size) mk sa fits e = value_text d total m bytes err size mk sa fits e
value_by d h total m bytes err (k.List size) mk sa fits e = h.list total m bytes err size mk sa fits e
value_by d h total m bytes err (k.Dict size) mk sa fits e = h.dict total m bytes err size mk sa fits e
value_by d h total m bytes err k.Node mk sa fits e = h.node total m bytes err mk sa fits e
value_by d h total m bytes err k.Float mk sa fits e =
    at_marker d total m bytes err k.Float mk (λ n. refusal.Float n) (λ n. tt) (λ n. refl)
    (λ n. ap (λ (q : ℕ). q ∷ []) (float_is m mk)) (λ all z. refl) e
value_by d h total m bytes err k.Bad mk sa fits e =
    at_marker d total m bytes err k.Bad mk (λ n. BadMarker n) (λ n. tt) (λ n. refl) (λ n. refl) (λ all z. refl) e

value_fault : (d : ℕ) → HoldsStop d → Finds d
unfolding value_with
value_fault d h total [] err fits e = let same : Short ≡ err = cc in
    subst (λ (q : PackError). Fault (GoesOn (Spelt d)) (value_reader d) total [] q) same
    (short_fault (GoesOn (Spelt d)) (value_reader d) total [] (inl (null_open d)))
value_fault d h total (m ∷ bytes) err fits e =
    value_by d h total m bytes err (marker m) refl (says m (fits 0)) (IsBytes-rest m bytes fits) e

as_node : (d : ℕ) (z : List ℕ) → Open (NodeOf d) z → Open (Spelt (suc (suc d))) ((0xB3 ∷ []) ++ z)
unfolding levels
as_node d z o = (o.0, v.Node o.1, s.node o.1 (0xB3 ∷ (z ++ o.0)) o.2)

value_node : (d all : ℕ) (z : List ℕ) → value_at all (suc (suc d)) (0xB3 ∷ z) ≡
    (fields_at all (within all (suc d)) z >>= λ n. Ok (v.Node n.0, n.1))
unfolding value_with within marker
value_node d all z = refl

node_fault : (d : ℕ) → Finds d → (total m : ℕ) (bytes : List ℕ) (err : PackError) → m ≡ 0xB3 → IsBytes bytes →
    value_at total (suc (suc d)) (m ∷ bytes) ≡ Err err → Stops (suc (suc d)) total m bytes err
node_fault d finds total m bytes err is fits e =
    by (split (fields_at total (within total (suc d)) bytes) (λ n. done {A = Value × List ℕ} (
      v.Node n.0,
      n.1,
    )) err (sym (value_node d total bytes) ∙ first))
  where
    first : value_at total (suc (suc d)) (0xB3 ∷ bytes) ≡ Err err
    first = subst (λ (q : ℕ). value_at total (suc (suc d)) (q ∷ bytes) ≡ Err err) is e

    by : (fields_at total (within total (suc d)) bytes ≡ Err err)
        ⊎ ((n : NodeValue × List ℕ) × (fields_at total (within total (suc d)) bytes ≡ Ok n)
        × (done {A = Value × List ℕ} (v.Node n.0, n.1) ≡ Err err)) → Stops (suc (suc d)) total m bytes err
    by (inl q) =
        passed (GoesOn (NodeOf d)) (GoesOn (Spelt (suc (suc d)))) (fields_reader d) (value_reader (suc (suc d))) total
        (0xB3 ∷ []) bytes (m ∷ bytes) err (ap (λ (q : ℕ). q ∷ bytes) is)
        (λ w g. goes_map (NodeOf d) (Spelt (suc (suc d))) (0xB3 ∷ []) (as_node d) err w g)
        (λ all w y o. let b = bind_ok (fields_at all (within all (suc d)) w) (λ n. done {A = Value × List ℕ} (
          v.Node n.0,
          n.1,
        )) y (sym (value_node d all w) ∙ o) in (b.0, b.1)) (fields_fault d finds total err bytes fits q)
    by (inr r) = absurd (let no : done {A = Value × List ℕ} (v.Node r.0.0, r.0.1) ≡ Err err = r.2 in cc)

abbrev NodeStops : ℕ → Type 0
NodeStops d = (total m : ℕ) (bytes : List ℕ) (err : PackError) → marker m ≡ k.Node → m ≡ 0xB3 → IsBytes bytes →
    value_at total d (m ∷ bytes) ≡ Err err → Stops d total m bytes err

holds_none : HoldsStop 0
unfolding within
holds_none = record {
  list = λ total m bytes err size mk sa fits e. too_deep 0 total m bytes err (k.List size) mk (λ all z. refl) e;
  dict = λ total m bytes err size mk sa fits e. too_deep 0 total m bytes err (k.Dict size) mk (λ all z. refl) e;
  node = λ total m bytes err mk sa fits e. too_deep 0 total m bytes err k.Node mk (λ all z. refl) e;
}

holds_more : (d : ℕ) → Finds d → NodeStops (suc d) → HoldsStop (suc d)
holds_more d finds nodes = record { list = list_fault d finds; dict = dict_fault d finds; node = nodes }

abbrev Before : ℕ → Type 0
Before zero = Unit {0}
Before (suc d) = Finds d

nodes_at : (d : ℕ) → Before d → NodeStops (suc d)
unfolding within
nodes_at zero finds total m bytes err mk sa fits e = too_deep 1 total m bytes err k.Node mk (λ all z. refl) e
nodes_at (suc d) finds total m bytes err mk sa fits e = node_fault d finds total m bytes err sa fits e

both_find : (d : ℕ) → Finds d × Before d
both_find zero = (value_fault 0 holds_none, tt)
both_find (suc d) = let b = both_find d in (value_fault (suc d) (holds_more d b.0 (nodes_at d b.1)), b.0)

pub finds_value : (d : ℕ) → Finds d
finds_value d = (both_find d).0

-- What is spelled so is read, whatever follows.
use Rattle.std.proofs.Common.{◌≡◌, ℕ, zero, suc, ◌+◌, ◌-◌, ◌^◌, ◌≤◌, Bool, true, false, not, ◌&&◌, IsTrue, ltb, List, [], ◌∷◌, ◌++◌}
use Rattle.std.proofs.Common.{length, take, drop, Ok, refl, ap, ◌∙◌, append_assoc, arith}
use Rattle.std.specs.Prelude.{ℤ, IsUtf8, nat_lt}
use Rattle.std.specs.Int.{w8, w16, w32, w64, from_be_bytes, to_be_bytes}
use Rattle.std.specs.List.{list_any}
use Rattle.std.specs.Str.{bytes_eq}
use Rattle.std.proofs.lemmas.Bool.{le-ltb}
use Rattle.std.proofs.lemmas.List.{take_at, drop_at, length-append}
use Rattle.ncc_pack.specs.declared.value.Value.{Value}
use Rattle.ncc_pack.specs.declared.value.Value.TheVariants as v
use Rattle.ncc_pack.specs.declared.value.NodeValue.{NodeValue}
use Rattle.ncc_pack.specs.declared.mark.Mark.{Mark}
use Rattle.ncc_pack.specs.declared.mark.Mark.TheVariants as k
use Rattle.ncc_pack.specs.declared.mark.Size.{Size}
use Rattle.ncc_pack.specs.declared.mark.Size.TheVariants.{Here, One, Two, Four}
use Rattle.ncc_pack.specs.Limits.{max_size}
use Rattle.ncc_pack.specs.Keys.{distinct}
use Rattle.ncc_pack.specs.Marker.{marker}
use Rattle.ncc_pack.specs.Reading.{Read, Holders, size_at, bytes_at, text_at, id_at, label_at, key_at, items_at, pairs_at, value_with}
use Rattle.ncc_pack.specs.Reading.{labels_at, props_at, tag_at, fields_at, list_of, dict_of, within, value_at}
use Rattle.ncc_pack.specs.Spells.{texts, lists, dicts, bytes_mark, IsWide, IsHead, SpellsInt, SpellsText, Each, Listed, Pair, Label}
use Rattle.ncc_pack.specs.Spells.{Holding, Spells, Fields, levels}
use Rattle.ncc_pack.specs.Spells as s
use Rattle.ncc_pack.proofs.Fields.{wide8, wide16, wide32, wide64, number_again}
use Rattle.ncc_pack.proofs.Marks as marks
use Rattle.ncc_pack.proofs.Texts.{text_whole}

-- ---- sizes

-- the bytes before a size are a marker, and the size behind it
pub record Heads (of : Size → Mark) (n : ℕ) (h : List ℕ) : Type 0 where
  pub mark : ℕ
  pub size : Size
  pub more : List ℕ
  pub is : h ≡ mark ∷ more
  pub marks : marker mark ≡ of size
  pub reads : (at : ℕ) (rest : List ℕ) → size_at at size (more ++ rest) ≡ Ok (n, rest)

pub four_again : (n at : ℕ) (rest : List ℕ) → n ≤ max_size → size_at at Four (to_be_bytes w32 n ++ rest) ≡ Ok (n, rest)
unfolding size_at
four_again n at rest le =
    let b = to_be_bytes w32 n in
    let front : take 4 ((b ++ rest) ++ 0 ∷ 0 ∷ 0 ∷ 0 ∷ []) ≡ b = refl in
    let value : from_be_bytes w32 b ≡ n = wide32.again n (omega arith) in
    let short : nat_lt max_size n ≡ false = le-ltb _ _ le in
    let long : ltb (suc (suc (suc (suc (length rest))))) 4 ≡ false = le-ltb _ _ (omega arith) in
    rw (value, short, long) refl

wide_head : (of : Size → Mark) (mark n : ℕ) (h : List ℕ) → marker mark ≡ of One → marker (mark + 1) ≡ of Two → marker (mark + 2) ≡ of Four
    → IsWide mark n h → Heads of n h
unfolding size_at
wide_head of mark n _ m1 m2 m4 (s.one lt) = record {
  mark = mark;
  size = One;
  more = to_be_bytes w8 n;
  is = refl;
  marks = m1;
  reads =
      λ at rest. number_again w8 (2 ^ 8) wide8 n rest lt;
}
wide_head of mark n _ m1 m2 m4 (s.two lt) = record {
  mark = mark + 1;
  size = Two;
  more = to_be_bytes w16 n;
  is = refl;
  marks = m2;
  reads =
      λ at rest. number_again w16 (2 ^ 16) wide16 n rest lt;
}
wide_head of mark n _ m1 m2 m4 (s.four le) = record {
  mark = mark + 2;
  size = Four;
  more = to_be_bytes w32 n;
  is = refl;
  marks =
      m4;
  reads = λ at rest. four_again n at rest le;
}

pub bytes_head : (n : ℕ) (h : List ℕ) → IsWide bytes_mark n h → Heads k.Bytes n h
unfolding marker
bytes_head n h w = wide_head k.Bytes 0xCC n h refl refl refl w

pub text_head : (n : ℕ) (h : List ℕ) → IsHead texts n h → Heads k.Text n h
unfolding size_at marker
text_head n _ (s.tiny lt) = record {
  mark = 0x80 + n;
  size = Here n;
  more = [];
  is = refl;
  marks = marks.text_tiny n lt;
  reads =
      λ at rest. refl;
}
text_head n _ (s.wide h w) = wide_head k.Text 0xD0 n h refl refl refl w

pub list_head : (n : ℕ) (h : List ℕ) → IsHead lists n h → Heads k.List n h
unfolding size_at marker
list_head n _ (s.tiny lt) = record {
  mark = 0x90 + n;
  size = Here n;
  more = [];
  is = refl;
  marks = marks.list_tiny n lt;
  reads =
      λ at rest. refl;
}
list_head n _ (s.wide h w) = wide_head k.List 0xD4 n h refl refl refl w

pub dict_head : (n : ℕ) (h : List ℕ) → IsHead dicts n h → Heads k.Dict n h
unfolding size_at marker
dict_head n _ (s.tiny lt) = record {
  mark = 0xA0 + n;
  size = Here n;
  more = [];
  is = refl;
  marks = marks.dict_tiny n lt;
  reads =
      λ at rest. refl;
}
dict_head n _ (s.wide h w) = wide_head k.Dict 0xD8 n h refl refl refl w

-- ---- integers, bytes and texts

pub id_again : (total : ℕ) (z : ℤ) (b rest : List ℕ) → SpellsInt z b → id_at total (b ++ rest) ≡ Ok (z, rest)
unfolding id_at marker
id_again total _ _ rest (s.positive n lt) = rw (marks.positive n lt) refl
id_again total _ _ rest (s.negative n lt) = rw (marks.negative n lt) refl
id_again total _ _ rest (s.int1 n lt) = rw (number_again w8 (2 ^ 8) wide8 n rest lt) refl
id_again total _ _ rest (s.int2 n lt) = rw (number_again w16 (2 ^ 16) wide16 n rest lt) refl
id_again total _ _ rest (s.int4 n lt) = rw (number_again w32 (2 ^ 32) wide32 n rest lt) refl
id_again total _ _ rest (s.int8 n lt) = rw (number_again w64 (2 ^ 64) wide64 n rest lt) refl

int_again : (total : ℕ) (hold : Holders) (z : ℤ) (b rest : List ℕ) → SpellsInt z b → value_with total hold (b ++ rest) ≡ Ok (v.Int z, rest)
unfolding value_with marker
int_again total hold _ _ rest (s.positive n lt) = rw (marks.positive n lt) refl
int_again total hold _ _ rest (s.negative n lt) = rw (marks.negative n lt) refl
int_again total hold _ _ rest (s.int1 n lt) = rw (number_again w8 (2 ^ 8) wide8 n rest lt) refl
int_again total hold _ _ rest (s.int2 n lt) = rw (number_again w16 (2 ^ 16) wide16 n rest lt) refl
int_again total hold _ _ rest (s.int4 n lt) = rw (number_again w32 (2 ^ 32) wide32 n rest lt) refl
int_again total hold _ _ rest (s.int8 n lt) = rw (number_again w64 (2 ^ 64) wide64 n rest lt) refl

held_again : (t rest : List ℕ) → bytes_at (length t) (t ++ rest) ≡ Ok (t, rest)
unfolding bytes_at
held_again t rest =
    let long : ltb (length (t ++ rest)) (length t) ≡ false = le-ltb _ _ (omega (arith, length-append t rest)) in
    rw (long, take_at t rest (length t) refl, drop_at t rest (length t) refl) refl

text_again : (total : ℕ) (t rest : List ℕ) → IsUtf8 t → text_at total (length t) (t ++ rest) ≡ Ok (t, rest)
text_again total t rest utf8 =
    let f : take (length t) (t ++ rest) ≡ t = take_at t rest (length t) refl in
    let b : drop (length t) (t ++ rest) ≡ rest = drop_at t rest (length t) refl in
    text_whole total (length t) (t ++ rest) (omega (arith, length-append t rest)) (rw f utf8) ∙ rw (f, b) refl

-- a text is a marker, a size and its bytes
abbrev Texted : ℕ → List ℕ → List ℕ → Type 0
Texted total t b = (m : ℕ) × (size : Size) × (more : List ℕ) × (b ≡ m ∷ more) × (marker m ≡ k.Text size)
    × ((at : ℕ) (rest : List ℕ) → (after : List ℕ) × (size_at at size (more ++ rest) ≡ Ok (length t, after))
    × (text_at total (length t) after ≡ Ok (t, rest)))

texted : (total : ℕ) (t b : List ℕ) → SpellsText t b → Texted total t b
texted total t b sp =
    let hd = text_head (length t) sp.0 sp.1 in (
      hd.mark,
      hd.size,
      hd.more ++ t,
      sp.3 ∙ ap (λ (z : List ℕ). z ++ t) hd.is,
      hd.marks,
      λ at rest. (t ++ rest, ap (size_at at hd.size) (append_assoc hd.more t rest) ∙ hd.reads at (t ++ rest), text_again total t rest sp.2),
    )

pub key_again : (total : ℕ) (t b rest : List ℕ) → SpellsText t b → key_at total (b ++ rest) ≡ Ok (t, rest)
unfolding key_at
key_again total t b rest sp =
    let x = texted total t b sp in
    ap (λ (z : List ℕ). key_at total (z ++ rest)) x.3 ∙ (let r = x.5 (total - length ((x.0 ∷ x.2) ++ rest)) rest in rw (x.4, r.1, r.2) refl)

pub label_again : (total : ℕ) (x : Value) (b rest : List ℕ) → Label x b → label_at total (b ++ rest) ≡ Ok (x, rest)
unfolding label_at
label_again total _ _ rest (s.label t b sp) =
    let x = texted total t b sp in
    ap (λ (z : List ℕ). label_at total (z ++ rest)) x.3 ∙ (let r =
    x.5 (total - length ((x.0 ∷ x.2) ++ rest)) rest in rw (x.4, r.1, r.2) refl)

value_text_again : (total : ℕ) (hold : Holders) (t b rest : List ℕ) → SpellsText t b
    → value_with total hold (b ++ rest) ≡ Ok (v.Text t, rest)
unfolding value_with
value_text_again total hold t b rest sp =
    let x = texted total t b sp in
    ap (λ (z : List ℕ). value_with total hold (z ++ rest)) x.3
    ∙ (let r = x.5 (total - length ((x.0 ∷ x.2) ++ rest)) rest in rw (x.4, r.1, r.2) refl)

value_bytes_again : (total : ℕ) (hold : Holders) (t h rest : List ℕ) → IsWide bytes_mark (length t) h
    → value_with total hold ((h ++ t) ++ rest) ≡ Ok (v.Bytes t, rest)
unfolding value_with
value_bytes_again total hold t h rest w =
    let hd = bytes_head (length t) h w in
    let e : (h ++ t) ++ rest ≡ hd.mark ∷ (hd.more ++ (t ++ rest)) = append_assoc h t rest ∙ ap (λ (z : List ℕ). z ++ (t ++ rest)) hd.is in
    ap (value_with total hold) e ∙ rw (
      hd.marks,
      hd.reads (total - length (hd.mark ∷ (hd.more ++ (t ++ rest))))
          (t ++ rest),
      held_again t rest,
    ) refl

-- ---- what holds values

-- what is spelled with a marker and a size is read again
abbrev pub SizedAgain : {A : Type 0} → (Size → Mark) → (ℕ → Size → List ℕ → Read A) → (A → List ℕ → Type 0) → Type 0
SizedAgain of read spelled = (x : _) (b : List ℕ) → spelled x b → (m : ℕ) × (size : Size) × (more : List ℕ) × (b ≡ m ∷ more)
    × (marker m ≡ of size)
    × ((at : ℕ) (rest : List ℕ) → read at size (more ++ rest) ≡ Ok (x, rest))

abbrev pub NodeAgain : (ℕ → List ℕ → Read NodeValue) → (NodeValue → List ℕ → Type 0) → Type 0
NodeAgain read spelled = (n : NodeValue) (b : List ℕ) → spelled n b → (more : List ℕ) × (b ≡ 0xB3 ∷ more)
    × ((at : ℕ) (rest : List ℕ) → read at (more ++ rest) ≡ Ok (n, rest))

pub record Again (read : Holders) (spelled : Holding) : Type 0 where
  pub list : SizedAgain k.List read.list spelled.list
  pub dict : SizedAgain k.Dict read.dict spelled.dict
  pub node : NodeAgain read.node spelled.node

again_with : (total : ℕ) (read : Holders) (spelled : Holding) → Again read spelled → (x : Value) (b rest : List ℕ) → Spells spelled x b
    → value_with total read (b ++ rest) ≡ Ok (x, rest)
unfolding value_with marker
again_with total read spelled h _ _ rest s.null = refl
again_with total read spelled h _ _ rest s.no = refl
again_with total read spelled h _ _ rest s.yes = refl
again_with total read spelled h _ _ rest (s.int z b sp) = int_again total read z b rest sp
again_with total read spelled h _ _ rest (s.bytes t head w) = value_bytes_again total read t head rest w
again_with total read spelled h _ _ rest (s.text t b sp) = value_text_again total read t b rest sp
again_with total read spelled h _ _ rest (s.list xs b sp) =
    let r = h.list xs b sp in
    ap (λ (z : List ℕ). value_with total read (z ++ rest)) r.3 ∙ rw (r.4, r.5 (total - length ((r.0 ∷ r.2) ++ rest)) rest) refl
again_with total read spelled h _ _ rest (s.dict ps b sp) =
    let r = h.dict ps b sp in
    ap (λ (z : List ℕ). value_with total read (z ++ rest)) r.3 ∙ rw (r.4, r.5 (total - length ((r.0 ∷ r.2) ++ rest)) rest) refl
again_with total read spelled h _ _ rest (s.node n b sp) =
    let r = h.node n b sp in
    ap (λ (z : List ℕ). value_with total read (z ++ rest)) r.1 ∙ rw (r.2 (total - length ((0xB3 ∷ r.0) ++ rest)) rest) refl

items_again : {A : Type 0} (one : List ℕ → Read A) (R : A → List ℕ → Type 0)
    → ((x : A) (b rest : List ℕ) → R x b → one (b ++ rest) ≡ Ok (x, rest))
    → (xs : List A) (b rest : List ℕ) → Each R xs b → items_at one (length xs) (b ++ rest) ≡ Ok (xs, rest)
unfolding items_at
items_again one R h [] b rest each = ap (λ (z : List ℕ). Ok ([], z ++ rest)) each
items_again one R h (x ∷ xs) b rest each =
    let c = each.0 in
    let more = each.1 in
    let e : b ++ rest ≡ c ++ (more ++ rest) = ap (λ (z : List ℕ). z ++ rest) each.4 ∙ append_assoc c more rest in
    ap (items_at one (suc (length xs))) e ∙ rw (h x c (more ++ rest) each.2, items_again one R h xs more rest each.3) refl

-- neither the key nor one behind it repeats
new_key : (a b : Bool) → IsTrue (not a && b) → (a ≡ false) × IsTrue b
new_key true b h = absurd (let e : false ≡ true = h in cc)
new_key false b h = (refl, h)

pairs_again : (total : ℕ) (value : List ℕ → Read Value) (R : Value → List ℕ → Type 0)
    → ((x : Value) (b rest : List ℕ) → R x b → value (b ++ rest) ≡ Ok (x, rest))
    → (earlier : List (List ℕ)) (ps : List (List ℕ × Value)) (b rest : List ℕ) → Each (Pair R) ps b → IsTrue (distinct earlier ps)
    → pairs_at total value earlier (length ps) (b ++ rest) ≡ Ok (ps, rest)
unfolding pairs_at
pairs_again total value R h earlier [] b rest each new = ap (λ (z : List ℕ). Ok ([], z ++ rest)) each
pairs_again total value R h earlier (p ∷ ps) b rest each new =
    let one = each.2 in
    let key = one.0 in
    let spelled = one.1 in
    let more = each.1 in
    let n = new_key (list_any (bytes_eq p.0) earlier) (distinct (earlier ++ p.0 ∷ []) ps) new in
    let e : b ++ rest ≡ key ++ (spelled ++ (more ++ rest)) =
    ap (λ (z : List ℕ). z ++ rest) each.4 ∙ append_assoc each.0 more rest ∙ ap (λ (z : List ℕ). z ++ (more ++ rest)) one.4
    ∙ append_assoc key spelled (more ++ rest) in
    ap (pairs_at total value earlier (suc (length ps))) e
    ∙ rw (
      key_again total p.0 key (spelled ++ (more ++ rest)) one.2,
      n.0,
      h p.1 spelled (more ++ rest) one.3,
      pairs_again total value R h
          (earlier ++ p.0 ∷ []) ps more rest each.3 n.1,
    ) refl

list_again : (total : ℕ) (inside : Holders) (R : Value → List ℕ → Type 0)
    → ((x : Value) (b rest : List ℕ) → R x b → value_with total inside (b ++ rest) ≡ Ok (x, rest))
    → SizedAgain k.List (list_of total inside) (Listed lists R)
unfolding list_of
list_again total inside R h xs b sp =
    let hd = list_head (length xs) sp.0 sp.2 in
    let items = sp.1 in (
      hd.mark,
      hd.size,
      hd.more ++ items,
      sp.4 ∙ ap (λ (z : List ℕ). z ++ items) hd.is,
      hd.marks,
      λ at rest. rw (append_assoc hd.more items rest, hd.reads at (items ++ rest))
          (items_again (value_with total inside) R h xs items rest sp.3),
    )

dict_again : (total : ℕ) (inside : Holders) (R : Value → List ℕ → Type 0)
    → ((x : Value) (b rest : List ℕ) → R x b → value_with total inside (b ++ rest) ≡ Ok (x, rest))
    → SizedAgain k.Dict (dict_of total inside) (λ ps b. Listed dicts (Pair R) ps b × IsTrue (distinct [] ps))
unfolding dict_of
dict_again total inside R h ps b both =
    let sp = both.0 in
    let hd = dict_head (length ps) sp.0 sp.2 in
    let items = sp.1 in (
      hd.mark,
      hd.size,
      hd.more ++ items,
      sp.4 ∙ ap (λ (z : List ℕ). z ++ items) hd.is,
      hd.marks,
      λ at rest. rw (append_assoc hd.more items rest, hd.reads at (items ++ rest))
          (pairs_again total (value_with total inside) R h [] ps items rest sp.3 both.1),
    )

-- ---- nodes

pub labels_again : (total : ℕ) (xs : List Value) (b rest : List ℕ) → Listed lists Label xs b → labels_at total (b ++ rest) ≡ Ok (xs, rest)
unfolding labels_at
labels_again total xs b rest sp =
    let hd = list_head (length xs) sp.0 sp.2 in
    let items = sp.1 in
    let e : b ++ rest ≡ hd.mark ∷ (hd.more ++ (items ++ rest)) =
    ap (λ (z : List ℕ). z ++ rest) sp.4 ∙ append_assoc sp.0 items rest ∙ ap (λ (z : List ℕ). z ++ (items ++ rest)) hd.is in
    ap (labels_at total) e
    ∙ rw (hd.marks, hd.reads (total - length (hd.mark ∷ (hd.more ++ (items ++ rest)))) (items ++ rest))
    (items_again (label_at total) Label (label_again total) xs items rest sp.3)

props_again : (total : ℕ) (inside : Holders) (spelled : List (List ℕ × Value) → List ℕ → Type 0) → SizedAgain k.Dict inside.dict spelled
    → (ps : List (List ℕ × Value)) (b rest : List ℕ) → spelled ps b → props_at total inside (b ++ rest) ≡ Ok (ps, rest)
unfolding props_at
props_again total inside spelled h ps b rest sp =
    let r = h ps b sp in
    ap (λ (z : List ℕ). props_at total inside (z ++ rest)) r.3 ∙ rw r.4 (r.5 (total - length ((r.0 ∷ r.2) ++ rest)) rest)

fields_again : (total : ℕ) (inside : Holders) (spelled : Holding) → SizedAgain k.Dict inside.dict spelled.dict
    → (n : NodeValue) (b : List ℕ) → Fields spelled n b → (more : List ℕ) × (b ≡ 0xB3 ∷ more)
    × ((rest : List ℕ) → fields_at total inside (more ++ rest) ≡ Ok (n, rest))
unfolding fields_at tag_at
fields_again total inside spelled h n b sp =
    let i = sp.0 in
    let l = sp.1 in
    let p = sp.2 in (
      0x4E ∷ ((i ++ l) ++ p),
      sp.6,
      λ rest.
          let e : ((i ++ l) ++ p) ++ rest ≡ i ++ (l ++ (p ++ rest)) = append_assoc (i ++ l) p rest ∙ append_assoc i l (p ++ rest) in
          rw (
            e,
            id_again total n.id i (l ++ (p ++ rest)) sp.3,
            labels_again total n.labels l
                (p ++ rest) sp.4,
            props_again total inside spelled.dict h n.props p rest sp.5,
          ) refl,
    )

node_again : (total d : ℕ) → SizedAgain k.Dict (within total d).dict (levels d).dict
    → NodeAgain (within total (suc d)).node (levels (suc d)).node
unfolding within levels
node_again total zero h n b sp = absurd sp
node_again total (suc d) h n b sp =
    let f = fields_again total (within total (suc d)) (levels (suc d)) h n b sp in
    (f.0, f.1, λ at rest. f.2 rest)

levels_again : (total d : ℕ) → Again (within total d) (levels d)
unfolding within levels
levels_again total zero = record { list = λ xs b sp. absurd sp; dict = λ ps b sp. absurd sp; node = λ n b sp. absurd sp }
levels_again total (suc d) =
    let inside = levels_again total d in
    let one = again_with total (within total d) (levels d) inside in
    record {
      list = list_again total (within total d) (Spells (levels d)) one;
      dict = dict_again total (within total d) (Spells (levels d)) one;
      node = node_again total d inside.dict;
    }

pub value_again : (total d : ℕ) (x : Value) (b rest : List ℕ) → Spells (levels d) x b → value_at total d (b ++ rest) ≡ Ok (x, rest)
value_again total d x b rest sp = again_with total (within total d) (levels d) (levels_again total d) x b rest sp

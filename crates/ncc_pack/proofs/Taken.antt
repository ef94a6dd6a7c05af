-- What is read is spelled so.
use Rattle.std.proofs.Common.{◌≡◌, ℕ, zero, suc, ◌+◌, ◌-◌, ◌^◌, ◌<◌, ◌≤◌, Bool, true, false, not, ◌&&◌, IsTrue, cond, eqb, List, [], ◌∷◌}
use Rattle.std.proofs.Common.{◌++◌, length, take, drop, Result, Ok, Err, refl, sym, ap, subst, ◌∙◌, append_assoc, arith}
use Rattle.std.specs.Prelude.{ℤ, pos, negsuc, IsUtf8, nat_lt, ◌==◌}
use Rattle.std.specs.Int.{Width, w8, w16, w32, w64, from_be_bytes, to_be_bytes, cast_signed}
use Rattle.std.specs.List.{list_any}
use Rattle.std.specs.Str.{bytes_eq}
use Rattle.std.specs.Str.Lossy.{utf8_valid_len}
use Rattle.std.proofs.lemmas.Bool.{ltb-false, eqb-true}
use Rattle.std.proofs.lemmas.List.{take-append-drop, length-take}
use Rattle.ncc_pack.specs.declared.value.Value.{Value}
use Rattle.ncc_pack.specs.declared.value.Value.TheVariants as v
use Rattle.ncc_pack.specs.declared.value.NodeValue.{NodeValue}
use Rattle.ncc_pack.specs.declared.error.PackError.{PackError}
use Rattle.ncc_pack.specs.declared.error.PackError.TheVariants.{Short, TooLong, BadUtf8, BadMarker, RepeatedKey}
use Rattle.ncc_pack.specs.declared.mark.Mark.{Mark}
use Rattle.ncc_pack.specs.declared.mark.Mark.TheVariants as k
use Rattle.ncc_pack.specs.declared.mark.Size.{Size}
use Rattle.ncc_pack.specs.declared.mark.Size.TheVariants.{Here, One, Two, Four}
use Rattle.ncc_pack.specs.Limits.{max_size}
use Rattle.ncc_pack.specs.Keys.{distinct}
use Rattle.ncc_pack.specs.Marker.{marker}
use Rattle.ncc_pack.specs.Reading.{◌>>=◌, Read, Holders, number_at, integer_at, size_at, bytes_at, text_at, cut_text, marked, id_by}
use Rattle.ncc_pack.specs.Reading.{id_at, label_by, label_at, key_by, key_at, items_at, pairs_at, by_mark, value_with, labels_by}
use Rattle.ncc_pack.specs.Reading.{labels_at, props_by, props_at, tag_at, fields_at, list_of, dict_of, within, value_at}
use Rattle.ncc_pack.specs.Spells.{Kind, texts, lists, dicts, bytes_mark, IsWide, IsHead, SpellsInt, SpellsText, Each, Listed, Pair, Label}
use Rattle.ncc_pack.specs.Spells.{Holding, Spells, Fields, levels}
use Rattle.ncc_pack.specs.Spells as s
use Rattle.ncc_pack.proofs.Fields.{IsBytes, IsBytes-drop, bind_ok, guard_ok, ok_is, Wide, wide8, wide16, wide32, wide64, number_takes}
use Rattle.ncc_pack.proofs.Marks.{WideSays, SizeSays, SmallSays, Says, says}
use Rattle.ncc_pack.proofs.Texts.{is_whole}

-- bytes begin with a spelling, and the rest is left
pub record Taken {A : Type 0} (R : A → List ℕ → Type 0) (bytes : List ℕ) (x : A) (rest : List ℕ) : Type 0 where
  pub front : List ℕ
  pub spells : R x front
  pub parts : bytes ≡ front ++ rest
  pub rest_fits : IsBytes rest

abbrev pub Takes : {A : Type 0} → (A → List ℕ → Type 0) → List ℕ → A × List ℕ → Type 0
Takes R bytes y = Taken R bytes y.0 y.1

lifted : {A B : Type 0} (R : A → List ℕ → Type 0) (S : B → List ℕ → Type 0) (bytes : List ℕ) (x : A) (z : B) (rest : List ℕ)
    → ((b : List ℕ) → R x b → S z b) → Taken R bytes x rest → Taken S bytes z rest
lifted R S bytes x z rest f t = record { front = t.front; spells = f t.front t.spells; parts = t.parts; rest_fits = t.rest_fits }

-- a marker alone
alone : {A : Type 0} (R : A → List ℕ → Type 0) (x : A) (m mark : ℕ) (bytes : List ℕ) (y : A × List ℕ) → R x (mark ∷ []) → m ≡ mark
    → IsBytes bytes → (x, bytes) ≡ y → Takes R (m ∷ bytes) y
alone R x m mark bytes y sp says fits e =
    subst (λ (z : _ × List ℕ). Takes R (m ∷ bytes) z) e (record
    { front = mark ∷ []; spells = sp; parts = ap (λ (z : ℕ). z ∷ bytes) says; rest_fits = fits })

pub IsBytes-rest : (b : ℕ) (bytes : List ℕ) → IsBytes (b ∷ bytes) → IsBytes bytes
IsBytes-rest b bytes h i = h (suc i)

pub guard_err : {A : Type 0} (b : Bool) (d : PackError) (r : Result A PackError) (y : A) → cond b (Err d) r ≡ Ok y → (b ≡ false)
    × (r ≡ Ok y)
guard_err true d r y e = absurd cc
guard_err false d r y e = (refl, e)

pub guard_then : {A : Type 0} (b : Bool) (d : PackError) (x y : A) → cond b (Ok x) (Err d) ≡ Ok y → (b ≡ true) × (x ≡ y)
guard_then true d x y e = (refl, cc)
guard_then false d x y e = absurd cc

-- what begins with a marker
marked_taken : {A : Type 0} (R : A → List ℕ → Type 0) (total : ℕ) (f : ℕ → Mark → List ℕ → Read A)
    → ((m at : ℕ) (mark : Mark) (bytes : List ℕ) (y : A × List ℕ) → Says m mark → IsBytes bytes → f at mark bytes ≡ Ok y
    → Takes R (m ∷ bytes) y)
    → (bytes : List ℕ) (y : A × List ℕ) → IsBytes bytes → marked total f bytes ≡ Ok y → Takes R bytes y
marked_taken R total f h [] y fits e = absurd cc
marked_taken R total f h (m ∷ bytes) y fits e = h m _ (marker m) bytes y (says m (fits 0)) (IsBytes-rest m bytes fits) e

-- ---- sizes

pub wide_taken : (mark m at : ℕ) (size : Size) (bytes : List ℕ) (y : ℕ × List ℕ) → WideSays mark m size → IsBytes bytes
    → size_at at size bytes ≡ Ok y → Takes (IsWide mark) (m ∷ bytes) y
unfolding size_at
wide_taken mark m at (Here n) bytes y says fits e = absurd says
wide_taken mark m at One bytes y says fits e =
    let t = number_takes w8 (2 ^ 8) wide8 bytes y.0 y.1 fits e in
    record {
      front = mark ∷ to_be_bytes w8 y.0;
      spells = s.one t.1;
      parts = rw says (ap (λ (z : List ℕ). mark ∷ z) t.0.parts);
      rest_fits =
          t.0.rest_fits;
    }
wide_taken mark m at Two bytes y says fits e =
    let t = number_takes w16 (2 ^ 16) wide16 bytes y.0 y.1 fits e in
    record {
      front = (mark + 1) ∷ to_be_bytes w16 y.0;
      spells = s.two t.1;
      parts =
          rw says (ap (λ (z : List ℕ). (mark + 1) ∷ z) t.0.parts);
      rest_fits = t.0.rest_fits;
    }
wide_taken mark m at Four bytes y says fits e =
    let g = guard_err (nat_lt max_size (from_be_bytes w32 (take 4 (bytes ++ 0 ∷ 0 ∷ 0 ∷ 0 ∷ [])))) (TooLong at) (number_at w32 bytes) y e in
    let t = number_takes w32 (2 ^ 32) wide32 bytes y.0 y.1 fits g.1 in
    let same : take 4 (bytes ++ 0 ∷ 0 ∷ 0 ∷ 0 ∷ []) ≡ to_be_bytes w32 y.0 =
    ap (λ (z : List ℕ). take 4 (z ++ 0 ∷ 0 ∷ 0 ∷ 0 ∷ [])) t.0.parts in
    let value : from_be_bytes w32 (take 4 (bytes ++ 0 ∷ 0 ∷ 0 ∷ 0 ∷ [])) ≡ y.0 = ap (from_be_bytes w32) same ∙ wide32.again y.0 t.1 in
    let le : y.0 ≤ max_size = ltb-false _ _ (ap (λ (z : ℕ). nat_lt max_size z) (sym value) ∙ g.0) in
    record {
      front = (mark + 2) ∷ to_be_bytes w32 y.0;
      spells = s.four le;
      parts =
          rw says (ap (λ (z : List ℕ). (mark + 2) ∷ z) t.0.parts);
      rest_fits = t.0.rest_fits;
    }

pub size_taken : (kind : Kind) (m at : ℕ) (size : Size) (bytes : List ℕ) (y : ℕ × List ℕ) → SizeSays kind m size → IsBytes bytes
    → size_at at size bytes ≡ Ok y → Takes (IsHead kind) (m ∷ bytes) y
unfolding size_at
size_taken kind m at (Here n) bytes y says fits e = alone (IsHead kind) n m (kind.tiny + n) bytes y (s.tiny says.0) says.1 fits
    (ok_is (n, bytes) y e)
size_taken kind m at One bytes y says fits e = lifted (IsWide kind.wide) (IsHead kind) (m ∷ bytes) y.0 y.0 y.1 (λ b w. s.wide b w)
    (wide_taken kind.wide m at One bytes y says fits e)
size_taken kind m at Two bytes y says fits e = lifted (IsWide kind.wide) (IsHead kind) (m ∷ bytes) y.0 y.0 y.1 (λ b w. s.wide b w)
    (wide_taken kind.wide m at Two bytes y says fits e)
size_taken kind m at Four bytes y says fits e = lifted (IsWide kind.wide) (IsHead kind) (m ∷ bytes) y.0 y.0 y.1 (λ b w. s.wide b w)
    (wide_taken kind.wide m at Four bytes y says fits e)

-- ---- integers

int_taken : (w : Width) (limit : ℕ) (wide : Wide w limit) (mark m : ℕ) (bytes : List ℕ) (y : ℤ × List ℕ)
    → ((n : ℕ) → n < limit → SpellsInt (cast_signed w n) (mark ∷ to_be_bytes w n))
    → m ≡ mark → IsBytes bytes → integer_at w bytes ≡ Ok y → Takes SpellsInt (m ∷ bytes) y
int_taken w limit wide mark m bytes y spell says fits e =
    let b = bind_ok (number_at w bytes) (λ n. Ok (cast_signed w n.0, n.1)) y e in
    let t = number_takes w limit wide bytes b.0.0 b.0.1 fits b.1 in
    subst (λ (z : ℤ × List ℕ). Takes SpellsInt (m ∷ bytes) z) (ok_is (cast_signed w b.0.0, b.0.1) y b.2)
    (record {
      front = mark ∷ to_be_bytes w b.0.0;
      spells = spell b.0.0 t.1;
      parts =
          rw says (ap (λ (z : List ℕ). mark ∷ z) t.0.parts);
      rest_fits = t.0.rest_fits;
    })

small_taken : (z : ℤ) (m : ℕ) (bytes : List ℕ) (y : ℤ × List ℕ) → SmallSays m z → IsBytes bytes → (z, bytes) ≡ y
    → Takes SpellsInt (m ∷ bytes) y
small_taken (pos n) m bytes y says fits e = alone SpellsInt (pos n) m n bytes y (s.positive n says.0) says.1 fits e
small_taken (negsuc n) m bytes y says fits e = alone SpellsInt (negsuc n) m (255 - n) bytes y (s.negative n says.0) says.1 fits e

id_by_taken : (m at : ℕ) (mark : Mark) (bytes : List ℕ) (y : ℤ × List ℕ) → Says m mark → IsBytes bytes → id_by at mark bytes ≡ Ok y
    → Takes SpellsInt (m ∷ bytes) y
id_by_taken m at (k.Small z) bytes y says fits e = small_taken z m bytes y says fits (ok_is (z, bytes) y e)
id_by_taken m at k.Int1 bytes y says fits e = int_taken w8 (2 ^ 8) wide8 0xC8 m bytes y s.int1 says fits e
id_by_taken m at k.Int2 bytes y says fits e = int_taken w16 (2 ^ 16) wide16 0xC9 m bytes y s.int2 says fits e
id_by_taken m at k.Int4 bytes y says fits e = int_taken w32 (2 ^ 32) wide32 0xCA m bytes y s.int4 says fits e
id_by_taken m at k.Int8 bytes y says fits e = int_taken w64 (2 ^ 64) wide64 0xCB m bytes y s.int8 says fits e
id_by_taken m at k.Null bytes y says fits e = absurd cc
id_by_taken m at (k.Bool b) bytes y says fits e = absurd cc
id_by_taken m at (k.Bytes z) bytes y says fits e = absurd cc
id_by_taken m at (k.Text z) bytes y says fits e = absurd cc
id_by_taken m at (k.List z) bytes y says fits e = absurd cc
id_by_taken m at (k.Dict z) bytes y says fits e = absurd cc
id_by_taken m at k.Node bytes y says fits e = absurd cc
id_by_taken m at k.Float bytes y says fits e = absurd cc
id_by_taken m at k.Bad bytes y says fits e = absurd cc

pub id_taken : (total : ℕ) (bytes : List ℕ) (y : ℤ × List ℕ) → IsBytes bytes → id_at total bytes ≡ Ok y → Takes SpellsInt bytes y
unfolding id_at
id_taken total bytes y fits e = marked_taken SpellsInt total id_by id_by_taken bytes y fits e

-- ---- bytes and texts

bytes_taken : (n : ℕ) (bytes : List ℕ) (y : List ℕ × List ℕ) → IsBytes bytes → bytes_at n bytes ≡ Ok y → (bytes ≡ y.0 ++ y.1)
    × (length y.0 ≡ n) × IsBytes y.1
unfolding bytes_at
bytes_taken n bytes y fits e =
    let g = guard_ok (nat_lt (length bytes) n) Short (take n bytes, drop n bytes) y e in
    let le : n ≤ length bytes = ltb-false _ _ g.0 in
    let len : length (take n bytes) ≡ n = omega (arith, length-take n bytes) in
    subst (λ (z : List ℕ × List ℕ). (bytes ≡ z.0 ++ z.1) × (length z.0 ≡ n) × IsBytes z.1) g.1
    (sym (take-append-drop n bytes), len, IsBytes-drop n bytes fits)

text_taken : (total n : ℕ) (bytes : List ℕ) (y : List ℕ × List ℕ) → IsBytes bytes → text_at total n bytes ≡ Ok y → (bytes ≡ y.0 ++ y.1)
    × IsUtf8 y.0 × (length y.0 ≡ n) × IsBytes y.1
unfolding text_at
text_taken total n bytes y fits e =
    let good = utf8_valid_len (take n bytes) in
    let g = guard_err (nat_lt (length bytes) n) (cut_text total n bytes)
    (cond (eqb good n) (Ok (take n bytes, drop n bytes)) (Err (BadUtf8 (total - (length bytes - good))))) y e in
    let le : n ≤ length bytes = ltb-false _ _ g.0 in
    let k = guard_then (eqb good n) (BadUtf8 (total - (length bytes - good))) (take n bytes, drop n bytes) y g.1 in
    let len : length (take n bytes) ≡ n = omega (arith, length-take n bytes) in
    let utf8 : IsUtf8 (take n bytes) = is_whole (take n bytes) (eqb-true good n k.0 ∙ sym len) in
    subst (λ (z : List ℕ × List ℕ). (bytes ≡ z.0 ++ z.1) × IsUtf8 z.0 × (length z.0 ≡ n) × IsBytes z.1) k.1
    (sym (take-append-drop n bytes), utf8, len, IsBytes-drop n bytes fits)

-- a marker, a size and a text
sized_text : (total m at : ℕ) (size : Size) (bytes : List ℕ) (a : ℕ × List ℕ) (t : List ℕ × List ℕ) → SizeSays texts m size
    → IsBytes bytes → size_at at size bytes ≡ Ok a → text_at total a.0 a.1 ≡ Ok t → Takes SpellsText (m ∷ bytes) t
sized_text total m at size bytes a t says fits e1 e2 =
    let st = size_taken texts m at size bytes a says fits e1 in
    let tt = text_taken total a.0 a.1 t st.rest_fits e2 in
    let head : IsHead texts (length t.0) st.front = rw tt.2 st.spells in
    let parts : m ∷ bytes ≡ (st.front ++ t.0) ++ t.1 = st.parts ∙ ap (λ (z : List ℕ). st.front ++ z) tt.0
    ∙ sym (append_assoc st.front t.0 t.1) in
    record { front = st.front ++ t.0; spells = (st.front, head, tt.1, refl); parts = parts; rest_fits = tt.3 }

value_text : (total m at : ℕ) (size : Size) (bytes : List ℕ) (y : Value × List ℕ) → SizeSays texts m size → IsBytes bytes
    → (size_at at size bytes >>= λ n. text_at total n.0 n.1 >>= λ t. Ok (v.Text t.0, t.1)) ≡ Ok y → (t : List ℕ) × (v.Text t ≡ y.0)
    × Taken SpellsText (m ∷ bytes) t y.1
value_text total m at size bytes y says fits e =
    let a = bind_ok (size_at at size bytes) (λ n. text_at total n.0 n.1 >>= λ t. Ok (v.Text t.0, t.1)) y e in
    let b = bind_ok (text_at total a.0.0 a.0.1) (λ t. Ok (v.Text t.0, t.1)) y a.2 in
    subst (λ (z : Value × List ℕ). (t : List ℕ) × (v.Text t ≡ z.0) × Taken SpellsText (m ∷ bytes) t z.1)
    (ok_is (v.Text b.0.0, b.0.1) y b.2) (b.0.0, refl, sized_text total m at size bytes a.0 b.0 says fits a.1 b.1)

key_by_taken : (total m at : ℕ) (mark : Mark) (bytes : List ℕ) (y : List ℕ × List ℕ) → Says m mark → IsBytes bytes
    → key_by total at mark bytes ≡ Ok y → Takes SpellsText (m ∷ bytes) y
key_by_taken total m at (k.Text size) bytes y says fits e =
    let a = bind_ok (size_at at size bytes) (λ n. text_at total n.0 n.1) y e in
    sized_text total m at size bytes a.0 y says fits a.1 a.2
key_by_taken total m at (k.Small z) bytes y says fits e = absurd cc
key_by_taken total m at k.Int1 bytes y says fits e = absurd cc
key_by_taken total m at k.Int2 bytes y says fits e = absurd cc
key_by_taken total m at k.Int4 bytes y says fits e = absurd cc
key_by_taken total m at k.Int8 bytes y says fits e = absurd cc
key_by_taken total m at k.Null bytes y says fits e = absurd cc
key_by_taken total m at (k.Bool b) bytes y says fits e = absurd cc
key_by_taken total m at (k.Bytes z) bytes y says fits e = absurd cc
key_by_taken total m at (k.List z) bytes y says fits e = absurd cc
key_by_taken total m at (k.Dict z) bytes y says fits e = absurd cc
key_by_taken total m at k.Node bytes y says fits e = absurd cc
key_by_taken total m at k.Float bytes y says fits e = absurd cc
key_by_taken total m at k.Bad bytes y says fits e = absurd cc

pub key_taken : (total : ℕ) (bytes : List ℕ) (y : List ℕ × List ℕ) → IsBytes bytes → key_at total bytes ≡ Ok y → Takes SpellsText bytes y
unfolding key_at
key_taken total bytes y fits e = marked_taken SpellsText total (key_by total) (key_by_taken total) bytes y fits e

label_by_taken : (total m at : ℕ) (mark : Mark) (bytes : List ℕ) (y : Value × List ℕ) → Says m mark → IsBytes bytes
    → label_by total at mark bytes ≡ Ok y → Takes Label (m ∷ bytes) y
label_by_taken total m at (k.Text size) bytes y says fits e =
    let t = value_text total m at size bytes y says fits e in
    subst (λ (x : Value). Taken Label (m ∷ bytes) x y.1) t.1 (lifted SpellsText Label (m ∷ bytes) t.0 (v.Text t.0) y.1 (s.label t.0) t.2)
label_by_taken total m at (k.Small z) bytes y says fits e = absurd cc
label_by_taken total m at k.Int1 bytes y says fits e = absurd cc
label_by_taken total m at k.Int2 bytes y says fits e = absurd cc
label_by_taken total m at k.Int4 bytes y says fits e = absurd cc
label_by_taken total m at k.Int8 bytes y says fits e = absurd cc
label_by_taken total m at k.Null bytes y says fits e = absurd cc
label_by_taken total m at (k.Bool b) bytes y says fits e = absurd cc
label_by_taken total m at (k.Bytes z) bytes y says fits e = absurd cc
label_by_taken total m at (k.List z) bytes y says fits e = absurd cc
label_by_taken total m at (k.Dict z) bytes y says fits e = absurd cc
label_by_taken total m at k.Node bytes y says fits e = absurd cc
label_by_taken total m at k.Float bytes y says fits e = absurd cc
label_by_taken total m at k.Bad bytes y says fits e = absurd cc

pub label_taken : (total : ℕ) (bytes : List ℕ) (y : Value × List ℕ) → IsBytes bytes → label_at total bytes ≡ Ok y → Takes Label bytes y
unfolding label_at
label_taken total bytes y fits e = marked_taken Label total (label_by total) (label_by_taken total) bytes y fits e

-- ---- what holds values

-- what is read behind a marker and a size is spelled so
abbrev pub SizedTaken : {A : Type 0} → Kind → (ℕ → Size → List ℕ → Read A) → (A → List ℕ → Type 0) → Type 0
SizedTaken kind read spelled = (m at : ℕ) (size : Size) (bytes : List ℕ) (y : _ × List ℕ) → SizeSays kind m size → IsBytes bytes
    → read at size bytes ≡ Ok y → Takes spelled (m ∷ bytes) y

abbrev pub NodeTaken : (ℕ → List ℕ → Read NodeValue) → (NodeValue → List ℕ → Type 0) → Type 0
NodeTaken read spelled = (at : ℕ) (bytes : List ℕ) (y : NodeValue × List ℕ) → IsBytes bytes → read at bytes ≡ Ok y
    → Takes spelled (0xB3 ∷ bytes) y

pub record AllTaken (read : Holders) (spelled : Holding) : Type 0 where
  pub list : SizedTaken lists read.list spelled.list
  pub dict : SizedTaken dicts read.dict spelled.dict
  pub node : NodeTaken read.node spelled.node

-- a step that only wraps what was read
wrapped : {A B : Type 0} (R : A → List ℕ → Type 0) (S : B → List ℕ → Type 0) (wrap : A → B) (bytes front : List ℕ)
    (read : List ℕ → Read A) (y : B × List ℕ) → ((x : A) (b : List ℕ) → R x b → S (wrap x) b)
    → ((z : A × List ℕ) → read bytes ≡ Ok z → Takes R front z) → (read bytes >>= λ x. Ok (wrap x.0, x.1)) ≡ Ok y → Takes S front y
wrapped R S wrap bytes front read y f h e =
    let a = bind_ok (read bytes) (λ x. Ok (wrap x.0, x.1)) y e in
    subst (λ (z : _ × List ℕ). Takes S front z) (ok_is (wrap a.0.0, a.0.1) y a.2)
    (lifted R S front a.0.0 (wrap a.0.0) a.0.1 (f a.0.0) (h a.0 a.1))

wide_value : (spelled : Holding) (w : Width) (limit : ℕ) (wide : Wide w limit) (mark m : ℕ) (bytes : List ℕ) (y : Value × List ℕ)
    → ((n : ℕ) → n < limit → SpellsInt (cast_signed w n) (mark ∷ to_be_bytes w n))
    → m ≡ mark → IsBytes bytes → (integer_at w bytes >>= λ n. Ok (v.Int n.0, n.1)) ≡ Ok y → Takes (Spells spelled) (m ∷ bytes) y
wide_value spelled w limit wide mark m bytes y spell says fits e =
    wrapped SpellsInt (Spells spelled) v.Int bytes (m ∷ bytes) (integer_at w) y s.int
    (λ z q. int_taken w limit wide mark m bytes z spell says fits q) e

mark_taken : (total : ℕ) (read : Holders) (spelled : Holding) → AllTaken read spelled
    → (m at : ℕ) (mark : Mark) (bytes : List ℕ) (y : Value × List ℕ) → Says m mark → IsBytes bytes
    → by_mark total read at mark bytes ≡ Ok y → Takes (Spells spelled) (m ∷ bytes) y
mark_taken total read spelled h m at k.Null bytes y says fits e =
    alone (Spells spelled) v.Null m 0xC0 bytes y s.null says fits (ok_is (v.Null, bytes) y e)
mark_taken total read spelled h m at (k.Bool false) bytes y says fits e =
    alone (Spells spelled) (v.Bool false) m 0xC2 bytes y s.no says fits (ok_is (v.Bool false, bytes) y e)
mark_taken total read spelled h m at (k.Bool true) bytes y says fits e =
    alone (Spells spelled) (v.Bool true) m 0xC3 bytes y s.yes says fits (ok_is (v.Bool true, bytes) y e)
mark_taken total read spelled h m at (k.Small z) bytes y says fits e =
    let t = small_taken z m bytes (z, bytes) says fits refl in
    subst (λ (q : Value × List ℕ). Takes (Spells spelled) (m ∷ bytes) q) (ok_is (v.Int z, bytes) y e)
    (lifted SpellsInt (Spells spelled) (m ∷ bytes) z (v.Int z) bytes (s.int z) t)
mark_taken total read spelled h m at k.Int1 bytes y says fits e = wide_value spelled w8 (2 ^ 8) wide8 0xC8 m bytes y s.int1 says fits e
mark_taken total read spelled h m at k.Int2 bytes y says fits e = wide_value spelled w16 (2 ^ 16) wide16 0xC9 m bytes y s.int2 says fits e
mark_taken total read spelled h m at k.Int4 bytes y says fits e = wide_value spelled w32 (2 ^ 32) wide32 0xCA m bytes y s.int4 says fits e
mark_taken total read spelled h m at k.Int8 bytes y says fits e = wide_value spelled w64 (2 ^ 64) wide64 0xCB m bytes y s.int8 says fits e
mark_taken total read spelled h m at (k.Bytes size) bytes y says fits e =
    let a = bind_ok (size_at at size bytes) (λ n. bytes_at n.0 n.1 >>= λ t. Ok (v.Bytes t.0, t.1)) y e in
    let b = bind_ok (bytes_at a.0.0 a.0.1) (λ t. Ok (v.Bytes t.0, t.1)) y a.2 in
    let st = wide_taken bytes_mark m at size bytes a.0 says fits a.1 in
    let t = bytes_taken a.0.0 a.0.1 b.0 st.rest_fits b.1 in
    let head : IsWide bytes_mark (length b.0.0) st.front = rw t.1 st.spells in
    let parts : m ∷ bytes ≡ (st.front ++ b.0.0) ++ b.0.1 = st.parts ∙ ap (λ (z : List ℕ). st.front ++ z) t.0
    ∙ sym (append_assoc st.front b.0.0 b.0.1) in
    subst (λ (z : Value × List ℕ). Takes (Spells spelled) (m ∷ bytes) z) (ok_is (v.Bytes b.0.0, b.0.1) y b.2)
    (record { front = st.front ++ b.0.0; spells = s.bytes b.0.0 st.front head; parts = parts; rest_fits = t.2 })
mark_taken total read spelled h m at (k.Text size) bytes y says fits e =
    let t = value_text total m at size bytes y says fits e in
    subst (λ (x : Value). Taken (Spells spelled) (m ∷ bytes) x y.1) t.1
    (lifted SpellsText (Spells spelled) (m ∷ bytes) t.0 (v.Text t.0) y.1 (s.text t.0) t.2)
mark_taken total read spelled h m at (k.List size) bytes y says fits e =
    wrapped spelled.list (Spells spelled) v.List bytes (m ∷ bytes) (read.list at size) y s.list
    (λ z q. h.list m at size bytes z says fits q) e
mark_taken total read spelled h m at (k.Dict size) bytes y says fits e =
    wrapped spelled.dict (Spells spelled) v.Dict bytes (m ∷ bytes) (read.dict at size) y s.dict
    (λ z q. h.dict m at size bytes z says fits q) e
mark_taken total read spelled h m at k.Node bytes y says fits e =
    wrapped spelled.node (Spells spelled) v.Node bytes (m ∷ bytes) (read.node at) y s.node
    (λ z q. subst (λ (n : ℕ). Takes spelled.node (n ∷ bytes) z) (sym says) (h.node at bytes z fits q)) e
mark_taken total read spelled h m at k.Float bytes y says fits e = absurd cc
mark_taken total read spelled h m at k.Bad bytes y says fits e = absurd cc

with_taken : (total : ℕ) (read : Holders) (spelled : Holding) → AllTaken read spelled → (bytes : List ℕ) (y : Value × List ℕ)
    → IsBytes bytes → value_with total read bytes ≡ Ok y → Takes (Spells spelled) bytes y
unfolding value_with
with_taken total read spelled h bytes y fits e = marked_taken (Spells spelled) total (by_mark total read)
    (mark_taken total read spelled h) bytes y fits e

items_taken : {A : Type 0} (one : List ℕ → Read A) (R : A → List ℕ → Type 0)
    → ((bytes : List ℕ) (y : A × List ℕ) → IsBytes bytes → one bytes ≡ Ok y → Takes R bytes y)
    → (n : ℕ) (bytes : List ℕ) (y : List A × List ℕ) → IsBytes bytes → items_at one n bytes ≡ Ok y → Takes (Each R) bytes y
    × (length y.0 ≡ n)
unfolding items_at
items_taken one R h zero bytes y fits e =
    subst (λ (z : List _ × List ℕ). Takes (Each R) bytes z × (length z.0 ≡ 0)) (ok_is ([], bytes) y e)
    (record { front = []; spells = refl; parts = refl; rest_fits = fits }, refl)
items_taken one R h (suc n) bytes y fits e =
    let a = bind_ok (one bytes) (λ first. items_at one n first.1 >>= λ others. Ok (first.0 ∷ others.0, others.1)) y e in
    let b = bind_ok (items_at one n a.0.1) (λ others. Ok (a.0.0 ∷ others.0, others.1)) y a.2 in
    let f = h bytes a.0 fits a.1 in
    let r = items_taken one R h n a.0.1 b.0 f.rest_fits b.1 in
    let parts : bytes ≡ (f.front ++ r.0.front) ++ b.0.1 = f.parts ∙ ap (λ (z : List ℕ). f.front ++ z) r.0.parts
    ∙ sym (append_assoc f.front r.0.front b.0.1) in
    subst (λ (z : List _ × List ℕ). Takes (Each R) bytes z × (length z.0 ≡ suc n)) (ok_is (a.0.0 ∷ b.0.0, b.0.1) y b.2) (
      record {
        front = f.front ++ r.0.front;
        spells = (f.front, r.0.front, f.spells, r.0.spells, refl);
        parts = parts;
        rest_fits =
            r.0.rest_fits;
      },
      ap suc r.1,
    )

new_key : (a b : Bool) → a ≡ false → IsTrue b → IsTrue (not a && b)
new_key true b e h = absurd cc
new_key false b e h = h

pairs_taken : (total : ℕ) (value : List ℕ → Read Value) (R : Value → List ℕ → Type 0)
    → ((bytes : List ℕ) (y : Value × List ℕ) → IsBytes bytes → value bytes ≡ Ok y → Takes R bytes y)
    → (earlier : List (List ℕ)) (n : ℕ) (bytes : List ℕ) (y : List (List ℕ × Value) × List ℕ) → IsBytes bytes
    → pairs_at total value earlier n bytes ≡ Ok y
    → Takes (Each (Pair R)) bytes y × (length y.0 ≡ n) × IsTrue (distinct earlier y.0)
unfolding pairs_at
pairs_taken total value R h earlier zero bytes y fits e =
    subst (λ (z : List (List ℕ × Value) × List ℕ). Takes (Each (Pair R)) bytes z × (length z.0 ≡ 0) × IsTrue (distinct earlier z.0))
    (ok_is ([], bytes) y e)
    (record { front = []; spells = refl; parts = refl; rest_fits = fits }, refl, refl)
pairs_taken total value R h earlier (suc n) bytes y fits e =
    let a = bind_ok (key_at total bytes) (λ key. cond (list_any (bytes_eq key.0) earlier) (Err (RepeatedKey (total - length bytes)))
    (value key.1 >>= λ x. pairs_at total value (earlier ++ key.0 ∷ []) n x.1 >>= λ more. Ok ((key.0, x.0) ∷ more.0, more.1))) y e in
    let g = guard_err (list_any (bytes_eq a.0.0) earlier) (RepeatedKey (total - length bytes))
    (value a.0.1 >>= λ x. pairs_at total value (earlier ++ a.0.0 ∷ []) n x.1 >>= λ more. Ok ((a.0.0, x.0) ∷ more.0, more.1)) y a.2 in
    let b = bind_ok (value a.0.1) (λ x. pairs_at total value (earlier ++ a.0.0 ∷ []) n x.1 >>= λ more. Ok ((a.0.0, x.0) ∷ more.0, more.1))
    y g.1 in
    let c = bind_ok (pairs_at total value (earlier ++ a.0.0 ∷ []) n b.0.1) (λ more. Ok ((a.0.0, b.0.0) ∷ more.0, more.1)) y b.2 in
    let key = key_taken total bytes a.0 fits a.1 in
    let x = h a.0.1 b.0 key.rest_fits b.1 in
    let r = pairs_taken total value R h (earlier ++ a.0.0 ∷ []) n b.0.1 c.0 x.rest_fits c.1 in
    let front : bytes ≡ (key.front ++ x.front) ++ b.0.1 = key.parts ∙ ap (λ (z : List ℕ). key.front ++ z) x.parts
    ∙ sym (append_assoc key.front x.front b.0.1) in
    let parts : bytes ≡ ((key.front ++ x.front) ++ r.0.front) ++ c.0.1 = front
    ∙ ap (λ (z : List ℕ). (key.front ++ x.front) ++ z) r.0.parts ∙ sym (append_assoc (key.front ++ x.front) r.0.front c.0.1) in
    subst (λ (z : List (List ℕ × Value) × List ℕ). Takes (Each (Pair R)) bytes z × (length z.0 ≡ suc n) × IsTrue (distinct earlier z.0))
    (ok_is ((a.0.0, b.0.0) ∷ c.0.0, c.0.1) y c.2) (
      record {
        front = (key.front ++ x.front) ++ r.0.front;
        spells =
            (key.front ++ x.front, r.0.front, (key.front, x.front, key.spells, x.spells, refl), r.0.spells, refl);
        parts =
            parts;
        rest_fits = r.0.rest_fits;
      },
      ap suc r.1,
      new_key (list_any (bytes_eq a.0.0) earlier) (distinct (earlier ++ a.0.0 ∷ []) c.0.0) g.0 r.2,
    )

-- a head and what it counts
counted : {A : Type 0} (kind : Kind) (R : A → List ℕ → Type 0) (bytes : List ℕ) (a : ℕ × List ℕ) (y : List A × List ℕ)
    → Takes (IsHead kind) bytes a → Takes (Each R) a.1 y → length y.0 ≡ a.0 → Takes (Listed kind R) bytes y
counted kind R bytes a y st t len =
    let head : IsHead kind (length y.0) st.front = rw len st.spells in
    let parts : bytes ≡ (st.front ++ t.front) ++ y.1 = st.parts ∙ ap (λ (z : List ℕ). st.front ++ z) t.parts
    ∙ sym (append_assoc st.front t.front y.1) in
    record { front = st.front ++ t.front; spells = (st.front, t.front, head, t.spells, refl); parts = parts; rest_fits = t.rest_fits }

sized_items : {A : Type 0} (one : List ℕ → Read A) (R : A → List ℕ → Type 0)
    → ((bytes : List ℕ) (y : A × List ℕ) → IsBytes bytes → one bytes ≡ Ok y → Takes R bytes y)
    → (m at : ℕ) (size : Size) (bytes : List ℕ) (y : List A × List ℕ) → SizeSays lists m size → IsBytes bytes
    → (size_at at size bytes >>= λ n. items_at one n.0 n.1) ≡ Ok y → Takes (Listed lists R) (m ∷ bytes) y
sized_items one R h m at size bytes y says fits e =
    let a = bind_ok (size_at at size bytes) (λ n. items_at one n.0 n.1) y e in
    let st = size_taken lists m at size bytes a.0 says fits a.1 in
    let t = items_taken one R h a.0.0 a.0.1 y st.rest_fits a.2 in
    counted lists R (m ∷ bytes) a.0 y st t.0 t.1

list_taken : (total : ℕ) (inside : Holders) (R : Value → List ℕ → Type 0)
    → ((bytes : List ℕ) (y : Value × List ℕ) → IsBytes bytes → value_with total inside bytes ≡ Ok y → Takes R bytes y)
    → SizedTaken lists (list_of total inside) (Listed lists R)
unfolding list_of
list_taken total inside R h m at size bytes y says fits e = sized_items (value_with total inside) R h m at size bytes y says fits e

dict_taken : (total : ℕ) (inside : Holders) (R : Value → List ℕ → Type 0)
    → ((bytes : List ℕ) (y : Value × List ℕ) → IsBytes bytes → value_with total inside bytes ≡ Ok y → Takes R bytes y)
    → SizedTaken dicts (dict_of total inside) (λ ps b. Listed dicts (Pair R) ps b × IsTrue (distinct [] ps))
unfolding dict_of
dict_taken total inside R h m at size bytes y says fits e =
    let a = bind_ok (size_at at size bytes) (λ n. pairs_at total (value_with total inside) [] n.0 n.1) y e in
    let st = size_taken dicts m at size bytes a.0 says fits a.1 in
    let t = pairs_taken total (value_with total inside) R h [] a.0.0 a.0.1 y st.rest_fits a.2 in
    lifted (Listed dicts (Pair R)) (λ ps b. Listed dicts (Pair R) ps b × IsTrue (distinct [] ps)) (m ∷ bytes) y.0 y.0 y.1
    (λ b sp. (sp, t.2)) (counted dicts (Pair R) (m ∷ bytes) a.0 y st t.0 t.1)

-- ---- nodes

labels_by_taken : (total m at : ℕ) (mark : Mark) (bytes : List ℕ) (y : List Value × List ℕ) → Says m mark → IsBytes bytes
    → labels_by total at mark bytes ≡ Ok y → Takes (Listed lists Label) (m ∷ bytes) y
labels_by_taken total m at (k.List size) bytes y says fits e =
    sized_items (label_at total) Label (label_taken total) m at size bytes y says fits e
labels_by_taken total m at (k.Text z) bytes y says fits e = absurd cc
labels_by_taken total m at (k.Small z) bytes y says fits e = absurd cc
labels_by_taken total m at k.Int1 bytes y says fits e = absurd cc
labels_by_taken total m at k.Int2 bytes y says fits e = absurd cc
labels_by_taken total m at k.Int4 bytes y says fits e = absurd cc
labels_by_taken total m at k.Int8 bytes y says fits e = absurd cc
labels_by_taken total m at k.Null bytes y says fits e = absurd cc
labels_by_taken total m at (k.Bool b) bytes y says fits e = absurd cc
labels_by_taken total m at (k.Bytes z) bytes y says fits e = absurd cc
labels_by_taken total m at (k.Dict z) bytes y says fits e = absurd cc
labels_by_taken total m at k.Node bytes y says fits e = absurd cc
labels_by_taken total m at k.Float bytes y says fits e = absurd cc
labels_by_taken total m at k.Bad bytes y says fits e = absurd cc

pub labels_taken : (total : ℕ) (bytes : List ℕ) (y : List Value × List ℕ) → IsBytes bytes → labels_at total bytes ≡ Ok y
    → Takes (Listed lists Label) bytes y
unfolding labels_at
labels_taken total bytes y fits e = marked_taken (Listed lists Label) total (labels_by total) (labels_by_taken total) bytes y fits e

props_by_taken : (inside : Holders) (spelled : List (List ℕ × Value) → List ℕ → Type 0) → SizedTaken dicts inside.dict spelled
    → (m at : ℕ) (mark : Mark) (bytes : List ℕ) (y : List (List ℕ × Value) × List ℕ) → Says m mark → IsBytes bytes
    → props_by inside at mark bytes ≡ Ok y → Takes spelled (m ∷ bytes) y
props_by_taken inside spelled h m at (k.Dict size) bytes y says fits e = h m at size bytes y says fits e
props_by_taken inside spelled h m at (k.List z) bytes y says fits e = absurd cc
props_by_taken inside spelled h m at (k.Text z) bytes y says fits e = absurd cc
props_by_taken inside spelled h m at (k.Small z) bytes y says fits e = absurd cc
props_by_taken inside spelled h m at k.Int1 bytes y says fits e = absurd cc
props_by_taken inside spelled h m at k.Int2 bytes y says fits e = absurd cc
props_by_taken inside spelled h m at k.Int4 bytes y says fits e = absurd cc
props_by_taken inside spelled h m at k.Int8 bytes y says fits e = absurd cc
props_by_taken inside spelled h m at k.Null bytes y says fits e = absurd cc
props_by_taken inside spelled h m at (k.Bool b) bytes y says fits e = absurd cc
props_by_taken inside spelled h m at (k.Bytes z) bytes y says fits e = absurd cc
props_by_taken inside spelled h m at k.Node bytes y says fits e = absurd cc
props_by_taken inside spelled h m at k.Float bytes y says fits e = absurd cc
props_by_taken inside spelled h m at k.Bad bytes y says fits e = absurd cc

pub props_taken : (total : ℕ) (inside : Holders) (spelled : List (List ℕ × Value) → List ℕ → Type 0) → SizedTaken dicts inside.dict spelled
    → (bytes : List ℕ) (y : List (List ℕ × Value) × List ℕ) → IsBytes bytes → props_at total inside bytes ≡ Ok y → Takes spelled bytes y
unfolding props_at
props_taken total inside spelled h bytes y fits e = marked_taken spelled total (props_by inside)
    (props_by_taken inside spelled h) bytes y fits e

pub tag_taken : (total : ℕ) (bytes after : List ℕ) → IsBytes bytes → tag_at total bytes ≡ Ok after → (bytes ≡ 0x4E ∷ after) × IsBytes after
unfolding tag_at
tag_taken total [] after fits e = absurd cc
tag_taken total (t ∷ bytes) after fits e =
    let g = guard_then (t == 0x4E) (BadMarker (total - length (t ∷ bytes))) bytes after e in
    let n : t ≡ 0x4E = eqb-true t 0x4E g.0 in
    (rw (n, g.1) refl, subst IsBytes g.1 (IsBytes-rest t bytes fits))

node_taken : (total : ℕ) (inside : Holders) (spelled : Holding) → SizedTaken dicts inside.dict spelled.dict
    → (bytes : List ℕ) (y : NodeValue × List ℕ) → IsBytes bytes → fields_at total inside bytes ≡ Ok y
    → Takes (Fields spelled) (0xB3 ∷ bytes) y
unfolding fields_at
node_taken total inside spelled h bytes y fits e =
    let made : ℤ → List Value → List (List ℕ × Value) → NodeValue = λ i l p. record { id = i; labels = l; props = p } in
    let a = bind_ok (tag_at total bytes) (λ after. id_at total after >>= λ id. labels_at total id.1 >>= λ labels. props_at total inside
    labels.1 >>= λ props. Ok (made id.0 labels.0 props.0, props.1)) y e in
    let b = bind_ok (id_at total a.0) (λ id. labels_at total id.1 >>= λ labels. props_at total inside labels.1 >>= λ props. Ok
    (made id.0 labels.0 props.0, props.1)) y a.2 in
    let c = bind_ok (labels_at total b.0.1) (λ labels. props_at total inside labels.1 >>= λ props. Ok
    (made b.0.0 labels.0 props.0, props.1)) y b.2 in
    let d = bind_ok (props_at total inside c.0.1) (λ props. Ok (made b.0.0 c.0.0 props.0, props.1)) y c.2 in
    let tag = tag_taken total bytes a.0 fits a.1 in
    let i = id_taken total a.0 b.0 tag.1 b.1 in
    let l = labels_taken total b.0.1 c.0 i.rest_fits c.1 in
    let p = props_taken total inside spelled.dict h c.0.1 d.0 l.rest_fits d.1 in
    let inner : a.0 ≡ ((i.front ++ l.front) ++ p.front) ++ d.0.1 =
    i.parts ∙ ap (λ (z : List ℕ). i.front ++ z) (l.parts ∙ ap (λ (z : List ℕ). l.front ++ z) p.parts)
    ∙ sym (append_assoc i.front l.front (p.front ++ d.0.1)) ∙ sym (append_assoc (i.front ++ l.front) p.front d.0.1) in
    let parts : 0xB3 ∷ bytes ≡ (0xB3 ∷ 0x4E ∷ ((i.front ++ l.front) ++ p.front)) ++ d.0.1 =
    ap (λ (z : List ℕ). 0xB3 ∷ z) (tag.0 ∙ ap (λ (z : List ℕ). 0x4E ∷ z) inner) in
    subst (λ (z : NodeValue × List ℕ). Takes (Fields spelled) (0xB3 ∷ bytes) z) (ok_is (made b.0.0 c.0.0 d.0.0, d.0.1) y d.2)
    (record {
      front = 0xB3 ∷ 0x4E ∷ ((i.front ++ l.front) ++ p.front);
      spells =
          (i.front, l.front, p.front, i.spells, l.spells, p.spells, refl);
      parts = parts;
      rest_fits = p.rest_fits;
    })

node_levels : (total d : ℕ) → SizedTaken dicts (within total d).dict (levels d).dict
    → NodeTaken (within total (suc d)).node (levels (suc d)).node
unfolding within levels
node_levels total zero h at bytes y fits e = absurd cc
node_levels total (suc d) h at bytes y fits e = node_taken total (within total (suc d)) (levels (suc d)) h bytes y fits e

levels_taken : (total d : ℕ) → AllTaken (within total d) (levels d)
unfolding within levels
levels_taken total zero = record {
  list = λ m at size bytes y says fits e. absurd cc;
  dict =
      λ m at size bytes y says fits e. absurd cc;
  node = λ at bytes y fits e. absurd cc;
}
levels_taken total (suc d) =
    let inside = levels_taken total d in
    let one = with_taken total (within total d) (levels d) inside in
    record {
      list = list_taken total (within total d) (Spells (levels d)) one;
      dict = dict_taken total (within total d) (Spells (levels d)) one;
      node = node_levels total d inside.dict;
    }

pub value_taken : (total d : ℕ) (bytes : List ℕ) (y : Value × List ℕ) → IsBytes bytes → value_at total d bytes ≡ Ok y
    → Takes (Spells (levels d)) bytes y
value_taken total d bytes y fits e = with_taken total (within total d) (levels d) (levels_taken total d) bytes y fits e

-- Where items, pairs, nodes and values stop.
use Rattle.std.proofs.Common.{◌≡◌, ◌⊎◌, inl, inr, ℕ, zero, suc, ◌+◌, ◌-◌, ◌^◌, ◌<◌, ◌≤◌, Bool, true, false, cond, ◌||◌, eqb, List}
use Rattle.std.proofs.Common.{[], ◌∷◌, ◌++◌, length, get_or, Result, Ok, Err, refl, sym, ap, subst, ◌∙◌, append_assoc, append-nil}
use Rattle.std.proofs.Common.{arith}
use Rattle.std.specs.Prelude.{ℤ, pos, ◌==◌, nat_lt}
use Rattle.std.specs.Int.{Width, w8, w16, w32, w64, byte_len, to_be_bytes, cast_signed}
use Rattle.std.specs.List.{list_any}
use Rattle.std.specs.Str.{bytes_eq}
use Rattle.std.proofs.lemmas.Bool.{eqb-true}
use borrow.Author.Tests.{eq-eqb}
use Rattle.std.proofs.lemmas.Str.{IsUtf8-nil, IsUtf8-from_ascii}
use Rattle.std.proofs.lemmas.List.{length-append}
use Rattle.ncc_pack.specs.declared.value.Value.{Value}
use Rattle.ncc_pack.specs.declared.value.Value.TheVariants as v
use Rattle.ncc_pack.specs.declared.error.PackError.{PackError}
use Rattle.ncc_pack.specs.declared.error.PackError.TheVariants.{Short, BadMarker, BadUtf8, RepeatedKey, KeyNotText, TooDeep, TooLong}
use Rattle.ncc_pack.specs.declared.error.PackError.TheVariants as refusal
use Rattle.ncc_pack.specs.declared.mark.Mark.{Mark}
use Rattle.ncc_pack.specs.declared.mark.Mark.TheVariants as k
use Rattle.ncc_pack.specs.Limits.{max_size}
use Rattle.ncc_pack.specs.Marker.{marker, sized_marker, plain_marker}
use Rattle.ncc_pack.specs.Reading.{◌>>=◌, Read, number_at, integer_at, size_at, other_kind, id_by, id_at, label_by, label_at}
use Rattle.ncc_pack.specs.Reading.{key_by, key_at, items_at, labels_by, labels_at}
use Rattle.ncc_pack.specs.Spells.{Kind, texts, lists, dicts, bytes_mark, IsWide, IsHead, SpellsInt, SpellsText, Each, Listed, Pair}
use Rattle.ncc_pack.specs.Spells.{Label, Holding, Spells, Fields, levels}
use Rattle.ncc_pack.specs.Spells as s
use Rattle.ncc_pack.proofs.Fields.{IsBytes, bind_ok, Wide, wide8, wide16, wide32, wide64}
use Rattle.ncc_pack.proofs.Marks.{Says, says}
use Rattle.ncc_pack.proofs.Loops.{both}
use Rattle.ncc_pack.proofs.Taken.{Takes, IsBytes-rest, label_taken}
use Rattle.ncc_pack.proofs.Spelled.{label_again}
use Rattle.ncc_pack.proofs.Faults.{Open, InText, PlacedAt, Shaped, GoesOn, Reader, Fault, goes_map, passed, short_fault}
use Rattle.ncc_pack.proofs.Faults.{marker_fault, split, AtMarker}
use Rattle.ncc_pack.proofs.Stops.{kind_heading, number_stop, number_open, sized_fault, TextOf, TextGoes, text_reader, text_fill}
use Rattle.ncc_pack.proofs.Stops.{text_fault, zeros}

abbrev pub failed : {A : Type 0} → PackError → Result A PackError
failed d = Err d

abbrev pub done : {A : Type 0} → A → Result A PackError
done x = Ok x

-- a reading whose answer is wrapped stops where the reading does
pub wrapped : {A B : Type 0} (G : PackError → List ℕ → Type 0) (f : Reader A) (w : A × List ℕ → B
    × List ℕ) (total : ℕ) (z : List ℕ) (err : PackError)
    → (f total z >>= λ x. Ok (w x)) ≡ Err err → ((f total z ≡ Err err) → Fault G f total z err) →
    Fault G (λ all q. f all q >>= λ x. Ok (w x)) total z err
wrapped G f w total z err e find = by (split (f total z) (λ x. Ok (w x)) err e)
  where
    by : (f total z ≡ Err err) ⊎ ((x : _) × (f total z ≡ Ok x) × (Ok (w x) ≡ Err err)) →
        Fault G (λ all q. f all q >>= λ x. Ok (w x)) total z err
    by (inl q) = passed G G f (λ all q. f all q >>= λ x. Ok (w x)) total [] z z err refl (λ q g. g) (λ all q y o. let b =
        bind_ok (f all q) (λ x. Ok (w x)) y o in (b.0, b.1)) (find q)
    by (inr r) = absurd (let no : Ok (w r.0) ≡ Err err = r.2 in cc)

pub bind_assoc : {A B C : Type 0} (r : Result A PackError) (f : A → Result B PackError) (g : B → Result C PackError) →
    ((r >>= f) >>= g) ≡ (r >>= λ x. f x >>= g)
bind_assoc (Ok x) f g = refl
bind_assoc (Err d) f g = refl

-- ---- markers of another kind

-- a refusal at a marker alone
pub one_fault : {A : Type 0} (G : PackError → List ℕ → Type 0) (h : Reader A) (total m : ℕ) (bytes : List ℕ) (err : PackError) →
    AtMarker err → PlacedAt err (total - length (m ∷ bytes)) → G err [] → Shaped err (m ∷ [])
    → ((all : ℕ) (c : List ℕ) (y : A × List ℕ) → h all (m ∷ c) ≡ Ok y → ⊥) → Fault G h total (m ∷ bytes) err
one_fault G h total m bytes err hard place goes shape never =
    marker_fault G h total m [] bytes bytes err refl hard place goes (λ all c y o. never all c y o) shape

test : (P : Mark → Type 0) (b : Bool) (x y : Mark) → (b ≡ true → P x) → (b ≡ false → P y) → P (cond b x y)
test P true x y f g = f refl
test P false x y f g = g refl

-- one byte alone marks a float
abbrev IsFloat : ℕ → Mark → Type 0
IsFloat m mark = mark ≡ k.Float → m ≡ 0xC1

sized_float : (m : ℕ) → IsFloat m (sized_marker m)
sized_float m =
    let P = IsFloat m in
    test P (m == 0xCC) _ _ (λ _ q. cc) (λ _. test P (m == 0xCD) _ _ (λ _ q. cc) (λ _. test P (m == 0xCE) _ _ (λ _ q. cc) (λ _.
    test P (m == 0xD0) _ _ (λ _ q. cc) (λ _. test P (m == 0xD1) _ _ (λ _ q. cc) (λ _. test P (m == 0xD2) _ _ (λ _ q. cc) (λ _.
    test P (m == 0xD4) _ _ (λ _ q. cc) (λ _. test P (m == 0xD5) _ _ (λ _ q. cc) (λ _. test P (m == 0xD6) _ _ (λ _ q. cc) (λ _.
    test P (m == 0xD8) _ _ (λ _ q. cc) (λ _. test P (m == 0xD9) _ _ (λ _ q. cc) (λ _. test P (m == 0xDA) _ _ (λ _ q. cc) (λ _.
    test P (m == 0xB3) _ _ (λ _ q. cc) (λ _ q. cc)))))))))))))

plain_float : (m : ℕ) → IsFloat m (plain_marker m)
plain_float m =
    let P = IsFloat m in
    test P (m == 0xC0) _ _ (λ _ q. cc) (λ _. test P (m == 0xC1) _ _ (λ is _. eqb-true m 0xC1 is)
    (λ _. test P (m == 0xC2) _ _ (λ _ q. cc) (λ _. test P (m == 0xC3) _ _ (λ _ q. cc) (λ _.
    test P (m == 0xC8) _ _ (λ _ q. cc) (λ _. test P (m == 0xC9) _ _ (λ _ q. cc)
    (λ _. test P (m == 0xCA) _ _ (λ _ q. cc) (λ _. test P (m == 0xCB) _ _ (λ _ q. cc) (λ _. sized_float m))))))))

pub float_is : (m : ℕ) → IsFloat m (marker m)
unfolding marker
float_is m =
    let P = IsFloat m in
    test P (nat_lt m 0x80) _ _ (λ _ q. cc) (λ _. test P (nat_lt m 0x90) _ _ (λ _ q. cc) (λ _. test P (nat_lt m 0xA0) _ _ (λ _ q. cc) (λ _.
    test P (nat_lt m 0xB0) _ _ (λ _ q. cc) (λ _. test P (nat_lt 0xEF m) _ _ (λ _ q. cc) (λ _. plain_float m)))))

pub other_fault : {A : Type 0} (G : PackError → List ℕ → Type 0) (h : Reader A) (total m : ℕ) (bytes : List ℕ) (mark : Mark) →
    marker m ≡ mark → (err : PackError) → failed {A = ℕ} (other_kind (total - length (m ∷ bytes)) mark) ≡ Err err
    → ((d : PackError) → G d []) → ((all : ℕ) (c : List ℕ) (y : A × List ℕ) → h all (m ∷ c) ≡ Ok y → ⊥) → Fault G h total (m ∷ bytes) err
other_fault G h total m bytes mark mk err e none never = subst (λ (d : PackError). Fault G h total (m ∷ bytes) d) (same e) (by mark mk)
  where
    at : ℕ
    at = total - length (m ∷ bytes)

    same : failed {A = ℕ} (other_kind (total - length (m ∷ bytes)) mark) ≡ Err err → other_kind (total - length (m ∷ bytes)) mark ≡ err
    same e = cc

    bad : Fault G h total (m ∷ bytes) (BadMarker (total - length (m ∷ bytes)))
    bad = one_fault G h total m bytes (BadMarker (total - length (m ∷ bytes))) tt refl (none _) refl never

    by : (mark : Mark) → marker m ≡ mark → Fault G h total (m ∷ bytes) (other_kind (total - length (m ∷ bytes)) mark)
    by k.Float is = one_fault G h total m bytes (refusal.Float (total - length (m ∷ bytes))) tt refl (none _)
        (ap (λ (q : ℕ). q ∷ []) (float_is m is)) never
    by _ is = bad

-- where a marker says another kind, nothing is read
pub no_ok : {A : Type 0} (err : PackError) (r : Result A PackError) (y : A) → r ≡ Err err → r ≡ Ok y → ⊥
no_ok err r y p q = let no : failed err ≡ Ok y = sym p ∙ q in cc

-- ---- items

-- so many items
abbrev pub ItemsOf : {A : Type 0} → (A → List ℕ → Type 0) → ℕ → List A → List ℕ → Type 0
ItemsOf R n xs b = Each R xs b × (length xs ≡ n)

abbrev pub items_reader : {A : Type 0} → Reader A → ℕ → Reader (List A)
items_reader one n all z = items_at (one all) n z

abbrev put : {A : Type 0} → A → List A × List ℕ → Read (List A)
put x others = Ok (x ∷ others.0, others.1)

next_open : {A : Type 0} (R : A → List ℕ → Type 0) (x : A) (front : List ℕ) → R x front → (n : ℕ) (z : List ℕ) →
    Open (ItemsOf R n) z → Open (ItemsOf R (suc n)) (front ++ z)
next_open R x front r n z o = (o.0, x ∷ o.1, ((front, z ++ o.0, r, o.2.0, append_assoc front z o.0), ap suc o.2.1))

pub items_fill : {A : Type 0} (R : A → List ℕ → Type 0) → Open R [] → (n : ℕ) → Open (ItemsOf R n) []
items_fill R default zero = ([], [], (refl, refl))
items_fill R default (suc n) =
    let f = items_fill R default n in
    (default.0 ++ f.0, default.1 ∷ f.1, ((default.0, f.0, default.2, f.2.0, refl), ap suc f.2.1))

first_open : {A : Type 0} (R : A → List ℕ → Type 0) → Open R [] → (n : ℕ) (z : List ℕ) → Open R z → Open (ItemsOf R (suc n)) z
first_open R default n z o =
    let f = items_fill R default n in
    (o.0 ++ f.0, o.1 ∷ f.1, ((z ++ o.0, f.0, o.2, f.2.0, sym (append_assoc z o.0 f.0)), ap suc f.2.1))

-- what a reader of one item is known to do
pub record Known {A : Type 0} (one : Reader A) (R : A → List ℕ → Type 0) : Type 0 where
  pub default : Open R []
  pub taken : (total : ℕ) (z : List ℕ) (y : A × List ℕ) → IsBytes z → one total z ≡ Ok y → Takes R z y
  pub again : (total : ℕ) (x : A) (b rest : List ℕ) → R x b → one total (b ++ rest) ≡ Ok (x, rest)
  pub finds : (total : ℕ) (z : List ℕ) (err : PackError) → IsBytes z → one total z ≡ Err err → Fault (GoesOn R) one total z err

module _ {A : Type 0} (one : Reader A) (R : A → List ℕ → Type 0) (known : Known one R) where
  pub items_fault : (n total : ℕ) (z : List ℕ) (err : PackError) → IsBytes z → items_at (one total) n z ≡ Err err →
      Fault (GoesOn (ItemsOf R n)) (items_reader one n) total z err
  unfolding items_at
  items_fault zero total z err fits e = absurd cc
  items_fault (suc n) total z err fits e = by (λ q fit. items_fault n total q err fit)
      (split (one total z) (λ first. items_at (one total) n first.1 >>= put first.0) err e)
    where
      by : ((q : List ℕ) → IsBytes q → items_at (one total) n q ≡ Err err →
          Fault (GoesOn (ItemsOf R n)) (items_reader one n) total q err) → (one total z ≡ Err err)
          ⊎ ((x : A × List ℕ) × (one total z ≡ Ok x) × ((items_at (one total) n x.1 >>= put x.0) ≡ Err err)) →
          Fault (GoesOn (ItemsOf R (suc n))) (items_reader one (suc n)) total z err
      by rest (inl q) =
          passed (GoesOn R) (GoesOn (ItemsOf R (suc n))) one (items_reader one (suc n)) total [] z z err refl
          (λ w g. goes_map R (ItemsOf R (suc n)) [] (λ u o. first_open R known.default n u o) err w g)
          (λ all w y o. let b = bind_ok (one all w) (λ first. items_at (one all) n first.1 >>= put first.0) y o in
          (b.0, b.1)) (known.finds total z err fits q)
      by rest (inr r) = by2 (split (items_at (one total) n r.0.1) (put r.0.0) err r.2)
        where
          t : Takes R z r.0
          t = known.taken total z r.0 fits r.1

          by2 : (items_at (one total) n r.0.1 ≡ Err err) ⊎ ((x : List A × List ℕ) × (items_at (one total) n r.0.1 ≡ Ok x)
              × (put r.0.0 x ≡ Err err)) → Fault (GoesOn (ItemsOf R (suc n))) (items_reader one (suc n)) total z err
          by2 (inl q) =
              passed (GoesOn (ItemsOf R n)) (GoesOn (ItemsOf R (suc n))) (items_reader one n)
              (items_reader one (suc n)) total t.front r.0.1 z err t.parts
              (λ w g. goes_map (ItemsOf R n) (ItemsOf R (suc n)) t.front (λ u o. next_open R r.0.0 t.front t.spells n u o) err w g)
              (λ all w y o.
              let F : A × List ℕ → Read (List A) = λ first. items_at (one all) n first.1 >>= put first.0 in
              let b = bind_ok (items_at (one all) n w) (put r.0.0) y
              (sym (ap (λ (q : Read A). q >>= F) (known.again all r.0.0 t.front w t.spells)) ∙ o) in
              (b.0, b.1))
              (rest r.0.1 t.rest_fits q)
          by2 (inr x) = absurd (let no : put r.0.0 x.0 ≡ Err err = x.2 in cc)

-- ---- a key that differs from each of the earlier

-- it differs from each at that key's own place
other_byte : ℕ → ℕ
other_byte b = cond (eqb b 97) 98 97

other_differs : (b : ℕ) → other_byte b ≡ b → ⊥
unfolding other_byte
other_differs b e = by (eqb b 97) refl e
  where
    by : (t : Bool) → eqb b 97 ≡ t → cond t 98 97 ≡ b → ⊥
    by true q o = let s : b ≡ 97 = eqb-true b 97 q in omega arith
    by false q o = let s : eqb b 97 ≡ true = eq-eqb b 97 (sym o) in let no : true ≡ false = sym s ∙ q in cc

other_ascii : (b : ℕ) → other_byte b < 128
unfolding other_byte
other_ascii b = by (eqb b 97)
  where
    by : (t : Bool) → cond t 98 97 < 128
    by true = omega arith
    by false = omega arith

diagonal : ℕ → List (List ℕ) → List ℕ
diagonal i [] = []
diagonal i (k ∷ ks) = other_byte (get_or k i 0) ∷ diagonal (suc i) ks

diagonal_len : (i : ℕ) (ks : List (List ℕ)) → length (diagonal i ks) ≡ length ks
unfolding diagonal
diagonal_len i [] = refl
diagonal_len i (k ∷ ks) = ap suc (diagonal_len (suc i) ks)

diagonal_ascii : (i : ℕ) (ks : List (List ℕ)) (j : ℕ) → get_or (diagonal i ks) j 0 < 128
unfolding diagonal
diagonal_ascii i [] j = omega arith
diagonal_ascii i (k ∷ ks) zero = other_ascii (get_or k i 0)
diagonal_ascii i (k ∷ ks) (suc j) = diagonal_ascii (suc i) ks j

at_end : (front more : List ℕ) (b : ℕ) → get_or (front ++ b ∷ more) (length front) 0 ≡ b
at_end [] more b = refl
at_end (x ∷ front) more b = at_end front more b

none_of : (a b : Bool) → a ≡ false → b ≡ false → (a || b) ≡ false
none_of true b p q = absurd cc
none_of false b p q = q

pub same_bytes : (x y : List ℕ) → bytes_eq x y ≡ true → x ≡ y
same_bytes [] [] e = refl
same_bytes [] (b ∷ y) e = absurd cc
same_bytes (a ∷ x) [] e = absurd cc
same_bytes (a ∷ x) (b ∷ y) e =
    let t = both (eqb a b) (bytes_eq x y) e in
    let i : a ≡ b = eqb-true a b t.0 in
    let j : x ≡ y = same_bytes x y t.1 in
    cc

diagonal_new : (front : List ℕ) (ks : List (List ℕ)) → list_any (bytes_eq (front ++ diagonal (length front) ks)) ks ≡ false
unfolding diagonal
diagonal_new front [] = refl
diagonal_new front (k ∷ ks) =
    let b = other_byte (get_or k (length front) 0) in
    let key = front ++ b ∷ diagonal (suc (length front)) ks in
    let longer : (front ++ b ∷ []) ++ diagonal (length (front ++ b ∷ [])) ks ≡ key =
    append_assoc front (b ∷ []) (diagonal (length (front ++ b ∷ [])) ks)
    ∙ ap (λ (i : ℕ). front ++ b ∷ diagonal i ks) (let e : length (front ++ b ∷ []) ≡ suc (length front) = omega (
      arith,
      length-append front (b ∷ []),
    ) in e) in
    none_of (bytes_eq key k) (list_any (bytes_eq key) ks) (unequal (bytes_eq key k) refl)
    (subst (λ (q : List ℕ). list_any (bytes_eq q) ks ≡ false) longer (diagonal_new (front ++ b ∷ []) ks))
  where
    unequal : (t : Bool) → bytes_eq (front ++ other_byte (get_or k (length front) 0) ∷ diagonal (suc (length front)) ks) k ≡ t →
        bytes_eq (front ++ other_byte (get_or k (length front) 0) ∷ diagonal (suc (length front)) ks) k ≡ false
    unequal false q = q
    unequal true q =
        let b = other_byte (get_or k (length front) 0) in
        let same : front ++ b ∷ diagonal (suc (length front)) ks ≡ k = same_bytes (front ++ b ∷ diagonal (suc (length front)) ks) k q in
        absurd (other_differs (get_or k (length front) 0) (sym (at_end front (diagonal (suc (length front)) ks) b)
        ∙ ap (λ (z : List ℕ). get_or z (length front) 0) same))

-- a key for each list of earlier ones
pub record Fresh (earlier : List (List ℕ)) : Type 0 where
  pub key : List ℕ
  pub spelled : List ℕ
  pub spells : SpellsText key spelled
  pub differs : list_any (bytes_eq key) earlier ≡ false

pub fresh : (earlier : List (List ℕ)) → length earlier ≤ max_size → Fresh earlier
fresh earlier le =
    let key = diagonal 0 earlier in
    let len = diagonal_len 0 earlier in
    record {
      key = key;
      spelled = (0xD2 ∷ to_be_bytes w32 (length key)) ++ key;
      spells = (
        0xD2 ∷ to_be_bytes w32 (length key),
        s.wide _ (s.four (omega arith)),
        IsUtf8-from_ascii key (diagonal_ascii 0 earlier),
        refl,
      );
      differs = diagonal_new [] earlier;
    }

-- ---- texts behind their heads

pub spelled_on : (n : ℕ) (front : List ℕ) → IsHead texts n front → (z : List ℕ) → Open (TextOf n) z → Open SpellsText (front ++ z)
spelled_on n front hd z o =
    let t = o.1 in
    let is : (front ++ z) ++ o.0 ≡ front ++ t = append_assoc front z o.0 ∙ ap (λ (q : List ℕ). front ++ q) o.2.2 in
    (o.0, t, (front, subst (λ (k : ℕ). IsHead texts k front) (sym o.2.1) hd, o.2.0, is))

-- a head that more bytes make whole
pub spelled_cut : (n : ℕ) (b more : List ℕ) → IsHead texts n (b ++ more) → Open SpellsText b
spelled_cut n b more hd =
    let t = text_fill n [] IsUtf8-nil (omega arith) in
    let o = spelled_on n (b ++ more) hd [] t in
    (more ++ o.0, o.1, subst (SpellsText o.1) (ap (λ (q : List ℕ). q ++ o.0) (append-nil (b ++ more)) ∙ append_assoc b more o.0) o.2)

abbrev pub KeyGoes : PackError → List ℕ → Type 0
KeyGoes err z = (z ≡ []) ⊎ (InText err × Open SpellsText z)

key_by_fault : (total m : ℕ) (bytes : List ℕ) (err : PackError) (mark : Mark) → marker m ≡ mark → Says m mark → IsBytes bytes →
    key_by total (total - length (m ∷ bytes)) mark bytes ≡ Err err → Fault KeyGoes key_at total (m ∷ bytes) err
unfolding key_at
key_by_fault total m bytes err (k.Text size) mk sa fits e =
    let is : (all : ℕ) (z : List ℕ) →
    key_at all (m ∷ z) ≡ (size_at (all - length (m ∷ z)) size z >>= λ n. text_reader n.0 all n.1) =
    λ all z. ap (λ (q : Mark). key_by all (all - length (m ∷ z)) q z) mk in
    sized_fault KeyGoes key_at text_reader m size (IsHead texts) (kind_heading texts m size sa) is (λ at. inl refl)
    (λ z more n hd. inr (tt, spelled_cut n (m ∷ z) more hd)) TextGoes
    (λ n front hd all z d fit q. text_fault n all z d q)
    (λ n front hd d z g. inr (g.0, spelled_on n front hd z g.1)) total bytes err fits (is total bytes ∙ e)
key_by_fault total m bytes err mark mk sa fits e =
    let at = total - length (m ∷ bytes) in
    let same : KeyNotText at ≡ err = cc in
    subst (λ (d : PackError). Fault KeyGoes key_at total (m ∷ bytes) d) same
    (one_fault KeyGoes key_at total m bytes (KeyNotText at) tt refl (inl refl) refl
    (λ all c y o. no_ok (KeyNotText (all - length (m ∷ c))) (key_at all (m ∷ c)) y
    (ap (λ (q : Mark). key_by all (all - length (m ∷ c)) q c) mk) o))

pub key_fault : (total : ℕ) (z : List ℕ) (err : PackError) → IsBytes z → key_at total z ≡ Err err → Fault KeyGoes key_at total z err
unfolding key_at
key_fault total [] err fits e = let same : Short ≡ err = cc in
    subst (λ (d : PackError). Fault KeyGoes key_at total [] d) same (short_fault KeyGoes key_at total [] (inl refl))
key_fault total (m ∷ bytes) err fits e = key_by_fault total m bytes err (marker m) refl (says m (fits 0)) (IsBytes-rest m bytes fits) e

label_open : (z : List ℕ) → Open SpellsText z → Open Label z
label_open z o = (o.0, v.Text o.1, s.label o.1 (z ++ o.0) o.2)

pub empty_text : Open SpellsText []
empty_text = (0x80 ∷ [], [], (0x80 ∷ [], s.tiny (omega arith), IsUtf8-nil, refl))

as_text : List ℕ × List ℕ → Value × List ℕ
as_text t = (v.Text t.0, t.1)

label_by_fault : (total m : ℕ) (bytes : List ℕ) (err : PackError) (mark : Mark) → marker m ≡ mark → Says m mark → IsBytes bytes →
    label_by total (total - length (m ∷ bytes)) mark bytes ≡ Err err → Fault (GoesOn Label) label_at total (m ∷ bytes) err
unfolding label_at
label_by_fault total m bytes err (k.Text size) mk sa fits e =
    let K : ℕ → Reader Value = λ n all z. text_reader n all z >>= λ t. Ok (v.Text t.0, t.1) in
    let is : (all : ℕ) (z : List ℕ) → label_at all (m ∷ z) ≡ (size_at (all - length (m ∷ z)) size z >>= λ n. K n.0 all n.1) =
    λ all z. ap (λ (q : Mark). label_by all (all - length (m ∷ z)) q z) mk in
    sized_fault (GoesOn Label) label_at K m size (IsHead texts) (kind_heading texts m size sa) is (λ at. inl (label_open [] empty_text))
    (λ z more n hd. inl (label_open (m ∷ z) (spelled_cut n (m ∷ z) more hd))) TextGoes
    (λ n front hd all z d fit q. wrapped (TextGoes n) (text_reader n) (λ t. (v.Text t.0, t.1)) all z d q (λ p. text_fault n all z d p))
    (λ n front hd d z g. inl (label_open (front ++ z) (spelled_on n front hd z g.1))) total bytes err fits (is total bytes ∙ e)
label_by_fault total m bytes err mark mk sa fits e =
    other_fault (GoesOn Label) label_at total m bytes mark mk err (let q : other_kind (total - length (m ∷ bytes)) mark ≡ err =
    cc in ap (λ (d : PackError). failed d) q) (λ d. inl (label_open [] empty_text))
    (λ all c y o. no_ok (other_kind (all - length (m ∷ c)) mark) (label_at all (m ∷ c)) y
    (ap (λ (q : Mark). label_by all (all - length (m ∷ c)) q c) mk) o)

label_fault : (total : ℕ) (z : List ℕ) (err : PackError) → IsBytes z → label_at total z ≡ Err err →
    Fault (GoesOn Label) label_at total z err
unfolding label_at
label_fault total [] err fits e = let same : Short ≡ err = cc in
    subst (λ (d : PackError). Fault (GoesOn Label) label_at total [] d) same
    (short_fault (GoesOn Label) label_at total [] (inl (label_open [] empty_text)))
label_fault total (m ∷ bytes) err fits e = label_by_fault total m bytes err (marker m) refl (says m (fits 0)) (IsBytes-rest m bytes fits) e

labels_known : Known label_at Label
labels_known = record { default = label_open [] empty_text; taken = label_taken; again = label_again; finds = label_fault }

-- ---- lists

pub listed_on : {A : Type 0} (kind : Kind) (R : A → List ℕ → Type 0) (n : ℕ) (front : List ℕ) → IsHead kind n front → (z : List ℕ) →
    Open (ItemsOf R n) z → Open (Listed kind R) (front ++ z)
listed_on kind R n front hd z o = (
  o.0,
  o.1,
  (
    front,
    z ++ o.0,
    subst (λ (k : ℕ). IsHead kind k front) (sym o.2.1) hd,
    o.2.0,
    append_assoc front z o.0,
  ),
)

pub listed_cut : {A : Type 0} (kind : Kind) (R : A → List ℕ → Type 0) → Open R [] → (n : ℕ) (b more : List ℕ) →
    IsHead kind n (b ++ more) → Open (Listed kind R) b
listed_cut kind R default n b more hd =
    let o = listed_on kind R n (b ++ more) hd [] (items_fill R default n) in
    (more ++ o.0, o.1, subst (Listed kind R o.1) (ap (λ (q : List ℕ). q ++ o.0) (append-nil (b ++ more)) ∙ append_assoc b more o.0) o.2)

pub no_items : {A : Type 0} (kind : Kind) (R : A → List ℕ → Type 0) → Open (Listed kind R) []
no_items kind R = ((kind.tiny + 0) ∷ [], [], ((kind.tiny + 0) ∷ [], [], s.tiny (omega arith), refl, refl))

labels_by_fault : (total m : ℕ) (bytes : List ℕ) (err : PackError) (mark : Mark) → marker m ≡ mark → Says m mark → IsBytes bytes →
    labels_by total (total - length (m ∷ bytes)) mark bytes ≡ Err err
    → Fault (GoesOn (Listed lists Label)) labels_at total (m ∷ bytes) err
unfolding labels_at
labels_by_fault total m bytes err (k.List size) mk sa fits e =
    let G = GoesOn (Listed lists Label) in
    let is : (all : ℕ) (z : List ℕ) →
    labels_at all (m ∷ z) ≡ (size_at (all - length (m ∷ z)) size z >>= λ n. items_reader label_at n.0 all n.1) =
    λ all z. ap (λ (q : Mark). labels_by all (all - length (m ∷ z)) q z) mk in
    sized_fault G labels_at (items_reader label_at) m size (IsHead lists) (kind_heading lists m size sa) is
    (λ at. inl (no_items lists Label))
    (λ z more n hd. inl (listed_cut lists Label labels_known.default n (m ∷ z) more hd)) (λ n. GoesOn (ItemsOf Label n))
    (λ n front hd all z d fit q. items_fault label_at Label labels_known n all z d fit q)
    (λ n front hd d z g. goes_map (ItemsOf Label n) (Listed lists Label) front
    (listed_on lists Label n front hd) d z g) total bytes err fits (is total bytes ∙ e)
labels_by_fault total m bytes err mark mk sa fits e =
    other_fault (GoesOn (Listed lists Label)) labels_at total m bytes mark mk err
    (let q : other_kind (total - length (m ∷ bytes)) mark ≡ err = cc in
    ap (λ (d : PackError). failed d) q) (λ d. inl (no_items lists Label))
    (λ all c y o. no_ok (other_kind (all - length (m ∷ c)) mark) (labels_at all (m ∷ c)) y
    (ap (λ (q : Mark). labels_by all (all - length (m ∷ c)) q c) mk) o)

pub labels_fault : (total : ℕ) (z : List ℕ) (err : PackError) → IsBytes z → labels_at total z ≡ Err err →
    Fault (GoesOn (Listed lists Label)) labels_at total z err
unfolding labels_at
labels_fault total [] err fits e = let same : Short ≡ err = cc in
    subst (λ (d : PackError). Fault (GoesOn (Listed lists Label)) labels_at total [] d) same
    (short_fault (GoesOn (Listed lists Label)) labels_at total [] (inl (no_items lists Label)))
labels_fault total (m ∷ bytes) err fits e = labels_by_fault total m bytes err (marker m) refl (says m (fits 0))
    (IsBytes-rest m bytes fits) e

-- ---- integers

pub zero_int : Open SpellsInt []
zero_int = (0 ∷ [], pos 0, s.positive 0 (omega arith))

pub int_fault : {A : Type 0} (G : PackError → List ℕ →
    Type 0) (h : Reader A) (total m : ℕ) (bytes : List ℕ) (err : PackError) (w : Width) (limit : ℕ) → Wide w limit → (mark : ℕ) → m ≡ mark
    → ((n : ℕ) → n < limit → SpellsInt (cast_signed w n) (mark ∷ to_be_bytes w n)) →
    (Open SpellsInt (m ∷ bytes) → G Short (m ∷ bytes)) → IsBytes bytes → integer_at w bytes ≡ Err err → Fault G h total (m ∷ bytes) err
int_fault G h total m bytes err w limit wide mark sa spell goes fits e =
    by (split (number_at w bytes) (λ n. Ok (cast_signed w n.0, n.1)) err e)
  where
    by : (number_at w bytes ≡ Err err) ⊎ ((n : ℕ × List ℕ) × (number_at w bytes ≡ Ok n)
        × (done {A = ℤ × List ℕ} (cast_signed w n.0, n.1) ≡ Err err)) → Fault G h total (m ∷ bytes) err
    by (inl q) =
        let stop = number_stop w bytes err q in
        let n = number_open w limit wide bytes fits stop.1 in
        let z = zeros (byte_len w - length bytes) in
        let sp : SpellsInt (cast_signed w n.0) (m ∷ (bytes ++ z)) =
        subst (λ (q : List ℕ). SpellsInt (cast_signed w n.0) (m ∷ q)) n.1
        (subst (λ (k : ℕ). SpellsInt (cast_signed w n.0) (k ∷ to_be_bytes w n.0)) (sym sa) (spell n.0 n.2)) in
        subst (λ (d : PackError). Fault G h total (m ∷ bytes) d) (sym stop.0) (short_fault G h total (m ∷ bytes) (goes (
          z,
          cast_signed w n.0,
          sp,
        )))
    by (inr r) = absurd (let no : done {A = ℤ × List ℕ} (cast_signed w r.0.0, r.0.1) ≡ Err err = r.2 in cc)

id_by_fault : (total m : ℕ) (bytes : List ℕ) (err : PackError) (mark : Mark) → marker m ≡ mark → Says m mark → IsBytes bytes →
    id_by (total - length (m ∷ bytes)) mark bytes ≡ Err err → Fault (GoesOn SpellsInt) id_at total (m ∷ bytes) err
unfolding id_at
id_by_fault total m bytes err (k.Small z) mk sa fits e = absurd cc
id_by_fault total m bytes err k.Int1 mk sa fits e =
    int_fault (GoesOn SpellsInt) id_at total m bytes err w8 (2 ^ 8) wide8 0xC8 sa s.int1 inl fits e
id_by_fault total m bytes err k.Int2 mk sa fits e =
    int_fault (GoesOn SpellsInt) id_at total m bytes err w16 (2 ^ 16) wide16 0xC9 sa s.int2 inl fits e
id_by_fault total m bytes err k.Int4 mk sa fits e =
    int_fault (GoesOn SpellsInt) id_at total m bytes err w32 (2 ^ 32) wide32 0xCA sa s.int4 inl fits e
id_by_fault total m bytes err k.Int8 mk sa fits e =
    int_fault (GoesOn SpellsInt) id_at total m bytes err w64 (2 ^ 64) wide64 0xCB sa s.int8 inl fits e
id_by_fault total m bytes err mark mk sa fits e =
    other_fault (GoesOn SpellsInt) id_at total m bytes mark mk err (let q : other_kind (total - length (m ∷ bytes)) mark ≡ err =
    cc in ap (λ (d : PackError). failed d) q) (λ d. inl zero_int)
    (λ all c y o. no_ok (other_kind (all - length (m ∷ c)) mark) (id_at all (m ∷ c)) y
    (ap (λ (q : Mark). id_by (all - length (m ∷ c)) q c) mk) o)

pub id_fault : (total : ℕ) (z : List ℕ) (err : PackError) → IsBytes z → id_at total z ≡ Err err → Fault (GoesOn SpellsInt) id_at total z err
unfolding id_at
id_fault total [] err fits e = let same : Short ≡ err = cc in
    subst (λ (d : PackError). Fault (GoesOn SpellsInt) id_at total [] d) same (short_fault (GoesOn SpellsInt) id_at total [] (inl zero_int))
id_fault total (m ∷ bytes) err fits e = id_by_fault total m bytes err (marker m) refl (says m (fits 0)) (IsBytes-rest m bytes fits) e

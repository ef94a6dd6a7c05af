-- Where dictionaries, nodes and values stop.
use Rattle.std.proofs.Common.{◌≡◌, ◌⊎◌, inl, inr, ℕ, zero, suc, ◌+◌, ◌-◌, ◌<◌, ◌≤◌, Bool, true, false, not, cond, ◌&&◌, IsTrue}
use Rattle.std.proofs.Common.{List, [], ◌∷◌, ◌++◌, length, Ok, Err, refl, sym, ap, subst, ◌∙◌, append_assoc, append-nil, arith}
use Rattle.std.specs.List.{list_any}
use Rattle.std.specs.Str.{bytes_eq}
use Rattle.std.proofs.lemmas.List.{length-append}
use Rattle.ncc_pack.specs.declared.value.Value.{Value}
use Rattle.ncc_pack.specs.declared.error.PackError.{PackError}
use Rattle.ncc_pack.specs.declared.error.PackError.TheVariants.{Short, RepeatedKey}
use Rattle.ncc_pack.specs.Limits.{max_size}
use Rattle.ncc_pack.specs.Keys.{distinct}
use Rattle.ncc_pack.specs.Reading.{◌>>=◌, Read, key_at, pairs_at}
use Rattle.ncc_pack.specs.Spells.{Kind, texts, lists, dicts, bytes_mark, IsWide, IsHead, SpellsInt, SpellsText, Each, Listed, Pair}
use Rattle.ncc_pack.specs.Spells.{Label, Holding, Spells, Fields, Node, levels}
use Rattle.ncc_pack.specs.Spells as s
use Rattle.ncc_pack.proofs.Fields.{IsBytes, bind_ok}
use Rattle.ncc_pack.proofs.Taken.{Takes, key_taken}
use Rattle.ncc_pack.proofs.Spelled.{key_again}
use Rattle.ncc_pack.proofs.Faults.{Open, GoesOn, Reader, Fault, goes_map, passed, split}
use Rattle.ncc_pack.proofs.Stopped.{failed, no_ok, Known, fresh, KeyGoes, key_fault}

-- ---- pairs

-- so many pairs behind those with the earlier keys
abbrev pub PairsOf : (Value → List ℕ → Type 0) → List (List ℕ) → ℕ → List (List ℕ × Value) → List ℕ → Type 0
PairsOf R earlier n ps b = Each (Pair R) ps b × (length ps ≡ n) × IsTrue (distinct earlier ps)

abbrev pub pairs_reader : Reader Value → List (List ℕ) → ℕ → Reader (List (List ℕ × Value))
pairs_reader one earlier n all z = pairs_at all (one all) earlier n z

abbrev put_pair : List ℕ → Value → List (List ℕ × Value) × List ℕ → Read (List (List ℕ × Value))
put_pair key x more = Ok ((key, x) ∷ more.0, more.1)

new_key : (a b : Bool) → a ≡ false → IsTrue b → IsTrue (not a && b)
new_key true b e h = absurd cc
new_key false b e h = h

module _ (R : Value → List ℕ → Type 0) (default : Open R []) where
  -- behind a key and its value
  pair_open : (earlier : List (List ℕ)) (n : ℕ) (key front : List ℕ) → SpellsText key front →
      list_any (bytes_eq key) earlier ≡ false → (x : Value) (value : List ℕ) → R x value
      → (z : List ℕ) → Open (PairsOf R (earlier ++ key ∷ []) n) z → Open (PairsOf R earlier (suc n)) ((front ++ value) ++ z)
  pair_open earlier n key front sp new x value r z o = (
    o.0,
    (key, x) ∷ o.1,
    (
      (front ++ value, z ++ o.0, (front, value, sp, r, refl), o.2.0, append_assoc (front ++ value) z o.0),
      ap suc o.2.1,
      new_key (list_any (bytes_eq key) earlier) (distinct (earlier ++ key ∷ []) o.1) new o.2.2,
    ),
  )

  pub pairs_fill : (n : ℕ) (earlier : List (List ℕ)) → length earlier + n ≤ max_size → Open (PairsOf R earlier n) []
  unfolding pair_open
  pairs_fill zero earlier le = ([], [], (refl, refl, refl))
  pairs_fill (suc n) earlier le =
      let f = fresh earlier (omega arith) in
      let more = pairs_fill n (earlier ++ f.key ∷ []) (omega (arith, length-append earlier (f.key ∷ []))) in
      let o = pair_open earlier n f.key f.spelled f.spells f.differs default.1 default.0 default.2 [] more in (
        (f.spelled ++ default.0) ++ more.0,
        o.1,
        (subst (Each (Pair R) o.1) (ap (λ (q : List ℕ). q ++ more.0) (append-nil (f.spelled ++ default.0))) o.2.0, o.2.1, o.2.2),
      )

  -- within the value behind a key
  value_open : (earlier : List (List ℕ)) (n : ℕ) → length earlier + suc n ≤ max_size → (key front : List ℕ) → SpellsText key front →
      list_any (bytes_eq key) earlier ≡ false
      → (z : List ℕ) → Open R z → Open (PairsOf R earlier (suc n)) (front ++ z)
  unfolding pair_open
  value_open earlier n le key front sp new z o =
      let more = pairs_fill n (earlier ++ key ∷ []) (omega (arith, length-append earlier (key ∷ []))) in
      let p = pair_open earlier n key front sp new o.1 (z ++ o.0) o.2 [] more in
      let is : ((front ++ (z ++ o.0)) ++ []) ++ more.0 ≡ (front ++ z) ++ (o.0 ++ more.0) =
      ap (λ (q : List ℕ). q ++ more.0) (append-nil (front ++ (z ++ o.0)) ∙ sym (append_assoc front z o.0))
      ∙ append_assoc (front ++ z) o.0 more.0 in
      (o.0 ++ more.0, p.1, subst (PairsOf R earlier (suc n) p.1) is p.2)

  key_open : (earlier : List (List ℕ)) (n : ℕ) → length earlier + suc n ≤ max_size → (key front : List ℕ) → SpellsText key front →
      list_any (bytes_eq key) earlier ≡ false → Open (PairsOf R earlier (suc n)) front
  key_open earlier n le key front sp new = subst (Open (PairsOf R earlier (suc n))) (append-nil front)
      (value_open earlier n le key front sp new [] default)

  key_goes : (earlier : List (List ℕ)) (n : ℕ) → length earlier + suc n ≤ max_size → (err : PackError) (z : List ℕ) →
      KeyGoes err z → GoesOn (PairsOf R earlier (suc n)) err z
  key_goes earlier n le err z (inl none) = inl (subst (Open (PairsOf R earlier (suc n))) (sym none) (pairs_fill (suc n) earlier le))
  key_goes earlier n le err z (inr g) = let f = fresh earlier (omega arith) in inr (
    g.0,
    record {
      before = [];
      cut = z;
      is = refl;
      ends = (g.1.1, g.1.0, g.1.2);
      other = (f.key, f.spelled, f.spells, key_open earlier n le f.key f.spelled f.spells f.differs);
    },
  )

text_some : (t b : List ℕ) → SpellsText t b → 0 < length b
text_some t b sp = let h = head_some (length t) sp.0 sp.1 in omega (arith, ap length sp.3, length-append sp.0 t)
  where
    wide_some : (mark n : ℕ) (h : List ℕ) → IsWide mark n h → 0 < length h
    wide_some mark n _ (s.one lt) = omega arith
    wide_some mark n _ (s.two lt) = omega arith
    wide_some mark n _ (s.four le) = omega arith

    head_some : (n : ℕ) (h : List ℕ) → IsHead texts n h → 0 < length h
    head_some n _ (s.tiny lt) = omega arith
    head_some n _ (s.wide h w) = wide_some 0xD0 n h w

module _ (one : Reader Value) (R : Value → List ℕ → Type 0) (known : Known one R) where
  -- the steps behind a key that was read, and a value
  abbrev behind : ℕ → List (List ℕ) → ℕ → List ℕ → List ℕ → Read (List (List ℕ × Value))
  behind all earlier n key z = one all z >>= λ x. pairs_at all (one all) (earlier ++ key ∷ []) n x.1 >>= put_pair key x.0

  after_key : (all : ℕ) (earlier : List (List ℕ)) (n : ℕ) (key front z : List ℕ) (t : Bool) → SpellsText key front →
      list_any (bytes_eq key) earlier ≡ t
      → pairs_at all (one all) earlier (suc n) (front ++ z) ≡
      cond t (Err (RepeatedKey (all - length (front ++ z)))) (behind all earlier n key z)
  unfolding pairs_at
  after_key all earlier n key front z t sp is = rw (key_again all key front z sp, is) refl

  repeated : (earlier : List (List ℕ)) (n : ℕ) → length earlier + suc n ≤ max_size →
      (total : ℕ) (z : List ℕ) (key : List ℕ × List ℕ) → Takes SpellsText z key → list_any (bytes_eq key.0) earlier ≡ true
      → Fault (GoesOn (PairsOf R earlier (suc n))) (pairs_reader one earlier (suc n)) total z (RepeatedKey (total - length z))
  repeated earlier n le total z key t again = record {
    before = [];
    offence = t.front;
    after = key.1;
    parts = t.parts;
    place = ap (λ (q : List ℕ). total - length q) t.parts;
    goes_on = inl (pairs_fill R known.default (suc n) earlier le);
    never = λ _ all c y o. no_ok (RepeatedKey (all - length (t.front ++ c)))
        (pairs_at all (one all) earlier (suc n) (t.front ++ c)) y (after_key all earlier n key.0 t.front c true t.spells again) o;
    some = λ _. text_some key.0 t.front t.spells;
    shape = (key.0, t.spells);
    ends = λ d. absurd (let no : RepeatedKey (total - length z) ≡ Short = d in cc);
    takes = λ ill. absurd ill;
  }

  abbrev Finds : ℕ → ℕ → Type 0
  Finds total n = (earlier : List (List ℕ)) (z : List ℕ) (err : PackError) → length earlier + n ≤ max_size → IsBytes z →
      pairs_at total (one total) earlier n z ≡ Err err
      → Fault (GoesOn (PairsOf R earlier n)) (pairs_reader one earlier n) total z err

  more_fault : (n total : ℕ) → Finds total n → (earlier : List (List ℕ)) (z : List ℕ) (err : PackError) →
      length earlier + suc n ≤ max_size → IsBytes z → (key : List ℕ × List ℕ) → Takes SpellsText z key →
      list_any (bytes_eq key.0) earlier ≡ false
      → behind total earlier n key.0 key.1 ≡ Err err →
      Fault (GoesOn (PairsOf R earlier (suc n))) (pairs_reader one earlier (suc n)) total z err
  more_fault n total rest earlier z err le fits key t new e =
      by (split (one total key.1) (λ x. pairs_at total (one total) (earlier ++ key.0 ∷ []) n x.1 >>= put_pair key.0 x.0) err e)
    where
      by : (one total key.1 ≡ Err err) ⊎ ((x : Value × List ℕ) × (one total key.1 ≡ Ok x)
          × ((pairs_at total (one total) (earlier ++ key.0 ∷ []) n x.1 >>= put_pair key.0 x.0) ≡ Err err))
          → Fault (GoesOn (PairsOf R earlier (suc n))) (pairs_reader one earlier (suc n)) total z err
      by (inl q) =
          passed (GoesOn R) (GoesOn (PairsOf R earlier (suc n))) one (pairs_reader one earlier (suc n)) total t.front key.1 z err t.parts
          (λ w g. goes_map R (PairsOf R earlier (suc n)) t.front
          (λ u o. value_open R known.default earlier n le key.0 t.front t.spells new u o) err w g)
          (λ all w y o. let b = bind_ok (one all w) (λ x. pairs_at all (one all)
          (earlier ++ key.0 ∷ []) n x.1 >>= put_pair key.0 x.0) y
          (sym (after_key all earlier n key.0 t.front w false t.spells new) ∙ o) in (b.0, b.1))
          (known.finds total key.1 err t.rest_fits q)
      by (inr r) = by2 (split (pairs_at total (one total) (earlier ++ key.0 ∷ []) n r.0.1) (put_pair key.0 r.0.0) err r.2)
        where
          x : Takes R key.1 r.0
          x = known.taken total key.1 r.0 t.rest_fits r.1

          by2 : (pairs_at total (one total) (earlier ++ key.0 ∷ []) n r.0.1 ≡ Err err)
              ⊎ ((p : List (List ℕ × Value) × List ℕ) × (pairs_at total (one total) (earlier ++ key.0 ∷ []) n r.0.1 ≡ Ok p)
              × (put_pair key.0 r.0.0 p ≡ Err err))
              → Fault (GoesOn (PairsOf R earlier (suc n))) (pairs_reader one earlier (suc n)) total z err
          by2 (inl q) =
              passed (GoesOn (PairsOf R (earlier ++ key.0 ∷ []) n)) (GoesOn (PairsOf R earlier (suc n)))
              (pairs_reader one (earlier ++ key.0 ∷ []) n) (pairs_reader one earlier (suc n)) total (t.front ++ x.front) r.0.1 z err
              (t.parts ∙ ap (λ (w : List ℕ). t.front ++ w) x.parts ∙ sym (append_assoc t.front x.front r.0.1))
              (λ w g. goes_map (PairsOf R (earlier ++ key.0 ∷ []) n) (PairsOf R earlier (suc n)) (t.front ++ x.front)
              (λ u o. pair_open R known.default earlier n key.0 t.front t.spells new r.0.0 x.front x.spells u o) err w g)
              (λ all w y o.
              let F : Value × List ℕ → Read (List (List ℕ × Value)) =
              λ a. pairs_at all (one all) (earlier ++ key.0 ∷ []) n a.1 >>= put_pair key.0 a.0 in
              let one_step : (one all (x.front ++ w) >>= F) ≡ F (
                r.0.0,
                w,
              ) = ap (λ (a : Read Value). a >>= F) (known.again all r.0.0 x.front w x.spells) in
              let start : pairs_at all (one all) earlier (suc n) ((t.front ++ x.front) ++ w) ≡ behind all earlier n key.0 (x.front ++ w) =
              ap (pairs_at all (one all) earlier (suc n)) (append_assoc t.front x.front w)
              ∙ after_key all earlier n key.0 t.front (x.front ++ w) false t.spells new in
              let b = bind_ok (pairs_at all (one all) (earlier ++ key.0 ∷ []) n w) (put_pair key.0 r.0.0) y (sym one_step
              ∙ sym start ∙ o) in
              (b.0, b.1))
              (rest (earlier ++ key.0 ∷ []) r.0.1 err (omega (arith, length-append earlier (key.0 ∷ []))) x.rest_fits q)
          by2 (inr p) = absurd (let no : put_pair key.0 r.0.0 p.0 ≡ Err err = p.2 in cc)

  pub pairs_fault : (n total : ℕ) → Finds total n
  unfolding pairs_at
  pairs_fault zero total earlier z err le fits e = absurd cc
  pairs_fault (suc n) total earlier z err le fits e = by (pairs_fault n total) (split (key_at total z) F err e)
    where
      F : List ℕ × List ℕ → Read (List (List ℕ × Value))
      F key = cond (list_any (bytes_eq key.0) earlier) (Err (RepeatedKey (total - length z))) (behind total earlier n key.0 key.1)

      by : Finds total n → (key_at total z ≡ Err err) ⊎ ((key : List ℕ × List ℕ) × (key_at total z ≡ Ok key)
          × (cond (list_any (bytes_eq key.0) earlier) (Err (RepeatedKey (total - length z))) (behind total earlier n key.0 key.1) ≡
          Err err))
          → Fault (GoesOn (PairsOf R earlier (suc n))) (pairs_reader one earlier (suc n)) total z err
      by rest (inl q) =
          passed KeyGoes (GoesOn (PairsOf R earlier (suc n))) key_at (pairs_reader one earlier (suc n)) total [] z z err refl
          (λ w g. key_goes R known.default earlier n le err w g)
          (λ all w y o. let b = bind_ok (key_at all w) (λ key. cond (list_any (bytes_eq key.0) earlier)
          (Err (RepeatedKey (all - length w))) (behind all earlier n key.0 key.1)) y o in (b.0, b.1)) (key_fault total z err fits q)
      by rest (inr r) = with (list_any (bytes_eq r.0.0) earlier) refl r.2
        where
          t : Takes SpellsText z r.0
          t = key_taken total z r.0 fits r.1

          with : (b : Bool) → list_any (bytes_eq r.0.0) earlier ≡ b →
              cond b (failed (RepeatedKey (total - length z))) (behind total earlier n r.0.0 r.0.1) ≡ Err err →
              Fault (GoesOn (PairsOf R earlier (suc n))) (pairs_reader one earlier (suc n)) total z err
          with true is o = let same : RepeatedKey (total - length z) ≡ err = cc in
              subst (λ (d : PackError). Fault (GoesOn (PairsOf R earlier (suc n)))
              (pairs_reader one earlier (suc n)) total z d) same (repeated earlier n le total z r.0 t is)
          with false is o = more_fault n total rest earlier z err le fits r.0 t is o

-- One call more behind those that are kept.
use Rattle.std.proofs.Common.{◌≡◌, inl, inr, ℕ, ◌+◌, ◌≤◌, List, [], ◌∷◌, ◌++◌, length, take, drop, map, refl, sym, ◌∙◌}
use Rattle.std.proofs.Common.{ap, subst, arith, length-append, length-drop}
use Rattle.std.proofs.lemmas.List.{take_all, take-append-le, drop-append-le, map-append}
use Rattle.std.proofs.lemmas.Bool.{cases_eq}
use Rattle.ncc_base.specs.Disk.{Asked, Elapses, AsksOneMore}
use Rattle.ncc_base.specs.MemDisk.{AskedSince, Content, Device, Done, IsImage, LeftSince, after, begun, content, one}
use Rattle.ncc_base.specs.Noted.{count_of, done, total, unfolded}
use Rattle.ncc_base.specs.declared.mem_disk.Noted.{Noted}

pub after_more : (ds : List Done) (d : Done) (c : Content) → after (ds ++ d ∷ []) c ≡ one d (after ds c)
unfolding after
after_more [] d c = refl
after_more (x ∷ ds) d c = after_more ds d (one x c)

-- ---- the bytes of all writes in one list

pub unfolded_more : (xs : List Noted) (x : Noted) (flat bytes : List ℕ) → total xs ≡ length flat → count_of x ≡ length bytes →
    unfolded (xs ++ x ∷ []) (flat ++ bytes) ≡ unfolded xs flat ++ done x bytes ∷ []
unfolding unfolded total
unfolded_more [] x [] bytes all is = ap (λ (l : List ℕ). done x l ∷ []) (take_all (count_of x) bytes (omega (arith, is)))
unfolded_more [] x (b ∷ flat) bytes all is = absurd (omega arith)
unfolded_more (y ∷ xs) x flat bytes all is =
    ap (λ (l : List ℕ). done y l ∷ unfolded (xs ++ x ∷ []) (drop (count_of y) (flat ++ bytes)))
    (take-append-le (count_of y) flat bytes (omega arith))
    ∙ ap (λ (l : List ℕ). done y (take (count_of y) flat) ∷ unfolded (xs ++ x ∷ []) l)
    (drop-append-le (count_of y) flat bytes (omega arith))
    ∙ ap (λ (l : List Done). done y (take (count_of y) flat) ∷ l) (unfolded_more xs x (drop (count_of y) flat) bytes (omega (
      arith,
      all,
      length-drop (count_of y) flat,
    )) is)

pub total_more : (xs : List Noted) (x : Noted) → total (xs ++ x ∷ []) ≡ total xs + count_of x
unfolding total
total_more [] x = omega arith
total_more (y ∷ xs) x = omega (arith, total_more xs x)

-- ---- moments

module _ (old new : Device) (d : Done) (base : new.base ≡ old.base) (past : new.past ≡ old.past ++ d ∷ []) where
  long : length new.past ≡ length old.past + 1
  long = omega (arith, ap (λ (l : List Done). length l) past, length-append old.past (d ∷ []))

  same_before : (k : ℕ) → k ≤ length old.past → after (take k new.past) (begun new.base) ≡ after (take k old.past) (begun old.base)
  same_before k le =
      ap (λ (l : List ℕ). after (take k new.past) (begun l)) base
      ∙ ap (λ (l : List Done). after l (begun old.base)) (ap (λ (l : List Done). take k l) past ∙ take-append-le k old.past (d ∷ []) le)

  pub content_more : content new ≡ one d (content old)
  content_more = ap (λ (l : List ℕ). after new.past (begun l)) base ∙ ap (λ (l : List Done). after l (begun old.base)) past
      ∙ after_more old.past d (begun old.base)

  pub elapses : Elapses (length old.past) (length new.past) (LeftSince old) (LeftSince new) (IsImage (content new))
  elapses = record {
    later = omega (arith, long);
    nothing_else = λ t c le left. elim (cases_eq left.moment (length new.past)) [
      | inl last ↦ inr (subst (λ (l : List Done). IsImage (after l (begun new.base)) c)
          (take_all left.moment new.past (omega (arith, last))) left.image)
      | inr earlier ↦
          let low : left.moment ≤ length old.past = omega (arith, earlier, left.until, long) in
          inl (record {
            moment = left.moment;
            from = left.from;
            until = low;
            image = subst (λ (s : Content). IsImage s c) (same_before left.moment low) left.image;
          })
    ];
    keeps = λ t c le left. record {
      moment = left.moment;
      from = left.from;
      until = omega (arith, left.until, long);
      image = subst (λ (s : Content). IsImage s c) (sym (same_before left.moment left.until)) left.image;
    };
  }

  pub asks : AsksOneMore (length old.past) d.asked (AskedSince old) (AskedSince new)
  asks t calls le was =
      ap (λ (l : List Asked). l ++ d.asked ∷ []) was
      ∙ sym (map-append (λ (x : Done). x.asked) (drop t old.past) (d ∷ []))
      ∙ sym (ap (λ (l : List Done). map (λ (x : Done). x.asked) l) (ap (λ (l : List Done). drop t l) past
      ∙ drop-append-le t old.past (d ∷ []) le))

-- nothing new
pub elapses_same : (old new : Device) → new.base ≡ old.base → new.past ≡ old.past →
    Elapses (length old.past) (length new.past) (LeftSince old) (LeftSince new) (IsImage (content new))
elapses_same old new base past = record {
  later = omega (arith, ap (λ (l : List Done). length l) past);
  nothing_else = λ t c le left. inl (back t c left);
  keeps = λ t c le left. forth t c left;
} where
  same : (k : ℕ) → after (take k new.past) (begun new.base) ≡ after (take k old.past) (begun old.base)
  same k = ap (λ (l : List ℕ). after (take k new.past) (begun l)) base ∙ ap (λ (l : List Done). after (take k l) (begun old.base)) past

  back : (t : ℕ) (c : List ℕ) → LeftSince new t c → LeftSince old t c
  back t c left = record {
    moment = left.moment;
    from = left.from;
    until = omega (arith, left.until, ap (λ (l : List Done). length l) past);
    image = subst (λ (s : Content). IsImage s c) (same left.moment) left.image;
  }

  forth : (t : ℕ) (c : List ℕ) → LeftSince old t c → LeftSince new t c
  forth t c left = record {
    moment = left.moment;
    from = left.from;
    until = omega (arith, left.until, ap (λ (l : List Done). length l) past);
    image = subst (λ (s : Content). IsImage s c) (sym (same left.moment)) left.image;
  }

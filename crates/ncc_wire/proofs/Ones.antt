-- Bytes have one answer.
use Rattle.std.proofs.Common.{◌≡◌, ℕ, ◌+◌, ◌^◌, ◌<◌, List, [], ◌∷◌, length, Result, Ok, Err}
use Rattle.std.proofs.Common.{sym, ap, ◌∙◌, subst, arith}
use Rattle.ncc_tx.specs.declared.entry.Item.{Item}
use Rattle.ncc_tx.specs.Items.{items_bytes}
use Rattle.ncc_raft.specs.declared.message.Envelope.{Envelope}
use Rattle.ncc_wire.specs.declared.error.FrameError.{FrameError}
use Rattle.ncc_wire.specs.declared.error.FrameError.TheVariants.{BadField, Rest}
use Rattle.ncc_wire.specs.declared.kind.Kind.{Kind}
use Rattle.ncc_wire.specs.declared.kind.Kind.TheVariants as k
use Rattle.ncc_wire.specs.Judged.{Reads, items_of}
use Rattle.ncc_wire.specs.Kinds.{fields}
use Rattle.ncc_wire.specs.Reading.{Breaks, Front, Refuses, Stand, at_end, at_field, at_item, behind, behind_fields, front_at, listed}
use Rattle.ncc_wire.specs.Reading.{listing}
use Rattle.ncc_wire.proofs.Fields.{Within, fields_within}
use Rattle.ncc_wire.proofs.Wholes.{parted}
use Rattle.ncc_wire.proofs.Lists.{not_broken, one_break, one_stand}
use Rattle.ncc_wire.proofs.Parts.{one_body}

abbrev found : Front → Result Front FrameError
found f = Ok f

same_front : (c : ℕ) (bytes : List ℕ) (f g : Front) → front_at c bytes ≡ Ok f → front_at c bytes ≡ Ok g → f ≡ g
same_front c bytes f g d e = let both : found f ≡ found g = sym d ∙ e in cc

-- terms that items may have are numbers of eight bytes
small : (kind : Kind) (ns : List ℕ) → Within (fields kind) ns → (listing kind ns).greatest < 2 ^ 64
small k.VoteAsk ns w = omega arith
small k.VoteReply ns w = omega arith
small k.Append [] w = absurd w
small k.Append (t ∷ []) w = absurd w.2
small k.Append (t ∷ p ∷ []) w = absurd w.2.2
small k.Append (t ∷ p ∷ q ∷ []) w = absurd w.2.2.2
small k.Append (t ∷ p ∷ q ∷ c ∷ []) w = absurd w.2.2.2.2
small k.Append (t ∷ p ∷ q ∷ c ∷ n ∷ []) w = omega (arith, w.1)
small k.Append (t ∷ p ∷ q ∷ c ∷ n ∷ m ∷ ns) w = absurd w.2.2.2.2.2
small k.AppendReply ns w = omega arith
small k.Pull ns w = omega arith
small k.Batch [] w = absurd w
small k.Batch (f ∷ []) w = absurd w.2
small k.Batch (f ∷ n ∷ []) w = omega arith
small k.Batch (f ∷ n ∷ m ∷ ns) w = absurd w.2.2

few : (c : ℕ) (bytes : List ℕ) (f : Front) → front_at c bytes ≡ Ok f → (listed f).greatest < 2 ^ 64
few c bytes f e =
    let p = parted c bytes f e in
    small f.kind f.numbers (fields_within (fields f.kind) 15 f.frame f.numbers p.fields_are)

-- ---- one envelope

pub one_read : (c : ℕ) (bytes : List ℕ) (e f : Envelope) (n m : ℕ) → Reads c bytes e n → Reads c bytes f m → (e ≡ f) × (n ≡ m)
one_read c bytes e f n m r s =
    let same = same_front c bytes r.front s.front r.front_is s.front_is in
    let lists : Stand (listed r.front) (behind r.front) (items_of f.body) =
    subst (λ (x : Front). Stand (listed x) (behind x) (items_of f.body)) (sym same) s.stand in
    let count : length (items_of e.body) ≡ length (items_of f.body) = r.number ∙ ap (λ (x : Front). (listed x).count) same ∙ sym s.number in
    let items = one_stand (listed r.front) (behind r.front) (items_of e.body) (items_of f.body) (few c bytes r.front r.front_is) count
    r.stand lists in
    let kinds = sym r.kind_is ∙ ap (λ (x : Front). x.kind) same ∙ s.kind_is in
    let ns = sym r.numbers_are ∙ ap (λ (x : Front). x.numbers) same ∙ s.numbers_are in
    let body : e.body ≡ f.body = one_body e.body f.body kinds ns items in
    let between : e.from ∷ (e.to ∷ []) ≡ f.from ∷ (f.to ∷ []) = sym r.between_is ∙ ap (λ (x : Front). x.between) same ∙ s.between_is in
    let from : e.from ≡ f.from = cc in
    let to : e.to ≡ f.to = cc in
    (λ i. record { from = from i; to = to i; body = body i }, r.length_is ∙ ap (λ (x : Front). length x.frame) same ∙ sym s.length_is)

-- ---- one refusal

abbrev fault : FrameError → Result Front FrameError
fault e = Err e

same_fault : (c : ℕ) (bytes : List ℕ) (e f : FrameError) → front_at c bytes ≡ Err e → front_at c bytes ≡ Err f → e ≡ f
same_fault c bytes e f d g = let both : fault e ≡ fault f = sym d ∙ g in cc

not_both : (c : ℕ) (bytes : List ℕ) (f : Front) (e : FrameError) → front_at c bytes ≡ Ok f → front_at c bytes ≡ Err e → ⊥
not_both c bytes f e d g = let both : found f ≡ fault e = sym d ∙ g in cc

-- items that all stand there are no broken ones
whole_list : (c : ℕ) (bytes : List ℕ) (f g : Front) (items : List Item) (place : ℕ) → front_at c bytes ≡ Ok f → front_at c bytes ≡ Ok g →
    Stand (listed f) (behind f) items → length items ≡ (listed f).count → Breaks (listed g) (behind g) place → ⊥
whole_list c bytes f g items place d e s n b =
    let same = same_front c bytes g f e d in
    let broken : Breaks (listed f) (behind f) place = subst (λ (x : Front). Breaks (listed x) (behind x) place) same b in
    not_broken (listed f) (behind f) items place (few c bytes f d) s broken (omega (arith, broken.fewer, n))

-- and they end at one place
one_end : (c : ℕ) (bytes : List ℕ) (f g : Front) (is js : List Item) → front_at c bytes ≡ Ok f → front_at c bytes ≡ Ok g →
    Stand (listed f) (behind f) is → length is ≡ (listed f).count → Stand (listed g) (behind g) js → length js ≡ (listed g).count
    → (behind_fields f.kind + length (items_bytes is) ≡ behind_fields g.kind + length (items_bytes js)) × (f ≡ g)
one_end c bytes f g is js d e s n t m =
    let same = same_front c bytes f g d e in
    let other : Stand (listed f) (behind f) js = subst (λ (x : Front). Stand (listed x) (behind x) js) (sym same) t in
    let count : length is ≡ length js = n ∙ ap (λ (x : Front). (listed x).count) same ∙ sym m in
    let items = one_stand (listed f) (behind f) is js (few c bytes f d) count s other in (
      ap (λ (l : List Item). behind_fields f.kind + length (items_bytes l)) items
          ∙ ap (λ (x : Front). behind_fields x.kind + length (items_bytes js)) same,
      same,
    )

pub read_not_refused : (c : ℕ) (bytes : List ℕ) (e : Envelope) (n : ℕ) (f : FrameError) → Reads c bytes e n → Refuses c bytes f → ⊥
read_not_refused _ _ e n _ r (at_field c bytes f h) = not_both c bytes r.front f r.front_is h
read_not_refused _ _ e n _ r (at_item c bytes g place h b) =
    whole_list c bytes r.front g (items_of e.body) place r.front_is h r.stand r.number b
read_not_refused _ _ e n _ r (at_end c bytes g items h s m lt) =
    let x = one_end c bytes r.front g (items_of e.body) items r.front_is h r.stand r.number s m in
    omega (arith, x.0, r.whole, lt, ap (λ (y : Front). length y.frame) x.1)

pub one_refusal : (c : ℕ) (bytes : List ℕ) (e f : FrameError) → Refuses c bytes e → Refuses c bytes f → e ≡ f
one_refusal c bytes e f x y = go c bytes e x f y
  where
    second : (c : ℕ) (bytes : List ℕ) (g : Front) (place : ℕ) (f : FrameError) → front_at c bytes ≡ Ok g →
        Breaks (listed g) (behind g) place →
        Refuses c bytes f → BadField (behind_fields g.kind + place) ≡ f
    second _ _ g place _ d b (at_field c bytes f h) = absurd (not_both c bytes g f d h)
    second _ _ g place _ d b (at_item c bytes k other h w) =
        let same = same_front c bytes g k d h in
        let moved : Breaks (listed g) (behind g) other = subst (λ (x : Front). Breaks (listed x) (behind x) other) (sym same) w in
        ap (λ (n : ℕ). BadField (behind_fields g.kind + n)) (one_break (listed g) (behind g) place other (few c bytes g d) b moved)
        ∙ ap (λ (x : Front). BadField (behind_fields x.kind + other)) same
    second _ _ g place _ d b (at_end c bytes k items h s m lt) = absurd (whole_list c bytes k g items place h d s m b)

    third : (c : ℕ) (bytes : List ℕ) (g : Front) (items : List Item) (f : FrameError) → front_at c bytes ≡ Ok g →
        Stand (listed g) (behind g) items →
        length items ≡ (listed g).count → Refuses c bytes f → Rest (behind_fields g.kind + length (items_bytes items)) ≡ f
    third _ _ g items _ d s m (at_field c bytes f h) = absurd (not_both c bytes g f d h)
    third _ _ g items _ d s m (at_item c bytes k place h w) = absurd (whole_list c bytes g k items place d h s m w)
    third _ _ g items _ d s m (at_end c bytes k others h t n lt) = ap (λ (p : ℕ). Rest p) (one_end c bytes g k items others d h s m t n).0

    first : (c : ℕ) (bytes : List ℕ) (e f : FrameError) → front_at c bytes ≡ Err e → Refuses c bytes f → e ≡ f
    first _ _ e _ d (at_field c bytes f h) = same_fault c bytes e f d h
    first _ _ e _ d (at_item c bytes k place h w) = absurd (not_both c bytes k e h d)
    first _ _ e _ d (at_end c bytes k items h s m lt) = absurd (not_both c bytes k e h d)

    go : (c : ℕ) (bytes : List ℕ) (e : FrameError) → Refuses c bytes e → (f : FrameError) → Refuses c bytes f → e ≡ f
    go _ _ _ (at_field c bytes e h) f y = first c bytes e f h y
    go _ _ _ (at_item c bytes g place h b) f y = second c bytes g place f h b y
    go _ _ _ (at_end c bytes g items h s m lt) f y = third c bytes g items f h s m y

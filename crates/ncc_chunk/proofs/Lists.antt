-- Lists, one in front of the other.
use Rattle.std.proofs.Common.{◌≡◌, ℕ, ◌+◌, ◌<◌, ◌≤◌, List, [], ◌∷◌, ◌++◌, length, take, drop, subst, refl, sym, ap, ◌∙◌}
use Rattle.std.proofs.Common.{append_assoc, append-nil, length-append, length-take, arith}
use Rattle.std.proofs.lemmas.List.{take-append-drop}
use Rattle.std.proofs.Math.Seq.{take-append_seam}
use Rattle.ncc_chunk.specs.Keeping.{Begins}

-- lists that begin with parts of one length
pub split_same : (a b x y : List ℕ) → length a ≡ length b → a ++ x ≡ b ++ y → (a ≡ b) × (x ≡ y)
split_same [] [] x y h e = (refl, e)
split_same [] (b ∷ bs) x y h e = absurd (omega arith)
split_same (a ∷ al) [] x y h e = absurd (omega arith)
split_same (a ∷ al) (b ∷ bs) x y h e =
    let r = split_same al bs x y (omega arith) (cc) in
    let head : a ≡ b = cc in
    let tail : al ≡ bs = r.0 in
    (cc, r.1)

-- what begins so still does when the list at hand grows
pub begins_grown : (rs : List (List ℕ)) (b x : List ℕ) → Begins rs b (rs ++ (b ++ x) ∷ [])
begins_grown [] b x = (x, refl)
begins_grown (r ∷ rs) b x = (refl, begins_grown rs b x)

-- and when another list comes behind it
pub begins_next : (rs : List (List ℕ)) (b x : List ℕ) → Begins rs b ((rs ++ b ∷ []) ++ x ∷ [])
begins_next [] b x = ([], sym (append-nil b))
begins_next (r ∷ rs) b x = (refl, begins_next rs b x)

pub begins_over : (rs qs : List (List ℕ)) (b c : List ℕ) (ys : List (List ℕ)) → Begins rs b (qs ++ c ∷ []) → Begins qs c ys → Begins rs b ys
begins_over rs [] b c [] p q = absurd q
begins_over rs (q1 ∷ qs) b c [] p q = absurd q
begins_over [] [] b c (y ∷ ys) p q = (p.0 ++ q.0, q.1 ∙ ap (λ v. v ++ q.0) p.1 ∙ append_assoc b p.0 q.0)
begins_over [] (q1 ∷ qs) b c (y ∷ ys) p q = (p.0, sym q.0 ∙ p.1)
begins_over (r ∷ rs) [] b c (y ∷ ys) p q = absurd (p.1)
begins_over (r ∷ rs) (q1 ∷ qs) b c (y ∷ ys) p q = (p.0 ∙ q.0, begins_over rs qs b c ys p.1 q.1)

-- The list at that place begins with the one that was at hand.
pub begins_at : (rs qs : List (List ℕ)) (b c : List ℕ) (later : List (List ℕ)) → length qs ≡ length rs →
    Begins rs b (qs ++ c ∷ later) → (qs ≡ rs) × (take (length b) c ≡ b)
begins_at [] [] b c later h p = (refl, rw (p.1) (take-append_seam b p.0))
begins_at [] (q ∷ qs) b c later h p = absurd (omega arith)
begins_at (r ∷ rs) [] b c later h p = absurd (omega arith)
begins_at (r ∷ rs) (q ∷ qs) b c later h p = let k = begins_at rs qs b c later (omega arith) p.1 in let e : r ≡ q = p.0 in
    let f : qs ≡ rs = k.0 in (cc, k.1)

begins_long : (rs : List (List ℕ)) (b : List ℕ) (xs : List (List ℕ)) → Begins rs b xs → length rs < length xs
begins_long [] b [] p = absurd p
begins_long (r ∷ rs) b [] p = absurd p
begins_long [] b (x ∷ xs) p = omega arith
begins_long (r ∷ rs) b (x ∷ xs) p = let k = begins_long rs b xs p.1 in omega arith

-- Where no list came behind, they are those that there were.
pub restored_same : (rs qs : List (List ℕ)) (b c : List ℕ) → length qs ≤ length rs → Begins rs b (qs ++ c ∷ []) → (qs ≡ rs)
    × (take (length b) c ≡ b)
restored_same rs qs b c h p =
    let k = begins_long rs b (qs ++ c ∷ []) p in
    let l = length-append qs (c ∷ []) in
    begins_at rs qs b c [] (omega arith) p

-- Where there are more, the first new one begins with the one that was at hand.
begins_more : (rs qs : List (List ℕ)) (b c : List ℕ) → length rs < length qs → Begins rs b (qs ++ c ∷ []) → Begins rs b qs
begins_more [] [] b c h p = absurd (omega arith)
begins_more [] (q ∷ qs) b c h p = p
begins_more (r ∷ rs) [] b c h p = absurd (omega arith)
begins_more (r ∷ rs) (q ∷ qs) b c h p = (p.0, begins_more rs qs b c (omega arith) p.1)

pub restored_more : (rs qs : List (List ℕ)) (b c : List ℕ) (ks : List (List ℕ)) (k : List ℕ) → length rs < length qs →
    take (length rs + 1) qs ≡ ks ++ k ∷ [] → Begins rs b (qs ++ c ∷ []) → (ks ≡ rs) × (take (length b) k ≡ b)
restored_more rs qs b c ks k h e p =
    let later = drop (length rs + 1) qs in
    let whole : qs ≡ ks ++ k ∷ later = sym (take-append-drop (length rs + 1) qs) ∙ ap (λ v. v ++ later) e
    ∙ append_assoc ks (k ∷ []) later in
    let l = length-take (length rs + 1) qs in
    let m = length-append ks (k ∷ []) in
    let n = ap length e in
    begins_at rs ks b k later (omega arith) (subst (Begins rs b) whole (begins_more rs qs b c h p))

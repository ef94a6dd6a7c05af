-- Addresses of members from one on.
use Rattle.std.proofs.Common.{◌≡◌, ℕ, zero, suc, ◌+◌, List, [], ◌∷◌, ◌++◌, ap, ◌∙◌, arith}
use Rattle.ncc_pack.specs.declared.value.Value.{Value}
use Rattle.ncc_clients.specs.Members.{address, addresses}

-- one more stands behind
pub addresses_more : (n first : ℕ) → addresses n first ++ (address (first + n) ∷ []) ≡ addresses (suc n) first
unfolding addresses
addresses_more zero first = let e : first + 0 ≡ first = omega arith in ap (λ (m : ℕ). address m ∷ []) e
addresses_more (suc n) first =
    let e : first + suc n ≡ (first + 1) + n = omega arith in
    ap (λ (m : ℕ). address first ∷ (addresses n (first + 1) ++ (address m ∷ []))) e
    ∙ ap (λ (xs : List Value). address first ∷ xs) (addresses_more n (first + 1))

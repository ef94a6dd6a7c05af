-- What is wrong with a header, from its first bytes; and what it is where nothing is.
use Rattle.std.proofs.Common.{◌≡◌, inl, inr, ℕ, zero, suc, ◌+◌, ◌^◌, ◌<◌, ◌≤◌, Bool, true, false, List, [], ◌∷◌, ◌++◌, length}
use Rattle.std.proofs.Common.{take, drop, Option, Some, None, refl, sym, ap, ◌∙◌, subst, arith, append_assoc, length-append, length-drop}
use Rattle.std.proofs.Common.{take-append-drop}
use Rattle.std.specs.Prelude.{◌&&◌, nat_eq, nat_lt, if◌then◌else◌}
use Rattle.std.specs.Int.{w64, from_be_bytes, to_be_bytes}
use Rattle.std.proofs.lemmas.Bool.{cases_lt}
use Rattle.std.proofs.lemmas.Bool.Decides.{nat_tests}
use Rattle.std.proofs.lemmas.List.{drop-drop, drop-take, drop_more, get_or-take}
use Rattle.std.proofs.lemmas.List.{length-take-le, take-take, take_all}
use Rattle.std.proofs.lemmas.Nat.{be_bytes_8, from_be_bytes-to_be_bytes_8}
use Rattle.ncc_tx.proofs.ItemRead.{AreBytes, rest_bytes}
use Rattle.ncc_log.specs.declared.error.JournalError.{JournalError}
use Rattle.ncc_log.specs.declared.error.JournalError.TheVariants.{Damaged, Foreign}
use Rattle.ncc_log.specs.Header.{behind_magic, first_wrong, header, header_fault, magic, owner_fault, told_cluster, told_member}
use Rattle.ncc_log.proofs.FrontRead.{take_bytes}

-- ---- the first fifteen bytes decide

wrong_front : (ws b : List ℕ) (n at : ℕ) → length ws ≤ n → first_wrong ws (take n b) at ≡ first_wrong ws b at
wrong_front [] b n at le = refl
wrong_front (w ∷ ws) b zero at le = absurd (omega arith)
wrong_front (w ∷ ws) [] (suc n) at le = refl
wrong_front (w ∷ ws) (x ∷ xs) (suc n) at le =
    ap (λ (r : Option ℕ). if nat_eq x w then r else Some at) (wrong_front ws xs n (at + 1) (omega arith))

cluster_front : (b : List ℕ) → told_cluster (take 15 b) ≡ told_cluster b
cluster_front b = ap (λ (l : List ℕ). from_be_bytes w64 (take 8 l)) (drop-take 5 10 b)
    ∙ ap (from_be_bytes w64) (take-take 8 10 (drop 5 b) (omega arith))

member_front : (b : List ℕ) → told_member (take 15 b) ≡ told_member b
member_front b = get_or-take 15 b 13 0 (omega arith)

owner_front : (cluster member : ℕ) (b : List ℕ) → owner_fault cluster member (take 15 b) ≡ owner_fault cluster member b
owner_front cluster member b =
    ap (λ (n : ℕ). owner cluster member n (told_member (take 15 b))) (cluster_front b)
    ∙ ap (owner cluster member (told_cluster b)) (member_front b)
  where
    owner : ℕ → ℕ → ℕ → ℕ → Option JournalError
    owner cluster member n m = if nat_eq n cluster && nat_eq m member then None else Some (Foreign n m)

behind_front : (cluster member : ℕ) (b : List ℕ) (o : Option ℕ) →
    behind_magic o cluster member (take 15 b) ≡ behind_magic o cluster member b
behind_front cluster member b (Some at) = refl
behind_front cluster member b None = elim (cases_lt 15 (length b)) [
  | inr few ↦ ap (behind_magic None cluster member) (take_all 15 b few)
  | inl many ↦
      (let whole : nat_lt (length (take 15 b)) 15 ≡ false = grind (arith, nat_tests, length-take-le 15 b (omega arith)) in
      let long : nat_lt (length b) 15 ≡ false = grind (arith, nat_tests) in
      ap (λ (t : Bool). if t then Some (Damaged (length (take 15 b))) else owner_fault cluster member (take 15 b)) whole
      ∙ owner_front cluster member b
      ∙ sym (ap (λ (t : Bool). if t then Some (Damaged (length b)) else owner_fault cluster member b) long))
]

pub fault_front : (cluster member : ℕ) (b : List ℕ) → header_fault cluster member (take 15 b) ≡ header_fault cluster member b
unfolding header_fault
fault_front cluster member b =
    ap (λ (o : Option ℕ). behind_magic o cluster member (take 15 b)) (wrong_front magic b 15 0 (omega arith))
    ∙ behind_front cluster member b (first_wrong magic b 0)

-- ---- a header with nothing wrong

none_wrong : (ws b : List ℕ) (at : ℕ) → length ws ≤ length b → first_wrong ws b at ≡ None → take (length ws) b ≡ ws
none_wrong [] b at le none = refl
none_wrong (w ∷ ws) [] at le none = absurd (omega arith)
none_wrong (w ∷ ws) (x ∷ xs) at le none = go (nat_eq x w) refl (none_wrong ws xs (at + 1) (omega arith))
  where
    go : (t : Bool) → nat_eq x w ≡ t → (first_wrong ws xs (at + 1) ≡ None → take (length ws) xs ≡ ws) →
        take (length (w ∷ ws)) (x ∷ xs) ≡ w ∷ ws
    go true e more =
        let same : x ≡ w = grind (arith, nat_tests) in
        let rest : first_wrong ws xs (at + 1) ≡ None =
        sym (ap (λ (b : Bool). if b then first_wrong ws xs (at + 1) else Some at) e) ∙ none in
        ap (λ (y : ℕ). y ∷ take (length ws) xs) same ∙ ap (λ (l : List ℕ). w ∷ l) (more rest)
    go false e more =
        let bad : Some at ≡ None = sym (ap (λ (b : Bool). if b then first_wrong ws xs (at + 1) else Some at) e) ∙ none in absurd (cc)

-- what is right, where nothing is wrong
pub record IsRight (cluster member : ℕ) (b : List ℕ) : Type 0 where
  pub magic_is : take 5 b ≡ magic
  pub long : 15 ≤ length b
  pub cluster_is : told_cluster b ≡ cluster
  pub member_is : told_member b ≡ member

right_owner : (cluster member : ℕ) (b : List ℕ) → owner_fault cluster member b ≡ None →
    (told_cluster b ≡ cluster) × (told_member b ≡ member)
right_owner cluster member b none = go (nat_eq (told_cluster b) cluster) (nat_eq (told_member b) member) refl refl
  where
    test : Bool → Option JournalError
    test t = if t then None else Some (Foreign (told_cluster b) (told_member b))

    go : (s t : Bool) → nat_eq (told_cluster b) cluster ≡ s → nat_eq (told_member b) member ≡ t →
        (told_cluster b ≡ cluster) × (told_member b ≡ member)
    go true true e f =
        let x : told_cluster b ≡ cluster = grind (arith, nat_tests) in
        let y : told_member b ≡ member = grind (arith, nat_tests) in
        (x, y)
    go true false e f =
        let bad : Some (Foreign (told_cluster b) (told_member b)) ≡ None =
        sym (ap (λ (s : Bool). test (s && nat_eq (told_member b) member)) e ∙ ap (λ (t : Bool). test (true && t)) f) ∙ none in cc
    go false t e f =
        let bad : Some (Foreign (told_cluster b) (told_member b)) ≡ None =
        sym (ap (λ (s : Bool). test (s && nat_eq (told_member b) member)) e) ∙ none in cc

right_by : (cluster member : ℕ) (b : List ℕ) (o : Option ℕ) → first_wrong magic b 0 ≡ o → behind_magic o cluster member b ≡ None →
    IsRight cluster member b
right_by cluster member b (Some at) e none = absurd (cc)
right_by cluster member b None e none = go (nat_lt (length b) 15) refl
  where
    go : (t : Bool) → nat_lt (length b) 15 ≡ t → IsRight cluster member b
    go true f =
        let bad : Some (Damaged (length b)) ≡ None =
        sym (ap (λ (t : Bool). if t then Some (Damaged (length b)) else owner_fault cluster member b) f) ∙ none in
        absurd (cc)
    go false f =
        let long : 15 ≤ length b = grind (arith, nat_tests) in
        let owner : owner_fault cluster member b ≡ None =
        sym (ap (λ (t : Bool). if t then Some (Damaged (length b)) else owner_fault cluster member b) f) ∙ none in
        let told = right_owner cluster member b owner in
        record { magic_is = none_wrong magic b 0 (omega arith) e; long = long; cluster_is = told.0; member_is = told.1 }

pub right_is : (cluster member : ℕ) (b : List ℕ) → header_fault cluster member b ≡ None → IsRight cluster member b
unfolding header_fault
right_is cluster member b none = right_by cluster member b (first_wrong magic b 0) refl none

pub header_is : (cluster member : ℕ) → header cluster member ≡ (magic ++ to_be_bytes w64 cluster) ++ member ∷ []
unfolding header
header_is cluster member = refl

pub header_long : (cluster member : ℕ) → length (header cluster member) ≡ 14
unfolding header
header_long cluster member = refl

pub header_front : (cluster member : ℕ) (b : List ℕ) → AreBytes (take 15 b) → IsRight cluster member b →
    b ≡ header cluster member ++ drop 14 b
header_front cluster member b all r =
    let eight : length (take 8 (drop 5 b)) ≡ 8 = length-take-le 8 (drop 5 b) (omega (arith, length-drop 5 b, r.long)) in
    let ten : take 8 (drop 5 b) ≡ take 8 (drop 5 (take 15 b)) =
    sym (ap (take 8) (drop-take 5 10 b) ∙ take-take 8 10 (drop 5 b) (omega arith)) in
    let bytes : AreBytes (take 8 (drop 5 b)) =
    subst AreBytes (sym ten) (take_bytes (drop 5 (take 15 b)) 8 (rest_bytes (take 15 b) 5 all)) in
    let cluster_is : to_be_bytes w64 cluster ≡ take 8 (drop 5 b) = be_bytes_8 (take 8 (drop 5 b)) cluster eight bytes (sym r.cluster_is) in
    let last : drop 13 b ≡ member ∷ drop 14 b = drop_more b 13 0 (omega (arith, r.long)) ∙ ap (λ (m : ℕ). m ∷ drop 14 b) r.member_is in
    let owner : drop 5 b ≡ to_be_bytes w64 cluster ++ (member ∷ drop 14 b) = sym (take-append-drop 8 (drop 5 b))
    ∙ ap (λ (l : List ℕ). l ++ drop 8 (drop 5 b)) (sym cluster_is)
    ∙ ap (λ (l : List ℕ). to_be_bytes w64 cluster ++ l) (drop-drop 8 5 b ∙ last) in
    sym (take-append-drop 5 b) ∙ ap (λ (l : List ℕ). l ++ drop 5 b) r.magic_is ∙ ap (λ (l : List ℕ). magic ++ l) owner
    ∙ sym (append_assoc magic (to_be_bytes w64 cluster) (member ∷ drop 14 b))
    ∙ sym (append_assoc (magic ++ to_be_bytes w64 cluster) (member ∷ []) (drop 14 b))
    ∙ ap (λ (l : List ℕ). l ++ drop 14 b) (sym (header_is cluster member))

-- and so where each field is the one that is wanted
pub right_there : (cluster member : ℕ) (b : List ℕ) → AreBytes b → first_wrong magic b 0 ≡ None → 15 ≤ length b →
    told_cluster b ≡ cluster → told_member b ≡ member → b ≡ header cluster member ++ drop 14 b
right_there cluster member b all none long owner place =
    header_front cluster member b (take_bytes b 15 all) record {
      magic_is = none_wrong magic b 0 (omega arith) none;
      long = long;
      cluster_is = owner;
      member_is = place;
    }

-- a header is right
pub none_of_header : (cluster member : ℕ) (rest : List ℕ) → cluster < 2 ^ 64 → 1 ≤ length rest →
    header_fault cluster member (header cluster member ++ rest) ≡ None
unfolding header_fault header
none_of_header cluster member rest few some =
    let b : List ℕ = ((magic ++ to_be_bytes w64 cluster) ++ member ∷ []) ++ rest in
    let long : nat_lt (length b) 15 ≡ false =
    grind (arith, nat_tests, length-append ((magic ++ to_be_bytes w64 cluster) ++ member ∷ []) rest) in
    let first : told_cluster b ≡ cluster = from_be_bytes-to_be_bytes_8 cluster few in
    let same : nat_eq (told_cluster b) cluster ≡ true = grind (arith, nat_tests) in
    let also : nat_eq (told_member b) member ≡ true = grind (arith, nat_tests) in
    ap (λ (t : Bool). if t then Some (Damaged (length b)) else owner_fault cluster member b) long
    ∙ ap (λ (t : Bool). if t && nat_eq (told_member b) member then None else Some (Foreign (told_cluster b) (told_member b))) same
    ∙ ap (λ (t : Bool). if true && t then None else Some (Foreign (told_cluster b) (told_member b))) also

-- Cores by their numbers.
use Rattle.std.proofs.Common.{◌≡◌, ◌≢◌, ℕ, zero, suc, ◌+◌, ◌-◌, ◌<◌, ◌≤◌, Bool, true, false, not, cond, List, [], ◌∷◌, ◌++◌, length}
use Rattle.std.proofs.Common.{map, filter, take, get_or, refl, sym, ap, ◌∙◌, arith, eqb, add-zero, ◌⊎◌, inl, inr}
use Rattle.std.specs.List.{enumerate_from}
use Rattle.std.proofs.lemmas.Bool.{eq-eqb, ne_eqb}
use Rattle.std.proofs.lemmas.List.{length-take-le, take_more}
use Rattle.ncc_pack.specs.declared.value.Value.{Value}
use Rattle.ncc_route.specs.declared.members.Members.{Members}
use Rattle.ncc_route.specs.declared.table.Table.{Table}
use Rattle.ncc_route.specs.Routing.{leading, following, or_else, readers, table}

-- those whose number passes a test, where the first has this number
abbrev pub chosen : (ℕ → Bool) → ℕ → List Value → List Value
chosen test n xs = map (λ p. p.1) (filter (λ p. test p.0) (enumerate_from n xs))

-- the first passes, or does not
pub chosen_yes : (test : ℕ → Bool) (n : ℕ) (x : Value) (xs : List Value) → test n ≡ true →
    chosen test n (x ∷ xs) ≡ x ∷ chosen test (n + 1) xs
chosen_yes test n x xs passes = rw passes refl

pub chosen_no : (test : ℕ → Bool) (n : ℕ) (x : Value) (xs : List Value) → test n ≡ false → chosen test n (x ∷ xs) ≡ chosen test (n + 1) xs
chosen_no test n x xs fails = rw fails refl

-- one more at the end, which passes or does not
pub chosen_more_yes : (test : ℕ → Bool) (n : ℕ) (xs : List Value) (x : Value) → test (n + length xs) ≡ true →
    chosen test n (xs ++ x ∷ []) ≡ chosen test n xs ++ x ∷ []
chosen_more_yes test n [] x passes = chosen_yes test n x [] (ap test (sym (add-zero n)) ∙ passes)
chosen_more_yes test n (y ∷ xs) x passes =
    let here : n + 1 + length xs ≡ n + length (y ∷ xs) = omega arith in
    let rest : chosen test (n + 1) (xs ++ x ∷ []) ≡ chosen test (n + 1) xs ++ x ∷ [] =
    chosen_more_yes test (n + 1) xs x (ap test here ∙ passes) in
    elim (test n) as (λ b. map (λ p. p.1) (cond b ((n, y) ∷ filter (λ p. test p.0) (enumerate_from (n + 1) (xs ++ x ∷ [])))
    (filter (λ p. test p.0) (enumerate_from (n + 1) (xs ++ x ∷ [])))) ≡
    map (λ p. p.1) (cond b ((n, y) ∷ filter (λ p. test p.0) (enumerate_from (n + 1) xs))
    (filter (λ p. test p.0) (enumerate_from (n + 1) xs))) ++ x ∷ []) [ true ↦ ap (λ (l : List Value). y ∷ l) rest | false ↦ rest ]

pub chosen_more_no : (test : ℕ → Bool) (n : ℕ) (xs : List Value) (x : Value) → test (n + length xs) ≡ false →
    chosen test n (xs ++ x ∷ []) ≡ chosen test n xs
chosen_more_no test n [] x fails = chosen_no test n x [] (ap test (sym (add-zero n)) ∙ fails)
chosen_more_no test n (y ∷ xs) x fails =
    let here : n + 1 + length xs ≡ n + length (y ∷ xs) = omega arith in
    let rest : chosen test (n + 1) (xs ++ x ∷ []) ≡ chosen test (n + 1) xs = chosen_more_no test (n + 1) xs x (ap test here ∙ fails) in
    elim (test n) as (λ b. map (λ p. p.1) (cond b ((n, y) ∷ filter (λ p. test p.0) (enumerate_from (n + 1) (xs ++ x ∷ [])))
    (filter (λ p. test p.0) (enumerate_from (n + 1) (xs ++ x ∷ [])))) ≡
    map (λ p. p.1) (cond b ((n, y) ∷ filter (λ p. test p.0) (enumerate_from (n + 1) xs))
    (filter (λ p. test p.0) (enumerate_from (n + 1) xs)))) [ true ↦ ap (λ (l : List Value). y ∷ l) rest | false ↦ rest ]

-- ---- the other cores, one after the other

-- the length of what was taken
taken : (xs : List Value) (i : ℕ) → i < length xs → length (take i xs) ≡ i
taken xs i lt = length-take-le i xs (omega arith)

pub one_more : (leader : ℕ) (xs : List Value) (i : ℕ) (x : Value) → i < length xs → i + 1 ≢ leader → x ≡ get_or xs i x →
    following leader (take (i + 1) xs) ≡ following leader (take i xs) ++ x ∷ []
one_more leader xs i x lt ne is =
    let e : take (i + 1) xs ≡ take i xs ++ x ∷ [] = take_more xs i x lt ∙ ap (λ (y : Value). take i xs ++ y ∷ []) (sym is) in
    let l : length (take i xs) ≡ i = taken xs i lt in
    let fails : eqb (1 + length (take i xs)) leader ≡ false = ne_eqb (1 + length (take i xs)) leader (λ h. ne (omega arith)) in
    ap (following leader) e ∙ chosen_more_yes (λ m. not (eqb m leader)) 1 (take i xs) x (ap not fails)

pub passed_over : (leader : ℕ) (xs : List Value) (i : ℕ) (x : Value) → i < length xs → i + 1 ≡ leader → x ≡ get_or xs i x →
    following leader (take (i + 1) xs) ≡ following leader (take i xs)
passed_over leader xs i x lt eq is =
    let e : take (i + 1) xs ≡ take i xs ++ x ∷ [] = take_more xs i x lt ∙ ap (λ (y : Value). take i xs ++ y ∷ []) (sym is) in
    let l : length (take i xs) ≡ i = taken xs i lt in
    let passes : eqb (1 + length (take i xs)) leader ≡ true = eq-eqb (1 + length (take i xs)) leader (omega arith) in
    ap (following leader) e ∙ chosen_more_no (λ m. not (eqb m leader)) 1 (take i xs) x (ap not passes)

-- ---- the leader

-- a number before the first, or after the last, is nobody's
before : (leader n : ℕ) (xs : List Value) → leader < n → chosen (λ m. eqb m leader) n xs ≡ []
before leader n [] lt = refl
before leader n (x ∷ xs) lt = chosen_no (λ m. eqb m leader) n x xs (ne_eqb n leader (λ e. omega arith))
    ∙ before leader (n + 1) xs (omega arith)

after : (leader n : ℕ) (xs : List Value) → n + length xs ≤ leader → chosen (λ m. eqb m leader) n xs ≡ []
after leader n [] le = refl
after leader n (x ∷ xs) le =
    let ne : n ≡ leader → ⊥ = λ e. omega arith in
    chosen_no (λ m. eqb m leader) n x xs (ne_eqb n leader ne) ∙ after leader (n + 1) xs (omega arith)

-- the number i behind the first's is that of the one at place i
at_place : (leader n i : ℕ) (xs : List Value) (d : Value) → leader ≡ n + i → i < length xs →
    chosen (λ m. eqb m leader) n xs ≡ get_or xs i d ∷ []
at_place leader n i [] d e lt = absurd (omega arith)
at_place leader n zero (x ∷ xs) d e lt =
    let here : n ≡ leader = omega arith in
    chosen_yes (λ m. eqb m leader) n x xs (eq-eqb n leader here) ∙ ap (λ (l : List Value). x ∷ l) (before leader (n + 1) xs (omega arith))
at_place leader n (suc i) (x ∷ xs) d e lt =
    let ne : n ≡ leader → ⊥ = λ h. omega arith in
    chosen_no (λ m. eqb m leader) n x xs (ne_eqb n leader ne) ∙ at_place leader (n + 1) i xs d (omega arith) (omega arith)

pub leader_zero : (leader : ℕ) (cores : List Value) → leader ≡ 0 → leading leader cores ≡ []
leader_zero leader cores none = before leader 1 cores (omega arith)

pub leader_past : (leader : ℕ) (cores : List Value) → length cores < leader → leading leader cores ≡ []
leader_past leader cores past = after leader 1 cores (omega arith)

pub leader_at : (leader : ℕ) (cores : List Value) (x : Value) → 0 < leader → leader ≤ length cores →
    x ≡ get_or cores (leader - 1) x → leading leader cores ≡ x ∷ []
leader_at leader cores x some le is = at_place leader 1 (leader - 1) cores x (omega arith) (omega arith)
    ∙ ap (λ (y : Value). y ∷ []) (sym is)

-- ---- a number above the cores'

-- where the number is nobody's, all are others
all_others : (leader n : ℕ) (xs : List Value) → (leader < n) ⊎ (n + length xs ≤ leader) → chosen (λ m. not (eqb m leader)) n xs ≡ xs
all_others leader n [] h = refl
all_others leader n (x ∷ xs) (inl lt) =
    chosen_yes (λ m. not (eqb m leader)) n x xs (ap not (ne_eqb n leader (λ e. omega arith)))
    ∙ ap (λ (l : List Value). x ∷ l) (all_others leader (n + 1) xs (inl (omega arith)))
all_others leader n (x ∷ xs) (inr le) =
    let ne : n ≡ leader → ⊥ = λ e. omega arith in
    chosen_yes (λ m. not (eqb m leader)) n x xs (ap not (ne_eqb n leader ne))
    ∙ ap (λ (l : List Value). x ∷ l) (all_others leader (n + 1) xs (inr (omega arith)))

following_past : (leader : ℕ) (cores : List Value) → length cores < leader → following leader cores ≡ following 0 cores
following_past leader cores past = all_others leader 1 cores (inr (omega arith)) ∙ sym (all_others 0 1 cores (inl (omega arith)))

leading_past : (leader : ℕ) (cores : List Value) → length cores < leader → leading leader cores ≡ leading 0 cores
leading_past leader cores past = leader_past leader cores past ∙ sym (leader_zero 0 cores refl)

same_tables : (members : Members) (leader at ttl : ℕ) → length members.cores < leader → table members leader at ttl ≡ table members 0 at ttl
same_tables members leader at ttl past =
    let made : List Value → List Value → Table = λ w f. record {
      got = at;
      ttl = ttl;
      write = w;
      read = or_else (f ++ members.replicas) w;
      route = members.cores;
    } in
    ap (λ (w : List Value). made w (following leader members.cores)) (leading_past leader members.cores past)
    ∙ ap (λ (f : List Value). made (leading 0 members.cores) f) (following_past leader members.cores past)

-- a table with the lists for such a number is the one for 0
pub table_past : (members : Members) (leader at ttl : ℕ) (write read route : List Value) → write ≡ leading leader members.cores →
    read ≡ readers leader members → route ≡ members.cores
    → length members.cores < leader → ◌≡◌ {A = Table} (record {
      got = at;
      ttl = ttl;
      write = write;
      read = read;
      route = route;
    }) (table members 0 at ttl)
table_past members leader at ttl write read route w r o past =
    let e : ◌≡◌ {A = Table} (record {
      got = at;
      ttl = ttl;
      write = write;
      read = read;
      route = route;
    }) (table members leader at ttl) = cc in
    e ∙ same_tables members leader at ttl past

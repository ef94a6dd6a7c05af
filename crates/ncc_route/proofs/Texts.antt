-- The addresses of a table are texts where those of the members are.
use Rattle.std.proofs.Common.{◌≡◌, ℕ, ◌+◌, Bool, true, false, not, ◌&&◌, cond, List, [], ◌∷◌, ◌++◌, map, filter, refl, ap, ◌∙◌, IsTrue, eqb}
use Rattle.std.specs.List.{enumerate_from}
use Rattle.std.proofs.lemmas.Bool.{and_parts, and_from}
use Rattle.std.proofs.lemmas.List.Folds.{list_all-append}
use Rattle.ncc_pack.specs.declared.value.Value.{Value}
use Rattle.ncc_route.specs.declared.members.Members.{Members}
use Rattle.ncc_pack.specs.Texts.{is_text, texts_alone}
use Rattle.ncc_route.specs.Addresses.{members_are_texts, table_is_texts}
use Rattle.ncc_route.specs.Routing.{leading, following, or_else, readers}
use Rattle.ncc_route.proofs.Numbers.{chosen}

-- those that were chosen are texts
chosen_texts : (test : ℕ → Bool) (n : ℕ) (xs : List Value) → texts_alone xs ≡ true → texts_alone (chosen test n xs) ≡ true
chosen_texts test n [] h = refl
chosen_texts test n (x ∷ xs) h =
    let parts : (is_text x ≡ true) × (texts_alone xs ≡ true) = and_parts (is_text x) (texts_alone xs) h in
    let rest : texts_alone (chosen test (n + 1) xs) ≡ true = chosen_texts test (n + 1) xs parts.1 in
    elim (test n) as (λ b. texts_alone (map (λ p. p.1) (cond b ((
      n,
      x,
    ) ∷ filter (λ p. test p.0) (enumerate_from (n + 1) xs)) (filter (λ p. test p.0) (enumerate_from (n + 1) xs)))) ≡
    true) [ true ↦ and_from (is_text x) (texts_alone (chosen test (n + 1) xs)) parts.0 rest | false ↦ rest ]

or_else_texts : (xs ys : List Value) → texts_alone xs ≡ true → texts_alone ys ≡ true → texts_alone (or_else xs ys) ≡ true
or_else_texts [] ys h k = k
or_else_texts (x ∷ xs) ys h k = h

readers_texts : (leader : ℕ) (members : Members) → texts_alone members.cores ≡ true → texts_alone members.replicas ≡ true →
    texts_alone (readers leader members) ≡ true
readers_texts leader members h k =
    let cores : texts_alone (following leader members.cores) ≡ true = chosen_texts (λ m. not (eqb m leader)) 1 members.cores h in
    let both : texts_alone (following leader members.cores ++ members.replicas) ≡ true =
    list_all-append is_text (following leader members.cores) members.replicas
    ∙ and_from (texts_alone (following leader members.cores)) (texts_alone members.replicas) cores k in
    or_else_texts (following leader members.cores ++ members.replicas) (leading leader members.cores) both
    (chosen_texts (λ m. eqb m leader) 1 members.cores h)

-- a table of such lists
pub table_texts : (members : Members) (leader at ttl : ℕ) (write read route : List Value) → write ≡ leading leader members.cores →
    read ≡ readers leader members → route ≡ members.cores
    → IsTrue (members_are_texts members) →
    IsTrue (table_is_texts (record { got = at; ttl = ttl; write = write; read = read; route = route }))
table_texts members leader at ttl write read route w r o h =
    let parts : (texts_alone members.cores ≡ true)
    × (texts_alone members.replicas ≡ true) = and_parts (texts_alone members.cores) (texts_alone members.replicas) h in
    let writes : texts_alone write ≡ true = ap texts_alone w ∙ chosen_texts (λ m. eqb m leader) 1 members.cores parts.0 in
    let reads : texts_alone read ≡ true = ap texts_alone r ∙ readers_texts leader members parts.0 parts.1 in
    let routes : texts_alone route ≡ true = ap texts_alone o ∙ parts.0 in
    and_from (texts_alone write && texts_alone read) (texts_alone route)
    (and_from (texts_alone write) (texts_alone read) writes reads) routes

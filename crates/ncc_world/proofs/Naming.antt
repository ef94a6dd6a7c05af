-- Whom an address names, name by name.
use Rattle.std.proofs.Common.{◌≡◌, ℕ, suc, ◌+◌, ◌<◌, ◌≤◌, Bool, true, false, cond, List, ◌∷◌, length}
use Rattle.std.proofs.Common.{drop, get_or, Some, None, IsTrue, drop-cons}
use Rattle.std.proofs.Common.{refl, ap, sym, ◌∙◌, arith}
use Rattle.std.specs.Prelude.{◌↔◌, bytes_eq}
use Rattle.std.proofs.lemmas.List.{drop_all}
use Rattle.std.proofs.lemmas.Slice.Eq.{bytes_eq-Decides}
use Rattle.ncc_pack.specs.declared.value.Value.{Value}
use Rattle.ncc_clients.specs.Drives.{is_named, named_from}

pub same_text : (b : Bool) (x y : List ℕ) → (IsTrue b ↔ (x ≡ y)) → b ≡ bytes_eq x y
same_text true x y h = sym ((bytes_eq-Decides x y).1 (h.0 refl))
same_text false x y h = go (bytes_eq x y) refl where
  go : (c : Bool) → bytes_eq x y ≡ c → false ≡ c
  go true e = h.1 ((bytes_eq-Decides x y).0 e)
  go false e = refl

-- what is found from an index on
abbrev pub NamedSo : List Value → List ℕ → ℕ → Type 0
NamedSo names address index = named_from 1 names address ≡ named_from (index + 1) (drop index names) address

at_one : (names : List Value) (address : List ℕ) (index : ℕ) (x : Value) → index < length names → x ≡ get_or names index x
    → named_from (index + 1) (drop index names) address
    ≡ cond (is_named x address) (Some (index + 1)) (named_from (suc (index + 1)) (drop (suc index) names) address)
unfolding named_from
at_one names address index x h e =
    ap (λ (l : List Value). named_from (index + 1) l address) (drop-cons names index x h)
    ∙ ap (λ (y : Value). named_from (index + 1) (y ∷ drop (suc index) names) address) (sym e)

pub named_here : (names : List Value) (address : List ℕ) (index : ℕ) (x : Value) → index < length names → x ≡ get_or names index x
    → is_named x address ≡ true → NamedSo names address index → named_from 1 names address ≡ Some (index + 1)
named_here names address index x h e is so =
    so ∙ at_one names address index x h e
    ∙ ap (λ (b : Bool). cond b (Some (index + 1)) (named_from (suc (index + 1)) (drop (suc index) names) address)) is

pub named_next : (names : List Value) (address : List ℕ) (index : ℕ) (x : Value) → index < length names → x ≡ get_or names index x
    → is_named x address ≡ false → NamedSo names address index → NamedSo names address (index + 1)
named_next names address index x h e not_so so =
    let n : suc index ≡ index + 1 = omega arith in
    let m : suc (index + 1) ≡ index + 1 + 1 = omega arith in
    so ∙ at_one names address index x h e
    ∙ ap (λ (b : Bool). cond b (Some (index + 1)) (named_from (suc (index + 1)) (drop (suc index) names) address)) not_so
    ∙ ap (λ k. named_from k (drop (suc index) names) address) m
    ∙ ap (λ k. named_from (index + 1 + 1) (drop k names) address) n

pub named_none : (names : List Value) (address : List ℕ) (index : ℕ) → length names ≤ index → NamedSo names address index
    → named_from 1 names address ≡ None
unfolding named_from
named_none names address index h so = so ∙ ap (λ (l : List Value). named_from (index + 1) l address) (drop_all index names h)

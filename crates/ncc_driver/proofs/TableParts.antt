-- Tables, part by part.
use Rattle.std.proofs.Common.{◌≡◌, ◌≢◌, ℕ, zero, suc, ◌+◌, ◌<◌, ◌≤◌, Bool, true, false, List, [], ◌∷◌, ◌++◌, length, take, drop, get_or}
use Rattle.std.proofs.Common.{refl, sym, ap, ◌∙◌, subst, arith, append_assoc, append-nil, add-one}
use Rattle.std.specs.Prelude.{Option, Some, None, bytes_eq}
use Rattle.std.proofs.Math.Seq.{drop-cons}
use Rattle.std.proofs.lemmas.List.{take_all, drop_all}
use Rattle.ncc_pack.specs.declared.value.Value.{Value, out-Value, out-roll-Value}
use Rattle.ncc_pack.specs.declared.value.Value.TheOpen.{Value-F}
use Rattle.ncc_pack.specs.declared.value.Value.TheVariants as v
use Rattle.ncc_driver.specs.Answers.{Served, server_in, one_more, servers_in, servers_at, list_in, addresses_of}
use Rattle.ncc_driver.specs.Tables.{AreServers, of_role}

-- ---- entries

pub both_some : (o : Option Served) (p : Option (List Served)) → one_more o p ≢ None → (o ≢ None) × (p ≢ None)
both_some (Some s) (Some ss) n = (λ e. absurd (cc), λ e. absurd (cc))
both_some (Some s) None n = absurd (n refl)
both_some None p n = absurd (n refl)

one_by_both : (o : Option Served) (p : Option (List Served)) → o ≢ None → p ≢ None → one_more o p ≢ None
one_by_both (Some s) (Some ss) n m = λ e. absurd (cc)
one_by_both (Some s) None n m = absurd (m refl)
one_by_both None p n m = absurd (n refl)

pub no_entries : servers_in [] ≢ None
unfolding servers_in
no_entries e = absurd (cc)

pub servers_more : (xs : List Value) (i : ℕ) (x : Value) → i < length xs → x ≡ get_or xs i x → servers_in (take i xs) ≢ None
    → server_in x ≢ None → servers_in (take (i + 1) xs) ≢ None
unfolding servers_in
servers_more [] i x lt is n m = absurd (omega arith)
servers_more (y ∷ ys) zero x lt is n m =
    one_by_both (server_in y) (Some []) (subst (λ (z : Value). server_in z ≢ None) is m) (λ e. absurd (cc))
servers_more (y ∷ ys) (suc i) x lt is n m =
    let lt' : i < length ys = omega arith in
    let e : suc i + 1 ≡ suc (i + 1) = omega arith in
    let parts = both_some (server_in y) (servers_in (take i ys)) n in
    rw e (one_by_both (server_in y) (servers_in (take (i + 1) ys)) parts.0 (servers_more ys i x lt' is parts.1 m))

pub server_at : (xs : List Value) (i : ℕ) (x : Value) → i < length xs → x ≡ get_or xs i x → servers_in xs ≢ None → server_in x ≢ None
unfolding servers_in
server_at [] i x lt is n = absurd (omega arith)
server_at (y ∷ ys) zero x lt is n =
    subst (λ (z : Value). server_in z ≢ None) (sym is) (both_some (server_in y) (servers_in ys) n).0
server_at (y ∷ ys) (suc i) x lt is n =
    server_at ys i x (omega arith) is (both_some (server_in y) (servers_in ys) n).1

pub all_servers : (xs : List Value) (i : ℕ) → length xs ≤ i → servers_in (take i xs) ≢ None → servers_in xs ≢ None
all_servers xs i done n = subst (λ (ys : List Value). servers_in ys ≢ None) (take_all i xs done) n

is_some : (o : Option (List Served)) → o ≢ None → (servers : List Served) × (o ≡ Some servers)
is_some (Some ss) n = (ss, refl)
is_some None n = absurd (n refl)

pub are_servers_at : (x : Option Value) (values same : List Value) → x ≡ Some (v.List values) → same ≡ values → servers_in same ≢ None
    → AreServers values (servers_at (list_in x))
are_servers_at x values same is e n =
    let s = is_some (servers_in values) (subst (λ (ys : List Value). servers_in ys ≢ None) e n) in
    let out : out-Value (v.List values) ≡ Value-F.List values =
    ap out-Value (sym (v.rolls-List values)) ∙ out-roll-Value (Value-F.List values) in
    (s.0, s.1, rw (is, out) s.1)

-- ---- addresses

-- The addresses so far, and those of the entries that are left, are those of all entries.
pub record AddressesLeft (role : List ℕ) (i : ℕ) (values : List Value) (whole : List Served) (found : List Value) : Type 0 where
  pub rest : List Served
  pub left : servers_in (drop i values) ≡ Some rest
  pub same : found ++ addresses_of role rest ≡ addresses_of role whole

-- the first entry, and the others
abbrev First : Option Served → Option (List Served) → List Served → Type 0
First o p rest = (s : Served) × (ss : List Served) × (o ≡ Some s) × (p ≡ Some ss) × (rest ≡ s ∷ ss)

first_by : (o : Option Served) (p : Option (List Served)) (rest : List Served) → one_more o p ≡ Some rest → First o p rest
first_by (Some s) (Some ss) rest e = (s, ss, refl, refl, cc)
first_by (Some s) None rest e = absurd (cc)
first_by None p rest e = absurd (cc)

first_at : (values : List Value) (i : ℕ) (x : Value) (rest : List Served) → i < length values → x ≡ get_or values i x
    → servers_in (drop i values) ≡ Some rest → First (server_in x) (servers_in (drop (i + 1) values)) rest
unfolding servers_in
first_at values i x rest lt is h =
    let e : drop i values ≡ x ∷ drop (i + 1) values =
    drop-cons values i x lt ∙ rw (add-one, ← is) refl in
    first_by (server_in x) (servers_in (drop (i + 1) values)) rest (sym (ap servers_in e) ∙ h)

role_by : (role : List ℕ) (s : Served) (ss : List Served) (b : Bool) → bytes_eq role s.0 ≡ b
    → addresses_of role (s ∷ ss) ≡ of_role role s ++ addresses_of role ss
unfolding addresses_of
role_by role s ss true e = rw e refl
role_by role s ss false e = rw e refl

pub addresses_none : (role : List ℕ) → addresses_of role [] ≡ []
unfolding addresses_of
addresses_none role = refl

pub addresses_begin : (role : List ℕ) (values : List Value) (whole : List Served) → servers_in values ≡ Some whole
    → AddressesLeft role 0 values whole []
addresses_begin role values whole e = record { rest = whole; left = e; same = refl }

pub addresses_more : (role : List ℕ) (i : ℕ) (x : Value) (values : List Value) (whole : List Served) (found new : List Value)
    → i < length values → x ≡ get_or values i x → AddressesLeft role i values whole found
    → ((s : Served) → server_in x ≡ Some s → new ≡ found ++ of_role role s) → AddressesLeft role (i + 1) values whole new
addresses_more role i x values whole found new lt is l add =
    let f = first_at values i x l.rest lt is l.left in
    record {
      rest = f.1;
      left = f.3;
      same = ap (λ (t : List Value). t ++ addresses_of role f.1) (add f.0 f.2)
          ∙ append_assoc found (of_role role f.0) (addresses_of role f.1)
          ∙ ap (λ (t : List Value). found ++ t) (sym (role_by role f.0 f.1 (bytes_eq role f.0.0) refl))
          ∙ ap (λ (t : List Served). found ++ addresses_of role t) (sym f.4) ∙ l.same;
    }

pub addresses_all : (role : List ℕ) (i : ℕ) (values : List Value) (whole : List Served) (found : List Value) → length values ≤ i
    → AddressesLeft role i values whole found → found ≡ addresses_of role whole
unfolding servers_in
addresses_all role i values whole found done l =
    let e : Some l.rest ≡ Some [] = sym l.left ∙ ap servers_in (drop_all i values done) in
    let none : l.rest ≡ [] = cc in
    sym (append-nil found) ∙ ap (λ (t : List Value). found ++ t) (sym (addresses_none role))
    ∙ ap (λ (t : List Served). found ++ addresses_of role t) (sym none) ∙ l.same

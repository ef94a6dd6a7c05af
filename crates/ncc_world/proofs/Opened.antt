-- Which connections an open made.
use Rattle.std.proofs.Common.{◌≡◌, ◌⊎◌, inl, inr, ℕ, zero, suc, ◌-◌, ◌<◌, ◌≤◌, List, [], ◌∷◌, length, get_or, None, Bool, true, false, refl, ap, sym, ◌∙◌, arith}
use Rattle.std.specs.Prelude.{slice_get, nat_le, not, ◌&&◌}
use Rattle.std.proofs.lemmas.Bool.Decides.{leb_tells}
use Rattle.ncc_clients.specs.Run.{Client}
use Rattle.ncc_world.specs.declared.setup.Setup.{Setup}
use Rattle.ncc_world.specs.declared.error.WorldError.{WorldError}
use Rattle.ncc_world.specs.declared.seen.ConnSeen.{ConnSeen}
use Rattle.ncc_world.specs.declared.served.Served.{Served}
use Rattle.ncc_world.specs.Happening.{WorldRun, is_printed, is_linked, is_open_made}
use Rattle.ncc_world.specs.Rafts.{unless}
use Rattle.ncc_world.specs.World.{AreClients, KeptRun, RunsAs}

-- what the connections show of that
printed_at : (s : Setup) (vs : List Served) (seens : List ConnSeen) (cs : List Client) (i : ℕ) (d : ConnSeen) → AreClients s vs seens cs
    → i < length seens → (get_or seens i d).printed ≡ is_printed (slice_get cs i)
unfolding AreClients
printed_at s vs [] cs i d h l = absurd (omega (arith, l))
printed_at s [] (y ∷ ys) cs i d h l = absurd h
printed_at s (z ∷ zs) (y ∷ ys) [] i d h l = absurd h
printed_at s (z ∷ zs) (y ∷ ys) (x ∷ xs) zero d h l = h.0.kept.printed
printed_at s (z ∷ zs) (y ∷ ys) (x ∷ xs) (suc i) d h l = printed_at s zs ys xs i d h.1 (omega (arith, l))

none_at : (s : Setup) (vs : List Served) (seens : List ConnSeen) (cs : List Client) (i : ℕ) → AreClients s vs seens cs
    → length seens ≤ i → false ≡ is_printed (slice_get cs i)
unfolding AreClients
none_at s [] [] [] i h l = refl
none_at s [] [] (x ∷ xs) i h l = absurd h
none_at s [] (y ∷ ys) cs i h l = absurd h
none_at s (z ∷ zs) [] cs i h l = absurd h
none_at s (z ∷ zs) (y ∷ ys) [] i h l = absurd h
none_at s (z ∷ zs) (y ∷ ys) (x ∷ xs) zero h l = absurd (omega (arith, l))
none_at s (z ∷ zs) (y ∷ ys) (x ∷ xs) (suc i) h l = none_at s zs ys xs i h.1 (omega (arith, l))

guarded : (conn : ℕ) (b : Bool) → 0 < conn → b ≡ (nat_le 1 conn && b)
guarded conn b h = elim (leb_tells 1 conn) [
  | inl k ↦ ap (λ (x : Bool). x && b) (sym k.0)
  | inr k ↦ absurd (omega (arith, k.1, h))
]

-- no number, or one past the last
pub made_not : (s : Setup) (w : KeptRun) (r : WorldRun) (conn : ℕ) → RunsAs s w r
    → (conn ≡ 0) ⊎ (length w.clients.seen ≤ conn - 1) → false ≡ is_open_made r conn
made_not s w r zero k h = refl
made_not s w r (suc n) k (inl e) = absurd (omega (arith, e))
made_not s w r (suc n) k (inr l) =
    let apart : Bool = not (is_linked r (suc n)) in
    ap (λ (b : Bool). b && apart) (none_at s w.clients.table w.clients.seen r.clients (suc n - 1) k.clients.each l)
    ∙ guarded (suc n) (is_printed (slice_get r.clients (suc n - 1)) && apart) (omega arith)

-- one of these, by what it shows and whether a session made it
pub made_there : (s : Setup) (w : KeptRun) (r : WorldRun) (conn : ℕ) (d : ConnSeen) (printed linked : Bool) → RunsAs s w r → 0 < conn
    → conn - 1 < length w.clients.seen → (get_or w.clients.seen (conn - 1) d).printed ≡ printed → linked ≡ is_linked r conn
    → (printed && not linked) ≡ is_open_made r conn
made_there s w r conn d printed linked k h l e f =
    let shown : Bool = is_printed (slice_get r.clients (conn - 1)) in
    ap (λ (b : Bool). b && not linked) (sym e ∙ printed_at s w.clients.table w.clients.seen r.clients (conn - 1) d k.clients.each l)
    ∙ ap (λ (b : Bool). shown && not b) f ∙ guarded conn (shown && not (is_linked r conn)) h

-- ---- where an event is not refused

and_right : (a b : Bool) → (a && b) ≡ true → b ≡ true
and_right true b e = e
and_right false b e = absurd (cc)

and_left : (a b : Bool) → (a && b) ≡ true → a ≡ true
and_left true b e = refl
and_left false b e = absurd (cc)

printed_within : (cs : List Client) (i : ℕ) → is_printed (slice_get cs i) ≡ true → i < length cs
printed_within [] i e = absurd (cc)
printed_within (c ∷ cs) zero e = omega arith
printed_within (c ∷ cs) (suc i) e = omega (arith, printed_within cs i e)

-- a connection that an open made is there
pub made_within : (r : WorldRun) (conn : ℕ) → is_open_made r conn ≡ true → conn - 1 < length r.clients
made_within r conn e =
    let printed : Bool = is_printed (slice_get r.clients (conn - 1)) in
    let apart : Bool = not (is_linked r conn) in
    printed_within r.clients (conn - 1) (and_left printed apart (and_right (nat_le 1 conn) (printed && apart) e))

pub allowed_by : (b : Bool) (error : WorldError) → unless b error ≡ None → b ≡ true
allowed_by true error e = refl
allowed_by false error e = absurd (cc)

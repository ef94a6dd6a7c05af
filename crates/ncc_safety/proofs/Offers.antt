-- A proposal that gets a place: who takes it leads and has room, and its log has the entry as its last item.
use Rattle.std.proofs.Common.{◌≡◌, ℕ, ◌+◌, ◌<◌, ◌≤◌, Bool, true, false, nat_lt, if◌then◌else◌, [], ◌∷◌, ◌++◌, length, refl, sym, ap, ◌∙◌, length-append}
use Rattle.std.proofs.lemmas.Bool.{and_parts, and_from, lt-ltb, leb-true, leb-false}
use Rattle.ncc_tx.specs.declared.entry.Entry.{Entry}
use Rattle.ncc_raft.specs.declared.message.RaftRole.TheVariants.{Leader}
use Rattle.ncc_raft.specs.Member.{Seat, Member, Propose, is_core, is_leader, still, sends}
use Rattle.ncc_raft.specs.Appending.{added, advanced, appends}
use Rattle.ncc_raft.specs.Step.{may_add, settled, step}
use Rattle.ncc_safety.specs.Fleet.{Shape, Fleet, core_at, seat_at, outcome_at, proposed, leads, is_full, Elsewhere, Full, Placed, answer, Places}
use Rattle.ncc_safety.proofs.Reach.{leader_from}

-- what a core that leads and has room is behind a proposal
pub record IsAdded (m new : Member) (entry : Entry) : Type 0 where
  pub leads : new.role ≡ Leader
  pub term : new.term ≡ m.term
  pub log : new.log ≡ m.log ++ record { term = m.term; entry = entry } ∷ []

pub added_so : (seat : Seat) (m : Member) (entry : Entry) → m.role ≡ Leader → length m.log < seat.limit →
    IsAdded m (step seat m (Propose entry)).member entry
unfolding step
added_so seat m entry r l =
    go (may_add seat m) (and_from (is_leader m.role) (nat_lt (length m.log) seat.limit) leads (lt-ltb (length m.log) seat.limit l))
  where
    leads : is_leader m.role ≡ true
    leads = ap (λ z. is_leader z) r

    advances : (b : Bool) →
        IsAdded m (if b then record (sends (added m entry) (appends seat (added m entry))) { member = advanced seat (added m entry) } else
        sends (added m entry) (appends seat (added m entry))).member entry
    advances true = record { leads = r; term = refl; log = refl }
    advances false = record { leads = r; term = refl; log = refl }

    go : (b : Bool) → b ≡ true →
        IsAdded m (settled seat (if b then sends (added m entry) (appends seat (added m entry)) else still m)).member entry
    go true e = advances (is_leader m.role)
    go false e = absurd (cc)

-- what it says that a proposal was placed
pub record Offered (shape : Shape) (f : Fleet) (i : ℕ) (entry : Entry) (place term : ℕ) (g : Fleet) : Type 0 where
  pub core : is_core shape.cores i ≡ true
  pub leads : (core_at shape f i).role ≡ Leader
  pub room : length (core_at shape f i).log < shape.limit
  pub term_is : term ≡ (core_at shape f i).term
  pub place_is : place ≡ length (core_at shape f i).log + 1
  pub added : IsAdded (core_at shape f i) (outcome_at shape f i (Propose entry)).member entry
  pub after : g ≡ proposed shape f i entry

chosen : (b d : Bool) (n place term : ℕ) (g : Fleet) (p t : ℕ) (h : Fleet) →
    (if b then (if d then Full n else Placed p t h) else Elsewhere) ≡ Placed place term g →
    (b ≡ true) × (d ≡ false) × (place ≡ p) × (term ≡ t) × (g ≡ h)
chosen true true n place term g p t h e = absurd (cc)
chosen true false n place term g p t h e =
    let x : p ≡ place = cc in
    let y : t ≡ term = cc in
    let z : h ≡ g = cc in
    (refl, refl, sym x, sym y, sym z)
chosen false d n place term g p t h e = absurd (cc)

pub offered : (shape : Shape) (f : Fleet) (i : ℕ) (entry : Entry) (place term : ℕ) (g : Fleet) → Places shape f i entry place term g →
    Offered shape f i entry place term g
offered shape f i entry place term g x =
    let m : Member = core_at shape f i in
    let c = chosen (leads shape f i) (is_full shape f i) (length m.log) place term g
    (length (outcome_at shape f i (Propose entry)).member.log) (outcome_at shape f i (Propose entry)).member.term (proposed shape f i entry)
    x.placed in
    let p = and_parts (is_core shape.cores i) (is_leader m.role) c.0 in
    let r = leader_from m.role p.1 in
    let room = leb-false shape.limit (length m.log) c.1 in
    let a = added_so (seat_at shape i) m entry r room in
    let more : length (m.log ++ record { term = m.term; entry = entry } ∷ []) ≡ length m.log + 1 = length-append m.log _ in
    record {
      core = p.0;
      leads = r;
      room = room;
      term_is = c.3 ∙ a.term;
      place_is = c.2 ∙ ap length a.log ∙ more;
      added = a;
      after = c.4;
    }

-- ---- the other answers

refused : (b d : Bool) (n p t : ℕ) (h : Fleet) → (if b then (if d then Full n else Placed p t h) else Elsewhere) ≡ Elsewhere → b ≡ false
refused true true n p t h e = absurd (cc)
refused true false n p t h e = absurd (cc)
refused false d n p t h e = refl

refuses : (b d : Bool) (n p t : ℕ) (h : Fleet) → b ≡ false → (if b then (if d then Full n else Placed p t h) else Elsewhere) ≡ Elsewhere
refuses true d n p t h e = absurd (cc)
refuses false d n p t h e = refl

filled : (b d : Bool) (n p t : ℕ) (h : Fleet) (items : ℕ) →
    (if b then (if d then Full n else Placed p t h) else Elsewhere) ≡ Full items → (b ≡ true) × (d ≡ true) × (items ≡ n)
filled true true n p t h items e = let x : n ≡ items = cc in (refl, refl, sym x)
filled true false n p t h items e = absurd (cc)
filled false d n p t h items e = absurd (cc)

module _ (shape : Shape) (f : Fleet) (i : ℕ) (entry : Entry) where
  pub elsewhere_from : answer shape f i entry ≡ Elsewhere → leads shape f i ≡ false
  elsewhere_from e = refused (leads shape f i) (is_full shape f i) _ _ _ _ e

  pub elsewhere_to : leads shape f i ≡ false → answer shape f i entry ≡ Elsewhere
  elsewhere_to e = refuses (leads shape f i) (is_full shape f i) _ _ _ _ e

  -- its log has at least as many items as it may have
  pub full_from : (items : ℕ) → answer shape f i entry ≡ Full items →
      (leads shape f i ≡ true) × (items ≡ length (core_at shape f i).log) × (shape.limit ≤ length (core_at shape f i).log)
  full_from items e =
      let x = filled (leads shape f i) (is_full shape f i) _ _ _ _ items e in
      (x.0, x.2, leb-true shape.limit (length (core_at shape f i).log) x.1)

-- No connection vanishes.
use Rattle.std.proofs.Common.{◌≡◌, ◌≢◌, ℕ, Bool, true, false, List, [], ◌∷◌, ◌++◌, Some, refl, ap, sym, ◌∙◌, subst, append_assoc}
use Rattle.std.proofs.Common.{append-nil, eqb-true}
use Rattle.std.specs.Prelude.{slice_get, slice_set, nat_eq}
use Rattle.ncc_session.specs.declared.ask.Fact.{Fact}
use Rattle.ncc_session.specs.declared.ask.Fact.TheVariants.{Elsewhere, Full}
use Rattle.ncc_clients.specs.Members.{Cluster, Proposed, elsewhere, full, placed}
use Rattle.ncc_clients.specs.Run.{Run, Client, ticked, fed, moved, closed_at, with_bytes, with_fact, with_placing, proposed, told_to}
use Rattle.ncc_clients.specs.Moment.{Small, Ticks, Opens, Feeds, Tells, Offers, Moves, Restarts, Drives, Closes, Path, Here, Then}
use Rattle.ncc_clients.specs.Laws.{GoesOn, NobodyVanishes}
use Rattle.ncc_clients.proofs.Lists.{get_append, set_same, set_other}
use Rattle.ncc_clients.proofs.Fits.{same_test}

goes_self : (c : Client) → GoesOn c c
goes_self c = record {
  number = refl;
  member = refl;
  more_bytes = [];
  bytes = sym (append-nil c.bytes);
  more_facts = [];
  facts = sym (append-nil c.facts);
  printed = refl;
}

goes_through : (c d e : Client) → GoesOn c d → GoesOn d e → GoesOn c e
goes_through c d e f g = record {
  number = g.number ∙ f.number;
  member = g.member ∙ f.member;
  more_bytes = f.more_bytes ++ g.more_bytes;
  bytes = g.bytes ∙ ap (λ l. l ++ g.more_bytes) f.bytes ∙ append_assoc c.bytes f.more_bytes g.more_bytes;
  more_facts = f.more_facts ++ g.more_facts;
  facts = g.facts ∙ ap (λ l. l ++ g.more_facts) f.facts ∙ append_assoc c.facts f.more_facts g.more_facts;
  printed = g.printed ∙ f.printed;
}

-- it is another with the same number, member, bytes and facts
goes_other : (c d : Client) → d.number ≡ c.number → d.member ≡ c.member → d.bytes ≡ c.bytes → d.facts ≡ c.facts → d.printed ≡ c.printed
    → GoesOn c d
goes_other c d n m b f p = record {
  number = n;
  member = m;
  more_bytes = [];
  bytes = b ∙ sym (append-nil c.bytes);
  more_facts = [];
  facts = f ∙ sym (append-nil c.facts);
  printed = p;
}

module _ {S : Type 0} where
  stays_there : (r s : Run S) → s.clients ≡ r.clients → NobodyVanishes r s
  stays_there r s e i c there = (c, ap (λ (cs : List Client). slice_get cs i) e ∙ there, goes_self c)

  one_goes : (r s : Run S) (i : ℕ) (c d : Client) → slice_get r.clients i ≡ Some c → s.clients ≡ slice_set r.clients i d → GoesOn c d
      → NobodyVanishes r s
  one_goes r s i c d there e goes j x is = go (nat_eq j i) refl where
    go : (b : Bool) → nat_eq j i ≡ b → (y : Client) × (slice_get s.clients j ≡ Some y) × GoesOn x y
    go true h =
        let j_is : j ≡ i = eqb-true j i h in
        let same : Some c ≡ Some x = sym there ∙ ap (λ (n : ℕ). slice_get r.clients n) (sym j_is) ∙ is in
        let c_is : c ≡ x = cc in (
          d,
          ap (λ (cs : List Client). slice_get cs j) e ∙ ap (λ (n : ℕ). slice_get (slice_set r.clients i d) n) j_is
              ∙ set_same r.clients i c d there,
          subst (λ (y : Client). GoesOn y d) c_is goes,
        )
    go false h =
        let other : j ≢ i = λ k. let f : true ≡ false = sym (same_test i) ∙ ap (λ n. nat_eq n i) (sym k) ∙ h in cc in (
          x,
          ap (λ (cs : List Client). slice_get cs j) e ∙ set_other r.clients i j d other ∙ is,
          goes_self x,
        )

  told_goes : (line : ℕ) (r : Run S) (i : ℕ) (c : Client) (fact : Fact) → slice_get r.clients i ≡ Some c
      → NobodyVanishes r (told_to line r i c fact)
  told_goes line r i c fact there = one_goes r (told_to line r i c fact) i c (with_fact r.now c fact) there refl (record {
    number = refl;
    member = refl;
    more_bytes = [];
    bytes = sym (append-nil c.bytes);
    more_facts = fact ∷ [];
    facts = refl;
    printed = refl;
  })

  module _ (C : Cluster S) where
    offered_goes : (line : ℕ) (r : Run S) (i : ℕ) (c : Client) (o : Proposed S) → slice_get r.clients i ≡ Some c
        → NobodyVanishes r (proposed C line r i c o)
    offered_goes line r i c elsewhere there = told_goes line r i c Elsewhere there
    offered_goes line r i c (full entries) there = told_goes line r i c (Full entries) there
    offered_goes line r i c (placed place term after) there =
        one_goes r (proposed C line r i c (placed place term after)) i c (with_placing r.now c place term) there refl
        (goes_other c (with_placing r.now c place term) refl refl refl refl refl)

    small_goes : (r s : Run S) → Small C r s → NobodyVanishes r s
    small_goes r s (Ticks _ to le) = stays_there r (ticked r to) refl
    small_goes r s (Opens _ member printed some) = λ i c there. (c, get_append r.clients _ i c there, goes_self c)
    small_goes r s (Feeds _ i c piece is) = one_goes r (fed C r i c piece) i c (with_bytes C r.now c piece) is.there refl (record {
      number = refl;
      member = refl;
      more_bytes = piece;
      bytes = refl;
      more_facts = [];
      facts = sym (append-nil c.facts);
      printed = refl;
    })
    small_goes r s (Tells line _ i c fact t) = told_goes line r i c fact t.there.there
    small_goes r s (Offers line _ i c entry p) = offered_goes line r i c (C.propose r.members c.member entry) p.there.there
    small_goes r s (Moves _ members m) = stays_there r (moved C r members) refl
    small_goes r s (Restarts _ member members m none) = stays_there r (moved C r members) refl
    small_goes r s (Drives _ driving) = stays_there r (record r { driving = driving }) refl
    small_goes r s (Closes _ i c is) = one_goes r (closed_at r i c) i c (record c { closed = true }) is.there refl
        (goes_other c (record c { closed = true }) refl refl refl refl refl)

    pub nobody_vanishes : (r s : Run S) → Path C r s → NobodyVanishes r s
    nobody_vanishes r s (Here _) = stays_there r r refl
    nobody_vanishes r s (Then _ m _ h p) = λ i c there.
        let one = small_goes r m h i c there in
        let two = nobody_vanishes m s p i one.0 one.1 in
        (two.0, two.1, goes_through c one.0 two.0 one.2 two.2)

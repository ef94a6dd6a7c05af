-- What a majority may have taken stands at the start of every later term.
use Rattle.std.proofs.Common.{◌≡◌, ℕ, zero, suc, ◌<◌, ◌≤◌, true, ◌&&◌, ◌==◌, nat_lt, nat_le, List, [], ◌∷◌, length, slice_get, Some, ◌⊎◌, refl, sym, ap, ◌∙◌, inl, inr, arith}
use Rattle.std.proofs.lemmas.Bool.{ltb-true, leb-true, eqb-true, or_cases, and_parts}
use Rattle.std.proofs.lemmas.Option.{slice_get_within}
use Rattle.ncc_tx.specs.declared.entry.Item.{Item}
use Rattle.ncc_tx.specs.Kept.{term_at, term_of}
use Rattle.ncc_raft.specs.declared.message.RaftRole.TheVariants.{Candidate}
use Rattle.ncc_raft.specs.Member.{majority}
use Rattle.ncc_raft.specs.Logs.{last_term, up_to_date}
use Rattle.ncc_safety.specs.Lists.{Agree}
use Rattle.ncc_safety.specs.Cluster.{Cluster}
use Rattle.ncc_safety.specs.Nine.{Stays}
use Rattle.ncc_safety.specs.Sentences.{Sound, holder, Choosable}
use Rattle.ncc_safety.proofs.Quorum.{quorum}
use Rattle.ncc_safety.proofs.Agree.{get_some}
use Rattle.ncc_safety.proofs.Voting.{Good}
use Rattle.ncc_safety.proofs.Logs.{Logs}

pub record Safe (c : Cluster) : Type 0 where
  pub stays : Stays c
  pub begins : (t : ℕ) → Agree (length (c.records.start t)) (c.records.start t) (c.records.lead t)
  pub vsound : (u j : ℕ) → Sound c.records (c.records.vlog u j)

-- the last item of a list
pub record Last (xs : List Item) : Type 0 where
  pub place : ℕ
  pub item : Item
  pub size : length xs ≡ suc place
  pub there : slice_get xs place ≡ Some item
  pub own : item.term ≡ last_term xs

pub last_of : (xs : List Item) (k : ℕ) → k < length xs → Last xs
unfolding last_term
last_of xs k l = go (length xs) refl l
  where
    go : (n : ℕ) → length xs ≡ n → k < n → Last xs
    go zero e q = absurd (omega arith)
    go (suc a) e q =
        let s = get_some xs a (omega arith) in
        record { place = a; item = s.0; size = e; there = s.1; own = sym (ap (λ p. term_at xs p) e ∙ ap term_of s.1) }

no_last : (xs : List Item) → 0 < last_term xs → 0 < length xs
unfolding last_term
no_last [] l = absurd (omega arith)
no_last (x ∷ xs) l = omega arith

-- a candidate with a majority has all that an earlier term may have chosen
module _ (c : Cluster) (good : Good c) (logs : Logs c) (safe : Safe c) (t k : ℕ) (ch : Choosable c t k) where
  -- a list at least as up to date as one that has it
  newer : (u : ℕ) (L V : List Item) → Sound c.records L → Sound c.records V → ((p : ℕ) (x : Item) → slice_get L p ≡ Some x → x.term < u) →
      Agree (suc k) (c.records.lead t) V → up_to_date (length L) (last_term L) V ≡ true → Agree (suc k) (c.records.lead t) L
  unfolding up_to_date
  newer u L V sl sv below has utd j lj = go (or_cases _ _ utd)
    where
      v_at : slice_get V k ≡ Some ch.item
      v_at = sym (has k (omega arith)) ∙ ch.there

      lv : Last V
      lv = last_of V k (slice_get_within V k ch.item v_at)

      low : k ≤ lv.place
      low = let w = slice_get_within V k ch.item v_at in let e = lv.size in omega arith

      v_sound : Agree (suc lv.place) V (c.records.lead (lv.item).term)
      v_sound = (sv lv.place lv.item lv.there).1

      go : (nat_lt (last_term V) (last_term L) ≡ true) ⊎ (((last_term L == last_term V) && nat_le (length V) (length L)) ≡ true) →
          slice_get (c.records.lead t) j ≡ slice_get L j
      go (inl a) =
          let low' = low in
          let gt = ltb-true (last_term V) (last_term L) a in
          let ll = last_of L 0 (no_last L (omega arith)) in
          let w : ℕ = (ll.item).term in
          let own = ll.own in
          let vown = lv.own in
          let lead_k : slice_get (c.records.lead (lv.item).term) k ≡ Some ch.item = sym (v_sound k (omega arith)) ∙ v_at in
          let le = logs.records.terms (lv.item).term k ch.item lead_k in
          let town = ch.own in
          let ls = sl ll.place ll.item ll.there in
          let lead_w : slice_get (c.records.lead w) ll.place ≡ Some ll.item = sym (ls.1 ll.place (omega arith)) ∙ ll.there in
          let owned : c.records.owner w ≡ 0 → ⊥ = λ z. let e = logs.records.no_lead w z in let f : slice_get [] ll.place ≡ Some ll.item =
          rw e at lead_w in absurd (cc) in
          let st = safe.stays.starts t k ch w (omega arith) owned in
          let s_at : slice_get (c.records.start w) k ≡ Some ch.item = sym (st k (omega arith)) ∙ ch.there in
          let sw = slice_get_within (c.records.start w) k ch.item s_at in
          let lw = ls.0 in
          st j lj ∙ safe.begins w j (omega arith) ∙ sym (ls.1 j (omega arith))
      go (inr a) =
          let p = and_parts (last_term L == last_term V) (nat_le (length V) (length L)) a in
          let low' = low in
          let same = eqb-true (last_term L) (last_term V) p.0 in
          let le = leb-true (length V) (length L) p.1 in
          let vs = lv.size in
          let ll = last_of L 0 (omega arith) in
          let ls = ll.size in
          let e : (ll.item).term ≡ (lv.item).term = ll.own ∙ same ∙ sym lv.own in
          let l_sound : slice_get L j ≡ slice_get (c.records.lead (lv.item).term) j =
          rw e at ((sl ll.place ll.item ll.there).1 j (omega arith)) in
          has j lj ∙ v_sound j (omega arith) ∙ sym l_sound

  pub elected_has : (i : ℕ) → (c.at i).role ≡ Candidate → majority c.cores (λ j. c.records.vote (c.at i).term j == i) ≡ true →
      t < (c.at i).term → Agree (suc k) (c.records.lead t) (c.at i).log
  elected_has i r maj lt =
      let u : ℕ = (c.at i).term in
      let x = quorum c.cores (λ j. c.records.vote u j == i) (holder c t k) maj ch.held in
      let vi = eqb-true (c.records.vote u x.0) i x.1 in
      let nz = (good.members i).stands r in
      let voted : c.records.vote u x.0 ≡ 0 → ⊥ = λ z. nz (sym vi ∙ z) in
      let ack = took x.0 voted (or_cases _ _ x.2) in
      let f = good.records.fresh u x.0 i vi nz in
      let e : f.0 ≡ (c.at i).log = let q = (good.members i).candidate r in let q' = f.1 in cc in
      let utd : up_to_date (length (c.at i).log) (last_term (c.at i).log) (c.records.vlog u x.0) ≡ true = rw e at f.2 in
      let below = (logs.records.cands u i (c.at i).log ((good.members i).candidate r)).1 in
      newer u (c.at i).log (c.records.vlog u x.0) (logs.members i).sound (safe.vsound u x.0) below
      (safe.stays.vlogs t k ch u x.0 lt voted ack) utd
    where
      took : (j : ℕ) → (c.records.vote (c.at i).term j ≡ 0 → ⊥) →
          (nat_lt k (c.records.ack t j) ≡ true) ⊎ (nat_le (c.at j).term t ≡ true) → k < c.records.ack t j
      took j v (inl a) = ltb-true k (c.records.ack t j) a
      took j v (inr a) = let l = leb-true (c.at j).term t a in absurd (v ((good.members j).later (c.at i).term (omega arith)))

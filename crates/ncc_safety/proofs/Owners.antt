-- A term has one owner, whose log only grows.
use Rattle.std.proofs.Common.{◌≡◌, ℕ, List, ◌++◌, length, drop, slice_get, sym, ap, ◌∙◌, arith}
use Rattle.std.proofs.lemmas.List.{take-append-drop, take_all}
use Rattle.ncc_tx.specs.declared.entry.Item.{Item}
use Rattle.ncc_safety.specs.Lists.{Agree, Begins}
use Rattle.ncc_safety.specs.Cluster.{Cluster}
use Rattle.ncc_safety.specs.Laws.{Leads, OneLeader, LeaderGrows, Elected}
use Rattle.ncc_safety.specs.Steps.{Steps}
use Rattle.ncc_safety.proofs.Agree.{take_same}
use Rattle.ncc_safety.proofs.Voting.{Good}
use Rattle.ncc_safety.proofs.Logs.{lead_agree}
use Rattle.ncc_safety.proofs.Sane.{Sane, Later, later}
use Rattle.ncc_safety.proofs.Nines.{candidates_of, votes_of, owners_of}

leads_owner : (c : Cluster) (t i : ℕ) → Good c → Leads c t i → c.records.owner t ≡ i
leads_owner c t i k l = rw l.1 at ((k.members i).leads l.0).0

-- a leader is no member of number 0
leads_some : (c : Cluster) (t i : ℕ) → Good c → Leads c t i → i ≡ 0 → ⊥
leads_some c t i k l = ((k.members i).leads l.0).1

pub leads_log : (c : Cluster) (t i : ℕ) → Good c → Leads c t i → c.records.lead t ≡ (c.at i).log
leads_log c t i k l = rw l.1 at ((k.members i).lead_log l.0)

-- a term that somebody leads has an owner
pub leads_owned : (c : Cluster) (t i : ℕ) → Good c → Leads c t i → c.records.owner t ≡ 0 → ⊥
leads_owned c t i k l z = leads_some c t i k l (sym (leads_owner c t i k l) ∙ z)

-- all of one list stands at the beginning of another
pub begins_from : (xs ys : List Item) → Agree (length xs) xs ys → Begins xs ys
begins_from xs ys a =
    let e = take_same (length xs) xs ys (omega arith) a in
    let f = take_all (length xs) xs (omega arith) in
    (drop (length xs) ys, sym (take-append-drop (length xs) ys) ∙ ap (λ w. w ++ drop (length xs) ys) (sym e ∙ f))

module _ (c d : Cluster) (s : Steps c d) (k : Sane c) where
  after : Later c d
  after = later c d s k

  pub one_leader : OneLeader c d
  one_leader t i j a b = sym (after.votes.owners t i (leads_owner c t i k.good a) (leads_some c t i k.good a)) ∙ leads_owner d t j
      after.sane.good b

  pub leader_grows : LeaderGrows c d
  leader_grows t i a b =
      let x = leads_log c t i k.good a in
      let y = leads_log d t i after.sane.good b in
      let e : length (c.records.lead t) ≡ length (c.at i).log = ap length x in
      begins_from (c.at i).log (d.at i).log
      (λ j l. ap (λ w. slice_get w j) (sym x) ∙ lead_agree c.records d.records after.logs t (length (c.at i).log) (omega arith) j l ∙
      ap (λ w. slice_get w j) y)

pub elected : (c : Cluster) → Sane c → Elected c
elected c k = record { candidates = candidates_of c k; votes = votes_of c k; owners = owners_of c k }

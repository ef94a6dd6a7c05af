-- Who does not lead refuses, and no other says so, over one list and over Raft.
use Rattle.std.proofs.Common.{◌≡◌, ℕ, ◌+◌, ◌==◌, nat_le, Bool, true, false, cond, length, refl, ap, ◌∙◌}
use Rattle.ncc_tx.specs.declared.entry.Entry.{Entry}
use Rattle.ncc_safety.specs.Fleet.{Answer, Elsewhere, Full, Placed, answer}
use Rattle.ncc_safety.proofs.FleetLaws.{refuses_elsewhere}
use Rattle.ncc_clients.specs.Members.{elsewhere, full, placed}
use Rattle.ncc_world.specs.declared.setup.Setup.{Setup}
use Rattle.ncc_world.specs.Setting.{Lists, Seats, over_list, over_raft, list_at, appended, proposes, answered, cluster_of, shape_of}

is_elsewhere : (a : Answer) → answered a ≡ elsewhere → a ≡ Elsewhere
is_elsewhere Elsewhere e = refl
is_elsewhere (Full items) e = absurd (cc)
is_elsewhere (Placed place term fleet) e = absurd (cc)

pub leads_or : (s : Setup) (seats : Seats) (member : ℕ) (entry : Entry) → (cluster_of s).leads seats member ≡ false
    → (cluster_of s).propose seats member entry ≡ elsewhere
leads_or s (over_list lists) member entry e = ap (λ b. cond b (proposes s.limit lists entry) elsewhere) e
leads_or s (over_raft fleet) member entry e = ap answered ((refuses_elsewhere (shape_of s) fleet member entry).1 e)

refuses_list : (s : Setup) (lists : Lists) (member : ℕ) (entry : Entry) → (cluster_of s).propose (over_list lists) member entry ≡ elsewhere
    → (member == 1) ≡ false
refuses_list s lists member entry e = go (member == 1) refl e where
  there : (b : Bool) → cond b (full (length (list_at lists 1))) (placed (length (list_at lists 1) + 1) 1 (over_list (appended lists entry)))
      ≡ elsewhere → true ≡ false
  there true h = absurd (cc)
  there false h = absurd (cc)

  go : (b : Bool) → (member == 1) ≡ b → cond b (proposes s.limit lists entry) elsewhere ≡ elsewhere → (member == 1) ≡ false
  go true f h = f ∙ there (nat_le s.limit (length (list_at lists 1))) h
  go false f h = f

pub refuses_or : (s : Setup) (seats : Seats) (member : ℕ) (entry : Entry) → (cluster_of s).propose seats member entry ≡ elsewhere
    → (cluster_of s).leads seats member ≡ false
refuses_or s (over_list lists) member entry e = refuses_list s lists member entry e
refuses_or s (over_raft fleet) member entry e =
    (refuses_elsewhere (shape_of s) fleet member entry).0 (is_elsewhere (answer (shape_of s) fleet member entry) e)

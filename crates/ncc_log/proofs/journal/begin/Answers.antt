use Rattle.std.proofs.Common.{◌≡◌, ◌∙◌, ℕ, List, [], ◌∷◌, ◌++◌, true, subst}
use Rattle.ncc_base.specs.Disk.{Sync, Write}
use Rattle.ncc_log.specs.Calls.{Asks}
use Rattle.ncc_log.specs.Header.{header}
use Rattle.ncc_log.proofs.Moments.{asks_none, asks_on, asks_one}
use Rattle.ncc_log.proofs.journal.begin.Goals as goal

pub returns-clause-asked : goal.returns-clause-asked
returns-clause-asked g c told =
    let d = g.D.Disk in
    let law = g.met.D.Disk.went_on in
    let old = c.args.disk.now in
    let bytes = c.as_slice.result.now in
    let same : bytes ≡ header c.args.cluster c.args.member ++ 0 ∷ [] = c.as_slice.ensures.value ∙ c.in_ok-bytes.ensures.ok in
    let calls = asks_on d law c.reserve.new.self c.write.new.self c.sync.new.self (Write 0 bytes true ∷ []) (Sync true ∷ [])
    (c.write.ensures.time told).later
    (asks_one d c.reserve.new.self c.write.new.self (Write 0 bytes true) c.in_ok-write.ensures.asked c.in_ok-write.ensures.went)
    (asks_one d c.write.new.self c.sync.new.self (Sync true) c.in_ok-sync.ensures.asked c.in_ok-sync.ensures.went) in
    subst (λ (l : List ℕ). Asks d old c.sync.new.self (Write 0 l true ∷ Sync true ∷ [])) same
    (asks_on d law old c.reserve.new.self c.sync.new.self [] (Write 0 bytes true ∷ Sync true ∷ []) (c.reserve.ensures.time told).later
    (asks_none d old c.reserve.new.self c.reserve.ensures.asked c.reserve.ensures.went) calls)

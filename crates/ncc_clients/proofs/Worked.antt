-- Worked rows, by computation.
use Rattle.std.proofs.Common.{List, [], ◌∷◌, refl, arith}
use Rattle.std.specs.List.{Contains}
use Rattle.ncc_session.specs.declared.ask.Fact.{Fact}
use Rattle.ncc_session.specs.declared.ask.Fact.TheVariants.{Entered, Rows}
use Rattle.std.specs.Fmt.{digits}
use Rattle.ncc_chunk.specs.Chunked.{chunks_of, chunks_by}
use Rattle.rand_core.specs.Pcg32Seed.{pcg32_seed}
use Rattle.rand_core.specs.Steps.{word_bytes, u32_at}
use Rattle.ncc_driver.specs.State.{words_of, new_core}
use Rattle.ncc_driver.specs.Session.{session, works_all, told_all, begins, on}
use Rattle.ncc_clients.specs.Members.{addresses}
use Rattle.ncc_clients.specs.Links.{lift_bytes, lift_requests}
use Rattle.ncc_clients.specs.Drives.{named_from, does_all, with_input, wakes_from}
use Rattle.ncc_clients.specs.Reads.{SessionsReadTheirWrites, Holds}
use Rattle.ncc_clients.specs.Worked.{RequestsCount, BytesMove, RequestsMove, AddressesName, WorkJoins, NobodyIsThere, CutsDrop}
use Rattle.ncc_clients.specs.Worked.{SleepersWake}
use Rattle.ncc_clients.specs.Worked.{StaleIsRefuted, second_is_told}

pub requests_count : RequestsCount
unfolding chunks_of chunks_by
requests_count = (refl, refl, refl)

pub bytes_move : BytesMove
unfolding lift_bytes
bytes_move = (refl, refl, refl, refl, refl)

pub requests_move : RequestsMove
unfolding lift_bytes lift_requests
requests_move = (refl, refl, refl, refl)

pub addresses_name : AddressesName
unfolding digits addresses named_from
addresses_name = (refl, refl, refl)

pub work_joins : WorkJoins
unfolding digits addresses named_from does_all with_input session works_all told_all begins on new_core words_of pcg32_seed word_bytes u32_at
work_joins = (refl, refl, refl)

pub nobody_is_there : NobodyIsThere
unfolding digits addresses named_from does_all with_input session works_all told_all begins on new_core words_of pcg32_seed word_bytes u32_at
nobody_is_there = (refl, refl, refl, refl)

pub cuts_drop : CutsDrop
unfolding digits addresses named_from does_all with_input session works_all told_all begins on new_core words_of pcg32_seed word_bytes u32_at lift_bytes
cuts_drop = (refl, refl, refl, refl)

pub sleepers_wake : SleepersWake
unfolding digits addresses named_from does_all with_input session works_all told_all begins on new_core words_of pcg32_seed word_bytes u32_at wakes_from
sleepers_wake = (refl, refl)

owes : {X : Type 0} → (x : X) (xs : List X) → Contains (x ∷ xs) x
owes x xs = (0, omega arith, refl)

owes_next : {X : Type 0} → (x y : X) (xs : List X) → Contains (x ∷ y ∷ xs) y
owes_next x y xs = (1, omega arith, refl)

stale_by : (fact : Fact) → (Holds 3 fact → ⊥) → SessionsReadTheirWrites (second_is_told fact) → ⊥
stale_by fact not h =
    not (h _ 3 _ _ (owes _ []) refl (owes_next _ _ []) (record { session = refl; later = omega arith }) (owes _ []) refl)

pub stale_is_refuted : StaleIsRefuted
stale_is_refuted = (stale_by (Entered 2) (λ h. absurd (omega (arith, h))), stale_by (Rows 2 []) (λ h. absurd (omega (arith, h))))

-- The promise, of every run of events.
use Rattle.std.proofs.Common.{ℕ, List, [], ◌∷◌, refl, subst}
use Rattle.ncc_clients.specs.Turn.{AtRest}
use Rattle.ncc_clients.specs.Four.{Four}
use Rattle.ncc_clients.specs.Laws.{AllIsKept, RestForgetsNobody, TurnsAreSmall, OneWay, Promise}
use Rattle.ncc_clients.specs.Reads.{SessionsReadTheirWrites}
use Rattle.ncc_world.specs.declared.setup.Setup.{Setup}
use Rattle.ncc_world.specs.declared.event.Event.{Event}
use Rattle.ncc_world.specs.Setting.{IsSetup, cluster_of, seats_of}
use Rattle.ncc_world.specs.Happening.{WorldRun, start_of, RunsOn}
use Rattle.ncc_world.specs.Headline.{AllMayHappen, EveryRunKeeps, OneRun}
use Rattle.ncc_world.proofs.Listed.{list_keeps_four}
use Rattle.ncc_world.proofs.Settling.{SameSteps}
use Rattle.ncc_world.proofs.Moments.{Ways, runs_path, one_run, moment_from, moment_to}
use Rattle.ncc_world.proofs.Happenings.{facts_are_lawful}

-- what clients are owed, whatever the members are
pub record Clients (s : Setup) : Type 0 where
  pub all_is_kept : AllIsKept (cluster_of s)
  pub rest_forgets_nobody : RestForgetsNobody (cluster_of s)
  pub turns_are_small : TurnsAreSmall (cluster_of s)
  pub one_way : OneWay (cluster_of s)
  pub same_steps : SameSteps
  pub sessions_read : IsSetup s → (es : List (ℕ × Event)) (end : WorldRun) → AllMayHappen s es → RunsOn s es (start_of s) end
      → SessionsReadTheirWrites end

ways_of : (s : Setup) → Clients s → Ways s
ways_of s c = record { small = c.turns_are_small; one_way = c.one_way; same_steps = c.same_steps }

-- after each event nobody can be answered
rests : (s : Setup) (es : List (ℕ × Event)) (r t : WorldRun) → AtRest (cluster_of s) r → RunsOn s es r t → AtRest (cluster_of s) t
rests s [] r t a h = subst (λ x. AtRest (cluster_of s) x) h a
rests s (e ∷ es) r t a h = rests s es h.0 t h.1.settles.rests h.2

pub every_run_keeps : ((s : Setup) → Clients s) → EveryRunKeeps
every_run_keeps clients s es end setup ran =
    let c : Clients s = clients s in
    let w : Ways s = ways_of s c in
    let four : Four (cluster_of s) (seats_of s) = list_keeps_four s setup in
    let promise : Promise (cluster_of s) (seats_of s) end =
    c.all_is_kept (seats_of s) end four (runs_path s w.small es (start_of s) end ran) in
    record {
      members_agree = λ line r h. promise.members_agree r (moment_from s w es line r h) (moment_to s w es line r end h ran);
      facts_are_lawful = facts_are_lawful s w es end ran promise.each_fact_is_lawful;
      places_are_apart = promise.places_are_apart;
      all_are_served = promise.all_are_served;
      nobody_vanishes = λ line r h. promise.nobody_vanishes r (moment_from s w es line r h) (moment_to s w es line r end h ran);
      nobody_is_forgotten = λ before behind r e h.
          c.rest_forgets_nobody (seats_of s) r four (runs_path s w.small before (start_of s) r h) (rests s before (start_of s) r refl h);
      sessions_read_their_writes = λ may. c.sessions_read setup es end may ran;
    }

pub one_run_of_each : ((s : Setup) → Clients s) → OneRun
one_run_of_each clients s es r t u h g = one_run s (ways_of s (clients s)) es r t u h g

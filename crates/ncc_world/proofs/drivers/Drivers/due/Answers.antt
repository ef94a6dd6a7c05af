use Rattle.std.proofs.Common.{◌≡◌, ◌∙◌, ◌<◌, ◌++◌, ◌∷◌, ℕ, List, Option, None, Some, [], length, ap, sym, subst, arith}
use Rattle.ncc_wait.specs.declared.outcomes.Outcome.{Outcome}
use Rattle.ncc_wait.specs.declared.parked.Parked.{Parked}
use Rattle.ncc_wait.specs.Room.{left_by, next, without}
use Rattle.ncc_world.specs.Drivers.{AreAtWork, KeptDrivers}
use Rattle.ncc_world.specs.Parts.{drivers_in}
use Rattle.ncc_world.proofs.Sessions.{due_kept, room_ascends}
use Rattle.ncc_world.proofs.Taking.{TakesOut, all_are_out, fewer, one_out}
use Rattle.ncc_world.proofs.drivers.Drivers.due.Goals as goal

pub loop-due-smaller : goal.loop-due-smaller
loop-due-smaller c =
    let x : ℕ × Outcome = (c.in-Some.number, c.in-Some.field-0-1) in
    let room : List Parked = c.loop-due.self.sleepers in
    let first : next 0 c.args.now room ≡ Some x = sym c.due.ensures.first ∙ c.in-Some.is in
    let rest : c.due.new.self ≡ without x.0 room = c.due.ensures.rest ∙ ap (λ (o : Option (ℕ × Outcome)). left_by o room) c.in-Some.is in
    let less : length c.due.new.self < length room = omega (arith, fewer c.args.now room x first, ap length rest) in less

pub loop-due-preserved : goal.loop-due-preserved
loop-due-preserved c =
    let x : ℕ × Outcome = (c.in-Some.number, c.in-Some.field-0-1) in
    let all : List Parked = c.args.self.now.sleepers in
    let room : List Parked = c.loop-due.self.sleepers in
    let out : List ℕ = c.loop-due.due.items in
    let first : next 0 c.args.now room ≡ Some x = sym c.due.ensures.first ∙ c.in-Some.is in
    let rest : c.due.new.self ≡ without x.0 room = c.due.ensures.rest ∙ ap (λ (o : Option (ℕ × Outcome)). left_by o room) c.in-Some.is in
    record {
      same = ap (λ (k : KeptDrivers). record k { sleepers = c.due.new.self }) c.loop-due.invariant.same;
      out = λ a. subst (λ (o : List ℕ). TakesOut c.args.now all o c.due.new.self) (sym c.in_ok-push.ensures.items)
          (subst (λ (l : List Parked). TakesOut c.args.now all (out ++ x.0 ∷ []) l) (sym rest)
          (one_out c.args.now all out room x first (c.loop-due.invariant.out a)));
    }

pub returns-in_err-push-clause-list : goal.returns-in_err-push-clause-list
returns-in_err-push-clause-list c = ap (λ (k : KeptDrivers). k.list) c.loop-due.invariant.same

pub returns-clause-due : goal.returns-clause-due
returns-clause-due c = λ s driving w.
    let k : KeptDrivers = drivers_in c.args.self.now in
    let room : List Parked = c.loop-due.self.sleepers in
    let none : next 0 c.args.now room ≡ None = sym c.due.ensures.first ∙ c.in_default.is in
    let rest : c.due.new.self ≡ room = c.due.ensures.rest ∙ ap (λ (o : Option (ℕ × Outcome)). left_by o room) c.in_default.is in
    let out = all_are_out c.args.now k.sleepers c.loop-due.due.items room none
    (c.loop-due.invariant.out (room_ascends s k c.args.now driving w)) in
    let due = due_kept s k c.args.now driving c.loop-due.due.items c.due.new.self (out.0, rest ∙ out.1) w in (
      due.0,
      subst (λ (x : KeptDrivers). AreAtWork s 0 [] c.loop-due.due.items x c.args.now driving)
          (sym (ap (λ (x : KeptDrivers). record x { sleepers = c.due.new.self }) c.loop-due.invariant.same)) due.1,
    )

pub returns-clause-list : goal.returns-clause-list
returns-clause-list c = ap (λ (k : KeptDrivers). k.list) c.loop-due.invariant.same

use Rattle.std.proofs.Common.{Bool, refl, subst, ◌∙◌}
use Rattle.ncc_clients.specs.Turn.{Turn, Turns, Here, Then}
use Rattle.ncc_world.specs.declared.setup.Setup.{Setup}
use Rattle.ncc_world.specs.Setting.{cluster_of}
use Rattle.ncc_world.specs.Happening.{WorldRun}
use Rattle.ncc_world.specs.Parts.{TurnBy, run_in}
use Rattle.std.proofs.Common.{ℕ}
use Rattle.ncc_world.proofs.running.Running.settle.Goals as goal

turns_on : (s : Setup) (line : ℕ) (r t u : WorldRun) → Turns (cluster_of s) line r t → Turn (cluster_of s) line t u → Turns (cluster_of s) line r u
turns_on s line r t u (Here _) k = Then r u u k (Here u)
turns_on s line r t u (Then _ m _ first more) k = Then r m u first (turns_on s line m t u more k)

pub turns-init : goal.turns-init
turns-init c = (λ r k. (r, Here r, k), refl)

pub turn-requires : goal.turn-requires
turn-requires c =
    let t = c.turns.invariant.0 c.requires.live.run c.requires.live.runs_as in
    record { live = record { run = t.0; runs_as = t.2 } }

pub turns-preserved : goal.turns-preserved
turns-preserved c = (
  λ r k.
      let t = c.turns.invariant.0 r k in
      let u = subst (λ (b : Bool). TurnBy c.args.setup.now c.args.line t.0 (run_in c.turn.new.self) b) c.if-branch.true
      (c.in_ok-turn.ensures.ok t.0 t.2) in
      (u.0, turns_on c.args.setup.now c.args.line r t.0 u.0 t.1 u.1, u.2),
  c.in_ok-turn.ensures.drivers ∙ c.turns.invariant.1,
)

pub returns : goal.returns
returns c = record {
  ok = λ r k.
      let t = c.turns.invariant.0 r k in
      let u = subst (λ (b : Bool). TurnBy c.args.setup.now c.args.line t.0 (run_in c.turn.new.self) b) c.if-branch.false
      (c.in_ok-turn.ensures.ok t.0 t.2) in
      (t.0, record { turns = t.1; rests = u.0 }, u.1);
  drivers = c.in_ok-turn.ensures.drivers ∙ c.turns.invariant.1;
}

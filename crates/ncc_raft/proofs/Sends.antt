-- What a core sends can be carried, and goes by ascending destination, at each step.
use Rattle.std.proofs.Common.{◌≡◌, Bool, true, false, refl}
use Rattle.std.specs.Prelude.{nat_eq, map, if◌then◌else◌}
use Rattle.std.specs.List.{All}
use Rattle.std.proofs.lemmas.Bool.{and_parts}
use Rattle.ncc_raft.specs.declared.message.Envelope.{Envelope}
use Rattle.ncc_raft.specs.Member.{Seat, Member, Outcome, Timeout, Beat, Receive, Propose, still}
use Rattle.ncc_raft.specs.Carried.{Carried}
use Rattle.ncc_raft.specs.Core.{IsSeat, IsSound}
use Rattle.ncc_raft.specs.Laws.{Ascends, SendsCarried}
use Rattle.ncc_raft.specs.Step.{heard, hears_from, lifted, on_beat, on_body, on_propose, on_timeout, settled, step}
use Rattle.ncc_raft.proofs.Carrying as carrying
use Rattle.ncc_raft.proofs.Sound as sound

both : (o : Outcome) → carrying.Goes 0 o.sent → All Carried o.sent × Ascends (map (λ e. e.to) o.sent)
both o g = (g.carried, g.ascends)

received : (seat : Seat) (m : Member) (e : Envelope) → IsSeat seat → IsSound seat m → Carried e →
    All Carried (step seat m (Receive e)).sent × Ascends (map (λ x. x.to) (step seat m (Receive e)).sent)
unfolding step
received seat m e i s c = go (heard seat e) refl
  where
    go : (a : Bool) → heard seat e ≡ a →
        All Carried (if a then settled seat (on_body seat (lifted m e.body) e.from e.body) else still m).sent
        × Ascends (map (λ x. x.to) (if a then settled seat (on_body seat (lifted m e.body) e.from e.body) else still m).sent)
    go true h =
        let w = sound.term_within e.body c.body in
        let l = sound.lifted_sound seat m e.body s w in
        both (settled seat (on_body seat (lifted m e.body) e.from e.body))
        (carrying.settled_go seat (on_body seat (lifted m e.body) e.from e.body)
        (carrying.body_go seat (lifted m e.body) e.from e.body i l c.from c.body
        (and_parts (nat_eq e.to seat.id) (hears_from seat e.from e.body) h).1))
    go false h = both (still m) (carrying.goes_none 0)

pub sends : SendsCarried
unfolding step
sends seat m Timeout i s c =
    both (settled seat (on_timeout seat m)) (carrying.settled_go seat (on_timeout seat m) (carrying.timeout_go seat m i s))
sends seat m Beat i s c = both (settled seat (on_beat seat m)) (carrying.settled_go seat (on_beat seat m) (carrying.beat_go seat m i s))
sends seat m (Propose entry) i s c =
    both (settled seat (on_propose seat m entry)) (carrying.settled_go seat (on_propose seat m entry)
    (carrying.propose_go seat m entry i s c))
sends seat m (Receive e) i s c = received seat m e i s c

-- The laws of each step.
use Rattle.std.proofs.Common.{◌≡◌, Bool, true, false, refl}
use Rattle.std.specs.Prelude.{nat_eq, if◌then◌else◌}
use Rattle.std.proofs.lemmas.Bool.{and_parts}
use Rattle.ncc_raft.specs.declared.message.Envelope.{Envelope}
use Rattle.ncc_raft.specs.Member.{Seat, Member, Timeout, Beat, Receive, Propose, still}
use Rattle.ncc_raft.specs.Carried.{Carried}
use Rattle.ncc_raft.specs.Core.{IsSeat, IsSound}
use Rattle.ncc_raft.specs.Laws.{StaysSound}
use Rattle.ncc_raft.specs.Step.{heard, hears_from, lifted, on_beat, on_body, on_propose, on_timeout, settled, step}
use Rattle.ncc_raft.proofs.Sound as sound

received : (seat : Seat) (m : Member) (e : Envelope) → IsSeat seat → IsSound seat m → Carried e → IsSound seat
    (step seat m (Receive e)).member
unfolding step
received seat m e i s c = go (heard seat e) refl
  where
    go : (a : Bool) → heard seat e ≡ a → IsSound seat
        (if a then settled seat (on_body seat (lifted m e.body) e.from e.body) else still m).member
    go true h =
        let w = sound.term_within e.body c.body in
        let l = sound.lifted_sound seat m e.body s w in
        sound.settled_sound seat (on_body seat (lifted m e.body) e.from e.body)
        (sound.body_sound seat (lifted m e.body) e.from e.body i l c.body (and_parts (nat_eq e.to seat.id)
        (hears_from seat e.from e.body) h).1 (sound.lifted_up m e.body))
    go false h = s

pub stays : StaysSound
unfolding step
stays seat m Timeout i s c = sound.settled_sound seat (on_timeout seat m) (sound.timeout_sound seat m i s)
stays seat m Beat i s c = sound.settled_sound seat (on_beat seat m) (sound.beat_sound seat m s)
stays seat m (Propose entry) i s c = sound.settled_sound seat (on_propose seat m entry) (sound.propose_sound seat m entry i s c)
stays seat m (Receive e) i s c = received seat m e i s c

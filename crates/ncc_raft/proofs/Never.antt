-- Nothing goes back at a step.
use Rattle.std.proofs.Common.{Bool, true, false, refl}
use Rattle.std.specs.Prelude.{if◌then◌else◌}
use Rattle.ncc_raft.specs.declared.message.Envelope.{Envelope}
use Rattle.ncc_raft.specs.Member.{Seat, Member, Timeout, Beat, Receive, Propose, still}
use Rattle.ncc_raft.specs.Carried.{Carried}
use Rattle.ncc_raft.specs.Core.{IsSound}
use Rattle.ncc_raft.specs.Laws.{NeverBack, NeverGoesBack}
use Rattle.ncc_raft.specs.Step.{heard, lifted, on_beat, on_body, on_propose, on_timeout, settled, step}
use Rattle.ncc_raft.proofs.Back as back
use Rattle.ncc_raft.proofs.Sound as sound

received : (seat : Seat) (m : Member) (e : Envelope) → IsSound seat m → Carried e → NeverBack m (step seat m (Receive e)).member
unfolding step
received seat m e s c = go (heard seat e)
  where
    l : IsSound seat (lifted m e.body)
    l = sound.lifted_sound seat m e.body s (sound.term_within e.body c.body)

    go : (a : Bool) → NeverBack m (if a then settled seat (on_body seat (lifted m e.body) e.from e.body) else still m).member
    go true = back.to_never m (settled seat (on_body seat (lifted m e.body) e.from e.body)).member
        (back.settles seat m (on_body seat (lifted m e.body) e.from e.body)
        (back.after_lift m e.body (on_body seat (lifted m e.body) e.from e.body).member
        (back.body_back seat (lifted m e.body) e.from e.body l (sound.counted_sound seat (lifted m e.body) e.from l))))
    go false = back.to_never m m (back.same m m refl refl refl refl)

pub never : NeverGoesBack
unfolding step
never seat m Timeout i s c = back.to_never m (settled seat (on_timeout seat m)).member (back.settles seat m (on_timeout seat m)
    (back.timeout_back seat m))
never seat m Beat i s c = back.to_never m (settled seat (on_beat seat m)).member (back.settles seat m (on_beat seat m)
    (back.beat_back seat m))
never seat m (Propose entry) i s c =
    back.to_never m (settled seat (on_propose seat m entry)).member (back.settles seat m (on_propose seat m entry)
    (back.propose_back seat m entry s))
never seat m (Receive e) i s c = received seat m e s c

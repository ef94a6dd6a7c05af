use Rattle.std.proofs.Common.{◌≡◌, ◌+◌, ℕ, refl, sym, subst, arith, length}
use Rattle.ncc_tx.specs.Spelled.{spelled}
use Rattle.ncc_tx.proofs.ItemBytes.{allowed_fits, allowed_short}
use Rattle.ncc_raft.specs.Laws.{MayCome}
use Rattle.ncc_member.specs.declared.event.NodeEvent.{NodeEvent}
use Rattle.ncc_member.specs.Event.{meant}
use Rattle.ncc_member.specs.Room.{Suffices}
use Rattle.ncc_member.proofs.Bounds.{most_beat, most_propose, most_receive, most_timeout}
use Rattle.ncc_member.proofs.room.most_payload.Goals as goal

-- the clause at the event that came
at : (event variant : NodeEvent) (most : ℕ) → event ≡ variant → Suffices (meant variant) most → Suffices (meant event) most
at event variant most is h = subst (λ (e : NodeEvent). Suffices (meant e) most) (sym is) h

came : (event variant : NodeEvent) → event ≡ variant → MayCome (meant event) → MayCome (meant variant)
came event variant is h = subst (λ (e : NodeEvent). MayCome (meant e)) is h

pub entry_len-requires : goal.entry_len-requires
entry_len-requires c = record { fits = allowed_fits c.in-Propose.entry (came c.args.event.now _ c.in-Propose.is c.requires.comes) }

pub overflow_add-result-in-Propose : goal.overflow_add-result-in-Propose
overflow_add-result-in-Propose c =
    let short = allowed_short c.in-Propose.entry (came c.args.event.now _ c.in-Propose.is c.requires.comes) in
    omega (arith, short, c.entry_len.ensures.length)

pub returns-in-Beat : goal.returns-in-Beat
returns-in-Beat c = record { most = at c.args.event.now _ 0 c.in-Beat.is (most_beat 0) }

pub returns-in-Timeout : goal.returns-in-Timeout
returns-in-Timeout c = record { most = at c.args.event.now _ 21 c.in-Timeout.is (most_timeout 21 refl) }

pub returns-in-Receive : goal.returns-in-Receive
returns-in-Receive c = record {
  most = at c.args.event.now _ c.most_of.result c.in-Receive.is
      (most_receive c.in-Receive.envelope c.most_of.result (came c.args.event.now _ c.in-Receive.is c.requires.comes)
      c.most_of.ensures.most);
}

pub returns-in-Propose : goal.returns-in-Propose
returns-in-Propose c =
    let allowed = came c.args.event.now _ c.in-Propose.is c.requires.comes in
    let size : c.entry_len.result ≡ length (spelled c.in-Propose.entry) =
    omega (arith, allowed_short c.in-Propose.entry allowed, c.entry_len.ensures.length) in
    record {
      most = at c.args.event.now _ (33 + c.entry_len.result) c.in-Propose.is
          (most_propose c.in-Propose.entry (33 + c.entry_len.result) allowed (omega (arith, size)));
    }

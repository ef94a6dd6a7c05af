-- What ends each rule: a standing that was taken.
use Rattle.std.proofs.Common.{◌≡◌, Bool, List}
use Rattle.std.proofs.Common.{Option, refl, sym, ap, ◌∙◌, subst}
use Rattle.std.specs.Prelude.{if◌then◌else◌}
use Rattle.ncc_tx.specs.declared.entry.ChangeSet.{ChangeSet}
use Rattle.ncc_tx.specs.declared.entry.Saved.{Saved}
use Rattle.ncc_tx.specs.Kept.{Leads}
use Rattle.ncc_raft.specs.declared.message.Envelope.{Envelope}
use Rattle.ncc_raft.specs.declared.message.Note.{Note}
use Rattle.ncc_raft.specs.declared.message.Step.{Step}
use Rattle.ncc_raft.specs.declared.state.Standing.{Standing}
use Rattle.ncc_raft.specs.declared.state.State.{State}
use Rattle.ncc_raft.specs.Member.{Outcome}
use Rattle.ncc_raft.specs.Member.{kept}
use Rattle.ncc_raft.specs.State.{Made, Stood}
use Rattle.ncc_raft.specs.State.{at}
use Rattle.ncc_raft.specs.State.{member_of}

-- ---- one of two

abbrev pub pick : {A : Type 0} → Bool → A → A → A
pick b x y = if b then x else y

-- ---- what a piece made, from what its parts made

-- a standing that was taken, with what is sent and noted, where the rule says so of what stood before
pub from_stood : (old mid new : State) (st : Standing) (out : List Envelope) (n : Note) (s : Step) (o : Outcome) →
    Stood mid new st out n s →
    kept (member_of mid) ≡ kept (member_of old) → o ≡ record { member = at st (member_of mid); sent = out; note = n } → Made old new o s
from_stood old mid new st out n s o x k e = record {
  member = ap member_of x.state ∙ sym (ap (λ (y : Outcome). y.member) e);
  sent = x.sent ∙ sym (ap (λ (y : Outcome). y.sent) e);
  note = x.told ∙ sym (ap (λ (y : Outcome). y.note) e);
  change = subst (λ (y : Saved). Leads y (kept (member_of new)) s.change) k x.change;
}

pub stood : (old : State) (st : Standing) (out : List Envelope) (n : Note) (c : Option ChangeSet) →
    Leads (record { term = old.standing.term; vote = old.standing.vote; log = old.log })
    (record { term = st.term; vote = st.vote; log = old.log }) c →
    Stood old (record old { standing = st }) st out n (record { change = c; out = out; note = n })
stood old st out n c l = record { state = refl; sent = refl; told = refl; change = l }

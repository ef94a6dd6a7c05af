-- The commit of a leader advances behind a rule.
use Rattle.std.proofs.Common.{◌≡◌, Bool, true, false, refl, sym, ap, ◌∙◌, subst}
use Rattle.ncc_tx.specs.declared.entry.Saved.{Saved}
use Rattle.ncc_tx.specs.Kept.{Leads}
use Rattle.ncc_raft.specs.declared.message.Step.{Step}
use Rattle.ncc_raft.specs.declared.state.Seat as held
use Rattle.ncc_raft.specs.declared.state.State.{State}
use Rattle.ncc_raft.specs.Member.{Seat, Member, Outcome, is_leader, kept, still}
use Rattle.ncc_raft.specs.Appending.{advanced}
use Rattle.ncc_raft.specs.State.{IsAdvanced, IsSettled, Made, member_of, seat_of, settled_member}
use Rattle.ncc_raft.specs.Step.{settled}
use Rattle.ncc_raft.proofs.Stands.{pick}

record SettledAs (seat : Seat) (o : Outcome) : Type 0 where
  member : (settled seat o).member ≡ settled_member seat o.member
  sent : (settled seat o).sent ≡ o.sent
  note : (settled seat o).note ≡ o.note

settled_as : (seat : Seat) (o : Outcome) → SettledAs seat o
unfolding settled_member
settled_as seat o = go (is_leader o.member.role) refl
  where
    go : (b : Bool) → is_leader o.member.role ≡ b → SettledAs seat o
    go true e =
        let a : settled seat o ≡ record o { member = advanced seat o.member } = ap
        (λ (b : Bool). pick b (record o { member = advanced seat o.member }) o) e in
        let c : settled_member seat o.member ≡ advanced seat o.member =
        ap (λ (b : Bool). (pick b (record (still o.member) { member = advanced seat o.member }) (still o.member)).member) e in
        record {
          member = ap (λ (x : Outcome). x.member) a ∙ sym c;
          sent = ap (λ (x : Outcome). x.sent) a;
          note = ap
              (λ (x : Outcome). x.note) a;
        }
    go false e =
        let a : settled seat o ≡ o = ap (λ (b : Bool). pick b (record o { member = advanced seat o.member }) o) e in
        let c : settled_member seat o.member ≡ o.member =
        ap (λ (b : Bool). (pick b (record (still o.member) { member = advanced seat o.member }) (still o.member)).member) e in
        record {
          member = ap (λ (x : Outcome). x.member) a ∙ sym c;
          sent = ap (λ (x : Outcome). x.sent) a;
          note = ap
              (λ (x : Outcome). x.note) a;
        }

settled_kept : (seat : Seat) (m : Member) → kept (settled_member seat m) ≡ kept m
unfolding settled_member
settled_kept seat m = go (is_leader m.role)
  where
    go : (b : Bool) → kept (pick b (record (still m) { member = advanced seat m }) (still m)).member ≡ kept m
    go true = refl
    go false = refl

pub made_settled : (seat : held.Seat) (old mid new : State) (o : Outcome) (s : Step) → Made old mid o s → IsSettled seat mid new →
    Made old new (settled (seat_of seat) o) s
unfolding IsSettled
made_settled seat old mid new o s made e =
    let a = settled_as (seat_of seat) o in
    let k : kept (member_of new) ≡ kept (member_of mid) = ap kept e ∙ settled_kept (seat_of seat) (member_of mid) in
    record {
      member = e ∙ ap (settled_member (seat_of seat)) made.member ∙ sym a.member;
      sent = made.sent ∙ sym a.sent;
      note = made.note ∙ sym a.note;
      change = subst (λ (x : Saved). Leads (kept (member_of old)) x s.change) (sym k) made.change;
    }

pub settle_leads : (seat : held.Seat) (old new : State) (b : Bool) → b ≡ is_leader old.standing.role → b ≡ true →
    IsAdvanced seat old new → IsSettled seat old new
unfolding IsSettled IsAdvanced settled_member
settle_leads seat old new b e t a =
    a ∙ sym (ap (λ (x : Bool). (pick x (record (still (member_of old)) { member = advanced (seat_of seat) (member_of old) })
    (still (member_of old))).member) (sym e ∙ t))

pub settle_not : (seat : held.Seat) (old : State) (b : Bool) → b ≡ is_leader old.standing.role → b ≡ false → IsSettled seat old old
unfolding IsSettled settled_member
settle_not seat old b e t =
    sym (ap (λ (x : Bool). (pick x (record (still (member_of old)) { member = advanced (seat_of seat) (member_of old) })
    (still (member_of old))).member) (sym e ∙ t))

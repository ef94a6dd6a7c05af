-- Turns are small things.
use Rattle.std.proofs.Common.{◌≡◌, ℕ, true, false, Option, None, Some, refl, ap, sym, subst}
use Rattle.std.specs.Prelude.{slice_get}
use Rattle.ncc_session.specs.Question.{Question}
use Rattle.ncc_session.specs.Session.{asked_at}
use Rattle.ncc_clients.specs.Members.{Cluster}
use Rattle.ncc_clients.specs.Run.{Run, Client, Reply, waits, tells, proposes, talk_of, question_of, reply, reply_by}
use Rattle.ncc_clients.specs.Moment.{Small, Tells, Offers, Here as Stays, Then as Goes}
use Rattle.ncc_clients.specs.Turn.{Does, Turn, Here, Then, is_answer}
use Rattle.ncc_clients.specs.Laws.{TurnsAreSmall}
use Rattle.ncc_clients.proofs.Resting.{open_by}

module _ {S : Type 0} (C : Cluster S) where
  -- who is answered is not closed
  open_at : (r : Run S) (c : Client) (o : Option Question) → question_of C c ≡ o → is_answer (reply_by C r c o) ≡ true → c.closed ≡ false
  open_at r c None h e = absurd (let f : false ≡ true = e in cc)
  open_at r c (Some q) h e = open_by c.closed (asked_at (talk_of C c).core) q h

  pub acting : (r : Run S) (c : Client) → is_answer (reply C r c) ≡ true → c.closed ≡ false
  unfolding reply
  acting r c e = open_at r c (question_of C c) refl e

  small_by : (line : ℕ) (r s : Run S) (i : ℕ) (c : Client) (p : Reply) → slice_get r.clients i ≡ Some c → reply C r c ≡ p
      → Does C line r i c p s → Small C r s
  small_by line r s i c waits there e d = absurd d
  small_by line r s i c (tells fact) there e d =
      subst (Small C r) (sym d) (Tells line r i c fact (record {
        there = record { there = there; live = acting r c (ap is_answer e) };
        replies = e;
      }))
  small_by line r s i c proposes there e d =
      subst (Small C r) (sym d.2) (Offers line r i c d.0 (record {
        there = record { there = there; live = acting r c (ap is_answer e) };
        replies = e;
        entry_is = d.1;
      }))

  turn_small : (line : ℕ) (r s : Run S) → Turn C line r s → Small C r s
  turn_small line r s t = small_by line r s t.index t.client (reply C r t.client) t.there refl t.does

  pub turns_are_small : TurnsAreSmall C
  turns_are_small line r s (Here _) = Stays r
  turns_are_small line r s (Then _ m _ t more) = Goes r m s (turn_small line r m t) (turns_are_small line m s more)

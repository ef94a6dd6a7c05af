-- Connections that have not ended: who asks has not, who ended is not heard any more, and who was live later was so before.
use Rattle.std.proofs.Common.{◌≡◌, ℕ, Bool, true, false, Option, None, Some, List, [], refl, sym, ◌∙◌}
use Rattle.std.specs.Prelude.{◌||◌, if◌then◌else◌, slice_get}
use Rattle.ncc_session.specs.Question.{Question}
use Rattle.ncc_session.specs.Session.{is_ended, question_in}
use Rattle.ncc_clients.specs.Members.{Cluster, config_of}
use Rattle.ncc_clients.specs.Run.{Run, Client, talk_of, question_of, has_ended, with_bytes}
use Rattle.ncc_clients.specs.Moment.{Lives}
use Rattle.ncc_clients.proofs.Known.{Known}

neither : (a b : Bool) → (a || b) ≡ false → (a ≡ false) × (b ≡ false)
neither true b e = absurd (let f : true ≡ false = e in cc)
neither false true e = absurd (let f : true ≡ false = e in cc)
neither false false e = (refl, refl)

-- who asks is neither closed nor ended
asks_by : (a b : Bool) (o : Option Question) (q : Question) → (if a then None else (if b then None else o)) ≡ Some q → (a || b) ≡ false
asks_by true b o q e = absurd (let f : None ≡ Some q = e in cc)
asks_by false true o q e = absurd (let f : None ≡ Some q = e in cc)
asks_by false false o q e = refl

module _ {S : Type 0} (C : Cluster S) where
  pub asks_live : (c : Client) (q : Question) → question_of C c ≡ Some q → has_ended C c ≡ false
  asks_live c q e = asks_by c.closed (is_ended (talk_of C c).core.state) (question_in (talk_of C c).core.doing) q e

  pub lives_asking : (r : Run S) (i : ℕ) (c : Client) (q : Question) → slice_get r.clients i ≡ Some c → question_of C c ≡ Some q
      → Lives C r i c
  lives_asking r i c q there e = record { there = there; live = asks_live c q e }

  pub lives_open : (c : Client) → has_ended C c ≡ false → c.closed ≡ false
  lives_open c e = (neither c.closed (is_ended (talk_of C c).core.state) e).0

  -- who is live with more bytes was so before they came
  pub live_before : Known → (now : ℕ) (c : Client) (piece : List ℕ) → (talk_of C c).facts ≡ []
      → has_ended C (with_bytes C now c piece) ≡ false → has_ended C c ≡ false
  live_before known now c piece taken e = go (is_ended (talk_of C c).core.state) refl where
    was : (c.closed ≡ false) × (is_ended (talk_of C (with_bytes C now c piece)).core.state ≡ false)
    was = neither c.closed (is_ended (talk_of C (with_bytes C now c piece)).core.state) e

    go : (b : Bool) → is_ended (talk_of C c).core.state ≡ b → (c.closed || b) ≡ false
    go true f = absurd (
        let ended = known.ended (config_of C c.number) c.bytes piece c.facts taken f in
        let g : true ≡ false = sym ended ∙ was.1 in cc)
    go false f = either_not c.closed was.0 where
      either_not : (a : Bool) → a ≡ false → (a || false) ≡ false
      either_not true h = absurd (let g : true ≡ false = h in cc)
      either_not false h = refl

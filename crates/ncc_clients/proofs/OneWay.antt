-- There is one way to go on.
use Rattle.std.proofs.Common.{◌≡◌, ℕ, None, Some, refl, ap, sym, ◌∙◌, subst}
use Rattle.std.specs.Prelude.{slice_get}
use Rattle.ncc_tx.specs.declared.entry.Entry.{Entry}
use Rattle.ncc_session.specs.Core.{leave_of}
use Rattle.ncc_session.specs.Question.{Question}
use Rattle.ncc_clients.specs.Members.{Cluster}
use Rattle.ncc_clients.specs.Run.{Run, Client, Reply, waits, tells, proposes, reply, proposed}
use Rattle.ncc_clients.specs.Turn.{Does, Turn, Turns, Here, Then, AtRest}
use Rattle.ncc_clients.specs.Laws.{OneWay}
use Rattle.ncc_clients.proofs.Entries.{same_entry}

module _ {S : Type 0} (C : Cluster S) where
  same_question : (a b : Question) → Some a ≡ Some b → a ≡ b
  same_question a b e = cc

  -- what a reply does is one thing
  does_one : (line : ℕ) (r s t : Run S) (i : ℕ) (c : Client) (p : Reply) → Does C line r i c p s → Does C line r i c p t → s ≡ t
  does_one line r s t i c waits d e = absurd d
  does_one line r s t i c (tells fact) d e = d ∙ sym e
  does_one line r s t i c proposes d e =
      let same : d.0 ≡ e.0 = same_entry d.0 e.0 (same_question (leave_of d.0) (leave_of e.0) (sym d.1 ∙ e.1)) in
      d.2 ∙ ap (λ (x : Entry). proposed C line r i c (C.propose r.members c.member x)) same ∙ sym e.2

  turn_one : (line : ℕ) (r s t : Run S) → Turn C line r s → Turn C line r t → s ≡ t
  turn_one line r s t a b =
      let index : a.index ≡ b.index = (let f : Some a.index ≡ Some b.index = sym a.first ∙ b.first in cc) in
      let client : a.client ≡ b.client =
      (let f : Some a.client ≡ Some b.client = sym a.there ∙ ap (λ (i : ℕ). slice_get r.clients i) index ∙ b.there in cc) in
      let does : Does C line r b.index b.client (reply C r b.client) s =
      subst (λ (c : Client). Does C line r b.index c (reply C r c) s) client
      (subst (λ (i : ℕ). Does C line r i a.client (reply C r a.client) s) index a.does) in
      does_one line r s t b.index b.client (reply C r b.client) does b.does

  rests_not : (line : ℕ) (r s : Run S) → AtRest C r → Turn C line r s → ⊥
  rests_not line r s rest t = let f : None ≡ Some t.index = sym rest ∙ t.first in cc

  one_by : (line : ℕ) (r s t : Run S) → Turns C line r s → Turns C line r t → AtRest C s → AtRest C t → s ≡ t
  one_by line r s t (Here _) (Here _) a b = refl
  one_by line r s t (Here _) (Then _ m _ x more) a b = absurd (rests_not line r m a x)
  one_by line r s t (Then _ m _ x more) (Here _) a b = absurd (rests_not line r m b x)
  one_by line r s t (Then _ m _ x more) (Then _ n _ y others) a b =
      let same : m ≡ n = turn_one line r m n x y in
      one_by line m s t more (subst (λ (u : Run S). Turns C line u t) (sym same) others) a b

  pub one_way : OneWay C
  one_way line r s t a b = one_by line r s t a.turns b.turns a.rests b.rests

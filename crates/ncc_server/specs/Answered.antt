-- What a backend is asked, and what it tells.
use Rattle.std.specs.Prelude.{◌≡◌, ℕ, ◌<◌, List, ◌++◌, map, Option, Some, None}
use Rattle.ncc_session.specs.declared.ask.Fact.{Fact}
use Rattle.ncc_session.specs.declared.ask.Fact.TheVariants as f
use Rattle.ncc_session.specs.Question.{Question}

-- an answer: the question, until when it had to be answered, in milliseconds, and the fact
pub record Answer : Type 0 where
  pub question : Question
  pub deadline : ℕ
  pub fact : Fact

abbrev pub facts_of : List Answer → List Fact
facts_of answers = map (λ (a : Answer). a.fact) answers

abbrev pub questions_in : List Answer → List Question
questions_in answers = map (λ (a : Answer). a.question) answers

abbrev pub deadlines_in : List Answer → List ℕ
deadlines_in answers = map (λ (a : Answer). a.deadline) answers

-- The answers that were told grew by these, where they are told.
abbrev pub TellsMore : Option (List Answer) → Option (List Answer) → List Answer → Type 0
TellsMore None new answers = Unit {0}
TellsMore (Some before) None answers = ⊥
TellsMore (Some before) (Some after) answers = after ≡ before ++ answers

-- A fact that says that a deadline has passed names a moment past it.
abbrev pub IsPast : ℕ → Fact → Type 0
IsPast deadline (f.Late need at now) = deadline < now
IsPast deadline (f.Unsure place at now) = deadline < now
IsPast deadline _ = Unit {0}

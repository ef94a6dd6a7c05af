-- What the words of a session's line say, and why they say nothing.
use Rattle.std.proofs.Common.{◌≡◌, ◌≢◌, ℕ, ℤ, ◌<◌, ◌≤◌, ◌^◌, true, List, [], ◌∷◌, Option, None, Some, ap, arith, codes, decimal}
use Rattle.std.proofs.Common.{drop, is_some}
use Rattle.std.specs.Borrow.{Bor}
use Rattle.ncc_pack.specs.Fits.{fits_i64}
use Rattle.ncc_world.specs.Events.{is_word, MayBegin}
use Rattle.ncc_world.specs.declared.event.Event.{Event}
use Rattle.ncc_world.specs.declared.event.Event.TheVariants.{Session, Work, Up, Down, Pump, Cut}
use Rattle.ncc_world.specs.declared.event.Job.{Job}
use Rattle.ncc_world.specs.declared.event.Job.TheVariants.{Add, Put, Get}
use Rattle.ncc_replay.specs.Line.{signed_text, job_words, limit_words, FitsLimit}
use Rattle.ncc_replay.specs.Reading.{words_in, AreJob, AreWords, AreBad}
use Rattle.ncc_replay.specs.declared.status.Cause.TheVariants.{BadLine}
use Rattle.ncc_replay.proofs.Lines.{first_byte, not_right}
use Rattle.ncc_replay.proofs.Words.{some_words}

-- a line that begins with `session` can say nothing but a `session`, and so for each verb

session_none : (cluster : ℕ) (words : List (List ℕ)) → ((seed : ℕ) → seed < 2 ^ 64 → words ≢ decimal seed ∷ []) → (e : Event)
    → AreWords cluster (codes "session" ∷ words) e → ⊥
session_none cluster words none (Session seed) h = none seed h.0 (ap (drop 1) h.1)
session_none cluster words none e h = omega (arith, ap first_byte h.1)

pub session_bad : (words : List (List ℕ)) → ((seed : ℕ) → seed < 2 ^ 64 → words ≢ decimal seed ∷ []) → (cluster : ℕ)
    → AreBad cluster (codes "session" ∷ words) BadLine
session_bad words none cluster = record {
  none = session_none cluster words none;
  cause_is = not_right (codes "session" ∷ words) (λ e. omega (arith, e)) (λ e. omega (arith, e));
}

work_none : (cluster : ℕ) (words : List (List ℕ))
    → ((session : ℕ) (job : Job) → session < 2 ^ 64 → MayBegin job → words ≢ decimal session ∷ job_words job) → (e : Event)
    → AreWords cluster (codes "work" ∷ words) e → ⊥
work_none cluster words none (Work session job) h = none session job h.0.0 h.0.1 (ap (drop 1) h.1)
work_none cluster words none e h = omega (arith, ap first_byte h.1)

pub work_bad : (words : List (List ℕ))
    → ((session : ℕ) (job : Job) → session < 2 ^ 64 → MayBegin job → words ≢ decimal session ∷ job_words job) → (cluster : ℕ)
    → AreBad cluster (codes "work" ∷ words) BadLine
work_bad words none cluster = record {
  none = work_none cluster words none;
  cause_is = not_right (codes "work" ∷ words) (λ e. omega (arith, e)) (λ e. omega (arith, e));
}

-- two numbers are none
abbrev pub NoMoves : List (List ℕ) → Type 0
NoMoves words = (session count : ℕ) → session < 2 ^ 64 → count < 2 ^ 64 → words ≢ decimal session ∷ decimal count ∷ []

up_none : (cluster : ℕ) (words : List (List ℕ)) → NoMoves words → (e : Event) → AreWords cluster (codes "up" ∷ words) e → ⊥
up_none cluster words none (Up session count) h = none session count h.0.0 h.0.1 (ap (drop 1) h.1)
up_none cluster words none e h = omega (arith, ap first_byte h.1)

pub up_bad : (words : List (List ℕ)) → NoMoves words → (cluster : ℕ) → AreBad cluster (codes "up" ∷ words) BadLine
up_bad words none cluster = record {
  none = up_none cluster words none;
  cause_is = not_right (codes "up" ∷ words) (λ e. omega (arith, e)) (λ e. omega (arith, e));
}

down_none : (cluster : ℕ) (words : List (List ℕ)) → NoMoves words → (e : Event) → AreWords cluster (codes "down" ∷ words) e → ⊥
down_none cluster words none (Down session count) h = none session count h.0.0 h.0.1 (ap (drop 1) h.1)
down_none cluster words none e h = omega (arith, ap first_byte h.1)

pub down_bad : (words : List (List ℕ)) → NoMoves words → (cluster : ℕ) → AreBad cluster (codes "down" ∷ words) BadLine
down_bad words none cluster = record {
  none = down_none cluster words none;
  cause_is = not_right (codes "down" ∷ words) (λ e. omega (arith, e)) (λ e. omega (arith, e));
}

pump_none : (cluster : ℕ) (words : List (List ℕ))
    → ((session : ℕ) (requests : Option ℕ) → session < 2 ^ 64 → FitsLimit requests → words ≢ decimal session ∷ limit_words requests)
    → (e : Event) → AreWords cluster (codes "pump" ∷ words) e → ⊥
pump_none cluster words none (Pump session requests) h = none session requests h.0.0 h.0.1 (ap (drop 1) h.1)
pump_none cluster words none e h = omega (arith, ap first_byte h.1)

pub pump_bad : (words : List (List ℕ))
    → ((session : ℕ) (requests : Option ℕ) → session < 2 ^ 64 → FitsLimit requests → words ≢ decimal session ∷ limit_words requests)
    → (cluster : ℕ) → AreBad cluster (codes "pump" ∷ words) BadLine
pump_bad words none cluster = record {
  none = pump_none cluster words none;
  cause_is = not_right (codes "pump" ∷ words) (λ e. omega (arith, e)) (λ e. omega (arith, e));
}

cut_none : (cluster : ℕ) (words : List (List ℕ)) → ((session : ℕ) → session < 2 ^ 64 → words ≢ decimal session ∷ []) → (e : Event)
    → AreWords cluster (codes "cut" ∷ words) e → ⊥
cut_none cluster words none (Cut session) h = none session h.0 (ap (drop 1) h.1)
cut_none cluster words none e h = omega (arith, ap first_byte h.1)

pub cut_bad : (words : List (List ℕ)) → ((session : ℕ) → session < 2 ^ 64 → words ≢ decimal session ∷ []) → (cluster : ℕ)
    → AreBad cluster (codes "cut" ∷ words) BadLine
cut_bad words none cluster = record {
  none = cut_none cluster words none;
  cause_is = not_right (codes "cut" ∷ words) (λ e. omega (arith, e)) (λ e. omega (arith, e));
}

-- ---- works

pub add_bad : (words : List (List ℕ))
    → ((key : List ℕ) (by : ℤ) → is_word key ≡ true → fits_i64 by ≡ true → words ≢ key ∷ signed_text by ∷ []) → (j : Job)
    → AreJob (codes "add" ∷ words) j → ⊥
add_bad words none (Add key by) h = none key by h.0.0 h.0.1 (ap (drop 1) h.1)
add_bad words none j h = omega (arith, ap first_byte h.1)

pub put_bad : (words : List (List ℕ))
    → ((key value : List ℕ) → is_word key ≡ true → is_word value ≡ true → words ≢ key ∷ value ∷ []) → (j : Job)
    → AreJob (codes "put" ∷ words) j → ⊥
put_bad words none (Put key value) h = none key value h.0.0 h.0.1 (ap (drop 1) h.1)
put_bad words none j h = omega (arith, ap first_byte h.1)

pub get_bad : (words : List (List ℕ)) → ((key : List ℕ) → is_word key ≡ true → words ≢ key ∷ []) → (j : Job)
    → AreJob (codes "get" ∷ words) j → ⊥
get_bad words none (Get key) h = none key h.0 (ap (drop 1) h.1)
get_bad words none j h = omega (arith, ap first_byte h.1)

-- ---- how many requests go up

-- something stands there, and no such number
pub limit_none : (rest : Option (Bor (List ℕ))) → is_some rest ≡ true → ((n : ℕ) → 1 ≤ n → n < 2 ^ 64 → words_in rest ≢ decimal n ∷ [])
    → (requests : Option ℕ) → FitsLimit requests → words_in rest ≢ limit_words requests
limit_none rest some none None h = some_words rest some
limit_none rest some none (Some n) h = none n h.0 h.1

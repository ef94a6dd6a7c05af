-- What the words of a line of members over Raft say, and why they say nothing.
use Rattle.std.proofs.Common.{◌≢◌, ℕ, ◌<◌, ◌^◌, List, [], ◌∷◌, ap, arith, codes, decimal, drop}
use Rattle.ncc_world.specs.declared.event.Event.{Event}
use Rattle.ncc_world.specs.declared.event.Event.TheVariants.{Timeout, Beat, Deliver, Pull, Crash}
use Rattle.ncc_replay.specs.Reading.{AreWords, AreBad}
use Rattle.ncc_replay.specs.declared.status.Cause.TheVariants.{BadLine}
use Rattle.ncc_replay.proofs.Lines.{first_byte, not_right}

-- a member is none
abbrev pub NoMember : List (List ℕ) → Type 0
NoMember words = (member : ℕ) → member < 2 ^ 8 → words ≢ decimal member ∷ []

-- a line that begins with `timeout` can say nothing but a `timeout`, and so for each verb

timeout_none : (cluster : ℕ) (words : List (List ℕ)) → NoMember words → (e : Event) → AreWords cluster (codes "timeout" ∷ words) e
    → ⊥
timeout_none cluster words none (Timeout member) h = none member h.0 (ap (drop 1) h.1)
timeout_none cluster words none e h = omega (arith, ap first_byte h.1)

pub timeout_bad : (words : List (List ℕ)) → NoMember words → (cluster : ℕ) → AreBad cluster (codes "timeout" ∷ words) BadLine
timeout_bad words none cluster = record {
  none = timeout_none cluster words none;
  cause_is = not_right (codes "timeout" ∷ words) (λ e. omega (arith, e)) (λ e. omega (arith, e));
}

beat_none : (cluster : ℕ) (words : List (List ℕ)) → NoMember words → (e : Event) → AreWords cluster (codes "beat" ∷ words) e
    → ⊥
beat_none cluster words none (Beat member) h = none member h.0 (ap (drop 1) h.1)
beat_none cluster words none e h = omega (arith, ap first_byte h.1)

pub beat_bad : (words : List (List ℕ)) → NoMember words → (cluster : ℕ) → AreBad cluster (codes "beat" ∷ words) BadLine
beat_bad words none cluster = record {
  none = beat_none cluster words none;
  cause_is = not_right (codes "beat" ∷ words) (λ e. omega (arith, e)) (λ e. omega (arith, e));
}

crash_none : (cluster : ℕ) (words : List (List ℕ)) → NoMember words → (e : Event) → AreWords cluster (codes "crash" ∷ words) e
    → ⊥
crash_none cluster words none (Crash member) h = none member h.0 (ap (drop 1) h.1)
crash_none cluster words none e h = omega (arith, ap first_byte h.1)

pub crash_bad : (words : List (List ℕ)) → NoMember words → (cluster : ℕ) → AreBad cluster (codes "crash" ∷ words) BadLine
crash_bad words none cluster = record {
  none = crash_none cluster words none;
  cause_is = not_right (codes "crash" ∷ words) (λ e. omega (arith, e)) (λ e. omega (arith, e));
}

deliver_none : (cluster : ℕ) (words : List (List ℕ)) → ((message : ℕ) → message < 2 ^ 64 → words ≢ decimal message ∷ []) → (e : Event) → AreWords cluster (codes "deliver" ∷ words) e
    → ⊥
deliver_none cluster words none (Deliver message) h = none message h.0 (ap (drop 1) h.1)
deliver_none cluster words none e h = omega (arith, ap first_byte h.1)

pub deliver_bad : (words : List (List ℕ)) → ((message : ℕ) → message < 2 ^ 64 → words ≢ decimal message ∷ []) → (cluster : ℕ) → AreBad cluster (codes "deliver" ∷ words) BadLine
deliver_bad words none cluster = record {
  none = deliver_none cluster words none;
  cause_is = not_right (codes "deliver" ∷ words) (λ e. omega (arith, e)) (λ e. omega (arith, e));
}

-- two members are none
abbrev pub NoMembers : List (List ℕ) → Type 0
NoMembers words = (m n : ℕ) → m < 2 ^ 8 → n < 2 ^ 8 → words ≢ decimal m ∷ decimal n ∷ []

pull_none : (cluster : ℕ) (words : List (List ℕ)) → NoMembers words → (e : Event) → AreWords cluster (codes "pull" ∷ words) e → ⊥
pull_none cluster words none (Pull replica core) h = none replica core h.0.0 h.0.1 (ap (drop 1) h.1)
pull_none cluster words none e h = omega (arith, ap first_byte h.1)

pub pull_bad : (words : List (List ℕ)) → NoMembers words → (cluster : ℕ) → AreBad cluster (codes "pull" ∷ words) BadLine
pull_bad words none cluster = record {
  none = pull_none cluster words none;
  cause_is = not_right (codes "pull" ∷ words) (λ e. omega (arith, e)) (λ e. omega (arith, e));
}

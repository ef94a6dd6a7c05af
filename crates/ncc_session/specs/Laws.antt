-- What holds of any list of calls.
use Rattle.std.specs.Prelude.{◌≡◌, ◌↔◌, ℕ, List, [], ◌∷◌, ◌++◌}
use Rattle.ncc_chunk.specs.declared.handshake.Shake.TheVariants.{More}
use Rattle.ncc_chunk.specs.Handshake.{answer_to, handshake_of}
use Rattle.ncc_session.specs.declared.config.ConnConfig.{ConnConfig}
use Rattle.ncc_session.specs.declared.state.ConnState.TheVariants.{Shaking}
use Rattle.ncc_session.specs.declared.ask.Fact.{Fact}
use Rattle.ncc_session.specs.Session.{session}
use Rattle.ncc_session.specs.Talk.{Talk, Stands, Feeds, Tells, HandsOut}

-- a call: bytes are fed, a fact is told, or these bytes are handed out
pub data Call : Type 0 where
  feeds : List ℕ → Call
  tells : Fact → Call
  hands_out : List ℕ → Call

-- from one connection to the next by one call, as its clause says
abbrev pub ByCall : Talk → Call → Talk → Type 0
ByCall old (feeds piece) new = Feeds old piece new
ByCall old (tells fact) new = Tells old fact new
ByCall old (hands_out bytes) new = HandsOut old bytes new

-- by these calls, one after another
abbrev pub ByCalls : Talk → List Call → Talk → Type 0
ByCalls old [] new = old ≡ new
ByCalls old (call ∷ calls) new = (between : Talk) × ByCall old call between × ByCalls between calls new

-- the bytes that were fed, the facts that were told, and the bytes that were handed out
abbrev pub bytes_fed : List Call → List ℕ
bytes_fed [] = []
bytes_fed (feeds piece ∷ calls) = piece ++ bytes_fed calls
bytes_fed (tells fact ∷ calls) = bytes_fed calls
bytes_fed (hands_out bytes ∷ calls) = bytes_fed calls

abbrev pub facts_told : List Call → List Fact
facts_told [] = []
facts_told (feeds piece ∷ calls) = facts_told calls
facts_told (tells fact ∷ calls) = fact ∷ facts_told calls
facts_told (hands_out bytes ∷ calls) = facts_told calls

abbrev pub bytes_out : List Call → List ℕ
bytes_out [] = []
bytes_out (feeds piece ∷ calls) = bytes_out calls
bytes_out (tells fact ∷ calls) = bytes_out calls
bytes_out (hands_out bytes ∷ calls) = bytes ++ bytes_out calls

-- After any calls a new connection stands for all bytes that were fed, all facts that were told, and all that was handed out.
abbrev pub StandsForAll : Type 0
StandsForAll =
    (config : ConnConfig) (old new : Talk) (calls : List Call) → Stands old config [] [] [] → ByCalls old calls new
    → Stands new config (bytes_fed calls) (facts_told calls) (bytes_out calls)

-- How the bytes were cut means nothing: two connections that were fed the same bytes and told the same facts stand at one place, and
-- what they handed out and what they hold are together the same.
abbrev pub CutsDontMatter : Type 0
CutsDontMatter =
    (config : ConnConfig) (one other : Talk) (bytes : List ℕ) (facts : List Fact) (x y : List ℕ) → Stands one config bytes facts x
    → Stands other config bytes facts y → (one.place ≡ other.place) × (x ++ one.out ≡ y ++ other.out)

-- A session is shaking exactly as long as its handshake is not whole.
abbrev pub ShakesUntilWhole : Type 0
ShakesUntilWhole =
    (config : ConnConfig) (bytes : List ℕ) (facts : List Fact)
    → ((session config bytes facts).core.state ≡ Shaking) ↔ (answer_to (handshake_of bytes) ≡ More)

-- Laws of the format. A cluster has a number below 2^64.
use Rattle.std.specs.Prelude.{◌≡◌, ◌↔◌, ℕ, ◌^◌, ◌<◌, List, ◌++◌}
use Rattle.ncc_raft.specs.declared.message.Envelope.{Envelope}
use Rattle.ncc_raft.specs.Carried.{Carried}
use Rattle.ncc_wire.specs.declared.error.FrameError.{FrameError}
use Rattle.ncc_wire.specs.declared.error.FrameError.TheVariants.{Memory}
use Rattle.ncc_wire.specs.Frames.{IsFrame, frame_bytes}
use Rattle.ncc_wire.specs.Judged.{BeginsWith}
use Rattle.ncc_wire.specs.Reading.{Refuses}

-- the frame of an envelope in a cluster is the one that is written, so there is one at most
abbrev pub OneFrame : Type 0
OneFrame = (cluster : ℕ) (e : Envelope) (bytes : List ℕ) → IsFrame cluster e bytes → bytes ≡ frame_bytes cluster e

-- exactly the envelopes that can be carried have a frame
abbrev pub CarriedAlone : Type 0
CarriedAlone = (cluster : ℕ) (e : Envelope) → cluster < 2 ^ 64 → Carried e ↔ ((bytes : List ℕ) × IsFrame cluster e bytes)

-- No frame begins another, whatever clusters they are of: bytes that begin with two begin with one.
abbrev pub NoneBeginsAnother : Type 0
NoneBeginsAnother = (c d : ℕ) (e f : Envelope) (a b x y : List ℕ) → IsFrame c e a → IsFrame d f b → a ++ x ≡ b ++ y →
    (c ≡ d) × (e ≡ f) × (a ≡ b)

-- bytes call for one refusal at most
abbrev pub OneRefusal : Type 0
OneRefusal = (cluster : ℕ) (bytes : List ℕ) (e f : FrameError) → Refuses cluster bytes e → Refuses cluster bytes f → e ≡ f

-- and none is for want of memory
abbrev pub NeverForMemory : Type 0
NeverForMemory = (cluster : ℕ) (bytes : List ℕ) → Refuses cluster bytes Memory → ⊥

-- bytes that begin with a frame call for no refusal
abbrev pub FrameOrRefusal : Type 0
FrameOrRefusal = (cluster : ℕ) (bytes : List ℕ) (e : Envelope) (f : FrameError) → BeginsWith cluster bytes e → Refuses cluster bytes f → ⊥

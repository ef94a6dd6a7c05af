-- What an answer promises, from what was judged.
use Rattle.std.proofs.Common.{◌≡◌, ℕ, ◌^◌, ◌<◌, List, ◌++◌, length, Ok, Err, ap, ◌∙◌}
use Rattle.std.specs.Prelude.{IfOk}
use Rattle.ncc_tx.proofs.ItemRead.{AreBytes}
use Rattle.ncc_raft.specs.declared.message.Envelope.{Envelope}
use Rattle.ncc_wire.specs.declared.error.FrameError.{FrameError}
use Rattle.ncc_wire.specs.declared.error.FrameError.TheVariants.{BadField, BadKind, Memory, OtherCluster, Rest, Short, TooLong}
use Rattle.ncc_wire.specs.Frames.{frame_bytes}
use Rattle.ncc_wire.specs.Judged.{Answer, BeginsWith, FrameOrMemory, Judges, Reads}
use Rattle.ncc_wire.specs.Reading.{Refuses}
use Rattle.ncc_wire.proofs.Ones.{one_read, one_refusal, read_not_refused}
use Rattle.ncc_wire.proofs.Wholes.{framed, is_frame, read_again, written_by}

pub begins_of : (c : ℕ) (bytes : List ℕ) (e : Envelope) → BeginsWith c bytes e → Reads c bytes e (length (frame_bytes c e))
begins_of c bytes e b =
    let f = framed c e b.frame b.is in
    read_again c e bytes b.rest f.sent (b.same ∙ ap (λ (l : List ℕ). l ++ b.rest) f.same)

pub found_by : (c : ℕ) (bytes : List ℕ) (r : Answer) → c < 2 ^ 64 → AreBytes bytes → Judges c bytes r → IfOk r (λ x. BeginsWith c bytes x.0)
found_by c bytes (Ok x) few all j =
    let w = written_by c bytes x.0 x.1 few all j in
    record { frame = frame_bytes c x.0; rest = w.rest; is = is_frame c x.0 w.sent; same = w.same }
found_by c bytes (Err e) few all j = tt

pub length_by : (c : ℕ) (bytes : List ℕ) (r : Answer) → c < 2 ^ 64 → AreBytes bytes → Judges c bytes r →
    IfOk r (λ x. x.1 ≡ length (frame_bytes c x.0))
length_by c bytes (Ok x) few all j = (written_by c bytes x.0 x.1 few all j).length_is
length_by c bytes (Err e) few all j = tt

abbrev answer : Envelope → ℕ → Answer
answer e n = Ok (e, n)

same_answer : (c : ℕ) (bytes : List ℕ) (e : Envelope) (x : Envelope × ℕ) → BeginsWith c bytes e → Reads c bytes x.0 x.1 →
    answer e (length (frame_bytes c e)) ≡ Ok x
same_answer c bytes e x b r =
    let one = one_read c bytes e x.0 (length (frame_bytes c e)) x.1 (begins_of c bytes e b) r in
    ap (λ (f : Envelope). answer f (length (frame_bytes c e))) one.0 ∙ ap (answer x.0) one.1

-- not both a frame and a refusal
pub not_refused : (c : ℕ) (bytes : List ℕ) (e : Envelope) (f : FrameError) → BeginsWith c bytes e → Refuses c bytes f → ⊥
not_refused c bytes e f b h = read_not_refused c bytes e (length (frame_bytes c e)) f (begins_of c bytes e b) h

pub only_by : (c : ℕ) (bytes : List ℕ) (r : Answer) → Judges c bytes r → (e : Envelope) → BeginsWith c bytes e →
    FrameOrMemory r (Ok (e, length (frame_bytes c e)))
only_by c bytes (Ok x) j e b = same_answer c bytes e x b j
only_by c bytes (Err Short) j e b = absurd (not_refused c bytes e Short b j)
only_by c bytes (Err (TooLong n)) j e b = absurd (not_refused c bytes e (TooLong n) b j)
only_by c bytes (Err (OtherCluster n)) j e b = absurd (not_refused c bytes e (OtherCluster n) b j)
only_by c bytes (Err (BadKind n)) j e b = absurd (not_refused c bytes e (BadKind n) b j)
only_by c bytes (Err (BadField n)) j e b = absurd (not_refused c bytes e (BadField n) b j)
only_by c bytes (Err (Rest n)) j e b = absurd (not_refused c bytes e (Rest n) b j)
only_by c bytes (Err Memory) j e b = tt

abbrev fault : FrameError → Answer
fault e = Err e

pub exact_by : (c : ℕ) (bytes : List ℕ) (r : Answer) → Judges c bytes r → (f : FrameError) → Refuses c bytes f → FrameOrMemory r (Err f)
exact_by c bytes (Ok x) j f h = absurd (read_not_refused c bytes x.0 x.1 f j h)
exact_by c bytes (Err Short) j f h = ap fault (one_refusal c bytes f Short h j)
exact_by c bytes (Err (TooLong n)) j f h = ap fault (one_refusal c bytes f (TooLong n) h j)
exact_by c bytes (Err (OtherCluster n)) j f h = ap fault (one_refusal c bytes f (OtherCluster n) h j)
exact_by c bytes (Err (BadKind n)) j f h = ap fault (one_refusal c bytes f (BadKind n) h j)
exact_by c bytes (Err (BadField n)) j f h = ap fault (one_refusal c bytes f (BadField n) h j)
exact_by c bytes (Err (Rest n)) j f h = ap fault (one_refusal c bytes f (Rest n) h j)
exact_by c bytes (Err Memory) j f h = tt

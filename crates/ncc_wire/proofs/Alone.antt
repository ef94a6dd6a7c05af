-- No frame begins another, and a worked frame.
use Rattle.std.proofs.Common.{◌≡◌, ℕ, List, ◌∷◌, ◌++◌, length, Result, Ok, Err, refl, sym, ap, ◌∙◌, subst, arith}
use Rattle.std.specs.Int.{w64, to_be_bytes}
use Rattle.ncc_raft.specs.declared.message.Body.TheVariants.{VoteAsk}
use Rattle.ncc_raft.specs.declared.message.Envelope.{Envelope}
use Rattle.ncc_wire.specs.declared.error.FrameError.{FrameError}
use Rattle.ncc_wire.specs.declared.error.FrameError.TheVariants.{BadKind, OtherCluster, Short}
use Rattle.ncc_wire.specs.Frames.{IsFrame, body_bytes, content, frame_bytes, kind_of}
use Rattle.ncc_wire.specs.Reading.{Refuses, at_field, cluster_in, kind_at, whole_at}
use Rattle.ncc_wire.specs.Judged.{Reads}
use Rattle.ncc_wire.specs.Worked.{asked, cut, tail, with_kind}
use Rattle.ncc_wire.proofs.Heads.{owner_is, whole_again}
use Rattle.ncc_wire.proofs.Ones.{one_read}
use Rattle.ncc_wire.proofs.Parts.{fine_of}
use Rattle.ncc_wire.proofs.Wholes.{Sent, framed, is_frame, owned_frame, read_again, whole_frame}

abbrev found : List ℕ → Result (List ℕ) FrameError
found frame = Ok frame

pub none_begins : (c d : ℕ) (e f : Envelope) (a b x y : List ℕ) → IsFrame c e a → IsFrame d f b → a ++ x ≡ b ++ y →
    (c ≡ d) × (e ≡ f) × (a ≡ b)
none_begins c d e f a b x y g h same =
    let p = framed c e a g in
    let q = framed d f b h in
    let one : frame_bytes c e ++ x ≡ frame_bytes d f ++ y = ap (λ (l : List ℕ). l ++ x) (sym p.same) ∙ same
    ∙ ap (λ (l : List ℕ). l ++ y) q.same in
    let both : found (frame_bytes c e) ≡ found (frame_bytes d f) = sym (whole_frame c e p.sent.fine x) ∙ ap whole_at one
    ∙ whole_frame d f q.sent.fine y in
    let frames : frame_bytes c e ≡ frame_bytes d f = cc in
    let cluster : c ≡ d = sym (owner_is c (frame_bytes c e) (kind_of e.body) (owned_frame c e p.sent)) ∙ ap cluster_in frames
    ∙ owner_is d (frame_bytes d f) (kind_of f.body) (owned_frame d f q.sent) in
    let here = read_again c e (frame_bytes c e ++ x) x p.sent refl in
    let there = read_again d f (frame_bytes c e ++ x) y q.sent one in
    let moved = subst (λ (n : ℕ). Reads n (frame_bytes c e ++ x) f (length (frame_bytes d f))) (sym cluster) there in
    let read = one_read c (frame_bytes c e ++ x) e f (length (frame_bytes c e)) (length (frame_bytes d f)) here moved in
    (cluster, read.0, p.same ∙ frames ∙ sym q.same)

-- ---- the worked frame

asked_sent : Sent 1 asked
asked_sent = record {
  cluster = omega arith;
  from = (omega arith, omega arith);
  to = (omega arith, omega arith);
  fine = fine_of (VoteAsk 1 0 0) (omega arith, omega arith, omega arith);
}

asked_bytes : frame_bytes 1 asked ≡ with_kind 1
unfolding frame_bytes content body_bytes
asked_bytes = refl

pub asked_frame : IsFrame 1 asked (with_kind 1)
asked_frame = subst (IsFrame 1 asked) asked_bytes (is_frame 1 asked asked_sent)

whole_kind : (kind : ℕ) (rest : List ℕ) → whole_at (with_kind kind ++ rest) ≡ Ok (with_kind kind)
whole_kind kind rest = whole_again (to_be_bytes w64 1 ++ (kind ∷ 1 ∷ 2 ∷ tail)) rest (omega arith)

other_kind : kind_at 1 (with_kind 9) ≡ Err (BadKind 12)
unfolding kind_at
other_kind = refl

other_cluster : kind_at 2 (with_kind 1) ≡ Err (OtherCluster 1)
unfolding kind_at
other_cluster = refl

pub asked_kind : (rest : List ℕ) → Refuses 1 (with_kind 9 ++ rest) (BadKind 12)
asked_kind rest = at_field 1 (with_kind 9 ++ rest) (BadKind 12) (rw (whole_kind 9 rest, other_kind) refl)

pub asked_other : (rest : List ℕ) → Refuses 2 (with_kind 1 ++ rest) (OtherCluster 1)
asked_other rest = at_field 2 (with_kind 1 ++ rest) (OtherCluster 1) (rw (whole_kind 1 rest, other_cluster) refl)

cut_short : whole_at cut ≡ Err Short
unfolding whole_at
cut_short = refl

pub asked_cut : Refuses 1 cut Short
asked_cut = at_field 1 cut Short (rw cut_short refl)

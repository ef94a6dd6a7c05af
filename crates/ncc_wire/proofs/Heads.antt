-- What stands before sender and receiver: a whole frame by its size, its cluster and its kind.
use Rattle.std.proofs.Common.{◌≡◌, ℕ, ◌+◌, ◌-◌, ◌^◌, ◌<◌, ◌≤◌, Bool, true, false, List, ◌∷◌, ◌++◌, length, get_or, take, drop}
use Rattle.std.proofs.Common.{Option, Some, None, Result, Ok, Err, refl, sym, ap, subst, ◌∙◌, append_assoc, arith, length-append}
use Rattle.std.proofs.Common.{length-drop}
use Rattle.std.proofs.Common.{take-append-drop}
use Rattle.std.specs.Prelude.{not, nat_eq, nat_lt, if◌then◌else◌, slice_index}
use Rattle.std.specs.Int.{w32, w64, to_be_bytes}
use Rattle.std.proofs.lemmas.Bool.{eq-eqb, eqb-true, le-ltb, ltb-false}
use Rattle.std.proofs.lemmas.List.{drop-drop, drop_more, get_or-drop, get_or_at, length-take-le, take-append-le, take_at}
use Rattle.ncc_tx.proofs.ItemRead.{AreBytes, rest_bytes}
use Rattle.ncc_raft.specs.Carried.{max_frame}
use Rattle.ncc_wire.specs.declared.error.FrameError.{FrameError}
use Rattle.ncc_wire.specs.declared.error.FrameError.TheVariants.{BadField, OtherCluster, Short, TooLong}
use Rattle.ncc_wire.specs.declared.kind.Kind.{Kind}
use Rattle.ncc_wire.specs.declared.kind.Kind.TheVariants as k
use Rattle.ncc_wire.specs.Kinds.{code, in_eight, in_four, kind_with, told}
use Rattle.ncc_wire.specs.Reading.{cluster_in, kind_at, kind_or_fault, size_at_front, whole_at}
use Rattle.ncc_wire.proofs.Fields.{take_bytes, told_again, written_back}

-- a test that did not fail, and what came of the other branch
pub passed : {A : Type 0} (t : Bool) (e : FrameError) (r : Result A FrameError) (y : A) → (if t then Err e else r) ≡ Ok y →
    (t ≡ false) × (r ≡ Ok y)
passed true e r y h = absurd (cc)
passed false e r y h = (refl, h)

-- ---- a whole frame

pub record IsWhole (bytes frame : List ℕ) : Type 0 where
  pub rest : List ℕ
  pub same : bytes ≡ frame ++ rest
  pub long : 4 ≤ length frame
  pub short : length frame ≤ 4 + max_frame
  pub size : frame ≡ to_be_bytes w32 (length frame - 4) ++ drop 4 frame
  pub bytes_are : AreBytes frame

abbrev found : List ℕ → Result (List ℕ) FrameError
found frame = Ok frame

whole_is : (bytes frame : List ℕ) → AreBytes bytes → 4 ≤ length bytes → size_at_front bytes ≤ max_frame →
    4 + size_at_front bytes ≤ length bytes → found (take (4 + size_at_front bytes) bytes) ≡ found frame → IsWhole bytes frame
whole_is bytes frame all long few inside e =
    let n = size_at_front bytes in
    let is : take (4 + n) bytes ≡ frame = cc in
    let len : length (take (4 + n) bytes) ≡ 4 + n = length-take-le (4 + n) bytes inside in
    let four : length (take 4 bytes) ≡ 4 = length-take-le 4 bytes long in
    let whole : bytes ≡ frame ++ drop (4 + n) bytes = sym (take-append-drop (4 + n) bytes)
    ∙ ap (λ (l : List ℕ). l ++ drop (4 + n) bytes) is in
    let long_is : length frame ≡ 4 + n = ap length (sym is) ∙ len in
    let head : to_be_bytes w32 n ≡ take 4 bytes = written_back in_four (take 4 bytes) four (take_bytes bytes 4 all) in
    let front : take 4 bytes ≡ take 4 frame = ap (take 4) whole ∙ take-append-le 4 frame (drop (4 + n) bytes) (omega arith) in
    record {
      rest = drop (4 + n) bytes;
      same = whole;
      long = omega arith;
      short = omega arith;
      size = sym (take-append-drop 4 frame) ∙ ap (λ (l : List ℕ). l ++ drop 4 frame) (sym (head ∙ front))
          ∙ ap (λ (m : ℕ). to_be_bytes w32 m ++ drop 4 frame) (omega arith);
      bytes_are = subst AreBytes is (take_bytes bytes (4 + n) all);
    }

pub whole_takes : (bytes frame : List ℕ) → AreBytes bytes → whole_at bytes ≡ Ok frame → IsWhole bytes frame
unfolding whole_at
whole_takes bytes frame all e =
    let n = size_at_front bytes in
    let last : Result (List ℕ) FrameError = if nat_lt (length bytes) (4 + n) then Err Short else Ok (take (4 + n) bytes) in
    let a = passed (nat_lt (length bytes) 4) Short (if nat_lt max_frame n then Err (TooLong n) else last) frame e in
    let b = passed (nat_lt max_frame n) (TooLong n) last frame a.1 in
    let c = passed (nat_lt (length bytes) (4 + n)) Short (Ok (take (4 + n) bytes)) frame b.1 in
    whole_is bytes frame all (ltb-false (length bytes) 4 a.0) (ltb-false max_frame n b.0) (ltb-false (length bytes) (4 + n) c.0) c.1

pub whole_again : (c rest : List ℕ) → length c ≤ max_frame →
    whole_at ((to_be_bytes w32 (length c) ++ c) ++ rest) ≡ Ok (to_be_bytes w32 (length c) ++ c)
unfolding whole_at
whole_again c rest few =
    let h : List ℕ = to_be_bytes w32 (length c) in
    let bytes : List ℕ = (h ++ c) ++ rest in
    let four : length h ≡ 4 = refl in
    let long : length (h ++ c) ≡ 4 + length c = length-append h c in
    let all : length bytes ≡ 4 + length c + length rest = length-append (h ++ c) rest ∙ ap (λ (n : ℕ). n + length rest) long in
    let n : size_at_front bytes ≡ length c = ap (λ (l : List ℕ). told in_four (take 4 l)) (append_assoc h c rest)
    ∙ ap (told in_four) (take_at h (c ++ rest) 4 four) ∙ told_again in_four (length c) (omega arith) in
    let a : nat_lt (length bytes) 4 ≡ false = le-ltb (length bytes) 4 (omega arith) in
    let b : nat_lt max_frame (size_at_front bytes) ≡ false = le-ltb max_frame (size_at_front bytes) (omega arith) in
    let d : nat_lt (length bytes) (4 + size_at_front bytes) ≡ false = le-ltb (length bytes) (4 + size_at_front bytes) (omega arith) in
    let last : take (4 + size_at_front bytes) bytes ≡ h ++ c = ap (λ (m : ℕ). take (4 + m) bytes) n
    ∙ take_at (h ++ c) rest (4 + length c) long in
    rw (a, b, d) (ap found last)

-- ---- cluster and kind

pub kind_again : (kind : Kind) → kind_with (code kind) ≡ Some kind
kind_again k.VoteAsk = refl
kind_again k.VoteReply = refl
kind_again k.Append = refl
kind_again k.AppendReply = refl
kind_again k.Pull = refl
kind_again k.Batch = refl

picked : (t : Bool) (x kind : Kind) (r : Option Kind) (P : Type 0) → (if t then Some x else r) ≡ Some kind →
    (t ≡ true → x ≡ kind → P) → (r ≡ Some kind → P) → P
picked true x kind r P e f g = f refl (cc)
picked false x kind r P e f g = g e

pub kind_takes : (n : ℕ) (kind : Kind) → kind_with n ≡ Some kind → n ≡ code kind
kind_takes n kind e =
    picked (nat_eq n 1) k.VoteAsk kind _ _ e (λ t x. eqb-true n 1 t ∙ ap code x) (λ e.
    picked (nat_eq n 2) k.VoteReply kind _ _ e (λ t x. eqb-true n 2 t ∙ ap code x) (λ e.
    picked (nat_eq n 3) k.Append kind _ _ e (λ t x. eqb-true n 3 t ∙ ap code x) (λ e.
    picked (nat_eq n 4) k.AppendReply kind _ _ e (λ t x. eqb-true n 4 t ∙ ap code x) (λ e.
    picked (nat_eq n 5) k.Pull kind _ _ e (λ t x. eqb-true n 5 t ∙ ap code x) (λ e.
    picked (nat_eq n 6) k.Batch kind _ _ e (λ t x. eqb-true n 6 t ∙ ap code x) (λ e. absurd (cc)))))))

known : (o : Option Kind) (kind : Kind) → kind_or_fault o ≡ Ok kind → o ≡ Some kind
known (Some x) kind e = cc
known None kind e = absurd (cc)

not_false : (b : Bool) → not b ≡ false → b ≡ true
not_false true e = refl
not_false false e = absurd (cc)

-- the cluster and a kind stand behind the size
pub record Owned (cluster : ℕ) (frame : List ℕ) (kind : Kind) : Type 0 where
  pub long : 13 ≤ length frame
  pub same : drop 4 frame ≡ to_be_bytes w64 cluster ++ (code kind ∷ drop 13 frame)

pub owner_takes : (cluster : ℕ) (frame : List ℕ) (kind : Kind) → AreBytes frame → kind_at cluster frame ≡ Ok kind → Owned cluster frame kind
unfolding kind_at
owner_takes cluster frame kind all e =
    let n = cluster_in frame in
    let last : Result Kind FrameError = kind_or_fault (kind_with (slice_index frame 12)) in
    let third : Result Kind FrameError = if nat_lt (length frame) 13 then Err (BadField 12) else last in
    let a = passed (nat_lt (length frame) 12) (BadField 4) (if not (nat_eq n cluster) then Err (OtherCluster n) else third) kind e in
    let b = passed (not (nat_eq n cluster)) (OtherCluster n) third kind a.1 in
    let c = passed (nat_lt (length frame) 13) (BadField 12) last kind b.1 in
    let long : 13 ≤ length frame = ltb-false (length frame) 13 c.0 in
    let owner : n ≡ cluster = eqb-true n cluster (not_false (nat_eq n cluster) b.0) in
    let said : slice_index frame 12 ≡ code kind = kind_takes (slice_index frame 12) kind
    (known (kind_with (slice_index frame 12)) kind c.1) in
    let eight : length (take 8 (drop 4 frame)) ≡ 8 = length-take-le 8 (drop 4 frame) (omega (arith, length-drop 4 frame)) in
    let head : to_be_bytes w64 n ≡ take 8 (drop 4 frame) = written_back in_eight (take 8 (drop 4 frame)) eight
    (take_bytes (drop 4 frame) 8 (rest_bytes frame 4 all)) in
    let tail : drop 12 frame ≡ code kind ∷ drop 13 frame = drop_more frame 12 0 long ∙ ap (λ (m : ℕ). m ∷ drop 13 frame) said in
    record {
      long = long;
      same = sym (take-append-drop 8 (drop 4 frame)) ∙ ap (λ (l : List ℕ). l ++ drop 8 (drop 4 frame)) (sym head)
          ∙ ap (λ (m : ℕ). to_be_bytes w64 m ++ drop 8 (drop 4 frame)) owner
          ∙ ap (λ (l : List ℕ). to_be_bytes w64 cluster ++ l) (drop-drop 8 4 frame ∙ tail);
    }

pub owner_again : (cluster : ℕ) (frame : List ℕ) (kind : Kind) (rest : List ℕ) → cluster < 2 ^ 64 →
    drop 4 frame ≡ to_be_bytes w64 cluster ++ (code kind ∷ rest) → kind_at cluster frame ≡ Ok kind
unfolding kind_at
owner_again cluster frame kind rest few same =
    let c : List ℕ = to_be_bytes w64 cluster in
    let tail : List ℕ = code kind ∷ rest in
    let long : 13 ≤ length frame = omega (arith, ap length same, length-append c tail, length-drop 4 frame) in
    let owner : cluster_in frame ≡ cluster = ap (λ (l : List ℕ). told in_eight (take 8 l)) same ∙ ap (told in_eight) (take_at c tail 8 refl)
    ∙ told_again in_eight cluster few in
    let said : slice_index frame 12 ≡ code kind = sym (get_or-drop 4 frame 8 0) ∙ ap (λ (l : List ℕ). get_or l 8 0) same
    ∙ get_or_at c (code kind) rest 0 8 refl in
    let x : nat_lt (length frame) 12 ≡ false = le-ltb (length frame) 12 (omega arith) in
    let y : nat_eq (cluster_in frame) cluster ≡ true = eq-eqb (cluster_in frame) cluster owner in
    let z : nat_lt (length frame) 13 ≡ false = le-ltb (length frame) 13 long in
    rw (x, y, z) (ap (λ (n : ℕ). kind_or_fault (kind_with n)) said ∙ ap kind_or_fault (kind_again kind))

pub kind_inside : (cluster : ℕ) (frame : List ℕ) (kind : Kind) → kind_at cluster frame ≡ Ok kind → 13 ≤ length frame
unfolding kind_at
kind_inside cluster frame kind e =
    let n = cluster_in frame in
    let last : Result Kind FrameError = kind_or_fault (kind_with (slice_index frame 12)) in
    let third : Result Kind FrameError = if nat_lt (length frame) 13 then Err (BadField 12) else last in
    let a = passed (nat_lt (length frame) 12) (BadField 4) (if not (nat_eq n cluster) then Err (OtherCluster n) else third) kind e in
    let b = passed (not (nat_eq n cluster)) (OtherCluster n) third kind a.1 in
    ltb-false (length frame) 13 (passed (nat_lt (length frame) 13) (BadField 12) last kind b.1).0

-- a frame is of one cluster
pub owner_is : (cluster : ℕ) (frame : List ℕ) (kind : Kind) → kind_at cluster frame ≡ Ok kind → cluster_in frame ≡ cluster
unfolding kind_at
owner_is cluster frame kind e =
    let n = cluster_in frame in
    let last : Result Kind FrameError = kind_or_fault (kind_with (slice_index frame 12)) in
    let third : Result Kind FrameError = if nat_lt (length frame) 13 then Err (BadField 12) else last in
    let a = passed (nat_lt (length frame) 12) (BadField 4) (if not (nat_eq n cluster) then Err (OtherCluster n) else third) kind e in
    let b = passed (not (nat_eq n cluster)) (OtherCluster n) third kind a.1 in
    eqb-true n cluster (not_false (nat_eq n cluster) b.0)

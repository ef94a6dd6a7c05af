-- No refusal that bytes call for is want of memory.
use Rattle.std.proofs.Common.{◌≡◌, ℕ, ◌+◌, Bool, true, false, List, [], ◌∷◌, length, take, Option, Some, None, Result, Ok, Err, refl}
use Rattle.std.specs.Prelude.{◌&&◌, not, nat_eq, nat_le, nat_lt, if◌then◌else◌, slice_index}
use Rattle.ncc_raft.specs.Carried.{max_frame}
use Rattle.ncc_wire.specs.declared.error.FrameError.{FrameError}
use Rattle.ncc_wire.specs.declared.error.FrameError.TheVariants.{BadField, BadKind, Memory, OtherCluster, Rest, Short, TooLong}
use Rattle.ncc_wire.specs.declared.kind.Kind.{Kind}
use Rattle.ncc_wire.specs.Kinds.{Field, fields, kind_with, members, width}
use Rattle.ncc_wire.specs.Reading.{◌>>=◌, Front, Refuses, at_end, at_field, at_item, cluster_in, field_at, fields_at, front_at}
use Rattle.ncc_wire.specs.Reading.{kind_at, kind_or_fault, number_at, size_at_front, whole_at}

-- it never ends for want of memory
abbrev Says : {A : Type 0} → Result A FrameError → Type 0
Says {A} r = ◌≡◌ {A = Result A FrameError} r (Err Memory) → ⊥

says_ok : {A : Type 0} (x : A) → Says (Ok x)
says_ok x e = cc

says_then : {A B : Type 0} (r : Result A FrameError) (f : A → Result B FrameError) → Says r → ((x : A) → Says (f x)) → Says (r >>= f)
says_then (Ok x) f s t e = t x e
says_then (Err Short) f s t e = cc
says_then (Err (TooLong n)) f s t e = cc
says_then (Err (OtherCluster n)) f s t e = cc
says_then (Err (BadKind n)) f s t e = cc
says_then (Err (BadField n)) f s t e = cc
says_then (Err (Rest n)) f s t e = cc
says_then (Err Memory) f s t e = s refl

says_if : {A : Type 0} (t : Bool) (x y : Result A FrameError) → Says x → Says y → Says (if t then x else y)
says_if true x y a b = a
says_if false x y a b = b

says_field : (f : Field) (at : ℕ) (frame : List ℕ) → Says (field_at f at frame)
unfolding field_at
says_field f at frame =
    let n = number_at f at frame in
    says_if (nat_le (at + width f.wide) (length frame) && nat_le f.least n && nat_le n f.greatest) (Ok n) (Err (BadField at)) (says_ok n)
    (λ e. cc)

says_fields : (fs : List Field) (at : ℕ) (frame : List ℕ) → Says (fields_at fs at frame)
says_fields [] at frame = says_ok []
says_fields (f ∷ fs) at frame =
    says_then (field_at f at frame) (λ n. fields_at fs (at + width f.wide) frame >>= λ ns. Ok (n ∷ ns)) (says_field f at frame)
    (λ n. says_then (fields_at fs (at + width f.wide) frame) (λ ns. Ok (n ∷ ns)) (says_fields fs (at + width f.wide) frame)
    (λ ns. says_ok (n ∷ ns)))

says_whole : (bytes : List ℕ) → Says (whole_at bytes)
unfolding whole_at
says_whole bytes =
    let n = size_at_front bytes in
    let last : Result (List ℕ) FrameError = if nat_lt (length bytes) (4 + n) then Err Short else Ok (take (4 + n) bytes) in
    says_if (nat_lt (length bytes) 4) (Err Short) (if nat_lt max_frame n then Err (TooLong n) else last) (λ e. cc)
    (says_if (nat_lt max_frame n) (Err (TooLong n)) last (λ e. cc)
    (says_if (nat_lt (length bytes) (4 + n)) (Err Short) (Ok (take (4 + n) bytes)) (λ e. cc) (says_ok (take (4 + n) bytes))))

says_known : (o : Option Kind) → Says (kind_or_fault o)
says_known (Some kind) = says_ok kind
says_known None = λ e. cc

says_kind : (cluster : ℕ) (frame : List ℕ) → Says (kind_at cluster frame)
unfolding kind_at
says_kind cluster frame =
    let n = cluster_in frame in
    let last : Result Kind FrameError = kind_or_fault (kind_with (slice_index frame 12)) in
    let third : Result Kind FrameError = if nat_lt (length frame) 13 then Err (BadField 12) else last in
    says_if (nat_lt (length frame) 12) (Err (BadField 4)) (if not (nat_eq n cluster) then Err (OtherCluster n) else third) (λ e. cc)
    (says_if (not (nat_eq n cluster)) (Err (OtherCluster n)) third (λ e. cc)
    (says_if (nat_lt (length frame) 13) (Err (BadField 12)) last (λ e. cc) (says_known (kind_with (slice_index frame 12)))))

abbrev front_in : List ℕ → Kind → List ℕ → List ℕ → Front
front_in frame kind between ns = record { frame = frame; kind = kind; between = between; numbers = ns }

says_front : (cluster : ℕ) (bytes : List ℕ) → Says (front_at cluster bytes)
says_front cluster bytes =
    says_then (whole_at bytes) _ (says_whole bytes) (λ frame. says_then (kind_at cluster frame) _ (says_kind cluster frame) (λ kind.
    says_then (fields_at members 13 frame) _ (says_fields members 13 frame) (λ between.
    says_then (fields_at (fields kind) 15 frame) _ (says_fields (fields kind) 15 frame) (λ ns. says_ok (front_in frame kind between ns)))))

never_any : (cluster : ℕ) (bytes : List ℕ) (e : FrameError) → Refuses cluster bytes e → e ≡ Memory → ⊥
never_any _ _ _ (at_field cluster bytes e h) is = says_front cluster bytes (rw is at h)
never_any _ _ _ (at_item cluster bytes f place h b) is = absurd (cc)
never_any _ _ _ (at_end cluster bytes f items h s n lt) is = absurd (cc)

pub never : (cluster : ℕ) (bytes : List ℕ) → Refuses cluster bytes Memory → ⊥
never cluster bytes h = never_any cluster bytes Memory h refl

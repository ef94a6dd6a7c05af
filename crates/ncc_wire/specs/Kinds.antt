-- The table of frames: the fields, how wide each is and which numbers it may hold, and the fields of each kind. A later kind is
-- one row more.
use Rattle.std.specs.Prelude.{ℕ, ◌+◌, ◌-◌, ◌^◌, List, [], ◌∷◌, Option, Some, None, nat_eq, if◌then◌else◌, slice_index}
use Rattle.std.specs.Int.{w32, w64, from_be_bytes, to_be_bytes}
use Rattle.ncc_tx.specs.Kept.{term_limit}
use Rattle.ncc_raft.specs.Carried.{max_frame, max_members, place_limit}
use Rattle.ncc_raft.specs.Logs.{max_sent}
use Rattle.ncc_wire.specs.declared.kind.Kind.{Kind}
use Rattle.ncc_wire.specs.declared.kind.Kind.TheVariants as k

-- ---- numbers, big-endian

-- in so many bytes
pub data Wide : Type 0 where
  in_one : Wide
  in_four : Wide
  in_eight : Wide

abbrev pub width : Wide → ℕ
width in_one = 1
width in_four = 4
width in_eight = 8

abbrev pub written : Wide → ℕ → List ℕ
written in_one n = n ∷ []
written in_four n = to_be_bytes w32 n
written in_eight n = to_be_bytes w64 n

abbrev pub told : Wide → List ℕ → ℕ
told in_one b = slice_index b 0
told in_four b = from_be_bytes w32 b
told in_eight b = from_be_bytes w64 b

-- ---- fields

-- how wide it is, and the least and the greatest number that it may hold
pub record Field : Type 0 where
  pub wide : Wide
  pub least : ℕ
  pub greatest : ℕ

abbrev pub frame_size : Field
frame_size = record { wide = in_four; least = 0; greatest = max_frame }

abbrev pub member : Field
member = record { wide = in_one; least = 1; greatest = max_members }

abbrev pub term : Field
term = record { wide = in_eight; least = 0; greatest = term_limit - 1 }

-- a place to go on from
abbrev pub behind_place : Field
behind_place = record { wide = in_eight; least = 0; greatest = place_limit - 1 }

-- the place of a first item
abbrev pub first_place : Field
first_place = record { wide = in_eight; least = 1; greatest = place_limit }

abbrev pub any_number : Field
any_number = record { wide = in_eight; least = 0; greatest = 2 ^ 64 - 1 }

abbrev pub flag : Field
flag = record { wide = in_one; least = 0; greatest = 1 }

abbrev pub item_count : Field
item_count = record { wide = in_four; least = 0; greatest = max_sent }

-- ---- kinds

-- the byte of a kind
abbrev pub code : Kind → ℕ
code k.VoteAsk = 1
code k.VoteReply = 2
code k.Append = 3
code k.AppendReply = 4
code k.Pull = 5
code k.Batch = 6

-- the kind of a byte
abbrev pub kind_with : ℕ → Option Kind
kind_with n =
    if nat_eq n 1 then Some k.VoteAsk else if nat_eq n 2 then Some k.VoteReply else if nat_eq n 3 then Some k.Append
    else if nat_eq n 4 then Some k.AppendReply else if nat_eq n 5 then Some k.Pull else if nat_eq n 6 then Some k.Batch else None

-- the fields behind sender and receiver; items stand behind those of an Append and of a Batch
abbrev pub fields : Kind → List Field
fields k.VoteAsk = term ∷ any_number ∷ term ∷ []
fields k.VoteReply = term ∷ flag ∷ []
fields k.Append = term ∷ behind_place ∷ term ∷ any_number ∷ item_count ∷ []
fields k.AppendReply = term ∷ flag ∷ any_number ∷ []
fields k.Pull = behind_place ∷ []
fields k.Batch = first_place ∷ item_count ∷ []

abbrev pub members : List Field
members = member ∷ member ∷ []

-- how many bytes fields take
abbrev pub widths : List Field → ℕ
widths [] = 0
widths (f ∷ fs) = width f.wide + widths fs

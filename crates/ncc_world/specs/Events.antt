-- Which events a world takes, and whose events they are refused as.
use Rattle.std.specs.Prelude.{◌≡◌, ℕ, ◌≤◌, ◌==◌, nat_le, Bool, true, ◌||◌, ◌&&◌, List, length, Option, Some, None}
use Rattle.std.specs.List.{All, list_all}
use Rattle.ncc_pack.specs.Fits.{fits_i64}
use Rattle.ncc_bookmark.specs.Point.{Point, Fits}
use Rattle.ncc_world.specs.declared.event.Event.{Event}
use Rattle.ncc_world.specs.declared.event.Event.TheVariants.{Time, Put, Get, Apply, Timeout, Beat, Deliver, Pull, Crash, Open, Bytes, Close}
use Rattle.ncc_world.specs.declared.event.Event.TheVariants.{Session, Work, Up, Down, Pump, Cut}
use Rattle.ncc_world.specs.declared.event.Job.{Job}
use Rattle.ncc_world.specs.declared.event.Job.TheVariants.{Add}
use Rattle.ncc_world.specs.declared.event.Job.TheVariants as job

-- a letter, a digit, `_` or `-`
abbrev pub is_word_byte : ℕ → Bool
is_word_byte b = nat_le 97 b && nat_le b 122 || (nat_le 65 b && nat_le b 90 || (nat_le 48 b && nat_le b 57 || (b == 95 || b == 45)))

-- 1 to 64 of these
abbrev pub is_word : List ℕ → Bool
is_word w = nat_le 1 (length w) && nat_le (length w) 64 && list_all is_word_byte w

-- bookmarks of this cluster
abbrev pub AreOf : ℕ → List Point → Type 0
AreOf cluster bookmarks = All (λ b. Fits b × (b.cluster ≡ cluster)) bookmarks

-- no more than a list may have that is spelled
abbrev pub AreFew : List Point → Type 0
AreFew bookmarks = length bookmarks ≤ 16_777_216

-- a work's keys and values are words, and what it adds has 64 bits
abbrev pub MayBegin : Job → Type 0
MayBegin (Add key by) = (is_word key ≡ true) × (fits_i64 by ≡ true)
MayBegin (job.Put key value) = (is_word key ≡ true) × (is_word value ≡ true)
MayBegin (job.Get key) = is_word key ≡ true

-- where requests are counted that move, there are some
abbrev pub CountsSome : Option ℕ → Type 0
CountsSome None = Unit {0}
CountsSome (Some requests) = 1 ≤ requests

-- what a world is asked for: keys and values are words, bookmarks are of its cluster, and bytes are some, as many as a message may have
abbrev pub MayHappen : ℕ → Event → Type 0
MayHappen cluster (Time to) = Unit {0}
MayHappen cluster (Put member key value bookmarks) =
    (is_word key ≡ true) × (is_word value ≡ true) × AreOf cluster bookmarks × AreFew bookmarks
MayHappen cluster (Get member key bookmarks) = (is_word key ≡ true) × AreOf cluster bookmarks × AreFew bookmarks
MayHappen cluster (Apply member count) = 1 ≤ count
MayHappen cluster (Timeout member) = Unit {0}
MayHappen cluster (Beat member) = Unit {0}
MayHappen cluster (Deliver message) = Unit {0}
MayHappen cluster (Pull replica core) = Unit {0}
MayHappen cluster (Crash member) = Unit {0}
MayHappen cluster (Open member) = Unit {0}
MayHappen cluster (Bytes conn bytes) = (1 ≤ length bytes) × (length bytes ≤ 1_048_576)
MayHappen cluster (Close conn) = Unit {0}
MayHappen cluster (Session seed) = Unit {0}
MayHappen cluster (Work session job) = MayBegin job
MayHappen cluster (Up session count) = Unit {0}
MayHappen cluster (Down session count) = Unit {0}
MayHappen cluster (Pump session requests) = CountsSome requests
MayHappen cluster (Cut session) = Unit {0}

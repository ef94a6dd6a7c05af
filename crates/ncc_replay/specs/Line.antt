-- The lines of a script: the one spelling of each event, as words that single spaces separate, and why a line is refused.
use Rattle.std.specs.Prelude.{◌≡◌, ℕ, ◌+◌, ◌/◌, ◌%◌, ◌^◌, ◌<◌, ◌≤◌, ◌==◌, nat_lt, nat_le, Bool, true, false, not, ◌&&◌}
use Rattle.std.specs.Prelude.{if◌then◌else◌, List}
use Rattle.std.specs.Prelude.{[], ◌∷◌, ◌++◌, length, map, codes, decimal, ℤ, Option, Some, None}
use Rattle.std.specs.Fmt.{signed_decimal}
use Rattle.std.specs.List.{All, flat_map, join_with_byte, list_all, list_any, before_first}
use Rattle.std.specs.Str.{bytes_eq}
use Rattle.ncc_bookmark.specs.Point.{Point}
use Rattle.ncc_bookmark.specs.Spelling.{text_of}
use Rattle.ncc_world.specs.declared.setup.Setup.{Setup}
use Rattle.ncc_world.specs.declared.setup.Kind.TheVariants.{List as IsList}
use Rattle.ncc_world.specs.declared.event.Event.{Event}
use Rattle.ncc_world.specs.declared.event.Event.TheVariants.{Time, Put, Get, Apply, Timeout, Beat, Deliver, Pull, Crash, Open, Bytes, Close}
use Rattle.ncc_world.specs.declared.event.Event.TheVariants.{Session, Work, Up, Down, Pump, Cut}
use Rattle.ncc_world.specs.declared.event.Job.{Job}
use Rattle.ncc_world.specs.declared.event.Job.TheVariants.{Add}
use Rattle.ncc_world.specs.declared.event.Job.TheVariants as job
use Rattle.ncc_world.specs.Events.{is_word, AreOf, MayBegin}
use Rattle.ncc_world.specs.Setting.{IsSetup}
use Rattle.ncc_replay.specs.declared.status.Cause.{Cause}
use Rattle.ncc_replay.specs.declared.status.Cause.TheVariants.{UnknownVerb, BadLine, BadBookmark}

-- two digits a byte, in lower case
abbrev pub hex_digit : ℕ → ℕ
hex_digit d = if nat_lt d 10 then 48 + d else 87 + d

abbrev pub hex_byte : ℕ → List ℕ
hex_byte b = hex_digit (b / 16) ∷ hex_digit (b % 16) ∷ []

unfoldable pub hex : List ℕ → List ℕ
hex bytes = flat_map hex_byte bytes

-- the words of bookmarks
abbrev pub bookmark_words : List Point → List (List ℕ)
bookmark_words bookmarks = map text_of bookmarks

-- a number that may be below 0 has `-` before it where it is
abbrev pub signed_text : ℤ → List ℕ
signed_text n = signed_decimal n

-- the words of a work
abbrev pub job_words : Job → List (List ℕ)
job_words (Add key by) = codes "add" ∷ key ∷ signed_text by ∷ []
job_words (job.Put key value) = codes "put" ∷ key ∷ value ∷ []
job_words (job.Get key) = codes "get" ∷ key ∷ []

-- how many requests go up, where that is said
abbrev pub limit_words : Option ℕ → List (List ℕ)
limit_words None = []
limit_words (Some requests) = decimal requests ∷ []

-- the words of an event; numbers have no leading zeros
abbrev pub words_of : Event → List (List ℕ)
words_of (Time to) = codes "time" ∷ decimal to ∷ []
words_of (Put member key value bookmarks) = codes "put" ∷ decimal member ∷ key ∷ value ∷ bookmark_words bookmarks
words_of (Get member key bookmarks) = codes "get" ∷ decimal member ∷ key ∷ bookmark_words bookmarks
words_of (Apply member count) = codes "apply" ∷ decimal member ∷ decimal count ∷ []
words_of (Timeout member) = codes "timeout" ∷ decimal member ∷ []
words_of (Beat member) = codes "beat" ∷ decimal member ∷ []
words_of (Deliver message) = codes "deliver" ∷ decimal message ∷ []
words_of (Pull replica core) = codes "pull" ∷ decimal replica ∷ decimal core ∷ []
words_of (Crash member) = codes "crash" ∷ decimal member ∷ []
words_of (Open member) = codes "open" ∷ decimal member ∷ []
words_of (Bytes conn bytes) = codes "bytes" ∷ decimal conn ∷ hex bytes ∷ []
words_of (Close conn) = codes "close" ∷ decimal conn ∷ []
words_of (Session seed) = codes "session" ∷ decimal seed ∷ []
words_of (Work session job) = codes "work" ∷ decimal session ∷ job_words job
words_of (Up session count) = codes "up" ∷ decimal session ∷ decimal count ∷ []
words_of (Down session count) = codes "down" ∷ decimal session ∷ decimal count ∷ []
words_of (Pump session requests) = codes "pump" ∷ decimal session ∷ limit_words requests
words_of (Cut session) = codes "cut" ∷ decimal session ∷ []

-- no number, or one of 64 bits that is not 0
abbrev pub FitsLimit : Option ℕ → Type 0
FitsLimit None = Unit {0}
FitsLimit (Some requests) = (1 ≤ requests) × (requests < 2 ^ 64)

-- an event whose numbers, words, bytes and bookmarks a line of a script can have
abbrev pub Spellable : ℕ → Event → Type 0
Spellable cluster (Time to) = to < 2 ^ 64
Spellable cluster (Put member key value bookmarks) = (member < 2 ^ 8) × (is_word key ≡ true) × (is_word value ≡ true)
    × AreOf cluster bookmarks
Spellable cluster (Get member key bookmarks) = (member < 2 ^ 8) × (is_word key ≡ true) × AreOf cluster bookmarks
Spellable cluster (Apply member count) = (member < 2 ^ 8) × (1 ≤ count) × (count < 2 ^ 64)
Spellable cluster (Timeout member) = member < 2 ^ 8
Spellable cluster (Beat member) = member < 2 ^ 8
Spellable cluster (Deliver message) = message < 2 ^ 64
Spellable cluster (Pull replica core) = (replica < 2 ^ 8) × (core < 2 ^ 8)
Spellable cluster (Crash member) = member < 2 ^ 8
Spellable cluster (Open member) = member < 2 ^ 8
Spellable cluster (Bytes conn bytes) =
    (conn < 2 ^ 64) × (1 ≤ length bytes) × (length bytes ≤ 1_048_576) × All (λ b. b < 2 ^ 8) bytes
Spellable cluster (Close conn) = conn < 2 ^ 64
Spellable cluster (Session seed) = seed < 2 ^ 64
Spellable cluster (Work session job) = (session < 2 ^ 64) × MayBegin job
Spellable cluster (Up session count) = (session < 2 ^ 64) × (count < 2 ^ 64)
Spellable cluster (Down session count) = (session < 2 ^ 64) × (count < 2 ^ 64)
Spellable cluster (Pump session requests) = (session < 2 ^ 64) × FitsLimit requests
Spellable cluster (Cut session) = session < 2 ^ 64

-- in a script of this cluster the line says this event
abbrev pub Says : ℕ → List ℕ → Event → Type 0
Says cluster line event = Spellable cluster event × (line ≡ join_with_byte 32 (words_of event))

-- the first line of a script
abbrev pub header : List ℕ
header = codes "ncc-script 1"

-- the words of the second line
abbrev pub setup_words : Setup → List (List ℕ)
setup_words s = codes "cluster" ∷ codes "list" ∷ decimal s.cores ∷ decimal s.replicas ∷ decimal s.cluster ∷ decimal s.wait ∷ []

-- the line says that the script runs on this cluster, whose log may have as many entries as any
pub record SaysCluster (line : List ℕ) (s : Setup) : Type 0 where
  pub allowed : IsSetup s
  pub kind : s.kind ≡ IsList
  pub limit : s.limit ≡ 2 ^ 24
  pub words : line ≡ join_with_byte 32 (setup_words s)

-- an empty line, or a comment
abbrev pub is_skipped : List ℕ → Bool
is_skipped [] = true
is_skipped (b ∷ bs) = b == 35

-- what stands before the first space, or the whole line
abbrev pub first_word : List ℕ → List ℕ
first_word line = before_first (λ b. b == 32) line

-- the first words that a line behind the `cluster` line may have
abbrev pub verbs : List (List ℕ)
verbs =
    codes "cluster" ∷ codes "time" ∷ codes "put" ∷ codes "get" ∷ codes "apply" ∷ codes "timeout" ∷ codes "beat" ∷ codes "deliver"
    ∷ codes "pull" ∷ codes "crash" ∷ codes "open" ∷ codes "bytes" ∷ codes "close" ∷ codes "session"
    ∷ codes "work" ∷ codes "up" ∷ codes "down" ∷ codes "pump" ∷ codes "cut" ∷ []

abbrev pub is_verb : List ℕ → Bool
is_verb word = list_any (bytes_eq word) verbs

-- ---- why a line that says no event is refused

-- a word where a bookmark should stand: some bytes, all of ASCII
abbrev pub is_bookmark_word : List ℕ → Bool
is_bookmark_word w = nat_le 1 (length w) && list_all (λ b. nat_lt b 128 && not (b == 32)) w

-- a request, behind whose words bookmarks may stand
abbrev pub MayPresent : Event → Type 0
MayPresent (Put member key value bookmarks) = bookmarks ≡ []
MayPresent (Get member key bookmarks) = bookmarks ≡ []
MayPresent _ = ⊥

-- the line is right but for the words where bookmarks should stand
pub record IsRightBut (line : List ℕ) : Type 0 where
  pub event : Event
  pub words : List (List ℕ)
  pub spellable : Spellable 0 event
  pub presents : MayPresent event
  pub are_words : list_all is_bookmark_word words ≡ true
  pub line_is : line ≡ join_with_byte 32 (words_of event ++ words)

-- its first word is no verb; or it is right but for a bookmark; or it has another form
abbrev pub IsCause : List ℕ → Cause → Type 0
IsCause line UnknownVerb = is_verb (first_word line) ≡ false
IsCause line BadBookmark = IsRightBut line
IsCause line BadLine = (is_verb (first_word line) ≡ true) × (IsRightBut line → ⊥)
IsCause line _ = ⊥

-- in a script of this cluster the line says no event, for this cause
pub record SaysNone (cluster : ℕ) (line : List ℕ) (cause : Cause) : Type 0 where
  pub none : (event : Event) → Says cluster line event → ⊥
  pub cause_is : IsCause line cause

-- How the words of a line are read: one after another, each up to the next space.
use Rattle.std.specs.Prelude.{◌≡◌, ℕ, ◌^◌, ◌<◌, ◌==◌, true, List, [], ◌++◌, codes, Option, None, Some}
use Rattle.std.specs.Borrow.{Bor}
use Rattle.std.specs.List.{All, slice_split, list_all}
use Rattle.ncc_bookmark.specs.Point.{Point, Fits}
use Rattle.ncc_bookmark.specs.Spelling.{text_of}
use Rattle.ncc_world.specs.declared.event.Event.{Event}
use Rattle.ncc_world.specs.declared.event.Job.{Job}
use Rattle.ncc_world.specs.declared.setup.Setup.{Setup}
use Rattle.ncc_world.specs.declared.setup.Kind.TheVariants.{List as IsList}
use Rattle.ncc_world.specs.Events.{AreOf, MayBegin}
use Rattle.ncc_world.specs.Setting.{IsSetup}
use Rattle.ncc_replay.specs.Line.{bookmark_words, is_bookmark_word, hex, MayPresent, Spellable, words_of, job_words, setup_words}
use Rattle.ncc_replay.specs.declared.status.Cause.{Cause}
use Rattle.ncc_replay.specs.declared.status.Cause.TheVariants.{BadLine, BadBookmark}
use Rattle.ncc_replay.specs.declared.line.Verb.{Verb}
use Rattle.ncc_replay.specs.declared.line.Verb.TheVariants.{Cluster, Time, Put, Get, Apply, Timeout, Beat, Deliver, Pull, Crash, Open, Bytes, Close}
use Rattle.ncc_replay.specs.declared.line.Verb.TheVariants.{Session, Work, Up, Down, Pump, Cut}

-- what stands between the spaces of a text, of which there is always some
abbrev pub words_between : List ℕ → List (List ℕ)
words_between text = slice_split (λ b. b == 32) text

-- the words behind a space, or none where no space is left
abbrev pub words_in : Option (Bor (List ℕ)) → List (List ℕ)
words_in None = []
words_in (Some text) = words_between text.now

-- the first words that a line behind the `cluster` line may have
abbrev pub verb_word : Verb → List ℕ
verb_word Cluster = codes "cluster"
verb_word Time = codes "time"
verb_word Put = codes "put"
verb_word Get = codes "get"
verb_word Apply = codes "apply"
verb_word Timeout = codes "timeout"
verb_word Beat = codes "beat"
verb_word Deliver = codes "deliver"
verb_word Pull = codes "pull"
verb_word Crash = codes "crash"
verb_word Open = codes "open"
verb_word Bytes = codes "bytes"
verb_word Close = codes "close"
verb_word Session = codes "session"
verb_word Work = codes "work"
verb_word Up = codes "up"
verb_word Down = codes "down"
verb_word Pump = codes "pump"
verb_word Cut = codes "cut"

-- in a script of this cluster these are the words of this event
abbrev pub AreWords : ℕ → List (List ℕ) → Event → Type 0
AreWords cluster words event = Spellable cluster event × (words ≡ words_of event)

-- these are the words of this work
abbrev pub AreJob : List (List ℕ) → Job → Type 0
AreJob words job = MayBegin job × (words ≡ job_words job)

-- these are the words of a request, and others where bookmarks should stand
pub record AreRightBut (words : List (List ℕ)) : Type 0 where
  pub event : Event
  pub more : List (List ℕ)
  pub spellable : Spellable 0 event
  pub presents : MayPresent event
  pub are_words : list_all is_bookmark_word more ≡ true
  pub words_are : words ≡ words_of event ++ more

abbrev pub IsWordsCause : List (List ℕ) → Cause → Type 0
IsWordsCause words BadBookmark = AreRightBut words
IsWordsCause words BadLine = AreRightBut words → ⊥
IsWordsCause words _ = ⊥

-- these are the words of no event, and the cause says so
pub record AreBad (cluster : ℕ) (words : List (List ℕ)) (cause : Cause) : Type 0 where
  pub none : (event : Event) → AreWords cluster words event → ⊥
  pub cause_is : IsWordsCause words cause

-- the word is that of this bookmark of the cluster
abbrev pub IsBookmark : ℕ → List ℕ → Point → Type 0
IsBookmark cluster word bookmark = Fits bookmark × (bookmark.cluster ≡ cluster) × (word ≡ text_of bookmark)

-- these are the words of these bookmarks
abbrev pub AreBookmarks : ℕ → List (List ℕ) → List Point → Type 0
AreBookmarks cluster words bookmarks = AreOf cluster bookmarks × (words ≡ bookmark_words bookmarks)

abbrev pub IsBookmarksCause : List (List ℕ) → Cause → Type 0
IsBookmarksCause words BadBookmark = list_all is_bookmark_word words ≡ true
IsBookmarksCause words BadLine = list_all is_bookmark_word words ≡ true → ⊥
IsBookmarksCause words _ = ⊥

-- these are the words of no bookmarks, and the cause says so
pub record AreNoBookmarks (cluster : ℕ) (words : List (List ℕ)) (cause : Cause) : Type 0 where
  pub none : (bookmarks : List Point) → AreBookmarks cluster words bookmarks → ⊥
  pub cause_is : IsBookmarksCause words cause

-- the word is that of these bytes
pub record IsHex (word bytes : List ℕ) : Type 0 where
  pub are_bytes : All (λ b. b < 2 ^ 8) bytes
  pub word_is : word ≡ hex bytes

-- these are the words that say this cluster
pub record AreSetup (words : List (List ℕ)) (setup : Setup) : Type 0 where
  pub allowed : IsSetup setup
  pub kind : setup.kind ≡ IsList
  pub limit : setup.limit ≡ 2 ^ 24
  pub words_are : words ≡ setup_words setup

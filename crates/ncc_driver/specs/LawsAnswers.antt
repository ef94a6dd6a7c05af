-- The grammar of answers (Bolt 4.4, "Messages"): what an answer of each request is, as a relation, apart from what is read of it.
use Rattle.std.specs.Prelude.{◌≡◌, ◌↔◌, ℕ, pos, true, List, [], ◌∷◌, ◌++◌, Some, Ok, codes, IsTrue}
use Rattle.std.specs.List.{All}
use Rattle.ncc_pack.specs.declared.value.Value.{Value}
use Rattle.ncc_pack.specs.declared.value.Value.TheVariants as v
use Rattle.ncc_pack.specs.Texts.{texts_alone}
use Rattle.ncc_bolt.specs.Fields.{Pairs}
use Rattle.ncc_bolt.specs.Reading.{response_at}
use Rattle.ncc_bolt.specs.declared.message.Response.{Response}
use Rattle.ncc_bolt.specs.declared.message.Response.TheVariants as s
use Rattle.ncc_driver.specs.declared.standing.Asked.{Asked}
use Rattle.ncc_driver.specs.declared.standing.Asked.TheVariants as a
use Rattle.ncc_driver.specs.declared.link.Item.{Item}
use Rattle.ncc_driver.specs.declared.link.Item.TheVariants.{Shaken, Message}
use Rattle.ncc_driver.specs.declared.answers.Told.TheVariants as says
use Rattle.ncc_driver.specs.Work.{Row, rows_fit}
use Rattle.ncc_driver.specs.Answers.{value_at}
use Rattle.ncc_driver.specs.Session.{told_by}

abbrev pub Has : Pairs → List ℕ → Value → Type 0
Has pairs key value = value_at key pairs ≡ Some value

-- an entry of a table's servers: a text `role`, and a list of texts `addresses`
pub record IsServer (x : Value) : Type 0 where
  pub pairs : Pairs
  pub is : x ≡ v.Dict pairs
  pub role : List ℕ
  pub role_is : Has pairs (codes "role") (v.Text role)
  pub addresses : List Value
  pub addresses_are : Has pairs (codes "addresses") (v.List addresses)
  pub texts : IsTrue (texts_alone addresses)

-- a table: an integer `ttl` of at least 0, and a list `servers` of such entries
pub record IsTable (x : Value) : Type 0 where
  pub pairs : Pairs
  pub is : x ≡ v.Dict pairs
  pub seconds : ℕ
  pub ttl : Has pairs (codes "ttl") (v.Int (pos seconds))
  pub servers : List Value
  pub servers_are : Has pairs (codes "servers") (v.List servers)
  pub each : All IsServer servers

-- The metadata of a SUCCESS answers the request. That of the handshake is no message, so nothing is asked of one.
abbrev pub IsSuccess : Asked → Pairs → Type 0
IsSuccess a.Route meta = (x : Value) × Has meta (codes "rt") x × IsTable x
IsSuccess a.Pull meta = ¬ (Has meta (codes "has_more") (v.Bool true))
IsSuccess a.Commit meta = (bookmark : List ℕ) × Has meta (codes "bookmark") (v.Text bookmark)
IsSuccess _ meta = Unit {0}

-- A RECORD is a part of PULL's answer, where it fits behind the rows before it.
abbrev pub IsRecord : Asked → List Row → Row → Type 0
IsRecord a.Pull rows fields = IsTrue (rows_fit (rows ++ fields ∷ []))
IsRecord _ rows fields = ⊥

-- FAILURE with a text `code` answers every request, and IGNORED none.
abbrev pub IsResponse : Asked → List Row → Response → Type 0
IsResponse asked rows (s.Success meta) = IsSuccess asked meta
IsResponse asked rows (s.Row fields) = IsRecord asked rows fields
IsResponse asked rows s.Ignored = ⊥
IsResponse asked rows (s.Failure meta) = (code : List ℕ) × Has meta (codes "code") (v.Text code)

-- What comes on a link is an answer of the request, behind these rows: the handshake is answered 00 00 04 04, every request by a message
-- that reads as such a response, and none by a message that is too long.
abbrev pub IsAnswer : Asked → List Row → Item → Type 0
IsAnswer asked rows (Message bytes) = (response : Response) × (response_at bytes ≡ Ok response) × IsResponse asked rows response
IsAnswer (a.Shake leg) rows (Shaken bytes) = bytes ≡ 0 ∷ 0 ∷ 4 ∷ 4 ∷ []
IsAnswer _ rows _ = ⊥

-- It is told as bad exactly where it is none.
abbrev pub BadOutsideGrammar : Type 0
BadOutsideGrammar =
    (asked : Asked) (now : ℕ) (rows : List Row) (item : Item)
    → (told_by asked now rows item ≡ says.Bad) ↔ ¬ (IsAnswer asked rows item)

-- It is told as a failure exactly where it is FAILURE with this code.
abbrev pub FailedByCode : Type 0
FailedByCode =
    (asked : Asked) (now : ℕ) (rows : List Row) (bytes code : List ℕ)
    → (told_by asked now rows (Message bytes) ≡ says.Failed code)
    ↔ ((meta : Pairs) × (response_at bytes ≡ Ok (s.Failure meta)) × Has meta (codes "code") (v.Text code))

-- COMMIT is told as done exactly where it is answered SUCCESS with this bookmark.
abbrev pub CommittedByBookmark : Type 0
CommittedByBookmark =
    (now : ℕ) (rows : List Row) (bytes bookmark : List ℕ)
    → (told_by a.Commit now rows (Message bytes) ≡ says.Committed bookmark)
    ↔ ((meta : Pairs) × (response_at bytes ≡ Ok (s.Success meta)) × Has meta (codes "bookmark") (v.Text bookmark))

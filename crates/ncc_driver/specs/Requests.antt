-- The requests of an attempt, one after another (Bolt 4.4, "Handshake" and "Messages").
use Rattle.std.specs.Prelude.{ℕ, negsuc, Bool, if◌then◌else◌, List, [], ◌∷◌, ◌++◌, codes}
use Rattle.ncc_pack.specs.declared.value.Value.{Value}
use Rattle.ncc_pack.specs.declared.value.Value.TheVariants as v
use Rattle.ncc_bolt.specs.Fields.{Pairs}
use Rattle.ncc_bolt.specs.Writing.{short_request}
use Rattle.ncc_bolt.specs.declared.message.Request.{Request}
use Rattle.ncc_bolt.specs.declared.message.Request.TheVariants as r
use Rattle.ncc_chunk.specs.Chunked.{chunked}
use Rattle.ncc_route.specs.declared.auth.Auth.{Auth}
use Rattle.ncc_route.specs.declared.auth.Auth.TheVariants.{Nobody, Basic}
use Rattle.ncc_driver.specs.declared.action.Action.{Action}
use Rattle.ncc_driver.specs.declared.action.Action.TheVariants.{Send, Receive, Close}

-- 60 60 B0 17 and four proposals: 4.4 alone, and three that propose nothing
abbrev pub shake_bytes : List ℕ
shake_bytes = 0x60 ∷ 0x60 ∷ 0xB0 ∷ 0x17 ∷ 0 ∷ 0 ∷ 4 ∷ 4 ∷ 0 ∷ 0 ∷ 0 ∷ 0 ∷ 0 ∷ 0 ∷ 0 ∷ 0 ∷ 0 ∷ 0 ∷ 0 ∷ 0 ∷ []

-- the one answer that goes on
abbrev pub shake_answer : List ℕ
shake_answer = 0 ∷ 0 ∷ 4 ∷ 4 ∷ []

abbrev pub text_at : List ℕ → List ℕ → List ℕ × Value
text_at key text = (key, v.Text text)

-- the address that the link leads to
abbrev pub routing : List ℕ → Pairs
routing address = text_at (codes "address") address ∷ []

abbrev pub credentials : Auth → Pairs
credentials Nobody = []
credentials (Basic user password) =
    text_at (codes "scheme") (codes "basic") ∷ text_at (codes "principal") user ∷ text_at (codes "credentials") password ∷ []

abbrev pub hello : Auth → List ℕ → Request
hello auth address =
    r.Hello (text_at (codes "user_agent") (codes "ncc/1") ∷ credentials auth ++ (codes "routing", v.Dict (routing address)) ∷ [])

abbrev pub route : List ℕ → Request
route address = r.Route (routing address) [] []

abbrev pub mode : Bool → List ℕ
mode writes = if writes then codes "w" else codes "r"

abbrev pub begin : List Value → Bool → Request
begin bookmarks writes = r.Begin ((codes "bookmarks", v.List bookmarks) ∷ text_at (codes "mode") (mode writes) ∷ [])

abbrev pub run : List ℕ → Pairs → Request
run query params = r.Run query params []

-- all rows
abbrev pub pull : Request
pull = r.Pull ((codes "n", v.Int (negsuc 0)) ∷ [])

abbrev pub commit : Request
commit = r.Commit

-- a request in its chunks
abbrev pub sent : Request → Action
sent request = Send (chunked (short_request request))

-- it waits for its answer
abbrev pub asks : Request → List Action
asks request = sent request ∷ Receive ∷ []

abbrev pub shakes : List Action
shakes = Send shake_bytes ∷ Receive ∷ []

-- a link that is there is closed
abbrev pub closes : List Action
closes = sent r.Goodbye ∷ Close ∷ []

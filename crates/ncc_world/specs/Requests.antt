-- The bytes of the clients that `put` and `get` stand for (Bolt 4.4, "Handshake" and "Messages"): a statement that is a transaction by
-- itself, and all its rows.
use Rattle.std.specs.Prelude.{ℕ, negsuc, List, [], ◌∷◌, ◌++◌, codes, map}
use Rattle.ncc_pack.specs.declared.value.Value.{Value}
use Rattle.ncc_pack.specs.declared.value.Value.TheVariants as v
use Rattle.ncc_bolt.specs.Fields.{Pairs}
use Rattle.ncc_bolt.specs.Writing.{short_request}
use Rattle.ncc_bolt.specs.declared.message.Request.{Request}
use Rattle.ncc_bolt.specs.declared.message.Request.TheVariants as r
use Rattle.ncc_bookmark.specs.Point.{Point}
use Rattle.ncc_bookmark.specs.Spelling.{text_of}
use Rattle.ncc_chunk.specs.Chunked.{chunked}

-- 60 60 B0 17 and four proposals: 4.4 alone, and three that propose nothing
abbrev pub shake_bytes : List ℕ
shake_bytes = 0x60 ∷ 0x60 ∷ 0xB0 ∷ 0x17 ∷ 0 ∷ 0 ∷ 4 ∷ 4 ∷ 0 ∷ 0 ∷ 0 ∷ 0 ∷ 0 ∷ 0 ∷ 0 ∷ 0 ∷ 0 ∷ 0 ∷ 0 ∷ 0 ∷ []

abbrev pub put_source : List ℕ
put_source = codes "MERGE (n:Pair {k: $k}) SET n.v = $v"

abbrev pub get_source : List ℕ
get_source = codes "MATCH (n:Pair {k: $k}) RETURN n.v"

abbrev pub text_at : List ℕ → List ℕ → List ℕ × Value
text_at key text = (key, v.Text text)

abbrev pub bookmarks_at : List Point → Pairs
bookmarks_at bookmarks = (codes "bookmarks", v.List (map (λ b. v.Text (text_of b)) bookmarks)) ∷ []

abbrev pub put_request : List ℕ → List ℕ → List Point → Request
put_request key value bookmarks =
    r.Run put_source (text_at (codes "k") key ∷ text_at (codes "v") value ∷ []) (bookmarks_at bookmarks)

abbrev pub get_request : List ℕ → List Point → Request
get_request key bookmarks = r.Run get_source (text_at (codes "k") key ∷ []) (bookmarks_at bookmarks)

-- all rows
abbrev pub pull : Request
pull = r.Pull ((codes "n", v.Int (negsuc 0)) ∷ [])

abbrev pub sent : Request → List ℕ
sent request = chunked (short_request request)

abbrev pub client_bytes : Request → List ℕ
client_bytes request = shake_bytes ++ (sent (r.Hello []) ++ (sent request ++ (sent pull ++ sent r.Goodbye)))

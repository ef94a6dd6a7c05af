-- Which bytes are a message (Bolt 4.4, "Messages"): a case for each, apart from reading and writing. A message is a structure,
-- a marker B0 to BF with the number of fields, a tag, and the fields.
use Rattle.std.specs.Prelude.{ℕ, List, [], ◌∷◌, ◌++◌}
use Rattle.ncc_pack.specs.declared.value.Value.{Value}
use Rattle.ncc_pack.specs.declared.value.Value.TheVariants as v
use Rattle.ncc_pack.specs.Spells.{spells}
use Rattle.ncc_bolt.specs.Fields.{Pairs}
use Rattle.ncc_bolt.specs.Tags.{structure, hello_tag, goodbye_tag, reset_tag, run_tag, begin_tag, commit_tag, rollback_tag}
use Rattle.ncc_bolt.specs.Tags.{discard_tag, pull_tag, route_tag, success_tag, record_tag, ignored_tag, failure_tag}
use Rattle.ncc_bolt.specs.declared.message.Request.{Request}
use Rattle.ncc_bolt.specs.declared.message.Request.TheVariants as r
use Rattle.ncc_bolt.specs.declared.message.Response.{Response}
use Rattle.ncc_bolt.specs.declared.message.Response.TheVariants as s

-- what a client sends
pub data SpellsRequest : Request → List ℕ → Type 0 where
  hello : (extra : Pairs) (e : List ℕ) → spells (v.Dict extra) e → SpellsRequest (r.Hello extra) (structure 1 ∷ hello_tag ∷ e)
  goodbye : SpellsRequest r.Goodbye (structure 0 ∷ goodbye_tag ∷ [])
  reset : SpellsRequest r.Reset (structure 0 ∷ reset_tag ∷ [])
  run : (query : List ℕ) (params extra : Pairs) (q p e : List ℕ)
      → spells (v.Text query) q → spells (v.Dict params) p → spells (v.Dict extra) e
      → SpellsRequest (r.Run query params extra) (structure 3 ∷ run_tag ∷ (q ++ p ++ e))
  begin : (extra : Pairs) (e : List ℕ) → spells (v.Dict extra) e → SpellsRequest (r.Begin extra) (structure 1 ∷ begin_tag ∷ e)
  commit : SpellsRequest r.Commit (structure 0 ∷ commit_tag ∷ [])
  rollback : SpellsRequest r.Rollback (structure 0 ∷ rollback_tag ∷ [])
  discard : (extra : Pairs) (e : List ℕ) → spells (v.Dict extra) e → SpellsRequest (r.Discard extra) (structure 1 ∷ discard_tag ∷ e)
  pull : (extra : Pairs) (e : List ℕ) → spells (v.Dict extra) e → SpellsRequest (r.Pull extra) (structure 1 ∷ pull_tag ∷ e)
  route : (routing : Pairs) (bookmarks : List Value) (extra : Pairs) (g b e : List ℕ)
      → spells (v.Dict routing) g → spells (v.List bookmarks) b → spells (v.Dict extra) e
      → SpellsRequest (r.Route routing bookmarks extra) (structure 3 ∷ route_tag ∷ (g ++ b ++ e))

-- what a server sends
pub data SpellsResponse : Response → List ℕ → Type 0 where
  success : (meta : Pairs) (e : List ℕ) → spells (v.Dict meta) e → SpellsResponse (s.Success meta) (structure 1 ∷ success_tag ∷ e)
  row : (fields : List Value) (e : List ℕ) → spells (v.List fields) e → SpellsResponse (s.Row fields) (structure 1 ∷ record_tag ∷ e)
  ignored : SpellsResponse s.Ignored (structure 0 ∷ ignored_tag ∷ [])
  failure : (meta : Pairs) (e : List ℕ) → spells (v.Dict meta) e → SpellsResponse (s.Failure meta) (structure 1 ∷ failure_tag ∷ e)

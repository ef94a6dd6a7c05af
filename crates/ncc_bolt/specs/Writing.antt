-- The shortest spelling of a message (Bolt 4.4, "Messages"), and which messages have one.
use Rattle.std.specs.Prelude.{◌≡◌, ℕ, Bool, true, ◌&&◌, List, [], ◌∷◌, ◌++◌}
use Rattle.ncc_pack.specs.declared.value.Value.{Value}
use Rattle.ncc_pack.specs.declared.value.Value.TheVariants as v
use Rattle.ncc_pack.specs.Short.{short}
use Rattle.ncc_pack.specs.Fits.{fits}
use Rattle.ncc_bolt.specs.Fields.{Pairs}
use Rattle.ncc_bolt.specs.Messages.{SpellsRequest, SpellsResponse}
use Rattle.ncc_bolt.specs.Tags.{structure, hello_tag, goodbye_tag, reset_tag, run_tag, begin_tag, commit_tag, rollback_tag}
use Rattle.ncc_bolt.specs.Tags.{discard_tag, pull_tag, route_tag, success_tag, record_tag, ignored_tag, failure_tag}
use Rattle.ncc_bolt.specs.declared.message.Request.{Request}
use Rattle.ncc_bolt.specs.declared.message.Request.TheVariants as r
use Rattle.ncc_bolt.specs.declared.message.Response.{Response}
use Rattle.ncc_bolt.specs.declared.message.Response.TheVariants as s

-- each field fits, within the levels of a value
abbrev pub fits_request : Request → Bool
fits_request (r.Hello extra) = fits (v.Dict extra)
fits_request r.Goodbye = true
fits_request r.Reset = true
fits_request (r.Run query params extra) = fits (v.Text query) && fits (v.Dict params) && fits (v.Dict extra)
fits_request (r.Begin extra) = fits (v.Dict extra)
fits_request r.Commit = true
fits_request r.Rollback = true
fits_request (r.Discard extra) = fits (v.Dict extra)
fits_request (r.Pull extra) = fits (v.Dict extra)
fits_request (r.Route routing bookmarks extra) = fits (v.Dict routing) && fits (v.List bookmarks) && fits (v.Dict extra)

abbrev pub fits_response : Response → Bool
fits_response (s.Success meta) = fits (v.Dict meta)
fits_response (s.Row fields) = fits (v.List fields)
fits_response s.Ignored = true
fits_response (s.Failure meta) = fits (v.Dict meta)

-- three fields
abbrev pub three : Value → Value → Value → List ℕ
three x y z = short x ++ short y ++ short z

abbrev pub short_run : List ℕ → Pairs → Pairs → List ℕ
short_run query params extra = structure 3 ∷ run_tag ∷ three (v.Text query) (v.Dict params) (v.Dict extra)

abbrev pub short_route : Pairs → List Value → Pairs → List ℕ
short_route routing bookmarks extra = structure 3 ∷ route_tag ∷ three (v.Dict routing) (v.List bookmarks) (v.Dict extra)

abbrev pub short_request : Request → List ℕ
short_request (r.Hello extra) = structure 1 ∷ hello_tag ∷ short (v.Dict extra)
short_request r.Goodbye = structure 0 ∷ goodbye_tag ∷ []
short_request r.Reset = structure 0 ∷ reset_tag ∷ []
short_request (r.Run query params extra) = short_run query params extra
short_request (r.Begin extra) = structure 1 ∷ begin_tag ∷ short (v.Dict extra)
short_request r.Commit = structure 0 ∷ commit_tag ∷ []
short_request r.Rollback = structure 0 ∷ rollback_tag ∷ []
short_request (r.Discard extra) = structure 1 ∷ discard_tag ∷ short (v.Dict extra)
short_request (r.Pull extra) = structure 1 ∷ pull_tag ∷ short (v.Dict extra)
short_request (r.Route routing bookmarks extra) = short_route routing bookmarks extra

abbrev pub short_response : Response → List ℕ
short_response (s.Success meta) = structure 1 ∷ success_tag ∷ short (v.Dict meta)
short_response (s.Row fields) = structure 1 ∷ record_tag ∷ short (v.List fields)
short_response s.Ignored = structure 0 ∷ ignored_tag ∷ []
short_response (s.Failure meta) = structure 1 ∷ failure_tag ∷ short (v.Dict meta)

-- one list begins another
abbrev pub Begins : List ℕ → List ℕ → Type 0
Begins front whole = (more : List ℕ) × (whole ≡ front ++ more)

-- bytes grew by a spelling of a request, and of a response
abbrev pub RequestSpelled : Request → List ℕ → List ℕ → Type 0
RequestSpelled m old new = (b : List ℕ) × SpellsRequest m b × (new ≡ old ++ b)

abbrev pub ResponseSpelled : Response → List ℕ → List ℕ → Type 0
ResponseSpelled m old new = (b : List ℕ) × SpellsResponse m b × (new ≡ old ++ b)

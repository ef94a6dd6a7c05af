-- The requests that are sent on a link have a spelling, where what they are made of has one.
use Rattle.std.specs.Prelude.{◌≡◌, ◌⊎◌, ◌≤◌, ◌<◌, ℕ, List, [], ◌∷◌, ◌++◌, length, IsTrue}
use Rattle.std.specs.List.{AllByRecursion, list_all}
use Rattle.ncc_pack.specs.declared.value.Value.{Value}
use Rattle.ncc_pack.specs.declared.value.Value.TheVariants as v
use Rattle.ncc_pack.specs.Fits.{fits}
use Rattle.ncc_bolt.specs.Writing.{fits_request}
use Rattle.ncc_bolt.specs.declared.message.Request.{Request}
use Rattle.ncc_route.specs.declared.auth.Auth.{Auth}
use Rattle.ncc_driver.specs.declared.config.SessionConfig.{SessionConfig}
use Rattle.ncc_driver.specs.declared.action.Action.{Action}
use Rattle.ncc_driver.specs.declared.action.Action.TheVariants.{Connect}
use Rattle.ncc_driver.specs.declared.action.Input.{Input}
use Rattle.ncc_driver.specs.declared.action.Input.TheVariants as i
use Rattle.ncc_driver.specs.Config.{auth_fits, texts_fit, config_fits}
use Rattle.ncc_driver.specs.Work.{Row, Job, rows_fit, step_fits}
use Rattle.ncc_driver.specs.Session.{Moved, Begun}
use Rattle.ncc_driver.specs.LawsLegs.{DoneIn, presented_behind, IsPart, routing_leg, working_leg, on_link, sends, opens_none, sent_since}

-- Behind rows that have a spelling the work's step has one.
abbrev pub JobFits : Job → Type 0
JobFits job = (told : List (List Row)) → IsTrue (list_all rows_fit told) → IsTrue (step_fits (job.steps told))

abbrev pub HaveSpelling : List Request → Type 0
HaveSpelling requests = AllByRecursion (λ request. IsTrue (fits_request request)) requests

-- The login, the address, the bookmarks, of which there are at most 256, and the work's steps have a spelling.
pub record AllFit (auth : Auth) (address : List ℕ) (bookmarks : List Value) (job : Job) : Type 0 where
  pub auth_is : IsTrue (auth_fits auth)
  pub address_is : IsTrue (fits (v.Text address))
  pub bookmarks_are : IsTrue (texts_fit bookmarks)
  pub few : length bookmarks ≤ 256
  pub steps_are : JobFits job

-- This was sent on a link, as `IsLeg` says it, and each request has a spelling.
pub record IsFitLeg (auth : Auth) (address : List ℕ) (bookmarks : List Value) (job : Job) (sent : List (List ℕ)) : Type 0 where
  pub requests : List Request
  pub fit : HaveSpelling requests
  pub leg : IsPart requests (routing_leg auth address)
      ⊎ ((told : List (List Row)) × IsPart requests (working_leg auth address bookmarks job told))
  pub sent_is : (sent ≡ []) ⊎ (sent ≡ on_link requests)

-- All that came on links were bytes.
abbrev pub AreBytes : List ℕ → Type 0
AreBytes bytes = AllByRecursion (λ byte. byte < 256) bytes

abbrev pub InputBytes : Input → Type 0
InputBytes (i.Bytes bytes) = AreBytes bytes
InputBytes _ = Unit {0}

abbrev pub ToldBytes : Begun → Type 0
ToldBytes work = AllByRecursion (λ (x : Moved). InputBytes x.0) work.inputs

-- Behind each Connect of a work, and up to any moment before the next one, what was sent is that of such a link.
abbrev pub SendsWhatFits : Type 0
SendsWhatFits =
    (config : SessionConfig) (works : List Begun) (work : Begun) (front : List Action) (address : List ℕ) (leg back : List Action)
    → DoneIn config works work (front ++ Connect address ∷ leg ++ back) → IsTrue (opens_none leg)
    → AllFit config.auth address (presented_behind config works) work.job
    → IsFitLeg config.auth address (presented_behind config works) work.job (sends leg)

-- The same at each moment of a work of what it sent since its last Connect, where the configuration and the work's steps fit, and bytes
-- came: what servers tell by bytes has a spelling.
abbrev pub SendsWhatFitsToBytes : Type 0
SendsWhatFitsToBytes =
    (config : SessionConfig) (works : List Begun) (work : Begun) (front back : List Action) → IsTrue (config_fits config)
    → JobFits work.job → AllByRecursion ToldBytes (works ++ work ∷ []) → DoneIn config works work (front ++ back)
    → (address : List ℕ) × IsFitLeg config.auth address (presented_behind config works) work.job (sent_since [] front)

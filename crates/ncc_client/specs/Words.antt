-- What the words of a client ask for.
use Rattle.std.specs.Prelude.{◌≡◌, ◌⊎◌, ℕ, ◌^◌, ◌<◌, ℤ, Bool, true, false, nat_le, if◌then◌else◌, List, [], ◌∷◌, length, Option, Some, None, IsTrue}
use Rattle.std.specs.Prelude.{codes, decimal, bytes_eq}
use Rattle.std.specs.Fmt.{signed_decimal}
use Rattle.std.specs.List.{list_all}
use Rattle.ncc_pack.specs.declared.value.Value.{Value}
use Rattle.ncc_pack.specs.declared.value.Value.TheVariants as v
use Rattle.ncc_pack.specs.Fits.{fits, fits_i64}
use Rattle.ncc_route.specs.declared.auth.Auth.{Auth}
use Rattle.ncc_route.specs.declared.auth.Auth.TheVariants.{Nobody, Basic}
use Rattle.ncc_driver.specs.declared.config.SessionConfig.{SessionConfig}
use Rattle.ncc_driver.specs.Work.{Job, job_by}
use Rattle.ncc_driver.specs.Works.{add_steps, put_steps, get_steps}
use Rattle.ncc_client.specs.declared.words.Task.{Task}
use Rattle.ncc_client.specs.declared.words.Task.TheVariants as t

-- the word that stands for none
abbrev pub absent : List ℕ
absent = codes "-"

abbrev pub is_absent : List ℕ → Bool
is_absent word = bytes_eq word absent

-- no word may be longer
abbrev pub max_word : ℕ
max_word = 16_777_216

abbrev pub is_short : List ℕ → Bool
is_short word = nat_le (length word) max_word

-- A user and a password are given together.
abbrev pub login_by : Bool → Bool → List ℕ → List ℕ → Option Auth
login_by true true user password = Some Nobody
login_by false false user password = Some (Basic user password)
login_by _ _ user password = None

abbrev pub login_of : List ℕ → List ℕ → Option Auth
login_of user password = login_by (is_absent user) (is_absent password) user password

abbrev pub bookmarks_of : List ℕ → List Value
bookmarks_of word = if is_absent word then [] else v.Text word ∷ []

-- A seed is 0 where it is absent, or else a number of 64 bits in its one decimal spelling.
abbrev pub IsSeed : List ℕ → ℕ → Type 0
IsSeed word seed = ((word ≡ absent) × (seed ≡ 0)) ⊎ ((seed < 2 ^ 64) × (word ≡ decimal seed))

-- a number of 64 bits with a sign, in its one decimal spelling
abbrev pub IsNumber : List ℕ → ℤ → Type 0
IsNumber word number = IsTrue (fits_i64 number) × (word ≡ signed_decimal number)

-- ---- the work

abbrev pub Adds : List ℕ → List ℕ → Job → Type 0
Adds key word job = (number : ℤ) × IsNumber word number × (job ≡ job_by true (add_steps key number))

abbrev pub Puts : List ℕ → List ℕ → Job → Type 0
Puts key value job = job ≡ job_by true (put_steps key value)

abbrev pub Gets : List ℕ → Job → Type 0
Gets key job = job ≡ job_by false (get_steps key)

-- `add KEY N`, `put KEY VALUE` or `get KEY`
abbrev pub IsForm : List (List ℕ) → Job → Type 0
IsForm (verb ∷ key ∷ []) job = (verb ≡ codes "get") × Gets key job
IsForm (verb ∷ key ∷ more ∷ []) job = ((verb ≡ codes "add") × Adds key more job) ⊎ ((verb ≡ codes "put") × Puts key more job)
IsForm _ job = ⊥

-- These words ask for a work in a session of this configuration.
pub record Asks (words : List (List ℕ)) (config : SessionConfig) (job : Job) : Type 0 where
  pub user : List ℕ
  pub password : List ℕ
  pub bookmark : List ℕ
  pub seed : List ℕ
  pub router : List ℕ
  pub form : List (List ℕ)
  pub words_are : words ≡ user ∷ password ∷ bookmark ∷ seed ∷ router ∷ form
  pub are_short : IsTrue (list_all is_short words)
  pub login_is : login_of user password ≡ Some config.auth
  pub bookmarks_are : config.bookmarks ≡ bookmarks_of bookmark
  pub seed_is : IsSeed seed config.seed
  pub routers_are : config.routers ≡ v.Text router ∷ []
  pub form_is : IsForm form job

-- They ask for some work.
abbrev pub AsksSome : List (List ℕ) → Type 0
AsksSome words = (config : SessionConfig) × (job : Job) × Asks words config job

-- ---- a task, which is what words name, read

abbrev pub job_of : Task → Job
job_of (t.Add key by) = job_by true (add_steps key by)
job_of (t.Put key value) = job_by true (put_steps key value)
job_of (t.Get key) = job_by false (get_steps key)

abbrev pub fits_text : List ℕ → Type 0
fits_text text = IsTrue (fits (v.Text text))

-- Its texts have a spelling.
abbrev pub TaskFits : Task → Type 0
TaskFits (t.Add key by) = fits_text key
TaskFits (t.Put key value) = fits_text key × fits_text value
TaskFits (t.Get key) = fits_text key

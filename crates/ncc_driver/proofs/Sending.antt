-- The requests that a session sends have a spelling.
use Rattle.std.proofs.Common.{◌≡◌, ℕ, suc, true, false, Bool, List, [], ◌∷◌, ◌++◌, length, codes, append_assoc, refl, ap, sym, ◌∙◌, arith}
use Rattle.std.proofs.Common.{negsuc, zero}
use Rattle.std.specs.Prelude.{◌≤◌, nat_le, ◌&&◌}
use Rattle.std.proofs.lemmas.Bool.{le-leb}
use Rattle.ncc_pack.specs.declared.value.Value.{Value}
use Rattle.ncc_pack.specs.declared.value.Value.TheVariants as v
use Rattle.ncc_pack.specs.Limits.{max_size}
use Rattle.ncc_pack.specs.Fits.{fits, fits_text, fits_within}
use Rattle.ncc_bolt.specs.Fields.{Pairs}
use Rattle.ncc_bolt.specs.declared.message.Request.{Request}
use Rattle.ncc_bolt.specs.Writing.{fits_request}
use Rattle.ncc_route.specs.declared.auth.Auth.{Auth}
use Rattle.ncc_route.specs.declared.auth.Auth.TheVariants.{Nobody, Basic}
use Rattle.ncc_driver.specs.declared.work.WorkStep.TheVariants.{Run}
use Rattle.ncc_driver.specs.Config.{auth_fits, texts_fit}
use Rattle.ncc_driver.specs.Work.{step_fits}
use Rattle.ncc_driver.specs.Requests.{text_at, routing, credentials, hello, route, mode, begin, run, pull}
use Rattle.ncc_driver.specs.Spelling.{all_fit, text_alone, number_within, list_within, literal, pair_on, text_on, dict_by, none_fits}
use Rattle.ncc_driver.specs.Spelling.{texts_within}

routing_within : (address : List ℕ) (d : ℕ) → fits (v.Text address) ≡ true → fits_within (v.Dict (routing address)) (suc d) ≡ true
routing_within address d h = dict_by (routing address) d refl (text_on (codes "address") address [] d refl (text_alone address h) refl) refl

last_fits : (address : List ℕ) → fits (v.Text address) ≡ true → all_fit ((codes "routing", v.Dict (routing address)) ∷ []) 31 ≡ true
last_fits address h = pair_on (codes "routing") (v.Dict (routing address)) [] 31 refl (routing_within address 30 h) refl

hello_fits : (auth : Auth) (address : List ℕ) → auth_fits auth ≡ true → fits (v.Text address) ≡ true
    → fits_request (hello auth address) ≡ true
hello_fits Nobody address a h =
    let last : Pairs = (codes "routing", v.Dict (routing address)) ∷ [] in
    dict_by (text_at (codes "user_agent") (codes "ncc/1") ∷ last) 31 refl
    (text_on (codes "user_agent") (codes "ncc/1") last 31 refl (literal (codes "ncc/1") refl) (last_fits address h)) refl
hello_fits (Basic user password) address a h =
    let last : Pairs = (codes "routing", v.Dict (routing address)) ∷ [] in
    let u : fits (v.Text user) ≡ true = grind arith in
    let p : fits (v.Text password) ≡ true = grind arith in
    let one = text_on (codes "credentials") password last 31 refl (text_alone password p) (last_fits address h) in
    let two = text_on (codes "principal") user (text_at (codes "credentials") password ∷ last) 31 refl (text_alone user u) one in
    let three = text_on (codes "scheme") (codes "basic") (text_at (codes "principal") user ∷ text_at (codes "credentials") password ∷ last)
    31 refl (literal (codes "basic") refl) two in
    dict_by (text_at (codes "user_agent") (codes "ncc/1") ∷ credentials (Basic user password) ++ last) 31 refl
    (text_on (codes "user_agent") (codes "ncc/1") (credentials (Basic user password) ++ last) 31 refl (literal (codes "ncc/1") refl) three)
    refl

no_list : fits (v.List []) ≡ true
no_list = list_within [] 32 (omega arith)

route_fits : (address : List ℕ) → fits (v.Text address) ≡ true → fits_request (route address) ≡ true
route_fits address h = rw (routing_within address 31 h, no_list, none_fits) refl

mode_text : (writes : Bool) → fits_text (mode writes) ≡ true
mode_text true = literal (codes "w") refl
mode_text false = literal (codes "r") refl

begin_fits : (bookmarks : List Value) (writes : Bool) → texts_fit bookmarks ≡ true → length bookmarks ≤ max_size
    → fits_request (begin bookmarks writes) ≡ true
begin_fits bookmarks writes h few =
    let all : fits_within (v.List bookmarks) 31 ≡ true =
    list_within bookmarks 31 (omega arith) ∙ rw (le-leb (length bookmarks) max_size few, texts_within bookmarks 30 h) refl in
    let last = text_on (codes "mode") (mode writes) [] 31 refl (mode_text writes) refl in
    dict_by ((codes "bookmarks", v.List bookmarks) ∷ text_at (codes "mode") (mode writes) ∷ []) 31 refl
    (pair_on (codes "bookmarks") (v.List bookmarks) (text_at (codes "mode") (mode writes) ∷ []) 31 refl all last) refl

pull_fits : fits_request pull ≡ true
pull_fits =
    dict_by ((codes "n", v.Int (negsuc zero)) ∷ []) 31 refl
    (pair_on (codes "n") (v.Int (negsuc zero)) [] 31 refl (number_within (negsuc zero) 31 refl) refl) refl

run_fits : (query : List ℕ) (params : List (List ℕ × Value)) → (fits (v.Text query) && fits (v.Dict params)) ≡ true
    → (fits (v.Text query) && fits (v.Dict params) && fits (v.Dict [])) ≡ true
run_fits query params h = rw none_fits (grind arith)

-- ---- credentials, one behind the other

three_behind : (pairs one two three : Pairs) (x y z : List ℕ × Value) → one ≡ pairs ++ x ∷ [] → two ≡ one ++ y ∷ [] → three ≡ two ++ z ∷ []
    → three ≡ pairs ++ x ∷ y ∷ z ∷ []
three_behind pairs one two three x y z e f g =
    g ∙ ap (λ (t : Pairs). t ++ z ∷ []) f ∙ append_assoc one (y ∷ []) (z ∷ []) ∙ ap (λ (t : Pairs). t ++ y ∷ z ∷ []) e
    ∙ append_assoc pairs (x ∷ []) (y ∷ z ∷ [])

pub credentials_on : (auth : Auth) (user password u p : List ℕ) (pairs one two three : Pairs) → auth ≡ Basic user password → u ≡ user
    → p ≡ password → one ≡ pairs ++ text_at (codes "scheme") (codes "basic") ∷ [] → two ≡ one ++ text_at (codes "principal") u ∷ []
    → three ≡ two ++ text_at (codes "credentials") p ∷ [] → three ≡ pairs ++ credentials auth
credentials_on auth user password u p pairs one two three a us ps e f g =
    three_behind pairs one two three _ _ _ e (f ∙ ap (λ (t : List ℕ). one ++ text_at (codes "principal") t ∷ []) us)
    (g ∙ ap (λ (t : List ℕ). two ++ text_at (codes "credentials") t ∷ []) ps)
    ∙ ap (λ (x : Auth). pairs ++ credentials x) (sym a)

-- ---- the same of what was made

pub hello_sent : (request : Request) (auth : Auth) (address : List ℕ) → request ≡ hello auth address → auth_fits auth ≡ true
    → fits (v.Text address) ≡ true → fits_request request ≡ true
hello_sent request auth address e h f = ap fits_request e ∙ hello_fits auth address h f

pub route_sent : (request : Request) (address : List ℕ) → request ≡ route address → fits (v.Text address) ≡ true
    → fits_request request ≡ true
route_sent request address e h = ap fits_request e ∙ route_fits address h

pub begin_sent : (request : Request) (bookmarks : List Value) (writes : Bool) → request ≡ begin bookmarks writes
    → texts_fit bookmarks ≡ true
    → nat_le (length bookmarks) 256 ≡ true → fits_request request ≡ true
begin_sent request bookmarks writes e h f =
    let few : length bookmarks ≤ 256 = grind arith in
    ap fits_request e ∙ begin_fits bookmarks writes h (omega arith)

pub pull_sent : (request : Request) → request ≡ pull → fits_request request ≡ true
pull_sent request e = ap fits_request e ∙ pull_fits

pub run_sent : (request : Request) (query : List ℕ) (params : Pairs) → request ≡ run query params → step_fits (Run query params) ≡ true
    → fits_request request ≡ true
run_sent request query params e h = ap fits_request e ∙ run_fits query params h

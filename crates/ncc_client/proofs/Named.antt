-- Words, by what they name.
use Rattle.std.proofs.Common.{◌≡◌, ◌⊎◌, ℕ, suc, ℤ, ◌<◌, ◌≤◌, Bool, true, false, List, [], ◌∷◌, length, Some, inl, inr, IsTrue, codes, not, ◌&&◌, ◌==◌, nat_le, if◌then◌else◌}
use Rattle.std.proofs.Common.{refl, sym, ap, ◌∙◌, subst, arith, slice_index_or, get_or}
use Rattle.ncc_pack.specs.declared.value.Value.{Value}
use Rattle.ncc_pack.specs.declared.value.Value.TheVariants as v
use Rattle.std.specs.Str.{is_utf8}
use Rattle.ncc_pack.specs.Fits.{fits}
use Rattle.ncc_pack.proofs.Single.{fits_of_text}
use Rattle.ncc_route.specs.declared.auth.Auth.{Auth}
use Rattle.ncc_driver.specs.declared.config.SessionConfig.{SessionConfig}
use Rattle.ncc_driver.specs.Config.{text_has_spelling, texts_fit, auth_fits, config_fits}
use Rattle.ncc_driver.specs.Work.{Job, job_by}
use Rattle.ncc_driver.specs.Works.{add_steps}
use Rattle.ncc_client.specs.Words.{IsNumber, Adds, is_absent, login_by, login_of, bookmarks_of, fits_text}

pub two_are : (xs : List (List ℕ)) (a b : List ℕ) → 2 ≤ length xs → length xs < 3 → a ≡ slice_index_or xs 0 a → b ≡ slice_index_or xs 1 b
    → xs ≡ a ∷ b ∷ []
two_are [] a b h k e f = absurd (let x : 2 ≤ 0 = h in omega arith)
two_are (x ∷ []) a b h k e f = absurd (let x : 2 ≤ 1 = h in omega arith)
two_are (x ∷ y ∷ []) a b h k e f = ap (λ (l : List ℕ). l ∷ y ∷ []) (sym e) ∙ ap (λ (l : List ℕ). a ∷ l ∷ []) (sym f)
two_are (x ∷ y ∷ z ∷ zs) a b h k e f = absurd (let x : suc (suc (suc (length zs))) < 3 = k in omega arith)

pub three_are : (xs : List (List ℕ)) (a b d : List ℕ) → 3 ≤ length xs → length xs < 4 → a ≡ slice_index_or xs 0 a
    → b ≡ slice_index_or xs 1 b → d ≡ slice_index_or xs 2 d → xs ≡ a ∷ b ∷ d ∷ []
three_are [] a b d h k e f g = absurd (let x : 3 ≤ 0 = h in omega arith)
three_are (x ∷ []) a b d h k e f g = absurd (let x : 3 ≤ 1 = h in omega arith)
three_are (x ∷ y ∷ []) a b d h k e f g = absurd (let x : 3 ≤ 2 = h in omega arith)
three_are (x ∷ y ∷ z ∷ []) a b d h k e f g =
    ap (λ (l : List ℕ). l ∷ y ∷ z ∷ []) (sym e) ∙ ap (λ (l : List ℕ). a ∷ l ∷ z ∷ []) (sym f) ∙ ap (λ (l : List ℕ). a ∷ b ∷ l ∷ []) (sym g)
three_are (x ∷ y ∷ z ∷ u ∷ us) a b d h k e f g = absurd (let x : suc (suc (suc (suc (length us)))) < 4 = k in omega arith)

pub adds_some : (key word : List ℕ) (by : ℤ) → IsNumber word by → (job : Job) × Adds key word job
adds_some key word by h = (job_by true (add_steps key by), (by, h, refl))

apart : (a b : ℕ) → a < b → a ≡ b → ⊥
apart a b h e = omega arith

pub not_both : (verb : List ℕ) (A B : Type 0) → verb ≡ codes "add" → (A → ⊥)
    → ((verb ≡ codes "add") × A) ⊎ ((verb ≡ codes "put") × B) → ⊥
not_both verb A B e f (inl k) = f k.1
not_both verb A B e f (inr k) = apart 97 112 (omega arith) (ap (λ (l : List ℕ). get_or l 0 0) (sym e ∙ k.0))

-- ---- a configuration

some_is : {A : Type 0} {x y : A} → Some x ≡ Some y → x ≡ y
some_is e = cc

all_five : (p q r s t : Bool) → p ≡ true → q ≡ true → r ≡ true → s ≡ true → t ≡ true → (p && q && r && s && t) ≡ true
all_five p q r s t a b d e f = grind (arith, a, b, d, e, f)

has_word : (word : List ℕ) → IsTrue (fits (v.Text word)) → text_has_spelling (v.Text word) ≡ true
unfolding text_has_spelling
has_word word h = h

bookmarks_fit : (word : List ℕ) (none : Bool) → IsTrue (fits (v.Text word))
    → (texts_fit (if none then [] else v.Text word ∷ []) ≡ true) × (nat_le (length (if none then [] else v.Text word ∷ [])) 256 ≡ true)
bookmarks_fit word true h = (refl, refl)
bookmarks_fit word false h = (ap (λ (b : Bool). b && true) (has_word word h), refl)

login_fits : (a b : Bool) (user password : List ℕ) (auth : Auth) → IsTrue (fits (v.Text user)) → IsTrue (fits (v.Text password))
    → login_by a b user password ≡ Some auth → auth_fits auth ≡ true
login_fits true true user password auth h k e = subst (λ (x : Auth). auth_fits x ≡ true) (some_is e) refl
login_fits false false user password auth h k e =
    subst (λ (x : Auth). auth_fits x ≡ true) (some_is e)
    (ap (λ (b : Bool). b && fits (v.Text password)) h ∙ k)
login_fits true false user password auth h k e = absurd (cc)
login_fits false true user password auth h k e = absurd (cc)

pub config_good : (config : SessionConfig) (user password bookmark router : List ℕ) → fits_text user → fits_text password
    → fits_text bookmark → fits_text router → login_of user password ≡ Some config.auth → config.bookmarks ≡ bookmarks_of bookmark
    → config.routers ≡ v.Text router ∷ [] → IsTrue (config_fits config)
config_good config user password bookmark router hu hp hb hr a b r =
    let f = bookmarks_fit bookmark (is_absent bookmark) hb in
    let g : texts_fit (v.Text router ∷ []) ≡ true = ap (λ (x : Bool). x && true) (has_word router hr) in
    (all_five _ _ _ _ _ (ap (λ (l : List Value). not (length l == 0)) r)
    (ap (λ (l : List Value). nat_le (length l) 256) b ∙ f.1) (ap texts_fit r ∙ g) (ap texts_fit b ∙ f.0)
    (login_fits (is_absent user) (is_absent password) user password config.auth hu hp a))

-- a text that is not too long
pub short_fits : (t : List ℕ) → is_utf8 t ≡ true → nat_le (length t) 16_777_216 ≡ true → IsTrue (fits (v.Text t))
short_fits t u h = fits_of_text t ∙ ap (λ (b : Bool). b && is_utf8 t) h ∙ u

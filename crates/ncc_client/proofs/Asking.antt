-- Words that ask for a work, from their parts.
use Rattle.std.proofs.Common.{◌≡◌, ℕ, suc, ◌-◌, ◌≤◌, Bool, true, false, List, [], ◌∷◌, length, take, drop, Some, IsTrue}
use Rattle.std.proofs.Common.{refl, sym, ap, ◌∙◌, subst, arith, slice_index_or, get_or}
use Rattle.std.specs.List.{list_all, All}
use Rattle.ncc_pack.specs.declared.value.Value.TheVariants as v
use Rattle.ncc_route.specs.declared.auth.Auth.{Auth}
use Rattle.ncc_route.specs.declared.auth.Auth.TheVariants.{Nobody, Basic}
use Rattle.ncc_driver.specs.declared.config.SessionConfig.{SessionConfig}
use Rattle.ncc_driver.specs.Work.{Job}
use Rattle.ncc_client.specs.Words.{Asks, AsksSome, IsForm, IsSeed, is_absent, is_short, login_by, bookmarks_of, fits_text}

abbrev pub Words : Type 0
Words = List (List ℕ)

all_of : (xs : Words) → take (length xs) xs ≡ xs
all_of [] = refl
all_of (x ∷ xs) = ap (λ (l : Words). x ∷ l) (all_of xs)

abbrev pub behind : Words → Words
behind xs = take (length xs - 5) (drop 5 xs)

five_less : (n : ℕ) → suc (suc (suc (suc (suc n)))) - 5 ≡ n
five_less n = omega arith

joined : (a c d e f u p b s r : List ℕ) (rest : Words) → u ≡ a → p ≡ c → b ≡ d → s ≡ e → r ≡ f
    → a ∷ c ∷ d ∷ e ∷ f ∷ rest ≡ u ∷ p ∷ b ∷ s ∷ r ∷ rest
joined a c d e f u p b s r rest hu hp hb hs hr =
    ap (λ (x : List ℕ). x ∷ c ∷ d ∷ e ∷ f ∷ rest) (sym hu) ∙ ap (λ (x : List ℕ). u ∷ x ∷ d ∷ e ∷ f ∷ rest) (sym hp)
    ∙ ap (λ (x : List ℕ). u ∷ p ∷ x ∷ e ∷ f ∷ rest) (sym hb) ∙ ap (λ (x : List ℕ). u ∷ p ∷ b ∷ x ∷ f ∷ rest) (sym hs)
    ∙ ap (λ (x : List ℕ). u ∷ p ∷ b ∷ s ∷ x ∷ rest) (sym hr)

pub five_are : (xs : Words) (u p b s r : List ℕ) → 5 ≤ length xs → u ≡ slice_index_or xs 0 u → p ≡ slice_index_or xs 1 p
    → b ≡ slice_index_or xs 2 b → s ≡ slice_index_or xs 3 s → r ≡ slice_index_or xs 4 r
    → xs ≡ u ∷ p ∷ b ∷ s ∷ r ∷ behind xs
five_are [] u p b s r h a c d e f = absurd (let x : 5 ≤ 0 = h in omega arith)
five_are (x1 ∷ []) u p b s r h a c d e f = absurd (let x : 5 ≤ 1 = h in omega arith)
five_are (x1 ∷ x2 ∷ []) u p b s r h a c d e f = absurd (let x : 5 ≤ 2 = h in omega arith)
five_are (x1 ∷ x2 ∷ x3 ∷ []) u p b s r h a c d e f = absurd (let x : 5 ≤ 3 = h in omega arith)
five_are (x1 ∷ x2 ∷ x3 ∷ x4 ∷ []) u p b s r h a c d e f = absurd (let x : 5 ≤ 4 = h in omega arith)
five_are (x1 ∷ x2 ∷ x3 ∷ x4 ∷ x5 ∷ xs) u p b s r h a c d e f =
    ap (λ (l : Words). x1 ∷ x2 ∷ x3 ∷ x4 ∷ x5 ∷ l) (sym (all_of xs))
    ∙ joined x1 x2 x3 x4 x5 u p b s r (take (length xs) xs) a c d e f
    ∙ ap (λ (n : ℕ). u ∷ p ∷ b ∷ s ∷ r ∷ take n xs) (sym (five_less (length xs)))

form_all : (u p b s r : List ℕ) (form : Words) → All fits_text (u ∷ p ∷ b ∷ s ∷ r ∷ form) → All fits_text form
form_all u p b s r form h = λ k d l. h (suc (suc (suc (suc (suc k))))) d (omega (arith, l))

pub form_fits : (xs : Words) (u p b s r : List ℕ) (form : Words) → xs ≡ u ∷ p ∷ b ∷ s ∷ r ∷ form → All fits_text xs → All fits_text form
form_fits xs u p b s r form e h = form_all u p b s r form (subst (λ (l : Words). All fits_text l) e h)

login_some : (a b : Bool) (user password : List ℕ) → a ≡ b → (auth : Auth) × (login_by a b user password ≡ Some auth)
login_some true true user password e = (Nobody, refl)
login_some false false user password e = (Basic user password, refl)
login_some true false user password e = absurd (cc)
login_some false true user password e = absurd (cc)

pub asks_some : (words xs : Words) (u p b s r : List ℕ) (form : Words) (n : ℕ) (job : Job) → xs ≡ words → xs ≡ u ∷ p ∷ b ∷ s ∷ r ∷ form
    → IsTrue (list_all is_short words) → is_absent u ≡ is_absent p → IsSeed s n → IsForm form job → AsksSome words
asks_some words xs u p b s r form n job same e short both seed form_is =
    let auth = login_some (is_absent u) (is_absent p) u p both in (
      record { routers = v.Text r ∷ []; auth = auth.0; seed = n; bookmarks = bookmarks_of b },
      job,
      record {
        user = u;
        password = p;
        bookmark = b;
        seed = s;
        router = r;
        form = form;
        words_are = sym same ∙ e;
        are_short = short;
        login_is = auth.1;
        bookmarks_are = refl;
        seed_is = seed;
        routers_are = refl;
        form_is = form_is;
      },
    )

pub bad_seed : (words xs : Words) (u p b s r : List ℕ) (form : Words) → xs ≡ words → xs ≡ u ∷ p ∷ b ∷ s ∷ r ∷ form
    → ((n : ℕ) → IsSeed s n → ⊥) → (config : SessionConfig) (job : Job) → Asks words config job → ⊥
bad_seed words xs u p b s r form same e none config job a =
    none config.seed (subst (λ (w : List ℕ). IsSeed w config.seed)
    (ap (λ (l : Words). get_or l 3 []) (sym a.words_are ∙ sym same ∙ e)) a.seed_is)

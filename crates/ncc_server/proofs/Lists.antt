-- What is appended to lists that may be told.
use Rattle.std.proofs.Common.{◌≡◌, ℕ, ◌+◌, Option, Some, None, Result, Ok, Err, OnOk, IfErr, List, [], ◌∷◌, ◌++◌, length, take, map}
use Rattle.std.proofs.Common.{subst, refl, sym, ap, ◌∙◌, append_assoc, append-nil}
use Rattle.ncc_base.specs.Clock.{Tells}
use Rattle.std.specs.Io.KnownBytes.{Appends, Consumes}
use Rattle.std.proofs.KnownBytes.{Consumes-nil}
use Rattle.ncc_server.specs.declared.end.ConnEnd.{ConnEnd}
use Rattle.ncc_server.specs.declared.end.ConnEnd.TheVariants as end
use Rattle.ncc_server.specs.Live.{IsOver}
use Rattle.std.proofs.lemmas.List.{map-append}
use Rattle.ncc_session.specs.Question.{Question, Output, wrote, asked, bytes_of, questions_of}
use Rattle.ncc_server.specs.Answered.{Answer, TellsMore, facts_of, questions_in, deadlines_in}

pub ok_on : {A E : Type 0} (P Q : Type 0) (r : Result A E) → OnOk r P → (P → Q) → OnOk r Q
ok_on P Q (Ok x) h f = f h
ok_on P Q (Err e) h f = h

pub err_on : {A E : Type 0} (P Q : E → Type 0) (r : Result A E) → IfErr r P → ((e : E) → P e → Q e) → IfErr r Q
err_on P Q (Ok x) h f = h
err_on P Q (Err e) h f = f e h

take_all : (xs : List ℕ) → take (length xs) xs ≡ xs
take_all [] = refl
take_all (x ∷ xs) = ap (λ (l : List ℕ). x ∷ l) (take_all xs)

-- all was taken, and what is held stayed
pub took_all : (a b d : Option (List ℕ)) (bytes : List ℕ) → Appends a b bytes → d ≡ b → (n : ℕ) × Appends a d (take n bytes)
took_all a b d bytes h e = (
  length bytes,
  subst (λ (x : Option (List ℕ)). Appends a x (take (length bytes) bytes)) (sym e) (subst (Appends a b) (sym (take_all
      bytes)) h),
)

-- nothing was read where the same is left
pub consumes_none : (a b : Option (List ℕ)) → b ≡ a → Consumes a b []
consumes_none a b e = subst (λ (x : Option (List ℕ)). Consumes a x []) (sym e) (Consumes-nil a)

-- no other end comes where the bytes end
pub not_read : (e : ConnEnd) → IsOver e → e ≡ end.ReadFault → ⊥
not_read e h i = subst IsOver i h

pub not_write : (e : ConnEnd) → IsOver e → e ≡ end.WriteFault → ⊥
not_write e h i = subst IsOver i h

pub not_backend : (e : ConnEnd) → IsOver e → e ≡ end.BackendFault → ⊥
not_backend e h i = subst IsOver i h

-- and of a clock
pub clock_none : (a : Option (List ℕ)) → Tells a a []
clock_none None = tt
clock_none (Some x) = sym (append-nil x)

pub clock_on : (a b c : Option (List ℕ)) (xs ys : List ℕ) → Tells a b xs → Tells b c ys → Tells a c (xs ++ ys)
clock_on a b None xs ys p q = tt
clock_on a None (Some z) xs ys p q = absurd q
clock_on None (Some y) (Some z) xs ys p q = absurd p
clock_on (Some x) (Some y) (Some z) xs ys p q = q ∙ ap (λ (l : List ℕ). l ++ ys) p ∙ append_assoc x xs ys

pub tells_none : (a : Option (List Answer)) → TellsMore a a []
tells_none None = tt
tells_none (Some x) = sym (append-nil x)

pub tells_on : (a b c : Option (List Answer)) (xs ys : List Answer) → TellsMore a b xs → TellsMore b c ys → TellsMore a c (xs ++ ys)
tells_on None b c xs ys p q = tt
tells_on (Some x) None c xs ys p q = absurd p
tells_on (Some x) (Some y) None xs ys p q = absurd q
tells_on (Some x) (Some y) (Some z) xs ys p q = q ∙ ap (λ l. l ++ ys) p ∙ append_assoc x xs ys

pub facts_join : (xs ys : List Answer) → facts_of (xs ++ ys) ≡ facts_of xs ++ facts_of ys
facts_join xs ys = map-append (λ (a : Answer). a.fact) xs ys

pub questions_more : (xs ys : List Answer) → questions_in (xs ++ ys) ≡ questions_in xs ++ questions_in ys
questions_more xs ys = map-append (λ (a : Answer). a.question) xs ys

pub deadlines_more : (xs ys : List Answer) → deadlines_in (xs ++ ys) ≡ deadlines_in xs ++ deadlines_in ys
deadlines_more xs ys = map-append (λ (a : Answer). a.deadline) xs ys

pub moments_more : (wait : ℕ) (xs ys : List ℕ) → map (λ now. now + wait) (xs ++ ys) ≡ map (λ now. now + wait) xs ++ map (λ now. now +
    wait) ys
moments_more wait xs ys = map-append (λ now. now + wait) xs ys

pub questions_join : (a b : List Output) → questions_of (a ++ b) ≡ questions_of a ++ questions_of b
questions_join [] b = refl
questions_join (wrote bytes ∷ a) b = questions_join a b
questions_join (asked q ∷ a) b = ap (λ (qs : List Question). q ∷ qs) (questions_join a b)

pub bytes_join : (a b : List Output) → bytes_of (a ++ b) ≡ bytes_of a ++ bytes_of b
bytes_join [] b = refl
bytes_join (wrote bytes ∷ a) b = ap (λ (x : List ℕ). bytes ++ x) (bytes_join a b) ∙ sym (append_assoc bytes (bytes_of a) (bytes_of b))
bytes_join (asked q ∷ a) b = bytes_join a b

-- Only a word stands for a name, and for itself.
use Rattle.std.proofs.Common.{◌≡◌, ℕ, ℤ, Bool, true, false, cond, List, Option, Some, None, ◌∙◌}
use Rattle.ncc_cypher.specs.declared.token.Token.{Token}
use Rattle.ncc_cypher.specs.declared.token.Token.TheVariants as t
use Rattle.ncc_cypher.specs.Token.{keyword, or_name, sign_of, as_int}

keyword_or : (b : Bool) (y : Token) (o : Option Token) (n : List ℕ) → (Some y ≡ Some (t.Name n) → ⊥) → (o ≡ Some (t.Name n) → ⊥) → cond b (Some y) o ≡ Some (t.Name n) → ⊥
keyword_or true y o n f g e = f e
keyword_or false y o n f g e = g e

no_option : (n : List ℕ) → None ≡ Some (t.Name n) → ⊥
no_option n e = cc

pub no_keyword : (w n : List ℕ) → keyword w ≡ Some (t.Name n) → ⊥
unfolding keyword
no_keyword w n e =
    keyword_or _ t.Create _ n (λ z. cc)
    (keyword_or _ t.Match _ n (λ z. cc)
    (keyword_or _ t.Merge _ n (λ z. cc) (keyword_or _ t.Set _ n (λ z. cc) (keyword_or _ t.Delete _ n (λ z. cc) (keyword_or _ t.Return _ n (λ z. cc) (keyword_or _ t.As _ n (λ z. cc) (keyword_or _ t.True _ n (λ z. cc) (keyword_or _ t.False _ n (λ z. cc) (keyword_or _ t.Null _ n (λ z. cc) (no_option n))))))))))
    e

pub no_sign : (b : ℕ) (n : List ℕ) → sign_of b ≡ Some (t.Name n) → ⊥
unfolding sign_of
no_sign b n e =
    keyword_or _ t.Open _ n (λ z. cc)
    (keyword_or _ t.Close _ n (λ z. cc)
    (keyword_or _ t.LeftBrace _ n (λ z. cc) (keyword_or _ t.RightBrace _ n (λ z. cc) (keyword_or _ t.Colon _ n (λ z. cc) (keyword_or _ t.Comma _ n (λ z. cc) (keyword_or _ t.Dot _ n (λ z. cc) (keyword_or _ t.Equals _ n (λ z. cc) (keyword_or _ t.Plus _ n (λ z. cc) (keyword_or _ t.Dollar _ n (λ z. cc) (keyword_or _ t.Semicolon _ n (λ z. cc) (no_option n)))))))))))
    e

pub no_int : (o : Option ℤ) (n : List ℕ) → as_int o ≡ Some (t.Name n) → ⊥
no_int None n e = cc
no_int (Some i) n e = cc

pub same_word : (w n : List ℕ) (o : Option Token) → keyword w ≡ o → Some (or_name w o) ≡ Some (t.Name n) → w ≡ n
same_word w n None e f = cc
same_word w n (Some y) e f = absurd (no_keyword w n (e ∙ f))

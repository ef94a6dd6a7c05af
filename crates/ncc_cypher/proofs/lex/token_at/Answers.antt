use Rattle.std.proofs.Common.{◌≡◌, refl, sym, ap, ◌∙◌, Some, None, List, ℕ, arith, get_or}
use Rattle.ncc_cypher.specs.declared.class.Class.TheVariants.{Sign, Blank, Other}
use Rattle.ncc_cypher.specs.Class.{class}
use Rattle.ncc_cypher.specs.Token.{sign_of}
use Rattle.ncc_cypher.proofs.Tokens_read.{sign_gives, sign_is, none_given, at_end}
use Rattle.ncc_cypher.proofs.lex.token_at.Goals as goal

pub returns-then-is_empty-clause-token : goal.returns-then-is_empty-clause-token
returns-then-is_empty-clause-token c = sym (at_end c.args.text.now (grind arith))

pub past-requires-clause-ascii : goal.past-requires-clause-ascii
past-requires-clause-ascii c =
    let k : class (get_or c.args.text.now 0 0) ≡ Sign = cc in
    sign_is _ k

pub returns-in-Some-clause-token : goal.returns-in-Some-clause-token
returns-in-Some-clause-token c =
    let k : class (get_or c.args.text.now 0 0) ≡ Sign = cc in
    let o : Some c.in-Some.token ≡ sign_of (get_or c.args.text.now 0 0) = c.in-Some.ensures ∙ ap (λ (z : List ℕ). sign_of (get_or z 0 0)) c.as_bytes-bytes.ensures.value in
    sym (sign_gives c.args.text.now (get_or c.args.text.now 0 0) (Some c.in-Some.token) (grind arith) refl k o ∙ ap (λ (z : List ℕ). Some (c.in-Some.token, z)) (sym c.past.ensures))

pub returns-in-None-clause-token : goal.returns-in-None-clause-token
returns-in-None-clause-token c =
    let k : class (get_or c.args.text.now 0 0) ≡ Sign = cc in
    let o : None ≡ sign_of (get_or c.args.text.now 0 0) = c.in-None.ensures ∙ ap (λ (z : List ℕ). sign_of (get_or z 0 0)) c.as_bytes-bytes.ensures.value in
    sym (sign_gives c.args.text.now (get_or c.args.text.now 0 0) None (grind arith) refl k o)

pub returns-in-Blank-clause-token : goal.returns-in-Blank-clause-token
returns-in-Blank-clause-token c =
    let k : class (get_or c.args.text.now 0 0) ≡ Blank = cc in
    sym (none_given c.args.text.now (get_or c.args.text.now 0 0) Blank (grind arith) refl k refl)

pub returns-in-Other-clause-token : goal.returns-in-Other-clause-token
returns-in-Other-clause-token c =
    let k : class (get_or c.args.text.now 0 0) ≡ Other = cc in
    sym (none_given c.args.text.now (get_or c.args.text.now 0 0) Other (grind arith) refl k refl)

-- What is written of one answer.
use Rattle.std.proofs.Common.{◌≡◌, ◌<◌, ℕ, ◌+◌, Bool, true, false, ◌||◌, List, [], ◌∷◌, ◌++◌, zero, suc, length, map, drop, get_or, ap, sym, ◌∙◌, append-nil, refl, arith}
use Rattle.ncc_bolt.specs.Writing.{short_response}
use Rattle.ncc_cypher.specs.Writing.{writes}
use Rattle.std.specs.Prelude.{slice_get, Some}
use Rattle.ncc_store.specs.declared.step.Step.{Step}
use Rattle.ncc_store.specs.Exec.{call_of}
use Rattle.ncc_store.proofs.Running.{next_is}
use Rattle.ncc_session.specs.Question.{call_writes, some_writes, statement_of}
use Rattle.ncc_session.specs.Replies.{kind_of}
use Rattle.ncc_session.specs.Turns.{kind_in}
use Rattle.ncc_bolt.specs.declared.message.Response.{Response}
use Rattle.ncc_bolt.specs.declared.message.Response.TheVariants as s

-- an answer has a byte at least
pub answer_some : (r : Response) → 0 < length (short_response r)
answer_some (s.Success meta) = omega arith
answer_some (s.Row fields) = omega arith
answer_some s.Ignored = omega arith
answer_some (s.Failure meta) = omega arith

-- the bytes of one output are its bytes
pub one_output : (o b : List ℕ) → o ++ (b ++ []) ≡ o ++ b
one_output o b = ap (λ (v : List ℕ). o ++ v) (append-nil b)

-- a step's statement is that of its source
pub writes_of : (s : Step) → writes s.statement ≡ call_writes (call_of s)
writes_of s = rw (s.reads, call_writes) refl

-- some step writes: by the next, or by those behind it
module _ (xs : List Step) (i : ℕ) (x : Step) (lt : i < length xs) (is : x ≡ get_or xs i x)
    (so_far : some_writes (map call_of (drop i xs)) ≡ some_writes (map call_of xs)) where
  opened : (call_writes (call_of x) || some_writes (map call_of (drop (i + 1) xs))) ≡ some_writes (map call_of xs)
  opened = sym (ap (λ (ys : List Step). some_writes (map call_of ys)) (next_is xs i x lt is)) ∙ so_far

  pub writes_behind : call_writes (call_of x) ≡ false → some_writes (map call_of (drop (i + 1) xs)) ≡ some_writes (map call_of xs)
  writes_behind e = sym (ap (λ (b : Bool). b || some_writes (map call_of (drop (i + 1) xs))) e) ∙ opened

  pub writes_here : call_writes (call_of x) ≡ true → true ≡ some_writes (map call_of xs)
  writes_here e = sym (ap (λ (b : Bool). b || some_writes (map call_of (drop (i + 1) xs))) e) ∙ opened

-- the call of a step, and its kind
call_at : (xs : List Step) (i : ℕ) (x : Step) → i < length xs → x ≡ get_or xs i x → slice_get (map call_of xs) i ≡ Some (call_of x)
call_at [] i x lt is = absurd (omega arith)
call_at (y ∷ ys) zero x lt is = ap (λ (s : Step). Some (call_of s)) (sym is)
call_at (y ∷ ys) (suc i) x lt is = call_at ys i x (omega arith) is

statement_is : (x : Step) → statement_of (call_of x) ≡ Some x.statement
statement_is x = rw (x.reads, statement_of) refl

pub kind_is : (xs : List Step) (i : ℕ) (x : Step) → i < length xs → x ≡ get_or xs i x → kind_of x.statement ≡ kind_in (map call_of xs) i
kind_is xs i x lt is = rw (call_at xs i x lt is, statement_is x, kind_in) refl

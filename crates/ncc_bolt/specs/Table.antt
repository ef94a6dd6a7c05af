-- The tables of messages (Bolt 4.4, "Messages"): the tag of each, the kinds of its fields, and the message that the fields make.
use Rattle.std.specs.Prelude.{ℕ, List, [], ◌∷◌}
use Rattle.ncc_bolt.specs.Fields.{Kind, dictionary, text, list, Held, Fields, Pairs}
use Rattle.ncc_bolt.specs.Tags.{hello_tag, goodbye_tag, reset_tag, run_tag, begin_tag, commit_tag, rollback_tag}
use Rattle.ncc_bolt.specs.Tags.{discard_tag, pull_tag, route_tag, success_tag, record_tag, ignored_tag, failure_tag}
use Rattle.ncc_bolt.specs.declared.message.Request.{Request}
use Rattle.ncc_bolt.specs.declared.message.Request.TheVariants as r
use Rattle.ncc_bolt.specs.declared.message.Response.{Response}
use Rattle.ncc_bolt.specs.declared.message.Response.TheVariants as s

pub record Row (M : Type 0) : Type 0 where
  pub tag : ℕ
  pub kinds : List Kind
  pub make : Fields kinds → M

-- a message with no fields, and one with a dictionary alone
abbrev pub bare : {M : Type 0} → ℕ → M → Row M
bare tag m = record { tag = tag; kinds = []; make = λ fs. m }

abbrev pub with_dictionary : {M : Type 0} → ℕ → (Pairs → M) → Row M
with_dictionary tag make = record { tag = tag; kinds = dictionary ∷ []; make = λ fs. make fs.0 }

abbrev pub with_list : {M : Type 0} → ℕ → (Held list → M) → Row M
with_list tag make = record { tag = tag; kinds = list ∷ []; make = λ fs. make fs.0 }

abbrev pub run_row : Row Request
run_row = record { tag = run_tag; kinds = text ∷ dictionary ∷ dictionary ∷ []; make = λ fs. r.Run fs.0 fs.1.0 fs.1.1.0 }

abbrev pub route_row : Row Request
route_row = record { tag = route_tag; kinds = dictionary ∷ list ∷ dictionary ∷ []; make = λ fs. r.Route fs.0 fs.1.0 fs.1.1.0 }

abbrev pub requests : List (Row Request)
requests =
    with_dictionary hello_tag (λ extra. r.Hello extra)
    ∷ bare goodbye_tag r.Goodbye
    ∷ bare reset_tag r.Reset
    ∷ run_row
    ∷ with_dictionary begin_tag (λ extra. r.Begin extra)
    ∷ bare commit_tag r.Commit
    ∷ bare rollback_tag r.Rollback
    ∷ with_dictionary discard_tag (λ extra. r.Discard extra)
    ∷ with_dictionary pull_tag (λ extra. r.Pull extra)
    ∷ route_row
    ∷ []

abbrev pub responses : List (Row Response)
responses =
    with_dictionary success_tag (λ meta. s.Success meta)
    ∷ with_list record_tag (λ fields. s.Row fields)
    ∷ bare ignored_tag s.Ignored
    ∷ with_dictionary failure_tag (λ meta. s.Failure meta)
    ∷ []

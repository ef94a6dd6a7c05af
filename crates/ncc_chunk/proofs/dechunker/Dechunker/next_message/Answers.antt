use Rattle.std.proofs.Common.{◌≡◌, ◌∷◌, [], List, ℕ, Ok, Err, ap, sym, ◌∙◌, drop, subst}
use Rattle.ncc_chunk.specs.Inflow.{Inflow}
use Rattle.ncc_chunk.specs.Chunks.{IsNextAfter}
use Rattle.ncc_chunk.specs.Keeping.{missing_at}
use Rattle.ncc_chunk.proofs.Handing.{first_some, first_none, not_ends, not_long, whole_is, next_after, ends, long, ends_back}
use Rattle.ncc_chunk.proofs.Handing.{long_back, not_whole}
use Rattle.ncc_chunk.proofs.dechunker.Dechunker.next_message.Goals as goal
use Rattle.ncc_chunk.proofs.dechunker.Dechunker.next_message.Goals.{In-Some, After-missing}

first_ready : (c : In-Some) → c.args.self.now.ready ≡ c.in-Some.message ∷ drop 1 c.args.self.now.ready
first_ready c = first_some c.args.self.now.ready c.in-Some.message c.in-Some.ensures.first

none_ready : (c : After-missing) → c.args.self.now.ready ≡ []
none_ready c = first_none c.args.self.now.ready c.in-None.ensures.first

missing_told : (c : After-missing) → c.missing.result ≡ missing_at c.args.self.now.place
missing_told c = c.missing.ensures ∙ ap (λ (s : Inflow). missing_at s.place) c.in-None.ensures.others

pub returns-in-Some-clause-first : goal.returns-in-Some-clause-first
returns-in-Some-clause-first c =
    first_ready c ∙ ap (λ (s : Inflow). c.in-Some.message ∷ s.ready) (sym c.in-Some.ensures.others)

pub returns-in-Some-clause-again : goal.returns-in-Some-clause-again
returns-in-Some-clause-again c stream handed k =
    (λ h. absurd (cc), λ e. absurd (not_ends c.args.self.now _ _ (first_ready c) stream handed k e))

pub returns-in-Some-clause-too_long : goal.returns-in-Some-clause-too_long
returns-in-Some-clause-too_long c stream handed k =
    (λ h. absurd (cc), λ e. absurd (not_long c.args.self.now _ _ (first_ready c) stream handed k e))

pub returns-in-Some-clause-whole : goal.returns-in-Some-clause-whole
returns-in-Some-clause-whole c message stream handed k = (
  λ h. (let e : c.in-Some.message ≡ message = cc in
      subst (λ (m : List ℕ). IsNextAfter stream handed m) e (next_after c.args.self.now _ _ (first_ready c) stream handed k)),
  λ next. ap Ok (whole_is c.args.self.now _ _ (first_ready c) stream handed k message next.1 next.0 next.2),
)

pub returns-in-None-clause-again : goal.returns-in-None-clause-again
returns-in-None-clause-again c stream handed k = (
  λ h. ends c.args.self.now (none_ready c) stream handed k (sym (missing_told c) ∙ (cc)),
  λ e. ap Err (missing_told c ∙ ends_back c.args.self.now (none_ready c) stream handed k e),
)

pub returns-in-None-clause-too_long : goal.returns-in-None-clause-too_long
returns-in-None-clause-too_long c stream handed k = (
  λ h. long c.args.self.now (none_ready c) stream handed k (sym (missing_told c) ∙ (cc)),
  λ e. ap Err (missing_told c ∙ long_back c.args.self.now (none_ready c) stream handed k e),
)

pub returns-in-None-clause-whole : goal.returns-in-None-clause-whole
returns-in-None-clause-whole c message stream handed k = (
  λ h. absurd (cc),
  λ next. absurd (not_whole c.args.self.now (none_ready c) stream handed k message next.1 next.0 next.2),
)

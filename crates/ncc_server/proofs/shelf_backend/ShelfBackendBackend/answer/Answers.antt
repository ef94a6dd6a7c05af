use Rattle.std.proofs.Common.{sym, subst, IsTrue}
use Rattle.ncc_session.specs.declared.ask.Fact.{Fact}
use Rattle.ncc_session.specs.Question.{fits}
use Rattle.ncc_session.specs.Core.{question_of}
use Rattle.ncc_server.proofs.Shelves.{shelf_fits}
use Rattle.ncc_server.proofs.shelf_backend.ShelfBackendBackend.answer.Goals as goal

pub returns-in-Ok-found-clause-fits : goal.returns-in-Ok-found-clause-fits
returns-in-Ok-found-clause-fits c =
    let k = c.self.invariant in
    subst (λ (x : Fact). IsTrue (fits (question_of c.args.ask.now) x)) (sym (c.in-Ok-found.ensures.exact k.history k.stands).0)
    (shelf_fits k.history c.args.deadline c.args.ask.now c.requires.may_ask)

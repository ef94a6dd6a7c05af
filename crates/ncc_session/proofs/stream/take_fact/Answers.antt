use Rattle.std.proofs.Common.{◌≡◌, sym, ap, ◌∙◌}
use Rattle.std.proofs.lemmas.Result.{on_ok_weaker, on_err_weaker}
use Rattle.ncc_session.specs.Core.{question_of, next_of, doing_of, place_of, asks}
use Rattle.ncc_session.proofs.Moves.{on_err}
use Rattle.ncc_session.proofs.Asked.{tell_less}
use Rattle.ncc_session.proofs.Feeding.{tells_by, tells_broke, untold_breaks}
use Rattle.ncc_session.proofs.stream.take_fact.Goals as goal

pub returns-in_err-hear-in-Asks-clause-err : goal.returns-in_err-hear-in-Asks-clause-err
returns-in_err-hear-in-Asks-clause-err c = on_err c.from_residual.result _ (untold_breaks _ _ _ _ _ _ _ _ _ c.in_err-hear-in-Asks.ensures.err)

pub returns-clause-ok : goal.returns-clause-ok
returns-clause-ok c =
    let doing : doing_of c.args.core.now.phase ≡ asks (question_of c.in-Asks.ask) (next_of c.in-Asks.behind) =
    ap doing_of (sym c.replace.ensures.value ∙ c.in-Asks.is) in
    on_ok_weaker c.settle.result
    (λ s. tells_by _ _ _ _ _ _ _ _ _ _ _ _ _ doing c.requires.fits c.in_ok-hear-in-Asks.ensures.ok s) c.settle.ensures.ok

pub returns-clause-lowers : goal.returns-clause-lowers
returns-clause-lowers c =
    let doing : doing_of c.args.core.now.phase ≡ asks (question_of c.in-Asks.ask) (next_of c.in-Asks.behind) =
    ap doing_of (sym c.replace.ensures.value ∙ c.in-Asks.is) in
    on_ok_weaker c.settle.result
    (λ s. tell_less c.args.config.now (place_of c.args.core.now) (place_of c.hear.new.core) (place_of c.settle.new.core)
    (question_of c.in-Asks.ask) (next_of c.in-Asks.behind) c.args.fact c.args.dechunker.now c.settle.new.dechunker _ _ doing
    c.in_ok-hear-in-Asks.ensures.ok s)
    c.settle.ensures.lowers

pub returns-clause-err : goal.returns-clause-err
returns-clause-err c =
    let doing : doing_of c.args.core.now.phase ≡ asks (question_of c.in-Asks.ask) (next_of c.in-Asks.behind) =
    ap doing_of (sym c.replace.ensures.value ∙ c.in-Asks.is) in
    on_err_weaker c.settle.result
    (λ s. tells_broke _ _ _ _ _ _ _ _ _ _ _ _ _ doing c.requires.fits c.in_ok-hear-in-Asks.ensures.ok s) c.settle.ensures.err

use Rattle.std.proofs.Common.{ap, sym, ◌∙◌, drop, ◌≡◌, [], ◌∷◌, decimal, arith}
use Rattle.std.proofs.lemmas.Fmt.{decimal_injective}
use Rattle.ncc_replay.specs.Reading.{words_in}
use Rattle.ncc_replay.proofs.Lines.{setup_bad, first_word_of}
use Rattle.ncc_replay.proofs.Words.{some_words}
use Rattle.ncc_replay.proofs.line.setup.Goals as goal
use Rattle.ncc_replay.proofs.line.setup.Goals.{then-cores-eq0-via-then-cores-eq0, then-cores-eq0-via-else-cores-eq0+then-is_some}

pub returns-in_err-replicas-clause-none : goal.returns-in_err-replicas-clause-none
returns-in_err-replicas-clause-none c =
    rw c.from_residual-in_err-replicas.ensures
    (setup_bad (words_in c.args.rest) (λ cores replicas cluster wait some few less fits short e.
    c.in_err-replicas.ensures.none replicas (decimal cluster ∷ decimal wait ∷ []) less
    (ap (drop 1) (sym c.in_ok-cores.ensures.some.1 ∙ e))))

pub returns-in_err-cluster-clause-none : goal.returns-in_err-cluster-clause-none
returns-in_err-cluster-clause-none c =
    rw c.from_residual-in_err-cluster.ensures
    (setup_bad (words_in c.args.rest) (λ cores replicas cluster wait some few less fits short e.
    c.in_err-cluster.ensures.none cluster (decimal wait ∷ []) (omega arith)
    (ap (drop 1) (sym c.in_ok-replicas.ensures.some.1 ∙ ap (drop 1) (sym c.in_ok-cores.ensures.some.1 ∙ e)))))

pub returns-in_err-wait-clause-none : goal.returns-in_err-wait-clause-none
returns-in_err-wait-clause-none c =
    rw c.from_residual-in_err-wait.ensures
    (setup_bad (words_in c.args.rest) (λ cores replicas cluster wait some few less fits short e.
    c.in_err-wait.ensures.none wait [] short
    (ap (drop 1) (sym c.in_ok-cluster.ensures.some.1 ∙ ap (drop 1) (sym c.in_ok-replicas.ensures.some.1
    ∙ ap (drop 1) (sym c.in_ok-cores.ensures.some.1 ∙ e))))))

pub returns-then-cores-eq0-clause-none : goal.returns-then-cores-eq0-clause-none
returns-then-cores-eq0-clause-none c =
    setup_bad (words_in c.args.rest) (λ cores replicas cluster wait some few less fits short e.
    let from_cores : decimal c.in_ok-cores.cores ∷ words_in c.in_ok-cores.rest ≡
    decimal cores ∷ decimal replicas ∷ decimal cluster ∷ decimal wait ∷ [] = sym c.in_ok-cores.ensures.some.1 ∙ e in
    elim c.then-cores-eq0.branch [
      | then-cores-eq0-via-then-cores-eq0 w ↦ omega (
        arith,
        decimal_injective c.in_ok-cores.cores cores (omega (
          arith,
          c.in_ok-cores.ensures.some.0,
        )) (omega arith) (ap first_word_of from_cores),
        w.if-cores-eq0.true,
      )
      | then-cores-eq0-via-else-cores-eq0+then-is_some w ↦
          some_words c.in_ok-wait.rest (sym w.is_some.ensures ∙ w.if-is_some.true)
          (ap (drop 1) (sym c.in_ok-wait.ensures.some.1 ∙ ap (drop 1) (sym c.in_ok-cluster.ensures.some.1
          ∙ ap (drop 1) (sym c.in_ok-replicas.ensures.some.1 ∙ ap (drop 1) from_cores))))
    ])

use Rattle.std.proofs.Common.{rules, ◌≡◌, ◌∙◌, ap, ℕ, List, Err}
use Rattle.ncc_cypher.specs.declared.tree.Statement.{Statement}
use Rattle.ncc_cypher.specs.declared.error.Fault.TheVariants as f
use Rattle.ncc_cypher.specs.Grammar.{Name}
use Rattle.ncc_cypher.specs.State as s
use Rattle.ncc_cypher.specs.Columns.{columns}
use Rattle.ncc_cypher.specs.Reading.{left, reads}
use Rattle.ncc_cypher.proofs.Ahead.{read_ok, read_err}
use Rattle.ncc_cypher.proofs.Moves.{err_tells}
use Rattle.ncc_cypher.proofs.reading.read.Goals as goal

pub returns-in-Ok : goal.returns-in-Ok
returns-in-Ok c = read_ok c.args.source.now c.at-reader.result c.in-Ok.statement c.at-reader.ensures.ahead (c.in-Ok.ensures.ends (columns (left c.at-reader.result))) c.in-Ok.ensures.columns

pub returns-in-Err-Syntax : goal.returns-in-Err-Syntax
returns-in-Err-Syntax c =
    let r = c.at-reader.result in
    let names : List Name = columns (left r) in
    let e = read_err c.args.source.now r c.in-Err-Syntax.left c.in-Err-Syntax.kind c.at-reader.ensures.ahead
    (err_tells names (λ (y : Statement). y) (f.Syntax c.in-Err-Syntax.left c.in-Err-Syntax.kind) c.statement.result (reads names s.Start r) (search rules) (c.statement.ensures.ends names)) in
    e ∙ ap (λ (z : ℕ). Err (z, c.in-Err-Syntax.kind)) (search rules)

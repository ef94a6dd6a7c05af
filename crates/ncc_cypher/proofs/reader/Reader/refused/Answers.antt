use Rattle.ncc_cypher.proofs.Moves.{stuck}
use Rattle.ncc_cypher.specs.Reading.{kind_of}
use Rattle.std.proofs.Common.{◌≡◌, ◌∙◌, ap, ℕ, List, length, Err, sym}
use Rattle.ncc_cypher.specs.declared.error.SyntaxKind.{SyntaxKind}
use Rattle.ncc_cypher.proofs.reader.Reader.refused.Goals as goal

pub returns-clause-tells : goal.returns-clause-tells
returns-clause-tells c = λ names x e.
    let r = c.args.self.now in
    stuck names x r.token r.from r.after e ∙ ap (λ (z : List ℕ). Err (length z, kind_of r.token)) (sym c.as_str-left.ensures.same) ∙ ap (λ (z : SyntaxKind). Err (length c.as_str-left.result.now, z)) (sym c.kind-kind.ensures)

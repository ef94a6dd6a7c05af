use Rattle.std.proofs.Common.{List, ap, sym, ◌∙◌}
use Rattle.std.specs.Prelude.{Some}
use Rattle.ncc_pack.specs.declared.value.Value.{Value}
use Rattle.ncc_pack.specs.declared.value.Value.TheVariants as v
use Rattle.ncc_driver.proofs.TableParts.{are_servers_at}
use Rattle.ncc_driver.proofs.answers.servers_at.Goals as goal

pub returns-then-are_servers-clause-some : goal.returns-then-are_servers-clause-some
returns-then-are_servers-clause-some c =
    let list = c.in-Some-List.field-0-is ∙ ap (λ (xs : List Value). v.List xs) (sym c.in-Some-List.values-is) in
    are_servers_at _ _ _ (sym c.in-Some-List.ensures.found ∙ ap (λ (x : Value). Some x) list) c.as_slice.ensures.same
    (c.are_servers.ensures.0 c.if-are_servers.true)

use Rattle.std.proofs.Common.{◌≡◌, ◌<◌, ◌≤◌, ◌∙◌, List, length, get_or, ap, sym, arith}
use Rattle.ncc_pack.specs.declared.value.Value.{Value}
use Rattle.ncc_world.proofs.Naming.{named_here, named_next, named_none}
use Rattle.ncc_world.proofs.drivers.Drivers.named.Goals as goal

pub returns-then-is_named : goal.returns-then-is_named
returns-then-is_named c =
    let names = c.args.self.now.names in
    let same = c.as_slice-name-items.ensures.same in
    let within : c.loop-index.index < length names = omega (arith, c.loop-index-test.true, ap length same) in
    let item : c.name-item.result ≡ get_or names c.loop-index.index c.name-item.result =
    c.name-item.is ∙ ap (λ (l : List Value). get_or l c.loop-index.index c.name-item.result) same in
    record {
      exact = sym (named_here names c.args.address.now c.loop-index.index c.name-item.result within item
          (sym c.is_named.ensures.exact ∙ c.if-is_named.true) c.loop-index.invariant);
    }

pub loop-index-preserved : goal.loop-index-preserved
loop-index-preserved c =
    let names = c.args.self.now.names in
    let same = c.as_slice-name-items.ensures.same in
    let within : c.loop-index.index < length names = omega (arith, c.loop-index-test.true, ap length same) in
    let item : c.name-item.result ≡ get_or names c.loop-index.index c.name-item.result =
    c.name-item.is ∙ ap (λ (l : List Value). get_or l c.loop-index.index c.name-item.result) same in
    named_next names c.args.address.now c.loop-index.index c.name-item.result within item
    (sym c.is_named.ensures.exact ∙ c.if-is_named.false) c.loop-index.invariant

pub returns : goal.returns
returns c =
    let names = c.args.self.now.names in
    let past : length names ≤ c.loop-index.index =
    omega (arith, c.loop-index-test.false, ap length c.as_slice-name-items.ensures.same) in
    record { exact = sym (named_none names c.args.address.now c.loop-index.index past c.loop-index.invariant) }

use Rattle.std.proofs.Common.{◌∙◌, ap}
use Rattle.std.proofs.lemmas.Result.{IfOk-weaker}
use Rattle.std.proofs.lemmas.Option.{IfSome_then}
use Rattle.ncc_world.specs.Parts.{drivers_in}
use Rattle.std.specs.Vec.{with_item}
use Rattle.ncc_world.proofs.Sessions.{does_on, none_on, was_at}
use Rattle.ncc_world.proofs.Unchanged.{item_same, none_weaker}
use Rattle.ncc_world.proofs.drivers.Drivers.next.Goals as goal

pub returns-clause-some : goal.returns-clause-some
returns-clause-some c =
    let k = drivers_in c.args.self.now in
    let old = c.index_mut.result.now in
    let was = was_at k.list c.args.index old c.requires.there c.index_mut.ensures.value in
    IfOk-weaker c.next.result _ _ (λ o h. IfSome_then o h (λ effect does s d left.
    does_on s c.args.index k old c.next.new.self d left effect was (does d left))) c.next.ensures.some

pub returns-clause-none : goal.returns-clause-none
returns-clause-none c =
    let k = drivers_in c.args.self.now in
    let old = c.index_mut.result.now in
    let was = was_at k.list c.args.index old c.requires.there c.index_mut.ensures.value in
    IfOk-weaker c.next.result _ _ (λ o h. none_weaker o _ _ (λ none s now driving left pending w.
    none_on s c.args.index k old now driving left pending was none w) h) c.next.ensures.none

pub returns-clause-same : goal.returns-clause-same
returns-clause-same c =
    let old = c.index_mut.result.now in
    let self = c.args.self.now in
    IfOk-weaker c.next.result _ _ (λ o h. none_weaker o _ _ (λ same.
    ap (λ list. record self { list = list })
    (ap (with_item self.list c.args.index) same ∙ item_same self.list c.args.index old c.index_mut.ensures.value)) h) c.next.ensures.same

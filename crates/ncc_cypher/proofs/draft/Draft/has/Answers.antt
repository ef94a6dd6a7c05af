use Rattle.std.proofs.Common.{◌≡◌, Option, ℕ, sym, Some, None, ap, ◌∙◌, length}
use Rattle.std.specs.BTreeSet.{contains_text}
use Rattle.ncc_cypher.specs.Grammar.{has}
use Rattle.ncc_cypher.specs.Slots.{HoldsAt, place, kept}
use Rattle.ncc_cypher.proofs.Slots.{found}
use Rattle.ncc_cypher.proofs.draft.Draft.has.Goals as goal

pub returns-in-Some-None : goal.returns-in-Some-None
returns-in-Some-None c =
    let s : Option (Option ℕ) = Some None in
    let e : s ≡ kept c.self.inside.taken.items c.self.inside.numbers.items (place (length c.self.inside.taken.items) c.args.key.now) = cc in
    let h : HoldsAt (Some None) (contains_text c.self.inside.others c.args.key.now) c.self.inside.pairs c.args.key.now
    = found c.self.inside.taken.items c.self.inside.numbers.items c.self.inside.pairs c.args.key.now _ (Some None) e (c.self.invariant c.args.key.now) in
    sym h.1 ∙ ap (has c.args.key.now) c.self.view_is

pub returns-in-None : goal.returns-in-None
returns-in-None c =
    let s : Option (Option ℕ) = None in
    let e : s ≡ kept c.self.inside.taken.items c.self.inside.numbers.items (place (length c.self.inside.taken.items) c.args.key.now) = cc in
    let h : HoldsAt None (contains_text c.self.inside.others c.args.key.now) c.self.inside.pairs c.args.key.now
    = found c.self.inside.taken.items c.self.inside.numbers.items c.self.inside.pairs c.args.key.now _ None e (c.self.invariant c.args.key.now) in
    c.contains-in-None.ensures ∙ h ∙ ap (has c.args.key.now) c.self.view_is

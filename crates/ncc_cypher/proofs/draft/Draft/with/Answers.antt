use Rattle.std.proofs.Common.{◌≡◌, true, false, length, sym, ◌∙◌}
use Rattle.std.specs.String.{string_bytes}
use Rattle.std.proofs.lemmas.Map.Text.{btree_set_updates_text}
use Rattle.ncc_cypher.specs.Slots.{place, is_free, kept}
use Rattle.ncc_cypher.proofs.Slots.{first, beside}
use Rattle.ncc_cypher.proofs.draft.Draft.with.Goals as goal

pub invariant_of-result : goal.invariant_of-result
invariant_of-result c = λ q.
    let at : c.place-at.result ≡ place (length c.self.inside.taken.items) c.args.pair.key = cc in
    let free : is_free (kept c.self.inside.taken.items c.self.inside.numbers.items c.place-at.result) ≡ true = cc in
    let number : c.in-Ok.number ≡ length c.self.inside.pairs = c.in-Ok.ensures.1 ∙ c.len.ensures.length in
    first c.self.inside.taken.items c.self.inside.numbers.items c.self.inside.pairs c.args.pair c.place-at.result c.in-Ok.number c.push.new.self at free number c.in_ok-push.ensures.ok q _ (c.self.invariant q)

pub invariant_of-result-2 : goal.invariant_of-result-2
invariant_of-result-2 c = λ q.
    let at : c.place-at.result ≡ place (length c.self.inside.taken.items) c.args.pair.key = cc in
    let taken : is_free (kept c.self.inside.taken.items c.self.inside.numbers.items c.place-at.result) ≡ false = cc in
    beside c.self.inside.taken.items c.self.inside.numbers.items c.self.inside.pairs c.args.pair c.place-at.result (string_bytes c.in_ok-key.key) c.push-2.new.self _ at taken
    (sym c.as_str-2.ensures.same ∙ sym c.in_ok-key.ensures.ok) c.in_ok-push-2.ensures.ok q _
    (btree_set_updates_text _ c.self.inside.others c.insert.new.self _ c.in_ok-insert.ensures.updates q) (c.self.invariant q)

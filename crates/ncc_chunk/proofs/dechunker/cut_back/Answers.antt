use Rattle.std.proofs.Common.{◌≡◌, ℕ, ◌+◌, ◌<◌, Option, Some, None, List, [], ◌∷◌, ◌++◌, length, take, map, sym, ap, ◌∙◌, arith}
use Rattle.std.specs.Prelude.{IfSome}
use Rattle.std.specs.Option.{option_to_list}
use Rattle.std.proofs.lemmas.List.{map-append, take-map, length-map}
use Rattle.ncc_chunk.proofs.dechunker.cut_back.Goals as goal

-- the last of those that were left
last_left : {V : Type 0} (f : V → List ℕ) (count : ℕ) (before left after : List V) (last : Option V) →
    left ≡ take (count + 1) before → left ≡ after ++ option_to_list last → count < length before
    → IfSome last (λ first. (take (count + 1) (map f before) ≡ map f after ++ f first ∷ []) × (count < length (map f before)))
last_left f count before left after None e g h = tt
last_left f count before left after (Some x) e g h =
    (take-map f (count + 1) before ∙ ap (map f) (sym e ∙ g) ∙ map-append f after (x ∷ []), rw (length-map before f) h)

pub returns-clause-some : goal.returns-clause-some
returns-clause-some c =
    last_left (λ m. m.items) c.args.count c.args.ready.now.items c.truncate.new.self.items c.pop_back.new.self.items c.pop_back.result
    c.truncate.ensures.items c.pop_back.ensures.items
    (let e = c.args.ready.now.ok.0 in let l = c.len.ensures in omega arith)

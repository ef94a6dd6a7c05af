-- Sizes of entries, and the front that one message takes.
use Rattle.ncc_tx.proofs.ItemBytes as bytes
use Rattle.std.proofs.Common.{◌≡◌, ℕ, ◌-◌, ◌≤◌, List, ◌++◌, length, take, drop, sym, ap, ◌∙◌, arith}
use Rattle.std.specs.Prelude.{map}
use Rattle.std.proofs.lemmas.List.{length-drop, map-append, take-map, take_all}
use Rattle.ncc_tx.specs.declared.entry.Item.{Item}
use Rattle.ncc_raft.specs.Logs.{entry_size}
use Rattle.std.specs.Prelude.{IsTrue}
use Rattle.ncc_tx.specs.declared.entry.Entry.{Entry}
use Rattle.ncc_tx.specs.Items.{entry_allowed}
use Rattle.ncc_tx.specs.Spelled.{entry_fits, spelled}

pub allowed_fits : (x : Entry) → IsTrue (entry_allowed x) → IsTrue (entry_fits x)
allowed_fits = bytes.allowed_fits

pub allowed_short : (x : Entry) → IsTrue (entry_allowed x) → length (spelled x) ≤ 1_048_576
allowed_short = bytes.allowed_short

pub cut : (items : List Item) (sizes : List ℕ) (keep : ℕ) → sizes ≡ map entry_size items → take keep sizes ≡ map entry_size
    (take keep items)
cut items sizes keep e = ap (take keep) e ∙ take-map entry_size keep items

pub put : (items more : List Item) (sizes fresh : List ℕ) (keep : ℕ) → sizes ≡ map entry_size items → fresh ≡ map entry_size more →
    take keep sizes ++ fresh ≡ map entry_size (take keep items ++ more)
put items more sizes fresh keep e f =
    ap (λ (l : List ℕ). l ++ fresh) (cut items sizes keep e)
    ∙ ap (λ (l : List ℕ). map entry_size (take keep items) ++ l) f
    ∙ sym (map-append entry_size (take keep items) more)

-- a slice from a place on
pub behind : {X : Type 0} (n : ℕ) (xs : List X) → take (length xs - n) (drop n xs) ≡ drop n xs
behind n xs = take_all (length xs - n) (drop n xs) (omega (arith, length-drop n xs))

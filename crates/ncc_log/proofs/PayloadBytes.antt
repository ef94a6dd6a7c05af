-- The bytes of a payload, as they are written.
use Rattle.std.proofs.Common.{◌≡◌, ℕ, ◌+◌, ◌^◌, ◌<◌, ◌≤◌, List, [], ◌∷◌, ◌++◌, length, sym, ap, ◌∙◌, append_assoc, arith}
use Rattle.std.proofs.Common.{length-append}
use Rattle.std.specs.Int.{w32, w64, to_be_bytes}
use Rattle.ncc_tx.specs.declared.entry.ChangeSet.{ChangeSet}
use Rattle.ncc_tx.specs.declared.entry.Item.{Item}
use Rattle.ncc_tx.specs.Items.{counted, item_bytes, items_bytes}
use Rattle.ncc_tx.specs.Kept.{MayStand, payload}
use Rattle.ncc_tx.proofs.ItemBytes.{length_counted, length_item, length_payload}
use Rattle.ncc_log.specs.Records.{recorded}
use Rattle.ncc_log.proofs.One.{front_of, payload_is, recorded_is}

pub payload_long : (c : ChangeSet) → length (payload c) ≡ 17 + length (counted c.items)
payload_long c = length_payload c

items_long : (is : List Item) → length is ≤ length (items_bytes is)
items_long [] = omega arith
items_long (i ∷ is) = omega (arith, length_item i, items_long is, length-append (item_bytes i) (items_bytes is))

pub few_items : (c : ChangeSet) → MayStand c → length c.items < 2 ^ 32
few_items c m = omega (arith, m.short, length_payload c, length_counted c.items, items_long c.items)

pub payload_put : (c : ChangeSet) (old a b k new : List ℕ) → a ≡ old ++ to_be_bytes w64 c.term → b ≡ a ++ c.vote ∷ [] →
    k ≡ b ++ to_be_bytes w64 c.keep → new ≡ k ++ counted c.items → new ≡ old ++ payload c
payload_put c old a b k new e f g h =
    let t : List ℕ = to_be_bytes w64 c.term in
    let n : List ℕ = to_be_bytes w64 c.keep in
    let front : k ≡ old ++ front_of c = g
    ∙ ap (λ (l : List ℕ). l ++ n) (f ∙ ap (λ (l : List ℕ). l ++ c.vote ∷ []) e)
    ∙ append_assoc (old ++ t) (c.vote ∷ []) n ∙ append_assoc old t (c.vote ∷ n) in
    h ∙ ap (λ (l : List ℕ). l ++ counted c.items) front ∙ append_assoc old (front_of c) (counted c.items)
    ∙ ap (λ (l : List ℕ). old ++ l) (sym (payload_is c))

pub record_put : (c : ChangeSet) (a b new : List ℕ) (size : ℕ) → a ≡ to_be_bytes w32 size → b ≡ a ++ payload c → new ≡ b ++ 0 ∷ [] →
    size ≡ length (payload c) → new ≡ recorded c ++ 0 ∷ []
record_put c a b new size e f g is =
    g ∙ ap (λ (l : List ℕ). l ++ 0 ∷ []) (f ∙ ap (λ (l : List ℕ). l ++ payload c) (e ∙ ap (to_be_bytes w32) is) ∙ sym (recorded_is c))

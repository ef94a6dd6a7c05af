-- What a frame can carry, item by item.
use Rattle.ncc_tx.proofs.ItemBytes as bytes
use Rattle.ncc_tx.proofs.Terms as terms
use Rattle.std.proofs.Common.{◌≡◌, ℕ, ◌+◌, ◌^◌, ◌<◌, Bool, List, length, get_or, take, subst, sym}
use Rattle.std.specs.List.{All}
use Rattle.std.proofs.lemmas.Bool.{lt-ltb, ltb-true}
use Rattle.std.specs.Prelude.{IsTrue, nat_lt}
use Rattle.ncc_tx.specs.declared.entry.Item.{Item}
use Rattle.ncc_tx.specs.Items.{entry_allowed}
use Rattle.ncc_tx.specs.Kept.{AllAllowed, NeverFalls}
use Rattle.ncc_raft.specs.declared.message.Body.{Body}
use Rattle.ncc_raft.specs.declared.message.Body.TheVariants.{VoteAsk, VoteReply, Append, AppendReply}
use Rattle.ncc_raft.specs.Carried.{FitBehind, IsWithin}
use Rattle.ncc_tx.specs.Spelled.{entry_fits}

pub all_fit : (items : List Item) → AllAllowed items → All (λ i. IsTrue (entry_fits i.entry)) items
all_fit = bytes.all_fit

pub fails : (items : List Item) (i : ℕ) (x : Item) → i < length items → x ≡ get_or items i x →
    (IsTrue (entry_allowed x.entry) → ⊥) → AllAllowed items → ⊥
fails = terms.fails

pub allowed_more : (items : List Item) (i : ℕ) (x : Item) → i < length items → x ≡ get_or items i x →
    IsTrue (entry_allowed x.entry) → AllAllowed (take i items) → AllAllowed (take (i + 1) items)
allowed_more = terms.allowed_more

-- ---- each kind of message

abbrev limit : ℕ
limit = 4_611_686_018_427_387_904

pub asks_exact : (b : Body) (t p l : ℕ) → b ≡ VoteAsk t p l → p < 2 ^ 64 → t < 4_611_686_018_427_387_904 →
    (IsTrue (nat_lt l 4_611_686_018_427_387_904) → IsWithin b) × (IsWithin b → IsTrue (nat_lt l 4_611_686_018_427_387_904))
asks_exact b t p l e h k = (
  λ i. let w : IsWithin (VoteAsk t p l) = (k, h, ltb-true l limit i) in subst IsWithin (sym e) w,
  λ w. let v : IsWithin (VoteAsk t p l) = subst IsWithin e w in lt-ltb l limit v.2,
)

pub votes_exact : (b : Body) (t : ℕ) (y : Bool) → b ≡ VoteReply t y →
    (IsTrue (nat_lt t 4_611_686_018_427_387_904) → IsWithin b) × (IsWithin b → IsTrue (nat_lt t 4_611_686_018_427_387_904))
votes_exact b t y e = (
  λ i. let w : IsWithin (VoteReply t y) = ltb-true t limit i in subst IsWithin (sym e) w,
  λ w. let v : IsWithin (VoteReply t y) = subst IsWithin e w in lt-ltb t limit v,
)

pub answers_exact : (b : Body) (t : ℕ) (y : Bool) (p : ℕ) → b ≡ AppendReply t y p → p < 2 ^ 64 →
    (IsTrue (nat_lt t 4_611_686_018_427_387_904) → IsWithin b) × (IsWithin b → IsTrue (nat_lt t 4_611_686_018_427_387_904))
answers_exact b t y p e h = (
  λ i. let w : IsWithin (AppendReply t y p) = (ltb-true t limit i, h) in subst IsWithin (sym e) w,
  λ w. let v : IsWithin (AppendReply t y p) = subst IsWithin e w in lt-ltb t limit v.0,
)

pub append_exact : (b : Body) (t prev pt c : ℕ) (items : List Item) (r : Bool) → b ≡ Append t prev pt c items → c < 2 ^ 64 →
    (IsTrue r → (t < 2 ^ 62) × (prev < 2 ^ 62) × (pt < 2 ^ 62) × NeverFalls pt t items × FitBehind 43 items) →
    ((t < 2 ^ 62) × (prev < 2 ^ 62) × (pt < 2 ^ 62) × NeverFalls pt t items × FitBehind 43 items → IsTrue r) →
    (IsTrue r → IsWithin b) × (IsWithin b → IsTrue r)
append_exact b t prev pt c items r e h to from = (
  λ i. let x = to i in let w : IsWithin (Append t prev pt c items) = (x.0, x.1, x.2, h, x.3, x.4) in subst IsWithin (sym e) w,
  λ w. let v : IsWithin (Append t prev pt c items) = subst IsWithin e w in from (v.0, v.1, v.2, v.4, v.5),
)

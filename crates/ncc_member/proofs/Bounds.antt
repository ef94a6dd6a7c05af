-- How long the payload of a change can be, by what its event brings.
use Rattle.std.proofs.Common.{◌≡◌, ◌⊎◌, inl, inr, ℕ, ◌+◌, ◌≤◌, Bool, true, false, max, List, [], ◌∷◌, length, refl, sym, ap, ◌∙◌}
use Rattle.std.proofs.Common.{subst, arith, length-append}
use Rattle.std.specs.Prelude.{IsTrue, if◌then◌else◌, nat_lt}
use Rattle.std.proofs.lemmas.List.{append-nil}
use Rattle.std.proofs.lemmas.List.Concat.{flat_map-append}
use Rattle.ncc_pack.specs.declared.value.Value.{fold-roll-Value}
use Rattle.ncc_pack.specs.declared.value.Value.TheOpen.{Value-F}
use Rattle.ncc_pack.specs.declared.value.Value.TheVariants as v
use Rattle.ncc_pack.specs.Short.{node_step, short, short_step}
use Rattle.ncc_tx.specs.declared.entry.ChangeSet.{ChangeSet}
use Rattle.ncc_tx.specs.declared.entry.Entry.{Entry}
use Rattle.ncc_tx.specs.declared.entry.Entry.TheVariants.{Noop}
use Rattle.ncc_tx.specs.declared.entry.Item.{Item}
use Rattle.ncc_tx.specs.Items.{counted, entry_allowed, item_bytes, items_bytes}
use Rattle.ncc_tx.specs.Kept.{payload}
use Rattle.ncc_tx.specs.Spelled.{spelled}
use Rattle.ncc_tx.proofs.ItemBytes.{length_counted, length_item, length_payload}
use Rattle.ncc_raft.specs.declared.message.Body.{Body}
use Rattle.ncc_raft.specs.declared.message.Body.TheVariants.{VoteAsk, VoteReply, Append, AppendReply, Pull, Batch}
use Rattle.ncc_raft.specs.declared.message.Envelope.{Envelope}
use Rattle.ncc_raft.specs.Carried.{Carried, FitBehind, IsWithin, append_head}
use Rattle.ncc_raft.specs.Elections.{noop_of}
use Rattle.ncc_raft.specs.Laws.{Ends, items_in}
use Rattle.ncc_raft.specs.Member.{Outcome, Seat, Member, Timeout, Beat, Receive, Propose, is_leader, kept, sends, still}
use Rattle.ncc_raft.specs.Appending.{advanced, appends}
use Rattle.ncc_raft.specs.Step.{lifted, on_beat, settled, step}
use Rattle.ncc_raft.proofs.Savings.{saved}
use Rattle.ncc_member.specs.Room.{Suffices}

-- ---- lists of items

-- the last of them take no more bytes than all
ends_short : (tail whole : List Item) → Ends tail whole → length (counted tail) ≤ length (counted whole)
ends_short tail whole (front, is) =
    let parts : length (items_bytes whole) ≡ length (items_bytes front) + length (items_bytes tail) =
    ap (λ (l : List Item). length (items_bytes l)) is
    ∙ ap (λ (l : List ℕ). length l) (flat_map-append item_bytes front tail)
    ∙ length-append (items_bytes front) (items_bytes tail) in
    omega (arith, parts, length_counted tail, length_counted whole)

one_long : (i : Item) → length (counted (i ∷ [])) ≡ 16 + length (spelled i.entry)
one_long i =
    let alone : length (items_bytes (i ∷ [])) ≡ length (item_bytes i) = ap (λ (l : List ℕ). length l) (append-nil (item_bytes i)) in
    omega (arith, alone, length_counted (i ∷ []), length_item i)

none_long : length (counted []) ≡ 4
none_long = let none : length (items_bytes []) ≡ 0 = refl in omega (arith, none, length_counted [])

-- an empty entry is spelled in one byte
noop_spelled : length (spelled Noop) ≡ 1
noop_spelled = ap (λ (l : List ℕ). length l) (ap short (sym v.rolls-Null)
    ∙ fold-roll-Value (List ℕ) (List ℕ) short_step node_step Value-F.Null)

noop_long : (seat : Seat) (m : Member) → length (counted (noop_of seat m)) ≤ 17
noop_long seat m = go (nat_lt (length m.log) seat.limit)
  where
    go : (b : Bool) → length (counted (if b then record { term = m.term; entry = Noop } ∷ [] else [])) ≤ 17
    go true = omega (arith, noop_spelled, one_long (record { term = m.term; entry = Noop }))
    go false = omega (arith, none_long)

-- ---- a message

pub append_fits : (body : Body) (t prev prev_term commit : ℕ) (items : List Item) → IsWithin body →
    body ≡ Append t prev prev_term commit items → FitBehind append_head items
append_fits body t prev prev_term commit items within is = (subst (λ (b : Body). IsWithin b) is within).5

-- one without items has room enough for an empty entry
bare : (body variant : Body) → body ≡ variant → items_in variant ≡ [] → 34 ≡ 17 + max 17 (length (counted (items_in body)))
bare body variant is none = omega (
  arith,
  none_long,
  ap (λ (b : Body). length (counted (items_in b))) is,
  ap (λ (l : List Item). length (counted l)) none,
)

abbrev pub Without : Body → Type 0
Without body = ((x : ℕ) × (y : ℕ) × (z : ℕ) × (body ≡ VoteAsk x y z)) ⊎ (((x : ℕ) × (y : Bool) × (body ≡ VoteReply x y))
    ⊎ (((x : ℕ) × (y : Bool) × (z : ℕ) × (body ≡ AppendReply x y z)) ⊎ (((x : ℕ) × (body ≡ Pull x))
    ⊎ ((x : ℕ) × (y : List Item) × (body ≡ Batch x y)))))

pub without_items : (body : Body) → Without body → 34 ≡ 17 + max 17 (length (counted (items_in body)))
without_items body (inl (x, y, z, is)) = bare body (VoteAsk x y z) is refl
without_items body (inr (inl (x, y, is))) = bare body (VoteReply x y) is refl
without_items body (inr (inr (inl (x, y, z, is)))) = bare body (AppendReply x y z) is refl
without_items body (inr (inr (inr (inl (x, is))))) = bare body (Pull x) is refl
without_items body (inr (inr (inr (inr (x, y, is))))) = bare body (Batch x y) is refl

-- ---- a change

-- what is brought bounds it
by_brought : (c : ChangeSet) (brought : List Item) → Ends c.items brought → length (payload c) ≤ 17 + length (counted brought)
by_brought c brought e = omega (arith, length_payload c, ends_short c.items brought e)

pub most_timeout : (n : ℕ) → n ≡ 21 → Suffices Timeout n
most_timeout n is seat m c i s change =
    let b = saved seat m Timeout i s tt c change in
    let none : length (counted b.1) ≡ 4 = ap (λ (l : List Item). length (counted l)) b.2 ∙ none_long in
    omega (arith, is, none, by_brought c b.1 b.3)

-- behind its own step a leader's commit advances, and no more
settled_kept : (seat : Seat) (o : Outcome) → kept (settled seat o).member ≡ kept o.member
settled_kept seat o = go (is_leader o.member.role)
  where
    go : (b : Bool) → kept (if b then record o { member = advanced seat o.member } else o).member ≡ kept o.member
    go true = refl
    go false = refl

beat_kept : (seat : Seat) (m : Member) → kept m ≡ kept (step seat m Beat).member
unfolding step
beat_kept seat m = sym (settled_kept seat (on_beat seat m) ∙ go (is_leader m.role))
  where
    go : (b : Bool) → kept (if b then sends m (appends seat m) else still m).member ≡ kept m
    go true = refl
    go false = refl

pub most_beat : (n : ℕ) → Suffices Beat n
most_beat n seat m c i s change = absurd (change.other (beat_kept seat m))

pub most_receive : (e : Envelope) (n : ℕ) → Carried e → n ≡ 17 + max 17 (length (counted (items_in e.body))) → Suffices (Receive e) n
most_receive e n carried is seat m c i s change =
    let b = saved seat m (Receive e) i s carried c change in
    let le = by_brought c b.1 b.3 in
    let bound : length (counted b.1) ≤ max 17 (length (counted (items_in e.body))) = go b.1 b.2 in
    omega (arith, is, le, bound)
  where
    go : (xs : List Item) → (xs ≡ items_in e.body) ⊎ (xs ≡ noop_of seat (lifted m e.body)) →
        length (counted xs) ≤ max 17 (length (counted (items_in e.body)))
    go xs (inl same) = let same_len : length (counted xs) ≡ length (counted (items_in e.body)) =
        ap (λ (l : List Item). length (counted l)) same in omega (arith, same_len)
    go xs (inr same) = let same_len : length (counted xs) ≡ length (counted (noop_of seat (lifted m e.body))) =
        ap (λ (l : List Item). length (counted l)) same in omega (arith, same_len, noop_long seat (lifted m e.body))

pub most_propose : (entry : Entry) (n : ℕ) → IsTrue (entry_allowed entry) → n ≡ 33 + length (spelled entry) → Suffices (Propose entry) n
most_propose entry n allowed is seat m c i s change =
    let b = saved seat m (Propose entry) i s allowed c change in
    let one : length (counted b.1) ≡ 16 + length (spelled entry) = ap (λ (l : List Item). length (counted l)) b.2
    ∙ one_long (record { term = m.term; entry = entry }) in
    omega (arith, is, one, by_brought c b.1 b.3)

-- What holds of every step of a core, whatever the others do.
use Rattle.std.specs.Prelude.{◌≡◌, ◌≢◌, ℕ, ◌≤◌, ◌<◌, ◌⊎◌, IsTrue, List, [], ◌∷◌, ◌++◌, take, map}
use Rattle.std.specs.List.{All}
use Rattle.ncc_tx.specs.declared.entry.ChangeSet.{ChangeSet}
use Rattle.ncc_tx.specs.declared.entry.Item.{Item}
use Rattle.ncc_tx.specs.Items.{entry_allowed}
use Rattle.ncc_tx.specs.Kept.{IsChange, MayFollow}
use Rattle.ncc_raft.specs.declared.message.Body.{Body}
use Rattle.ncc_raft.specs.declared.message.Body.TheVariants.{Append}
use Rattle.ncc_raft.specs.declared.message.Note.TheVariants.{Nothing, TermsSpent}
use Rattle.ncc_raft.specs.Member.{Seat, Member, Event, Outcome, Receive, Propose, is_leader, kept}
use Rattle.ncc_raft.specs.Elections.{noop_of}
use Rattle.ncc_raft.specs.Carried.{Carried}
use Rattle.ncc_raft.specs.Core.{IsSeat, IsSound}
use Rattle.ncc_raft.specs.Step.{lifted, step}

-- an event that can come: a message that a frame can carry, an entry that may stand in a log
abbrev pub MayCome : Event → Type 0
MayCome (Receive e) = Carried e
MayCome (Propose entry) = IsTrue (entry_allowed entry)
MayCome _ = Unit {0}

-- what is said of each step of a sound core at an event that can come
abbrev pub OfEachStep : (Seat → Member → Event → Outcome → Type 0) → Type 0
OfEachStep P = (seat : Seat) (m : Member) (event : Event) → IsSeat seat → IsSound seat m → MayCome event → P seat m event (step seat m event)

-- 1: a core stays sound
abbrev pub StaysSound : Type 0
StaysSound = OfEachStep (λ seat m event o. IsSound seat o.member)

-- 2: nothing goes back
pub record NeverBack (old new : Member) : Type 0 where
  pub term : old.term ≤ new.term
  pub vote : old.term ≡ new.term → old.vote ≢ 0 → new.vote ≡ old.vote
  pub commit : old.commit ≤ new.commit
  pub applied : take old.commit new.log ≡ take old.commit old.log
  pub log : IsTrue (is_leader old.role) → IsTrue (is_leader new.role) → (more : List Item) × (new.log ≡ old.log ++ more)

abbrev pub NeverGoesBack : Type 0
NeverGoesBack = OfEachStep (λ seat m event o. NeverBack m o.member)

-- 3: what is sent can be carried, and goes by ascending destination
abbrev pub Ascends : List ℕ → Type 0
Ascends [] = Unit {0}
Ascends (x ∷ []) = Unit {0}
Ascends (x ∷ y ∷ xs) = (x < y) × Ascends (y ∷ xs)

abbrev pub SendsCarried : Type 0
SendsCarried = OfEachStep (λ seat m event o. All Carried o.sent × Ascends (map (λ e. e.to) o.sent))

-- 4: a change may follow what was kept, and its items are the last of those that the event brings
abbrev pub items_in : Body → List Item
items_in (Append t prev prev_term commit items) = items
items_in _ = []

-- an Append its items, a proposal one with the entry, any other event at most the empty entry of a new leader
abbrev pub Brings : Seat → Member → Event → List Item → Type 0
Brings seat m (Receive e) xs = (xs ≡ items_in e.body) ⊎ (xs ≡ noop_of seat (lifted m e.body))
Brings seat m (Propose entry) xs = xs ≡ record { term = m.term; entry = entry } ∷ []
Brings seat m _ xs = xs ≡ []

abbrev pub Ends : List Item → List Item → Type 0
Ends tail whole = (front : List Item) × (whole ≡ front ++ tail)

abbrev pub MayBeSaved : Type 0
MayBeSaved = OfEachStep (λ seat m event o. (c : ChangeSet) → IsChange (kept m) (kept o.member) c →
    MayFollow (kept m) c × (brought : List Item) × Brings seat m event brought × Ends c.items brought)

-- 5: where something is noted nothing is sent, log and commit stay, and with a spent term all does
pub record OnlyNoted (m : Member) (o : Outcome) : Type 0 where
  pub sent : o.sent ≡ []
  pub log : o.member.log ≡ m.log
  pub commit : o.member.commit ≡ m.commit
  pub spent : o.note ≡ TermsSpent → o.member ≡ m

abbrev pub NotesAlone : Type 0
NotesAlone = OfEachStep (λ seat m event o. o.note ≢ Nothing → OnlyNoted m o)

-- What holds of every run, of whatever cluster the four facts hold.
use Rattle.std.specs.Prelude.{◌≡◌, ◌⊎◌, ℕ, ◌+◌, ◌≤◌, nat_eq, Bool, false, List, [], ◌∷◌, ◌++◌, Some, slice_get}
use Rattle.std.specs.Prelude.{count_by, if◌then◌else◌}
use Rattle.std.specs.List.{AllByRecursion}
use Rattle.ncc_session.specs.declared.ask.Fact.{Fact}
use Rattle.ncc_session.specs.declared.ask.Fact.TheVariants.{Done, Placed, Stale, Elsewhere, Full}
use Rattle.ncc_session.specs.Question.{Question}
use Rattle.ncc_clients.specs.declared.told.Told.{Told}
use Rattle.ncc_tx.specs.declared.entry.Entry.{Entry}
use Rattle.ncc_tx.specs.declared.entry.Item.{Item}
use Rattle.ncc_clients.specs.Members.{Cluster, Proposed, elsewhere, full}
use Rattle.ncc_clients.specs.Run.{Run, Client, begun, talk_of, question_of, told_to, reply, tells}
use Rattle.ncc_clients.specs.Turn.{Turns, Settles, AtRest, NobodyIsForgotten}
use Rattle.ncc_clients.specs.Moment.{IsOpen, Proposes, Path}
use Rattle.ncc_clients.specs.Four.{Four, Begins}
use Rattle.ncc_clients.specs.Lawful.{Lawful, need_of}

-- A member answers the question of a connection by this fact: at once, or where it does not accept its entry.
abbrev pub Refuses : {S : Type 0} → Cluster S → Run S → Client → Entry → Fact → Type 0
Refuses C r c entry Elsewhere = C.propose r.members c.member entry ≡ elsewhere
Refuses C r c entry (Full entries) = C.propose r.members c.member entry ≡ full entries
Refuses C r c entry _ = ⊥

abbrev pub IsAnswered : {S : Type 0} → Cluster S → Run S → ℕ → Client → Fact → Type 0
IsAnswered C r i c fact =
    (IsOpen r i c × (reply C r c ≡ tells fact)) ⊎ ((entry : Entry) × Proposes C r i c entry × Refuses C r c entry fact)

-- Each fact is lawful where it is told, against the history of the whole run.
abbrev pub EachFactIsLawful : {S : Type 0} → Cluster S → S → Run S → Type 0
EachFactIsLawful {S} C start end =
    (line : ℕ) (r : Run S) (i : ℕ) (c : Client) (question : Question) (fact : Fact) → Path C (begun start) r → IsAnswered C r i c fact
    → question_of C c ≡ Some question → Path C (told_to line r i c fact) end → Lawful C end.history r i c question fact

-- A fact that says where a transaction ended says a place at or behind this one.
abbrev pub EndsBehind : ℕ → Fact → Type 0
EndsBehind need (Placed place) = need ≤ place
EndsBehind need (Stale place) = need ≤ place
EndsBehind need (Done at) = need ≤ at
EndsBehind need _ = Unit {0}

-- Each transaction ends at or behind what it needs.
abbrev pub StandsBehindItsNeed : {S : Type 0} → Cluster S → S → Type 0
StandsBehindItsNeed {S} C start =
    (r : Run S) (i : ℕ) (c : Client) (fact : Fact) → Path C (begun start) r → IsAnswered C r i c fact → EndsBehind (need_of C c) fact

-- no two writes are told one place
abbrev pub is_place : ℕ → Fact → Bool
is_place place (Placed p) = nat_eq p place
is_place place _ = false

abbrev pub PlacesAreApart : {S : Type 0} → Run S → Type 0
PlacesAreApart end = (place : ℕ) → count_by (λ (t : Told). is_place place t.fact) end.told ≤ 1

-- the facts that were told to a connection
abbrev pub facts_to : ℕ → List Told → List Fact
facts_to conn [] = []
facts_to conn (t ∷ ts) = if nat_eq t.conn conn then t.fact ∷ facts_to conn ts else facts_to conn ts

-- Every connection has its number, was told exactly the facts that were told to it, and its session has taken them all: what it wrote
-- and asks is that session's.
pub record IsServed {S : Type 0} (C : Cluster S) (end : Run S) (i : ℕ) (c : Client) : Type 0 where
  pub number : c.number ≡ i + 1
  pub facts : c.facts ≡ facts_to c.number end.told
  pub taken : (talk_of C c).facts ≡ []

abbrev pub AllAreServed : {S : Type 0} → Cluster S → Run S → Type 0
AllAreServed C end = (i : ℕ) (c : Client) → slice_get end.clients i ≡ Some c → IsServed C end i c

-- No connection vanishes: it stays where it is, with what came in and was told before.
pub record GoesOn (c d : Client) : Type 0 where
  pub number : d.number ≡ c.number
  pub member : d.member ≡ c.member
  pub more_bytes : List ℕ
  pub bytes : d.bytes ≡ c.bytes ++ more_bytes
  pub more_facts : List Fact
  pub facts : d.facts ≡ c.facts ++ more_facts
  pub printed : d.printed ≡ c.printed

abbrev pub NobodyVanishes : {S : Type 0} → Run S → Run S → Type 0
NobodyVanishes r s = (i : ℕ) (c : Client) → slice_get r.clients i ≡ Some c → (d : Client) × (slice_get s.clients i ≡ Some d) × GoesOn c d

-- the members agree, then and later
abbrev pub MembersAgree : {S : Type 0} → Cluster S → S → Run S → Type 0
MembersAgree {S} C start end =
    (r : Run S) → Path C (begun start) r → Path C r end → AllByRecursion (λ list. Begins list end.history) (C.lists r.members)

-- all of it, of a run's end
pub record Promise {S : Type 0} (C : Cluster S) (start : S) (end : Run S) : Type 0 where
  pub members_agree : MembersAgree C start end
  pub each_fact_is_lawful : EachFactIsLawful C start end
  pub stands_behind_its_need : StandsBehindItsNeed C start
  pub places_are_apart : PlacesAreApart end
  pub all_are_served : AllAreServed C end
  pub nobody_vanishes : (r : Run S) → Path C (begun start) r → Path C r end → NobodyVanishes r end

-- Where the four facts hold of a cluster, its clients are served as promised, in every run.
abbrev pub AllIsKept : {S : Type 0} → Cluster S → Type 0
AllIsKept {S} C = (start : S) (end : Run S) → Four C start → Path C (begun start) end → Promise C start end

-- At rest only those wait who have to.
abbrev pub RestForgetsNobody : {S : Type 0} → Cluster S → Type 0
RestForgetsNobody {S} C =
    (start : S) (r : Run S) → Four C start → Path C (begun start) r → AtRest C r → NobodyIsForgotten C r

-- Turns are small things, and there is one way to go on: from one run they lead to one that rests.
abbrev pub TurnsAreSmall : {S : Type 0} → Cluster S → Type 0
TurnsAreSmall {S} C = (line : ℕ) (r s : Run S) → Turns C line r s → Path C r s

abbrev pub OneWay : {S : Type 0} → Cluster S → Type 0
OneWay {S} C = (line : ℕ) (r s t : Run S) → Settles C line r s → Settles C line r t → s ≡ t

-- ---- the same of every cluster of these views

-- how a cluster's members are seen
pub record Views (S : Type 0) : Type 1 where
  pub lists : S → List (List Item)
  pub leads : S → ℕ → Bool
  pub leader : S → ℕ → ℕ
  pub propose : S → ℕ → Entry → Proposed S
  pub Moves : S → S → Type 0
  pub Restarts : S → ℕ → S → Type 0

abbrev pub cluster_of : {S : Type 0} → Views S → ℕ → ℕ → ℕ → ℕ → Cluster S
cluster_of v cores replicas id wait = record {
  cores = cores;
  replicas = replicas;
  id = id;
  wait = wait;
  lists = v.lists;
  leads = v.leads;
  leader = v.leader;
  propose = v.propose;
  Moves = v.Moves;
  Restarts = v.Restarts;
}

-- whatever its numbers are
abbrev pub OfEach : {S : Type 0} → (Cluster S → Type 0) → Views S → Type 0
OfEach P v = (cores replicas id wait : ℕ) → P (cluster_of v cores replicas id wait)

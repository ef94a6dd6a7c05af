-- Frames, apart from how they are read and written: the bytes of each envelope in a cluster, and which bytes are a frame.
use Rattle.std.specs.Prelude.{◌≡◌, ℕ, ◌≤◌, Bool, true, false, List, [], ◌∷◌, ◌++◌, length}
use Rattle.std.specs.Int.{w32, w64, to_be_bytes}
use Rattle.ncc_tx.specs.declared.entry.Item.{Item}
use Rattle.ncc_tx.specs.Items.{counted, items_bytes}
use Rattle.ncc_tx.specs.Kept.{AllAllowed, NeverFalls, term_limit}
use Rattle.std.specs.Prelude.{◌<◌}
use Rattle.std.specs.List.{All}
use Rattle.ncc_raft.specs.declared.message.Body.{Body}
use Rattle.ncc_raft.specs.declared.message.Body.TheVariants.{VoteAsk, VoteReply, Append, AppendReply, Pull, Batch}
use Rattle.ncc_raft.specs.declared.message.Envelope.{Envelope}
use Rattle.ncc_wire.specs.declared.kind.Kind.{Kind}
use Rattle.ncc_wire.specs.declared.kind.Kind.TheVariants as k
use Rattle.ncc_wire.specs.Kinds.{Field, any_number, behind_place, code, first_place, flag, frame_size, item_count, member, term, written}

abbrev pub kind_of : Body → Kind
kind_of (VoteAsk t p l) = k.VoteAsk
kind_of (VoteReply t granted) = k.VoteReply
kind_of (Append t p q c items) = k.Append
kind_of (AppendReply t has p) = k.AppendReply
kind_of (Pull have) = k.Pull
kind_of (Batch first items) = k.Batch

abbrev pub flag_of : Bool → ℕ
flag_of false = 0
flag_of true = 1

-- ---- the bytes of an envelope

-- what stands behind sender and receiver
unfoldable pub body_bytes : Body → List ℕ
body_bytes (VoteAsk t p l) = to_be_bytes w64 t ++ to_be_bytes w64 p ++ to_be_bytes w64 l
body_bytes (VoteReply t granted) = to_be_bytes w64 t ++ flag_of granted ∷ []
body_bytes (Append t p q c items) = to_be_bytes w64 t ++ to_be_bytes w64 p ++ to_be_bytes w64 q ++ to_be_bytes w64 c ++ counted items
body_bytes (AppendReply t has p) = to_be_bytes w64 t ++ flag_of has ∷ to_be_bytes w64 p
body_bytes (Pull have) = to_be_bytes w64 have
body_bytes (Batch first items) = to_be_bytes w64 first ++ counted items

-- what stands behind the size: cluster, kind, sender, receiver and body
unfoldable pub content : ℕ → Envelope → List ℕ
content cluster e = to_be_bytes w64 cluster ++ code (kind_of e.body) ∷ e.from ∷ e.to ∷ body_bytes e.body

-- the whole frame, with its size
unfoldable pub frame_bytes : ℕ → Envelope → List ℕ
frame_bytes cluster e = to_be_bytes w32 (length (content cluster e)) ++ content cluster e

-- ---- which bytes are a frame

-- a number that a field may hold, in the bytes that the field has
pub record Spells (f : Field) (n : ℕ) (b : List ℕ) : Type 0 where
  pub least : f.least ≤ n
  pub greatest : n ≤ f.greatest
  pub same : b ≡ written f.wide n

-- items one behind the other
pub record SpellsItems (items : List Item) (b : List ℕ) : Type 0 where
  pub entries : AllAllowed items
  pub same : b ≡ items_bytes items

-- what stands behind sender and receiver, kind by kind
pub data IsBody : Kind → Body → List ℕ → Type 0 where
  asks : (t p l : ℕ) (a b c : List ℕ) → Spells term t a → Spells any_number p b → Spells term l c
      → IsBody k.VoteAsk (VoteAsk t p l) (a ++ (b ++ c))
  votes : (t : ℕ) (granted : Bool) (a b : List ℕ) → Spells term t a → Spells flag (flag_of granted) b
      → IsBody k.VoteReply (VoteReply t granted) (a ++ b)
  appends : (t p q c : ℕ) (items : List Item) (a b d e n i : List ℕ) → Spells term t a → Spells behind_place p b → Spells term q d
      → Spells any_number c e → Spells item_count (length items) n → NeverFalls q t items → SpellsItems items i
      → IsBody k.Append (Append t p q c items) (a ++ (b ++ (d ++ (e ++ (n ++ i)))))
  answers : (t p : ℕ) (has : Bool) (a b c : List ℕ) → Spells term t a → Spells flag (flag_of has) b → Spells any_number p c
      → IsBody k.AppendReply (AppendReply t has p) (a ++ (b ++ c))
  pulls : (have : ℕ) (a : List ℕ) → Spells behind_place have a → IsBody k.Pull (Pull have) a
  gives : (first : ℕ) (items : List Item) (a n i : List ℕ) → Spells first_place first a → Spells item_count (length items) n
      → All (λ i. i.term < term_limit) items → SpellsItems items i → IsBody k.Batch (Batch first items) (a ++ (n ++ i))

-- the size of all that follows it, cluster, kind, sender, receiver, body
pub record IsFrame (cluster : ℕ) (e : Envelope) (bytes : List ℕ) : Type 0 where
  pub kind : Kind
  pub size : List ℕ
  pub owner : List ℕ
  pub from : List ℕ
  pub to : List ℕ
  pub body : List ℕ
  pub whole : bytes ≡ size ++ (owner ++ (code kind ∷ (from ++ (to ++ body))))
  pub sized : Spells frame_size (length (owner ++ (code kind ∷ (from ++ (to ++ body))))) size
  pub of_cluster : Spells any_number cluster owner
  pub sender : Spells member e.from from
  pub receiver : Spells member e.to to
  pub spelled : IsBody kind e.body body

-- The lengths of bodies and frames, and how they grow as they are written.
use Rattle.std.proofs.Common.{◌≡◌, ℕ, ◌+◌, Bool, List, [], ◌∷◌, ◌++◌, length, refl, sym, ap, ◌∙◌, append_assoc, subst, arith}
use Rattle.std.specs.Int.{w32, w64, to_be_bytes}
use Rattle.ncc_tx.specs.declared.entry.Item.{Item}
use Rattle.ncc_tx.specs.Items.{counted}
use Rattle.ncc_tx.specs.Kept.{AllAllowed}
use Rattle.ncc_tx.specs.Spelled.{entry_fits}
use Rattle.std.specs.Prelude.{IsTrue}
use Rattle.std.specs.List.{All}
use Rattle.ncc_tx.proofs.ItemBytes as bytes
use Rattle.ncc_raft.specs.Carried.{FitBehind, IsWithin, append_head, batch_head}
use Rattle.ncc_raft.specs.declared.message.Body.{Body}
use Rattle.ncc_raft.specs.declared.message.Body.TheVariants.{VoteAsk, VoteReply, Append, AppendReply, Pull, Batch}
use Rattle.ncc_raft.specs.declared.message.Envelope.{Envelope}
use Rattle.ncc_wire.specs.Kinds.{code}
use Rattle.ncc_wire.specs.Frames.{body_bytes, content, flag_of, frame_bytes, kind_of}
use Rattle.ncc_wire.proofs.Parts.{append_long, batch_long, content_is, content_long, frame_is}

-- ---- items

pub all_fit : (items : List Item) → AllAllowed items → All (λ i. IsTrue (entry_fits i.entry)) items
all_fit = bytes.all_fit

pub append_items : (b : Body) (t p q c : ℕ) (items : List Item) → b ≡ Append t p q c items → IsWithin b → FitBehind append_head items
append_items b t p q c items e h = let w : IsWithin (Append t p q c items) = subst IsWithin e h in w.5

pub batch_items : (b : Body) (first : ℕ) (items : List Item) → b ≡ Batch first items → IsWithin b → FitBehind batch_head items
batch_items b first items e h = let w : IsWithin (Batch first items) = subst IsWithin e h in w.3

-- ---- lengths

pub asks_long : (b : Body) (t p l : ℕ) → b ≡ VoteAsk t p l → 24 ≡ length (body_bytes b)
unfolding body_bytes
asks_long b t p l e = sym (ap (λ (x : Body). length (body_bytes x)) e)

pub votes_long : (b : Body) (t : ℕ) (g : Bool) → b ≡ VoteReply t g → 9 ≡ length (body_bytes b)
unfolding body_bytes
votes_long b t g e = sym (ap (λ (x : Body). length (body_bytes x)) e)

pub answers_long : (b : Body) (t p : ℕ) (g : Bool) → b ≡ AppendReply t g p → 17 ≡ length (body_bytes b)
unfolding body_bytes
answers_long b t p g e = sym (ap (λ (x : Body). length (body_bytes x)) e)

pub pulls_long : (b : Body) (have : ℕ) → b ≡ Pull have → 8 ≡ length (body_bytes b)
unfolding body_bytes
pulls_long b have e = sym (ap (λ (x : Body). length (body_bytes x)) e)

pub appends_long : (b : Body) (t p q c n : ℕ) (items : List Item) → b ≡ Append t p q c items → n ≡ length (counted items) →
    32 + n ≡ length (body_bytes b)
appends_long b t p q c n items e is = omega (arith, append_long t p q c items, ap (λ (x : Body). length (body_bytes x)) e)

pub gives_long : (b : Body) (first n : ℕ) (items : List Item) → b ≡ Batch first items → n ≡ length (counted items) →
    8 + n ≡ length (body_bytes b)
gives_long b first n items e is = omega (arith, batch_long first items, ap (λ (x : Body). length (body_bytes x)) e)

-- ---- what is written

abbrev eight : ℕ → List ℕ
eight n = to_be_bytes w64 n

-- one part more
more : (init front a x new : List ℕ) → a ≡ init ++ front → new ≡ a ++ x → new ≡ init ++ (front ++ x)
more init front a x new e f = f ∙ ap (λ (l : List ℕ). l ++ x) e ∙ append_assoc init front x

whole : (init front new : List ℕ) (b x : Body) → new ≡ init ++ front → b ≡ x → front ≡ body_bytes x → new ≡ init ++ body_bytes b
whole init front new b x e is same = e ∙ ap (λ (l : List ℕ). init ++ l) same ∙ ap (λ (y : Body). init ++ body_bytes y) (sym is)

pub asks_put : (b : Body) (t p l : ℕ) (init m n new : List ℕ) → b ≡ VoteAsk t p l → m ≡ init ++ to_be_bytes w64 t →
    n ≡ m ++ to_be_bytes w64 p → new ≡ n ++ to_be_bytes w64 l → new ≡ init ++ body_bytes b
unfolding body_bytes
asks_put b t p l init m n new is e f g =
    let two = more init (eight t) m (eight p) n e f in
    let three = more init (eight t ++ eight p) n (eight l) new two g in
    whole init (eight t ++ eight p ++ eight l) new b (VoteAsk t p l) three is refl

pub votes_put : (b : Body) (t : ℕ) (g : Bool) (init m new : List ℕ) → b ≡ VoteReply t g → m ≡ init ++ to_be_bytes w64 t →
    new ≡ m ++ flag_of g ∷ [] → new ≡ init ++ body_bytes b
unfolding body_bytes
votes_put b t g init m new is e f = whole init (eight t ++ flag_of g ∷ []) new b (VoteReply t g)
    (more init (eight t) m (flag_of g ∷ []) new e f) is refl

pub appends_put : (b : Body) (t p q c : ℕ) (items : List Item) (init m n o r new : List ℕ) → b ≡ Append t p q c items →
    m ≡ init ++ to_be_bytes w64 t → n ≡ m ++ to_be_bytes w64 p → o ≡ n ++ to_be_bytes w64 q → r ≡ o ++ to_be_bytes w64 c
    → new ≡ r ++ counted items → new ≡ init ++ body_bytes b
unfolding body_bytes
appends_put b t p q c items init m n o r new is e f g h i =
    let two = more init (eight t) m (eight p) n e f in
    let three = more init (eight t ++ eight p) n (eight q) o two g in
    let four = more init (eight t ++ eight p ++ eight q) o (eight c) r three h in
    let all = more init (eight t ++ eight p ++ eight q ++ eight c) r (counted items) new four i in
    whole init (eight t ++ eight p ++ eight q ++ eight c ++ counted items) new b (Append t p q c items) all is refl

pub answers_put : (b : Body) (t p : ℕ) (g : Bool) (init m n new : List ℕ) → b ≡ AppendReply t g p → m ≡ init ++ to_be_bytes w64 t →
    n ≡ m ++ flag_of g ∷ [] → new ≡ n ++ to_be_bytes w64 p → new ≡ init ++ body_bytes b
unfolding body_bytes
answers_put b t p g init m n new is e f h =
    let two = more init (eight t) m (flag_of g ∷ []) n e f in
    let three = more init (eight t ++ flag_of g ∷ []) n (eight p) new two h in
    whole init (eight t ++ flag_of g ∷ [] ++ eight p) new b (AppendReply t g p) three is refl

pub pulls_put : (b : Body) (have : ℕ) (init new : List ℕ) → b ≡ Pull have → new ≡ init ++ to_be_bytes w64 have → new ≡ init ++ body_bytes b
unfolding body_bytes
pulls_put b have init new is e = whole init (eight have) new b (Pull have) e is refl

pub gives_put : (b : Body) (first : ℕ) (items : List Item) (init m new : List ℕ) → b ≡ Batch first items →
    m ≡ init ++ to_be_bytes w64 first →
    new ≡ m ++ counted items → new ≡ init ++ body_bytes b
unfolding body_bytes
gives_put b first items init m new is e f =
    whole init (eight first ++ counted items) new b (Batch first items) (more init (eight first) m (counted items) new e f) is refl

-- size, cluster, the three bytes, and the body
pub frame_put : (c size kind : ℕ) (e : Envelope) (init m n o new : List ℕ) → size ≡ 11 + length (body_bytes e.body) →
    kind ≡ code (kind_of e.body) →
    m ≡ init ++ to_be_bytes w32 size → n ≡ m ++ to_be_bytes w64 c → o ≡ n ++ kind ∷ (e.from ∷ (e.to ∷ [])) → new ≡ o ++ body_bytes e.body
    → new ≡ init ++ frame_bytes c e
frame_put c size kind e init m n o new s k x y z w =
    let four : List ℕ = to_be_bytes w32 size in
    let three : List ℕ = kind ∷ (e.from ∷ (e.to ∷ [])) in
    let a = more init four m (eight c) n x y in
    let b = more init (four ++ eight c) n three o a z in
    let d = more init (four ++ eight c ++ three) o (body_bytes e.body) new b w in
    let regrouped : four ++ eight c ++ three ++ body_bytes e.body ≡ four ++ (eight c ++ (kind ∷ (e.from ∷ (e.to ∷ body_bytes e.body)))) =
    refl in
    let same : four ++ eight c ++ three ++ body_bytes e.body ≡ frame_bytes c e = regrouped
    ∙ ap (λ (n : ℕ). four ++ (eight c ++ (n ∷ (e.from ∷ (e.to ∷ body_bytes e.body))))) k
    ∙ ap (λ (l : List ℕ). four ++ l) (sym (content_is c e))
    ∙ ap (λ (n : ℕ). to_be_bytes w32 n ++ content c e) (s ∙ sym (content_long c e)) ∙ sym (frame_is c e) in
    d ∙ ap (λ (l : List ℕ). init ++ l) same

-- What is kept of the steps of an open transaction, as connections and members change.
use Rattle.std.proofs.Common.{◌≡◌, ◌≢◌, ◌⊎◌, inl, inr, ℕ, ◌+◌, ◌<◌, Bool, true, false, List, [], ◌∷◌, ◌++◌, length, take, Option, Some}
use Rattle.std.proofs.Common.{None}
use Rattle.std.proofs.Common.{refl, ap, sym, ◌∙◌, subst, arith, IsTrue, length-append, cond}
use Rattle.std.proofs.lemmas.Bool.{false≢true}
use Rattle.std.specs.Prelude.{slice_get, slice_set}
use Rattle.std.proofs.Math.Seq.{take-length}
use Rattle.std.proofs.lemmas.List.{take-append-le}
use Rattle.ncc_store.specs.declared.call.Call.{Call}
use Rattle.ncc_tx.specs.declared.entry.Item.{Item}
use Rattle.ncc_tx.specs.State.{state}
use Rattle.ncc_session.specs.declared.ask.Fact.{Fact}
use Rattle.ncc_session.specs.declared.ask.Fact.TheVariants.{Rows}
use Rattle.ncc_session.specs.Asking.{waiting}
use Rattle.ncc_session.specs.Question.{Question, Row, run, fits, questions_of}
use Rattle.ncc_session.specs.Session.{Standing, asked_at, session}
use Rattle.ncc_session.specs.Talk.{asked, fits_at}
use Rattle.ncc_session.specs.Transactions.{Held, after, Follows, AreTransactions}
use Rattle.ncc_clients.specs.Four.{Begins}
use Rattle.ncc_clients.specs.Members.{config_of}
use Rattle.ncc_clients.specs.Run.{Client, talk_of, with_bytes, with_fact, with_placing, opened, told_to, moved, accepted}
use Rattle.ncc_clients.proofs.Asked.{Asks, holds, holds_push, follows, asks_fresh, asks_still, asks_bytes, asks_fact}
use Rattle.ncc_clients.proofs.Lists.{get_push, get_set, get_there, get_within, set_length}
use Rattle.ncc_clients.proofs.Sessions.{known}
use Rattle.ncc_world.specs.declared.setup.Setup.{Setup}
use Rattle.ncc_world.specs.declared.earlier.Earlier.{Earlier}
use Rattle.ncc_world.specs.declared.seen.ConnSeen.{ConnSeen}
use Rattle.ncc_world.specs.declared.served.Served.{Served}
use Rattle.ncc_world.specs.Setting.{cluster_of, list_at, Seats, lists_of}
use Rattle.ncc_world.specs.Happening.{WorldRun, start_of}
use Rattle.ncc_world.specs.Earlier.{Left, open_behind, InTurn, IsOfOpen, IsKeptOf, Remembers, AllRemember}
use Rattle.ncc_world.specs.Earlier.{IsFrom, LeftBy, LeftFor}
use Rattle.ncc_world.specs.World.{IsClient, asked_by}
use Rattle.ncc_world.specs.Parts.{LeftAt, LeftIn}
use Rattle.ncc_world.specs.declared.answer.Reply as declared
use Rattle.ncc_world.specs.declared.answer.Reply.TheVariants as answer
use Rattle.ncc_world.proofs.Begun.{begins_length}

-- ---- the transaction that is open

open_is : (held : Option Held) (qs : List Question) (facts : List Fact) → open_behind held qs facts ≡ holds held qs facts
open_is held [] facts = refl
open_is held (q ∷ qs) [] = refl
open_is held (q ∷ qs) (fact ∷ facts) = open_is (after held q fact) qs facts

abbrev asks_of : (t : Standing) (facts : List Fact) → InTurn t facts → Asks t facts
asks_of t facts k = record { answered = k.answered; split = k.split; counted = k.counted }

abbrev turn_of : (t : Standing) (facts : List Fact) → Asks t facts → InTurn t facts
turn_of t facts a = record { answered = a.answered; split = a.split; counted = a.counted }

-- a question of steps follows an open transaction: its steps, and one more
record Steps (held : Option Held) (calls : List Call) : Type 0 where
  tx : Held
  tx_is : held ≡ Some tx
  last : Call
  calls_are : calls ≡ tx.calls ++ last ∷ []

steps_by : (held : Option Held) (calls : List Call) → Follows held (run calls) → Steps held calls
steps_by None calls f = absurd f
steps_by (Some h) calls f = record { tx = h; tx_is = refl; last = f.0; calls_are = f.1 }

steps_of : (s : Setup) (c : Client) (calls : List Call) (k : InTurn (talk_of (cluster_of s) c) c.facts)
    → asked_at (talk_of (cluster_of s) c).core ≡ Some (run calls) → Steps (open_behind None k.answered c.facts) calls
steps_of s c calls k asks =
    let t : Standing = talk_of (cluster_of s) c in
    let split : questions_of t.written ≡ k.answered ++ (run calls ∷ []) = k.split ∙ ap (λ o. k.answered ++ waiting o) asks in
    let turn : AreTransactions None (questions_of t.written) c.facts = known.in_turn (config_of (cluster_of s) c.number) c.bytes c.facts in
    let f : Follows (holds None k.answered c.facts) (run calls) =
    follows None k.answered c.facts (run calls) k.counted (subst (λ qs. AreTransactions None qs c.facts) split turn) in
    subst (λ held. Steps held calls) (sym (open_is None k.answered c.facts)) (steps_by (holds None k.answered c.facts) calls f)

all_of : (list : List Item) (n : ℕ) → n ≡ length list → take n list ≡ list
all_of list n e = ap (λ m. take m list) e ∙ take-length list

-- ---- what is kept, where a question of steps waits

same_open : (a b : Held) → Some a ≡ Some b → a.calls ≡ b.calls
same_open a b e = let same : a ≡ b = cc in ap (λ (h : Held). h.calls) same

pub from_kept : (s : Setup) (list : List Item) (c : Client) (o : Option Earlier) (calls : List Call) → Remembers s list c o
    → asked_at (talk_of (cluster_of s) c).core ≡ Some (run calls) → IsFrom list calls o
from_kept s list c None calls k asks = tt
from_kept s list c (Some e) calls k asks =
    let steps = steps_of s c calls k.in_turn asks in
    let open_ : IsOfOpen list (open_behind None k.in_turn.answered c.facts) e = k.kept in
    let same : open_.tx.calls ≡ steps.tx.calls = same_open open_.tx steps.tx (sym open_.tx_is ∙ steps.tx_is) in
    record {
      before = open_.tx.calls;
      last = steps.last;
      calls_are = steps.calls_are ∙ ap (λ (cs : List Call). cs ++ steps.last ∷ []) (sym same);
      left = λ here. subst (λ (l : List Item). Left (state l) open_.tx.calls e.delta) (all_of list e.at here) open_.left;
    }

-- ---- one connection

-- of which nothing has come
pub fresh_remembers : (s : Setup) (list : List Item) (c : Client) → c.bytes ≡ [] → c.facts ≡ [] → Remembers s list c None
fresh_remembers s list c e f = record {
  in_turn = subst (λ (facts : List Fact). InTurn (talk_of (cluster_of s) c) facts) (sym f)
      (subst (λ (t : Standing). InTurn t []) (sym (both e f))
      (turn_of fresh [] (asks_fresh fresh (known.fresh (config_of (cluster_of s) c.number)))));
  kept = tt;
} where
  fresh : Standing
  fresh = session (config_of (cluster_of s) c.number) [] []

  both : c.bytes ≡ [] → c.facts ≡ [] → talk_of (cluster_of s) c ≡ fresh
  both e f =
      ap (λ (bytes : List ℕ). session (config_of (cluster_of s) c.number) bytes c.facts) e
      ∙ ap (λ (facts : List Fact). session (config_of (cluster_of s) c.number) [] facts) f

-- bytes come in
pub fed_remembers : (s : Setup) (list : List Item) (now : ℕ) (c : Client) (piece : List ℕ) (o : Option Earlier)
    → (talk_of (cluster_of s) c).facts ≡ [] → Remembers s list c o → Remembers s list (with_bytes (cluster_of s) now c piece) o
unfolding asks_bytes asks_still
fed_remembers s list now c piece o taken k = go (asked_at (talk_of (cluster_of s) c).core) refl where
  go : (q : Option Question) → asked_at (talk_of (cluster_of s) c).core ≡ q → Remembers s list (with_bytes (cluster_of s) now c piece) o
  go None e =
      let went = known.on_bytes (config_of (cluster_of s) c.number) c.bytes piece c.facts taken e in
      let a = asks_bytes (talk_of (cluster_of s) c) (talk_of (cluster_of s) (with_bytes (cluster_of s) now c piece)) c.facts went e
      (asks_of (talk_of (cluster_of s) c) c.facts k.in_turn) in
      record { in_turn = record { answered = k.in_turn.answered; split = a.split; counted = k.in_turn.counted }; kept = k.kept }
  go (Some q) e =
      let still = known.stands_still (config_of (cluster_of s) c.number) c.bytes piece c.facts q taken e in
      let a = asks_still (talk_of (cluster_of s) c) (talk_of (cluster_of s) (with_bytes (cluster_of s) now c piece)) c.facts still
      (asks_of (talk_of (cluster_of s) c) c.facts k.in_turn) in
      record { in_turn = record { answered = k.in_turn.answered; split = a.split; counted = k.in_turn.counted }; kept = k.kept }

-- its entry is proposed, or it is closed
pub placed_remembers : (s : Setup) (list : List Item) (now place term : ℕ) (c : Client) (o : Option Earlier) → Remembers s list c o
    → Remembers s list (with_placing now c place term) o
placed_remembers s list now place term c o k = record { in_turn = k.in_turn; kept = k.kept }

pub closed_remembers : (s : Setup) (list : List Item) (c : Client) (o : Option Earlier) → Remembers s list c o
    → Remembers s list (record c { closed = true }) o
closed_remembers s list c o k = record { in_turn = k.in_turn; kept = k.kept }

-- it is told a fact that answers its question
told_open : (answered : List Question) (facts : List Fact) (calls : List Call) (at : ℕ) (rows : List Row) (h : Held)
    → length answered ≡ length facts → open_behind None answered facts ≡ Some h
    → open_behind None (answered ++ (run calls ∷ [])) (facts ++ (Rows at rows ∷ []))
    ≡ Some (record { calls = calls; told = h.told ++ rows ∷ [] })
told_open answered facts calls at rows h counted e =
    open_is None (answered ++ (run calls ∷ [])) (facts ++ (Rows at rows ∷ []))
    ∙ holds_push None answered facts (run calls) (Rows at rows) counted
    ∙ ap (λ held. after held (run calls) (Rows at rows)) (sym (open_is None answered facts) ∙ e)

pub told_remembers : (s : Setup) (list : List Item) (now : ℕ) (c : Client) (q : Question) (fact : Fact) (o : Option Earlier)
    → (talk_of (cluster_of s) c).facts ≡ [] → asked_at (talk_of (cluster_of s) c).core ≡ Some q → fits q fact ≡ true
    → InTurn (talk_of (cluster_of s) c) c.facts → LeftBy list q fact o → Remembers s list (with_fact now c fact) o
unfolding asks_fact
told_remembers s list now c q fact o taken asks fit k left = record { in_turn = turn; kept = kept o left } where
  a : Asks (talk_of (cluster_of s) (with_fact now c fact)) (c.facts ++ (fact ∷ []))
  a = asks_fact (talk_of (cluster_of s) c) (talk_of (cluster_of s) (with_fact now c fact)) c.facts q fact
      (known.on_facts (config_of (cluster_of s) c.number) c.bytes c.facts q fact taken asks fit) asks
      (asks_of (talk_of (cluster_of s) c) c.facts k)

  turn : InTurn (talk_of (cluster_of s) (with_fact now c fact)) (c.facts ++ (fact ∷ []))
  turn = record { answered = k.answered ++ (q ∷ []); split = a.split; counted = a.counted }

  kept : (x : Option Earlier) → LeftBy list q fact x
      → IsKeptOf list (open_behind None (k.answered ++ (q ∷ [])) (c.facts ++ (fact ∷ []))) x
  kept None l = tt
  kept (Some e) l =
      let steps = steps_of s c l.calls k (asks ∙ ap (λ (x : Question). Some x) l.asks) in
      record {
        tx = record { calls = l.calls; told = steps.tx.told ++ l.rows ∷ [] };
        tx_is =
            ap (λ (x : Question). open_behind None (k.answered ++ (x ∷ [])) (c.facts ++ (fact ∷ []))) l.asks
            ∙ ap (λ (x : Fact). open_behind None (k.answered ++ (run l.calls ∷ [])) (c.facts ++ (x ∷ []))) l.told
            ∙ told_open k.answered c.facts l.calls e.at l.rows steps.tx k.counted steps.tx_is;
        within = omega (arith, l.here);
        left = subst (λ (x : List Item). Left (state x) l.calls e.delta) (sym (all_of list e.at l.here)) l.left;
      }

-- its member applies more
grown_kept : (old new : List Item) (held : Option Held) (o : Option Earlier) → Begins old new → IsKeptOf old held o → IsKeptOf new held o
grown_kept old new held None b k = tt
grown_kept old new held (Some e) b k =
    let same : take e.at old ≡ take e.at new = sym (take-append-le e.at old b.0 k.within) ∙ ap (take e.at) b.1 in
    record {
      tx = k.tx;
      tx_is = k.tx_is;
      within = omega (arith, k.within, begins_length old new b);
      left = subst (λ (l : List Item). Left (state l) k.tx.calls e.delta) same k.left;
    }

grown_remembers : (s : Setup) (old new : List Item) (c : Client) (o : Option Earlier) → Begins old new → Remembers s old c o
    → Remembers s new c o
grown_remembers s old new c o b k = record {
  in_turn = k.in_turn;
  kept = grown_kept old new (open_behind None k.in_turn.answered c.facts) o b k.kept;
}

-- ---- all of them

pub none_remember : (s : Setup) → AllRemember s [] (start_of s)
none_remember s = record { count = refl; each = λ i c o e f. absurd (cc) }

pub one_more : (s : Setup) (es : List (Option Earlier)) (r : WorldRun) (member : ℕ) (printed : Bool) → AllRemember s es r
    → AllRemember s (es ++ (None ∷ [])) (opened r member printed)
one_more s es r member printed k = record {
  count = length-append es (None ∷ []) ∙ ap (λ n. n + 1) k.count ∙ sym (length-append r.clients (new ∷ []));
  each = λ i c o e f. go i c o (get_push r.clients new i c e) (get_push es None i o f);
} where
  new : Client
  new = record {
    number = length r.clients + 1;
    member = member;
    bytes = [];
    facts = [];
    since = r.now;
    placing = None;
    closed = false;
    printed = printed;
  }

  go : (i : ℕ) (c : Client) (o : Option Earlier) → (slice_get r.clients i ≡ Some c) ⊎ ((i ≡ length r.clients) × (new ≡ c))
      → (slice_get es i ≡ Some o) ⊎ ((i ≡ length es) × (None ≡ o)) → Remembers s (list_at (lists_of r.members) c.member) c o
  go i c o (inl e) (inl f) = k.each i c o e f
  go i c o (inl e) (inr f) = absurd (omega (arith, get_within r.clients i c e, f.0, k.count))
  go i c o (inr e) (inl f) = absurd (omega (arith, get_within es i o f, e.0, k.count))
  go i c o (inr e) (inr f) =
      subst (λ (x : Client). Remembers s (list_at (lists_of r.members) x.member) x o) e.1
      (subst (Remembers s (list_at (lists_of r.members) new.member) new) f.1 (fresh_remembers s (list_at (lists_of r.members) new.member) new refl refl))

-- one connection changes, and what is kept stays
pub one_changes : (s : Setup) (es : List (Option Earlier)) (r : WorldRun) (i : ℕ) (c d : Client) → AllRemember s es r
    → slice_get r.clients i ≡ Some c
    → ((o : Option Earlier) → Remembers s (list_at (lists_of r.members) c.member) c o → Remembers s (list_at (lists_of r.members) d.member) d o)
    → AllRemember s es (record r { clients = slice_set r.clients i d })
one_changes s es r i c d k there h = record {
  count = k.count ∙ sym (set_length r.clients i d);
  each = λ j x o e f. go j x o (get_set r.clients i d j x e) f;
} where
  go : (j : ℕ) (x : Client) (o : Option Earlier) → ((j ≡ i) × (d ≡ x)) ⊎ ((j ≢ i) × (slice_get r.clients j ≡ Some x))
      → slice_get es j ≡ Some o → Remembers s (list_at (lists_of r.members) x.member) x o
  go j x o (inl e) f =
      let at : slice_get es i ≡ Some o = ap (λ n. slice_get es n) (sym e.0) ∙ f in
      subst (λ (y : Client). Remembers s (list_at (lists_of r.members) y.member) y o) e.1 (h o (k.each i c o there at))
  go j x o (inr e) f = k.each j x o e.1 f

-- nothing is kept of one connection any more
pub one_forgotten : (s : Setup) (es : List (Option Earlier)) (r : WorldRun) (i : ℕ) → AllRemember s es r → i < length es
    → AllRemember s (slice_set es i None) r
one_forgotten s es r i k within = record {
  count = set_length es i None ∙ k.count;
  each = λ j x y e f. go j x y e (get_set es i None j y f);
} where
  go : (j : ℕ) (x : Client) (y : Option Earlier) → slice_get r.clients j ≡ Some x
      → ((j ≡ i) × (None ≡ y)) ⊎ ((j ≢ i) × (slice_get es j ≡ Some y)) → Remembers s (list_at (lists_of r.members) x.member) x y
  go j x y e (inl f) =
      let old = get_there es i within in
      let at : slice_get es j ≡ Some old.0 = ap (λ n. slice_get es n) f.0 ∙ old.1 in
      let was : Remembers s (list_at (lists_of r.members) x.member) x old.0 = k.each j x old.0 e at in
      subst (Remembers s (list_at (lists_of r.members) x.member) x) f.1 (record { in_turn = was.in_turn; kept = tt })
  go j x y e (inr f) = k.each j x y e f.1

-- one connection is told a fact, and this is kept of it now
pub one_told : (s : Setup) (es : List (Option Earlier)) (line : ℕ) (r : WorldRun) (i : ℕ) (c : Client) (fact : Fact) (o : Option Earlier)
    → AllRemember s es r → slice_get r.clients i ≡ Some c
    → Remembers s (list_at (lists_of r.members) c.member) (with_fact r.now c fact) o
    → AllRemember s (slice_set es i o) (told_to line r i c fact)
one_told s es line r i c fact o k there new = record {
  count = set_length es i o ∙ k.count ∙ sym (set_length r.clients i (with_fact r.now c fact));
  each = λ j x y e f. go j x y (get_set r.clients i (with_fact r.now c fact) j x e) (get_set es i o j y f);
} where
  go : (j : ℕ) (x : Client) (y : Option Earlier)
      → ((j ≡ i) × (with_fact r.now c fact ≡ x)) ⊎ ((j ≢ i) × (slice_get r.clients j ≡ Some x))
      → ((j ≡ i) × (o ≡ y)) ⊎ ((j ≢ i) × (slice_get es j ≡ Some y)) → Remembers s (list_at (lists_of r.members) x.member) x y
  go j x y (inl e) (inl f) =
      subst (λ (z : Client). Remembers s (list_at (lists_of r.members) z.member) z y) e.1
      (subst (Remembers s (list_at (lists_of r.members) c.member) (with_fact r.now c fact)) f.1 new)
  go j x y (inl e) (inr f) = absurd (f.0 e.0)
  go j x y (inr e) (inl f) = absurd (e.0 f.0)
  go j x y (inr e) (inr f) = k.each j x y e.1 f.1

-- the members apply more
pub all_grown : (s : Setup) (es : List (Option Earlier)) (r : WorldRun) (members : Seats) → AllRemember s es r
    → ((member : ℕ) → Begins (list_at (lists_of r.members) member) (list_at (lists_of members) member))
    → AllRemember s es (moved (cluster_of s) r members)
all_grown s es r members k h = record {
  count = k.count;
  each = λ i c o e f. grown_remembers s (list_at (lists_of r.members) c.member) (list_at (lists_of members) c.member) c o (h c.member) (k.each i c o e f);
}

pub all_accepted : (s : Setup) (es : List (Option Earlier)) (r : WorldRun) (i : ℕ) (c : Client) (place term : ℕ) (members : Seats)
    → AllRemember s es r → slice_get r.clients i ≡ Some c
    → ((member : ℕ) → Begins (list_at (lists_of r.members) member) (list_at (lists_of members) member))
    → AllRemember s es (accepted (cluster_of s) r i c place term members)
all_accepted s es r i c place term members k there h =
    one_changes s es (moved (cluster_of s) r members) i c (with_placing r.now c place term) (all_grown s es r members k h) there
    (λ o. placed_remembers s (list_at (lists_of members) c.member) r.now place term c o)

-- one connection is told a fact that answers its question
pub all_told : (s : Setup) (es : List (Option Earlier)) (line : ℕ) (r : WorldRun) (i : ℕ) (c : Client) (v : Served) (seen : ConnSeen)
    (fact : Fact) (o : Option Earlier) → AllRemember s es r → i < length es → slice_get r.clients i ≡ Some c → IsClient s v seen c
    → IsTrue (fits_at (asked v.conn) fact) → LeftFor s r c fact o → AllRemember s (slice_set es i o) (told_to line r i c fact)
all_told s es line r i c v seen fact o k within there is fit left =
    one_told s es line r i c fact o k there (go (asked_at (talk_of (cluster_of s) c).core) refl) where
      old : (e : Option Earlier) × (slice_get es i ≡ Some e)
      old = get_there es i within

      was : Remembers s (list_at (lists_of r.members) c.member) c old.0
      was = k.each i c old.0 there old.1

      -- the connection has the question of its session
      asks : asked v.conn ≡ asked_at (talk_of (cluster_of s) c).core
      asks = ap (λ (b : Bool). cond b None (asked_at v.conn.place)) is.kept.talk.fine
          ∙ ap asked_at (sym (ap (λ (x : Standing). x.core) is.kept.talk.went))

      go : (q : Option Question) → asked_at (talk_of (cluster_of s) c).core ≡ q
          → Remembers s (list_at (lists_of r.members) c.member) (with_fact r.now c fact) o
      go None e =
          absurd (let no : IsTrue (fits_at None fact) = subst (λ (x : Option Question). IsTrue (fits_at x fact)) (asks ∙ e) fit in
          false≢true no)
      go (Some q) e =
          told_remembers s (list_at (lists_of r.members) c.member) r.now c q fact o (ap (λ (x : Standing). x.facts) is.kept.talk.went) e
          (subst (λ (x : Option Question). IsTrue (fits_at x fact)) (asks ∙ e) fit) was.in_turn (left q e)

-- a connection that asks has the question of its session
pub asks_as_served : (s : Setup) (v : Served) (seen : ConnSeen) (c : Client) (q : Question) → IsClient s v seen c → asked_by v ≡ Some q
    → asked_at (talk_of (cluster_of s) c).core ≡ Some q
asks_as_served s v seen c q is e = go v.closed refl where
  still : asked v.conn ≡ asked_at (talk_of (cluster_of s) c).core
  still = ap (λ (b : Bool). cond b None (asked_at v.conn.place)) is.kept.talk.fine
      ∙ ap asked_at (sym (ap (λ (x : Standing). x.core) is.kept.talk.went))

  go : (b : Bool) → v.closed ≡ b → asked_at (talk_of (cluster_of s) c).core ≡ Some q
  go true h = absurd (let no : None ≡ Some q = ap (λ (b : Bool). cond b None (asked v.conn)) (sym h) ∙ e in cc)
  go false h = sym still ∙ (ap (λ (b : Bool). cond b None (asked v.conn)) (sym h) ∙ e)

-- what is kept behind an answer to its question
pub left_at : (s : Setup) (r : WorldRun) (c : Client) (a : declared.Reply) (q : Question) → asked_at (talk_of (cluster_of s) c).core ≡ Some q
    → LeftIn (list_at (lists_of r.members) c.member) q a → LeftAt s r c a
left_at s r c answer.Waits q e k = tt
left_at s r c answer.Proposes q e k = tt
left_at s r c (answer.Tells fact o) q e k = λ other asks.
    let both : Some q ≡ Some other = sym e ∙ asks in
    let same : q ≡ other = cc in
    subst (λ (x : Question). LeftBy (list_at (lists_of r.members) c.member) x fact o) same k

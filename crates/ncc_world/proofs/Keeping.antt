-- Connections: the question of one, and all of them by their indices.
use Rattle.std.proofs.Common.{◌≡◌, ◌≢◌, ℕ, zero, suc, ◌+◌, ◌-◌, ◌<◌, ◌^◌, min, List, [], ◌∷◌, ◌++◌, length, get_or, Option, None, Some}
use Rattle.std.proofs.Common.{Bool, cond}
use Rattle.std.proofs.Common.{refl, ap, sym, ◌∙◌, subst, map, arith, inl, inr, nat_eq}
use Rattle.std.specs.Prelude.{slice_get, slice_set}
use Rattle.std.specs.List.{AllByRecursion, list_any}
use Rattle.ncc_session.specs.Question.{Question}
use Rattle.ncc_session.specs.Session.{Standing, asked_at}
use Rattle.ncc_session.specs.Talk.{Talk, asked}
use Rattle.ncc_clients.specs.Run.{Client, Placing, question_of, talk_of}
use Rattle.ncc_wait.specs.declared.parked.Parked.{Parked}
use Rattle.std.proofs.lemmas.List.{get_or-set_same, get_or-set_other, length-set}
use Rattle.std.proofs.lemmas.Bool.Decides.{eqb_tells}
use Rattle.ncc_world.specs.declared.served.Change.{Change}
use Rattle.ncc_world.specs.declared.served.Change.TheVariants as change
use Rattle.ncc_world.specs.Parts.{MayChange, changed, marked, parked_anew}
use Rattle.ncc_world.proofs.Rooms.{get_or_any, parked_set, parked_other, numbered_set}
use Rattle.ncc_world.proofs.Tables.{numbers_set}
use Rattle.ncc_world.proofs.Living.{Marks, live_set}
use Rattle.ncc_world.specs.declared.setup.Setup.{Setup}
use Rattle.ncc_world.specs.declared.seen.ConnSeen.{ConnSeen}
use Rattle.ncc_world.specs.declared.served.Served.{Served}
use Rattle.ncc_world.specs.Setting.{cluster_of}
use Rattle.ncc_world.specs.Showing.{conn_seen}
use Rattle.ncc_world.specs.World.{IsKept, IsClient, AreClients, IsSomewhere, IsThere, KeptClients, AreServed, asked_by, parked_by}
use Rattle.ncc_world.specs.World.{parked_of, parked_at, placing_of}

core_is : (s : Setup) (v : Served) (seen : ConnSeen) (c : Client) → IsKept s v seen c → (talk_of (cluster_of s) c).core ≡ v.conn.place
core_is s v seen c k = ap (λ (x : Standing). x.core) k.talk.went

-- its question is its session's
pub asked_is : (s : Setup) (v : Served) (seen : ConnSeen) (c : Client) → IsKept s v seen c → asked_by v ≡ question_of (cluster_of s) c
asked_is s v seen c k =
    ap (λ (b : Bool). cond b None (asked v.conn)) k.closed
    ∙ ap (λ (q : Option Question). cond c.closed None q)
    (ap (λ (b : Bool). cond b None (asked_at v.conn.place)) k.talk.fine ∙ ap asked_at (sym (core_is s v seen c k)))

-- ---- all of them

pub client_at : (s : Setup) (vs : List Served) (seens : List ConnSeen) (cs : List Client) (i : ℕ) (v : Served) (seen : ConnSeen) (c : Client)
    → AreClients s vs seens cs → slice_get cs i ≡ Some c → v ≡ get_or vs i v → seen ≡ get_or seens i seen → IsClient s v seen c
unfolding AreClients
client_at s [] [] [] i v seen c h e f g = absurd (cc)
client_at s [] [] (x ∷ xs) i v seen c h e f g = absurd h
client_at s [] (y ∷ ys) cs i v seen c h e f g = absurd h
client_at s (z ∷ zs) [] cs i v seen c h e f g = absurd h
client_at s (z ∷ zs) (y ∷ ys) [] i v seen c h e f g = absurd h
client_at s (z ∷ zs) (y ∷ ys) (x ∷ xs) zero v seen c h e f g =
    let same : x ≡ c = cc in
    subst (λ (k : Served). IsClient s k seen c) (sym f)
    (subst (λ (k : ConnSeen). IsClient s z k c) (sym g) (subst (λ (k : Client). IsClient s z y k) same h.0))
client_at s (z ∷ zs) (y ∷ ys) (x ∷ xs) (suc i) v seen c h e f g = client_at s zs ys xs i v seen c h.1 e f g

pub clients_set : (s : Setup) (vs : List Served) (seens : List ConnSeen) (cs : List Client) (i : ℕ) (v : Served) (seen : ConnSeen) (c : Client)
    → AreClients s vs seens cs → IsClient s v seen c → AreClients s (slice_set vs i v) (slice_set seens i seen) (slice_set cs i c)
unfolding AreClients
clients_set s [] [] [] i v seen c h k = tt
clients_set s [] [] (x ∷ xs) i v seen c h k = absurd h
clients_set s [] (y ∷ ys) cs i v seen c h k = absurd h
clients_set s (z ∷ zs) [] cs i v seen c h k = absurd h
clients_set s (z ∷ zs) (y ∷ ys) [] i v seen c h k = absurd h
clients_set s (z ∷ zs) (y ∷ ys) (x ∷ xs) zero v seen c h k = (k, h.1)
clients_set s (z ∷ zs) (y ∷ ys) (x ∷ xs) (suc i) v seen c h k = (h.0, clients_set s zs ys xs i v seen c h.1 k)

pub clients_more : (s : Setup) (vs : List Served) (seens : List ConnSeen) (cs : List Client) (v : Served) (seen : ConnSeen) (c : Client)
    → AreClients s vs seens cs → IsClient s v seen c → AreClients s (vs ++ (v ∷ [])) (seens ++ (seen ∷ [])) (cs ++ (c ∷ []))
unfolding AreClients
clients_more s [] [] [] v seen c h k = (k, tt)
clients_more s [] [] (x ∷ xs) v seen c h k = absurd h
clients_more s [] (y ∷ ys) cs v seen c h k = absurd h
clients_more s (z ∷ zs) [] cs v seen c h k = absurd h
clients_more s (z ∷ zs) (y ∷ ys) [] v seen c h k = absurd h
clients_more s (z ∷ zs) (y ∷ ys) (x ∷ xs) v seen c h k = (h.0, clients_more s zs ys xs v seen c h.1 k)

pub record Counts (vs : List Served) (seens : List ConnSeen) (cs : List Client) : Type 0 where
  pub table : length vs ≡ length cs
  pub seen : length seens ≡ length cs

pub clients_count : (s : Setup) (vs : List Served) (seens : List ConnSeen) (cs : List Client) → AreClients s vs seens cs → Counts vs seens cs
unfolding AreClients
clients_count s [] [] [] h = record { table = refl; seen = refl }
clients_count s [] [] (x ∷ xs) h = absurd h
clients_count s [] (y ∷ ys) cs h = absurd h
clients_count s (z ∷ zs) [] cs h = absurd h
clients_count s (z ∷ zs) (y ∷ ys) [] h = absurd h
clients_count s (z ∷ zs) (y ∷ ys) (x ∷ xs) h =
    let k = clients_count s zs ys xs h.1 in record { table = ap suc k.table; seen = ap suc k.seen }

-- what all show
pub seen_all : (s : Setup) (vs : List Served) (seens : List ConnSeen) (cs : List Client) → AreClients s vs seens cs
    → seens ≡ map (conn_seen s) cs
unfolding AreClients
seen_all s [] [] [] h = refl
seen_all s [] [] (x ∷ xs) h = absurd h
seen_all s [] (y ∷ ys) cs h = absurd h
seen_all s (z ∷ zs) [] cs h = absurd h
seen_all s (z ∷ zs) (y ∷ ys) [] h = absurd h
seen_all s (z ∷ zs) (y ∷ ys) (x ∷ xs) h =
    ap (λ (k : ConnSeen). k ∷ ys) h.0.seen_is ∙ ap (λ (k : List ConnSeen). conn_seen s x ∷ k) (seen_all s zs ys xs h.1)

-- ---- where each is

pub there_set : (P : Client → Type 0) (cs : List Client) (i : ℕ) (d : Client) → AllByRecursion P cs → P d → AllByRecursion P (slice_set cs i d)
there_set P [] i d h k = tt
there_set P (x ∷ xs) zero d h k = (k, h.1)
there_set P (x ∷ xs) (suc i) d h k = (h.0, there_set P xs i d h.1 k)

pub there_at : (P : Client → Type 0) (cs : List Client) (i : ℕ) (c : Client) → AllByRecursion P cs → slice_get cs i ≡ Some c → P c
there_at P [] i c h e = absurd (cc)
there_at P (x ∷ xs) zero c h e = let same : x ≡ c = cc in subst P same h.0
there_at P (x ∷ xs) (suc i) c h e = there_at P xs i c h.1 e

pub there_more : (P : Client → Type 0) (cs : List Client) (c : Client) → AllByRecursion P cs → P c → AllByRecursion P (cs ++ (c ∷ []))
there_more P [] c h k = (k, tt)
there_more P (x ∷ xs) c h k = (h.0, there_more P xs c h.1 k)

pub get_there : {X : Type 0} (xs : List X) (i : ℕ) → i < length xs → (x : X) × (slice_get xs i ≡ Some x)
get_there [] i h = absurd (omega (arith, h))
get_there (x ∷ xs) zero h = (x, refl)
get_there (x ∷ xs) (suc i) h = get_there xs i (omega (arith, h))

-- the connection at an index
pub record Here (s : Setup) (count : ℕ) (clients : List Client) (index : ℕ) (v : Served) (seen : ConnSeen) : Type 0 where
  pub client : Client
  pub there : slice_get clients index ≡ Some client
  pub is : IsClient s v seen client
  pub placed : IsThere count client

pub here_at : (s : Setup) (count : ℕ) (k : KeptClients) (clients : List Client) (index : ℕ) (v : Served) (seen : ConnSeen)
    → AreServed s count k clients → index < length k.table → v ≡ get_or k.table index v → seen ≡ get_or k.seen index seen
    → Here s count clients index v seen
here_at s count k clients index v seen a h e f =
    let n = clients_count s k.table k.seen clients a.each in
    let c = get_there clients index (omega (arith, h, n.table)) in
    record {
      client = c.0;
      there = c.1;
      is = client_at s k.table k.seen clients index v seen c.0 a.each c.1 e f;
      placed = there_at (IsThere count) clients index c.0 a.there c.1;
    }

-- ---- what changes of a connection

pub record Same (c d : Client) : Type 0 where
  pub number : d.number ≡ c.number
  pub member : d.member ≡ c.member
  pub placed : IsSomewhere d.placing

pub changed_same : (s : Setup) (now : ℕ) (c : Client) (what : Change) (talk : Talk) → IsSomewhere c.placing → MayChange what talk
    → Same c (changed s now c what)
changed_same s now c (change.Fed piece) talk h m = record { number = refl; member = refl; placed = h }
changed_same s now c (change.Told fact) talk h m = record { number = refl; member = refl; placed = tt }
changed_same s now c (change.Placed p) talk h m = record { number = refl; member = refl; placed = m }
changed_same s now c change.Closed talk h m = record { number = refl; member = refl; placed = h }

parked_is : (s : Setup) (w : Served) (shown : ConnSeen) (d : Client) (wait : ℕ) → IsClient s w shown d → s.wait ≡ wait
    → parked_by shown.conn (min (w.since + wait) (2 ^ 64 - 1)) (placing_of w.placing) (asked_by w) ≡ parked_of s d
parked_is s w shown d wait k e =
    ap (λ n. parked_by n (min (w.since + wait) (2 ^ 64 - 1)) (placing_of w.placing) (asked_by w)) k.kept.conn
    ∙ ap (λ n. parked_by d.number (min (n + wait) (2 ^ 64 - 1)) (placing_of w.placing) (asked_by w)) k.kept.since
    ∙ ap (λ n. parked_by d.number (min (d.since + n) (2 ^ 64 - 1)) (placing_of w.placing) (asked_by w)) (sym e)
    ∙ ap (λ (p : Option Placing). parked_by d.number (min (d.since + s.wait) (2 ^ 64 - 1)) p (asked_by w)) k.kept.placing
    ∙ ap (λ (q : Option Question). parked_by d.number (min (d.since + s.wait) (2 ^ 64 - 1)) d.placing q) (asked_is s w shown d k.kept)

pub changed_all : (s : Setup) (count : ℕ) (k : KeptClients) (clients : List Client) (index : ℕ) (c d : Client) (w : Served) (shown : ConnSeen)
    (room old : List Parked) (set was : List ℕ) (wait : ℕ) → AreServed s count k clients → slice_get clients index ≡ Some c
    → IsThere count c → Same c d → IsClient s w shown d → s.wait ≡ wait → old ≡ get_or k.rooms (shown.member - 1) old
    → room ≡ parked_anew shown.conn (parked_by shown.conn (min (w.since + wait) (2 ^ 64 - 1)) (placing_of w.placing) (asked_by w)) old
    → was ≡ get_or k.live (shown.member - 1) was → Marks shown.conn shown.ended was set
    → AreServed s count (record {
      numbers = k.numbers;
      table = slice_set k.table index w;
      seen = slice_set k.seen index shown;
      rooms = slice_set k.rooms (shown.member - 1) room;
      live = slice_set k.live (shown.member - 1) set;
    })
    (slice_set clients index d)
changed_all s count k clients index c d w shown room old set was wait a there is same client e o f g marks = record {
  each = clients_set s k.table k.seen clients index w shown d a.each client;
  numbered = numbered_set 1 index clients c d a.numbered there same.number;
  keyed = a.keyed ∙ numbers_set index clients c d there same.number;
  there = there_set (IsThere count) clients index d a.there (record {
    low = omega (arith, is.low, same.member);
    high = omega (arith, is.high, same.member);
    placed = same.placed;
  });
  count_is = length-set k.rooms (shown.member - 1) room ∙ a.count_is;
  rooms = λ m l. elim (eqb_tells m (shown.member - 1)) [
    | inl h ↦ own m l h.1
    | inr h ↦ other m l h.1
  ];
  live_count = length-set k.live (shown.member - 1) set ∙ a.live_count;
  live = live_set s count k.live clients index (shown.member - 1) c d shown.ended was set a.live_count a.live a.numbered there same.number
      same.member (omega (arith, at, is.low)) (ap (λ (x : ConnSeen). x.ended) client.seen_is) g
      (λ n. marks n ∙ ap (λ j. marked j shown.ended n (list_any (nat_eq n) was)) number);
} where
  at : shown.member ≡ c.member
  at = client.kept.member ∙ same.member

  number : shown.conn ≡ c.number
  number = client.kept.conn ∙ same.number

  own : (m : ℕ) → m < count → m ≡ shown.member - 1
      → get_or (slice_set k.rooms (shown.member - 1) room) m [] ≡ parked_at s (m + 1) (slice_set clients index d)
  own m l h =
      let within : shown.member - 1 < length k.rooms = omega (arith, h, l, a.count_is) in
      let none : List Parked = [] in
      let mine : c.member ≡ m + 1 = omega (arith, h, at, is.low) in
      let before : old ≡ parked_at s (m + 1) clients =
      o ∙ get_or_any k.rooms (shown.member - 1) old none within ∙ ap (λ j. get_or k.rooms j none) (sym h) ∙ a.rooms m l in
      ap (λ j. get_or (slice_set k.rooms (shown.member - 1) room) j none) h
      ∙ get_or-set_same k.rooms (shown.member - 1) room none within
      ∙ f
      ∙ ap (λ n. parked_anew n (parked_by shown.conn (min (w.since + wait) (2 ^ 64 - 1)) (placing_of w.placing) (asked_by w)) old) number
      ∙ ap (λ (p : Option Parked). parked_anew c.number p old) (parked_is s w shown d wait client e)
      ∙ ap (λ (ps : List Parked). parked_anew c.number (parked_of s d) ps) before
      ∙ parked_set s (m + 1) 1 index clients c d a.numbered there same.number same.member mine

  other : (m : ℕ) → m < count → m ≢ shown.member - 1
      → get_or (slice_set k.rooms (shown.member - 1) room) m [] ≡ parked_at s (m + 1) (slice_set clients index d)
  other m l h =
      get_or-set_other k.rooms (shown.member - 1) m room [] h
      ∙ a.rooms m l
      ∙ parked_other s (m + 1) index clients c d there same.member (λ z. h (omega (arith, z, at)))

-- A connection of which nothing has come.
use Rattle.std.proofs.Common.{◌≡◌, ℕ, ◌+◌, ◌≤◌, List, [], ◌∷◌, ◌++◌, length, None, Bool, false, refl, ap, sym, ◌∙◌, arith, ◌-◌, get_or}
use Rattle.std.specs.Prelude.{is_some, slice_set}
use Rattle.ncc_stream.specs.Stream.{still, going}
use Rattle.ncc_session.specs.declared.config.ConnConfig.{ConnConfig}
use Rattle.ncc_session.specs.Question.{Output, bytes_of}
use Rattle.ncc_session.specs.Session.{Input, Standing, move, start, session, asked_at, is_ended}
use Rattle.ncc_session.specs.Talk.{Talk, Stands as TalkStands}
use Rattle.ncc_session.proofs.Moves.{stays}
use Rattle.ncc_session.proofs.Shaken.{more_none}
use Rattle.ncc_clients.specs.Members.{config_of}
use Rattle.ncc_clients.specs.Run.{Client, question_of, deadline_of, has_ended}
use Rattle.ncc_world.specs.declared.setup.Setup.{Setup}
use Rattle.ncc_world.specs.declared.seen.ConnSeen.{ConnSeen}
use Rattle.ncc_world.specs.declared.served.Served.{Served}
use Rattle.ncc_world.specs.Setting.{cluster_of}
use Rattle.ncc_world.specs.Showing.{conn_seen}
use Rattle.ncc_world.specs.World.{AreServed, IsClient, IsThere, KeptClients, parked_by, parked_of, placing_of}
use Rattle.ncc_world.proofs.Keeping.{clients_more, there_more}
use Rattle.ncc_world.proofs.Rooms.{parked_more, numbered_more}
use Rattle.ncc_world.proofs.Tables.{numbers_more}
use Rattle.ncc_world.proofs.Living.{Marks, live_more}
use Rattle.std.proofs.lemmas.List.{length-set}

-- a session of nothing stands where each session begins
pub begins : (config : ConnConfig) → session config [] [] ≡ still start [] []
unfolding session
begins config = ap (λ (xs : List Input). going (move config) start xs []) (more_none [] refl).1 ∙ stays config start

-- the connection, as it is opened
abbrev pub fresh : ℕ → ℕ → ℕ → Bool → Client
fresh number member now printed = record {
  number = number;
  member = member;
  bytes = [];
  facts = [];
  since = now;
  placing = None;
  closed = false;
  printed = printed;
}

-- what it shows
abbrev pub shown : ℕ → ℕ → Bool → ConnSeen
shown number member printed =
    record { conn = number; member = member; waiting = false; ended = false; printed = printed; out = [] }

pub shown_is : (s : Setup) (number member now : ℕ) (printed : Bool) → shown number member printed ≡ conn_seen s (fresh number member now printed)
shown_is s number member now printed =
    ap (λ (x : Standing). view x) (sym (begins (config_of (cluster_of s) number))) where
      view : Standing → ConnSeen
      view x = record {
        conn = number;
        member = member;
        waiting = is_some (asked_at x.core);
        ended = is_ended x.core.state;
        printed = printed;
        out = bytes_of x.written;
      }

pub asks_none : (s : Setup) (number member now : ℕ) (printed : Bool) → question_of (cluster_of s) (fresh number member now printed) ≡ None
asks_none s number member now printed = ap (λ (x : Standing). asked_at x.core) (begins (config_of (cluster_of s) number))

pub parks_none : (s : Setup) (number member now : ℕ) (printed : Bool) → parked_of s (fresh number member now printed) ≡ None
parks_none s number member now printed =
    let c = fresh number member now printed in
    ap (λ q. parked_by c.number (deadline_of (cluster_of s) c) c.placing q) (asks_none s number member now printed)

goes_on : (s : Setup) (number member now : ℕ) (printed : Bool) → has_ended (cluster_of s) (fresh number member now printed) ≡ false
goes_on s number member now printed = ap (λ (x : Standing). is_ended x.core.state) (begins (config_of (cluster_of s) number))

-- nothing is held
pub holds_nothing : (talk : Talk) (config : ConnConfig) → TalkStands talk config [] [] [] → talk.out ≡ []
holds_nothing talk config k =
    let none : [] ≡ k.written = ap (λ (x : Standing). x.written) (sym (begins config) ∙ k.went) in
    sym (ap (λ (w : List Output). bytes_of w) none ∙ k.out_is)

pub record IsNew (s : Setup) (v : Served) (number now : ℕ) : Type 0 where
  pub talk : TalkStands v.conn (config_of (cluster_of s) number) [] [] []
  pub since : v.since ≡ now
  pub placing : v.placing ≡ None
  pub closed : v.closed ≡ false

pub is_client : (s : Setup) (v : Served) (number member now : ℕ) (printed : Bool) → IsNew s v number now
    → IsClient s v (shown number member printed) (fresh number member now printed)
is_client s v number member now printed k = record {
  kept = record {
    talk = k.talk;
    since = k.since;
    placing = ap placing_of k.placing;
    closed = k.closed;
    conn = refl;
    member = refl;
    printed = refl;
  };
  handed = holds_nothing v.conn (config_of (cluster_of s) number) k.talk;
  seen_is = shown_is s number member now printed;
}

-- with one more connection
pub opened_one : (s : Setup) (count : ℕ) (k : KeptClients) (clients : List Client) (v : Served) (number member now : ℕ) (printed : Bool)
    (set was : List ℕ) → AreServed s count k clients → number ≡ length clients + 1 → 1 ≤ member → member ≤ count → IsNew s v number now
    → was ≡ get_or k.live (member - 1) was → Marks number false was set
    → AreServed s count (record {
      numbers = k.numbers ++ (number ∷ []);
      table = k.table ++ (v ∷ []);
      seen = k.seen ++ (shown number member printed ∷ []);
      rooms = k.rooms;
      live = slice_set k.live (member - 1) set;
    })
    (clients ++ (fresh number member now printed ∷ []))
opened_one s count k clients v number member now printed set was are e low high new f marks = record {
  each = clients_more s k.table k.seen clients v (shown number member printed) (fresh number member now printed) are.each
      (is_client s v number member now printed new);
  numbered = numbered_more 1 clients (fresh number member now printed) are.numbered (omega (arith, e));
  keyed = ap (λ (l : List ℕ). l ++ (number ∷ [])) are.keyed ∙ numbers_more clients (fresh number member now printed);
  there = there_more (IsThere count) clients (fresh number member now printed) are.there (record { low = low; high = high; placed = tt });
  count_is = are.count_is;
  rooms = λ index within. are.rooms index within
      ∙ parked_more s (index + 1) clients (fresh number member now printed) (parks_none s number member now printed);
  live_count = length-set k.live (member - 1) set ∙ are.live_count;
  live = live_more s count k.live clients (member - 1) (fresh number member now printed) was set are.live_count are.live
      (omega (arith, low)) (goes_on s number member now printed) f marks;
}

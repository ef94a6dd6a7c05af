-- What is so of a fleet over time: its lists, its proposals, its messages and its sizes.
use Rattle.std.proofs.Common.{◌≡◌, ◌≢◌, ℕ, zero, suc, ◌+◌, ◌-◌, ◌≤◌, true, List, [], ◌∷◌, ◌++◌, length, map, drop, slice_get, slice_index_or, slice_set, Some, sym, ap, ◌∙◌, subst, inl, inr, arith, length-append}
use Rattle.std.specs.List.{AllByRecursion}
use Rattle.std.proofs.lemmas.Bool.{and_parts}
use Rattle.std.proofs.lemmas.List.{get_or-map, get_or_append_left, get_or-append-add, get_or-set_other, length-map, length-take, map-set}
use Rattle.std.proofs.lemmas.Option.{slice_get_within}
use Rattle.ncc_tx.specs.declared.entry.Entry.{Entry}
use Rattle.ncc_tx.specs.declared.entry.Item.{Item}
use Rattle.ncc_raft.specs.declared.message.Envelope.{Envelope}
use Rattle.ncc_raft.specs.Member.{Member, Outcome, Event, Timeout, Beat, Receive, Propose, is_core, is_leader, restarted}
use Rattle.ncc_raft.specs.Appending.{applied}
use Rattle.ncc_raft.specs.Pulled.{taken}
use Rattle.ncc_safety.specs.Lists.{Begins}
use Rattle.ncc_safety.specs.Cluster.{Records, Cluster, new_member, start}
use Rattle.ncc_safety.specs.Laws.{IsHarmless, IsContradicted, Leads}
use Rattle.ncc_safety.specs.Plain.{Agrees}
use Rattle.ncc_safety.specs.Sentences.{IsCommitted, Front, Sound}
use Rattle.ncc_safety.specs.Steps.{Steps}
use Rattle.ncc_safety.specs.Fleet.{Shape, Fleet, HasShape, is_replica, core_at, list_at, applied_lists, applied_at, core_becomes, list_becomes}
use Rattle.ncc_safety.specs.Fleet.{outcome_at, steps_to, loses_to, Moves, TimesOut, Beats, Hears, Asks, Takes, Rests}
use Rattle.ncc_safety.specs.Fleet.{Again, Amid, Empties, Places, Seen, seen_next, ByProposal, Reached}
use Rattle.ncc_safety.specs.FleetLaws.{ListsBegin, HistoryGoesOn, ListsGoOn, MovesKeep, ProposalsKeep, RestartsKeep, PlacedStays, PlacedBehind, PlacedWithin, PlacedApart}
use Rattle.ncc_safety.specs.FleetLaws.{RefusesElsewhere, FullAtLimit, NeverNotes, NeverContradicts, KeepsShape, IsWithin, StaysWithin}
use Rattle.ncc_safety.proofs.Agree.{get_right}
use Rattle.ncc_safety.proofs.Commits.{committed_long}
use Rattle.ncc_safety.proofs.Fleets.{plain_of, core_within, replica_within, core_same, core_shape, Led, move_leads, place_leads, all_lists, Stands, Comes, goes_on, path_on, reached}
use Rattle.ncc_safety.proofs.Forward.{step_keeps}
use Rattle.ncc_safety.proofs.Fronts.{taken_so, front_none, front_stays, AllFronts, applied_fronts}
use Rattle.ncc_safety.proofs.History.{NoLonger, fronts_begin, history_longer, history_grows}
use Rattle.ncc_safety.proofs.Limits.{log_fits}
use Rattle.ncc_safety.proofs.Logs.{LogGrows, sound_stays, sound_agree}
use Rattle.ncc_safety.proofs.Nines.{front_sound}
use Rattle.ncc_safety.proofs.Offers.{IsAdded, Offered, offered, elsewhere_from, elsewhere_to, full_from}
use Rattle.ncc_safety.proofs.Owners.{one_leader, leader_grows}
use Rattle.ncc_safety.proofs.Quiet.{step_harmless, never_refused}
use Rattle.ncc_safety.proofs.Sane.{Sane, sane_steps, later}
use Rattle.ncc_safety.proofs.Slots.{set_left, set_right}
use Rattle.ncc_safety.proofs.Worlds.{same_outcome, all_same}

-- ---- all that members have applied was chosen

pub fleet_fronts : (shape : Shape) (f : Fleet) (h : List Item) (c : Cluster) → HasShape shape f → Agrees (plain_of shape f h) c → Sane c →
    AllFronts c.cores c.records (applied_lists f)
fleet_fronts shape f h c s a k = subst (λ ls. AllFronts c.cores c.records ls) (all_same (plain_of shape f h) c a ∙ all_lists shape f s)
    (applied_fronts c k.commits k.fronts)

fronts_stay : (n : ℕ) (g h : Records) (ls : List (List Item)) → LogGrows g h → AllFronts n g ls → AllFronts n h ls
fronts_stay n g h [] gr k = tt
fronts_stay n g h (x ∷ xs) gr k = (front_stays n g h x gr k.0, fronts_stay n g h xs gr k.1)

-- so they are in each later state
fronts_later : (c d : Cluster) → Steps c d → Sane c → (ls : List (List Item)) → AllFronts c.cores c.records ls →
    AllFronts d.cores d.records ls
fronts_later c d s k ls x =
    let l = later c d s k in
    subst (λ n. AllFronts n d.records ls) (sym l.cores) (fronts_stay c.cores c.records d.records ls l.logs x)

pub front_at : (n : ℕ) (g : Records) (ls : List (List Item)) (k : ℕ) → AllFronts n g ls → Front n g (slice_index_or ls k [])
front_at n g [] k x = front_none n g
front_at n g (l ∷ ls) zero x = x.0
front_at n g (l ∷ ls) (suc k) x = front_at n g ls k x.1

chosen_sound : (c : Cluster) (xs : List Item) → Sane c → Front c.cores c.records xs → Sound c.records xs
chosen_sound c xs k f = go f.ok
  where
    go : IsCommitted c.cores c.records f.term (length xs) xs → Sound c.records xs
    go (inl z) = λ p x e. let w = slice_get_within xs p x e in absurd (omega arith)
    go (inr x) = front_sound c.records xs (c.records.lead x.term) x.agree (k.logs.records.sound x.term)

-- ---- one history

all_begin : (d : Cluster) (h : List Item) → Sane d → length h ≤ length d.history → (ls : List (List Item)) →
    AllFronts d.cores d.records ls → NoLonger h ls → AllByRecursion (λ list. Begins list d.history) ls
all_begin d h k le [] x n = tt
all_begin d h k le (l ∷ ls) x n =
    let here = n.0 in
    (fronts_begin d l d.history k x.0 k.fronts.history (omega arith), all_begin d h k le ls x.1 n.1)

pub lists_begin : ListsBegin
lists_begin shape x y r p =
    let c = reached shape x r in
    let d = path_on shape x y c.to c.stands p in
    let fronts = fronts_later c.to d.to d.steps c.stands.sane (applied_lists x.fleet)
    (fleet_fronts shape x.fleet x.history c.to c.stands.has c.stands.agrees c.stands.sane) in
    let long = history_longer c.to d.to d.steps in
    let e = ap (λ (h : List Item). length h) c.stands.agrees.history in
    subst (λ h. AllByRecursion (λ list. Begins list h) (applied_lists x.fleet)) d.stands.agrees.history
    (all_begin d.to x.history d.stands.sane (omega arith) (applied_lists x.fleet) fronts c.stands.covered)

pub history_goes_on : HistoryGoesOn
history_goes_on shape x y r p =
    let c = reached shape x r in
    let d = path_on shape x y c.to c.stands p in
    let b = history_grows c.to d.to d.steps c.stands.sane in
    subst (λ h. Begins h y.history) c.stands.agrees.history (subst (λ h. Begins c.to.history h) d.stands.agrees.history b)

-- ---- what a change makes of the lists

applied_is : (shape : Shape) (f : Fleet) (i : ℕ) → HasShape shape f → is_core shape.cores i ≡ true →
    applied_at f i ≡ applied (core_at shape f i)
applied_is shape f i s b =
    let w = core_within shape.cores i b in
    let l = s.cores in
    let n = length-map f.cores applied in
    get_or_append_left (map applied f.cores) f.lists [] (i - 1) (omega arith)
    ∙ get_or-map applied f.cores (i - 1) (new_member shape.cores) [] (omega arith)

pub list_is : (shape : Shape) (f : Fleet) (j : ℕ) → HasShape shape f → is_replica shape j ≡ true → applied_at f j ≡ list_at shape f j
list_is shape f j s b =
    let w = replica_within shape j b in
    let l = s.cores in
    let n = length-map f.cores applied in
    let e : j - 1 ≡ length (map applied f.cores) + (j - shape.cores - 1) = omega arith in
    ap (λ k. slice_index_or (applied_lists f) k []) e ∙ get_or-append-add (map applied f.cores) f.lists (j - shape.cores - 1) []

core_lists : (shape : Shape) (f : Fleet) (i : ℕ) (m : Member) (sent : List Envelope) → HasShape shape f → is_core shape.cores i ≡ true →
    applied_lists (core_becomes f i m sent) ≡ slice_set (applied_lists f) (i - 1) (applied m)
core_lists shape f i m sent s b =
    let w = core_within shape.cores i b in
    let l = s.cores in
    let n = length-map f.cores applied in
    ap (λ z. z ++ f.lists) (map-set applied f.cores (i - 1) m) ∙ set_left (map applied f.cores) f.lists (i - 1) (applied m) (omega arith)

replica_lists : (shape : Shape) (f : Fleet) (j : ℕ) (list : List Item) → HasShape shape f → is_replica shape j ≡ true →
    applied_lists (list_becomes shape f j list) ≡ slice_set (applied_lists f) (j - 1) list
replica_lists shape f j list s b =
    let w = replica_within shape j b in
    let l = s.cores in
    let n = length-map f.cores applied in
    let e : length (map applied f.cores) + (j - shape.cores - 1) ≡ j - 1 = omega arith in
    set_right (map applied f.cores) f.lists (j - shape.cores - 1) list ∙ ap (λ k. slice_set (applied_lists f) k list) e

-- where one list was changed to one that is no shorter, none is
set_longer : (ls : List (List Item)) (i k : ℕ) (list : List Item) → length (slice_index_or ls i []) ≤ length list →
    length (slice_index_or ls k []) ≤ length (slice_index_or (slice_set ls i list) k [])
set_longer [] i k list l = omega arith
set_longer (x ∷ xs) zero zero list l = l
set_longer (x ∷ xs) zero (suc k) list l = omega arith
set_longer (x ∷ xs) (suc i) zero list l = omega arith
set_longer (x ∷ xs) (suc i) (suc k) list l = set_longer xs i k list l

-- no list is shorter behind a change
abbrev NoneShorter : Fleet → Fleet → Type 0
NoneShorter f g = (member : ℕ) → length (applied_at f member) ≤ length (applied_at g member)

core_longer : (shape : Shape) (f : Fleet) (i : ℕ) (m : Member) (sent : List Envelope) → HasShape shape f → is_core shape.cores i ≡ true →
    length (applied (core_at shape f i)) ≤ length (applied m) → NoneShorter f (core_becomes f i m sent)
core_longer shape f i m sent s b l member =
    let e = ap (λ (z : List Item). length z) (applied_is shape f i s b) in
    subst (λ ls. length (applied_at f member) ≤ length (slice_index_or ls (member - 1) [])) (sym (core_lists shape f i m sent s b))
    (set_longer (applied_lists f) (i - 1) (member - 1) (applied m) (omega arith))

list_longer : (shape : Shape) (f : Fleet) (j : ℕ) (list : List Item) → HasShape shape f → is_replica shape j ≡ true →
    length (list_at shape f j) ≤ length list → NoneShorter f (list_becomes shape f j list)
list_longer shape f j list s b l member =
    let e = ap (λ (z : List Item). length z) (list_is shape f j s b) in
    subst (λ ls. length (applied_at f member) ≤ length (slice_index_or ls (member - 1) [])) (sym (replica_lists shape f j list s b))
    (set_longer (applied_lists f) (j - 1) (member - 1) list (omega arith))

-- ---- moves and proposals

commit_fits : (shape : Shape) (f : Fleet) (h : List Item) (c : Cluster) (i : ℕ) → Agrees (plain_of shape f h) c → Sane c →
    is_core shape.cores i ≡ true → (core_at shape f i).commit ≤ length (core_at shape f i).log
commit_fits shape f h c i a k b = subst (λ m. m.commit ≤ length m.log) (a.at i b)
    (committed_long c.cores c.records (c.at i).term (c.at i).commit (c.at i).log (k.commits.members i))

-- a step of a core, where the state behind it is sound
step_longer : (shape : Shape) (f : Fleet) (h : List Item) (d : Cluster) (i : ℕ) (event : Event) → HasShape shape f →
    is_core shape.cores i ≡ true → Agrees (plain_of shape (steps_to shape f i event) h) d → Sane d →
    NoneShorter f (steps_to shape f i event)
step_longer shape f h d i event s b a k =
    let o : Outcome = outcome_at shape f i event in
    let m : Member = core_at shape f i in
    let up : m.commit ≤ o.member.commit = step_keeps (record { id = i; cores = shape.cores; limit = shape.limit }) m event in
    let fits : o.member.commit ≤ length o.member.log =
    subst (λ z. z.commit ≤ length z.log) (core_same shape f i o.member (f.sent ++ o.sent) s b)
    (commit_fits shape (steps_to shape f i event) h d i a k b) in
    let before = length-take m.commit m.log in
    let behind = length-take o.member.commit o.member.log in
    core_longer shape f i o.member (f.sent ++ o.sent) s b (omega arith)

move_longer : (shape : Shape) (f g : Fleet) (h : List Item) (d : Cluster) → HasShape shape f → Agrees (plain_of shape g h) d → Sane d →
    Moves shape f g → NoneShorter f g
move_longer shape f g h d s a k (TimesOut i b) = step_longer shape f h d i Timeout s b a k
move_longer shape f g h d s a k (Beats i b) = step_longer shape f h d i Beat s b a k
move_longer shape f g h d s a k (Hears e b w) = step_longer shape f h d e.to (Receive e) s b a k
move_longer shape f g h d s a k (Asks j i p b) = λ member. omega arith
move_longer shape f g h d s a k (Takes j from first items list b w e) =
    let t = taken_so (list_at shape f j) first items list e in
    let l = ap (λ (z : List Item). length z) t.is in
    let n = length-append (list_at shape f j) (drop (length (list_at shape f j) + 1 - first) items) in
    list_longer shape f j list s b (omega arith)
move_longer shape f g h d s a k Rests = λ member. omega arith

-- lists that are no shorter behind small steps begin with what they were
lists_go_on : (shape : Shape) (x : Seen) (g : Fleet) (c : Cluster) → Stands shape x c → Led shape g x.history c →
    ((d : Cluster) → Agrees (plain_of shape g x.history) d → Sane d → NoneShorter x.fleet g) → ListsGoOn x.fleet g
lists_go_on shape x g c k l longer member =
    let d : Cluster = l.follows.to in
    let a = l.follows.agrees in
    let sane = sane_steps c d l.follows.steps k.sane in
    let old = fronts_later c d l.follows.steps k.sane (applied_lists x.fleet)
    (fleet_fronts shape x.fleet x.history c k.has k.agrees k.sane) in
    let new = fleet_fronts shape g x.history d l.has a sane in
    fronts_begin d (applied_at x.fleet member) (applied_at g member) sane
    (front_at d.cores d.records (applied_lists x.fleet) (member - 1) old)
    (front_at d.cores d.records (applied_lists g) (member - 1) new) (longer d a sane member)

pub moves_keep : MovesKeep
moves_keep shape x r g m =
    let c = reached shape x r in
    let k = c.stands in
    lists_go_on shape x g c.to k (move_leads shape x.fleet x.history c.to k.has k.agrees k.sane g m)
    (λ d a s. move_longer shape x.fleet g x.history d k.has a s m)

pub proposals_keep : ProposalsKeep
proposals_keep shape x r i entry place term g p =
    let c = reached shape x r in
    let k = c.stands in
    let o = offered shape x.fleet i entry place term g p in
    lists_go_on shape x g c.to k (place_leads shape x.fleet x.history c.to k.has k.agrees k.sane i entry place term g p)
    (λ d a s. subst (λ z. Agrees (plain_of shape z x.history) d → NoneShorter x.fleet z) (sym o.after)
    (λ q. step_longer shape x.fleet x.history d i (Propose entry) k.has o.core q s) a)

-- ---- restarts

core_others : (shape : Shape) (f : Fleet) (i : ℕ) (m : Member) (sent : List Envelope) → HasShape shape f → is_core shape.cores i ≡ true →
    (member : ℕ) → 1 ≤ member → member ≢ i → applied_at (core_becomes f i m sent) member ≡ applied_at f member
core_others shape f i m sent s b member l n =
    let w = core_within shape.cores i b in
    ap (λ ls. slice_index_or ls (member - 1) []) (core_lists shape f i m sent s b)
    ∙ get_or-set_other (applied_lists f) (i - 1) (member - 1) (applied m) [] (λ e. n (omega arith))

pub restarts_keep : RestartsKeep
restarts_keep shape x r i g (Again b) member l n =
    let s = (reached shape x r).stands.has in
    core_others shape x.fleet i (restarted shape.cores 0 (core_at shape x.fleet i)) x.fleet.sent s b member l n
restarts_keep shape x r i g (Amid event b may) member l n =
    let s = (reached shape x r).stands.has in
    let m : Member = (outcome_at shape x.fleet i event).member in
    let f : Fleet = loses_to shape x.fleet i event in
    core_others shape f i (restarted shape.cores 0 (core_at shape f i)) f.sent (core_shape shape x.fleet i m x.fleet.sent s) b member l n
    ∙ core_others shape x.fleet i m x.fleet.sent s b member l n
restarts_keep shape x r i g (Empties b) member l n =
    let s = (reached shape x r).stands.has in
    let w = replica_within shape i b in
    ap (λ ls. slice_index_or ls (member - 1) []) (replica_lists shape x.fleet i [] s b)
    ∙ get_or-set_other (applied_lists x.fleet) (i - 1) (member - 1) [] [] (λ e. n (omega arith))

-- ---- proposals

-- the state behind a proposal, with who took it
pub record Took (shape : Shape) (x : Seen) (i : ℕ) (entry : Entry) (place term : ℕ) (g : Fleet) : Type 0 where
  pub offered : Offered shape x.fleet i entry place term g
  pub before : Comes shape x (start shape.cores shape.replicas shape.limit)
  pub behind : Comes shape (seen_next x g) before.to
  pub member : IsAdded (core_at shape x.fleet i) (behind.to.at i) entry

took : (shape : Shape) (x : Seen) (i : ℕ) (entry : Entry) (place term : ℕ) (g : Fleet) → Reached shape x →
    Places shape x.fleet i entry place term g → Took shape x i entry place term g
took shape x i entry place term g r p =
    let o = offered shape x.fleet i entry place term g p in
    let c = reached shape x r in
    let d = goes_on shape x (seen_next x g) c.to c.stands (ByProposal i entry place term g p) in
    let here : d.to.at i ≡ core_at shape g i = d.stands.agrees.at i o.core in
    let out : Outcome = outcome_at shape x.fleet i (Propose entry) in
    let there : core_at shape g i ≡ out.member =
    ap (λ z. core_at shape z i) o.after ∙ core_same shape x.fleet i out.member (x.fleet.sent ++ out.sent) c.stands.has o.core in
    record {
      offered = o;
      before = c;
      behind = d;
      member = subst (λ m. IsAdded (core_at shape x.fleet i) m entry) (sym (here ∙ there)) o.added;
    }

pub placed_stays : PlacedStays
placed_stays shape x r i entry place term g y member item p path there same =
    let t = took shape x i entry place term g r p in
    let d = path_on shape (seen_next x g) y t.behind.to t.behind.stands path in
    let m : Member = core_at shape x.fleet i in
    let l = later t.behind.to d.to d.steps t.behind.stands.sane in
    let log : List Item = (t.behind.to.at i).log in
    let late : List Item = applied_at y.fleet member in
    let mine : Item = record { term = m.term; entry = entry } in
    let early_sound = sound_stays t.behind.to.records d.to.records l.logs log (t.behind.stands.sane.logs.members i).sound in
    let fronts = fleet_fronts shape y.fleet y.history d.to d.stands.has d.stands.agrees d.stands.sane in
    let late_sound = chosen_sound d.to late d.stands.sane (front_at d.to.cores d.to.records (applied_lists y.fleet) (member - 1) fronts) in
    let pi = t.offered.place_is in
    let e : length m.log + 0 ≡ place - 1 = omega arith in
    let at_end : slice_get (m.log ++ mine ∷ []) (length m.log + 0) ≡ Some mine = get_right m.log (mine ∷ []) 0 in
    let here : slice_get log (place - 1) ≡ Some mine =
    ap (λ z. slice_get z (place - 1)) t.member.log ∙ subst (λ n. slice_get (m.log ++ mine ∷ []) n ≡ Some mine) e at_end in
    let a = sound_agree d.to.records log late (place - 1) mine item early_sound late_sound here there (sym t.offered.term_is ∙ sym same) in
    let one : Some mine ≡ Some item = sym here ∙ a (place - 1) (omega arith) ∙ there in
    let is : mine ≡ item = cc in
    ap (λ (z : Item). z.entry) (sym is)

pub placed_behind : PlacedBehind
placed_behind shape x r i entry place term g p =
    let c = reached shape x r in
    let o = offered shape x.fleet i entry place term g p in
    let pi = o.place_is in
    let e = ap (λ (z : List Item). length z) (applied_is shape x.fleet i c.stands.has o.core) in
    let n = length-take (core_at shape x.fleet i).commit (core_at shape x.fleet i).log in
    omega arith

pub placed_within : PlacedWithin
placed_within shape f i entry place term g p =
    let o = offered shape f i entry place term g p in
    let pi = o.place_is in
    let l = o.room in
    (omega arith, omega arith)

pub placed_apart : PlacedApart
placed_apart shape x r i j entry other place term g h y p path q =
    let t = took shape x i entry place term g r p in
    let d = path_on shape (seen_next x g) y t.behind.to t.behind.stands path in
    let o = offered shape y.fleet j other place term h q in
    let m : Member = core_at shape x.fleet i in
    let early : Leads t.behind.to term i = (t.member.leads, t.member.term ∙ sym t.offered.term_is) in
    let there : d.to.at j ≡ core_at shape y.fleet j = d.stands.agrees.at j o.core in
    let late : Leads d.to term j = (ap (λ z. z.role) there ∙ o.leads, ap (λ z. z.term) there ∙ sym o.term_is) in
    let k = t.behind.stands.sane in
    let one = one_leader t.behind.to d.to d.steps k term i j early late in
    let again : Leads d.to term i = subst (λ z. Leads d.to term z) (sym one) late in
    let grows = leader_grows t.behind.to d.to d.steps k term i early again in
    let a = ap (λ (z : List Item). length z) grows.1 in
    let b = length-append (t.behind.to.at i).log grows.0 in
    let now : length (d.to.at i).log ≡ length (core_at shape y.fleet j).log =
    ap (λ z. length (d.to.at z).log) one ∙ ap (λ z. length z.log) there in
    let then_long : length (t.behind.to.at i).log ≡ length m.log + 1 =
    ap (λ (z : List Item). length z) t.member.log ∙ length-append m.log _ in
    let pi = t.offered.place_is in
    let pj = o.place_is in
    omega arith

pub refuses_elsewhere : RefusesElsewhere
refuses_elsewhere shape f i entry = (elsewhere_from shape f i entry, elsewhere_to shape f i entry)

-- ---- messages

pub never_notes : NeverNotes
never_notes shape x r e i w b =
    let c = reached shape x r in
    let a = c.stands.agrees in
    subst (λ (o : Outcome). IsHarmless o.note) (same_outcome (plain_of shape x.fleet x.history) c.to i (Receive e) a b)
    (step_harmless c.to i (Receive e) c.stands.sane (a.sent w.0 e w.1))

pub never_contradicts : NeverContradicts
never_contradicts shape x r from to first items j w b q =
    let c = reached shape x r in
    let a = c.stands.agrees in
    never_refused c.to c.stands.sane from to first items j (a.sent w.0 _ w.1)
    (subst (λ l. IsContradicted (taken l first items)) (sym (a.lists j b)) q)

-- ---- sizes

pub keeps_shape : KeepsShape
keeps_shape shape x r = (reached shape x r).stands.has

pub within : (shape : Shape) (x : Seen) (c : Cluster) → Stands shape x c → IsWithin shape x
within shape x c s =
    let a = s.agrees in
    let k = s.sane in
    let limit = a.limit in
    let fronts = fleet_fronts shape x.fleet x.history c s.has a k in
    record {
      history = let l = log_fits c c.history k.fits (chosen_sound c c.history k k.fronts.history) in
          let e = ap (λ (z : List Item). length z) a.history in omega arith;
      logs = λ i b. let l = log_fits c (c.at i).log k.fits (k.logs.members i).sound in
          let e = ap (λ z. length z.log) (a.at i b) in omega arith;
      lists = λ member. let l = log_fits c (applied_at x.fleet member) k.fits (chosen_sound c (applied_at x.fleet member) k
          (front_at c.cores c.records (applied_lists x.fleet) (member - 1) fronts)) in omega arith;
    }

pub stays_within : StaysWithin
stays_within shape x r = let c = reached shape x r in within shape x c.to c.stands

pub full_at_limit : FullAtLimit
full_at_limit shape x r i entry items e =
    let f = full_from shape x.fleet i entry items e in
    let w = (stays_within shape x r).logs i (and_parts (is_core shape.cores i) (is_leader (core_at shape x.fleet i).role) f.0).0 in
    let q = f.1 in
    let z = f.2 in
    (f.0, omega arith)

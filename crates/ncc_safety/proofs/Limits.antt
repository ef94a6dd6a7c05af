-- No log is longer than the limit.
use Rattle.std.proofs.Common.{◌≡◌, ℕ, ◌≤◌, Bool, true, false, nat_lt, if◌then◌else◌, List, [], ◌∷◌, ◌++◌, length, refl, sym, ◌∙◌, arith, length-append}
use Rattle.std.proofs.lemmas.Bool.{ltb-true}
use Rattle.std.proofs.lemmas.Option.{slice_get_within}
use Rattle.ncc_tx.specs.declared.entry.Entry.TheVariants.{Noop}
use Rattle.ncc_tx.specs.declared.entry.Item.{Item}
use Rattle.ncc_raft.specs.Member.{Seat, Member}
use Rattle.ncc_raft.specs.Elections.{noop_of}
use Rattle.ncc_safety.specs.Cluster.{Cluster, seat_of, no_records, start}
use Rattle.ncc_safety.specs.Sentences.{Sound}
use Rattle.ncc_safety.specs.Steps.{Step, Raises, Stands, Votes, Repeats, Refuses, Counts, Wins, Follows, Takes, Tells, Notes, Advances, Writes, Sends, Restarts, Pulled, Serves, Extends, Forgets, Looks}
use Rattle.ncc_safety.proofs.Puts.{put_all}
use Rattle.ncc_safety.proofs.Agree.{get_some}
use Rattle.ncc_safety.proofs.Logs.{Logs}

abbrev pub Fits : Cluster → Type 0
Fits c = (t : ℕ) → length (c.records.lead t) ≤ c.limit

-- a sound log is within its last item's term's longest
pub log_fits : (c : Cluster) (xs : List Item) → Fits c → Sound c.records xs → length xs ≤ c.limit
log_fits c [] f s = omega arith
log_fits c (x ∷ xs) f s =
    let e = get_some (x ∷ xs) (length xs) (omega arith) in
    let a = (s (length xs) e.0 e.1).1 (length xs) (omega arith) in
    let w = slice_get_within (c.records.lead (e.0).term) (length xs) e.0 (sym a ∙ e.1) in
    let l = f (e.0).term in
    omega arith

noop_fits : (seat : Seat) (m : Member) → length m.log ≤ seat.limit → length (m.log ++ noop_of seat m) ≤ seat.limit
noop_fits seat m l = go (nat_lt (length m.log) seat.limit) refl
  where
    go : (b : Bool) → nat_lt (length m.log) seat.limit ≡ b →
        length (m.log ++ (if b then record { term = m.term; entry = Noop } ∷ [] else [])) ≤ seat.limit
    go true e = let a = length-append m.log (record { term = m.term; entry = Noop } ∷ []) in let q =
        ltb-true (length m.log) seat.limit e in omega arith
    go false e = let a = length-append m.log [] in omega arith

pub step_fits : (c d : Cluster) → Step c d → Logs c → Fits c → Fits d
step_fits c d (Raises i t lt) k f = f
step_fits c d (Stands i nz) k f = f
step_fits c d (Votes i from place last s none utd) k f = f
step_fits c d (Repeats i from nz e) k f = f
step_fits c d (Refuses i to t) k f = f
step_fits c d (Counts i from nz s r) k f = f
step_fits c d (Follows i from) k f = f
step_fits c d (Takes i from prev pterm commit items s r hp) k f = f
step_fits c d (Tells i to t place) k f = f
step_fits c d (Notes i from place b nz s r) k f = f
step_fits c d (Advances i r) k f = f
step_fits c d (Sends i to prev count commit items r l le e) k f = f
step_fits c d (Restarts i commit) k f = f
step_fits c d (Pulled from to have) k f = f
step_fits c d (Serves i to before count items e) k f = f
step_fits c d (Extends j from first items log s e) k f = f
step_fits c d (Forgets j) k f = f
step_fits c d Looks k f = f
step_fits c d (Wins i r has) k f =
    put_all (λ t l. length l ≤ c.limit) c.records.lead (c.at i).term ((c.at i).log ++ noop_of (seat_of c i) (c.at i))
    (noop_fits (seat_of c i) (c.at i) (log_fits c (c.at i).log f (k.members i).sound)) (λ t ne. f t)
step_fits c d (Writes i entry r room) k f =
    put_all (λ t l. length l ≤ c.limit) c.records.lead (c.at i).term ((c.at i).log ++ record { term = (c.at i).term; entry = entry } ∷ [])
    (let a = length-append (c.at i).log (record { term = (c.at i).term; entry = entry } ∷ []) in omega arith) (λ t ne. f t)

pub start_fits : (n r limit : ℕ) → Fits (start n r limit)
unfolding no_records
start_fits n r limit t = omega arith

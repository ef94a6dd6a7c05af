-- The own steps of events.
use Rattle.std.proofs.Common.{◌≡◌, ℕ, ◌<◌, ◌≤◌, List, length, get_or, le-leb, Some, Bool, true, false, cond, ◌&&◌, refl, ap, sym, ◌∙◌, inl, inr}
use Rattle.std.specs.Prelude.{slice_get, nat_le}
use Rattle.std.proofs.lemmas.Bool.Decides.{leb_tells}
use Rattle.std.proofs.lemmas.Option.{slice_get-get_or}
use Rattle.ncc_clients.specs.Run.{Client, fed, closed_at}
use Rattle.ncc_clients.specs.Drives.{feeds, feeds_one, closes_one}
use Rattle.ncc_world.specs.declared.setup.Setup.{Setup}
use Rattle.ncc_world.specs.declared.served.Served.{Served}
use Rattle.ncc_world.specs.Setting.{cluster_of, lists_of}
use Rattle.ncc_world.specs.Happening.{WorldRun, is_member}
use Rattle.ncc_world.specs.World.{KeptRun, RunsAs}
use Rattle.ncc_world.proofs.Proposing.{Sits, sits}

pub sits_at : (s : Setup) (w : KeptRun) (r : WorldRun) (i : ℕ) (v : Served) → RunsAs s w r → i < length w.clients.table
    → v ≡ get_or w.clients.table i v → Sits s r i v
sits_at s w r i v k h e =
    sits s w r i v k h (slice_get-get_or w.clients.table i v h ∙ ap (λ (x : Served). Some x) (sym e))

pub closed_same : (r : WorldRun) (i : ℕ) (d : Client) → slice_get r.clients i ≡ Some d → d.closed ≡ true
    → r ≡ closes_one r i (slice_get r.clients i)
closed_same r i d e h = sym (ap (closes_one r i) e ∙ ap (λ (b : Bool). cond b r (closed_at r i d)) h)

pub closed_now : (r : WorldRun) (i : ℕ) (d : Client) → slice_get r.clients i ≡ Some d → d.closed ≡ false
    → closed_at r i d ≡ closes_one r i (slice_get r.clients i)
closed_now r i d e h = sym (ap (closes_one r i) e ∙ ap (λ (b : Bool). cond b r (closed_at r i d)) h)

pub fed_none : (s : Setup) (r : WorldRun) (i : ℕ) (piece : List ℕ) (d : Client) → slice_get r.clients i ≡ Some d → d.closed ≡ true
    → r ≡ feeds (cluster_of s) r i piece
fed_none s r i piece d e h = sym (ap (feeds_one (cluster_of s) r i piece) e ∙ ap (λ (b : Bool). cond b r (fed (cluster_of s) r i d piece)) h)

pub fed_now : (s : Setup) (r : WorldRun) (i : ℕ) (piece : List ℕ) (d : Client) → slice_get r.clients i ≡ Some d → d.closed ≡ false
    → fed (cluster_of s) r i d piece ≡ feeds (cluster_of s) r i piece
fed_now s r i piece d e h = sym (ap (feeds_one (cluster_of s) r i piece) e ∙ ap (λ (b : Bool). cond b r (fed (cluster_of s) r i d piece)) h)

pub record Ends (low high n : ℕ) : Type 0 where
  pub low_is : low ≤ n
  pub high_is : n ≤ high

both : (a b : Bool) → (a && b) ≡ true → (a ≡ true) × (b ≡ true)
both true b e = (refl, e)
both false b e = absurd (cc)

le_from : (a b : ℕ) → nat_le a b ≡ true → a ≤ b
le_from a b e = elim (leb_tells a b) [ inl h ↦ h.1 | inr h ↦ absurd (let z = h.0 in cc) ]

pub member_ends : (r : WorldRun) (member : ℕ) → is_member r member ≡ true → Ends 1 (length (lists_of r.members)) member
member_ends r member e =
    let h = both (nat_le 1 member) (nat_le member (length (lists_of r.members))) e in
    record { low_is = le_from 1 member h.0; high_is = le_from member (length (lists_of r.members)) h.1 }

pub member_between : (r : WorldRun) (member : ℕ) → 0 < member → member ≤ length (lists_of r.members) → is_member r member ≡ true
member_between r member low high =
    ap (λ (b : Bool). b && nat_le member (length (lists_of r.members))) (le-leb 1 member low) ∙ le-leb member (length (lists_of r.members)) high

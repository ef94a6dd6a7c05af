use Rattle.std.proofs.Common.{◌≡◌, ◌∙◌, ◌≤◌, ◌-◌, min, ℕ, List, [], Some, arith, length, take, ap, sym}
use Rattle.std.proofs.Math.Seq.{take-nil}
use Rattle.std.proofs.lemmas.List.{length-take, take_min}
use Rattle.std.proofs.lemmas.Option.{get_or_from_slice_get}
use Rattle.ncc_clients.specs.Held.{Held}
use Rattle.ncc_world.specs.declared.seen.ConnSeen.{ConnSeen}
use Rattle.ncc_clients.specs.Links.{Link}
use Rattle.ncc_clients.specs.Drives.{down_at, driver_at, waits_above}
use Rattle.ncc_world.specs.Setting.{cluster_of}
use Rattle.ncc_world.specs.Parts.{run_in}
use Rattle.ncc_world.proofs.Doing.{link_of, there_in}
use Rattle.ncc_world.proofs.Rising.{above_past, down_linked, down_unlinked, if_ok_weaker, rest_is}
use Rattle.ncc_world.proofs.running.Running.above.Goals as goal

pub returns-in_default-clause-exact : goal.returns-in_default-clause-exact
returns-in_default-clause-exact c = λ r pending h.
    let s = c.args.setup.now in
    let at = c.args.index in
    let x = there_in s at [] pending c.args.self.now r at h c.requires.there in
    let link = link_of s at [] pending c.args.self.now r at x.0 c.index.result.now h x.1 c.index.ensures in
    c.new.ensures.empty ∙ sym (take-nil c.args.count)
    ∙ ap (λ (xs : List ℕ). take c.args.count xs) (down_unlinked s r at x.0 x.1 (sym link ∙ c.in_default.ensures.none))

pub returns-in_default-clause-small : goal.returns-in_default-clause-small
returns-in_default-clause-small c = λ r pending h.
    let s = c.args.setup.now in
    let at = c.args.index in
    let x = there_in s at [] pending c.args.self.now r at h c.requires.there in
    let link = link_of s at [] pending c.args.self.now r at x.0 c.index.result.now h x.1 c.index.ensures in
    let none : [] ≡ down_at (cluster_of s) r (driver_at r at) = down_unlinked s r at x.0 x.1 (sym link ∙ c.in_default.ensures.none) in
    omega (arith, ap length none)

pub returns-then-seen-at-clause-exact : goal.returns-then-seen-at-clause-exact
returns-then-seen-at-clause-exact c = λ r pending h.
    let s = c.args.setup.now in
    let at = c.args.index in
    let x = there_in s at [] pending c.args.self.now r at h c.requires.there in
    let link = link_of s at [] pending c.args.self.now r at x.0 c.index.result.now h x.1 c.index.ensures in
    let one = c.in-Some.link.now in
    let past : length c.args.self.now.clients.seen ≤ one.conn - 1 =
    omega (arith, c.if-seen-at.true, ap (λ (l : List ConnSeen). length l) c.as_slice-seen.ensures.same, c.saturating_sub-at.ensures, c.conn.ensures.exact) in
    let none : [] ≡ waits_above (cluster_of s) r one = above_past s (run_in c.args.self.now) r one h.runs_as past in
    c.new-then-seen-at.ensures.empty ∙ sym (take-nil c.args.count)
    ∙ ap (λ (xs : List ℕ). take c.args.count xs) (none ∙ down_linked s r at x.0 one x.1 (sym link ∙ c.in-Some.ensures.some))

pub returns-then-seen-at-clause-small : goal.returns-then-seen-at-clause-small
returns-then-seen-at-clause-small c = λ r pending h.
    let s = c.args.setup.now in
    let at = c.args.index in
    let x = there_in s at [] pending c.args.self.now r at h c.requires.there in
    let link = link_of s at [] pending c.args.self.now r at x.0 c.index.result.now h x.1 c.index.ensures in
    let one = c.in-Some.link.now in
    let past : length c.args.self.now.clients.seen ≤ one.conn - 1 =
    omega (arith, c.if-seen-at.true, ap (λ (l : List ConnSeen). length l) c.as_slice-seen.ensures.same, c.saturating_sub-at.ensures, c.conn.ensures.exact) in
    let none : [] ≡ waits_above (cluster_of s) r one = above_past s (run_in c.args.self.now) r one h.runs_as past in
    let down : [] ≡ down_at (cluster_of s) r (driver_at r at) =
    none ∙ down_linked s r at x.0 one x.1 (sym link ∙ c.in-Some.ensures.some) in
    omega (arith, ap (λ (xs : List ℕ). length xs) down)

-- What waits above is what stands behind what came down.
pub returns-clause-exact : goal.returns-clause-exact
returns-clause-exact c =
    if_ok_weaker c.from_slice.result (λ bytes same r pending h.
    let s = c.args.setup.now in
    let at = c.args.index in
    let x = there_in s at [] pending c.args.self.now r at h c.requires.there in
    let link = link_of s at [] pending c.args.self.now r at x.0 c.index.result.now h x.1 c.index.ensures in
    let one = c.in-Some.link.now in
    let rest = rest_is s (run_in c.args.self.now) r one c.as_slice-seen.result.now c.index-seen-at.result c.saturating_sub-at.result c.conn.result
    c.down.result c.as_slice.result.now c.behind-rest.result.now h.runs_as c.as_slice-seen.ensures.same c.if-seen-at.false
    c.saturating_sub-at.ensures c.conn.ensures.exact c.down.ensures.exact c.as_slice.ensures.same c.behind-rest.ensures.exact c.index-seen-at.is in
    same ∙ ap (λ (n : ℕ). take n c.behind-rest.result.now) c.min-len.ensures ∙ take_min c.args.count c.behind-rest.result.now
    ∙ ap (λ (xs : List ℕ). take c.args.count xs) (rest ∙ down_linked s r at x.0 one x.1 (sym link ∙ c.in-Some.ensures.some)))
    c.from_slice.ensures.same

pub returns-clause-within : goal.returns-clause-within
returns-clause-within c =
    if_ok_weaker c.from_slice.result (λ bytes same held link there e some.
    let same_held : c.index.result.now ≡ held = c.index.ensures
    ∙ get_or_from_slice_get c.args.self.now.drivers.list.items c.args.index held c.index.result.now there in
    let same_link : Some c.in-Some.link.now ≡ Some link = sym c.in-Some.ensures.some ∙ ap (λ (y : Held). y.link) same_held ∙ e in
    let one : c.in-Some.link.now ≡ link = cc in
    let down : c.down.result ≡ link.down = c.down.ensures.exact ∙ ap (λ (y : Link). y.down) one in
    let shorter : length bytes ≡ min c.min-len.result (length c.behind-rest.result.now) =
    ap (λ (xs : List ℕ). length xs) same ∙ length-take c.min-len.result c.behind-rest.result.now in
    let some_rest : 1 ≤ length c.behind-rest.result.now = omega (arith, shorter, some) in
    omega (arith, c.behind-rest.ensures.within some_rest, down, shorter))
    c.from_slice.ensures.same

pub returns-clause-small : goal.returns-clause-small
returns-clause-small c =
    if_ok_weaker c.from_slice.result (λ bytes same r pending h.
    let s = c.args.setup.now in
    let at = c.args.index in
    let x = there_in s at [] pending c.args.self.now r at h c.requires.there in
    let link = link_of s at [] pending c.args.self.now r at x.0 c.index.result.now h x.1 c.index.ensures in
    let one = c.in-Some.link.now in
    let rest = rest_is s (run_in c.args.self.now) r one c.as_slice-seen.result.now c.index-seen-at.result c.saturating_sub-at.result c.conn.result
    c.down.result c.as_slice.result.now c.behind-rest.result.now h.runs_as c.as_slice-seen.ensures.same c.if-seen-at.false
    c.saturating_sub-at.ensures c.conn.ensures.exact c.down.ensures.exact c.as_slice.ensures.same c.behind-rest.ensures.exact c.index-seen-at.is in
    let down : c.behind-rest.result.now ≡ down_at (cluster_of s) r (driver_at r at) =
    rest ∙ down_linked s r at x.0 one x.1 (sym link ∙ c.in-Some.ensures.some) in
    omega (arith, ap (λ (xs : List ℕ). length xs) down, c.behind-rest.ensures.small))
    c.from_slice.ensures.same

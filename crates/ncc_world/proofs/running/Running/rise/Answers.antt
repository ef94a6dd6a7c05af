use Rattle.std.proofs.Common.{◌-◌, ◌∙◌, ℕ, [], Option, sym, subst, ap}
use Rattle.std.proofs.lemmas.Result.{on_ok_weaker}
use Rattle.ncc_clients.specs.Links.{Driver}
use Rattle.ncc_clients.specs.Drives.{feeds}
use Rattle.ncc_world.specs.Setting.{cluster_of}
use Rattle.ncc_world.specs.Happening.{WorldRun}
use Rattle.ncc_world.specs.Parts.{RunsMid, rises_some}
use Rattle.ncc_world.proofs.Doing.{link_of, there_in, within_list}
use Rattle.ncc_world.proofs.Rising.{feeds_there, not_true, rises_linked, rises_unlinked}
use Rattle.ncc_world.proofs.running.Running.rise.Goals as goal

pub returns-in_default-clause-ok : goal.returns-in_default-clause-ok
returns-in_default-clause-ok c = λ r pending h.
    let s = c.args.setup.now in
    let at = c.args.index in
    let l = c.requires.live in
    let x = there_in s at [] pending c.args.self.now r at h (within_list s at [] l.pending c.args.self.now l.run at l.driver l.runs_mid l.there) in
    let link = link_of s at [] pending c.args.self.now r at x.0 c.index.result.now h x.1 c.index.ensures in
    subst (λ (t : WorldRun). RunsMid s at [] pending c.args.self.now t)
    (sym (ap (λ (o : Option Driver). rises_some s r o c.args.bytes) x.1
    ∙ rises_unlinked s r x.0 c.args.bytes (sym link ∙ c.in_default.ensures.none))) h

pub returns-clause-ok : goal.returns-clause-ok
returns-clause-ok c =
    on_ok_weaker c.feed_on.result (λ f r pending h.
    let s = c.args.setup.now in
    let at = c.args.index in
    let l = c.requires.live in
    let x = there_in s at [] pending c.args.self.now r at h (within_list s at [] l.pending c.args.self.now l.run at l.driver l.runs_mid l.there) in
    let link = link_of s at [] pending c.args.self.now r at x.0 c.index.result.now h x.1 c.index.ensures in
    subst (λ (t : WorldRun). RunsMid s at [] pending c.feed_on.new.self t)
    (ap (λ (n : ℕ). feeds (cluster_of s) r (n - 1) c.args.bytes) c.conn-conn.ensures.exact
    ∙ feeds_there s r (c.in-Some.link.now.conn - 1) c.args.bytes
    (λ none. absurd (not_true c.is_empty.result c.if-is_empty.false (c.is_empty.ensures.exact.1 none)))
    ∙ sym (rises_linked s r x.0 c.args.bytes c.in-Some.link.now (sym link ∙ c.in-Some.ensures.some))
    ∙ ap (λ (o : Option Driver). rises_some s r o c.args.bytes) (sym x.1))
    (f at [] pending r h))
    c.feed_on.ensures.ok

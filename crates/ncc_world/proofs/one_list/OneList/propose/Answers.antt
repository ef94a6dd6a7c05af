use Rattle.std.proofs.Common.{◌∙◌, ap, sym, subst, length}
use Rattle.ncc_tx.specs.declared.entry.Entry.{Entry}
use Rattle.ncc_world.specs.World.{AreOneList}
use Rattle.ncc_world.specs.Parts.{list_in}
use Rattle.ncc_world.specs.Setting.{appended}
use Rattle.ncc_world.proofs.Offering.{is_elsewhere, is_full, is_placed}
use Rattle.ncc_world.proofs.one_list.OneList.propose.Goals as goal

pub returns-then-not-leads-clause-ok : goal.returns-then-not-leads-clause-ok
returns-then-not-leads-clause-ok c = λ lists k.
    is_elsewhere c.args.setup.now lists c.args.member c.args.entry.now _ (sym (c.leads.ensures.leads c.args.setup.now lists) ∙ c.if-not-leads.true) k

pub returns-then-setup-entries-clause-ok : goal.returns-then-setup-entries-clause-ok
returns-then-setup-entries-clause-ok c = λ lists k.
    is_full c.args.setup.now lists c.args.member c.len-entries.result c.args.entry.now _
    (sym (c.leads.ensures.leads c.args.setup.now lists) ∙ c.if-not-leads.false)
    (c.len-entries.ensures.length ∙ ap length (sym k.first)) c.if-setup-entries.true k

pub returns-clause-ok : goal.returns-clause-ok
returns-clause-ok c = λ lists k.
    is_placed c.args.setup.now lists c.args.member c.len-entries.result c.args.entry.now _
    (sym (c.leads.ensures.leads c.args.setup.now lists) ∙ c.if-not-leads.false)
    (c.len-entries.ensures.length ∙ ap length (sym k.first)) c.if-setup-entries.false
    (subst (λ (e : Entry). AreOneList c.args.setup.now (list_in c.append.new.self) (appended lists e)) c.in_ok-copy.ensures.equal
    (c.in_ok-append.ensures.ok c.args.setup.now lists k))

use Rattle.ncc_apply.proofs.view.one_meaning.Goals as goal

pub returns : goal.returns
returns g c = record { alike = λ a b p q. g.met.V.View.alike c.args.view.now a b p q }

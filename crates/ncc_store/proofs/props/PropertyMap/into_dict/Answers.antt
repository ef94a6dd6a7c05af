use Rattle.ncc_store.proofs.Drafts.{keyed_owned}
use Rattle.ncc_store.proofs.props.PropertyMap.into_dict.Goals as goal

pub returns-in_err-dict-clause-keyed : goal.returns-in_err-dict-clause-keyed
returns-in_err-dict-clause-keyed c = rw (← c.self.view_is) (keyed_owned c.self.inside.pairs.entries c.len.ensures.ordered)

pub returns-in_err-from_str-clause-keyed : goal.returns-in_err-from_str-clause-keyed
returns-in_err-from_str-clause-keyed c = rw (← c.self.view_is) (keyed_owned c.self.inside.pairs.entries c.len.ensures.ordered)

pub returns-in_err-push-clause-keyed : goal.returns-in_err-push-clause-keyed
returns-in_err-push-clause-keyed c = rw (← c.self.view_is) (keyed_owned c.self.inside.pairs.entries c.len.ensures.ordered)

pub returns-clause-keyed : goal.returns-clause-keyed
returns-clause-keyed c = rw (← c.self.view_is) (keyed_owned c.self.inside.pairs.entries c.len.ensures.ordered)

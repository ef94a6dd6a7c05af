use Rattle.ncc_store.proofs.Drafts.{put_null, put_other}
use Rattle.ncc_store.proofs.props.PropertyMap.put.Goals as goal

pub returns-in-Null : goal.returns-in-Null
returns-in-Null c =
    rw (← c.self.view_is, c.in-Null.is) (put_null c.self.inside.pairs.entries c.remove.new.self.entries c.args.key.now
    c.remove.ensures.entries)

pub returns-in_ok-insert-in_default : goal.returns-in_ok-insert-in_default
returns-in_ok-insert-in_default c =
    rw (← c.self.view_is) (put_other c.self.inside.pairs.entries c.insert.new.self.entries c.args.key c.args.value c.into_value.result
    c.in_default.not-Null c.into_value.ensures c.in_ok-insert-in_default.ensures.entries)

use Rattle.std.proofs.Common.{◌+◌, ◌-◌, arith}
use Rattle.ncc_log.proofs.ItemsRead.{all_read, none_left, pending_more}
use Rattle.ncc_log.proofs.records.read_items.Goals as goal

pub read_item-requires : goal.read_item-requires
read_item-requires c = record { place = c.loop.invariant.inside }

pub returns-in-Err-Wrong-clause-none : goal.returns-in-Err-Wrong-clause-none
returns-in-Err-Wrong-clause-none c =
    none_left c.args.payload.now c.args.count c.args.least c.args.greatest c.loop.items c.loop.at (c.args.count - c.loop.counter)
    c.loop.last c.in-Err-Wrong.field-0-0 (omega arith) (rw c.in-Err-Wrong.field-0-is at c.in-Err-Wrong.ensures.only)
    c.loop.invariant

pub loop-preserved : goal.loop-preserved
loop-preserved c =
    pending_more c.args.payload.now c.args.count c.args.least c.args.greatest c.loop.items c.push.new.self c.loop.at c.in-Ok.behind
    (c.args.count - c.loop.counter) (c.args.count - (c.loop.counter + 1)) c.loop.last c.in-Ok.item (omega arith)
    c.in_ok-push-in-Ok.ensures.ok c.in-Ok.ensures.found c.in-Ok.ensures.behind c.in-Ok.ensures.only c.loop.invariant

pub returns-then-at-payload-clause-some : goal.returns-then-at-payload-clause-some
returns-then-at-payload-clause-some c =
    all_read c.args.payload.now c.args.count c.args.least c.args.greatest c.loop.items c.loop.at (c.args.count - c.loop.counter)
    c.loop.last (omega arith) (omega arith) c.loop.invariant

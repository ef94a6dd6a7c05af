use Rattle.std.proofs.Common.{◌≡◌, ◌<◌, ◌+◌, ℕ, List, length, map, vec_capacity, subst, OnOk, arith}
use Rattle.std.proofs.lemmas.Result.{on_err_weaker}
use Rattle.ncc_pack.specs.Short.{short}
use Rattle.ncc_store.specs.Exec.{call_of}
use Rattle.ncc_tx.specs.Spelled.{calls_value, pair_value, told_value}
use Rattle.ncc_tx.proofs.ItemBytes.{any_error}
use Rattle.ncc_tx.proofs.Pairs.{two_full, two_full_behind, two_full_head, two_put}
use Rattle.ncc_tx.proofs.write.put_tx.Goals as goal

pub returns-in_err-put_head-clause-full : goal.returns-in_err-put_head-clause-full
returns-in_err-put_head-clause-full c =
    let calls = calls_value (map call_of c.args.steps.now) in
    let told = told_value c.args.told.now in
    any_error c.from_residual.result (vec_capacity c.args.into.now < length c.args.into.now.items + length
    (short (pair_value (calls, told))))
    (two_full_head calls told (vec_capacity c.args.into.now) (length c.args.into.now.items) c.in_err-put_head.ensures.full)

pub returns-in_err-put_steps-clause-full : goal.returns-in_err-put_steps-clause-full
returns-in_err-put_steps-clause-full c =
    let calls = calls_value (map call_of c.args.steps.now) in
    let told = told_value c.args.told.now in
    any_error c.from_residual-in_err-put_steps.result (vec_capacity c.args.into.now < length c.args.into.now.items + length
    (short (pair_value (calls, told))))
    (two_full calls told c.args.into.now.items c.put_head.new.into.items (vec_capacity c.args.into.now) (vec_capacity c.put_head.new.into)
    c.in_ok-put_head.ensures.ok c.put_head.ensures.grows c.in_err-put_steps.ensures.full)

pub returns-clause-full : goal.returns-clause-full
returns-clause-full c =
    let calls = calls_value (map call_of c.args.steps.now) in
    let told = told_value c.args.told.now in
    on_err_weaker c.put_told.result
    (λ small. two_full_behind calls told c.args.into.now.items c.put_head.new.into.items c.put_steps.new.into.items
    (vec_capacity c.args.into.now) (vec_capacity c.put_steps.new.into)
    c.in_ok-put_head.ensures.ok c.in_ok-put_steps.ensures.ok (omega (arith, c.put_head.ensures.grows, c.put_steps.ensures.grows)) small)
    c.put_told.ensures.full

pub returns-clause-ok : goal.returns-clause-ok
returns-clause-ok c =
    let e = two_put (calls_value (map call_of c.args.steps.now))
    (told_value c.args.told.now) c.args.into.now.items c.put_head.new.into.items c.put_steps.new.into.items
    c.in_ok-put_head.ensures.ok c.in_ok-put_steps.ensures.ok in
    subst (λ (z : List ℕ). OnOk c.put_told.result (c.put_told.new.into.items ≡ z)) e c.put_told.ensures.ok

use Rattle.std.proofs.Common.{◌≡◌, ◌<◌, ◌+◌, ℕ, List, length, vec_capacity, subst, OnOk, arith}
use Rattle.std.proofs.lemmas.Result.{on_err_weaker}
use Rattle.ncc_pack.specs.declared.value.Value.TheVariants as v
use Rattle.ncc_pack.specs.Short.{short}
use Rattle.ncc_tx.specs.Spelled.{call_value}
use Rattle.ncc_store.specs.Exec.{call_of}
use Rattle.ncc_tx.proofs.ItemBytes.{any_error}
use Rattle.ncc_tx.proofs.Pairs.{two_full, two_full_behind, two_full_head, two_put}
use Rattle.ncc_tx.proofs.write.put_step.Goals as goal

pub returns-in_err-put_head-clause-full : goal.returns-in_err-put_head-clause-full
returns-in_err-put_head-clause-full c =
    any_error c.from_residual.result (vec_capacity c.args.into.now < length c.args.into.now.items + length
    (short (call_value (call_of c.args.step.now))))
    (two_full_head (v.Text c.args.step.now.source) (v.Dict c.args.step.now.params) (vec_capacity c.args.into.now)
    (length c.args.into.now.items) c.in_err-put_head.ensures.full)

pub returns-in_err-put_text-clause-full : goal.returns-in_err-put_text-clause-full
returns-in_err-put_text-clause-full c =
    any_error c.from_residual-in_err-put_text.result (vec_capacity c.args.into.now < length c.args.into.now.items + length
    (short (call_value (call_of c.args.step.now))))
    (two_full (v.Text c.args.step.now.source) (v.Dict c.args.step.now.params) c.args.into.now.items c.put_head.new.into.items
    (vec_capacity c.args.into.now) (vec_capacity c.put_head.new.into)
    c.in_ok-put_head.ensures.ok c.put_head.ensures.grows c.in_err-put_text.ensures.full)

pub returns-clause-full : goal.returns-clause-full
returns-clause-full c =
    on_err_weaker c.put_dict.result (λ small. two_full_behind (v.Text c.args.step.now.source)
    (v.Dict c.args.step.now.params) c.args.into.now.items c.put_head.new.into.items c.put_text.new.into.items
    (vec_capacity c.args.into.now) (vec_capacity c.put_text.new.into)
    c.in_ok-put_head.ensures.ok c.in_ok-put_text.ensures.ok (omega (arith, c.put_head.ensures.grows, c.put_text.ensures.grows)) small)
    c.put_dict.ensures.full

pub returns-clause-ok : goal.returns-clause-ok
returns-clause-ok c =
    let e = two_put (v.Text c.args.step.now.source)
    (v.Dict c.args.step.now.params) c.args.into.now.items c.put_head.new.into.items c.put_text.new.into.items
    c.in_ok-put_head.ensures.ok c.in_ok-put_text.ensures.ok in
    subst (λ (z : List ℕ). OnOk c.put_dict.result (c.put_dict.new.into.items ≡ z)) e c.put_dict.ensures.ok

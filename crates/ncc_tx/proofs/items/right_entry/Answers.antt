use Rattle.std.proofs.Common.{◌≡◌, length, take, drop, ap, arith, rules, length-drop}
use Rattle.std.proofs.lemmas.List.{take_rest}
use Rattle.ncc_tx.specs.declared.entry.EntryError.TheVariants as fault
use Rattle.ncc_tx.proofs.ItemRead.{entry_read, entry_unread, not_ok, too_far, too_long}
use Rattle.ncc_tx.proofs.items.right_entry.Goals as goal
use Rattle.ncc_tx.proofs.items.right_entry.Goals.{then-size-gt-MAX_ENTRY-via-then-size-gt-MAX_ENTRY}
use Rattle.ncc_tx.proofs.items.right_entry.Goals.{then-size-gt-MAX_ENTRY-via-else-size-gt-MAX_ENTRY+then-size-behind}

pub returns-then-size-gt-MAX_ENTRY-clause-none : goal.returns-then-size-gt-MAX_ENTRY-clause-none
returns-then-size-gt-MAX_ENTRY-clause-none c =
    let bs = c.args.bytes.now in
    let e = ap length (take_rest bs 12) in
    elim c.then-size-gt-MAX_ENTRY.branch [
      | then-size-gt-MAX_ENTRY-via-then-size-gt-MAX_ENTRY w ↦ too_long bs c.args.size c.requires.size w.if-size-gt-MAX_ENTRY.true
      | then-size-gt-MAX_ENTRY-via-else-size-gt-MAX_ENTRY+then-size-behind w ↦ too_far bs c.args.size c.requires.there c.requires.size
          (omega (arith, w.if-size-behind.true, e, length-drop 12 bs))
    ]

pub returns-in-Ok-clause-some : goal.returns-in-Ok-clause-some
returns-in-Ok-clause-some c =
    let bs = c.args.bytes.now in
    let e = take_rest bs 12 in
    let h = c.in-Ok.ensures.found in
    entry_read bs _ c.args.size c.in-Ok.entry c.requires.size c.if-size-gt-MAX_ENTRY.false (omega (
      arith,
      c.if-size-behind.false,
      ap length e,
      length-drop 12 bs,
    )) (ap (take c.args.size) e) h.0 h.1

pub returns-in-Err : goal.returns-in-Err
returns-in-Err c =
    let bs = c.args.bytes.now in
    let other : c.in-Err.field-0 ≡ fault.Memory → ⊥ = search rules in
    record {
      some = tt;
      none = entry_unread bs _ c.args.size c.requires.size (ap (take c.args.size) (take_rest bs 12))
          (λ x f same. not_ok c.in-Err.field-0 other x (c.in-Err.ensures.only x f same));
    }

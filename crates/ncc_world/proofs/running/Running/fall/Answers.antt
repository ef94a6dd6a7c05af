use Rattle.std.proofs.Common.{◌≡◌, ◌∙◌, ℕ, List, [], Bool, IsTrue, arith, length, take, ap, sym, subst, rules}
use Rattle.std.proofs.Math.Seq.{take-nil}
use Rattle.std.specs.Prelude.{nat_le}
use Rattle.ncc_driver.specs.LawsFits.{AreBytes}
use Rattle.ncc_driver.specs.declared.action.Input.TheVariants as i
use Rattle.ncc_clients.specs.Links.{Driver}
use Rattle.ncc_clients.specs.Drives.{down_at, driver_at, told_input, with_driver}
use Rattle.ncc_clients.specs.Held.{fallen}
use Rattle.ncc_world.specs.Setting.{cluster_of}
use Rattle.ncc_world.specs.Happening.{WorldRun}
use Rattle.ncc_world.specs.Parts.{RunsMid, drivers_in}
use Rattle.ncc_world.proofs.Doing.{all_at, at_all, held_at, there_in, within_list}
use Rattle.ncc_world.proofs.Listening.{mid_becomes, there_now}
use Rattle.ncc_world.proofs.Rising.{falls_nothing, falls_some, linked_by, not_true, some_bytes, some_tells}
use Rattle.ncc_world.proofs.running.Running.fall.Goals as goal

pub returns-then-is_empty-clause-ok : goal.returns-then-is_empty-clause-ok
returns-then-is_empty-clause-ok c = λ r h.
    let s = c.args.setup.now in
    let at = c.args.index in
    let down = down_at (cluster_of s) r (driver_at r at) in
    let empty : c.in_ok-bytes.bytes ≡ [] = c.is_empty.ensures.exact.0 (subst (λ (b : Bool). IsTrue b) (sym c.if-is_empty.true) (search rules)) in
    let none : take c.args.count down ≡ [] = sym (c.in_ok-bytes.ensures.exact r [] (all_at s at c.args.self.now r h)) ∙ empty in (
      subst AreBytes (sym none) tt,
      ap (λ (xs : List ℕ). nat_le 1 (length xs)) (sym none),
      subst (λ (t : WorldRun). RunsMid s 0 [] [] c.args.self.now t) (falls_nothing s c.args.line at r (take c.args.count) none) h,
    )

pub returns-then-is_empty-clause-small : goal.returns-then-is_empty-clause-small
returns-then-is_empty-clause-small c = λ r h. c.in_ok-bytes.ensures.small r [] (all_at c.args.setup.now c.args.index c.args.self.now r h)

pub fall-requires-clause-there : goal.fall-requires-clause-there
fall-requires-clause-there c =
    let l = c.requires.live in
    within_list c.args.setup.now c.args.index [] l.pending c.args.self.now l.run c.args.index l.driver l.runs_mid l.there

pub fall-requires-clause-within : goal.fall-requires-clause-within
fall-requires-clause-within c = λ s now driving pending d link there k e.
    let x = held_at s c.args.index [] pending (drivers_in c.args.self.now.drivers) now driving c.args.index d k there in
    let some = some_bytes c.in_ok-bytes.bytes (λ none. not_true c.is_empty.result c.if-is_empty.false (c.is_empty.ensures.exact.1 none)) in
    omega (arith, c.in_ok-bytes.ensures.within x.0 link x.1 (x.2 ∙ e) some, c.len.ensures.length)

pub hear-requires-clause-live : goal.hear-requires-clause-live
hear-requires-clause-live c =
    let s = c.args.setup.now in
    let at = c.args.index in
    let h = c.requires.live in
    let e : Driver = record h.driver { link = fallen c.len.result h.driver.link } in
    record {
      run = with_driver h.run at e;
      pending = h.pending;
      runs_mid = mid_becomes s at [] [] h.pending c.args.self.now h.run c.fall.new.self h.driver e h.there (c.fall.ensures.ok s h.driver) h.runs_mid;
      driver = e;
      there = there_now h.run at h.driver e h.there;
    }

pub returns-clause-ok : goal.returns-clause-ok
returns-clause-ok c = λ r h.
    let s = c.args.setup.now in
    let at = c.args.index in
    let l = c.requires.live in
    let bytes = c.in_ok-bytes.bytes in
    let k = all_at s at c.args.self.now r h in
    let x = there_in s at [] [] c.args.self.now r at k (within_list s at [] l.pending c.args.self.now l.run at l.driver l.runs_mid l.there) in
    let some : bytes ≡ [] → ⊥ = λ none. not_true c.is_empty.result c.if-is_empty.false (c.is_empty.ensures.exact.1 none) in
    let are : bytes ≡ take c.args.count (down_at (cluster_of s) r (driver_at r at)) = c.in_ok-bytes.ensures.exact r [] k in
    let link = linked_by s r at x.0 (take c.args.count) bytes x.1 (take-nil c.args.count) are some in
    let e : Driver = record x.0 { link = fallen c.len.result x.0.link } in
    let m = mid_becomes s at [] [] [] c.args.self.now r c.fall.new.self x.0 e x.1 (c.fall.ensures.ok s x.0) k in
    let z = c.in_ok-hear.ensures.ok (with_driver r at e) e [] (there_now r at x.0 e x.1) m in
    let told : RunsMid s at [] [] c.hear.new.self (told_input (cluster_of s) c.args.line at
    (with_driver r at (record x.0 { link = fallen (length bytes) x.0.link })) (record x.0 { link = fallen (length bytes) x.0.link }) (i.Bytes bytes)) =
    subst (λ (n : ℕ). RunsMid s at [] [] c.hear.new.self (told_input (cluster_of s) c.args.line at
    (with_driver r at (record x.0 { link = fallen n x.0.link })) (record x.0 { link = fallen n x.0.link }) (i.Bytes bytes))) c.len.ensures.length z in (
      subst (λ (xs : List ℕ). AreBytes xs) (c.as_slice.ensures.same ∙ are) c.are_bytes.ensures.below,
      some_tells bytes some ∙ ap (λ (xs : List ℕ). nat_le 1 (length xs)) are,
      at_all s at c.hear.new.self _
          (subst (λ (t : WorldRun). RunsMid s at [] [] c.hear.new.self t)
          (falls_some s c.args.line at r x.0 (take c.args.count) bytes link.0 x.1 link.1 are some) told),
    )

pub returns-clause-small : goal.returns-clause-small
returns-clause-small c = λ r h. c.in_ok-bytes.ensures.small r [] (all_at c.args.setup.now c.args.index c.args.self.now r h)

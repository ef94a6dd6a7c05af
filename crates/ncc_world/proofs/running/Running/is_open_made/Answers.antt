use Rattle.std.proofs.Common.{◌≡◌, ◌∙◌, ◌-◌, ap, arith, sym, refl, inl, inr, get_or, true, false, List}
use Rattle.ncc_world.specs.declared.seen.ConnSeen.{ConnSeen}
use Rattle.ncc_world.specs.Happening.{is_linked}
use Rattle.ncc_world.specs.Parts.{run_in}
use Rattle.ncc_world.proofs.Opened.{made_there, made_not}
use Rattle.ncc_world.proofs.running.Running.is_open_made.Goals as goal
use Rattle.ncc_world.proofs.running.Running.is_open_made.Goals.{then-conn-eq0-via-then-conn-eq0, then-conn-eq0-via-else-conn-eq0+then-len-conn}

pub returns-then-conn-eq0 : goal.returns-then-conn-eq0
returns-then-conn-eq0 c = record {
  exact = λ r k. made_not c.args.setup.now (run_in c.args.self.now) r c.args.conn k.runs_as (elim c.then-conn-eq0.branch [
    | then-conn-eq0-via-then-conn-eq0 w ↦ inl w.if-conn-eq0.true
    | then-conn-eq0-via-else-conn-eq0+then-len-conn w ↦ inr (omega (arith, w.if-len-conn.true, w.len.ensures.length))
  ]);
}

pub returns-then-as_slice-conn : goal.returns-then-as_slice-conn
returns-then-as_slice-conn c = record {
  exact = λ r k.
      let d = c.index-as_slice-conn.result in
      let printed : (get_or c.args.self.now.clients.seen (c.args.conn - 1) d).printed ≡ true =
      sym (ap (λ (l : List ConnSeen). (get_or l (c.args.conn - 1) d).printed) c.as_slice.ensures.same) ∙ c.if-as_slice-conn.true in
      made_there c.args.setup.now (run_in c.args.self.now) r c.args.conn d true c.is_linked.result k.runs_as
      (omega (arith, c.if-conn-eq0.false)) (omega (arith, c.if-len-conn.false, c.len.ensures.length)) printed
      (c.is_linked.ensures.exact ∙ k.drives.linked c.args.conn);
}

pub returns-else-as_slice-conn : goal.returns-else-as_slice-conn
returns-else-as_slice-conn c = record {
  exact = λ r k.
      let d = c.index-as_slice-conn.result in
      let printed : (get_or c.args.self.now.clients.seen (c.args.conn - 1) d).printed ≡ false =
      sym (ap (λ (l : List ConnSeen). (get_or l (c.args.conn - 1) d).printed) c.as_slice.ensures.same) ∙ c.if-as_slice-conn.false in
      c.if-as_slice-conn.false ∙ made_there c.args.setup.now (run_in c.args.self.now) r c.args.conn d false (is_linked r c.args.conn) k.runs_as
      (omega (arith, c.if-conn-eq0.false)) (omega (arith, c.if-len-conn.false, c.len.ensures.length)) printed refl;
}

use Rattle.std.proofs.Common.{◌++◌, ap, ◌∙◌}
use Rattle.std.specs.List.{flat_map}
use Rattle.ncc_replay.specs.Report.{fact_line, work_line, conn_line, out_line, member_line}
use Rattle.ncc_replay.proofs.Spelling.{on_ok_then, report_made}
use Rattle.ncc_replay.proofs.report.report.Goals as goal

pub returns : goal.returns
returns c = record {
  appended = λ r st.
      let works = c.as_slice-2.ensures.same ∙ c.works.ensures.works r st in
      on_ok_then c.extend-2.result c.extend-2.ensures.ok (λ last. report_made c.args.world.now.setup r c.args.into.now
      c.extend.new.self c.append_told.new.into c.append_works.new.into c.append_conns.new.into c.append_outs.new.into
      c.append_members.new.into c.append_history.new.into c.extend-2.new.self c.in_ok-extend.ensures.ok
      (c.in_ok-append_told.ensures ∙ ap (λ l. c.extend.new.self ++ flat_map fact_line l) (c.as_slice.ensures.same
      ∙ c.told.ensures.told r st))
      (c.in_ok-append_works.ensures ∙ ap (λ l. c.append_told.new.into ++ flat_map work_line l) works)
      (c.in_ok-append_conns.ensures ∙ ap (λ l. c.append_works.new.into ++ flat_map conn_line l) (c.as_slice-3.ensures.same
      ∙ c.conns.ensures.conns r st))
      (c.in_ok-append_outs.ensures ∙ ap (λ l. c.append_conns.new.into ++ flat_map out_line l) (c.as_slice-4.ensures.same
      ∙ c.conns-2.ensures.conns r st))
      (c.in_ok-append_members.ensures ∙ ap (λ l. c.append_outs.new.into ++ flat_map member_line l) (c.as_slice-5.ensures.same
      ∙ c.members.ensures.members r st))
      (c.in_ok-append_history.ensures r st) last);
}

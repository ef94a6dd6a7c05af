use Rattle.std.proofs.Common.{ap, ◌∙◌, length}
use Rattle.ncc_replay.proofs.Spelling.{history_made, on_ok_then}
use Rattle.ncc_replay.proofs.report.append_history.Goals as goal

pub returns : goal.returns
returns c = λ r st.
    let items = c.as_slice.ensures.same ∙ c.history-2.ensures.history r st in
    on_ok_then c.append_places.result (c.append_places.ensures r st items) (λ last. history_made r.history c.as_slice.result.now c.len.result
    c.args.into.now c.append_counted.new.into c.extend.new.self c.append_places.new.into
    (c.len.ensures.length ∙ ap length (c.history.ensures.history r st)) items c.in_ok-append_counted.ensures c.in_ok-extend.ensures.ok last)

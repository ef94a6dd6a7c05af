use Rattle.std.proofs.Common.{◌≡◌, ◌++◌, ◌∷◌, [], ℕ, List, length, take, drop, sym, ap, ◌∙◌, append_assoc, length-drop, arith}
use Rattle.std.proofs.lemmas.Result.{on_ok_weaker}
use Rattle.ncc_chunk.specs.Chunked.{chunk_of, chunks_of}
use Rattle.ncc_pack.specs.Writing.{Begins}
use Rattle.ncc_chunk.proofs.Pieces.{chunks_more, chunks_last}
use Rattle.ncc_chunk.proofs.chunking.append.Goals as goal

begins_then : (a b c : List ℕ) → Begins a b → Begins b c → Begins a c
begins_then a b c p q = (p.0 ++ q.0, q.1 ∙ ap (λ v. v ++ q.0) p.1 ∙ append_assoc a p.0 q.0)

pub loop-left-preserved : goal.loop-left-preserved
loop-left-preserved c =
    let left = c.loop-left.left.now in
    let cut = c.split_at.ensures in
    let back = cut.back in
    let l = length-drop 65535 left in
    let k = ap length back in
    let next = c.in_ok-append_chunk.ensures.ok in
    record {
      some = omega arith;
      kept = begins_then c.args.into.now c.loop-left.into c.append_chunk.new.into c.loop-left.invariant.kept
          (chunk_of c.split_at.result.0.now, next);
      whole = rw (
        next,
        cut.front,
        back,
        append_assoc c.loop-left.into (chunk_of (take 65535 left)) (chunks_of (drop 65535 left)),
        ← chunks_more left (omega arith),
      ) c.loop-left.invariant.whole;
    }

pub returns-clause-ok : goal.returns-clause-ok
returns-clause-ok c =
    let left = c.loop-left.left.now in
    let last = c.in_ok-append_chunk-2.ensures.ok in
    let whole = c.loop-left.invariant.whole in
    let chunks = chunks_last left (omega arith) in
    on_ok_weaker _ (λ (e : c.extend.new.self ≡ c.append_chunk-2.new.into ++ 0 ∷ 0 ∷ []). (
    e ∙ ap (λ v. v ++ 0 ∷ 0 ∷ []) (last ∙ ap (λ v. c.loop-left.into ++ v) (sym chunks) ∙ whole)
    ∙ append_assoc c.args.into.now (chunks_of c.args.message.now) (0 ∷ 0 ∷ []))) c.extend.ensures.ok

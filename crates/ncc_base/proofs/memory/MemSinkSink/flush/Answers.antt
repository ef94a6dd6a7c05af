use Rattle.std.proofs.Common.{◌≡◌, ◌∙◌, ◌++◌, ap, take, length}
use Rattle.std.proofs.Math.Seq.{take-length}
use Rattle.ncc_base.proofs.memory.MemSinkSink.flush.Goals as goal

pub returns-clause-stays_flushed : goal.returns-clause-stays_flushed
returns-clause-stays_flushed c =
    let bytes = c.self.inside.bytes.items in
    let all : take (length bytes) bytes ≡ bytes = take-length bytes in
    let held : bytes ≡ c.fails.new.self.held = ap (λ s. s.held) c.self.view_is in
    let front = c.fails.ensures.from_front in (
      front.0,
      ap (λ n. take n bytes) (c.len-self-inside.ensures ∙ c.self.inside.bytes.ok.0) ∙ all ∙ held ∙ front.1
          ∙ ap (λ v. v ++ front.0) c.fails.ensures.flushed,
    )

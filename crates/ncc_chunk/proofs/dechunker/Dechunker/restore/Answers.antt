use Rattle.std.proofs.Common.{◌≡◌, ℕ, List, take, map, ap, ◌∙◌}
use Rattle.ncc_chunk.specs.declared.dechunker.Position.{Position}
use Rattle.ncc_chunk.specs.declared.dechunker.Dechunker.TheInside.{Inside}
use Rattle.ncc_chunk.specs.Inflow.{Inflow}
use Rattle.ncc_chunk.proofs.Lists.{restored_same, restored_more}
use Rattle.ncc_chunk.proofs.dechunker.Dechunker.restore.Goals as goal
use Rattle.ncc_chunk.proofs.dechunker.Dechunker.restore.Goals.{in-Some, in_default}

same_state : (place : Position) (qs rs : List (List ℕ)) (a b : List ℕ) → qs ≡ rs → a ≡ b →
    (let s : Inflow = record { ready = qs; body = a; place = place } in
    let t : Inflow = record { ready = rs; body = b; place = place } in s ≡ t)
same_state place qs rs a b e f = cc

pub returns : goal.returns
returns c rs b r l p =
    let q = rw (← c.self.view_is) at p in
    elim c.match-cut_back.branch [
      | in-Some w ↦ (
          let some = w.in-Some.ensures.some in
          let k = restored_more rs _ b _ _ _ (rw r at some.1) (rw r at some.0) q in
          same_state c.args.place _ _ _ _
          (ap (λ (i : Inside). map (λ m. m.items) i.ready.items) w.self-inside-is ∙ k.0)
          (c.truncate.ensures.items ∙ ap (λ (i : Inside). take c.args.body i.body.items) w.self-inside-is ∙ rw (← l) at k.1))
      | in_default w ↦ (
          let none = w.in_default.ensures.none in
          let k = restored_same rs _ b _ (rw r at none.1) q in
          same_state c.args.place _ _ _ _
          (ap (λ (i : Inside). map (λ m. m.items) i.ready.items) w.self-inside-is ∙ none.0 ∙ k.0)
          (c.truncate.ensures.items ∙ ap (λ (i : Inside). take c.args.body i.body.items) w.self-inside-is ∙ rw (← l) at k.1))
    ]

use Rattle.std.proofs.Common.{refl, ◌∙◌, arith}
use Rattle.ncc_client.proofs.Lists.{makes_none, makes_on, clock_none, clock_on, rose_more, rose_before}
use Rattle.ncc_base.specs.Clock.{Tells}
use Rattle.ncc_client.specs.Calls.{MakesMore}
use Rattle.ncc_client.proofs.Going.{stops_here}
use Rattle.ncc_client.proofs.Joining.{same_job, goes_none, goes_then, goes_stops, goes_is_at}
use Rattle.ncc_client.proofs.working.drive.Goals as goal

pub turns-init : goal.turns-init
turns-init g c = record {
  goes = goes_none _ _ _ _ _ _ (makes_none _) (clock_none _);
  stands = c.requires.stands;
  more = c.requires.more;
  writing = refl;
  steps = refl;
  losses = omega arith;
  later = omega arith;
}

pub turn-requires-clause-at : goal.turn-requires-clause-at
turn-requires-clause-at g c =
    goes_is_at _ _ _ _ _ _ _ _ _ _ _ (same_job _ _ _ _ c.turns.invariant.writing c.turns.invariant.steps) c.turns.invariant.goes c.requires.at
    c.turns.invariant.later

pub turns-preserved : goal.turns-preserved
turns-preserved g c = record {
  goes = goes_then _ _ _ _ _ _ _ _ _ _ _ _ _ _ _ _ _ (same_job _ _ _ _ c.turns.invariant.writing c.turns.invariant.steps) c.turns.invariant.goes
      c.in-Ok.ensures.ok (λ xs ys h k. makes_on _ _ _ xs ys h k) (λ xs ys h k. clock_on _ _ _ xs ys h k)
      (λ h. rose_more _ _ _ h c.turn.ensures.losses) (λ h. rose_before _ _ _ c.turns.invariant.losses h);
  stands = c.in-Ok.ensures.stands;
  more = c.in-Ok.ensures.more;
  writing = c.turn.ensures.writing ∙ c.turns.invariant.writing;
  steps = c.turn.ensures.steps ∙ c.turns.invariant.steps;
  losses = let k = c.turn.ensures.losses in let l = c.turns.invariant.losses in omega arith;
  later = let k = c.turn.ensures.later in let l = c.turns.invariant.later in omega arith;
}

pub returns-in-Err : goal.returns-in-Err
returns-in-Err g c = record {
  fits = c.in-Err.ensures.fits;
  stops = goes_stops _ _ _ _ _ _ _ _ _ _ _ _ _ _ _ _ (same_job _ _ _ _ c.turns.invariant.writing c.turns.invariant.steps)
      c.turns.invariant.goes c.in-Err.ensures.err (λ xs ys h k. makes_on _ _ _ xs ys h k) (λ xs ys h k. clock_on _ _ _ xs ys h k)
      (λ h. rose_more _ _ _ h c.turn.ensures.losses) (λ h. rose_before _ _ _ c.turns.invariant.losses h);
}

pub returns : goal.returns
returns g c = record {
  fits = tt;
  stops = goes_stops _ _ _ _ _ _ _ _ _ _ _ _ _ _ _ _ (same_job _ _ _ _ c.turns.invariant.writing c.turns.invariant.steps)
      c.turns.invariant.goes
      (stops_here _ _ (λ calls. MakesMore (g.L.Links.calls c.turns.links) (g.L.Links.calls c.turns.links) calls)
      (λ ms. Tells (g.C.Clock.told c.turns.clock) (g.C.Clock.told c.turns.clock) ms) ⊥ _ (makes_none _) (clock_none _))
      (λ xs ys h k. makes_on _ _ _ xs ys h k) (λ xs ys h k. clock_on _ _ _ xs ys h k) (λ h. h) (λ h. absurd h);
}

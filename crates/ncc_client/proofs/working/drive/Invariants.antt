use Rattle.std.proofs.Common.{◌≡◌, ◌≢◌, ◌≤◌, ℕ, List, []}
use Rattle.ncc_base.specs.Clock.{Tells}
use Rattle.ncc_base.specs.Faults.{Rose}
use Rattle.ncc_driver.specs.Work.{job_by}
use Rattle.ncc_driver.specs.Talk.{StandsAt}
use Rattle.ncc_client.specs.Calls.{Call, MakesMore}
use Rattle.ncc_client.specs.Turning.{Goes}
use Rattle.ncc_client.proofs.working.drive.Given as goal

abbrev pub invariant-turns : goal.invariant-turns
invariant-turns g l = record {
  goes : Goes (job_by (g.W.Work.writing l.fn.work) (g.W.Work.steps l.fn.work)) (g.W.Work.stands l.fn.work) (g.W.Work.stands l.work)
      (λ (calls : List Call). MakesMore (g.L.Links.calls l.fn.links) (g.L.Links.calls l.links) calls)
      (λ (moments : List ℕ). Tells (g.C.Clock.told l.fn.clock) (g.C.Clock.told l.clock) moments)
      (Rose (g.L.Links.losses l.fn.links) (g.L.Links.losses l.links)) l.fn.session l.session;
  stands : StandsAt l.session.core.stage (g.W.Work.stands l.work);
  more : l.session.queue ≢ [];
  writing : g.W.Work.writing l.work ≡ g.W.Work.writing l.fn.work;
  steps : g.W.Work.steps l.work ≡ g.W.Work.steps l.fn.work;
  losses : g.L.Links.losses l.fn.links ≤ g.L.Links.losses l.links;
  later : g.C.Clock.last l.fn.clock ≤ g.C.Clock.last l.clock;
}

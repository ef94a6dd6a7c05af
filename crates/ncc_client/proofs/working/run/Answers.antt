use Rattle.std.proofs.Common.{[], ◌∷◌, ap, ◌∙◌, inr, arith}
use Rattle.ncc_driver.specs.Work.{job_by}
use Rattle.ncc_client.proofs.Lists.{makes_none, clock_on}
use Rattle.ncc_client.proofs.Joining.{same_job}
use Rattle.ncc_client.proofs.Starting.{new_rests, new_began, begun_later, begun_stands, started_as, started_is, worked_as, broke_as}
use Rattle.ncc_client.proofs.Ahead.{starts_ahead}
use Rattle.ncc_client.proofs.working.run.Goals as goal

pub begin_work-requires-clause-resting : goal.begin_work-requires-clause-resting
begin_work-requires-clause-resting g c = new_rests _ c.args.config c.in-Ok.ensures.made

pub begin_work-requires-clause-later : goal.begin_work-requires-clause-later
begin_work-requires-clause-later g c = new_began _ c.args.config _ c.in-Ok.ensures.made

pub on-requires-clause-later : goal.on-requires-clause-later
on-requires-clause-later g c =
    begun_later _ c.args.config _ _ (c.in-Ok-begin_work.ensures.ok c.args.config [] [] c.in-Ok.ensures.made)

pub on-requires-clause-stands : goal.on-requires-clause-stands
on-requires-clause-stands g c =
    begun_stands _ c.args.config _ _ _ (c.in-Ok-begin_work.ensures.ok c.args.config [] [] c.in-Ok.ensures.made)

pub drive-requires-clause-at : goal.drive-requires-clause-at
drive-requires-clause-at g c =
    started_is _ c.args.config _ _ _ _ c.requires.config
    (started_as _ _ c.args.config _ _ _ _ _ _ (ap (λ w. job_by (g.W.Work.writing w) (g.W.Work.steps w)) c.begin_work.ensures.same_work)
    (same_job _ _ _ _ c.on.ensures.writing c.on.ensures.steps)
    (c.in-Ok-begin_work.ensures.ok c.args.config [] [] c.in-Ok.ensures.made) c.in-Ok-on.ensures.ok c.in-Ok-on.ensures.stands)
    (let e = c.now-now.ensures.last in omega arith)

pub drive-requires-clause-more : goal.drive-requires-clause-more
drive-requires-clause-more g c =
    starts_ahead c.args.config _ _ _ _ c.requires.config
    (started_as _ _ c.args.config _ _ _ _ _ _ (ap (λ w. job_by (g.W.Work.writing w) (g.W.Work.steps w)) c.begin_work.ensures.same_work)
    (same_job _ _ _ _ c.on.ensures.writing c.on.ensures.steps)
    (c.in-Ok-begin_work.ensures.ok c.args.config [] [] c.in-Ok.ensures.made) c.in-Ok-on.ensures.ok c.in-Ok-on.ensures.stands)

pub returns-in-Ok-on : goal.returns-in-Ok-on
returns-in-Ok-on g c = record {
  fits = c.drive.ensures.fits;
  worked = inr
      (
      worked_as c.args.config _ _ _ _ _ _ _ _ _ _
      (same_job _ _ _ _ c.on.ensures.writing c.on.ensures.steps
      ∙ ap (λ w. job_by (g.W.Work.writing w) (g.W.Work.steps w)) c.begin_work.ensures.same_work)
      (started_as _ _ c.args.config _ _ _ _ _ _ (ap (λ w. job_by (g.W.Work.writing w) (g.W.Work.steps w)) c.begin_work.ensures.same_work)
      (same_job _ _ _ _ c.on.ensures.writing c.on.ensures.steps)
      (c.in-Ok-begin_work.ensures.ok c.args.config [] [] c.in-Ok.ensures.made) c.in-Ok-on.ensures.ok c.in-Ok-on.ensures.stands)
      c.drive.ensures.stops
      (λ ms h. clock_on _ _ _ (c.now-now.result ∷ []) ms c.now-now.ensures.told h)
      );
}

pub returns : goal.returns
returns g c = record {
  fits = tt;
  worked = inr
      (
      broke_as _ _ c.args.config _ _ _ _ _ _
      (ap (λ w. job_by (g.W.Work.writing w) (g.W.Work.steps w)) c.begin_work.ensures.same_work)
      (c.in-Ok-begin_work.ensures.ok c.args.config [] [] c.in-Ok.ensures.made) c.in-Err-on.ensures.err (makes_none _)
      c.now-now.ensures.told
      );
}

use Rattle.std.proofs.lemmas.Result.{on_ok_weaker}
use Rattle.ncc_driver.proofs.Kept.{kept_of, right}
use Rattle.ncc_driver.proofs.Sending.{hello_sent, pull_sent}
use Rattle.ncc_driver.proofs.Following.{hello_stands, pull_follows, pull_stands}
use Rattle.ncc_driver.proofs.attempt.follow.Goals as goal

pub send-requires : goal.send-requires
send-requires g c = record {
  fits = hello_sent _ c.args.config.now.auth _ c.in_ok-request-in-Shake.ensures (right _ _ c.requires.allowed)
      (kept_of c.args.core.now c.requires.keeps).address;
}

pub send-requires-in-Run : goal.send-requires-in-Run
send-requires-in-Run g c = record { fits = pull_sent _ c.in_ok-pull-in-Run.ensures }

pub returns-in-Hello-clause-stands : goal.returns-in-Hello-clause-stands
returns-in-Hello-clause-stands g c =
    on_ok_weaker c.follow_hello.result (hello_stands _ c.in-Hello.leg c.args.core.now c.follow_hello.new.core _ _ _)
    c.follow_hello.ensures.ok

pub returns-in_ok-step-in-Pull-clause-ok : goal.returns-in_ok-step-in-Pull-clause-ok
returns-in_ok-step-in-Pull-clause-ok g c =
    on_ok_weaker c.take_step-in-Pull.result
    (pull_follows c.args.config.now _ (g.W.Work.steps c.args.work.now) _ c.args.asked c.args.core.now c.take_step-in-Pull.new.core _ _
    (g.W.Work.stands c.args.work.now) (g.W.Work.stands c.next-in-Pull.new.self) c.in-Pull.is c.requires.at
    c.in_ok-step-in-Pull.ensures.ok_behind c.in_ok-step-in-Pull.ensures.goes_on)
    c.take_step-in-Pull.ensures.ok

pub returns-in_ok-step-in-Pull-clause-stands : goal.returns-in_ok-step-in-Pull-clause-stands
returns-in_ok-step-in-Pull-clause-stands g c =
    on_ok_weaker c.take_step-in-Pull.result
    (λ m. pull_stands c.args.asked c.take_step-in-Pull.new.core c.args.core.now.rows (g.W.Work.stands c.args.work.now)
    (g.W.Work.stands c.next-in-Pull.new.self) c.in-Pull.is c.requires.stands c.in_ok-step-in-Pull.ensures.goes_on
    (kept_of c.args.core.now c.requires.keeps).rows)
    c.take_step-in-Pull.ensures.ok

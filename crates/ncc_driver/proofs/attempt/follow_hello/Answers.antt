use Rattle.ncc_driver.proofs.Kept.{kept_of}
use Rattle.ncc_driver.proofs.Sending.{route_sent, begin_sent}
use Rattle.ncc_driver.proofs.attempt.follow_hello.Goals as goal

pub send-requires : goal.send-requires
send-requires c = record { fits = route_sent _ _ c.in_ok-request-in-Routing.ensures (kept_of c.args.core.now c.requires.keeps).address }

pub send-requires-in-Working : goal.send-requires-in-Working
send-requires-in-Working c = record {
  fits = begin_sent _ _ c.args.writes c.in_ok-request-in-Working.ensures (kept_of c.args.core.now c.requires.keeps).bookmarks
      (kept_of c.args.core.now c.requires.keeps).few;
}

use Rattle.ncc_clients.proofs.Holding.{made}
use Rattle.ncc_clients.proofs.driver.Driver.new.Goals as goal

pub returns : goal.returns
returns c = record { made = made c.in_ok-session.session c.args.config c.in_ok-session.ensures.made }

use Rattle.ncc_session.proofs.Conns.{new_by}
use Rattle.ncc_session.proofs.conn.Conn.new.Goals as goal

pub returns : goal.returns
returns c = record { made = new_by _ _ _ _ c.new-2.ensures.made c.new-3.ensures.empty c.in_ok-dechunker.ensures.made }

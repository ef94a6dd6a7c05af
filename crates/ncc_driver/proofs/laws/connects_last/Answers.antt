use Rattle.ncc_driver.proofs.LawsJoins.{connects_last, joins_behind_connect, succeeds_on_bytes}
use Rattle.ncc_driver.proofs.laws.connects_last.Goals as goal

pub returns : goal.returns
returns c = record { last = connects_last; waits = joins_behind_connect; succeeds = succeeds_on_bytes }

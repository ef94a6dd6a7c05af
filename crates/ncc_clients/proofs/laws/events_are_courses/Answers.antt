use Rattle.std.proofs.Common.{refl}
use Rattle.ncc_clients.proofs.Waking.{turns_are_courses, wakes_are_courses, pumps_are_courses}
use Rattle.ncc_clients.proofs.Ending.{ends_are_courses, courses_are_paths}
use Rattle.ncc_clients.proofs.laws.events_are_courses.Goals as goal

pub returns-clause-turns : goal.returns-clause-turns
returns-clause-turns g c = λ cores replicas id wait. turns_are_courses _

pub returns-clause-wakes : goal.returns-clause-wakes
returns-clause-wakes g c = λ cores replicas id wait. wakes_are_courses _

pub returns-clause-pumps : goal.returns-clause-pumps
returns-clause-pumps g c = λ cores replicas id wait. pumps_are_courses _

pub returns-clause-ends : goal.returns-clause-ends
returns-clause-ends g c = λ cores replicas id wait. ends_are_courses _

pub returns-clause-either_way : goal.returns-clause-either_way
returns-clause-either_way g c = λ cores replicas id wait member members r. refl

pub returns-clause-paths : goal.returns-clause-paths
returns-clause-paths g c = λ cores replicas id wait. courses_are_paths _

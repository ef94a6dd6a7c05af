-- What the program says of the end of a replay: its exit status, and one line of text.
use Rattle.std.specs.Prelude.{ℕ, List, [], ◌++◌, codes, decimal}
use Rattle.ncc_replay.specs.declared.status.Cause.{Cause}
use Rattle.ncc_replay.specs.declared.status.Cause.TheVariants.{NoHeader, NoCluster, UnknownVerb, BadLine, BadBookmark, WrongWorld}
use Rattle.ncc_replay.specs.declared.status.Cause.TheVariants.{NoMember, NoConn, NoMessage, NoSession, WrongRole, BackInTime, Busy}
use Rattle.ncc_world.specs.declared.error.Which.{Which}
use Rattle.ncc_world.specs.declared.error.Which.TheVariants.{Events, Messages, MessageBytes, Line, Script}
use Rattle.ncc_replay.specs.declared.status.Status.{Status}
use Rattle.ncc_replay.specs.declared.status.Status.TheVariants.{Done, BadWords, BadScript, ReadFault, WriteFault, Limit, Memory}

-- the exit status of each end
abbrev pub number_of_status : Status → ℕ
number_of_status Done = 0
number_of_status BadWords = 2
number_of_status (BadScript line cause) = 3
number_of_status ReadFault = 4
number_of_status WriteFault = 5
number_of_status (Limit which) = 6
number_of_status Memory = 7

-- why a line is refused
unfoldable pub text_of_cause : Cause → List ℕ
text_of_cause NoHeader = codes "header expected"
text_of_cause NoCluster = codes "cluster expected"
text_of_cause UnknownVerb = codes "unknown verb"
text_of_cause BadLine = codes "bad line"
text_of_cause BadBookmark = codes "bad bookmark"
text_of_cause WrongWorld = codes "not in this world"
text_of_cause NoMember = codes "no such member"
text_of_cause NoConn = codes "no such connection"
text_of_cause NoMessage = codes "no such message"
text_of_cause NoSession = codes "no such session"
text_of_cause WrongRole = codes "wrong kind of member"
text_of_cause BackInTime = codes "time goes back"
text_of_cause Busy = codes "work is running"

-- the name of a limit
unfoldable pub text_of_limit : Which → List ℕ
text_of_limit Events = codes "events"
text_of_limit Messages = codes "messages"
text_of_limit MessageBytes = codes "message bytes"
text_of_limit Line = codes "line"
text_of_limit Script = codes "script"

-- `ncc_replay: TEXT`, as a line
abbrev pub notice : List ℕ → List ℕ
notice text = codes "ncc_replay: " ++ (text ++ codes "\n")

-- one line, or nothing where all went well
unfoldable pub text_of_status : Status → List ℕ
text_of_status Done = []
text_of_status BadWords = notice (codes "usage: run | generate SEED EVENTS")
text_of_status (BadScript line cause) = notice (codes "line " ++ (decimal line ++ (codes ": " ++ text_of_cause cause)))
text_of_status ReadFault = notice (codes "read fault")
text_of_status WriteFault = notice (codes "write fault")
text_of_status (Limit which) = notice (codes "limit: " ++ text_of_limit which)
text_of_status Memory = notice (codes "no memory")

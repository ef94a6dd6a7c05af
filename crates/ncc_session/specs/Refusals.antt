-- What a FAILURE says of each refusal: its code, and its message.
use Rattle.std.specs.Prelude.{ℕ, List, ◌++◌, codes, decimal}
use Rattle.ncc_store.specs.declared.fault.RunFault.{RunFault}
use Rattle.ncc_store.specs.declared.fault.RunFault.TheVariants.{MissingParameter, WrongKind, Overflow, NullMerge, TooLong}
use Rattle.ncc_store.specs.declared.fault.RunFault.TheVariants.{TooManyRows, IdsSpent}
use Rattle.ncc_session.specs.declared.refusal.Refusal.{Refusal}
use Rattle.ncc_session.specs.declared.refusal.Refusal.TheVariants as r

abbrev pub invalid : List ℕ
invalid = codes "Neo.ClientError.Request.Invalid"

abbrev pub replication : List ℕ
replication = codes "Neo.TransientError.Cluster.ReplicationFailure"

abbrev pub code_of_fault : RunFault → List ℕ
code_of_fault MissingParameter = codes "Neo.ClientError.Statement.ParameterMissing"
code_of_fault WrongKind = codes "Neo.ClientError.Statement.TypeError"
code_of_fault NullMerge = codes "Neo.ClientError.Statement.TypeError"
code_of_fault Overflow = codes "Neo.ClientError.Statement.ArithmeticError"
code_of_fault TooLong = invalid
code_of_fault TooManyRows = invalid
code_of_fault IdsSpent = invalid

abbrev pub message_of_fault : RunFault → List ℕ
message_of_fault MissingParameter = codes "parameter missing"
message_of_fault WrongKind = codes "wrong kind"
message_of_fault NullMerge = codes "merge on null"
message_of_fault Overflow = codes "integer overflow"
message_of_fault TooLong = codes "text or row too long"
message_of_fault TooManyRows = codes "too many rows"
message_of_fault IdsSpent = codes "ids spent"

abbrev pub code_of : Refusal → List ℕ
code_of r.HelloExpected = invalid
code_of r.OutOfPlace = invalid
code_of r.Unauthorized = codes "Neo.ClientError.Security.Unauthorized"
code_of r.BadMode = invalid
code_of r.BadBookmarks = invalid
code_of r.NoDatabase = codes "Neo.ClientError.Database.DatabaseNotFound"
code_of r.Impersonation = invalid
code_of r.TooManyBookmarks = invalid
code_of r.BadBookmark = codes "Neo.ClientError.Transaction.InvalidBookmark"
code_of (r.Syntax at) = codes "Neo.ClientError.Statement.SyntaxError"
code_of r.AccessMode = codes "Neo.ClientError.Statement.AccessMode"
code_of r.BadPull = invalid
code_of r.TooManySteps = invalid
code_of r.TooLarge = invalid
code_of r.Late = codes "Neo.TransientError.Transaction.BookmarkTimeout"
code_of r.Stale = codes "Neo.TransientError.Transaction.Outdated"
code_of r.Replaced = replication
code_of r.Unsure = replication
code_of r.Full = replication
code_of r.Elsewhere = codes "Neo.ClientError.Cluster.NotALeader"
code_of (r.Fault fault) = code_of_fault fault

abbrev pub message_of : Refusal → List ℕ
message_of r.HelloExpected = codes "hello expected"
message_of r.OutOfPlace = codes "request out of place"
message_of r.Unauthorized = codes "login refused"
message_of r.BadMode = codes "bad mode"
message_of r.BadBookmarks = codes "bad bookmarks"
message_of r.NoDatabase = codes "no such database"
message_of r.Impersonation = codes "impersonation is not supported"
message_of r.TooManyBookmarks = codes "too many bookmarks"
message_of r.BadBookmark = codes "bad bookmark"
message_of (r.Syntax at) = codes "syntax error at " ++ decimal at
message_of r.AccessMode = codes "writing in a reading transaction"
message_of r.BadPull = codes "bad pull"
message_of r.TooManySteps = codes "too many steps"
message_of r.TooLarge = codes "transaction too large"
message_of r.Late = codes "bookmark not reached"
message_of r.Stale = codes "rows have changed"
message_of r.Replaced = codes "entry was replaced"
message_of r.Unsure = codes "outcome unknown"
message_of r.Full = codes "log is full"
message_of r.Elsewhere = codes "not the leader"
message_of (r.Fault fault) = message_of_fault fault

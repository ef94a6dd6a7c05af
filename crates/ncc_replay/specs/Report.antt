-- The report of a run, as text.
use Rattle.std.specs.Prelude.{ℕ, ◌+◌, Bool, ◌&&◌, if◌then◌else◌, List, [], ◌∷◌, ◌++◌, length, codes, decimal}
use Rattle.std.specs.Prelude.{Option, None, Some, Result, Ok, Err}
use Rattle.std.specs.List.{flat_map}
use Rattle.std.specs.Str.{bytes_eq}
use Rattle.ncc_pack.specs.declared.value.Value.{Value}
use Rattle.ncc_pack.specs.declared.value.Value.TheVariants as v
use Rattle.ncc_pack.specs.Short.{short}
use Rattle.ncc_store.specs.declared.step.Step.{Step}
use Rattle.ncc_store.specs.declared.fault.RunFault.{RunFault}
use Rattle.ncc_store.specs.declared.fault.RunFault.TheVariants as f
use Rattle.ncc_tx.specs.declared.entry.Entry.{Entry}
use Rattle.ncc_tx.specs.declared.entry.Entry.TheVariants as e
use Rattle.ncc_tx.specs.declared.entry.Item.{Item}
use Rattle.ncc_tx.specs.declared.stamp.Stamp.{Stamp}
use Rattle.ncc_tx.specs.Spelled.{spelled, rows_value}
use Rattle.ncc_tx.specs.State.{stamps}
use Rattle.ncc_session.specs.declared.ask.Fact.{Fact}
use Rattle.ncc_session.specs.declared.ask.Fact.TheVariants.{Entered, Late, Rows, Faulted, Done, Placed, Stale, Replaced, Unsure}
use Rattle.ncc_session.specs.declared.ask.Fact.TheVariants.{Elsewhere, Full, Routed}
use Rattle.ncc_session.specs.Question.{Row}
use Rattle.ncc_driver.specs.declared.action.WorkDone.{WorkDone}
use Rattle.ncc_driver.specs.declared.action.WorkError.{WorkError}
use Rattle.ncc_driver.specs.declared.action.WorkError.TheVariants.{RetriesSpent, Refused, BadReply}
use Rattle.ncc_driver.specs.declared.action.Last.{Last}
use Rattle.ncc_driver.specs.declared.action.Last.TheVariants.{Code, LinkLost, NoServer}
use Rattle.ncc_driver.specs.RowText.{text_of}
use Rattle.ncc_clients.specs.declared.told.Told.{Told}
use Rattle.ncc_world.specs.declared.setup.Setup.{Setup}
use Rattle.ncc_world.specs.declared.seen.Shown.{Shown}
use Rattle.ncc_world.specs.declared.seen.Shown.TheVariants.{Leader, Candidate, Follower, Replica, Down}
use Rattle.ncc_world.specs.declared.seen.MemberSeen.{MemberSeen}
use Rattle.ncc_world.specs.declared.seen.ConnSeen.{ConnSeen}
use Rattle.ncc_world.specs.declared.seen.WorkSeen.{WorkSeen}
use Rattle.ncc_world.specs.Events.{is_word}
use Rattle.ncc_world.specs.Requests.{put_source}
use Rattle.ncc_world.specs.Happening.{WorldRun}
use Rattle.ncc_world.specs.Showing.{members_of, conns_of, works_of}
use Rattle.ncc_replay.specs.Line.{hex}
use Rattle.ncc_replay.specs.Script.{Script}

-- a space and a number
abbrev pub spaced : ℕ → List ℕ
spaced n = codes " " ++ decimal n

-- ---- facts

-- rows: none, or one word, or all rows in their shortest spelling
abbrev pub rows_hex : List Row → List ℕ
rows_hex rows = codes " hex " ++ hex (short (rows_value rows))

abbrev pub text_or_hex : List ℕ → List Row → List ℕ
text_or_hex text rows = if is_word text then codes " word " ++ text else rows_hex rows

unfoldable pub rows_text : List Row → List ℕ
rows_text [] = codes " none"
rows_text ((v.Text text ∷ []) ∷ []) = text_or_hex text ((v.Text text ∷ []) ∷ [])
rows_text rows = rows_hex rows

unfoldable pub fault_text : RunFault → List ℕ
fault_text f.MissingParameter = codes "missing"
fault_text f.WrongKind = codes "kind"
fault_text f.Overflow = codes "overflow"
fault_text f.NullMerge = codes "nullmerge"
fault_text f.TooLong = codes "toolong"
fault_text f.TooManyRows = codes "toomany"
fault_text f.IdsSpent = codes "ids"

unfoldable pub fact_text : Fact → List ℕ
fact_text (Entered at) = codes "entered" ++ spaced at
fact_text (Late need at now) = codes "late" ++ (spaced need ++ (spaced at ++ spaced now))
fact_text (Rows at rows) = codes "rows" ++ (spaced at ++ rows_text rows)
fact_text (Faulted at fault) = codes "faulted" ++ (spaced at ++ (codes " " ++ fault_text fault))
fact_text (Done at) = codes "done" ++ spaced at
fact_text (Placed place) = codes "placed" ++ spaced place
fact_text (Stale place) = codes "stale" ++ spaced place
fact_text (Replaced place mine found) = codes "replaced" ++ (spaced place ++ (spaced mine ++ spaced found))
fact_text (Unsure place at now) = codes "unsure" ++ (spaced place ++ (spaced at ++ spaced now))
fact_text Elsewhere = codes "elsewhere"
fact_text (Full entries) = codes "full" ++ spaced entries
fact_text (Routed leader) = codes "routed" ++ spaced leader

-- `fact LINE CONN TEXT`
unfoldable pub fact_line : Told → List ℕ
fact_line t = codes "fact" ++ (spaced t.line ++ (spaced t.conn ++ (codes " " ++ (fact_text t.fact ++ codes "\n"))))

-- ---- works of sessions

-- the place of a bookmark, or `-` where it is none of this project's
abbrev pub bookmark_text : Option ℕ → List ℕ
bookmark_text (Some place) = spaced place
bookmark_text None = codes " -"

-- why the last attempt failed: a code as the server told it, a lost link, or no server
abbrev pub last_text : Last → List ℕ
last_text (Code code) = codes " " ++ code
last_text LinkLost = codes " lost"
last_text (NoServer role) = codes " noserver"

abbrev pub done_text : WorkDone → List ℕ
done_text done = codes " ok" ++ (spaced done.attempts ++ (bookmark_text done.place ++ (codes " " ++ text_of done.rows)))

abbrev pub error_text : WorkError → List ℕ
error_text (RetriesSpent attempts last) = codes " spent" ++ (spaced attempts ++ last_text last)
error_text (Refused attempts code) = codes " refused" ++ (spaced attempts ++ (codes " " ++ code))
error_text (BadReply message) = codes " badreply" ++ spaced message

abbrev pub result_text : Result WorkDone WorkError → List ℕ
result_text (Ok done) = done_text done
result_text (Err error) = error_text error

-- `work LINE SESSION TEXT`
unfoldable pub work_line : WorkSeen → List ℕ
work_line w = codes "work" ++ (spaced w.line ++ (spaced w.session ++ (result_text w.result ++ codes "\n")))

-- ---- connections

abbrev pub conn_state : ConnSeen → List ℕ
conn_state c = if c.ended then codes " ended\n" else (if c.waiting then codes " waiting\n" else codes " idle\n")

-- `conn CONN MEMBER STATE`
unfoldable pub conn_line : ConnSeen → List ℕ
conn_line c = codes "conn" ++ (spaced c.conn ++ (spaced c.member ++ conn_state c))

-- what a connection wrote, or `-` for nothing
abbrev pub out_text : List ℕ → List ℕ
out_text [] = codes " -\n"
out_text bytes = codes " " ++ (hex bytes ++ codes "\n")

-- `out CONN HEX`, where it is printed
unfoldable pub out_line : ConnSeen → List ℕ
out_line c = if c.printed then codes "out" ++ (spaced c.conn ++ out_text c.out) else []

-- ---- members

unfoldable pub role_text : Shown → List ℕ
role_text Leader = codes " leader"
role_text Candidate = codes " candidate"
role_text Follower = codes " follower"
role_text Replica = codes " replica"
role_text Down = codes " down"

-- `member MEMBER ROLE TERM AT`
unfoldable pub member_line : MemberSeen → List ℕ
member_line m = codes "member" ++ (spaced m.id ++ (role_text m.shown ++ (spaced m.term ++ (spaced m.at ++ codes "\n"))))

-- ---- the history

abbrev pub Parts : Type 0
Parts = Option (List ℕ × List ℕ)

-- the key and the value of parameters that are these two alone, both words
abbrev pub words_at : List ℕ → List ℕ → List ℕ → List ℕ → Parts
words_at key k value w =
    if bytes_eq key (codes "k") && bytes_eq value (codes "v") && is_word k && is_word w then Some (k, w) else None

unfoldable pub parts_of : List (List ℕ × Value) → Parts
parts_of ((key, v.Text k) ∷ (value, v.Text w) ∷ []) = words_at key k value w
parts_of _ = None

-- those of a transaction whose one step is that of a put
unfoldable pub put_parts : List Step → Parts
put_parts (step ∷ []) = if bytes_eq step.source put_source then parts_of step.params else None
put_parts _ = None

abbrev pub tx_text : Entry → Parts → List ℕ
tx_text entry (Some parts) = codes "put " ++ (parts.0 ++ (codes " " ++ parts.1))
tx_text entry None = codes "tx " ++ hex (spelled entry)

unfoldable pub entry_text : Entry → List ℕ
entry_text e.Noop = codes "noop"
entry_text (e.Tx steps told) = tx_text (e.Tx steps told) (put_parts steps)

abbrev pub valid_text : Bool → List ℕ
valid_text valid = if valid then codes " valid\n" else codes " stale\n"

-- `place PLACE TERM ENTRY V`
unfoldable pub place_line : ℕ → Item → Stamp → List ℕ
place_line place item stamp =
    codes "place" ++ (spaced place ++ (spaced item.term ++ (codes " " ++ (entry_text item.entry ++ valid_text stamp.valid))))

-- of each item from this place on, with the stamp of its place
unfoldable pub place_lines : ℕ → List Item → List Stamp → List ℕ
place_lines place [] stamps = []
place_lines place (item ∷ items) [] = []
place_lines place (item ∷ items) (stamp ∷ stamps) = place_line place item stamp ++ place_lines (place + 1) items stamps

abbrev pub history_text : List Item → List ℕ
history_text history = codes "history" ++ (spaced (length history) ++ (codes "\n" ++ place_lines 1 history (stamps history)))

-- ---- the whole report

unfoldable pub report_of : Setup → WorldRun → List ℕ
report_of s r =
    codes "ncc-report 1\n" ++ (flat_map fact_line r.told ++ (flat_map work_line (works_of r) ++ (flat_map conn_line (conns_of s r)
    ++ (flat_map out_line (conns_of s r) ++ (flat_map member_line (members_of s r) ++ (history_text r.history ++ codes "end\n"))))))

-- of a script that has no cluster
abbrev pub no_report : List ℕ
no_report = codes "ncc-report 1\nhistory 0\nend\n"

-- of a script, where it has a cluster of its run
abbrev pub report_by : Option Setup → Option WorldRun → List ℕ
report_by None t = no_report
report_by (Some s) None = no_report
report_by (Some s) (Some r) = report_of s r

abbrev pub report_text : Script → Option WorldRun → List ℕ
report_text s t = report_by s.setup t

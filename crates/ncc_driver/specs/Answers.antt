-- What a server's message tells of the request whose answer is awaited (Bolt 4.4, "Messages").
use Rattle.std.specs.Prelude.{ℕ, ◌*◌, ◌-◌, ◌^◌, pos, min, Bool, false, if◌then◌else◌, List, [], ◌∷◌, ◌++◌, Option, Some, None, Ok, Err}
use Rattle.std.specs.Prelude.{codes, bytes_eq}
use Rattle.std.specs.Map.{lookup}
use Rattle.ncc_pack.specs.declared.value.Value.{Value, out-Value}
use Rattle.ncc_pack.specs.declared.value.Value.TheOpen.{Value-F}
use Rattle.ncc_pack.specs.declared.value.NodeValue.{NodeValue}
use Rattle.ncc_pack.specs.declared.value.Value.TheVariants as v
use Rattle.ncc_pack.specs.Texts.{texts_alone}
use Rattle.ncc_bolt.specs.Fields.{Pairs}
use Rattle.ncc_bolt.specs.Reading.{response_at}
use Rattle.ncc_bolt.specs.declared.message.Response.{Response}
use Rattle.ncc_bolt.specs.declared.message.Response.TheVariants as s
use Rattle.ncc_route.specs.declared.table.Table.{Table}
use Rattle.ncc_driver.specs.declared.answers.Told.{Told}
use Rattle.ncc_driver.specs.declared.answers.Told.TheVariants as m
use Rattle.ncc_driver.specs.declared.standing.Asked.{Asked}
use Rattle.ncc_driver.specs.declared.standing.Asked.TheVariants as a
use Rattle.ncc_driver.specs.Requests.{shake_answer}
use Rattle.ncc_driver.specs.Work.{Row, rows_fit}

-- ---- dictionaries

abbrev pub value_at : List ℕ → Pairs → Option Value
value_at key pairs = lookup (bytes_eq key) pairs

abbrev pub text_in : Option Value → Option (List ℕ)
text_in (Some (v.Text t)) = Some t
text_in _ = None

-- what a value holds that is a list, or a dictionary
abbrev pub list_by : Value-F Value NodeValue → Option (List Value)
list_by (Value-F.List xs) = Some xs
list_by _ = None

abbrev pub pairs_by : Value-F Value NodeValue → Option Pairs
pairs_by (Value-F.Dict pairs) = Some pairs
pairs_by _ = None

abbrev pub list_in : Option Value → Option (List Value)
list_in (Some x) = list_by (out-Value x)
list_in None = None

abbrev pub pairs_in : Option Value → Option Pairs
pairs_in (Some x) = pairs_by (out-Value x)
pairs_in None = None

abbrev pub if_texts : Option (List Value) → Option (List Value)
if_texts (Some xs) = if texts_alone xs then Some xs else None
if_texts None = None

abbrev pub texts_in : Option Value → Option (List Value)
texts_in x = if_texts (list_in x)

-- a number of seconds, not less than 0
abbrev pub seconds_in : Option Value → Option ℕ
seconds_in (Some (v.Int (pos n))) = Some n
seconds_in _ = None

abbrev pub is_true : Option Value → Bool
is_true (Some (v.Bool b)) = b
is_true _ = false

-- ---- ROUTE: a table

-- an entry of the table's servers: a role, and its addresses
abbrev pub Served : Type 0
Served = List ℕ × List Value

abbrev pub server_of : Option (List ℕ) → Option (List Value) → Option Served
server_of (Some role) (Some addresses) = Some (role, addresses)
server_of _ _ = None

abbrev pub server_by : Option Pairs → Option Served
server_by (Some pairs) = server_of (text_in (value_at (codes "role") pairs)) (texts_in (value_at (codes "addresses") pairs))
server_by None = None

abbrev pub server_in : Value → Option Served
server_in x = server_by (pairs_by (out-Value x))

abbrev pub one_more : Option Served → Option (List Served) → Option (List Served)
one_more (Some server) (Some servers) = Some (server ∷ servers)
one_more _ _ = None

unfoldable pub servers_in : List Value → Option (List Served)
servers_in [] = Some []
servers_in (x ∷ xs) = one_more (server_in x) (servers_in xs)

-- the addresses of a role's entries, joined in their order
unfoldable pub addresses_of : List ℕ → List Served → List Value
addresses_of role [] = []
addresses_of role (server ∷ servers) =
    if bytes_eq role server.0 then server.1 ++ addresses_of role servers else addresses_of role servers

-- a table got at this moment; its seconds as milliseconds
abbrev pub table_by : ℕ → ℕ → List Served → Table
table_by now seconds servers = record {
  got = now;
  ttl = min (seconds * 1000) (2 ^ 64 - 1);
  write = addresses_of (codes "WRITE") servers;
  read = addresses_of (codes "READ") servers;
  route = addresses_of (codes "ROUTE") servers;
}

abbrev pub table_of : ℕ → Option ℕ → Option (List Served) → Option Table
table_of now (Some seconds) (Some servers) = Some (table_by now seconds servers)
table_of _ _ _ = None

abbrev pub servers_at : Option (List Value) → Option (List Served)
servers_at (Some xs) = servers_in xs
servers_at None = None

abbrev pub table_by_pairs : ℕ → Option Pairs → Option Table
table_by_pairs now (Some pairs) =
    table_of now (seconds_in (value_at (codes "ttl") pairs)) (servers_at (list_in (value_at (codes "servers") pairs)))
table_by_pairs now None = None

abbrev pub table_in : ℕ → Option Value → Option Table
table_in now x = table_by_pairs now (pairs_in x)

-- ---- an answer of each request

abbrev pub told_table : Option Table → Told
told_table (Some table) = m.Routed table
told_table None = m.Bad

abbrev pub told_bookmark : Option (List ℕ) → Told
told_bookmark (Some bookmark) = m.Committed bookmark
told_bookmark None = m.Bad

abbrev pub told_code : Option (List ℕ) → Told
told_code (Some code) = m.Failed code
told_code None = m.Bad

-- SUCCESS: of HELLO, BEGIN and RUN with any metadata; the end of PULL's answer where no more rows are left
abbrev pub success_of : Asked → ℕ → Pairs → Told
success_of a.Route now meta = told_table (table_in now (value_at (codes "rt") meta))
success_of a.Pull now meta = if is_true (value_at (codes "has_more") meta) then m.Bad else m.Done
success_of a.Commit now meta = told_bookmark (text_in (value_at (codes "bookmark") meta))
success_of _ now meta = m.Done

-- RECORD: a row of PULL's answer, where all its rows fit
abbrev pub record_of : Asked → List Row → Row → Told
record_of a.Pull rows fields = if rows_fit (rows ++ fields ∷ []) then m.Row fields else m.Bad
record_of _ rows fields = m.Bad

-- what a response tells, behind these rows of the same answer
abbrev pub response_of : Asked → ℕ → List Row → Response → Told
response_of asked now rows (s.Success meta) = success_of asked now meta
response_of asked now rows (s.Row fields) = record_of asked rows fields
response_of asked now rows s.Ignored = m.Bad
response_of asked now rows (s.Failure meta) = told_code (text_in (value_at (codes "code") meta))

abbrev pub message_of : Asked → ℕ → List Row → List ℕ → Told
message_of asked now rows bytes = elim (response_at bytes) [ Ok response ↦ response_of asked now rows response | Err cause ↦ m.Bad ]

-- the answer of the handshake
abbrev pub shake_of : List ℕ → Told
shake_of bytes = if bytes_eq bytes shake_answer then m.Done else m.Bad

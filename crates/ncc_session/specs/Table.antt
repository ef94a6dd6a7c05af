-- The table of a session's requests: what each comes to, by the state, a row a line. The first row that fits counts.
-- From the server states of Bolt 4.4.
use Rattle.std.specs.Prelude.{true, false, IsTrue}
use Rattle.ncc_pack.specs.declared.value.Value.TheVariants as v
use Rattle.ncc_pack.specs.Fits.{fits}
use Rattle.ncc_bolt.specs.declared.message.Request.{Request}
use Rattle.ncc_bolt.specs.declared.message.Request.TheVariants as r
use Rattle.ncc_session.specs.declared.state.ConnState.{ConnState}
use Rattle.ncc_session.specs.declared.state.ConnState.TheVariants.{Shaking, Connected, Ready, Streaming, TxReady, TxStreaming}
use Rattle.ncc_session.specs.declared.state.ConnState.TheVariants.{Failed, Ended}
use Rattle.ncc_session.specs.declared.table.Turn.{Turn}
use Rattle.ncc_session.specs.declared.table.Turn.TheVariants as t

abbrev pub turn_of : ConnState → Request → Turn
turn_of _ r.Goodbye = t.End
turn_of Connected (r.Hello extra) = t.Login extra
turn_of Connected _ = t.HelloExpected
turn_of _ r.Reset = t.Reset
turn_of Failed _ = t.Ignore
turn_of Ready (r.Run query params extra) = t.Run query params extra
turn_of Ready (r.Begin extra) = t.Begin extra
turn_of Ready (r.Route routing bookmarks extra) = t.Route bookmarks extra
turn_of Streaming (r.Pull extra) = t.Rows extra true
turn_of Streaming (r.Discard extra) = t.Rows extra false
turn_of TxReady (r.Run query params extra) = t.Step query params
turn_of TxStreaming (r.Run query params extra) = t.Step query params
turn_of TxStreaming (r.Pull extra) = t.Rows extra true
turn_of TxStreaming (r.Discard extra) = t.Rows extra false
turn_of TxReady r.Commit = t.Commit
turn_of TxStreaming r.Commit = t.Commit
turn_of TxReady r.Rollback = t.Rollback
turn_of TxStreaming r.Rollback = t.Rollback
turn_of _ _ = t.OutOfPlace

-- the parameters of a turn's step have a spelling
abbrev pub ParamsFit : Turn → Type 0
ParamsFit (t.Run query params extra) = IsTrue (fits (v.Dict params))
ParamsFit (t.Step query params) = IsTrue (fits (v.Dict params))
ParamsFit _ = Unit {0}

-- before the handshake, or behind the end
abbrev pub IsOutside : ConnState → Type 0
IsOutside Shaking = Unit {0}
IsOutside (Ended stop) = Unit {0}
IsOutside _ = ⊥

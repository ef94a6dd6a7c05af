-- What the answers of the worked runs are read as, and what a session makes of one answer.
use Rattle.std.proofs.Common.{◌≡◌, ℕ, zero, suc, ◌+◌, ◌-◌, ◌^◌, ◌<◌, min, Bool, true, false, List, [], ◌∷◌, ◌++◌, length}
use Rattle.std.proofs.Common.{refl, sym, ap, ◌∙◌, arith, append-nil}
use Rattle.std.specs.Prelude.{Ok, pos, nat_lt, codes, ◌&&◌}
use Rattle.std.specs.Int.{w8, to_be_bytes}
use Rattle.std.specs.List.{list_all}
use Rattle.std.specs.Str.{IsAscii}
use Rattle.std.proofs.lemmas.Str.{IsUtf8-from_ascii}
use Rattle.ncc_pack.specs.declared.value.Value.{Value}
use Rattle.ncc_pack.specs.declared.value.Value.TheVariants as v
use Rattle.ncc_pack.specs.Spells.{texts, lists, dicts, tiny, wide, one, IsHead, SpellsText, Each, Listed, Pair, Spells, levels}
use Rattle.ncc_pack.specs.Spells as p
use Rattle.ncc_bolt.specs.Messages.{SpellsResponse}
use Rattle.ncc_bolt.specs.Messages as m
use Rattle.ncc_bolt.specs.declared.message.Response.TheVariants as s
use Rattle.ncc_bolt.specs.Reading.{response_at}
use Rattle.ncc_bolt.proofs.Joined.{response_again}
use Rattle.ncc_pack.specs.Keys.{distinct}
use Rattle.ncc_driver.proofs.LawsGrammar.{dict_out, list_out}
use Rattle.ncc_driver.specs.Worked.{n1, n2, text, long_text, success, table, five_minutes, no_time, record_of, null}
use Rattle.std.specs.Prelude.{Result, Err, Some, ◌*◌, if◌then◌else◌}
use Rattle.ncc_pack.proofs.Fitted.{spelled_fits}
use Rattle.ncc_bolt.specs.declared.error.MessageError.{MessageError}
use Rattle.ncc_bolt.specs.declared.message.Response.{Response}
use Rattle.ncc_route.specs.declared.table.Table.{Table}
use Rattle.ncc_driver.specs.declared.standing.Asked.{Asked}
use Rattle.ncc_driver.specs.declared.standing.Asked.TheVariants as a
use Rattle.ncc_driver.specs.declared.answers.Told.{Told}
use Rattle.ncc_driver.specs.declared.answers.Told.TheVariants as says
use Rattle.ncc_driver.specs.Work.{Row}
use Rattle.ncc_driver.specs.Answers.{pairs_by, list_by, if_texts, server_of, server_by, server_in, one_more, servers_in}
use Rattle.ncc_driver.specs.Answers.{servers_at, addresses_of}
use Rattle.ncc_driver.specs.Answers.{table_of, table_by_pairs, table_in, told_table, success_of, response_of, message_of}
use Rattle.ncc_driver.specs.Worked.{committed, failure, ignored, second}

-- ---- spellings

abbrev are_ascii : List ℕ → Bool
are_ascii bytes = list_all (λ b. nat_lt b 128) bytes

both_true : (a b : Bool) → (a && b) ≡ true → (a ≡ true) × (b ≡ true)
both_true true b e = (refl, e)
both_true false b e = absurd (cc)

below : (b : ℕ) → nat_lt b 128 ≡ true → b < 128
below b e = grind arith

ascii_at : (bytes : List ℕ) → are_ascii bytes ≡ true → IsAscii bytes
ascii_at [] e i = omega arith
ascii_at (b ∷ bytes) e zero = below b (both_true _ _ e).0
ascii_at (b ∷ bytes) e (suc i) = ascii_at bytes (both_true _ _ e).1 i

text_spelled : (t : List ℕ) → are_ascii t ≡ true → length t < 16 → SpellsText t (text t)
text_spelled t e l = ((0x80 + length t) ∷ [], tiny l, IsUtf8-from_ascii t (ascii_at t e), refl)

long_spelled : (t : List ℕ) → are_ascii t ≡ true → (b : List ℕ) → b ≡ to_be_bytes w8 (length t) ++ t → length t < 256
    → SpellsText t (0xD0 ∷ b)
long_spelled t e b is l =
    (0xD0 ∷ to_be_bytes w8 (length t), wide _ (one l), IsUtf8-from_ascii t (ascii_at t e), ap (λ (x : List ℕ). 0xD0 ∷ x) is)

-- a dictionary with one pair, and with two
one_pair : (d : ℕ) (k : List ℕ) (x : Value) (c b : List ℕ) → SpellsText k c → Spells (levels d) x b
    → Spells (levels (suc d)) (v.Dict ((k, x) ∷ [])) (0xA1 ∷ c ++ b)
unfolding levels
one_pair d k x c b s t = p.dict _ _ (
  (0xA1 ∷ [], c ++ b, tiny (omega arith), (c ++ b, [], (c, b, s, t, refl), refl, sym (append-nil (c ++ b))), refl),
  refl,
)

two_pairs : (d : ℕ) (k l : List ℕ) (x y : Value) (c b e f : List ℕ) → distinct [] ((k, x) ∷ (l, y) ∷ []) ≡ true → SpellsText k c
    → Spells (levels d) x b → SpellsText l e → Spells (levels d) y f
    → Spells (levels (suc d)) (v.Dict ((k, x) ∷ (l, y) ∷ [])) (0xA2 ∷ (c ++ b) ++ (e ++ f))
unfolding levels
two_pairs d k l x y c b e f n s t u w = p.dict _ _ (
  (
    0xA2 ∷ [],
    (c ++ b) ++ (e ++ f),
    tiny (omega arith),
    (c ++ b, e ++ f, (c, b, s, t, refl), (e ++ f, [], (e, f, u, w, refl), refl, sym (append-nil (e ++ f))), refl),
    refl,
  ),
  n,
)

one_item : (d : ℕ) (x : Value) (b : List ℕ) → Spells (levels d) x b → Spells (levels (suc d)) (v.List (x ∷ [])) (0x91 ∷ b)
unfolding levels
one_item d x b s = p.list _ _ (0x91 ∷ [], b, tiny (omega arith), (b, [], s, refl, sym (append-nil b)), refl)

-- ---- messages

pub success_read : response_at success ≡ Ok (s.Success [])
unfolding levels
success_read =
    response_again (s.Success []) success (m.success [] (0xA0 ∷ [])
    (p.dict [] (0xA0 ∷ []) ((0xA0 ∷ [], [], tiny (omega arith), refl, refl), refl)))

pub ignored_read : response_at ignored ≡ Ok s.Ignored
ignored_read = response_again s.Ignored ignored m.ignored

pub null_read : response_at (record_of null) ≡ Ok (s.Row (v.Null ∷ []))
null_read = response_again (s.Row (v.Null ∷ [])) (record_of null)
    (m.row (v.Null ∷ []) (0x91 ∷ 0xC0 ∷ []) (one_item 31 v.Null (0xC0 ∷ []) p.null))

small : (n : ℕ) → n < 128 → (d : ℕ) → Spells (levels d) (v.Int (pos n)) (n ∷ [])
small n l d = p.int (pos n) (n ∷ []) (p.positive n l)

pub number_read : (n : ℕ) → n < 128 → response_at (record_of n) ≡ Ok (s.Row (v.Int (pos n) ∷ []))
number_read n l =
    response_again (s.Row (v.Int (pos n) ∷ [])) (record_of n)
    (m.row (v.Int (pos n) ∷ []) (0x91 ∷ n ∷ []) (one_item 31 (v.Int (pos n)) (n ∷ []) (small n l 31)))

-- one pair whose value is a long text
long_pair : (k t : List ℕ) → are_ascii k ≡ true → length k < 16 → are_ascii t ≡ true → length t < 256
    → to_be_bytes w8 (length t) ≡ length t ∷ []
    → Spells (levels 32) (v.Dict ((k, v.Text t) ∷ [])) (0xA1 ∷ text k ++ long_text t)
long_pair k t a l b n e =
    one_pair 31 k (v.Text t) (text k) (long_text t) (text_spelled k a l)
    (p.text t (long_text t) (long_spelled t b (length t ∷ t) (ap (λ (x : List ℕ). x ++ t) (sym e)) n))

pub committed_read : (t : List ℕ) → are_ascii t ≡ true → length t < 256 → to_be_bytes w8 (length t) ≡ length t ∷ []
    → response_at (committed t) ≡ Ok (s.Success ((codes "bookmark", v.Text t) ∷ []))
committed_read t b n e =
    response_again (s.Success ((codes "bookmark", v.Text t) ∷ [])) (committed t)
    (m.success _ (0xA1 ∷ text (codes "bookmark") ++ long_text t) (long_pair (codes "bookmark") t refl (omega arith) b n e))

pub failure_read : (t : List ℕ) → are_ascii t ≡ true → length t < 256 → to_be_bytes w8 (length t) ≡ length t ∷ []
    → response_at (failure t) ≡ Ok (s.Failure ((codes "code", v.Text t) ∷ []))
failure_read t b n e =
    response_again (s.Failure ((codes "code", v.Text t) ∷ [])) (failure t)
    (m.failure _ (0xA1 ∷ text (codes "code") ++ long_text t) (long_pair (codes "code") t refl (omega arith) b n e))

-- ---- the table

abbrev pub server : List ℕ → Value
server address = v.Dict ((codes "addresses", v.List (v.Text address ∷ [])) ∷ (codes "role", v.Text (codes "WRITE")) ∷ [])

abbrev pub routing : List ℕ → ℕ → Value
routing address seconds = v.Dict ((codes "ttl", v.Int (pos seconds)) ∷ (codes "servers", v.List (server address ∷ [])) ∷ [])

short_spelled : (d : ℕ) (t : List ℕ) → are_ascii t ≡ true → length t < 16 → Spells (levels d) (v.Text t) (text t)
short_spelled d t a l = p.text t (text t) (text_spelled t a l)

abbrev server_bytes : List ℕ → List ℕ
server_bytes address =
    0xA2 ∷ (text (codes "addresses") ++ (0x91 ∷ text address)) ++ (text (codes "role") ++ text (codes "WRITE"))

server_spelled : (address : List ℕ) → are_ascii address ≡ true → length address < 16
    → Spells (levels 29) (server address) (server_bytes address)
server_spelled address a l =
    two_pairs 28 (codes "addresses") (codes "role") _ _ (text (codes "addresses")) (0x91 ∷ text address) (text (codes "role"))
    (text (codes "WRITE")) refl (text_spelled (codes "addresses") refl (omega arith))
    (one_item 27 (v.Text address) (text address) (short_spelled 27 address a l))
    (text_spelled (codes "role") refl (omega arith)) (short_spelled 28 (codes "WRITE") refl (omega arith))

abbrev routing_bytes : List ℕ → List ℕ → List ℕ
routing_bytes address ttl =
    0xA2 ∷ (text (codes "ttl") ++ ttl) ++ (text (codes "servers") ++ (0x91 ∷ server_bytes address))

routing_spelled : (address : List ℕ) (seconds : ℕ) (ttl : List ℕ) → are_ascii address ≡ true → length address < 16
    → Spells (levels 30) (v.Int (pos seconds)) ttl → Spells (levels 31) (routing address seconds) (routing_bytes address ttl)
routing_spelled address seconds ttl a l h =
    two_pairs 30 (codes "ttl") (codes "servers") _ _ (text (codes "ttl")) ttl (text (codes "servers"))
    (0x91 ∷ server_bytes address) refl (text_spelled (codes "ttl") refl (omega arith)) h
    (text_spelled (codes "servers") refl (omega arith)) (one_item 29 (server address) (server_bytes address) (server_spelled address a l))

table_read : (address : List ℕ) (seconds : ℕ) (ttl : List ℕ) → are_ascii address ≡ true → length address < 16
    → Spells (levels 30) (v.Int (pos seconds)) ttl
    → response_at (0xB1 ∷ 0x70 ∷ 0xA1 ∷ text (codes "rt") ++ routing_bytes address ttl)
    ≡ Ok (s.Success ((codes "rt", routing address seconds) ∷ []))
table_read address seconds ttl a l h =
    let bytes = routing_bytes address ttl in
    response_again (s.Success ((codes "rt", routing address seconds) ∷ [])) (0xB1 ∷ 0x70 ∷ 0xA1 ∷ text (codes "rt") ++ bytes)
    (m.success _ _ (one_pair 31 (codes "rt") (routing address seconds) (text (codes "rt")) bytes
    (text_spelled (codes "rt") refl (omega arith)) (routing_spelled address seconds ttl a l h)))

-- ---- what they tell

tells : (asked : Asked) (now : ℕ) (rows : List Row) (message : List ℕ) (response : Response) → response_at message ≡ Ok response
    → message_of asked now rows message ≡ response_of asked now rows response
tells asked now rows message response e =
    ap (λ (read : Result Response MessageError). elim read as (λ x. Told) [ Ok r ↦ response_of asked now rows r | Err cause ↦ says.Bad ]) e

-- a table of one writer
abbrev pub one_writer : List ℕ → ℕ → ℕ → Table
one_writer address now seconds =
    record { got = now; ttl = min (seconds * 1000) (2 ^ 64 - 1); write = v.Text address ∷ []; read = []; route = [] }

server_found : (address : List ℕ) → server_in (server address) ≡ Some (codes "WRITE", v.Text address ∷ [])
server_found address =
    ap (λ o. server_by (pairs_by o)) (dict_out _)
    ∙ ap (λ o. server_of (Some (codes "WRITE")) (if_texts (list_by o))) (list_out (v.Text address ∷ []))

table_found : (address : List ℕ) (now seconds : ℕ) → table_in now (Some (routing address seconds)) ≡ Some (one_writer address now seconds)
unfolding servers_in addresses_of
table_found address now seconds =
    ap (λ o. table_by_pairs now (pairs_by o)) (dict_out _)
    ∙ ap (λ o. table_of now (Some seconds) (servers_at (list_by o))) (list_out (server address ∷ []))
    ∙ ap (λ o. table_of now (Some seconds) (one_more o (Some []))) (server_found address)

table_tells : (address : List ℕ) (now seconds : ℕ) (ttl : List ℕ) → are_ascii address ≡ true → length address < 16
    → Spells (levels 30) (v.Int (pos seconds)) ttl
    → message_of a.Route now [] (0xB1 ∷ 0x70 ∷ 0xA1 ∷ text (codes "rt") ++ routing_bytes address ttl)
    ≡ says.Routed (one_writer address now seconds)
table_tells address now seconds ttl q l h =
    tells a.Route now [] _ _ (table_read address seconds ttl q l h) ∙ ap told_table (table_found address now seconds)

five_spelled : Spells (levels 30) (v.Int (pos 300)) five_minutes
five_spelled = p.int (pos 300) five_minutes (p.int2 300 (omega arith))

pub one_tells : (now : ℕ) → message_of a.Route now [] (table n1 five_minutes) ≡ says.Routed (one_writer n1 now 300)
one_tells now = table_tells n1 now 300 five_minutes refl (omega arith) five_spelled

pub two_tells : (now : ℕ) → message_of a.Route now [] (table n2 five_minutes) ≡ says.Routed (one_writer n2 now 300)
two_tells now = table_tells n2 now 300 five_minutes refl (omega arith) five_spelled

pub brief_tells : (now : ℕ) → message_of a.Route now [] (table n2 no_time) ≡ says.Routed (one_writer n2 now 0)
brief_tells now = table_tells n2 now 0 no_time refl (omega arith) (small 0 (omega arith) 30)

-- a row of one value
row_tells : (now byte : ℕ) (x : Value) → Spells (levels 30) x (byte ∷ []) → response_at (record_of byte) ≡ Ok (s.Row (x ∷ []))
    → message_of a.Pull now [] (record_of byte) ≡ says.Row (x ∷ [])
row_tells now byte x h e =
    tells a.Pull now [] (record_of byte) (s.Row (x ∷ [])) e
    ∙ ap (λ (b : Bool). if b then says.Row (x ∷ []) else says.Bad)
    (spelled_fits 32 (v.List (v.List (x ∷ []) ∷ [])) (0x91 ∷ 0x91 ∷ byte ∷ []) (one_item 31 _ _ (one_item 30 x (byte ∷ []) h)))

pub null_tells : (now : ℕ) → message_of a.Pull now [] (record_of null) ≡ says.Row (v.Null ∷ [])
null_tells now = row_tells now null v.Null p.null null_read

pub number_tells : (now n : ℕ) → n < 128 → message_of a.Pull now [] (record_of n) ≡ says.Row (v.Int (pos n) ∷ [])
number_tells now n l = row_tells now n (v.Int (pos n)) (small n l 30) (number_read n l)

pub success_tells : (asked : Asked) (now : ℕ) (rows : List Row) → message_of asked now rows success ≡ success_of asked now []
success_tells asked now rows = tells asked now rows success (s.Success []) success_read

pub ignored_tells : (asked : Asked) (now : ℕ) (rows : List Row) → message_of asked now rows ignored ≡ says.Bad
ignored_tells asked now rows = tells asked now rows ignored s.Ignored ignored_read

pub second_tells : (now : ℕ) (rows : List Row) → message_of a.Commit now rows (committed second) ≡ says.Committed second
second_tells now rows = tells a.Commit now rows (committed second) _ (committed_read second refl (omega arith) refl)

pub failure_tells : (asked : Asked) (now : ℕ) (rows : List Row) (code : List ℕ) → are_ascii code ≡ true → length code < 256
    → to_be_bytes w8 (length code) ≡ length code ∷ [] → message_of asked now rows (failure code) ≡ says.Failed code
failure_tells asked now rows code q l e = tells asked now rows (failure code) _ (failure_read code q l e)

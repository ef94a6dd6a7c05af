-- What an answer tells, by the grammar of answers.
use Rattle.std.proofs.Common.{◌≡◌, ◌≢◌, ℕ, pos, Bool, true, false, List, [], ◌∷◌, ◌++◌, Option, Some, None, Result, Ok, Err}
use Rattle.std.proofs.Common.{refl, sym, ap, ◌∙◌, subst}
use Rattle.std.specs.Prelude.{if◌then◌else◌, codes, bytes_eq}
use Rattle.std.specs.List.{All}
use Rattle.std.proofs.lemmas.List.Elements.{All-nil, All-cons, All-head, All-tail}
use Rattle.std.proofs.lemmas.Slice.Eq.{bytes_eq-Decides}
use Rattle.ncc_pack.specs.declared.value.Value.{Value, out-Value, roll-Value, roll-out-Value, out-roll-Value}
use Rattle.ncc_pack.specs.declared.value.Value.TheVariants as v
use Rattle.ncc_pack.specs.declared.value.Value.TheOpen.{Value-F}
use Rattle.ncc_pack.specs.declared.value.NodeValue.{NodeValue}
use Rattle.ncc_pack.specs.Texts.{texts_alone}
use Rattle.ncc_bolt.specs.Fields.{Pairs}
use Rattle.ncc_bolt.specs.Reading.{response_at}
use Rattle.ncc_bolt.specs.declared.error.MessageError.{MessageError}
use Rattle.ncc_bolt.specs.declared.message.Response.{Response}
use Rattle.ncc_bolt.specs.declared.message.Response.TheVariants as s
use Rattle.ncc_route.specs.declared.table.Table.{Table}
use Rattle.ncc_driver.specs.declared.standing.Asked.{Asked}
use Rattle.ncc_driver.specs.declared.standing.Asked.TheVariants as a
use Rattle.ncc_driver.specs.declared.link.Item.{Item}
use Rattle.ncc_driver.specs.declared.link.Item.TheVariants.{Shaken, Message}
use Rattle.ncc_driver.specs.declared.answers.Told.{Told}
use Rattle.ncc_driver.specs.declared.answers.Told.TheVariants as says
use Rattle.ncc_driver.specs.Work.{Row, rows_fit}
use Rattle.ncc_driver.specs.Requests.{shake_answer}
use Rattle.ncc_driver.specs.Answers.{value_at, text_in, list_by, list_in, pairs_by, if_texts, texts_in, seconds_in, is_true}
use Rattle.ncc_driver.specs.Answers.{Served, server_of, server_by, server_in, one_more, servers_in, servers_at, table_of, table_by_pairs}
use Rattle.ncc_driver.specs.Answers.{table_in, told_table, told_bookmark, told_code, success_of, record_of, response_of, message_of}
use Rattle.ncc_driver.specs.Session.{told_by}
use Rattle.ncc_driver.specs.LawsAnswers.{Has, IsServer, IsTable, IsSuccess, IsRecord, IsResponse, IsAnswer}
use Rattle.ncc_driver.specs.LawsAnswers.{BadOutsideGrammar, FailedByCode, CommittedByBookmark}

-- ---- values that hold others

pub dict_out : (pairs : Pairs) → out-Value (v.Dict pairs) ≡ Value-F.Dict pairs
dict_out pairs = ap out-Value (sym (v.rolls-Dict pairs)) ∙ out-roll-Value (Value-F.Dict pairs)

pub list_out : (xs : List Value) → out-Value (v.List xs) ≡ Value-F.List xs
list_out xs = ap out-Value (sym (v.rolls-List xs)) ∙ out-roll-Value (Value-F.List xs)

abbrev Layer : Type 0
Layer = Value-F Value NodeValue

dict_layer : (l : Layer) (pairs : Pairs) → pairs_by l ≡ Some pairs → roll-Value l ≡ v.Dict pairs
dict_layer (Value-F.Dict qs) pairs e = v.rolls-Dict qs ∙ ap (λ (x : Pairs). v.Dict x) (cc)
dict_layer l pairs e = absurd (cc)

list_layer : (l : Layer) (xs : List Value) → list_by l ≡ Some xs → roll-Value l ≡ v.List xs
list_layer (Value-F.List ys) xs e = v.rolls-List ys ∙ ap (λ (x : List Value). v.List x) (cc)
list_layer l xs e = absurd (cc)

dict_back : (x : Value) (pairs : Pairs) → pairs_by (out-Value x) ≡ Some pairs → x ≡ v.Dict pairs
dict_back x pairs e = sym (roll-out-Value x) ∙ dict_layer (out-Value x) pairs e

list_back : (x : Value) (xs : List Value) → list_by (out-Value x) ≡ Some xs → x ≡ v.List xs
list_back x xs e = sym (roll-out-Value x) ∙ list_layer (out-Value x) xs e

-- what is found in an optional value
text_found : (x : Option Value) (t : List ℕ) → text_in x ≡ Some t → x ≡ Some (v.Text t)
text_found (Some (v.Text u)) t e = ap (λ (y : List ℕ). Some (v.Text y)) (cc)
text_found _ t e = absurd (cc)

list_found : (x : Option Value) (xs : List Value) → list_in x ≡ Some xs → x ≡ Some (v.List xs)
list_found (Some x) xs e = ap (λ (y : Value). Some y) (list_back x xs e)
list_found None xs e = absurd (cc)

seconds_found : (x : Option Value) (n : ℕ) → seconds_in x ≡ Some n → x ≡ Some (v.Int (pos n))
seconds_found (Some (v.Int (pos m))) n e = ap (λ (y : ℕ). Some (v.Int (pos y))) (cc)
seconds_found _ n e = absurd (cc)

list_there : (xs : List Value) → list_in (Some (v.List xs)) ≡ Some xs
list_there xs = ap list_by (list_out xs)

-- ---- servers

texts_if : (addresses : List Value) (texts : Bool) → texts ≡ true → (if texts then Some addresses else None) ≡ Some addresses
texts_if addresses true e = refl
texts_if addresses false e = absurd (cc)

server_there : (x : Value) → IsServer x → (server : Served) × (server_in x ≡ Some server)
server_there x h = (
  (h.role, h.addresses),
  ap server_in h.is ∙ ap (λ o. server_by (pairs_by o)) (dict_out h.pairs)
      ∙ ap (λ o. server_of (text_in o) (texts_in (value_at (codes "addresses") h.pairs))) h.role_is
      ∙ ap (λ o. server_of (Some h.role) (texts_in o)) h.addresses_are
      ∙ ap (λ o. server_of (Some h.role) (if_texts o)) (list_there h.addresses)
      ∙ ap (λ o. server_of (Some h.role) o) (texts_if h.addresses (texts_alone h.addresses) h.texts),
)

texts_of : (xs ys : List Value) (texts : Bool) → texts_alone xs ≡ texts → (if texts then Some xs else None) ≡ Some ys
    → (xs ≡ ys) × (texts_alone xs ≡ true)
texts_of xs ys true e f = (cc, e)
texts_of xs ys false e f = absurd (cc)

-- texts that were found are a list of texts
texts_found : (x : Option Value) (o : Option (List Value)) (ys : List Value) → list_in x ≡ o → if_texts o ≡ Some ys
    → (x ≡ Some (v.List ys)) × (texts_alone ys ≡ true)
texts_found x (Some xs) ys e f =
    let t = texts_of xs ys (texts_alone xs) refl f in
    (list_found x ys (e ∙ ap (λ (l : List Value). Some l) t.0), sym (ap texts_alone t.0) ∙ t.1)
texts_found x None ys e f = absurd (cc)

server_parts : (x : Value) (pairs : Pairs) (role : Option (List ℕ)) (addresses : Option (List Value)) (server : Served) → x ≡ v.Dict pairs
    → text_in (value_at (codes "role") pairs) ≡ role → texts_in (value_at (codes "addresses") pairs) ≡ addresses
    → server_of role addresses ≡ Some server → IsServer x
server_parts x pairs (Some role) (Some addresses) server e f g h =
    let found = value_at (codes "addresses") pairs in
    let t = texts_found found (list_in found) addresses refl g in
    record {
      pairs = pairs;
      is = e;
      role = role;
      role_is = text_found (value_at (codes "role") pairs) role f;
      addresses = addresses;
      addresses_are = t.0;
      texts = t.1;
    }
server_parts x pairs _ _ server e f g h = absurd (cc)

server_by_parts : (x : Value) (pairs : Option Pairs) (server : Served) → pairs_by (out-Value x) ≡ pairs → server_by pairs ≡ Some server
    → IsServer x
server_by_parts x (Some pairs) server e h =
    server_parts x pairs (text_in (value_at (codes "role") pairs)) (texts_in (value_at (codes "addresses") pairs)) server
    (dict_back x pairs e) refl refl h
server_by_parts x None server e h = absurd (cc)

server_is : (x : Value) (server : Served) → server_in x ≡ Some server → IsServer x
server_is x server h = server_by_parts x (pairs_by (out-Value x)) server refl h

servers_there : (xs : List Value) → All IsServer xs → (servers : List Served) × (servers_in xs ≡ Some servers)
unfolding servers_in
servers_there [] h = ([], refl)
servers_there (x ∷ xs) h =
    let one = server_there x (All-head IsServer x xs h) in
    let others = servers_there xs (All-tail IsServer x xs h) in (
      one.0 ∷ others.0,
      ap (λ o. one_more o (servers_in xs)) one.1 ∙ ap (λ o. one_more (Some one.0) o) others.1,
    )

more_parts : (one : Option Served) (others : Option (List Served)) (all : List Served) → one_more one others ≡ Some all
    → (server : Served) × (servers : List Served) × (one ≡ Some server) × (others ≡ Some servers)
more_parts (Some server) (Some servers) all e = (server, servers, refl, refl)
more_parts _ _ all e = absurd (cc)

servers_are : (xs : List Value) (servers : List Served) → servers_in xs ≡ Some servers → All IsServer xs
unfolding servers_in
servers_are [] servers e = All-nil IsServer
servers_are (x ∷ xs) servers e =
    let m = more_parts (server_in x) (servers_in xs) servers e in
    All-cons IsServer x xs (server_is x m.0 m.2) (servers_are xs m.1 m.3)

-- ---- tables

table_there : (now : ℕ) (x : Value) → IsTable x → (table : Table) × (table_in now (Some x) ≡ Some table)
table_there now x h =
    let all = servers_there h.servers h.each in (
      _,
      ap (λ y. table_in now (Some y)) h.is ∙ ap (λ o. table_by_pairs now (pairs_by o)) (dict_out h.pairs)
          ∙ ap (λ o. table_of now (seconds_in o) (servers_at (list_in (value_at (codes "servers") h.pairs)))) h.ttl
          ∙ ap (λ o. table_of now (Some h.seconds) (servers_at (list_in o))) h.servers_are
          ∙ ap (λ o. table_of now (Some h.seconds) (servers_at o)) (list_there h.servers)
          ∙ ap (λ o. table_of now (Some h.seconds) o) all.1,
    )

servers_parts : (x : Option Value) (o : Option (List Value)) (servers : List Served) → list_in x ≡ o → servers_at o ≡ Some servers
    → (xs : List Value) × (x ≡ Some (v.List xs)) × All IsServer xs
servers_parts x (Some xs) servers e f = (xs, list_found x xs e, servers_are xs servers f)
servers_parts x None servers e f = absurd (cc)

table_parts : (now : ℕ) (x : Value) (pairs : Pairs) (seconds : Option ℕ) (servers : Option (List Served)) (table : Table) → x ≡ v.Dict pairs
    → seconds_in (value_at (codes "ttl") pairs) ≡ seconds → servers_at (list_in (value_at (codes "servers") pairs)) ≡ servers
    → table_of now seconds servers ≡ Some table → IsTable x
table_parts now x pairs (Some seconds) (Some servers) table e f g h =
    let found = value_at (codes "servers") pairs in
    let p = servers_parts found (list_in found) servers refl g in
    record {
      pairs = pairs;
      is = e;
      seconds = seconds;
      ttl = seconds_found (value_at (codes "ttl") pairs) seconds f;
      servers = p.0;
      servers_are = p.1;
      each = p.2;
    }
table_parts now x pairs _ _ table e f g h = absurd (cc)

table_by_parts : (now : ℕ) (x : Value) (pairs : Option Pairs) (table : Table) → pairs_by (out-Value x) ≡ pairs
    → table_by_pairs now pairs ≡ Some table → IsTable x
table_by_parts now x (Some pairs) table e h =
    table_parts now x pairs (seconds_in (value_at (codes "ttl") pairs)) (servers_at (list_in (value_at (codes "servers") pairs))) table
    (dict_back x pairs e) refl refl h
table_by_parts now x None table e h = absurd (cc)

table_is : (now : ℕ) (found : Option Value) (table : Table) → table_in now found ≡ Some table → (x : Value) × (found ≡ Some x) × IsTable x
table_is now (Some x) table h = (x, refl, table_by_parts now x (pairs_by (out-Value x)) table refl h)
table_is now None table h = absurd (cc)

-- ---- bad, or an answer

record Agrees (told : Told) (P : Type 0) : Type 0 where
  answer : P → told ≢ says.Bad
  told_so : told ≢ says.Bad → P

not_bad : (told : Told) → told ≡ says.Bad → told ≢ says.Bad → ⊥
not_bad told e f = f e

routed_by : (now : ℕ) (found : Option Value) (table : Option Table) → table_in now found ≡ table
    → told_table table ≢ says.Bad → (x : Value) × (found ≡ Some x) × IsTable x
routed_by now found (Some table) e f = table_is now found table e
routed_by now found None e f = absurd (f refl)

routed_agrees : (now : ℕ) (found : Option Value) → Agrees (told_table (table_in now found)) ((x : Value) × (found ≡ Some x) × IsTable x)
routed_agrees now found = record {
  answer = λ h e.
      let t = table_there now h.0 h.2 in
      let is : says.Routed t.0 ≡ says.Bad =
      sym (ap told_table (ap (λ (o : Option Value). table_in now o) h.1 ∙ t.1)) ∙ e in
      absurd (cc);
  told_so = routed_by now found (table_in now found) refl;
}

bookmark_agrees : (found : Option Value) → Agrees (told_bookmark (text_in found)) ((t : List ℕ) × (found ≡ Some (v.Text t)))
bookmark_agrees found = record {
  answer = λ h e. let is : says.Committed h.0 ≡ says.Bad = sym (ap (λ (o : Option Value). told_bookmark (text_in o)) h.1)
      ∙ e in absurd (cc);
  told_so = go (text_in found) refl;
}
  where
    go : (o : Option (List ℕ)) → text_in found ≡ o → told_bookmark o ≢ says.Bad → (t : List ℕ) × (found ≡ Some (v.Text t))
    go (Some t) e f = (t, text_found found t e)
    go None e f = absurd (f refl)

code_agrees : (found : Option Value) → Agrees (told_code (text_in found)) ((t : List ℕ) × (found ≡ Some (v.Text t)))
code_agrees found = record {
  answer = λ h e. let is : says.Failed h.0 ≡ says.Bad = sym (ap (λ (o : Option Value). told_code (text_in o)) h.1) ∙ e in absurd (cc);
  told_so = go (text_in found) refl;
}
  where
    go : (o : Option (List ℕ)) → text_in found ≡ o → told_code o ≢ says.Bad → (t : List ℕ) × (found ≡ Some (v.Text t))
    go (Some t) e f = (t, text_found found t e)
    go None e f = absurd (f refl)

if_done : (more : Bool) → (more ≡ true → ⊥) → (if more then says.Bad else says.Done) ≢ says.Bad
if_done true n e = absurd (n refl)
if_done false n e = absurd (cc)

true_found : (x : Option Value) → is_true x ≡ true → x ≡ Some (v.Bool true)
true_found (Some (v.Bool b)) e = ap (λ (c : Bool). Some (v.Bool c)) e
true_found _ e = absurd (cc)

pull_agrees : (x : Option Value) → Agrees (if is_true x then says.Bad else says.Done) (¬ (x ≡ Some (v.Bool true)))
pull_agrees x = record {
  answer = λ n. if_done (is_true x) (λ e. n (true_found x e));
  told_so = λ f e. f (ap (λ (o : Option Value). if is_true o then says.Bad else says.Done) e);
}

done_agrees : Agrees says.Done (Unit {0})
done_agrees = record { answer = λ u e. absurd (cc); told_so = λ f. tt }

bad_agrees : Agrees says.Bad ⊥
bad_agrees = record { answer = λ h. absurd h; told_so = λ f. f refl }

success_agrees : (asked : Asked) (now : ℕ) (meta : Pairs) → Agrees (success_of asked now meta) (IsSuccess asked meta)
success_agrees a.Route now meta = routed_agrees now (value_at (codes "rt") meta)
success_agrees a.Pull now meta = pull_agrees (value_at (codes "has_more") meta)
success_agrees a.Commit now meta = bookmark_agrees (value_at (codes "bookmark") meta)
success_agrees _ now meta = done_agrees

row_agrees : (fields : Row) (fits : Bool) → Agrees (if fits then says.Row fields else says.Bad) (fits ≡ true)
row_agrees fields true = record { answer = λ e f. absurd (cc); told_so = λ f. refl }
row_agrees fields false = record { answer = λ e. absurd (cc); told_so = λ f. absurd (f refl) }

record_agrees : (asked : Asked) (rows : List Row) (fields : Row) → Agrees (record_of asked rows fields) (IsRecord asked rows fields)
record_agrees a.Pull rows fields = row_agrees fields (rows_fit (rows ++ fields ∷ []))
record_agrees _ rows fields = bad_agrees

response_agrees : (asked : Asked) (now : ℕ) (rows : List Row) (response : Response)
    → Agrees (response_of asked now rows response) (IsResponse asked rows response)
response_agrees asked now rows (s.Success meta) = success_agrees asked now meta
response_agrees asked now rows (s.Row fields) = record_agrees asked rows fields
response_agrees asked now rows s.Ignored = bad_agrees
response_agrees asked now rows (s.Failure meta) = code_agrees (value_at (codes "code") meta)

abbrev ok : Response → Result Response MessageError
ok x = Ok x

same_ok : (x y : Response) → ok x ≡ ok y → x ≡ y
same_ok x y e = cc

message_agrees : (asked : Asked) (now : ℕ) (rows : List Row) (read : Result Response MessageError)
    → Agrees (elim read [ Ok response ↦ response_of asked now rows response | Err cause ↦ says.Bad ])
    ((response : Response) × (read ≡ Ok response) × IsResponse asked rows response)
message_agrees asked now rows (Ok response) =
    let r = response_agrees asked now rows response in
    record {
      answer = λ h. r.answer (subst (λ (x : Response). IsResponse asked rows x) (sym (same_ok response h.0 h.1)) h.2);
      told_so = λ f. (response, refl, r.told_so f);
    }
message_agrees asked now rows (Err cause) = record { answer = λ h. absurd (cc (h.1)); told_so = λ f. absurd (f refl) }

pub told_message : (asked : Asked) (now : ℕ) (rows : List Row) (bytes : List ℕ)
    → told_by asked now rows (Message bytes) ≡ message_of asked now rows bytes
told_message (a.Shake leg) now rows bytes = refl
told_message _ now rows bytes = refl

shake_agrees : (bytes : List ℕ) (same : Bool) → bytes_eq bytes shake_answer ≡ same
    → Agrees (if same then says.Done else says.Bad) (bytes ≡ shake_answer)
shake_agrees bytes true e = record { answer = λ h f. absurd (cc); told_so = λ f. (bytes_eq-Decides bytes shake_answer).0 e }
shake_agrees bytes false e = record {
  answer = λ h. let t : true ≡ false = sym ((bytes_eq-Decides bytes shake_answer).1 h) ∙ e in absurd (cc);
  told_so = λ f. absurd (f refl);
}

told_agrees : (asked : Asked) (now : ℕ) (rows : List Row) (item : Item) → Agrees (told_by asked now rows item) (IsAnswer asked rows item)
told_agrees (a.Shake leg) now rows (Shaken bytes) = shake_agrees bytes (bytes_eq bytes shake_answer) refl
told_agrees asked now rows (Message bytes) =
    subst (λ (t : Told). Agrees t (IsAnswer asked rows (Message bytes))) (sym (told_message asked now rows bytes))
    (message_agrees asked now rows (response_at bytes))
told_agrees _ now rows _ = bad_agrees

bad_or : (told : Told) → (told ≢ says.Bad → ⊥) → told ≡ says.Bad
bad_or says.Done n = absurd (n (λ e. absurd (cc)))
bad_or (says.Row fields) n = absurd (n (λ e. absurd (cc)))
bad_or (says.Routed table) n = absurd (n (λ e. absurd (cc)))
bad_or (says.Committed bookmark) n = absurd (n (λ e. absurd (cc)))
bad_or (says.Failed code) n = absurd (n (λ e. absurd (cc)))
bad_or says.Bad n = refl

pub bad_outside_grammar : BadOutsideGrammar
bad_outside_grammar asked now rows item =
    let g = told_agrees asked now rows item in (
      λ e h. g.answer h e,
      λ n. bad_or (told_by asked now rows item) (λ f. n (g.told_so f)),
    )

-- ---- failures and commits

code_told : (found : Option Value) (o : Option (List ℕ)) (code : List ℕ) → text_in found ≡ o → told_code o ≡ says.Failed code
    → found ≡ Some (v.Text code)
code_told found (Some t) code e f = text_found found code (e ∙ ap (λ (x : List ℕ). Some x) (cc))
code_told found None code e f = absurd (cc)

bookmark_told : (found : Option Value) (o : Option (List ℕ)) (bookmark : List ℕ) → text_in found ≡ o
    → told_bookmark o ≡ says.Committed bookmark → found ≡ Some (v.Text bookmark)
bookmark_told found (Some t) bookmark e f = text_found found bookmark (e ∙ ap (λ (x : List ℕ). Some x) (cc))
bookmark_told found None bookmark e f = absurd (cc)

table_no_code : (table : Option Table) (code : List ℕ) → told_table table ≢ says.Failed code
table_no_code (Some table) code e = absurd (cc)
table_no_code None code e = absurd (cc)

bookmark_no_code : (o : Option (List ℕ)) (code : List ℕ) → told_bookmark o ≢ says.Failed code
bookmark_no_code (Some t) code e = absurd (cc)
bookmark_no_code None code e = absurd (cc)

if_no_code : (b : Bool) (fields : Row) (code : List ℕ)
    → ((if b then says.Bad else says.Done) ≢ says.Failed code) × ((if b then says.Row fields else says.Bad) ≢ says.Failed code)
if_no_code true fields code = (λ e. absurd (cc), λ e. absurd (cc))
if_no_code false fields code = (λ e. absurd (cc), λ e. absurd (cc))

success_no_code : (asked : Asked) (now : ℕ) (meta : Pairs) (code : List ℕ) → success_of asked now meta ≢ says.Failed code
success_no_code a.Route now meta code = table_no_code (table_in now (value_at (codes "rt") meta)) code
success_no_code a.Pull now meta code = (if_no_code (is_true (value_at (codes "has_more") meta)) [] code).0
success_no_code a.Commit now meta code = bookmark_no_code (text_in (value_at (codes "bookmark") meta)) code
success_no_code _ now meta code = λ e. absurd (cc)

record_no_code : (asked : Asked) (rows : List Row) (fields : Row) (code : List ℕ) → record_of asked rows fields ≢ says.Failed code
record_no_code a.Pull rows fields code = (if_no_code (rows_fit (rows ++ fields ∷ [])) fields code).1
record_no_code _ rows fields code = λ e. absurd (cc)

failed_read : (asked : Asked) (now : ℕ) (rows : List Row) (code : List ℕ) (read : Result Response MessageError)
    → elim read [ Ok response ↦ response_of asked now rows response | Err cause ↦ says.Bad ] ≡ says.Failed code
    → (meta : Pairs) × (read ≡ Ok (s.Failure meta)) × Has meta (codes "code") (v.Text code)
failed_read asked now rows code (Ok (s.Failure meta)) e =
    let found = value_at (codes "code") meta in (meta, refl, code_told found (text_in found) code refl e)
failed_read asked now rows code (Ok (s.Success meta)) e = absurd (success_no_code asked now meta code e)
failed_read asked now rows code (Ok (s.Row fields)) e = absurd (record_no_code asked rows fields code e)
failed_read asked now rows code (Ok s.Ignored) e = absurd (cc)
failed_read asked now rows code (Err cause) e = absurd (cc)

abbrev told_of : Asked → ℕ → List Row → Result Response MessageError → Told
told_of asked now rows read = elim read [ Ok response ↦ response_of asked now rows response | Err cause ↦ says.Bad ]

pub failed_by_code : FailedByCode
failed_by_code asked now rows bytes code = (
  λ e. failed_read asked now rows code (response_at bytes) (sym (told_message asked now rows bytes) ∙ e),
  λ h. told_message asked now rows bytes ∙ ap (told_of asked now rows) h.1 ∙ ap (λ (o : Option Value). told_code (text_in o)) h.2,
)

code_no_bookmark : (o : Option (List ℕ)) (bookmark : List ℕ) → told_code o ≢ says.Committed bookmark
code_no_bookmark (Some t) bookmark e = absurd (cc)
code_no_bookmark None bookmark e = absurd (cc)

committed_read : (now : ℕ) (rows : List Row) (bookmark : List ℕ) (read : Result Response MessageError)
    → told_of a.Commit now rows read ≡ says.Committed bookmark
    → (meta : Pairs) × (read ≡ Ok (s.Success meta)) × Has meta (codes "bookmark") (v.Text bookmark)
committed_read now rows bookmark (Ok (s.Success meta)) e =
    let found = value_at (codes "bookmark") meta in (meta, refl, bookmark_told found (text_in found) bookmark refl e)
committed_read now rows bookmark (Ok (s.Failure meta)) e = absurd (code_no_bookmark (text_in (value_at (codes "code") meta)) bookmark e)
committed_read now rows bookmark (Ok (s.Row fields)) e = absurd (cc)
committed_read now rows bookmark (Ok s.Ignored) e = absurd (cc)
committed_read now rows bookmark (Err cause) e = absurd (cc)

pub committed_by_bookmark : CommittedByBookmark
committed_by_bookmark now rows bytes bookmark = (
  λ e. committed_read now rows bookmark (response_at bytes) e,
  λ h. ap (told_of a.Commit now rows) h.1 ∙ ap (λ (o : Option Value). told_bookmark (text_in o)) h.2,
)

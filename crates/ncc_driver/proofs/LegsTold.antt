-- Only ROUTE is told a table, and only COMMIT a bookmark.
use Rattle.std.proofs.Common.{◌≡◌, ℕ, Bool, true, false, List, [], ◌∷◌, ◌++◌, Option, Some, None, Result, Ok, Err, refl, sym, subst}
use Rattle.std.specs.Prelude.{if◌then◌else◌, codes, bytes_eq}
use Rattle.ncc_bolt.specs.Fields.{Pairs}
use Rattle.ncc_bolt.specs.Reading.{response_at}
use Rattle.ncc_bolt.specs.declared.error.MessageError.{MessageError}
use Rattle.ncc_bolt.specs.declared.message.Response.{Response}
use Rattle.ncc_bolt.specs.declared.message.Response.TheVariants as s
use Rattle.ncc_route.specs.declared.table.Table.{Table}
use Rattle.ncc_driver.specs.declared.standing.Asked.{Asked}
use Rattle.ncc_driver.specs.declared.standing.Asked.TheVariants as a
use Rattle.ncc_driver.specs.declared.link.Item.{Item}
use Rattle.ncc_driver.specs.declared.link.Item.TheVariants.{Shaken, Message, TooLong}
use Rattle.ncc_driver.specs.declared.answers.Told.{Told}
use Rattle.ncc_driver.specs.declared.answers.Told.TheVariants as says
use Rattle.ncc_driver.specs.Work.{Row, rows_fit}
use Rattle.ncc_driver.specs.Requests.{shake_answer}
use Rattle.ncc_driver.specs.Answers.{told_table, told_bookmark, told_code, table_in, text_in, value_at, is_true}
use Rattle.ncc_driver.specs.Answers.{success_of, record_of, response_of}
use Rattle.ncc_driver.specs.Session.{told_by}
use Rattle.ncc_driver.proofs.LawsGrammar.{told_message}

-- What is told, behind these rows, is told of this request, and a row fits behind them.
abbrev pub Own : List Row → Asked → Told → Type 0
Own rows asked (says.Row fields) = rows_fit (rows ++ fields ∷ []) ≡ true
Own rows asked (says.Routed table) = asked ≡ a.Route
Own rows asked (says.Committed bookmark) = asked ≡ a.Commit
Own rows asked _ = Unit {0}

own_table : (rows : List Row) (table : Option Table) → Own rows a.Route (told_table table)
own_table rows (Some table) = refl
own_table rows None = tt

own_mark : (rows : List Row) (bookmark : Option (List ℕ)) → Own rows a.Commit (told_bookmark bookmark)
own_mark rows (Some bookmark) = refl
own_mark rows None = tt

own_code : (rows : List Row) (asked : Asked) (code : Option (List ℕ)) → Own rows asked (told_code code)
own_code rows asked (Some code) = tt
own_code rows asked None = tt

own_if : (rows : List Row) (asked : Asked) (b : Bool)
    → Own rows asked (if b then says.Bad else says.Done) × Own rows asked (if b then says.Done else says.Bad)
own_if rows asked true = (tt, tt)
own_if rows asked false = (tt, tt)

own_row : (rows : List Row) (asked : Asked) (fields : Row) (b : Bool) → rows_fit (rows ++ fields ∷ []) ≡ b
    → Own rows asked (if b then says.Row fields else says.Bad)
own_row rows asked fields true e = e
own_row rows asked fields false e = tt

own_success : (rows : List Row) (asked : Asked) (now : ℕ) (meta : Pairs) → Own rows asked (success_of asked now meta)
own_success rows a.Route now meta = own_table rows (table_in now (value_at (codes "rt") meta))
own_success rows a.Pull now meta = (own_if rows a.Pull (is_true (value_at (codes "has_more") meta))).0
own_success rows a.Commit now meta = own_mark rows (text_in (value_at (codes "bookmark") meta))
own_success rows _ now meta = tt

own_record : (asked : Asked) (rows : List Row) (fields : Row) → Own rows asked (record_of asked rows fields)
own_record a.Pull rows fields = own_row rows a.Pull fields (rows_fit (rows ++ fields ∷ [])) refl
own_record _ rows fields = tt

abbrev told_of : Asked → ℕ → List Row → Result Response MessageError → Told
told_of asked now rows read = elim read [ Ok response ↦ response_of asked now rows response | Err cause ↦ says.Bad ]

own_read : (asked : Asked) (now : ℕ) (rows : List Row) (read : Result Response MessageError) → Own rows asked (told_of asked now rows read)
own_read asked now rows (Ok (s.Success meta)) = own_success rows asked now meta
own_read asked now rows (Ok (s.Failure meta)) = own_code rows asked (text_in (value_at (codes "code") meta))
own_read asked now rows (Ok (s.Row fields)) = own_record asked rows fields
own_read asked now rows (Ok s.Ignored) = tt
own_read asked now rows (Err cause) = tt

pub own_told : (asked : Asked) (now : ℕ) (rows : List Row) (item : Item) → Own rows asked (told_by asked now rows item)
own_told asked now rows (Message bytes) =
    subst (λ (told : Told). Own rows asked told) (sym (told_message asked now rows bytes)) (own_read asked now rows (response_at bytes))
own_told (a.Shake leg) now rows (Shaken bytes) = (own_if rows (a.Shake leg) (bytes_eq bytes shake_answer)).1
own_told (a.Shake leg) now rows TooLong = tt
own_told (a.Hello leg) now rows _ = tt
own_told a.Route now rows _ = tt
own_told a.Begin now rows _ = tt
own_told a.Run now rows _ = tt
own_told a.Pull now rows _ = tt
own_told a.Commit now rows _ = tt

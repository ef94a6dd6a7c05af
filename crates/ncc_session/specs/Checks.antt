-- The checks of requests, in their order: the first that fails counts.
use Rattle.std.specs.Prelude.{ℕ, zero, suc, pos, negsuc, ℤ, max, Bool, true, false, not, ◌&&◌, if◌then◌else◌, nat_lt}
use Rattle.std.specs.Prelude.{bytes_eq, codes}
use Rattle.std.specs.Prelude.{List, [], ◌∷◌, length, slice_get, Option, Some, None, Result, Ok, Err}
use Rattle.std.specs.Map.{lookup}
use Rattle.std.specs.List.{list_all}
use Rattle.ncc_pack.specs.declared.value.Value.{Value, out-Value}
use Rattle.ncc_pack.specs.declared.value.Value.TheOpen.{Value-F}
use Rattle.ncc_pack.specs.declared.value.NodeValue.{NodeValue}
use Rattle.ncc_pack.specs.declared.value.Value.TheVariants as v
use Rattle.ncc_bolt.specs.Fields.{Pairs}
use Rattle.ncc_bookmark.specs.Point.{Point}
use Rattle.ncc_bookmark.specs.Reading.{reading_of}
use Rattle.ncc_bookmark.specs.declared.bookmark.BookmarkError.{BookmarkError}
use Rattle.ncc_cypher.specs.declared.tree.Statement.{Statement}
use Rattle.ncc_cypher.specs.Parsed.{parsed}
use Rattle.ncc_cypher.specs.Writing.{writes}
use Rattle.ncc_store.specs.declared.call.Call.{Call}
use Rattle.ncc_route.specs.declared.auth.Auth.{Auth}
use Rattle.ncc_route.specs.declared.auth.Auth.TheVariants.{Nobody, Basic}
use Rattle.ncc_session.specs.declared.refusal.Refusal.{Refusal}
use Rattle.ncc_session.specs.declared.refusal.Refusal.TheVariants as r
use Rattle.ncc_session.specs.declared.phase.Pulled.{Pulled}
use Rattle.ncc_session.specs.declared.checks.Entrance.{Entrance}
use Rattle.ncc_session.specs.declared.checks.Wish.{Wish}

-- what a check gives, or why the request fails
abbrev pub Checked : Type 0 → Type 0
Checked A = Result A Refusal

-- one check and then the next
abbrev pub and_then : {A B : Type 0} → Checked A → (A → Checked B) → Checked B
and_then (Ok a) f = f a
and_then (Err e) f = Err e

-- the value under a key
abbrev pub under : List ℕ → Pairs → Option Value
under key pairs = lookup (bytes_eq key) pairs

-- (1) `mode` is "r" or "w", or it is absent or null, which mean "w": whether the transaction may write
abbrev pub mode_named : List ℕ → Checked Bool
mode_named mode = if bytes_eq mode (codes "w") then Ok true else if bytes_eq mode (codes "r") then Ok false else Err r.BadMode

abbrev pub mode_of : Option Value → Checked Bool
mode_of None = Ok true
mode_of (Some v.Null) = Ok true
mode_of (Some (v.Text mode)) = mode_named mode
mode_of (Some _) = Err r.BadMode

-- (2) `bookmarks` is absent, null or a list of texts
abbrev pub is_text : Value → Bool
is_text (v.Text t) = true
is_text _ = false

abbrev pub texts_of : List Value → Checked (List Value)
texts_of values = if list_all is_text values then Ok values else Err r.BadBookmarks

abbrev pub bookmarks_in : Value-F Value NodeValue → Checked (List Value)
bookmarks_in Value-F.Null = Ok []
bookmarks_in (Value-F.List values) = texts_of values
bookmarks_in _ = Err r.BadBookmarks

abbrev pub bookmarks_of : Option Value → Checked (List Value)
bookmarks_of None = Ok []
bookmarks_of (Some value) = bookmarks_in (out-Value value)

-- (3) `db` is absent, null or "neo4j", and `imp_user` is absent or null
abbrev pub database_named : List ℕ → Checked (Unit {0})
database_named name = if bytes_eq name (codes "neo4j") then Ok tt else Err r.NoDatabase

abbrev pub database_of : Option Value → Checked (Unit {0})
database_of None = Ok tt
database_of (Some v.Null) = Ok tt
database_of (Some (v.Text name)) = database_named name
database_of (Some _) = Err r.NoDatabase

abbrev pub user_of : Option Value → Checked (Unit {0})
user_of None = Ok tt
user_of (Some v.Null) = Ok tt
user_of (Some _) = Err r.Impersonation

-- (4) there are at most 256 bookmarks
abbrev pub few : List Value → Checked (Unit {0})
few texts = if nat_lt 256 (length texts) then Err r.TooManyBookmarks else Ok tt

-- (5) each text is a bookmark of this cluster: the greatest place, 0 for none
abbrev pub place_read : Result Point BookmarkError → Checked ℕ
place_read (Ok point) = Ok point.place
place_read (Err _) = Err r.BadBookmark

abbrev pub place_in : ℕ → Value → Checked ℕ
place_in cluster (v.Text text) = place_read (reading_of text cluster)
place_in cluster _ = Err r.BadBookmark

abbrev pub greatest_in : ℕ → List Value → Checked ℕ
greatest_in cluster [] = Ok 0
greatest_in cluster (text ∷ texts) =
    and_then (place_in cluster text) (λ place. and_then (greatest_in cluster texts) (λ most. Ok (max place most)))

-- checks 2 to 5, on these bookmarks and a dictionary: the place that is needed
abbrev pub need_of : ℕ → Option Value → Pairs → Checked ℕ
need_of cluster bookmarks extra =
    and_then (bookmarks_of bookmarks) (λ texts.
    and_then (database_of (under (codes "db") extra)) (λ _.
    and_then (user_of (under (codes "imp_user") extra)) (λ _.
    and_then (few texts) (λ _.
    greatest_in cluster texts))))

-- checks 1 to 5: whether the transaction may write, and the place that it needs
abbrev pub entrance_of : ℕ → Pairs → Checked Entrance
entrance_of cluster extra =
    and_then (mode_of (under (codes "mode") extra)) (λ write.
    and_then (need_of cluster (under (codes "bookmarks") extra) extra) (λ need.
    Ok (record { write = write; need = need })))

-- (6) the query is a statement, (7) which writes only where the transaction may
abbrev pub allowed_in : Bool → Statement → Checked (Unit {0})
allowed_in write statement = if writes statement && not write then Err r.AccessMode else Ok tt

abbrev pub statement_in : List ℕ → Checked Statement
statement_in query = elim (parsed query) [ Ok statement ↦ Ok statement | Err fault ↦ Err (r.Syntax fault.0) ]

-- checks 6 and 7: the step
abbrev pub checked_call : Bool → List ℕ → Pairs → Checked Call
checked_call write query params =
    and_then (statement_in query) (λ statement.
    and_then (allowed_in write statement) (λ _.
    Ok (record { source = query; params = params })))

-- (9) there are fewer than 1,000 steps so far
abbrev pub room_in : List Call → Checked (Unit {0})
room_in steps = if nat_lt (length steps) 1000 then Ok tt else Err r.TooManySteps

-- (8) `n` is absent, null or -1, which take all rows, or at least 1
abbrev pub count_named : ℤ → Checked (Option ℕ)
count_named (pos zero) = Err r.BadPull
count_named (pos (suc n)) = Ok (Some (suc n))
count_named (negsuc zero) = Ok None
count_named (negsuc (suc _)) = Err r.BadPull

abbrev pub count_of : Option Value → Checked (Option ℕ)
count_of None = Ok None
count_of (Some v.Null) = Ok None
count_of (Some (v.Int n)) = count_named n
count_of (Some _) = Err r.BadPull

-- `qid` is absent, null or -1, which name the last result, or the number of a result
abbrev pub last_of : List Pulled → Checked ℕ
last_of [] = Err r.BadPull
last_of (x ∷ xs) = Ok (length xs)

abbrev pub result_named : List Pulled → ℤ → Checked ℕ
result_named results (pos n) = Ok n
result_named results (negsuc zero) = last_of results
result_named results (negsuc (suc _)) = Err r.BadPull

abbrev pub number_of : List Pulled → Option Value → Checked ℕ
number_of results None = last_of results
number_of results (Some v.Null) = last_of results
number_of results (Some (v.Int n)) = result_named results n
number_of results (Some _) = Err r.BadPull

-- and its end is not told
abbrev pub unended_at : List Pulled → ℕ → Checked Pulled
unended_at results number =
    elim (slice_get results number) [ Some x ↦ if x.ended then Err r.BadPull else Ok x | None ↦ Err r.BadPull ]

-- which rows are pulled: so many, or all, of the result with this number, of which some may have been pulled
abbrev pub wish_of : List Pulled → Pairs → Checked Wish
wish_of results extra =
    and_then (count_of (under (codes "n") extra)) (λ count.
    and_then (number_of results (under (codes "qid") extra)) (λ number.
    and_then (unended_at results number) (λ x.
    Ok (record { count = count; number = number; next = x.next }))))

-- the login: a text under a key is this
abbrev pub says : List ℕ → Option Value → Bool
says text (Some (v.Text t)) = bytes_eq t text
says text _ = false

-- with nobody configured every HELLO is right, else the scheme, the user and the password are the configured ones
abbrev pub is_welcome : Auth → Pairs → Bool
is_welcome Nobody extra = true
is_welcome (Basic user password) extra =
    says (codes "basic") (under (codes "scheme") extra) && says user (under (codes "principal") extra)
    && says password (under (codes "credentials") extra)

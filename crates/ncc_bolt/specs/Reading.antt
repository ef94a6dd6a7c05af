-- Reading a message (Bolt 4.4, "Messages") up to the first fault that stands in it: the marker, the tag, the number of fields, then
-- the spelling and the kind of each field in turn, then that nothing follows.
use Rattle.std.specs.Prelude.{◌≡◌, ℕ, ◌+◌, ◌-◌, List, [], ◌∷◌, length, drop}
use Rattle.std.specs.Prelude.{Result, Ok, Err, nat_lt, ◌==◌, ◌||◌, if◌then◌else◌}
use Rattle.ncc_pack.specs.declared.value.Value.{Value, out-Value}
use Rattle.ncc_pack.specs.declared.value.NodeValue.{NodeValue}
use Rattle.ncc_pack.specs.declared.value.Value.TheOpen.{Value-F}
use Rattle.ncc_pack.specs.declared.error.PackError.{PackError}
use Rattle.ncc_pack.specs.declared.error.PackError.TheVariants as p
use Rattle.ncc_pack.specs.Reading.{value_at}
use Rattle.ncc_pack.specs.Limits.{max_depth}
use Rattle.ncc_bolt.specs.declared.error.MessageError.{MessageError}
use Rattle.ncc_bolt.specs.declared.error.MessageError.TheVariants.{Pack, UnknownTag, WrongFields, WrongKind, Rest, Memory}
use Rattle.ncc_bolt.specs.Fields.{Kind, dictionary, text, list, Held, Fields}
use Rattle.ncc_bolt.specs.Tags.{first_structure, last_structure}
use Rattle.ncc_bolt.specs.Table.{Row, requests, responses}
use Rattle.ncc_bolt.specs.declared.message.Request.{Request}
use Rattle.ncc_bolt.specs.declared.message.Response.{Response}

infixl 10 ◌>>=◌
abbrev pub ◌>>=◌ : {A B : Type 0} → Result A MessageError → (A → Result B MessageError) → Result B MessageError
(Ok x) >>= f = f x
(Err e) >>= f = Err e

-- what is read, and the bytes after it
abbrev pub Read : Type 0 → Type 0
Read A = Result (A × List ℕ) MessageError

-- What a call answered is what reading gives, unless memory ran out. Want of memory is never a fault of a value.
abbrev pub Fails : {Y : Type 0} → MessageError → Result Y MessageError → Type 0
Fails Memory read = Unit {0}
Fails (Pack p.Memory) read = ⊥
Fails e read = read ≡ Err e

abbrev pub Gives : {X Y : Type 0} → (X → Y) → Result X MessageError → Result Y MessageError → Type 0
Gives view (Ok x) read = read ≡ Ok (view x)
Gives view (Err e) read = Fails e read

-- It answered this, unless memory ran out.
abbrev pub GivesOk : {M : Type 0} → Result M MessageError → M → Type 0
GivesOk {M} result m = Gives {Y = M} (λ x. x) result (Ok m)

-- the fault of a value is that of its message
abbrev pub as_message : {A : Type 0} → Result A PackError → Result A MessageError
as_message (Ok x) = Ok x
as_message (Err e) = Err (Pack e)

-- the error that a caller sees for that of a value
abbrev pub of_pack : PackError → MessageError
of_pack p.Memory = Memory
of_pack e = Pack e

-- ---- the marker and the tag

abbrev pub tag_at : ℕ → List ℕ → Result (ℕ × ℕ) MessageError
tag_at n [] = Err (Pack p.Short)
tag_at n (tag ∷ bytes) = Ok (n, tag)

-- the number of fields, and the tag
unfoldable pub head_at : List ℕ → Result (ℕ × ℕ) MessageError
head_at [] = Err (Pack p.Short)
head_at (m ∷ bytes) =
    if nat_lt m first_structure || nat_lt last_structure m then Err (Pack (p.BadMarker 0)) else tag_at (m - first_structure) bytes

-- ---- fields, of so many bytes in all

-- a value counts its levels from its field
unfoldable pub spelled_at : ℕ → List ℕ → Read Value
spelled_at total bytes = as_message (value_at total max_depth bytes)

abbrev pub held_in : (k : Kind) → MessageError → Value-F Value NodeValue → Result (Held k) MessageError
held_in dictionary e (Value-F.Dict ps) = Ok ps
held_in text e (Value-F.Text t) = Ok t
held_in list e (Value-F.List xs) = Ok xs
held_in k e x = Err e

-- what a value of a kind holds
abbrev pub held : (k : Kind) → MessageError → Value → Result (Held k) MessageError
held k e x = held_in k e (out-Value x)

-- a field of a message with a tag, by its number from 0; one of another kind is refused at the place where its spelling begins
unfoldable pub field_at : (k : Kind) → ℕ → ℕ → ℕ → List ℕ → Read (Held k)
field_at k total tag number bytes =
    spelled_at total bytes >>= λ x. held k (WrongKind tag number (total - length bytes)) x.0 >>= λ h. Ok (h, x.1)

abbrev pub fields_at : (ks : List Kind) → ℕ → ℕ → ℕ → List ℕ → Read (Fields ks)
fields_at [] total tag number bytes = Ok (tt, bytes)
fields_at (k ∷ ks) total tag number bytes =
    field_at k total tag number bytes >>= λ first. fields_at ks total tag (number + 1) first.1 >>= λ others.
    Ok ((first.0, others.0), others.1)

-- nothing may follow
abbrev pub ended : {A : Type 0} → ℕ → A → List ℕ → Result A MessageError
ended total x [] = Ok x
ended total x (b ∷ bytes) = Err (Rest (total - length (b ∷ bytes)))

-- the number of fields is the one of the table
abbrev pub counted : ℕ → ℕ → ℕ → Result (Unit {0}) MessageError
counted tag n want = if n == want then Ok tt else Err (WrongFields tag n)

-- all the fields of a message that says that it has n
abbrev pub fields_of : (ks : List Kind) → ℕ → ℕ → List ℕ → Result (Fields ks) MessageError
fields_of ks tag n message =
    counted tag n (length ks) >>= λ u. fields_at ks (length message) tag 0 (drop 2 message) >>= λ fields.
    ended (length message) fields.0 fields.1

-- ---- messages

-- the message of a row
abbrev pub row_at : {M : Type 0} → Row M → ℕ → ℕ → List ℕ → Result M MessageError
row_at row tag n message = fields_of row.kinds tag n message >>= λ fields. Ok (row.make fields)

-- the message of the row with the tag
abbrev pub in_table : {M : Type 0} → List (Row M) → ℕ → ℕ → List ℕ → Result M MessageError
in_table [] tag n message = Err (UnknownTag tag)
in_table (row ∷ rows) tag n message = if row.tag == tag then row_at row tag n message else in_table rows tag n message

abbrev pub message_at : {M : Type 0} → List (Row M) → List ℕ → Result M MessageError
message_at table message = head_at message >>= λ head. in_table table head.1 head.0 message

-- the request, and the response, that the bytes are
abbrev pub request_at : List ℕ → Result Request MessageError
request_at message = message_at requests message

abbrev pub response_at : List ℕ → Result Response MessageError
response_at message = message_at responses message

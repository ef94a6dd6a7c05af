-- Which answers have a spelling.
use Rattle.std.proofs.Common.{◌≡◌, ◌≢◌, ℕ, ◌+◌, ◌-◌, ◌<◌, ◌≤◌, ◌^◌, true, ◌&&◌, List, [], ◌∷◌, ◌++◌, length, pos, refl, ap, sym, ◌∙◌, arith}
use Rattle.std.proofs.Common.{codes, length-append, suc, Bool, false, cond, map, filter, subst}
use Rattle.std.specs.Prelude.{decimal, nat_le, nat_lt, Result, Ok, Err, IfOk, IsTrue}
use Rattle.std.specs.Str.{IsAscii, IsUtf8, is_utf8}
use Rattle.std.specs.List.{list_all, enumerate_from}
use Rattle.std.proofs.lemmas.List.Folds.{list_all-append}
use Rattle.std.proofs.lemmas.Bool.{le-leb, lt-ltb, false≢true}
use Rattle.std.proofs.lemmas.Str.{is_utf8-from_IsUtf8, IsUtf8-from_is_utf8, IsUtf8-from_ascii, IsUtf8-append}
use Rattle.std.proofs.lemmas.Str.Ascii.{IsAscii-nil, IsAscii-cons}
use Rattle.std.proofs.lemmas.Fmt.{IsAscii-decimal, length-decimal-le}
use Rattle.ncc_pack.specs.declared.value.Value.{Value, roll-Value, out-Value, roll-out-Value}
use Rattle.ncc_pack.specs.declared.value.Value.TheOpen.{Value-F}
use Rattle.ncc_pack.specs.declared.value.Value.TheVariants as v
use Rattle.ncc_pack.specs.Limits.{max_size}
use Rattle.ncc_pack.specs.Keys.{distinct}
use Rattle.ncc_pack.specs.Fits.{Fit, fits, fits_text, fits_within}
use Rattle.ncc_pack.proofs.Loops.{fit_of}
use Rattle.ncc_pack.proofs.Fitting.{dict_more, list_more}
use Rattle.ncc_pack.proofs.Single.{fits_of_text}
use Rattle.ncc_pack.specs.declared.value.NodeValue.{NodeValue}
use Rattle.ncc_store.specs.declared.fault.RunFault.{RunFault}
use Rattle.ncc_store.specs.declared.fault.RunFault.TheVariants as u
use Rattle.ncc_session.specs.declared.refusal.Refusal.{Refusal}
use Rattle.ncc_session.specs.declared.refusal.Refusal.TheVariants as r
use Rattle.ncc_session.specs.Refusals.{code_of, code_of_fault, message_of, message_of_fault}
use Rattle.ncc_session.specs.Config.{address_fits, addresses_fit, members_allowed}
use Rattle.ncc_session.specs.Replies.{text_at, number_at, failure_meta, hello_meta, run_meta, step_meta, more_meta, end_meta}
use Rattle.ncc_session.specs.Replies.{server, servers, table_meta, commit_meta, done_meta}
use Rattle.ncc_session.specs.Replies.{writing_kind}
use Rattle.ncc_cypher.specs.declared.tree.Tail.{Tail}
use Rattle.ncc_cypher.specs.declared.tree.Tail.TheVariants as l
use Rattle.base64.specs.Engines.{standard}
use Rattle.base64.specs.GeneralPurpose.{encode_of}
use Rattle.base64.proofs.EngineFacts.{IsAscii-encode_of}
use Rattle.ncc_bookmark.specs.Point.{Point}
use Rattle.ncc_bookmark.specs.Spelling.{payload, text_of}
use Rattle.ncc_bookmark.proofs.Texts.{length-text_of}
use Rattle.ncc_route.specs.declared.members.Members.{Members}
use Rattle.ncc_route.specs.Routing.{leading, following, or_else, readers}

-- ---- texts, numbers, lists and dictionaries where so many levels are left

pub text_within : (t : List ℕ) (d : ℕ) → fits_text t ≡ true → fits_within (v.Text t) d ≡ true
text_within t d h = ap (λ (f : Fit). f.levels d) (fit_of (v.Text t) (Value-F.Text t) (v.rolls-Text t)) ∙ h

pub number_within : (n d : ℕ) → n < 2 ^ 63 → fits_within (v.Int (pos n)) d ≡ true
number_within n d h = ap (λ (f : Fit). f.levels d) (fit_of (v.Int (pos n)) (Value-F.Int (pos n)) (v.rolls-Int (pos n)))
    ∙ lt-ltb n (2 ^ 63) h

pub list_within : (xs : List Value) (d : ℕ) → 0 < d
    → fits_within (v.List xs) d ≡ (nat_le (length xs) max_size && list_all (λ x. fits_within x (d - 1)) xs)
list_within xs d lt = ap (λ (f : Fit). f.levels d) (fit_of (v.List xs) (Value-F.List xs) (v.rolls-List xs)) ∙ list_more xs d lt

pub dict_within : (ps : List (List ℕ × Value)) (d : ℕ) → 0 < d → fits_within (v.Dict ps) d
    ≡ (nat_le (length ps) max_size && list_all (λ p. fits_text p.0 && fits_within p.1 (d - 1)) ps && distinct [] ps)
dict_within ps d lt = ap (λ (f : Fit). f.levels d) (fit_of (v.Dict ps) (Value-F.Dict ps) (v.rolls-Dict ps)) ∙ dict_more ps d lt

-- ---- texts that are written in a program

abbrev plain : List ℕ → Bool
plain [] = true
plain (b ∷ bs) = nat_lt b 128 && plain bs

plain_ascii : (bs : List ℕ) → plain bs ≡ true → IsAscii bs
plain_ascii [] h = IsAscii-nil
plain_ascii (b ∷ bs) h =
    let small : b < 128 = grind arith in
    let rest : plain bs ≡ true = grind arith in
    IsAscii-cons b bs small (plain_ascii bs rest)

pub utf8 : (t : List ℕ) → plain t ≡ true → is_utf8 t ≡ true
utf8 t h = is_utf8-from_IsUtf8 t (IsUtf8-from_ascii t (plain_ascii t h))

abbrev short_plain : List ℕ → Bool
short_plain t = plain t && nat_le (length t) max_size

pub literal : (t : List ℕ) → short_plain t ≡ true → fits_text t ≡ true
literal t h =
    let small : nat_le (length t) max_size ≡ true = grind arith in
    let low : plain t ≡ true = grind arith in
    rw (small, utf8 t low) refl

-- ---- pairs whose keys are written in a program

abbrev all_fit : List (List ℕ × Value) → ℕ → Bool
all_fit ps d = list_all (λ p. fits_text p.0 && fits_within p.1 d) ps

pair_on : (key : List ℕ) (x : Value) (ps : List (List ℕ × Value)) (d : ℕ) → short_plain key ≡ true → fits_within x d ≡ true
    → all_fit ps d ≡ true → all_fit ((key, x) ∷ ps) d ≡ true
pair_on key x ps d h f g = rw (literal key h, f, g) refl

dict_by : (ps : List (List ℕ × Value)) (d : ℕ) → nat_le (length ps) max_size ≡ true → all_fit ps d ≡ true → distinct [] ps ≡ true
    → fits_within (v.Dict ps) (suc d) ≡ true
dict_by ps d few all new =
    let e : suc d - 1 ≡ d = omega arith in
    dict_within ps (suc d) (omega arith) ∙ rw (e, few, all, new) refl

text_on : (key t : List ℕ) (ps : List (List ℕ × Value)) (d : ℕ) → short_plain key ≡ true → fits_text t ≡ true → all_fit ps d ≡ true
    → all_fit (text_at key t ∷ ps) d ≡ true
text_on key t ps d h f g = pair_on key (v.Text t) ps d h (text_within t d f) g

number_on : (key : List ℕ) (n : ℕ) (ps : List (List ℕ × Value)) (d : ℕ) → short_plain key ≡ true → n < 2 ^ 63 → all_fit ps d ≡ true
    → all_fit (number_at key n ∷ ps) d ≡ true
number_on key n ps d h lt g = pair_on key (v.Int (pos n)) ps d h (number_within n d lt) g

-- ---- texts with a number

pub text_of_both : (a b : List ℕ) → is_utf8 a ≡ true → length a ≤ 100 → IsAscii b → length b ≤ 100 → fits_text (a ++ b) ≡ true
text_of_both a b ua la ub lb =
    let le : length (a ++ b) ≤ max_size = omega (arith, length-append a b) in
    rw (
      le-leb (length (a ++ b)) max_size le,
      is_utf8-from_IsUtf8 (a ++ b) (IsUtf8-append a b (IsUtf8-from_is_utf8 a ua) (IsUtf8-from_ascii b ub)),
    ) refl

pub numbered : (a : List ℕ) (n : ℕ) → is_utf8 a ≡ true → length a ≤ 100 → n < 2 ^ 64 → fits_text (a ++ decimal n) ≡ true
numbered a n ua la lt =
    let few : length (decimal n) ≤ 20 = length-decimal-le 20 n (omega arith) (omega arith) lt in
    text_of_both a (decimal n) ua la (IsAscii-decimal n lt) (omega arith)

-- ---- failures

fault_code_plain : (f : RunFault) → short_plain (code_of_fault f) ≡ true
fault_code_plain u.MissingParameter = refl
fault_code_plain u.WrongKind = refl
fault_code_plain u.NullMerge = refl
fault_code_plain u.Overflow = refl
fault_code_plain u.TooLong = refl
fault_code_plain u.TooManyRows = refl
fault_code_plain u.IdsSpent = refl

fault_message_plain : (f : RunFault) → short_plain (message_of_fault f) ≡ true
fault_message_plain u.MissingParameter = refl
fault_message_plain u.WrongKind = refl
fault_message_plain u.NullMerge = refl
fault_message_plain u.Overflow = refl
fault_message_plain u.TooLong = refl
fault_message_plain u.TooManyRows = refl
fault_message_plain u.IdsSpent = refl

code_plain : (f : Refusal) → short_plain (code_of f) ≡ true
code_plain r.HelloExpected = refl
code_plain r.OutOfPlace = refl
code_plain r.Unauthorized = refl
code_plain r.BadMode = refl
code_plain r.BadBookmarks = refl
code_plain r.NoDatabase = refl
code_plain r.Impersonation = refl
code_plain r.TooManyBookmarks = refl
code_plain r.BadBookmark = refl
code_plain (r.Syntax at) = refl
code_plain r.AccessMode = refl
code_plain r.BadPull = refl
code_plain r.TooManySteps = refl
code_plain r.TooLarge = refl
code_plain r.Late = refl
code_plain r.Stale = refl
code_plain r.Replaced = refl
code_plain r.Unsure = refl
code_plain r.Full = refl
code_plain r.Elsewhere = refl
code_plain (r.Fault f) = fault_code_plain f

pub code_fits : (f : Refusal) → fits_text (code_of f) ≡ true
code_fits f = literal (code_of f) (code_plain f)

-- of all but a fault of syntax
pub fixed_fits : (f : Refusal) → ((at : ℕ) → f ≢ r.Syntax at) → fits_text (message_of f) ≡ true
fixed_fits r.HelloExpected h = literal (message_of r.HelloExpected) refl
fixed_fits r.OutOfPlace h = literal (message_of r.OutOfPlace) refl
fixed_fits r.Unauthorized h = literal (message_of r.Unauthorized) refl
fixed_fits r.BadMode h = literal (message_of r.BadMode) refl
fixed_fits r.BadBookmarks h = literal (message_of r.BadBookmarks) refl
fixed_fits r.NoDatabase h = literal (message_of r.NoDatabase) refl
fixed_fits r.Impersonation h = literal (message_of r.Impersonation) refl
fixed_fits r.TooManyBookmarks h = literal (message_of r.TooManyBookmarks) refl
fixed_fits r.BadBookmark h = literal (message_of r.BadBookmark) refl
fixed_fits (r.Syntax at) h = absurd (h at refl)
fixed_fits r.AccessMode h = literal (message_of r.AccessMode) refl
fixed_fits r.BadPull h = literal (message_of r.BadPull) refl
fixed_fits r.TooManySteps h = literal (message_of r.TooManySteps) refl
fixed_fits r.TooLarge h = literal (message_of r.TooLarge) refl
fixed_fits r.Late h = literal (message_of r.Late) refl
fixed_fits r.Stale h = literal (message_of r.Stale) refl
fixed_fits r.Replaced h = literal (message_of r.Replaced) refl
fixed_fits r.Unsure h = literal (message_of r.Unsure) refl
fixed_fits r.Full h = literal (message_of r.Full) refl
fixed_fits r.Elsewhere h = literal (message_of r.Elsewhere) refl
fixed_fits (r.Fault f) h = literal (message_of_fault f) (fault_message_plain f)

pub syntax_fits : (at : ℕ) → at < 2 ^ 64 → fits_text (message_of (r.Syntax at)) ≡ true
syntax_fits at lt = numbered (codes "syntax error at ") at (utf8 (codes "syntax error at ") refl) (omega arith) lt

pub failure_fits : (f : Refusal) → fits_text (message_of f) ≡ true → fits (v.Dict (failure_meta f)) ≡ true
failure_fits f h =
    let message = text_on (codes "message") (message_of f) [] 31 refl h refl in
    let code = text_on (codes "code") (code_of f) (text_at (codes "message") (message_of f) ∷ []) 31 refl (code_fits f) message in
    dict_by (failure_meta f) 31 refl code refl

-- ---- successes

pub hello_fits : (conn : ℕ) → conn < 2 ^ 64 → fits (v.Dict (hello_meta conn)) ≡ true
hello_fits conn lt =
    let name = codes "bolt-" ++ decimal conn in
    let id = text_on (codes "connection_id") name [] 31 refl (numbered (codes "bolt-") conn (utf8 (codes "bolt-") refl) (omega arith) lt) refl in
    let all = text_on (codes "server") (codes "Neo4j/4.4.0") (text_at (codes "connection_id") name ∷ []) 31 refl
    (literal (codes "Neo4j/4.4.0") refl) id in
    dict_by (hello_meta conn) 31 refl all refl

first_all : (ps : List (List ℕ × Value)) → all_fit ps 31 ≡ true → all_fit (number_at (codes "t_first") 0 ∷ ps) 31 ≡ true
first_all ps h = number_on (codes "t_first") 0 ps 31 refl (omega arith) h

-- columns that have a spelling in a dictionary
pub run_fits : (columns : List Value) → fits_within (v.List columns) 31 ≡ true → fits (v.Dict (run_meta columns)) ≡ true
run_fits columns h =
    let all = pair_on (codes "fields") (v.List columns) (number_at (codes "t_first") 0 ∷ []) 31 refl h (first_all [] refl) in
    dict_by (run_meta columns) 31 refl all refl

pub step_fits : (columns : List Value) (n : ℕ) → fits_within (v.List columns) 31 ≡ true → n < 2 ^ 63
    → fits (v.Dict (step_meta columns n)) ≡ true
step_fits columns n h lt =
    let last = number_at (codes "qid") n ∷ [] in
    let all = pair_on (codes "fields") (v.List columns) (number_at (codes "t_first") 0 ∷ last) 31 refl h
    (first_all last (number_on (codes "qid") n [] 31 refl lt refl)) in
    dict_by (step_meta columns n) 31 refl all refl

pub none_fits : fits (v.Dict []) ≡ true
none_fits = dict_by [] 31 refl refl refl

pub more_fits : fits (v.Dict more_meta) ≡ true
more_fits =
    let true_fits = ap (λ (f : Fit). f.levels 31) (fit_of (v.Bool true) (Value-F.Bool true) (v.rolls-Bool true)) in
    dict_by more_meta 31 refl (pair_on (codes "has_more") (v.Bool true) [] 31 refl true_fits refl) refl

end_all : (kind : List ℕ) → fits_text kind ≡ true → all_fit (end_meta kind) 31 ≡ true
end_all kind h =
    let db = text_at (codes "db") (codes "neo4j") ∷ [] in
    let db_fits = text_on (codes "db") (codes "neo4j") [] 31 refl (literal (codes "neo4j") refl) refl in
    let last_fits = number_on (codes "t_last") 0 db 31 refl (omega arith) db_fits in
    text_on (codes "type") kind (number_at (codes "t_last") 0 ∷ db) 31 refl h last_fits

pub end_fits : (kind : List ℕ) → fits_text kind ≡ true → fits (v.Dict (end_meta kind)) ≡ true
end_fits kind h = dict_by (end_meta kind) 31 refl (end_all kind h) refl

-- the kinds of statements that write
pub kind_of_tail : (t : Tail) → fits_text (writing_kind t) ≡ true
kind_of_tail l.Nothing = literal (codes "w") refl
kind_of_tail l.Count = literal (codes "rw") refl
kind_of_tail (l.Items is) = literal (codes "rw") refl

-- ---- bookmarks

bookmark_fits : (cluster place : ℕ) → fits_text (text_of (record { cluster = cluster; place = place })) ≡ true
unfolding text_of
bookmark_fits cluster place =
    let point : Point = record { cluster = cluster; place = place } in
    let le : length (text_of point) ≤ max_size = omega (arith, length-text_of point) in
    let front : IsUtf8 (codes "ncc:") = IsUtf8-from_is_utf8 (codes "ncc:") (utf8 (codes "ncc:") refl) in
    let back : IsUtf8 (encode_of standard (payload point)) = IsUtf8-from_ascii _ (IsAscii-encode_of standard (payload point)) in
    rw (
      le-leb (length (text_of point)) max_size le,
      is_utf8-from_IsUtf8 (text_of point) (IsUtf8-append (codes "ncc:") (encode_of standard (payload point)) front back),
    ) refl

pub commit_fits : (cluster place : ℕ) → fits (v.Dict (commit_meta cluster place)) ≡ true
commit_fits cluster place =
    let text = text_of (record { cluster = cluster; place = place }) in
    dict_by (commit_meta cluster place) 31 refl (text_on (codes "bookmark") text [] 31 refl (bookmark_fits cluster place) refl) refl

pub done_fits : (cluster place : ℕ) (kind : List ℕ) → fits_text kind ≡ true → fits (v.Dict (done_meta cluster place kind)) ≡ true
done_fits cluster place kind h =
    let text = text_of (record { cluster = cluster; place = place }) in
    let all = text_on (codes "bookmark") text (end_meta kind) 31 refl (bookmark_fits cluster place) (end_all kind h) in
    dict_by (done_meta cluster place kind) 31 refl all refl

-- ---- routing tables

-- an address fits wherever it stands
abbrev Within : ℕ → Value → Type 0
Within d x = address_fits x ≡ true → fits_within x d ≡ true

no_address : (x y : Value) (d : ℕ) → y ≡ x → address_fits x ≡ false → Within d y
no_address x y d is h = subst (Within d) (sym is) (λ e. absurd (false≢true (sym h ∙ e)))

address_by : (l : Value-F Value NodeValue) (d : ℕ) → Within d (roll-Value l)
unfolding address_fits
address_by (Value-F.Text t) d = subst (Within d) (sym (v.rolls-Text t)) (λ h. text_within t d (sym (fits_of_text t) ∙ h))
address_by Value-F.Null d = no_address v.Null (roll-Value Value-F.Null) d v.rolls-Null refl
address_by (Value-F.Bool b) d = no_address (v.Bool b) (roll-Value (Value-F.Bool b)) d (v.rolls-Bool b) refl
address_by (Value-F.Int z) d = no_address (v.Int z) (roll-Value (Value-F.Int z)) d (v.rolls-Int z) refl
address_by (Value-F.Bytes b) d = no_address (v.Bytes b) (roll-Value (Value-F.Bytes b)) d (v.rolls-Bytes b) refl
address_by (Value-F.List xs) d = no_address (v.List xs) (roll-Value (Value-F.List xs)) d (v.rolls-List xs) refl
address_by (Value-F.Dict ps) d = no_address (v.Dict ps) (roll-Value (Value-F.Dict ps)) d (v.rolls-Dict ps) refl
address_by (Value-F.Node n) d = no_address (v.Node n) (roll-Value (Value-F.Node n)) d (v.rolls-Node n) refl

address_within : (x : Value) (d : ℕ) → Within d x
address_within x d = subst (Within d) (roll-out-Value x) (address_by (out-Value x) d)

addresses_within : (xs : List Value) (d : ℕ) → addresses_fit xs ≡ true → list_all (λ x. fits_within x d) xs ≡ true
addresses_within [] d h = refl
addresses_within (x ∷ xs) d h =
    let head : address_fits x ≡ true = grind arith in
    let tail : addresses_fit xs ≡ true = grind arith in
    rw (address_within x d head, addresses_within xs d tail) refl

-- addresses that fit, at most so many
record Fine (xs : List Value) (n : ℕ) : Type 0 where
  fit : addresses_fit xs ≡ true
  few : length xs ≤ n

fine_list : (xs : List Value) (n d : ℕ) → Fine xs n → n ≤ max_size → 0 < d → fits_within (v.List xs) d ≡ true
fine_list xs n d f le lt = list_within xs d lt ∙ rw (le-leb (length xs) max_size (omega (arith, f.few)), addresses_within xs (d - 1) f.fit) refl

fine_more : (x : Value) (xs : List Value) (n : ℕ) → address_fits x ≡ true → Fine xs n → Fine (x ∷ xs) (n + 1)
fine_more x xs n h f = record { fit = rw (h, f.fit) refl; few = omega (arith, f.few) }

-- those of the addresses that are chosen by their numbers
abbrev taken : (ℕ × Value → Bool) → ℕ → List Value → List Value
taken q k xs = map (λ p. p.1) (filter q (enumerate_from k xs))

one_taken : (b : Bool) (p : ℕ × Value) (ps : List (ℕ × Value)) (n : ℕ) → address_fits p.1 ≡ true → Fine (map (λ p. p.1) ps) n
    → Fine (map (λ p. p.1) (cond b (p ∷ ps) ps)) (n + 1)
one_taken true p ps n h f = fine_more p.1 (map (λ p. p.1) ps) n h f
one_taken false p ps n h f = record { fit = f.fit; few = omega (arith, f.few) }

chosen : (q : ℕ × Value → Bool) (k : ℕ) (xs : List Value) → addresses_fit xs ≡ true → Fine (taken q k xs) (length xs)
chosen q k [] h = record { fit = refl; few = omega arith }
chosen q k (x ∷ xs) h =
    let head : address_fits x ≡ true = grind arith in
    let tail : addresses_fit xs ≡ true = grind arith in
    let one = one_taken (q (k, x)) (k, x) (filter q (enumerate_from (k + 1) xs)) (length xs) head (chosen q (k + 1) xs tail) in
    record { fit = one.fit; few = omega (arith, one.few) }

both_fine : (xs ys : List Value) (n m : ℕ) → Fine xs n → Fine ys m → Fine (xs ++ ys) (n + m)
both_fine xs ys n m f g = record {
  fit = list_all-append address_fits xs ys ∙ rw (f.fit, g.fit) refl;
  few = omega (arith, length-append xs ys, f.few, g.few);
}

one_or : (xs ys : List Value) (n : ℕ) → Fine xs n → Fine ys n → Fine (or_else xs ys) n
one_or [] ys n f g = g
one_or (x ∷ xs) ys n f g = f

wider : (xs : List Value) (n m : ℕ) → Fine xs n → n ≤ m → Fine xs m
wider xs n m f le = record { fit = f.fit; few = omega (arith, f.few) }

-- the members' addresses fit, and there are not too many
record MembersFit (m : Members) : Type 0 where
  cores : addresses_fit m.cores ≡ true
  replicas : addresses_fit m.replicas ≡ true
  few_cores : length m.cores ≤ 7
  few_replicas : length m.replicas ≤ 16

members_fit : (m : Members) → members_allowed m ≡ true → MembersFit m
members_fit m h = record { cores = grind arith; replicas = grind arith; few_cores = grind arith; few_replicas = grind arith }

module _ (m : Members) (h : MembersFit m) (leader : ℕ) where
  write_fine : Fine (leading leader m.cores) 23
  write_fine = wider (leading leader m.cores) (length m.cores) 23 (chosen _ 1 m.cores h.cores) (omega (arith, h.few_cores))

  others_fine : Fine (following leader m.cores ++ m.replicas) 23
  others_fine = wider (following leader m.cores ++ m.replicas) (length m.cores + 16) 23 (
      both_fine (following leader m.cores) m.replicas (length m.cores) 16 (chosen _ 1 m.cores h.cores)
      (record { fit = h.replicas; few = h.few_replicas })
      ) (omega (arith, h.few_cores))

  read_fine : Fine (readers leader m) 23
  read_fine = one_or (following leader m.cores ++ m.replicas) (leading leader m.cores) 23 others_fine write_fine

  route_fine : Fine m.cores 23
  route_fine = record { fit = h.cores; few = omega (arith, h.few_cores) }

-- a server of these addresses
one_server : (role : List ℕ) (xs : List Value) → fits_text role ≡ true → Fine xs 23
    → fits_within (v.Dict ((codes "addresses", v.List xs) ∷ text_at (codes "role") role ∷ [])) 29 ≡ true
one_server role xs h f =
    let last = text_at (codes "role") role ∷ [] in
    let all = pair_on (codes "addresses") (v.List xs) last 28 refl (fine_list xs 23 28 f (omega arith) (omega arith))
    (text_on (codes "role") role [] 28 refl h refl) in
    dict_by ((codes "addresses", v.List xs) ∷ last) 28 refl all refl

abbrev ServersFit : List Value → ℕ → Type 0
ServersFit xs n = (list_all (λ x. fits_within x 29) xs ≡ true) × (length xs ≤ n)

server_fits : (role : List ℕ) (xs : List Value) → fits_text role ≡ true → Fine xs 23 → ServersFit (server role xs) 1
server_fits role [] h f = (refl, omega arith)
server_fits role (x ∷ xs) h f = (rw (one_server role (x ∷ xs) h f) refl, omega arith)

and_more : (xs ys : List Value) (n m : ℕ) → ServersFit xs n → ServersFit ys m → ServersFit (xs ++ ys) (n + m)
and_more xs ys n m f g = (
  list_all-append (λ x. fits_within x 29) xs ys ∙ rw (f.0, g.0) refl,
  omega (arith, length-append xs ys, f.1, g.1),
)

servers_fit : (m : Members) (leader : ℕ) → MembersFit m → fits_within (v.List (servers m leader)) 30 ≡ true
servers_fit m leader h =
    let write = server_fits (codes "WRITE") (leading leader m.cores) (literal (codes "WRITE") refl) (write_fine m h leader) in
    let read = server_fits (codes "READ") (readers leader m) (literal (codes "READ") refl) (read_fine m h leader) in
    let route = server_fits (codes "ROUTE") m.cores (literal (codes "ROUTE") refl) (route_fine m h leader) in
    let early = and_more (server (codes "WRITE") (leading leader m.cores)) (server (codes "READ") (readers leader m)) 1 1 write read in
    let all = and_more (server (codes "WRITE") (leading leader m.cores) ++ server (codes "READ") (readers leader m))
    (server (codes "ROUTE") m.cores) 2 1 early route in
    let few : length (servers m leader) ≤ 3 = all.1 in
    list_within (servers m leader) 30 (omega arith) ∙ rw (le-leb (length (servers m leader)) max_size (omega (arith, few)), all.0) refl

inner : (ttl : ℕ) (xs : List Value) → ttl < 2 ^ 63 → fits_within (v.List xs) 30 ≡ true
    → fits_within (v.Dict (number_at (codes "ttl") ttl ∷ text_at (codes "db") (codes "neo4j") ∷ (codes "servers", v.List xs) ∷ [])) 31 ≡ true
inner ttl xs lt h =
    let last : List (List ℕ × Value) = (codes "servers", v.List xs) ∷ [] in
    let rest = text_at (codes "db") (codes "neo4j") ∷ last in
    let last_fits = pair_on (codes "servers") (v.List xs) [] 30 refl h refl in
    let rest_fits = text_on (codes "db") (codes "neo4j") last 30 refl (literal (codes "neo4j") refl) last_fits in
    dict_by (number_at (codes "ttl") ttl ∷ rest) 30 refl (number_on (codes "ttl") ttl rest 30 refl lt rest_fits) refl

pub table_fits : (m : Members) (leader ttl : ℕ) → members_allowed m ≡ true → ttl < 2 ^ 63 → fits (v.Dict (table_meta m leader ttl)) ≡ true
table_fits m leader ttl h lt =
    let routing = inner ttl (servers m leader) lt (servers_fit m leader (members_fit m h)) in
    let table = number_at (codes "ttl") ttl ∷ text_at (codes "db") (codes "neo4j") ∷ (codes "servers", v.List (servers m leader)) ∷ [] in
    dict_by (table_meta m leader ttl) 31 refl (pair_on (codes "rt") (v.Dict table) [] 31 refl routing refl) refl

-- ---- what a builder gives

pub text_fits : {E : Type 0} (r : Result (List ℕ) E) (t : List ℕ) → IfOk r (λ s. s ≡ t) → fits_text t ≡ true
    → IfOk r (λ s. IsTrue (fits_text s))
text_fits (Ok s) t e h = rw e h
text_fits (Err e) t _ h = tt

pub ok_fits : {E : Type 0} (r : Result (List (List ℕ × Value)) E) (ps : List (List ℕ × Value)) → IfOk r (λ qs. qs ≡ ps)
    → fits (v.Dict ps) ≡ true → IfOk r (λ qs. IsTrue (fits (v.Dict qs)))
ok_fits (Ok qs) ps e h = rw e h
ok_fits (Err e) ps _ h = tt

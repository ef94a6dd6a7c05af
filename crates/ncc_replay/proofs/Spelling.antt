-- The pieces of a report: rows, parameters, places.
use Rattle.std.proofs.Common.{◌≡◌, ◌≢◌, ℕ, zero, suc, ◌+◌, ◌<◌, ◌≤◌, Bool, true, false, ◌&&◌, cond, List, [], ◌∷◌, ◌++◌, length}
use Rattle.std.proofs.Common.{map, drop, get_or}
use Rattle.std.proofs.Common.{Option, None, Some, refl, ap, sym, ◌∙◌, arith, codes}
use Rattle.std.specs.Prelude.{slice_get, nat_le, IsTrue}
use Rattle.std.specs.List.{All, flat_map, list_all}
use Rattle.std.specs.Str.{bytes_eq}
use Rattle.std.proofs.Common.{◌-◌, add-one, append_assoc, pos}
use Rattle.std.proofs.lemmas.Bool.{leb-true, ne_eqb}
use Rattle.std.proofs.lemmas.List.{append-nil, length-map}
use Rattle.std.proofs.Math.ListN.{drop_of_length-le}
use Rattle.ncc_pack.specs.declared.value.Value.{Value}
use Rattle.ncc_pack.specs.declared.value.Value.TheVariants as v
use Rattle.ncc_pack.specs.Spells.{lists}
use Rattle.ncc_pack.specs.Fits.{fits}
use Rattle.ncc_pack.specs.Limits.{max_size}
use Rattle.ncc_pack.specs.Short.{concat, head, list, short}
use Rattle.ncc_pack.proofs.Loops.{short_list}
use Rattle.ncc_store.specs.Rows.{few, max_bytes, max_row, max_rows, row_keeps, row_len, rows_keep, rows_len}
use Rattle.ncc_tx.specs.Items.{entry_allowed, max_entry}
use Rattle.ncc_tx.specs.Spelled.{entry_fits, rows_value, spelled}
use Rattle.ncc_tx.specs.declared.entry.Entry.{Entry}
use Rattle.ncc_tx.specs.declared.entry.Item.{Item}
use Rattle.ncc_tx.specs.declared.stamp.Stamp.{Stamp}
use Rattle.ncc_tx.specs.State.{stamps, stamps_from, after}
use Rattle.ncc_store.specs.Graph.{Graph, empty}
use Rattle.ncc_apply.specs.View.{stamp_of}
use Rattle.ncc_world.specs.Events.{is_word}
use Rattle.ncc_replay.specs.Report.{spaced, rows_text, rows_hex, parts_of, put_parts, place_line, place_lines}
use Rattle.ncc_replay.specs.Report.{fact_line, work_line, conn_line, out_line, member_line, history_text, report_of, report_by, report_text, no_report}
use Rattle.ncc_replay.specs.Script.{Script}
use Rattle.ncc_store.specs.declared.step.Step.{Step}
use Rattle.ncc_world.specs.Requests.{put_source}
use Rattle.ncc_world.specs.Happening.{WorldRun}
use Rattle.ncc_world.specs.Showing.{members_of, conns_of, works_of}
use Rattle.ncc_world.specs.declared.setup.Setup.{Setup}
use Rattle.std.proofs.Common.{Result, Ok, Err, OnOk}

-- ---- rows

row_list : List (List Value) → List ℕ
row_list rows = flat_map (λ row. short (v.List row)) rows

rows_concat : (rows : List (List Value)) → concat (map short (map v.List rows)) ≡ flat_map (λ row. short (v.List row)) rows
rows_concat [] = refl
rows_concat (row ∷ rows) = ap (λ l. short (v.List row) ++ l) (rows_concat rows)

list_is : (xs : List (List ℕ)) → list xs ≡ head lists (length xs) ++ concat xs
unfolding list
list_is xs = refl

pub rows_short : (rows : List (List Value))
    → short (rows_value rows) ≡ head lists (length rows) ++ flat_map (λ row. short (v.List row)) rows
rows_short rows =
    short_list (map v.List rows) ∙ (list_is (map short (map v.List rows))
    ∙ (ap (λ n. head lists n ++ concat (map short (map v.List rows))) (length-map (map v.List rows) short ∙ length-map rows v.List)
    ∙ ap (λ l. head lists (length rows) ++ l) (rows_concat rows)))

-- rows within the limits of one step are few, and each fits
both : (a b : Bool) → IsTrue (a && b) → IsTrue a × IsTrue b
both true true h = (refl, refl)
both true false h = absurd (cc)
both false b h = absurd (cc)

each_fits : (rows : List (List Value)) → IsTrue (list_all row_keeps rows) → All (λ row. IsTrue (fits (v.List row))) rows
each_fits [] h i d lt = absurd (omega arith)
each_fits (row ∷ rows) h zero d lt =
    (both (fits (v.List row)) (nat_le (row_len row) max_row) (both (row_keeps row) (list_all row_keeps rows) h).0).0
each_fits (row ∷ rows) h (suc i) d lt = each_fits rows (both (row_keeps row) (list_all row_keeps rows) h).1 i d (omega arith)

pub rows_fit : (rows : List (List Value)) → IsTrue (rows_keep rows) → All (λ row. IsTrue (fits (v.List row))) rows
rows_fit rows h = each_fits rows (both (list_all row_keeps rows) (few (length rows) (rows_len rows)) h).0

pub rows_few : (rows : List (List Value)) → IsTrue (rows_keep rows) → length rows ≤ max_size
rows_few rows h =
    let f = (both (list_all row_keeps rows) (few (length rows) (rows_len rows)) h).1 in
    let n : length rows ≤ max_rows = leb-true (length rows) max_rows (both (nat_le (length rows) max_rows) (nat_le (rows_len rows) max_bytes) f).0 in
    omega (arith, n)

pub rows_none : rows_text [] ≡ codes " none"
unfolding rows_text
rows_none = refl

pub rows_word : (text : List ℕ) → is_word text ≡ true → rows_text ((v.Text text ∷ []) ∷ []) ≡ codes " word " ++ text
unfolding rows_text
rows_word text h = ap (λ b. cond b (codes " word " ++ text) (rows_hex ((v.Text text ∷ []) ∷ []))) h

pub rows_no_word : (text : List ℕ) → is_word text ≡ false → rows_text ((v.Text text ∷ []) ∷ []) ≡ rows_hex ((v.Text text ∷ []) ∷ [])
unfolding rows_text
rows_no_word text h = ap (λ b. cond b (codes " word " ++ text) (rows_hex ((v.Text text ∷ []) ∷ []))) h

pub rows_other : (rows : List (List Value)) → rows ≢ [] → ((text : List ℕ) → rows ≢ (v.Text text ∷ []) ∷ []) →
    rows_text rows ≡ rows_hex rows
unfolding rows_text
rows_other [] some other = absurd (some refl)
rows_other ([] ∷ rows) some other = refl
rows_other ((v.Text text ∷ []) ∷ []) some other = absurd (other text refl)
rows_other ((v.Text text ∷ []) ∷ (row ∷ rows)) some other = refl
rows_other ((v.Text text ∷ (x ∷ xs)) ∷ rows) some other = refl
rows_other ((v.Null ∷ xs) ∷ rows) some other = refl
rows_other ((v.Bool b ∷ xs) ∷ rows) some other = refl
rows_other ((v.Int z ∷ xs) ∷ rows) some other = refl
rows_other ((v.Bytes b ∷ xs) ∷ rows) some other = refl
rows_other ((x ∷ xs) ∷ rows) some other = refl

-- ---- entries

pub allowed_fits : (entry : Entry) → IsTrue (entry_allowed entry) → IsTrue (entry_fits entry)
unfolding entry_allowed
allowed_fits entry h = (both (entry_fits entry) (nat_le (length (spelled entry)) max_entry) h).0

-- ---- places

length-stamps_from : (g : Graph) (items : List Item) → length (stamps_from g items) ≡ length items
unfolding stamps_from
length-stamps_from g [] = refl
length-stamps_from g (i ∷ is) = ap suc (length-stamps_from (after g i.entry) is)

lines_end : (place : ℕ) (ss : List Stamp) → place_lines place [] ss ≡ []
unfolding place_lines
lines_end place ss = refl

lines_at : (place : ℕ) (item : Item) (items : List Item) (stamp : Stamp) (ss : List Stamp)
    → place_lines place (item ∷ items) (stamp ∷ ss) ≡ place_line place item stamp ++ place_lines (place + 1) items ss
unfolding place_lines
lines_at place item items stamp ss = refl

-- the lines from one place on, where items and stamps are left
pub lines_on : (i place : ℕ) (items : List Item) (ss : List Stamp) (item : Item) (stamp : Stamp) → slice_get items i ≡ Some item
    → slice_get ss i ≡ Some stamp
    → place_lines place (drop i items) (drop i ss) ≡ place_line place item stamp ++ place_lines (place + 1) (drop (suc i) items) (drop
    (suc i) ss)
lines_on zero place [] ss item stamp e f = absurd (cc)
lines_on zero place (x ∷ xs) [] item stamp e f = absurd (cc)
lines_on zero place (x ∷ xs) (s ∷ ss) item stamp e f =
    let items : x ≡ item = cc in
    let stamps : s ≡ stamp = cc in
    lines_at place x xs s ss ∙ (ap (λ y. place_line place y s ++ place_lines (place + 1) xs ss) items
    ∙ ap (λ y. place_line place item y ++ place_lines (place + 1) xs ss) stamps)
lines_on (suc i) place [] ss item stamp e f = absurd (cc)
lines_on (suc i) place (x ∷ xs) [] item stamp e f = absurd (cc)
lines_on (suc i) place (x ∷ xs) (s ∷ ss) item stamp e f = lines_on i place xs ss item stamp e f

-- ---- the parameters of a put

pub parts_none : (ps : List (List ℕ × Value)) → ((a k b w : List ℕ) → ps ≢ (a, v.Text k) ∷ (b, v.Text w) ∷ []) → parts_of ps ≡ None
unfolding parts_of
parts_none [] other = refl
parts_none ((a, v.Null) ∷ ps) other = refl
parts_none ((a, v.Bool b) ∷ ps) other = refl
parts_none ((a, v.Int z) ∷ ps) other = refl
parts_none ((a, v.Bytes b) ∷ ps) other = refl
parts_none ((a, v.Text k) ∷ []) other = refl
parts_none ((a, v.Text k) ∷ (b, v.Null) ∷ ps) other = refl
parts_none ((a, v.Text k) ∷ (b, v.Bool c) ∷ ps) other = refl
parts_none ((a, v.Text k) ∷ (b, v.Int z) ∷ ps) other = refl
parts_none ((a, v.Text k) ∷ (b, v.Bytes c) ∷ ps) other = refl
parts_none ((a, v.Text k) ∷ (b, v.Text w) ∷ []) other = absurd (other a k b w refl)
parts_none ((a, v.Text k) ∷ (b, v.Text w) ∷ (p ∷ ps)) other = refl
parts_none ((a, v.Text k) ∷ (b, x) ∷ ps) other = refl
parts_none ((a, x) ∷ ps) other = refl

-- what tells whether two texts are a put's
abbrev pub are_puts : List ℕ → List ℕ → List ℕ → List ℕ → Bool
are_puts a k b w = bytes_eq a (codes "k") && bytes_eq b (codes "v") && is_word k && is_word w

parts_two : (a k b w : List ℕ) → parts_of ((a, v.Text k) ∷ (b, v.Text w) ∷ []) ≡ cond (are_puts a k b w) (Some (k, w)) None
unfolding parts_of
parts_two a k b w = refl

pub parts_some : (ps : List (List ℕ × Value)) (a k b w : List ℕ) → ps ≡ (a, v.Text k) ∷ (b, v.Text w) ∷ [] → are_puts a k b w ≡ true
    → parts_of ps ≡ Some (k, w)
parts_some ps a k b w e h = ap parts_of e ∙ (parts_two a k b w ∙ ap (λ x. cond x (Some (k, w)) None) h)

pub parts_others : (ps : List (List ℕ × Value)) (a k b w : List ℕ) → ps ≡ (a, v.Text k) ∷ (b, v.Text w) ∷ [] → are_puts a k b w ≡ false
    → parts_of ps ≡ None
parts_others ps a k b w e h = ap parts_of e ∙ (parts_two a k b w ∙ ap (λ x. cond x (Some (k, w)) None) h)

-- ---- the stamp of a place

stamp_there : (i : ℕ) (ss : List Stamp) → stamp_of (i + 1) ss ≡ slice_get ss i
stamp_there i ss =
    ap (λ b. cond b None (slice_get ss (i + 1 - 1))) (ne_eqb (i + 1) 0 (λ e. omega (arith, e))) ∙ ap (slice_get ss) (minus i) where
      minus : (j : ℕ) → j + 1 - 1 ≡ j
      minus j = omega arith

stamps_len : (items : List Item) → length (stamps items) ≡ length items
stamps_len items = length-stamps_from (empty (pos 0)) items

item_at : (items : List Item) (i : ℕ) (item : Item) → i < length items → item ≡ get_or items i item → slice_get items i ≡ Some item
item_at [] i item h e = absurd (omega arith)
item_at (x ∷ xs) zero item h e = ap Some (sym e)
item_at (x ∷ xs) (suc i) item h e = item_at xs i item (omega arith) e

-- each place of a history has a stamp

some_stamp : (ss : List Stamp) (j : ℕ) → j < length ss → (stamp : Stamp) × (slice_get ss j ≡ Some stamp)
some_stamp [] j h = absurd (omega arith)
some_stamp (s ∷ ss) zero h = (s, refl)
some_stamp (s ∷ ss) (suc j) h = some_stamp ss j (omega arith)

pub stamp_at_place : (items : List Item) (i : ℕ) → i < length items → (stamp : Stamp) × (stamp_of (i + 1) (stamps items) ≡ Some stamp)
stamp_at_place items i h =
    let found = some_stamp (stamps items) i (omega (arith, stamps_len items, h)) in
    (found.0, stamp_there i (stamps items) ∙ found.1)

-- one place more is written
pub place_written : (i : ℕ) (items : List Item) (item : Item) (stamp : Stamp) (before after whole : List ℕ)
    → i < length items → item ≡ get_or items i item → stamp_of (i + 1) (stamps items) ≡ Some stamp
    → after ≡ before ++ place_line (i + 1) item stamp
    → before ++ place_lines (i + 1) (drop i items) (drop i (stamps items)) ≡ whole
    → after ++ place_lines (i + 1 + 1) (drop (i + 1) items) (drop (i + 1) (stamps items)) ≡ whole
place_written i items item stamp before after whole h e s w inv =
    let more : List ℕ = place_lines (i + 1 + 1) (drop (i + 1) items) (drop (i + 1) (stamps items)) in
    let there : slice_get (stamps items) i ≡ Some stamp = sym (stamp_there i (stamps items)) ∙ s in
    let lines = lines_on i (i + 1) items (stamps items) item stamp (item_at items i item h e) there
    ∙ ap (λ n. place_line (i + 1) item stamp ++ place_lines (i + 1 + 1) (drop n items) (drop n (stamps items))) (sym (add-one i)) in
    ap (λ l. l ++ more) w ∙ (append_assoc before (place_line (i + 1) item stamp) more ∙ (ap (λ l. before ++ l) (sym lines) ∙ inv))

pub none_are_left : (i place : ℕ) (items : List Item) (ss : List Stamp) (written whole : List ℕ) → length items ≤ i
    → written ++ place_lines place (drop i items) (drop i ss) ≡ whole → written ≡ whole
none_are_left i place items ss written whole h e =
    sym (append-nil written) ∙ (ap (λ l. written ++ l) (sym (ap (λ l. place_lines place l (drop i ss)) (drop_of_length-le items h)
    ∙ lines_end place (drop i ss))) ∙ e)

-- ---- the one step of a put

put_one : (step : Step) → put_parts (step ∷ []) ≡ cond (bytes_eq step.source put_source) (parts_of step.params) None
unfolding put_parts
put_one step = refl

pub put_none : (steps : List Step) → ((step : Step) → steps ≢ step ∷ []) → put_parts steps ≡ None
unfolding put_parts
put_none [] other = refl
put_none (step ∷ []) other = absurd (other step refl)
put_none (step ∷ next ∷ steps) other = refl

pub put_is : (steps : List Step) (step : Step) → steps ≡ step ∷ [] → bytes_eq step.source put_source ≡ true
    → put_parts steps ≡ parts_of step.params
put_is steps step e h = ap put_parts e ∙ (put_one step ∙ ap (λ b. cond b (parts_of step.params) None) h)

pub put_other : (steps : List Step) (step : Step) → steps ≡ step ∷ [] → bytes_eq step.source put_source ≡ false → put_parts steps ≡ None
put_other steps step e h = ap put_parts e ∙ (put_one step ∙ ap (λ b. cond b (parts_of step.params) None) h)

-- ---- the whole report

pub history_made : (h items : List Item) (n : ℕ) (x n1 n2 n3 : List ℕ) → n ≡ length h → items ≡ h → n1 ≡ x ++ (codes "history" ++ spaced n)
    → n2 ≡ n1 ++ codes "\n" → n3 ≡ n2 ++ place_lines 1 items (stamps items) → n3 ≡ x ++ history_text h
history_made h items n x n1 n2 n3 f g e1 e2 e3 =
    e3 ∙ (ap (λ l. n2 ++ place_lines 1 l (stamps l)) g ∙ (ap (λ l. l ++ place_lines 1 h (stamps h)) (e2 ∙ ap (λ l. l ++ codes "\n")
    (e1 ∙ ap (λ k. x ++ (codes "history" ++ spaced k)) f)) ∙ four x (codes "history") (spaced (length h)) (codes "\n")
    (place_lines 1 h (stamps h)))) where
      four : (x a b c d : List ℕ) → ((x ++ (a ++ b)) ++ c) ++ d ≡ x ++ (a ++ (b ++ (c ++ d)))
      four x a b c d = simp append_assoc

pub report_made : (s : Setup) (r : WorldRun) (x n1 n2 n3 n4 n5 n6 n7 n8 : List ℕ) → n1 ≡ x ++ codes "ncc-report 1\n"
    → n2 ≡ n1 ++ flat_map fact_line r.told → n3 ≡ n2 ++ flat_map work_line (works_of r)
    → n4 ≡ n3 ++ flat_map conn_line (conns_of s r) → n5 ≡ n4 ++ flat_map out_line (conns_of s r)
    → n6 ≡ n5 ++ flat_map member_line (members_of s r) → n7 ≡ n6 ++ history_text r.history → n8 ≡ n7 ++ codes "end\n"
    → n8 ≡ x ++ report_of s r
unfolding report_of
report_made s r x n1 n2 n3 n4 n5 n6 n7 n8 e1 e2 e3 e4 e5 e6 e7 e8 =
    eight x (codes "ncc-report 1\n") (flat_map fact_line r.told) (flat_map work_line (works_of r)) (flat_map conn_line (conns_of s r))
    (flat_map out_line (conns_of s r)) (flat_map member_line (members_of s r)) (history_text r.history) (codes "end\n")
    n1 n2 n3 n4 n5 n6 n7 n8 e1 e2 e3 e4 e5 e6 e7 e8 where
      eight : (x a b c d e f g h n1 n2 n3 n4 n5 n6 n7 n8 : List ℕ) → n1 ≡ x ++ a → n2 ≡ n1 ++ b → n3 ≡ n2 ++ c → n4 ≡ n3 ++ d
          → n5 ≡ n4 ++ e → n6 ≡ n5 ++ f → n7 ≡ n6 ++ g → n8 ≡ n7 ++ h
          → n8 ≡ x ++ (a ++ (b ++ (c ++ (d ++ (e ++ (f ++ (g ++ h)))))))
      eight x a b c d e f g h n1 n2 n3 n4 n5 n6 n7 n8 e1 e2 e3 e4 e5 e6 e7 e8 =
          e8 ∙ (ap (λ l. l ++ h) (e7 ∙ ap (λ l. l ++ g) (e6 ∙ ap (λ l. l ++ f) (e5 ∙ ap (λ l. l ++ e) (e4 ∙ ap (λ l. l ++ d)
          (e3 ∙ ap (λ l. l ++ c) (e2 ∙ ap (λ l. l ++ b) e1)))))) ∙ simp append_assoc)

pub text_some : (s : Script) (t : Option WorldRun) (setup : Setup) (r : WorldRun) → s.setup ≡ Some setup → t ≡ Some r
    → report_of setup r ≡ report_text s t
text_some s t setup r e f = sym (ap (λ o. report_by o t) e ∙ ap (report_by (Some setup)) f)

pub text_none : (s : Script) (t : Option WorldRun) → s.setup ≡ None → no_report ≡ report_text s t
text_none s t e = sym (ap (λ o. report_by o t) e)

pub on_ok_then : {T E P Q : Type 0} (r : Result T E) → OnOk r P → (P → Q) → OnOk r Q
on_ok_then (Ok x) h f = f h
on_ok_then (Err e) h f = tt

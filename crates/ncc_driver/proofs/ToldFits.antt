-- What an answer tells fits.
use Rattle.std.proofs.Common.{◌≡◌, ℕ, suc, ◌-◌, Bool, true, false, ◌&&◌, List, [], ◌∷◌, ◌++◌, length, codes, refl, sym, ap, ◌∙◌, subst}
use Rattle.std.proofs.Common.{arith}
use Rattle.std.specs.Prelude.{Option, Some, None, bytes_eq, nat_le, if◌then◌else◌}
use Rattle.std.specs.List.{list_all}
use Rattle.std.proofs.lemmas.List.Folds.{list_all-append}
use Rattle.ncc_pack.specs.declared.value.Value.{Value, roll-Value, out-Value, roll-out-Value}
use Rattle.ncc_pack.specs.declared.value.Value.TheOpen.{Value-F}
use Rattle.ncc_pack.specs.declared.value.Value.TheVariants as v
use Rattle.ncc_pack.specs.declared.value.NodeValue.{NodeValue}
use Rattle.ncc_pack.specs.Limits.{max_size}
use Rattle.ncc_pack.specs.Keys.{distinct}
use Rattle.ncc_pack.specs.Texts.{is_text, texts_alone}
use Rattle.ncc_pack.specs.Fits.{Fit, fits, fits_within}
use Rattle.ncc_pack.proofs.Loops.{fit_of}
use Rattle.ncc_pack.proofs.Fitted.{spelled_fits}
use Rattle.ncc_pack.proofs.Single.{fits_of_text}
use Rattle.ncc_bolt.specs.Fields.{Pairs}
use Rattle.ncc_bolt.specs.Messages.{SpellsResponse}
use Rattle.ncc_bolt.specs.Messages as b
use Rattle.ncc_bolt.specs.declared.message.Response.{Response}
use Rattle.ncc_bolt.specs.declared.message.Response.TheVariants as s
use Rattle.ncc_route.specs.declared.table.Table.{Table}
use Rattle.ncc_driver.specs.declared.answers.Told.TheVariants as m
use Rattle.ncc_driver.specs.declared.standing.Asked.{Asked}
use Rattle.ncc_driver.specs.declared.standing.Asked.TheVariants as a
use Rattle.ncc_driver.specs.Config.{text_has_spelling, texts_fit}
use Rattle.ncc_driver.specs.Keeping.{addresses_fit, told_fits}
use Rattle.ncc_driver.specs.Spelling.{all_fit, list_within, dict_within}
use Rattle.ncc_driver.specs.Work.{Row, rows_fit}
use Rattle.ncc_driver.specs.Answers.{value_at, text_in, list_by, pairs_by, list_in, pairs_in, if_texts, texts_in, seconds_in, is_true}
use Rattle.ncc_driver.specs.Answers.{Served, server_of, server_by, server_in, one_more, servers_in, addresses_of, table_by, table_of}
use Rattle.ncc_driver.specs.Answers.{servers_at}
use Rattle.ncc_driver.specs.Answers.{table_by_pairs, table_in, told_table, told_bookmark, told_code, success_of, record_of}

-- ---- values in dictionaries and lists

abbrev FitsAt : ℕ → Option Value → Type 0
FitsAt d (Some x) = fits_within x d ≡ true
FitsAt d None = Unit {0}

first_or : (test : Bool) (x : Value) (o : Option Value) (d : ℕ) → fits_within x d ≡ true → FitsAt d o
    → FitsAt d (if test then Some x else o)
first_or true x o d h g = h
first_or false x o d h g = g

pub value_fits : (key : List ℕ) (ps : Pairs) (d : ℕ) → all_fit ps d ≡ true → FitsAt d (value_at key ps)
value_fits key [] d h = tt
value_fits key (p ∷ ps) d h =
    let head : fits_within p.1 d ≡ true = grind arith in
    let tail : all_fit ps d ≡ true = grind arith in
    first_or (bytes_eq key p.0) p.1 (value_at key ps) d head (value_fits key ps d tail)

dict_items : (ps : Pairs) (d : ℕ) → fits_within (v.Dict ps) (suc d) ≡ true → all_fit ps d ≡ true
dict_items ps d h =
    let k : suc d - 1 ≡ d = omega arith in
    let e : (nat_le (length ps) max_size && all_fit ps d && distinct [] ps) ≡ true =
    subst (λ (n : ℕ). (nat_le (length ps) max_size && all_fit ps n && distinct [] ps) ≡ true) k
    (sym (dict_within ps (suc d) (omega arith)) ∙ h) in
    grind arith

list_items : (xs : List Value) (d : ℕ) → fits_within (v.List xs) (suc d) ≡ true → list_all (λ x. fits_within x d) xs ≡ true
list_items xs d h =
    let k : suc d - 1 ≡ d = omega arith in
    let e : (nat_le (length xs) max_size && list_all (λ x. fits_within x d) xs) ≡ true =
    subst (λ (n : ℕ). (nat_le (length xs) max_size && list_all (λ x. fits_within x n) xs) ≡ true) k
    (sym (list_within xs (suc d) (omega arith)) ∙ h) in
    grind arith

layer_dict : (l : Value-F Value NodeValue) (ps : Pairs) → pairs_by l ≡ Some ps → l ≡ Value-F.Dict ps
layer_dict (Value-F.Dict qs) ps e = let f : qs ≡ ps = cc in ap Value-F.Dict f
layer_dict Value-F.Null ps e = absurd (cc)
layer_dict (Value-F.Bool b) ps e = absurd (cc)
layer_dict (Value-F.Int z) ps e = absurd (cc)
layer_dict (Value-F.Bytes b) ps e = absurd (cc)
layer_dict (Value-F.Text t) ps e = absurd (cc)
layer_dict (Value-F.List xs) ps e = absurd (cc)
layer_dict (Value-F.Node n) ps e = absurd (cc)

layer_list : (l : Value-F Value NodeValue) (xs : List Value) → list_by l ≡ Some xs → l ≡ Value-F.List xs
layer_list (Value-F.List ys) xs e = let f : ys ≡ xs = cc in ap Value-F.List f
layer_list Value-F.Null xs e = absurd (cc)
layer_list (Value-F.Bool b) xs e = absurd (cc)
layer_list (Value-F.Int z) xs e = absurd (cc)
layer_list (Value-F.Bytes b) xs e = absurd (cc)
layer_list (Value-F.Text t) xs e = absurd (cc)
layer_list (Value-F.Dict ps) xs e = absurd (cc)
layer_list (Value-F.Node n) xs e = absurd (cc)

pairs_fit : (x : Value) (ps : Pairs) (d : ℕ) → fits_within x (suc d) ≡ true → pairs_by (out-Value x) ≡ Some ps → all_fit ps d ≡ true
pairs_fit x ps d h e =
    let is : x ≡ v.Dict ps = sym (roll-out-Value x) ∙ ap roll-Value (layer_dict (out-Value x) ps e) ∙ v.rolls-Dict ps in
    dict_items ps d (subst (λ (y : Value). fits_within y (suc d) ≡ true) is h)

list_fit : (x : Value) (xs : List Value) (d : ℕ) → fits_within x (suc d) ≡ true → list_by (out-Value x) ≡ Some xs
    → list_all (λ y. fits_within y d) xs ≡ true
list_fit x xs d h e =
    let is : x ≡ v.List xs = sym (roll-out-Value x) ∙ ap roll-Value (layer_list (out-Value x) xs e) ∙ v.rolls-List xs in
    list_items xs d (subst (λ (y : Value). fits_within y (suc d) ≡ true) is h)

pairs_at : (o : Option Value) (ps : Pairs) (d : ℕ) → FitsAt (suc d) o → pairs_in o ≡ Some ps → all_fit ps d ≡ true
pairs_at (Some x) ps d h e = pairs_fit x ps d h e
pairs_at None ps d h e = absurd (cc)

list_at : (o : Option Value) (xs : List Value) (d : ℕ) → FitsAt (suc d) o → list_in o ≡ Some xs → list_all (λ y. fits_within y d) xs ≡ true
list_at (Some x) xs d h e = list_fit x xs d h e
list_at None xs d h e = absurd (cc)

-- ---- texts

-- a text that fits somewhere fits by itself
Texted : ℕ → Value → Type 0
Texted d x = fits_within x d ≡ true → is_text x ≡ true → text_has_spelling x ≡ true

other : (d : ℕ) (x y : Value) → y ≡ x → is_text x ≡ false → Texted d y
unfolding Texted
other d x y e n = subst (Texted d) (sym e) (λ h g. let f : false ≡ true = sym n ∙ g in absurd (cc))

texted_by : (l : Value-F Value NodeValue) (d : ℕ) → Texted d (roll-Value l)
unfolding Texted text_has_spelling
texted_by (Value-F.Text t) d =
    subst (Texted d) (sym (v.rolls-Text t))
    (λ h g. fits_of_text t ∙ sym (ap (λ (f : Fit). f.levels d) (fit_of (v.Text t) (Value-F.Text t) (v.rolls-Text t))) ∙ h)
texted_by Value-F.Null d = other d v.Null (roll-Value Value-F.Null) v.rolls-Null refl
texted_by (Value-F.Bool b) d = other d (v.Bool b) (roll-Value (Value-F.Bool b)) (v.rolls-Bool b) refl
texted_by (Value-F.Int z) d = other d (v.Int z) (roll-Value (Value-F.Int z)) (v.rolls-Int z) refl
texted_by (Value-F.Bytes b) d = other d (v.Bytes b) (roll-Value (Value-F.Bytes b)) (v.rolls-Bytes b) refl
texted_by (Value-F.List xs) d = other d (v.List xs) (roll-Value (Value-F.List xs)) (v.rolls-List xs) refl
texted_by (Value-F.Dict ps) d = other d (v.Dict ps) (roll-Value (Value-F.Dict ps)) (v.rolls-Dict ps) refl
texted_by (Value-F.Node n) d = other d (v.Node n) (roll-Value (Value-F.Node n)) (v.rolls-Node n) refl

texted : (x : Value) (d : ℕ) → fits_within x d ≡ true → is_text x ≡ true → text_has_spelling x ≡ true
unfolding Texted
texted x d = subst (Texted d) (roll-out-Value x) (texted_by (out-Value x) d)

texts_by : (xs : List Value) (d : ℕ) → list_all (λ x. fits_within x d) xs ≡ true → texts_alone xs ≡ true → texts_fit xs ≡ true
texts_by [] d h g = refl
texts_by (x ∷ xs) d h g =
    let one : fits_within x d ≡ true = grind arith in
    let text : is_text x ≡ true = grind arith in
    let rest : list_all (λ y. fits_within y d) xs ≡ true = grind arith in
    let texts : texts_alone xs ≡ true = grind arith in
    rw (texted x d one text, texts_by xs d rest texts) refl

-- what is a text there
NamesText : ℕ → Value → Type 0
NamesText d x = (t : List ℕ) → fits_within x d ≡ true → text_in (Some x) ≡ Some t → fits (v.Text t) ≡ true

no_name : (d : ℕ) (x y : Value) → y ≡ x → text_in (Some x) ≡ None → NamesText d y
unfolding NamesText
no_name d x y e n = subst (NamesText d) (sym e) (λ t h g. let f : None ≡ Some t = sym n ∙ g in absurd (cc))

names_by : (l : Value-F Value NodeValue) (d : ℕ) → NamesText d (roll-Value l)
unfolding NamesText
names_by (Value-F.Text u) d =
    subst (NamesText d) (sym (v.rolls-Text u))
    (λ t h g. (
    let same : u ≡ t = cc in
    subst (λ (w : List ℕ). fits (v.Text w) ≡ true) same
    (fits_of_text u ∙ sym (ap (λ (f : Fit). f.levels d) (fit_of (v.Text u) (Value-F.Text u) (v.rolls-Text u))) ∙ h)))
names_by Value-F.Null d = no_name d v.Null (roll-Value Value-F.Null) v.rolls-Null refl
names_by (Value-F.Bool b) d = no_name d (v.Bool b) (roll-Value (Value-F.Bool b)) (v.rolls-Bool b) refl
names_by (Value-F.Int z) d = no_name d (v.Int z) (roll-Value (Value-F.Int z)) (v.rolls-Int z) refl
names_by (Value-F.Bytes b) d = no_name d (v.Bytes b) (roll-Value (Value-F.Bytes b)) (v.rolls-Bytes b) refl
names_by (Value-F.List xs) d = no_name d (v.List xs) (roll-Value (Value-F.List xs)) (v.rolls-List xs) refl
names_by (Value-F.Dict ps) d = no_name d (v.Dict ps) (roll-Value (Value-F.Dict ps)) (v.rolls-Dict ps) refl
names_by (Value-F.Node n) d = no_name d (v.Node n) (roll-Value (Value-F.Node n)) (v.rolls-Node n) refl

text_at : (o : Option Value) (t : List ℕ) (d : ℕ) → FitsAt d o → text_in o ≡ Some t → fits (v.Text t) ≡ true
unfolding NamesText
text_at (Some x) t d h e = subst (NamesText d) (roll-out-Value x) (names_by (out-Value x) d) t h e
text_at None t d h e = absurd (cc)

texts_if : (o : Option (List Value)) (b : Bool) (xs ys : List Value) → o ≡ Some ys → texts_alone ys ≡ b → if_texts o ≡ Some xs
    → (ys ≡ xs) × (texts_alone xs ≡ true)
texts_if o true xs ys e h g =
    let f : Some ys ≡ Some xs = sym (rw (e, h) refl) ∙ g in
    let same : ys ≡ xs = cc in
    (same, subst (λ (zs : List Value). texts_alone zs ≡ true) same h)
texts_if o false xs ys e h g = let f : None ≡ Some xs = sym (rw (e, h) refl) ∙ g in absurd (cc)

texts_or : (o : Option Value) (l : Option (List Value)) (xs : List Value) (d : ℕ) → list_in o ≡ l → FitsAt (suc d) o → if_texts l ≡ Some xs
    → texts_fit xs ≡ true
texts_or o (Some ys) xs d e h g =
    let t = texts_if (Some ys) (texts_alone ys) xs ys refl refl g in
    let all = list_at o ys d h e in
    texts_by xs d (subst (λ (zs : List Value). list_all (λ y. fits_within y d) zs ≡ true) t.0 all) t.1
texts_or o None xs d e h g = absurd (cc)

-- ---- tables

server_parts : (r : Option (List ℕ)) (t : Option (List Value)) (server : Served) → server_of r t ≡ Some server → t ≡ Some server.1
server_parts (Some role) (Some texts) server e = let f : (role, texts) ≡ server = cc in ap (λ (w : Served). Some w.1) f
server_parts (Some role) None server e = absurd (cc)
server_parts None t server e = absurd (cc)

server_pairs : (ps : Pairs) (server : Served) (d : ℕ) → all_fit ps (suc d) ≡ true → server_by (Some ps) ≡ Some server
    → texts_fit server.1 ≡ true
server_pairs ps server d h e =
    texts_or (value_at (codes "addresses") ps) (list_in (value_at (codes "addresses") ps)) server.1 d refl
    (value_fits (codes "addresses") ps (suc d) h)
    (server_parts (text_in (value_at (codes "role") ps)) (texts_in (value_at (codes "addresses") ps)) server e)

server_or : (x : Value) (o : Option Pairs) (server : Served) (d : ℕ) → pairs_by (out-Value x) ≡ o → fits_within x (suc (suc d)) ≡ true
    → server_by o ≡ Some server → texts_fit server.1 ≡ true
server_or x (Some ps) server d e h g = server_pairs ps server d (pairs_fit x ps (suc d) h e) g
server_or x None server d e h g = absurd (cc)

abbrev all_texts : List Served → Bool
all_texts servers = list_all (λ (server : Served). texts_fit server.1) servers

servers_fit_by : (o : Option Served) (p : Option (List Served)) (servers : List Served)
    → ((server : Served) → o ≡ Some server → texts_fit server.1 ≡ true) → ((ss : List Served) → p ≡ Some ss → all_texts ss ≡ true)
    → one_more o p ≡ Some servers → all_texts servers ≡ true
servers_fit_by (Some s) (Some ss) servers f g e =
    let same : (s ∷ ss) ≡ servers = cc in
    subst (λ (ts : List Served). all_texts ts ≡ true) same (rw (f s refl, g ss refl) refl)
servers_fit_by (Some s) None servers f g e = absurd (cc)
servers_fit_by None p servers f g e = absurd (cc)

servers_fit : (xs : List Value) (servers : List Served) (d : ℕ) → list_all (λ y. fits_within y (suc (suc d))) xs ≡ true
    → servers_in xs ≡ Some servers → all_texts servers ≡ true
unfolding servers_in
servers_fit [] servers d h e =
    let none : [] ≡ servers = cc in subst (λ (ts : List Served). all_texts ts ≡ true) none refl
servers_fit (x ∷ xs) servers d h e =
    let head : fits_within x (suc (suc d)) ≡ true = grind arith in
    let tail : list_all (λ y. fits_within y (suc (suc d))) xs ≡ true = grind arith in
    servers_fit_by (server_in x) (servers_in xs) servers (λ server g. server_or x (pairs_by (out-Value x)) server d refl head g)
    (λ ss g. servers_fit xs ss d tail g) e

role_if : (b : Bool) (xs ys : List Value) → texts_fit xs ≡ true → texts_fit ys ≡ true → texts_fit (if b then xs ++ ys else ys) ≡ true
role_if true xs ys f g = list_all-append text_has_spelling xs ys ∙ rw (f, g) refl
role_if false xs ys f g = g

addresses_all_fit : (role : List ℕ) (servers : List Served) → all_texts servers ≡ true → texts_fit (addresses_of role servers) ≡ true
unfolding addresses_of
addresses_all_fit role [] h = refl
addresses_all_fit role (server ∷ servers) h =
    let head : texts_fit server.1 ≡ true = grind arith in
    let tail : all_texts servers ≡ true = grind arith in
    role_if (bytes_eq role server.0) server.1 (addresses_of role servers) head (addresses_all_fit role servers tail)

table_all : (now seconds : ℕ) (servers : List Served) → all_texts servers ≡ true → addresses_fit (table_by now seconds servers) ≡ true
table_all now seconds servers h =
    rw (
      addresses_all_fit (codes "WRITE") servers h,
      addresses_all_fit (codes "READ") servers h,
      addresses_all_fit (codes "ROUTE") servers h,
    ) refl

-- what is a table there fits
abbrev TableFits : Option Table → Type 0
TableFits (Some table) = addresses_fit table ≡ true
TableFits None = Unit {0}

table_or : (now : ℕ) (o : Option ℕ) (p : Option (List Served)) → ((ss : List Served) → p ≡ Some ss → all_texts ss ≡ true)
    → TableFits (table_of now o p)
table_or now (Some seconds) (Some servers) g = table_all now seconds servers (g servers refl)
table_or now (Some seconds) None g = tt
table_or now None p g = tt

servers_or : (o : Option Value) (l : Option (List Value)) (ss : List Served) (d : ℕ) → FitsAt (suc (suc (suc d))) o → list_in o ≡ l
    → servers_at l ≡ Some ss → all_texts ss ≡ true
servers_or o (Some xs) ss d h e g = servers_fit xs ss d (list_at o xs (suc (suc d)) h e) g
servers_or o None ss d h e g = absurd (cc)

table_pairs : (now : ℕ) (o : Option Value) (p : Option Pairs) (d : ℕ) → FitsAt (suc (suc (suc (suc d)))) o → pairs_in o ≡ p
    → TableFits (table_by_pairs now p)
table_pairs now o (Some ps) d h e =
    let all = pairs_at o ps (suc (suc (suc d))) h e in
    table_or now (seconds_in (value_at (codes "ttl") ps)) (servers_at (list_in (value_at (codes "servers") ps)))
    (λ ss g. servers_or (value_at (codes "servers") ps) (list_in (value_at (codes "servers") ps)) ss d
    (value_fits (codes "servers") ps (suc (suc (suc d))) all) refl g)
table_pairs now o None d h e = tt

-- ---- what is told

told_table_fits : (rows : List Row) (o : Option Table) → TableFits o → told_fits rows (told_table o) ≡ true
told_table_fits rows (Some table) h = h
told_table_fits rows None h = refl

told_bookmark_fits : (rows : List Row) (o : Option (List ℕ)) → ((t : List ℕ) → o ≡ Some t → fits (v.Text t) ≡ true)
    → told_fits rows (told_bookmark o) ≡ true
told_bookmark_fits rows (Some t) h = h t refl
told_bookmark_fits rows None h = refl

told_code_fits : (rows : List Row) (o : Option (List ℕ)) → ((t : List ℕ) → o ≡ Some t → fits (v.Text t) ≡ true)
    → told_fits rows (told_code o) ≡ true
told_code_fits rows (Some t) h = h t refl
told_code_fits rows None h = refl

done_or_bad : (rows : List Row) (b : Bool) → told_fits rows (if b then m.Bad else m.Done) ≡ true
done_or_bad rows true = refl
done_or_bad rows false = refl

pub success_fits : (asked : Asked) (now : ℕ) (meta : Pairs) (rows : List Row) → fits (v.Dict meta) ≡ true
    → told_fits rows (success_of asked now meta) ≡ true
success_fits (a.Shake leg) now meta rows h = refl
success_fits (a.Hello leg) now meta rows h = refl
success_fits a.Route now meta rows h =
    let rt = value_at (codes "rt") meta in
    told_table_fits rows (table_in now rt) (table_pairs now rt (pairs_in rt) 27
    (value_fits (codes "rt") meta 31 (dict_items meta 31 h)) refl)
success_fits a.Begin now meta rows h = refl
success_fits a.Run now meta rows h = refl
success_fits a.Pull now meta rows h = done_or_bad rows (is_true (value_at (codes "has_more") meta))
success_fits a.Commit now meta rows h =
    let mark = value_at (codes "bookmark") meta in
    told_bookmark_fits rows (text_in mark) (λ t e. text_at mark t 31 (value_fits (codes "bookmark") meta 31 (dict_items meta 31 h)) e)

pub code_fits : (meta : Pairs) (rows : List Row) → fits (v.Dict meta) ≡ true
    → told_fits rows (told_code (text_in (value_at (codes "code") meta))) ≡ true
code_fits meta rows h =
    let code = value_at (codes "code") meta in
    told_code_fits rows (text_in code) (λ t e. text_at code t 31 (value_fits (codes "code") meta 31 (dict_items meta 31 h)) e)

row_or_bad : (rows : List Row) (fields : Row) (b : Bool) → rows_fit (rows ++ fields ∷ []) ≡ b
    → told_fits rows (if b then m.Row fields else m.Bad) ≡ true
row_or_bad rows fields true e = e
row_or_bad rows fields false e = refl

pub record_fits : (asked : Asked) (rows : List Row) (fields : Row) → told_fits rows (record_of asked rows fields) ≡ true
record_fits (a.Shake leg) rows fields = refl
record_fits (a.Hello leg) rows fields = refl
record_fits a.Route rows fields = refl
record_fits a.Begin rows fields = refl
record_fits a.Run rows fields = refl
record_fits a.Pull rows fields = row_or_bad rows fields (rows_fit (rows ++ fields ∷ [])) refl
record_fits a.Commit rows fields = refl

-- ---- what is spelled fits

pub meta_fits : (r : Response) (meta : Pairs) (bytes : List ℕ) → SpellsResponse r bytes → r ≡ s.Success meta → fits (v.Dict meta) ≡ true
meta_fits _ meta _ (b.success qs e sp) is =
    let same : qs ≡ meta = cc in subst (λ (ps : Pairs). fits (v.Dict ps) ≡ true) same (spelled_fits 32 (v.Dict qs) e sp)
meta_fits _ meta _ (b.row fields e sp) is = absurd (cc)
meta_fits _ meta _ b.ignored is = absurd (cc)
meta_fits _ meta _ (b.failure qs e sp) is = absurd (cc)

pub failure_fits : (r : Response) (meta : Pairs) (bytes : List ℕ) → SpellsResponse r bytes → r ≡ s.Failure meta
    → fits (v.Dict meta) ≡ true
failure_fits _ meta _ (b.failure qs e sp) is =
    let same : qs ≡ meta = cc in subst (λ (ps : Pairs). fits (v.Dict ps) ≡ true) same (spelled_fits 32 (v.Dict qs) e sp)
failure_fits _ meta _ (b.success qs e sp) is = absurd (cc)
failure_fits _ meta _ (b.row fields e sp) is = absurd (cc)
failure_fits _ meta _ b.ignored is = absurd (cc)

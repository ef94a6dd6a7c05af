-- Which answers tell a bookmark, and which one.
use Rattle.std.proofs.Common.{◌≡◌, ℕ, suc, ◌+◌, ◌-◌, ◌<◌, ◌≤◌, Bool, true, false, cond, List, [], ◌∷◌, ◌++◌, length, map}
use Rattle.std.proofs.Common.{Option, Some, None, Result, Ok, Err, refl, sym, ap, ◌∙◌, subst, length-append, arith}
use Rattle.std.specs.Prelude.{pos, codes, nat_lt, bytes_eq, slice_get}
use Rattle.std.specs.List.{AllByRecursion}
use Rattle.std.specs.Map.{lookup}
use Rattle.ncc_pack.specs.declared.value.Value.{Value}
use Rattle.ncc_pack.specs.declared.value.Value.TheVariants as v
use Rattle.ncc_pack.specs.declared.error.PackError.{PackError}
use Rattle.ncc_pack.specs.Limits.{max_size}
use Rattle.ncc_pack.specs.Spells.{Kind, texts}
use Rattle.ncc_pack.specs.Short.{head, wide_head, text, concat, pairs, short, short_pair}
use Rattle.ncc_pack.specs.Fits.{fits, fits_text}
use Rattle.ncc_pack.specs.Reading.{within, value_at}
use Rattle.ncc_pack.proofs.Room.{text_length, list_length, dict_length}
use Rattle.ncc_bolt.specs.Fields.{dictionary, Pairs}
use Rattle.ncc_bolt.specs.Reading.{as_message, spelled_at, field_at, ended, head_at, response_at}
use Rattle.ncc_bolt.specs.Writing.{short_response}
use Rattle.ncc_bolt.specs.declared.error.MessageError.{MessageError}
use Rattle.ncc_bolt.specs.declared.message.Response.{Response}
use Rattle.ncc_bolt.specs.declared.message.Response.TheVariants as s
use Rattle.ncc_bolt.proofs.Parts.{bind_ok, ok_is, held_taken}
use Rattle.ncc_bolt.proofs.Joined.{response_again, response_short}
use Rattle.ncc_bookmark.specs.Spelling.{text_of}
use Rattle.ncc_chunk.specs.Chunks.{limit}
use Rattle.ncc_cypher.specs.declared.tree.Statement.{Statement}
use Rattle.ncc_cypher.specs.Parsed.{parsed}
use Rattle.ncc_cypher.specs.Writing.{writes}
use Rattle.ncc_cypher.specs.Columns.{columns}
use Rattle.ncc_cypher.proofs.Exact.{spelled}
use Rattle.ncc_route.specs.declared.members.Members.{Members}
use Rattle.ncc_store.specs.declared.call.Call.{Call}
use Rattle.ncc_session.specs.Checks.{under}
use Rattle.ncc_session.specs.Replies.{text_at, number_at, hello_meta, run_meta, step_meta, more_meta, kind_of, end_meta}
use Rattle.ncc_session.specs.Replies.{done_meta, commit_meta, table_meta, writing_kind}
use Rattle.ncc_session.specs.Turns.{kind_in, columns_in}
use Rattle.ncc_session.proofs.Spellable.{text_within, number_within, literal, kind_of_tail, done_fits, commit_fits}
use Rattle.ncc_clients.specs.Transacting.{TellsBookmark}
use Rattle.ncc_clients.proofs.Firm.{Firm, Firms, keys_of, fits_firm, text_firm, list_firm, short_text, short_list, short_dict, dict_keys}
use Rattle.ncc_clients.proofs.Firm.{same_text}

-- ---- what is read of a SUCCESS

as_ok : {A : Type 0} (r : Result A PackError) (y : A) → as_message r ≡ Ok y → r ≡ Ok y
as_ok (Ok x) y e = ap (λ (z : _). Ok z) (ok_is x y e)
as_ok (Err d) y e = absurd (cc)

ended_ok : {A : Type 0} (total : ℕ) (x y : A) (rest : List ℕ) → ended total x rest ≡ Ok y → x ≡ y
ended_ok total x y [] e = ok_is x y e
ended_ok total x y (b ∷ rest) e = absurd (cc)

abbrev response_ok : Response → Result Response MessageError
response_ok m = Ok m

same_meta : (a b : Pairs) → response_ok (s.Success a) ≡ Ok (s.Success b) → a ≡ b
same_meta a b e = cc

success_reads : (meta found : Pairs) → response_at (short_response (s.Success meta)) ≡ Ok (s.Success found)
    → (rest : List ℕ) × (value_at (length (short_response (s.Success meta))) 32 (short (v.Dict meta)) ≡ Ok (v.Dict found, rest))
unfolding head_at field_at spelled_at
success_reads meta found e =
    let all = bind_ok _ (λ (fields : Pairs × Unit {0}). Ok (s.Success fields.0)) (s.Success found) e in
    let fields = bind_ok _ _ all.0 all.1 in
    let one = bind_ok _ _ fields.0 fields.1 in
    let x = bind_ok _ _ one.0 one.1 in
    let h = bind_ok _ _ one.0 x.2 in
    let first : h.0 ≡ one.0.0 = ap (λ (z : Pairs × List ℕ). z.0) (ok_is (h.0, x.0.1) one.0 h.2) in
    let second : one.0.0 ≡ fields.0.0.0 =
    ap (λ (z : (Pairs × Unit {0}) × List ℕ). z.0.0) (ok_is ((one.0.0, tt), one.0.1) fields.0 one.2) in
    let third : fields.0.0.0 ≡ all.0.0 =
    ap (λ (z : Pairs × Unit {0}). z.0) (ended_ok (length (short_response (s.Success meta))) fields.0.0 all.0 fields.0.1 fields.2) in
    let is : x.0.0 ≡ v.Dict found =
    held_taken dictionary _ x.0.0 h.0 h.1
    ∙ ap (λ (z : Pairs). v.Dict z) (first ∙ second ∙ third ∙ same_meta all.0.0 found all.2) in
    (x.0.1, as_ok _ x.0 x.1 ∙ ap (λ (z : Value). Ok (z, x.0.1)) is)

lookup_keys : (test : List ℕ → Bool) (ps qs : Pairs) → keys_of ps ≡ keys_of qs → lookup test qs ≡ None → lookup test ps ≡ None
lookup_keys test [] qs e n = refl
lookup_keys test (p ∷ ps) [] e n = absurd (cc)
lookup_keys test (p ∷ ps) (q ∷ qs) e n =
    let first : p.0 ≡ q.0 = cc in
    let rest : keys_of ps ≡ keys_of qs = cc in
    go (test q.0) refl first n (lookup_keys test ps qs rest)
  where
    go : (b : Bool) → test q.0 ≡ b → p.0 ≡ q.0 → cond b (Some q.1) (lookup test qs) ≡ None
        → (lookup test qs ≡ None → lookup test ps ≡ None) → cond (test p.0) (Some p.1) (lookup test ps) ≡ None
    go true h first n others = absurd (cc)
    go false h first n others = ap (λ (b : Bool). cond b (Some p.1) (lookup test ps)) (ap test first ∙ h) ∙ others n

-- no bookmark is told
abbrev pub IsSilent : List ℕ → Type 0
IsSilent message = (text : List ℕ) → length message ≤ limit → TellsBookmark message text → ⊥

silent_by : (meta : Pairs) → length meta ≤ max_size → under (codes "bookmark") meta ≡ None
    → (length (short_response (s.Success meta)) ≤ limit → Firms (value_at (length (short_response (s.Success meta))) 31) meta)
    → IsSilent (short_response (s.Success meta))
silent_by meta few none firm text le t =
    let r = success_reads meta t.0 t.1 in
    let keys = dict_keys (length (short_response (s.Success meta))) 31 meta t.0 r.0 few (firm le) r.1 in
    let found : None ≡ Some (v.Text text) = sym (lookup_keys (bytes_eq (codes "bookmark")) t.0 meta keys none) ∙ t.2 in
    absurd (cc)

-- ---- answers that tell none

failure_is : (meta found : Pairs) → response_at (short_response (s.Failure meta)) ≡ Ok (s.Success found) → ⊥
unfolding head_at
failure_is meta found e =
    let all = bind_ok _ (λ (fields : Pairs × Unit {0}). Ok (s.Failure fields.0)) (s.Success found) e in
    let same : response_ok (s.Failure all.0.0) ≡ Ok (s.Success found) = all.2 in
    absurd (cc)

pub failure_silent : (meta : Pairs) → IsSilent (short_response (s.Failure meta))
failure_silent meta text le t = failure_is meta t.0 t.1

row_is : (fields : List Value) (found : Pairs) → response_at (short_response (s.Row fields)) ≡ Ok (s.Success found) → ⊥
unfolding head_at
row_is row found e =
    let all = bind_ok _ (λ (fields : List Value × Unit {0}). Ok (s.Row fields.0)) (s.Success found) e in
    let same : response_ok (s.Row all.0.0) ≡ Ok (s.Success found) = all.2 in
    absurd (cc)

pub row_silent : (fields : List Value) → IsSilent (short_response (s.Row fields))
row_silent fields text le t = row_is fields t.0 t.1

ignored_is : (found : Pairs) → response_at (short_response s.Ignored) ≡ Ok (s.Success found) → ⊥
unfolding head_at
ignored_is found e = let same : response_ok s.Ignored ≡ Ok (s.Success found) = e in absurd (cc)

pub ignored_silent : IsSilent (short_response s.Ignored)
ignored_silent text le t = ignored_is t.0 t.1

pub none_silent : IsSilent (short_response (s.Success []))
none_silent = silent_by [] (omega arith) refl (λ le. tt)

-- a text, and a number, that fit
given_text : (total : ℕ) (t : List ℕ) → fits_text t ≡ true → Firm (value_at total 31) (short (v.Text t))
given_text total t h = fits_firm total 31 (v.Text t) (text_within t 31 h)

given_zero : (total : ℕ) → Firm (value_at total 31) (short (v.Int (pos 0)))
given_zero total = fits_firm total 31 (v.Int (pos 0)) (number_within 0 31 (omega arith))

pub hello_silent : (conn : ℕ) → IsSilent (short_response (s.Success (hello_meta conn)))
hello_silent conn =
    silent_by (hello_meta conn) (omega arith) refl
    (λ le. (omega arith, given_text _ (codes "Neo4j/4.4.0") (literal (codes "Neo4j/4.4.0") refl), omega arith))

pub more_silent : IsSilent (short_response (s.Success more_meta))
more_silent = silent_by more_meta (omega arith) refl (λ le. omega arith)

pub end_silent : (kind : List ℕ) → fits_text kind ≡ true → IsSilent (short_response (s.Success (end_meta kind)))
end_silent kind h =
    silent_by (end_meta kind) (omega arith) refl
    (λ le. (omega arith, given_text _ kind h, (omega arith, given_zero _, omega arith)))

pub table_silent : (members : Members) (leader ttl : ℕ) → IsSilent (short_response (s.Success (table_meta members leader ttl)))
table_silent members leader ttl = silent_by (table_meta members leader ttl) (omega arith) refl (λ le. omega arith)

-- ---- columns, which are texts

wide_some : (mark n : ℕ) (a b : Bool) (x y z : List ℕ) → 0 < length x → 0 < length y → 0 < length z → 0 < length (cond a x (cond b y z))
wide_some mark n true b x y z h k l = h
wide_some mark n false true x y z h k l = k
wide_some mark n false false x y z h k l = l

head_some : (kind : Kind) (n : ℕ) → 0 < length (head kind n)
unfolding head
head_some kind n = go (nat_lt n 16) where
  go : (b : Bool) → 0 < length (cond b ((kind.tiny + n) ∷ []) (wide_head kind.wide n))
  go true = omega arith
  go false = wide_some kind.wide n (nat_lt n 0x100) (nat_lt n 0x1_0000) _ _ _ (omega arith) (omega arith) (omega arith)

text_longer : (t : List ℕ) → length t < length (short (v.Text t))
text_longer t = omega (arith, ap length (short_text t), text_length t, head_some texts (length t))

few_names : (names : List (List ℕ)) → length names ≤ length (concat (map short (map v.Text names)))
few_names [] = omega arith
few_names (t ∷ ts) =
    omega (arith, text_longer t, few_names ts, length-append (short (v.Text t)) (concat (map short (map v.Text ts))))

names_firm : (total : ℕ) (names : List (List ℕ)) → length (concat (map short (map v.Text names))) ≤ max_size
    → AllByRecursion (λ x. Firm (value_at total 30) (short x)) (map v.Text names)
names_firm total [] le = tt
names_firm total (t ∷ ts) le =
    let l = length-append (short (v.Text t)) (concat (map short (map v.Text ts))) in
    (text_firm total (within total 30) t (omega (arith, text_longer t, l, le)), names_firm total ts (omega (arith, l, le)))

length_names : (names : List (List ℕ)) → length (map v.Text names) ≡ length names
length_names [] = refl
length_names (t ∷ ts) = ap suc (length_names ts)

columns_firm : (total : ℕ) (names : List (List ℕ)) → length (short (v.List (map v.Text names))) ≤ max_size
    → Firm (value_at total 31) (short (v.List (map v.Text names)))
columns_firm total names le =
    let all : length (concat (map short (map v.Text names))) ≤ max_size =
    omega (arith, le, ap length (short_list (map v.Text names)), list_length (map v.Text names)) in
    list_firm total 30 (map v.Text names) (omega (arith, length_names names, few_names names, all)) (names_firm total names all)

first_within : (p : List ℕ × Value) (ps : Pairs) → length (short p.1) ≤ length (short_response (s.Success (p ∷ ps)))
first_within p ps =
    let a = ap length (short_dict (p ∷ ps)) in
    let b = dict_length (p ∷ ps) in
    let c = length-append (text p.0 ++ short p.1) (pairs (map short_pair ps)) in
    let d = length-append (text p.0) (short p.1) in
    omega (arith, a, b, c, d)

fields_firm : (names : List (List ℕ)) (ps : Pairs)
    → length (short_response (s.Success ((codes "fields", v.List (map v.Text names)) ∷ ps))) ≤ limit
    → Firm (value_at (length (short_response (s.Success ((codes "fields", v.List (map v.Text names)) ∷ ps)))) 31)
    (short (v.List (map v.Text names)))
fields_firm names ps le =
    columns_firm _ names (omega (arith, le, first_within (codes "fields", v.List (map v.Text names)) ps))

run_by : (names : List (List ℕ)) → IsSilent (short_response (s.Success (run_meta (map v.Text names))))
run_by names =
    silent_by (run_meta (map v.Text names)) (omega arith) refl
    (λ le. (omega arith, fields_firm names (number_at (codes "t_first") 0 ∷ []) le, omega arith))

step_by : (names : List (List ℕ)) (n : ℕ) → IsSilent (short_response (s.Success (step_meta (map v.Text names) n)))
step_by names n =
    silent_by (step_meta (map v.Text names) n) (omega arith) refl
    (λ le. (
      omega arith,
      fields_firm names (number_at (codes "t_first") 0 ∷ number_at (codes "qid") n ∷ []) le,
      (omega arith, given_zero _, omega arith),
    ))

abbrev Named : List Value → Type 0
Named values = (names : List (List ℕ)) × (values ≡ map v.Text names)

named_by : (calls : List Call) (call : Call) (r : Result Statement (ℕ × _)) → slice_get calls (length calls - 1) ≡ Some call
    → parsed call.source ≡ r → Named (columns_in calls)
named_by calls call (Ok y) e p =
    let w = (spelled call.source y).0 p in
    (columns w.placed, rw (e, p, columns_in) w.columns)
named_by calls call (Err fault) e p = ([], rw (e, p, columns_in) refl)

named : (calls : List Call) (o : Option Call) → slice_get calls (length calls - 1) ≡ o → Named (columns_in calls)
named calls None e = ([], rw (e, columns_in) refl)
named calls (Some call) e = named_by calls call (parsed call.source) e refl

pub run_silent : (calls : List Call) → IsSilent (short_response (s.Success (run_meta (columns_in calls))))
run_silent calls =
    let n = named calls (slice_get calls (length calls - 1)) refl in
    subst (λ (xs : List Value). IsSilent (short_response (s.Success (run_meta xs)))) (sym n.1) (run_by n.0)

pub step_silent : (calls : List Call) (number : ℕ) → IsSilent (short_response (s.Success (step_meta (columns_in calls) number)))
step_silent calls number =
    let n = named calls (slice_get calls (length calls - 1)) refl in
    subst (λ (xs : List Value). IsSilent (short_response (s.Success (step_meta xs number)))) (sym n.1) (step_by n.0 number)

-- ---- kinds

kind_fits : (y : Statement) → fits_text (kind_of y) ≡ true
kind_fits y = go (writes y) where
  go : (b : Bool) → fits_text (cond b (writing_kind y.tail) (codes "r")) ≡ true
  go true = kind_of_tail y.tail
  go false = literal (codes "r") refl

kind_by : (calls : List Call) (number : ℕ) (call : Call) (r : Result Statement (ℕ × _)) → slice_get calls number ≡ Some call
    → parsed call.source ≡ r → fits_text (kind_in calls number) ≡ true
kind_by calls number call (Ok y) e p = rw (e, p, kind_in) (kind_fits y)
kind_by calls number call (Err fault) e p = rw (e, p, kind_in) (literal [] refl)

kind_at : (calls : List Call) (number : ℕ) (o : Option Call) → slice_get calls number ≡ o → fits_text (kind_in calls number) ≡ true
kind_at calls number None e = rw (e, kind_in) (literal [] refl)
kind_at calls number (Some call) e = kind_by calls number call (parsed call.source) e refl

pub kind_in_fits : (calls : List Call) (number : ℕ) → fits_text (kind_in calls number) ≡ true
kind_in_fits calls number = kind_at calls number (slice_get calls number) refl

-- ---- answers that tell one

-- the message tells this bookmark, if any
abbrev pub Tells : ℕ → ℕ → List ℕ → Type 0
Tells cluster place message = (text : List ℕ) → TellsBookmark message text → text ≡ text_of (record { cluster = cluster; place = place })

same_found : (t text : List ℕ) → Some (v.Text t) ≡ Some (v.Text text) → v.Text t ≡ v.Text text
same_found t text e = cc

tells_by : (cluster place : ℕ) (ps : Pairs)
    → let meta = text_at (codes "bookmark") (text_of (record { cluster = cluster; place = place })) ∷ ps in
    fits (v.Dict meta) ≡ true → Tells cluster place (short_response (s.Success meta))
tells_by cluster place ps h text t =
    let mark = text_of (record { cluster = cluster; place = place }) in
    let meta : Pairs = text_at (codes "bookmark") mark ∷ ps in
    let again = response_again (s.Success meta) (short_response (s.Success meta)) (response_short (s.Success meta) h) in
    let same : meta ≡ t.0 = same_meta meta t.0 (sym again ∙ t.1) in
    let found : Some (v.Text mark) ≡ Some (v.Text text) = ap (under (codes "bookmark")) same ∙ t.2 in
    sym (same_text mark text (same_found mark text found))

pub commit_tells : (cluster place : ℕ) → Tells cluster place (short_response (s.Success (commit_meta cluster place)))
commit_tells cluster place = tells_by cluster place [] (commit_fits cluster place)

pub done_tells : (cluster place : ℕ) (kind : List ℕ) → fits_text kind ≡ true
    → Tells cluster place (short_response (s.Success (done_meta cluster place kind)))
done_tells cluster place kind h = tells_by cluster place (end_meta kind) (done_fits cluster place kind h)

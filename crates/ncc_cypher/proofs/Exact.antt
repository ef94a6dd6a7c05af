-- `parsed` is what the source spells, or where and how it stops.
use Rattle.std.specs.Prelude.{◌↔◌, IfOk}
use Rattle.std.proofs.Common.{◌≡◌, ◌≤◌, ◌<◌, ℕ, zero, suc, ◌+◌, ◌-◌, List, [], ◌∷◌, ◌++◌, length, map, Option, Some, None, Result, Ok, Err, refl, sym, ap, subst, ◌∙◌, append_assoc, arith}
use Rattle.std.proofs.lemmas.List.{append-nil}
use Rattle.ncc_pack.specs.declared.value.Value.TheVariants as v
use Rattle.ncc_cypher.specs.declared.token.Token.{Token}
use Rattle.ncc_cypher.specs.declared.tree.Statement.{Statement}
use Rattle.ncc_cypher.specs.declared.error.ParseError.{ParseError}
use Rattle.ncc_cypher.specs.declared.error.ParseError.TheVariants.{Syntax, Memory}
use Rattle.ncc_cypher.specs.declared.error.SyntaxKind.{SyntaxKind}
use Rattle.ncc_cypher.specs.declared.error.SyntaxKind.TheVariants.{BadToken, Unexpected}
use Rattle.ncc_cypher.specs.State.{State}
use Rattle.ncc_cypher.specs.State as s
use Rattle.ncc_cypher.specs.Token as k
use Rattle.ncc_cypher.specs.Token.{Begins, Placed, Tokens, tokens_of, past_blanks}
use Rattle.ncc_cypher.specs.Scan.{token_at}
use Rattle.ncc_cypher.specs.Grammar.{Name}
use Rattle.ncc_cypher.specs.Columns.{columns}
use Rattle.ncc_cypher.specs.Machine.{step, accepts, then_run, run}
use Rattle.ncc_cypher.specs.Spelled.{Spelled, Continued, Stopped, StopsHere, IsOrMemory}
use Rattle.ncc_cypher.specs.Parsed.{Answer, front_by, front, scanned, named_by, ended, goes, whole, at_place, parsed, IsAnswer}
use Rattle.ncc_cypher.proofs.Sources.{token_begins, none_begins, begins_is, goes_further, same_token, nothing, Left}
use Rattle.ncc_cypher.proofs.Sound.{then_some}
use Rattle.ncc_cypher.proofs.Complete.{complete, run_on}
use Rattle.ncc_cypher.proofs.Answered.{Reached, nowhere, further, shorter, is_spelled, is_unexpected, is_bad, is_continued, not_continued, left_none, tokens_append, unique}

-- ---- the tokens of a source

pub record Scanned (bytes : List ℕ) (r : List Placed × List ℕ) : Type 0 where
  pub tokens : Tokens bytes r.0 r.1
  pub all : token_at (past_blanks r.1) ≡ None

no_length : (bytes : List ℕ) → length bytes ≤ 0 → bytes ≡ []
no_length [] le = refl
no_length (b ∷ bs) le = absurd (omega arith)

blanks_none : (bytes : List ℕ) → bytes ≡ [] → past_blanks bytes ≡ []
blanks_none [] e = refl
blanks_none (b ∷ bs) e = absurd cc

front_is : (f : List ℕ → List Placed × List ℕ) (bytes : List ℕ) (o : Option (Token × List ℕ)) → token_at (past_blanks bytes) ≡ o → ((rest : List ℕ) → length rest < length bytes → Scanned rest (f rest)) → Scanned bytes (front_by f bytes o)
front_is f bytes None e h = record { tokens = k.stop bytes; all = e }
front_is f bytes (Some r) e h =
    let w = h r.1 (shorter bytes r.0 r.1 e) in
    record { tokens = k.more bytes r.1 (f r.1).1 r.0 (f r.1).0 (token_begins (past_blanks bytes) r.0 r.1 e) w.tokens; all = w.all }

front_scans : (n : ℕ) (bytes : List ℕ) → length bytes ≤ n → Scanned bytes (front n bytes)
unfolding front
front_scans zero bytes le = record { tokens = k.stop bytes; all = nothing (past_blanks bytes) (blanks_none bytes (no_length bytes le)) }
front_scans (suc n) bytes le = front_is (λ rest. front n rest) bytes (token_at (past_blanks bytes)) refl (λ rest lt. front_scans n rest (omega arith))

scans : (source : List ℕ) → Scanned source (scanned source)
scans source = front_scans (length source) source (omega arith)

-- ---- the machine over them

on_by : (names : List Name) (bytes : List ℕ) (x : State) (ps qs : List Placed) (n : ℕ) (o : Option State) → then_run (λ r. run r (tokens_of ps)) o ≡ Some x → ((r : State) → run r (tokens_of ps) ≡ Some x → whole names bytes r (ps ++ qs) ≡ whole names bytes x qs) → goes (λ r. whole names bytes r (ps ++ qs)) n o ≡ whole names bytes x qs
on_by names bytes x ps qs n None e h = absurd cc
on_by names bytes x ps qs n (Some r) e h = h r e

state_is : (x y : State) → Some x ≡ Some y → x ≡ y
state_is x y e = cc

-- a run of the machine is the front of it
whole_on : (names : List Name) (bytes : List ℕ) (y x : State) (ps qs : List Placed) → run y (tokens_of ps) ≡ Some x → whole names bytes y (ps ++ qs) ≡ whole names bytes x qs
unfolding run whole
whole_on names bytes y x [] qs e = ap (λ (z : State). whole names bytes z qs) (state_is y x e)
whole_on names bytes y x (p ∷ ps) qs e = on_by names bytes x ps qs (length p.from) (step y p.what) e (λ r f. whole_on names bytes r x ps qs f)

-- ---- what is answered is so

abbrev Is : List ℕ → Answer → Type 0
Is source (Ok y) = Spelled y source
Is source (Err e) = Stopped source e.0 e.1

ended_is : (source rest : List ℕ) (x : State) (names : List Name) (r : Reached source rest x) → names ≡ columns r.placed → token_at (past_blanks rest) ≡ None → (bytes : List ℕ) → past_blanks rest ≡ bytes → (o : Option Statement) → accepts x ≡ o → Is source (at_place (length source) (ended names x bytes))
ended_is source rest x names r c n [] e None a =
    let w : Stopped source (length source - 0) BadToken = subst (λ (z : List ℕ). Stopped source (length source - length z) BadToken) e (is_bad source rest x r n (λ f. a)) in
    subst (λ (z : Option Statement). Is source (at_place (length source) (named_by names z))) (sym a) w
ended_is source rest x names r c n [] e (Some y) a = subst (λ (z : Option Statement). Is source (at_place (length source) (named_by names z))) (sym a) (is_spelled source rest x y names r c e a)
ended_is source rest x names r c n (b ∷ bs) e o a =
    subst (λ (z : List ℕ). Stopped source (length source - length z) BadToken) e (is_bad source rest x r n (λ f. absurd (let g : [] ≡ b ∷ bs = sym f ∙ e in cc)))

whole_by : (source rest end : List ℕ) (x : State) (names : List Name) (p : Placed) (ps : List Placed) (after : List ℕ) (o : Option State) → Reached source rest x → Begins (past_blanks rest) p.what after → p.from ≡ past_blanks rest → step x p.what ≡ o
    → ((y : State) → step x p.what ≡ Some y → Is source (at_place (length source) (whole names (past_blanks end) y ps))) → Is source (at_place (length source) (goes (λ r. whole names (past_blanks end) r ps) (length p.from) o))
whole_by source rest end x names p ps after None r b f e h = subst (λ (z : List ℕ). Stopped source (length source - length z) Unexpected) (sym f) (is_unexpected source rest after x p.what r (begins_is (past_blanks rest) p.what after b) e)
whole_by source rest end x names p ps after (Some y) r b f e h = h y e

whole_is : (source rest : List ℕ) (todo : List Placed) (end : List ℕ) (x : State) (names : List Name) → Tokens rest todo end → (r : Reached source rest x) → names ≡ columns (r.placed ++ todo) → token_at (past_blanks end) ≡ None → Is source (at_place (length source) (whole names (past_blanks end) x todo))
unfolding whole
whole_is source _ _ _ x names (k.stop rest) r c n = ended_is source rest x names r (c ∙ ap columns (append-nil r.placed)) n (past_blanks rest) refl (accepts x) refl
whole_is source _ _ _ x names (k.more rest after end t others b o) r c n =
    let p : Placed = record { what = t; from = past_blanks rest; to = after } in
    whole_by source rest end x names p others after (step x t) r b refl refl
    (λ y f. whole_is source after others end y names o (further source rest after x y t r b f) (c ∙ ap columns (sym (append_assoc r.placed (p ∷ []) others))) n)

parsed_is : (source : List ℕ) → Is source (parsed source)
unfolding parsed
parsed_is source = let w = scans source in whole_is source source (scanned source).0 (scanned source).1 s.Start (columns (scanned source).0) w.tokens (nowhere source) refl w.all

-- ---- and nothing else is

none_there : (bytes : List ℕ) (o : Option (Token × List ℕ)) → token_at bytes ≡ o → ((t : Token) (rest : List ℕ) → Begins bytes t rest → ⊥) → token_at bytes ≡ None
none_there bytes None e h = e
none_there bytes (Some r) e h = absurd (h r.0 r.1 (token_begins bytes r.0 r.1 e))

-- the machine goes on over tokens that are continued
goes_so : (ts : List Token) (o : Option State) → run s.Start ts ≡ o → Continued ts → (x : State) × (run s.Start ts ≡ Some x)
goes_so ts None e c = absurd (not_continued ts e c)
goes_so ts (Some x) e c = (x, e)

place : (n at left : ℕ) → at + left ≡ n → n - left ≡ at
place n at left e = omega arith

bad_ended : (source : List ℕ) (at : ℕ) (w : Stopped source at BadToken) (x : State) (r : Reached source w.end x) → w.placed ≡ r.placed → (bytes : List ℕ) → past_blanks w.end ≡ bytes → (o : Option Statement) → accepts x ≡ o → at_place (length source) (ended (columns r.placed) x bytes) ≡ Err (at, BadToken)
bad_ended source at w x r i [] e None a = rw a (ap (λ (z : ℕ). Err (z, BadToken)) (place (length source) at 0 (ap (λ (z : List ℕ). at + length z) (sym e) ∙ w.place)))
bad_ended source at w x r i [] e (Some y) a = absurd (w.never (record y { columns = map v.Text (columns r.placed) }) (is_spelled source w.end x y (columns r.placed) r refl e a))
bad_ended source at w x r i (b ∷ bs) e o a = ap (λ (z : ℕ). Err (z, BadToken)) (place (length source) at (length (b ∷ bs)) (ap (λ (z : List ℕ). at + length z) (sym e) ∙ w.place))

bad_stops : (source : List ℕ) (at : ℕ) (w : Stopped source at BadToken) (x : State) (r : Reached source w.end x) → w.placed ≡ r.placed → (names : List Name) (left : List Placed) (whole_end : List ℕ) → names ≡ columns (r.placed ++ left) → Tokens w.end left whole_end
    → at_place (length source) (whole names (past_blanks whole_end) x left) ≡ Err (at, BadToken)
unfolding whole
bad_stops source at w x r i names left whole_end c o =
    let n = left_none w.end left whole_end o (none_there (past_blanks w.end) (token_at (past_blanks w.end)) refl w.here) in
    let k : names ≡ columns r.placed = c ∙ ap (λ (z : List Placed). columns (r.placed ++ z)) n.0 ∙ ap columns (append-nil r.placed) in
    ap (λ (z : List Placed). at_place (length source) (whole names (past_blanks whole_end) x z)) n.0 ∙ ap (λ (z : List ℕ). at_place (length source) (ended names x (past_blanks z))) (sym n.1) ∙ ap (λ (z : List Name). at_place (length source) (ended z x (past_blanks w.end))) k
    ∙ bad_ended source at w x r i (past_blanks w.end) refl (accepts x) refl

by_next : (source : List ℕ) (at : ℕ) (w : Stopped source at Unexpected) (x : State) (r : Reached source w.end x) → w.placed ≡ r.placed → (f : State → Answer) (t : Token) (after : List ℕ) → Begins (past_blanks w.end) t after → (Continued (tokens_of w.placed ++ (t ∷ [])) → ⊥) → (o : Option State) → step x t ≡ o
    → at_place (length source) (goes f (length (past_blanks w.end)) o) ≡ Err (at, Unexpected)
by_next source at w x r i f t after b h None e = ap (λ (z : ℕ). Err (z, Unexpected)) (place (length source) at (length (past_blanks w.end)) w.place)
by_next source at w x r i f t after b h (Some y) e =
    let q = further source w.end after x y t r b e in
    let same : tokens_of q.placed ≡ tokens_of w.placed ++ (t ∷ []) = tokens_append r.placed (record { what = t; from = past_blanks w.end; to = after } ∷ []) ∙ ap (λ (z : List Placed). tokens_of z ++ (t ∷ [])) (sym i) in
    absurd (h (subst Continued same (is_continued source after q.placed y q.tokens q.goes)))

next_stops : (source : List ℕ) (at : ℕ) (w : Stopped source at Unexpected) (x : State) (r : Reached source w.end x) → w.placed ≡ r.placed → (names : List Name) (rest : List ℕ) (left : List Placed) (whole_end : List ℕ) → rest ≡ w.end → Tokens rest left whole_end → token_at (past_blanks whole_end) ≡ None
    → at_place (length source) (whole names (past_blanks whole_end) x left) ≡ Err (at, Unexpected)
unfolding whole
next_stops source at w x r i names _ _ _ e (k.stop rest) n = absurd (none_begins (past_blanks rest) n w.here.0 w.here.1 (subst (λ (z : List ℕ). Begins (past_blanks z) w.here.0 w.here.1) (sym e) w.here.2))
next_stops source at w x r i names _ _ _ e (k.more rest after end t others b o) n =
    let c : Begins (past_blanks w.end) t after = subst (λ (z : List ℕ). Begins (past_blanks z) t after) e b in
    let d = same_token (past_blanks w.end) w.here.0 t w.here.1 after w.here.2 c in
    let h : Continued (tokens_of w.placed ++ (t ∷ [])) → ⊥ = subst (λ (z : Token). Continued (tokens_of w.placed ++ (z ∷ [])) → ⊥) d.0 w.here.3 in
    ap (λ (z : List ℕ). at_place (length source) (goes (λ q. whole names (past_blanks end) q others) (length (past_blanks z)) (step x t))) e
    ∙ by_next source at w x r i (λ q. whole names (past_blanks end) q others) t after c h (step x t) refl

stops_by : (source : List ℕ) (at : ℕ) (kind : SyntaxKind) (w : Stopped source at kind) (x : State) (r : Reached source w.end x) → w.placed ≡ r.placed → (names : List Name) (left : List Placed) (whole_end : List ℕ) → names ≡ columns (r.placed ++ left) → Tokens w.end left whole_end → token_at (past_blanks whole_end) ≡ None
    → at_place (length source) (whole names (past_blanks whole_end) x left) ≡ Err (at, kind)
stops_by source at BadToken w x r i names left whole_end c o n = bad_stops source at w x r i names left whole_end c o
stops_by source at Unexpected w x r i names left whole_end c o n = next_stops source at w x r i names w.end left whole_end refl o n

stopped_so : (source : List ℕ) (at : ℕ) (kind : SyntaxKind) → Stopped source at kind → parsed source ≡ Err (at, kind)
unfolding parsed
stopped_so source at kind w =
    let q = scans source in
    let all : List Placed = (scanned source).0 in
    let end : List ℕ = past_blanks (scanned source).1 in
    let l = goes_further source w.placed w.end all (scanned source).1 w.tokens q.tokens q.all in
    let x = goes_so (tokens_of w.placed) (run s.Start (tokens_of w.placed)) refl w.before in
    let r : Reached source w.end x.0 = record { placed = w.placed; tokens = w.tokens; goes = x.1 } in
    ap (λ (z : List Placed). at_place (length source) (whole (columns all) end s.Start z)) l.parts
    ∙ ap (at_place (length source)) (whole_on (columns all) end s.Start x.0 w.placed l.left x.1)
    ∙ stops_by source at kind w x.0 r refl (columns all) l.left (scanned source).1 (ap columns l.parts) l.tokens q.all

spelled_by : (source : List ℕ) (y : Statement) (r : Answer) → Is source r → Spelled y source → r ≡ Ok y
spelled_by source y (Ok z) i w = ap (λ (q : Statement). Ok q) (unique source z y i w)
spelled_by source y (Err e) i w = absurd (i.never y w)

pub spelled : (source : List ℕ) (y : Statement) → (parsed source ≡ Ok y) ↔ Spelled y source
spelled source y = ((λ e. subst (Is source) e (parsed_is source)), (λ w. spelled_by source y (parsed source) (parsed_is source) w))

pub stopped : (source : List ℕ) (at : ℕ) (kind : SyntaxKind) → (parsed source ≡ Err (at, kind)) ↔ Stopped source at kind
stopped source at kind = ((λ e. subst (Is source) e (parsed_is source)), (λ w. stopped_so source at kind w))

-- ---- for `parse`

pub is_found : (source : List ℕ) (r : Result Statement ParseError) → IsAnswer r (parsed source) → IfOk r (λ y. Spelled y source)
is_found source (Ok y) e = (spelled source y).0 e
is_found source (Err e) x = tt

answer_is : (r : Result Statement ParseError) (a : Answer) (y : Statement) → IsAnswer r a → a ≡ Ok y → IsOrMemory r (Ok y)
answer_is (Ok z) a y e f = let i : Ok z ≡ Ok y = sym e ∙ f in cc
answer_is (Err Memory) a y e f = tt
answer_is (Err (Syntax at kind)) a y e f = absurd (let i : Err (at, kind) ≡ Ok y = sym e ∙ f in cc)

pub is_only : (source : List ℕ) (r : Result Statement ParseError) → IsAnswer r (parsed source) → (y : Statement) → Spelled y source → IsOrMemory r (Ok y)
is_only source r e y w = answer_is r (parsed source) y e ((spelled source y).1 w)

pub is_refused : (source : List ℕ) (r : Result Statement ParseError) → IsAnswer r (parsed source) → (at : ℕ) (kind : SyntaxKind) → r ≡ Err (Syntax at kind) → Stopped source at kind
is_refused source (Err (Syntax at kind)) e i k f =
    let w = (stopped source at kind).0 e in
    let same : (at ≡ i) × (kind ≡ k) = (cc, cc) in
    subst (λ (z : ℕ). Stopped source z k) same.0 (subst (λ (z : SyntaxKind). Stopped source at z) same.1 w)
is_refused source (Ok y) e i k f = absurd cc
is_refused source (Err Memory) e i k f = absurd cc

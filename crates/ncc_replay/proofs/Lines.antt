-- What the words of a line say, and that they say one event at most.
use Rattle.std.proofs.Common.{◌≡◌, ◌≢◌, ℕ, ◌+◌, ◌*◌, ◌<◌, ◌≤◌, ◌^◌, true, false, ◌==◌, ◌&&◌, List, [], ◌∷◌, ◌++◌}
use Rattle.std.proofs.Common.{length, drop}
use Rattle.std.proofs.Common.{refl, sym, ap, ◌∙◌, subst, arith, codes, decimal, get_or, All, inl, inr}
use Rattle.std.specs.List.{AllByRecursion, join_with_byte, list_all}
use Rattle.std.specs.List.{position_or_len}
use Rattle.std.proofs.lemmas.Bool.{and_parts, cases_lt}
use Rattle.std.proofs.lemmas.List.{take_all}
use Rattle.std.proofs.lemmas.List.Splits.{slice_split_first, slice_split_none}
use Rattle.std.proofs.lemmas.Fmt.{decimal_injective}
use Rattle.std.proofs.lemmas.List.Elements.{All-from_recursion, All-head, All-nil, All-tail}
use Rattle.ncc_bookmark.specs.Point.{Point, Fits}
use Rattle.ncc_bookmark.specs.Spelling.{text_of}
use Rattle.ncc_bookmark.proofs.Texts.{point_of_text}
use Rattle.ncc_replay.specs.Line.{bookmark_words, is_bookmark_word, hex, MayPresent, Spellable, words_of, Says, setup_words, SaysCluster}
use Rattle.ncc_replay.specs.Line.{SaysNone, IsRightBut, IsCause, first_word, is_verb, job_words, limit_words, FitsLimit}
use Rattle.ncc_replay.specs.Reading.{words_between, AreWords, AreRightBut, AreBad, IsBookmark, AreNoBookmarks, AreSetup}
use Rattle.ncc_replay.specs.Reading.{verb_word}
use Rattle.std.proofs.Common.{Bool, Option, None, Some, Result, Ok, Err, IfNone, IsErrOf}
use Rattle.std.specs.Option.{ok_or}
use Rattle.ncc_replay.specs.declared.line.LineError.{LineError}
use Rattle.ncc_replay.specs.Script.{IsNoCluster}
use Rattle.ncc_replay.specs.declared.line.LineError.TheVariants as LineErrors
use Rattle.ncc_replay.specs.Reading.{IsWordsCause, IsBookmarksCause}
use Rattle.ncc_replay.proofs.Words.{NoSpace, words-join, join-words, decimal_no_space, word_no_space, text_no_space}
use Rattle.ncc_replay.proofs.Words.{bookmark_word_no_space, no_space_before}
use Rattle.ncc_replay.proofs.Words.{text_is_word}
use Rattle.ncc_replay.proofs.Digits.{hex_no_space, hex_injective}
use Rattle.ncc_replay.proofs.Numbers.{signed_no_space, signed_injective}
use Rattle.ncc_replay.specs.declared.line.Verb.{Verb}
use Rattle.ncc_replay.specs.declared.line.Verb.TheVariants as Verbs
use Rattle.ncc_replay.specs.declared.status.Cause.{Cause}
use Rattle.ncc_replay.specs.declared.status.Cause.TheVariants as c
use Rattle.ncc_replay.specs.declared.status.Cause.TheVariants.{BadLine, BadBookmark, UnknownVerb}
use Rattle.ncc_world.specs.Events.{is_word, AreOf, MayBegin}
use Rattle.ncc_world.specs.Setting.{IsSetup}
use Rattle.ncc_world.specs.declared.event.Event.{Event}
use Rattle.ncc_world.specs.declared.event.Event.TheVariants.{Time, Put, Get, Apply, Timeout, Beat, Deliver, Pull, Crash, Open, Bytes, Close}
use Rattle.ncc_world.specs.declared.event.Event.TheVariants.{Session, Work, Up, Down, Pump, Cut}
use Rattle.ncc_world.specs.declared.event.Job.{Job}
use Rattle.ncc_world.specs.declared.event.Job.TheVariants.{Add}
use Rattle.ncc_world.specs.declared.event.Job.TheVariants as job
use Rattle.ncc_world.specs.declared.setup.Setup.{Setup}
use Rattle.ncc_world.specs.declared.setup.Kind.{Kind}

-- a word that is written out
literal : (w : List ℕ) → AllByRecursion (λ b. (b == 32) ≡ false) w → NoSpace w
literal w h = All-from_recursion (λ b. (b == 32) ≡ false) w h

bookmark_words_no_space : (bs : List Point) → AllByRecursion NoSpace (bookmark_words bs)
bookmark_words_no_space [] = tt
bookmark_words_no_space (b ∷ bs) = (text_no_space b, bookmark_words_no_space bs)

job_no_space : (j : Job) → MayBegin j → AllByRecursion NoSpace (job_words j)
job_no_space (Add key by) h = (
  literal (codes "add") (refl, (refl, (refl, tt))),
  (word_no_space key h.0, (signed_no_space by h.1, tt)),
)
job_no_space (job.Put key value) h = (
  literal (codes "put") (refl, (refl, (refl, tt))),
  (word_no_space key h.0, (word_no_space value h.1, tt)),
)
job_no_space (job.Get key) h = (
  literal (codes "get") (refl, (refl, (refl, tt))),
  (word_no_space key h, tt),
)

limit_no_space : (requests : Option ℕ) → FitsLimit requests → AllByRecursion NoSpace (limit_words requests)
limit_no_space None h = tt
limit_no_space (Some requests) h = (decimal_no_space requests h.1, tt)

-- the words of what a line can say have no spaces, so that a line is cut into just these
words_no_space : (cluster : ℕ) (e : Event) → Spellable cluster e → AllByRecursion NoSpace (words_of e)
words_no_space cluster (Time to) h = (literal (codes "time") (refl, (refl, (refl, (refl, tt)))), (decimal_no_space to h, tt))
words_no_space cluster (Put member key value bs) h = (
  literal (codes "put") (refl, (refl, (refl, tt))),
  (
    decimal_no_space member (omega (arith, h.0)),
    (word_no_space key h.1, (word_no_space value h.2, bookmark_words_no_space bs)),
  ),
)
words_no_space cluster (Get member key bs) h = (
  literal (codes "get") (refl, (refl, (refl, tt))),
  (
    decimal_no_space member (omega (arith, h.0)),
    (word_no_space key h.1, bookmark_words_no_space bs),
  ),
)
words_no_space cluster (Apply member count) h = (
  literal (codes "apply") (refl, (refl, (refl, (refl, (refl, tt))))),
  (decimal_no_space member (omega (arith, h.0)), (decimal_no_space count h.2, tt)),
)
words_no_space cluster (Timeout member) h = (
  literal (codes "timeout") (refl, (refl, (refl, (refl, (refl, (refl, (refl, tt))))))),
  (decimal_no_space member (omega (arith, h)), tt),
)
words_no_space cluster (Beat member) h = (
  literal (codes "beat") (refl, (refl, (refl, (refl, tt)))),
  (decimal_no_space member (omega (arith, h)), tt),
)
words_no_space cluster (Crash member) h = (
  literal (codes "crash") (refl, (refl, (refl, (refl, (refl, tt))))),
  (decimal_no_space member (omega (arith, h)), tt),
)
words_no_space cluster (Deliver message) h = (
  literal (codes "deliver") (refl, (refl, (refl, (refl, (refl, (refl, (refl, tt))))))),
  (decimal_no_space message h, tt),
)
words_no_space cluster (Pull replica core) h = (
  literal (codes "pull") (refl, (refl, (refl, (refl, tt)))),
  (decimal_no_space replica (omega (arith, h.0)), (decimal_no_space core (omega (arith, h.1)), tt)),
)
words_no_space cluster (Open member) h = (
  literal (codes "open") (refl, (refl, (refl, (refl, tt)))),
  (decimal_no_space member (omega (arith, h)), tt),
)
words_no_space cluster (Bytes conn bytes) h = (
  literal (codes "bytes") (refl, (refl, (refl, (refl, (refl, tt))))),
  (decimal_no_space conn h.0, (hex_no_space bytes, tt)),
)
words_no_space cluster (Close conn) h = (
  literal (codes "close") (refl, (refl, (refl, (refl, (refl, tt))))),
  (decimal_no_space conn h, tt),
)
words_no_space cluster (Session seed) h = (
  literal (codes "session") (refl, (refl, (refl, (refl, (refl, (refl, (refl, tt))))))),
  (decimal_no_space seed h, tt),
)
words_no_space cluster (Work session job) h = (
  literal (codes "work") (refl, (refl, (refl, (refl, tt)))),
  (decimal_no_space session h.0, job_no_space job h.1),
)
words_no_space cluster (Up session count) h = (
  literal (codes "up") (refl, (refl, tt)),
  (decimal_no_space session h.0, (decimal_no_space count h.1, tt)),
)
words_no_space cluster (Down session count) h = (
  literal (codes "down") (refl, (refl, (refl, (refl, tt)))),
  (decimal_no_space session h.0, (decimal_no_space count h.1, tt)),
)
words_no_space cluster (Pump session requests) h = (
  literal (codes "pump") (refl, (refl, (refl, (refl, tt)))),
  (decimal_no_space session h.0, limit_no_space requests h.1),
)
words_no_space cluster (Cut session) h = (
  literal (codes "cut") (refl, (refl, (refl, tt))),
  (decimal_no_space session h, tt),
)

words_nonempty : (e : Event) → 0 < length (words_of e)
words_nonempty (Time to) = omega arith
words_nonempty e = omega arith

-- between a line and its words

pub words_say : (cluster : ℕ) (line : List ℕ) (e : Event) → AreWords cluster (words_between line) e → Says cluster line e
words_say cluster line e h = (h.0, join-words line ∙ ap (join_with_byte 32) h.1)

pub says_words : (cluster : ℕ) (line : List ℕ) (e : Event) → Says cluster line e → AreWords cluster (words_between line) e
says_words cluster line e h = (h.0, ap words_between h.1 ∙ words-join (words_of e) (words_no_space cluster e h.0) (words_nonempty e))

setup_no_space : (s : Setup) → IsSetup s → AllByRecursion NoSpace (setup_words s)
setup_no_space s h = (
  literal (codes "cluster") (refl, (refl, (refl, (refl, (refl, (refl, (refl, tt))))))),
  (
    literal (codes "list") (refl, (refl, (refl, (refl, tt)))),
    (
      decimal_no_space s.cores (omega (arith, h.cores)),
      (
        decimal_no_space s.replicas (omega (arith, h.replicas)),
        (decimal_no_space s.cluster h.id, (decimal_no_space s.wait (omega (arith, h.wait)), tt)),
      ),
    ),
  ),
)

pub words_say_cluster : (line : List ℕ) (s : Setup) → AreSetup (words_between line) s → SaysCluster line s
words_say_cluster line s h = record {
  allowed = h.allowed;
  kind = h.kind;
  limit = h.limit;
  words = join-words line ∙ ap (join_with_byte 32) h.words_are;
}

pub says_words_cluster : (line : List ℕ) (s : Setup) → SaysCluster line s → AreSetup (words_between line) s
says_words_cluster line s h = record {
  allowed = h.allowed;
  kind = h.kind;
  limit = h.limit;
  words_are = ap words_between h.words ∙ words-join (setup_words s) (setup_no_space s h.allowed) (omega arith);
}

-- one event at most

bookmarks_one : (cluster : ℕ) (ps qs : List Point) → AreOf cluster ps → AreOf cluster qs → bookmark_words ps ≡ bookmark_words qs → ps ≡ qs
bookmarks_one cluster [] [] f g e = refl
bookmarks_one cluster [] (b ∷ qs) f g e = cc
bookmarks_one cluster (a ∷ ps) [] f g e = cc
bookmarks_one cluster (a ∷ ps) (b ∷ qs) f g e =
    let ok = λ (p : Point). Fits p × (p.cluster ≡ cluster) in
    let texts : text_of a ≡ text_of b = cc in
    let heads : a ≡ b = point_of_text a b (text_of a) (All-head ok a ps f).0 (All-head ok b qs g).0 refl texts in
    let tails : ps ≡ qs = bookmarks_one cluster ps qs (All-tail ok a ps f) (All-tail ok b qs g) (cc) in
    cc

-- the first of some words, empty where there is none
abbrev pub first_word_of : List (List ℕ) → List ℕ
first_word_of [] = []
first_word_of (w ∷ ws) = w

-- three times the first letter of the first word, its third, and four times its length, added: each verb has a sum of its own
abbrev pub first_byte : List (List ℕ) → ℕ
first_byte words = 3 * get_or (first_word_of words) 0 0 + get_or (first_word_of words) 2 0 + 4 * length (first_word_of words)

jobs_one : (a b : Job) → MayBegin a → MayBegin b → job_words a ≡ job_words b → a ≡ b
jobs_one (Add k x) (Add l y) f g e =
    let numbers : x ≡ y = signed_injective x y f.1 g.1 (cc) in
    cc
jobs_one (job.Put k v) (job.Put l w) f g e = cc
jobs_one (job.Get k) (job.Get l) f g e = cc
jobs_one a b f g e = absurd (omega (arith, ap first_byte e))

limits_one : (a b : Option ℕ) → FitsLimit a → FitsLimit b → limit_words a ≡ limit_words b → a ≡ b
limits_one None None f g e = refl
limits_one (Some m) (Some n) f g e = ap Some (decimal_injective m n f.1 g.1 (cc))
limits_one a b f g e = absurd (omega (arith, ap length e))

words_one : (cluster : ℕ) (a b : Event) → Spellable cluster a → Spellable cluster b → words_of a ≡ words_of b → a ≡ b
words_one cluster (Time s) (Time t) f g e =
    let texts : decimal s ≡ decimal t = cc in
    ap Time (decimal_injective s t f g texts)
words_one cluster (Put m k v ps) (Put n l w qs) f g e =
    let members : m ≡ n = decimal_injective m n (omega (arith, f.0)) (omega (arith, g.0)) (cc) in
    let bookmarks : ps ≡ qs = bookmarks_one cluster ps qs f.3 g.3 (cc) in
    cc
words_one cluster (Get m k ps) (Get n l qs) f g e =
    let members : m ≡ n = decimal_injective m n (omega (arith, f.0)) (omega (arith, g.0)) (cc) in
    let bookmarks : ps ≡ qs = bookmarks_one cluster ps qs f.2 g.2 (cc) in
    cc
words_one cluster (Apply m i) (Apply n j) f g e =
    let members : m ≡ n = decimal_injective m n (omega (arith, f.0)) (omega (arith, g.0)) (cc) in
    let counts : i ≡ j = decimal_injective i j f.2 g.2 (cc) in
    cc
words_one cluster (Timeout m) (Timeout n) f g e =
    let texts : decimal m ≡ decimal n = cc in
    ap Timeout (decimal_injective m n (omega (arith, f)) (omega (arith, g)) texts)
words_one cluster (Beat m) (Beat n) f g e =
    let texts : decimal m ≡ decimal n = cc in
    ap Beat (decimal_injective m n (omega (arith, f)) (omega (arith, g)) texts)
words_one cluster (Crash m) (Crash n) f g e =
    let texts : decimal m ≡ decimal n = cc in
    ap Crash (decimal_injective m n (omega (arith, f)) (omega (arith, g)) texts)
words_one cluster (Deliver x) (Deliver y) f g e =
    let texts : decimal x ≡ decimal y = cc in
    ap Deliver (decimal_injective x y f g texts)
words_one cluster (Pull m i) (Pull n j) f g e =
    let replicas : m ≡ n = decimal_injective m n (omega (arith, f.0)) (omega (arith, g.0)) (cc) in
    let cores : i ≡ j = decimal_injective i j (omega (arith, f.1)) (omega (arith, g.1)) (cc) in
    cc
words_one cluster (Open m) (Open n) f g e =
    let texts : decimal m ≡ decimal n = cc in
    ap Open (decimal_injective m n (omega (arith, f)) (omega (arith, g)) texts)
words_one cluster (Bytes x bs) (Bytes y cs) f g e =
    let conns : x ≡ y = decimal_injective x y f.0 g.0 (cc) in
    let bytes : bs ≡ cs = hex_injective bs cs f.3 g.3 (cc) in
    cc
words_one cluster (Close x) (Close y) f g e =
    let texts : decimal x ≡ decimal y = cc in
    ap Close (decimal_injective x y f g texts)
words_one cluster (Session s) (Session t) f g e =
    let texts : decimal s ≡ decimal t = cc in
    ap Session (decimal_injective s t f g texts)
words_one cluster (Work s j) (Work t k) f g e =
    let sessions : s ≡ t = decimal_injective s t f.0 g.0 (cc) in
    let jobs : j ≡ k = jobs_one j k f.1 g.1 (ap (drop 2) e) in
    cc
words_one cluster (Up s i) (Up t j) f g e =
    let sessions : s ≡ t = decimal_injective s t f.0 g.0 (cc) in
    let counts : i ≡ j = decimal_injective i j f.1 g.1 (cc) in
    cc
words_one cluster (Down s i) (Down t j) f g e =
    let sessions : s ≡ t = decimal_injective s t f.0 g.0 (cc) in
    let counts : i ≡ j = decimal_injective i j f.1 g.1 (cc) in
    cc
words_one cluster (Pump s i) (Pump t j) f g e =
    let sessions : s ≡ t = decimal_injective s t f.0 g.0 (cc) in
    let limits : i ≡ j = limits_one i j f.1 g.1 (ap (drop 2) e) in
    cc
words_one cluster (Cut s) (Cut t) f g e =
    let texts : decimal s ≡ decimal t = cc in
    ap Cut (decimal_injective s t f g texts)
words_one cluster a b f g e = absurd (omega (arith, ap first_byte e))

-- a line says one event at most
pub says_one : (cluster : ℕ) (line : List ℕ) (a b : Event) → Says cluster line a → Says cluster line b → a ≡ b
says_one cluster line a b f g =
    words_one cluster a b f.0 g.0 (sym (says_words cluster line a f).1 ∙ (says_words cluster line b g).1)

setup_one : (words : List (List ℕ)) (a b : Setup) → AreSetup words a → AreSetup words b → a ≡ b
setup_one words a b f g =
    let e : setup_words a ≡ setup_words b = sym f.words_are ∙ g.words_are in
    let kinds : a.kind ≡ b.kind = f.kind ∙ sym g.kind in
    let limits : a.limit ≡ b.limit = f.limit ∙ sym g.limit in
    let cores : a.cores ≡ b.cores = decimal_injective a.cores b.cores (omega (arith, f.allowed.cores)) (omega (
      arith,
      g.allowed.cores,
    )) (cc) in
    let replicas : a.replicas ≡ b.replicas = decimal_injective a.replicas b.replicas (omega (arith, f.allowed.replicas)) (omega (
      arith,
      g.allowed.replicas,
    )) (cc) in
    let clusters : a.cluster ≡ b.cluster = decimal_injective a.cluster b.cluster f.allowed.id g.allowed.id (cc) in
    let waits : a.wait ≡ b.wait = decimal_injective a.wait b.wait (omega (arith, f.allowed.wait)) (omega (arith, g.allowed.wait)) (cc) in
    let made : Kind → ℕ → ℕ → ℕ → ℕ → ℕ → Setup = λ k c r i w l. record {
      kind = k;
      cores = c;
      replicas = r;
      cluster = i;
      wait = w;
      limit = l;
    } in
    let same : made a.kind a.cores a.replicas a.cluster a.wait a.limit ≡ made b.kind b.cores b.replicas b.cluster b.wait b.limit = cc in
    same

-- and one cluster at most
pub says_one_cluster : (line : List ℕ) (a b : Setup) → SaysCluster line a → SaysCluster line b → a ≡ b
says_one_cluster line a b f g = setup_one (words_between line) a b (says_words_cluster line a f) (says_words_cluster line b g)

-- why a line says nothing

-- a word that is no bookmark stands in no list of them
pub bad_bookmark : (cluster : ℕ) (ps qs : List Point) (w : List ℕ) (ws : List (List ℕ)) →
    ((b : Point) → ¬ (IsBookmark cluster w b)) → AreOf cluster qs → bookmark_words qs ≢ bookmark_words ps ++ w ∷ ws
bad_bookmark cluster [] [] w ws none f e = cc
bad_bookmark cluster [] (q ∷ qs) w ws none f e =
    let first = All-head (λ b. Fits b × (b.cluster ≡ cluster)) q qs f in
    none q (first.0, first.1, cc)
bad_bookmark cluster (p ∷ ps) [] w ws none f e = cc
bad_bookmark cluster (p ∷ ps) (q ∷ qs) w ws none f e =
    bad_bookmark cluster ps qs w ws none (All-tail (λ b. Fits b × (b.cluster ≡ cluster)) q qs f) (cc)

-- a line that begins with `time` can say nothing but a `time`, and so for each verb; and no bookmarks can stand behind it

pub not_right : (words : List (List ℕ)) → first_byte words ≢ 464 → first_byte words ≢ 437 → AreRightBut words → ⊥
not_right words put get r = go r.event r.words_are r.presents where
  go : (e : Event) → words ≡ words_of e ++ r.more → MayPresent e → ⊥
  go (Put member key value bs) w h = put (ap first_byte w)
  go (Get member key bs) w h = get (ap first_byte w)
  go e w h = h

time_none : (cluster : ℕ) (words : List (List ℕ)) → ((to : ℕ) → to < 2 ^ 64 → words ≢ decimal to ∷ []) → (e : Event) → AreWords cluster
    (codes "time" ∷ words) e → ⊥
time_none cluster words none (Time to) h = none to h.0 (ap (drop 1) h.1)
time_none cluster words none e h = omega (arith, ap first_byte h.1)

pub time_bad : (words : List (List ℕ)) → ((to : ℕ) → to < 2 ^ 64 → words ≢ decimal to ∷ []) → (cluster : ℕ) → AreBad cluster
    (codes "time" ∷ words) BadLine
time_bad words none cluster = record {
  none = time_none cluster words none;
  cause_is = not_right (codes "time" ∷ words) (λ e. omega (arith, e)) (λ e. omega (arith, e));
}

apply_none : (cluster : ℕ) (words : List (List ℕ)) → ((member count : ℕ) → member < 2 ^ 8 → 1 ≤ count → count < 2 ^ 64 →
    words ≢ decimal member ∷ decimal count ∷ []) → (e : Event) → AreWords cluster (codes "apply" ∷ words) e → ⊥
apply_none cluster words none (Apply member count) h = none member count h.0.0 h.0.1 h.0.2 (ap (drop 1) h.1)
apply_none cluster words none e h = omega (arith, ap first_byte h.1)

pub apply_bad : (words : List (List ℕ)) → ((member count : ℕ) → member < 2 ^ 8 → 1 ≤ count → count < 2 ^ 64 →
    words ≢ decimal member ∷ decimal count ∷ []) → (cluster : ℕ) → AreBad cluster (codes "apply" ∷ words) BadLine
apply_bad words none cluster = record {
  none = apply_none cluster words none;
  cause_is = not_right (codes "apply" ∷ words) (λ e. omega (arith, e)) (λ e. omega (arith, e));
}

open_none : (cluster : ℕ) (words : List (List ℕ)) → ((member : ℕ) → member < 2 ^ 8 → words ≢ decimal member ∷ []) → (e : Event) →
    AreWords cluster (codes "open" ∷ words) e → ⊥
open_none cluster words none (Open member) h = none member h.0 (ap (drop 1) h.1)
open_none cluster words none e h = omega (arith, ap first_byte h.1)

pub open_bad : (words : List (List ℕ)) → ((member : ℕ) → member < 2 ^ 8 → words ≢ decimal member ∷ []) → (cluster : ℕ) → AreBad cluster
    (codes "open" ∷ words) BadLine
open_bad words none cluster = record {
  none = open_none cluster words none;
  cause_is = not_right (codes "open" ∷ words) (λ e. omega (arith, e)) (λ e. omega (arith, e));
}

close_none : (cluster : ℕ) (words : List (List ℕ)) → ((conn : ℕ) → conn < 2 ^ 64 → words ≢ decimal conn ∷ []) → (e : Event) →
    AreWords cluster (codes "close" ∷ words) e → ⊥
close_none cluster words none (Close conn) h = none conn h.0 (ap (drop 1) h.1)
close_none cluster words none e h = omega (arith, ap first_byte h.1)

pub close_bad : (words : List (List ℕ)) → ((conn : ℕ) → conn < 2 ^ 64 → words ≢ decimal conn ∷ []) → (cluster : ℕ) → AreBad cluster
    (codes "close" ∷ words) BadLine
close_bad words none cluster = record {
  none = close_none cluster words none;
  cause_is = not_right (codes "close" ∷ words) (λ e. omega (arith, e)) (λ e. omega (arith, e));
}

bytes_none : (cluster : ℕ) (words : List (List ℕ)) → ((conn : ℕ) (bytes : List ℕ) → conn < 2 ^ 64 → 1 ≤ length bytes →
    length bytes ≤ 1_048_576 → All (λ b. b < 2 ^ 8) bytes → words ≢ decimal conn ∷ hex bytes ∷ []) → (e : Event) → AreWords cluster
    (codes "bytes" ∷ words) e → ⊥
bytes_none cluster words none (Bytes conn bytes) h = none conn bytes h.0.0 h.0.1 h.0.2 h.0.3 (ap (drop 1) h.1)
bytes_none cluster words none e h = omega (arith, ap first_byte h.1)

pub bytes_bad : (words : List (List ℕ)) → ((conn : ℕ) (bytes : List ℕ) → conn < 2 ^ 64 → 1 ≤ length bytes → length bytes ≤ 1_048_576 →
    All (λ b. b < 2 ^ 8) bytes → words ≢ decimal conn ∷ hex bytes ∷ []) → (cluster : ℕ) → AreBad cluster (codes "bytes" ∷ words) BadLine
bytes_bad words none cluster = record {
  none = bytes_none cluster words none;
  cause_is = not_right (codes "bytes" ∷ words) (λ e. omega (arith, e)) (λ e. omega (arith, e));
}

put_none : (cluster : ℕ) (words : List (List ℕ)) → ((member : ℕ) (key value : List ℕ) (bs : List Point) → member < 2 ^ 8 →
    is_word key ≡ true → is_word value ≡ true → AreOf cluster bs → words ≢ decimal member ∷ key ∷ value ∷ bookmark_words bs)
    → (e : Event) → AreWords cluster (codes "put" ∷ words) e → ⊥
put_none cluster words none (Put member key value bs) h = none member key value bs h.0.0 h.0.1 h.0.2 h.0.3 (ap (drop 1) h.1)
put_none cluster words none e h = omega (arith, ap first_byte h.1)

-- the words of a `put` and others behind it
record IsPutBut (words : List (List ℕ)) : Type 0 where
  member : ℕ
  key : List ℕ
  value : List ℕ
  more : List (List ℕ)
  member_fits : member < 2 ^ 8
  key_is : is_word key ≡ true
  value_is : is_word value ≡ true
  are_words : list_all is_bookmark_word more ≡ true
  words_are : words ≡ decimal member ∷ key ∷ value ∷ more

put_right : (words : List (List ℕ)) → AreRightBut (codes "put" ∷ words) → IsPutBut words
put_right words r = go r.event r.words_are r.presents r.spellable where
  go : (e : Event) → codes "put" ∷ words ≡ words_of e ++ r.more → MayPresent e → Spellable 0 e → IsPutBut words
  go (Put member key value bs) w h s = record {
    member = member;
    key = key;
    value = value;
    more = r.more;
    member_fits = s.0;
    key_is = s.1;
    value_is = s.2;
    are_words = r.are_words;
    words_are = ap (drop 1) w ∙ ap (λ l. (decimal member ∷ key ∷ value ∷ bookmark_words l) ++ r.more) h;
  }
  go (Get member key bs) w h s = absurd (omega (arith, ap first_byte w))
  go e w h s = absurd h

-- what stands in front of the bookmarks has another form
pub put_bad : (cluster : ℕ) (words : List (List ℕ)) → ((member : ℕ) (key value : List ℕ) (more : List (List ℕ)) → member < 2 ^ 8 →
    is_word key ≡ true → is_word value ≡ true → words ≢ decimal member ∷ key ∷ value ∷ more)
    → AreBad cluster (codes "put" ∷ words) BadLine
put_bad cluster words none = record {
  none = put_none cluster words (λ member key value bs f k v of. none member key value (bookmark_words bs) f k v);
  cause_is = λ right. let r = put_right words right in none r.member r.key r.value r.more r.member_fits r.key_is r.value_is r.words_are;
}

-- the bookmarks are none
pub put_no_bookmarks : (cluster : ℕ) (words : List (List ℕ)) (member : ℕ) (key value : List ℕ) (more : List (List ℕ)) (cause : Cause) →
    member < 2 ^ 8 → is_word key ≡ true → is_word value ≡ true → words ≡ decimal member ∷ key ∷ value ∷ more
    → AreNoBookmarks cluster more cause → AreBad cluster (codes "put" ∷ words) cause
put_no_bookmarks cluster words member key value more cause f k v w b = record {
  none = put_none cluster words (λ m x y bs g h i of e. b.none bs (of, ap (drop 3) (sym w ∙ e)));
  cause_is = go cause b.cause_is;
} where
  go : (d : Cause) → IsBookmarksCause more d → IsWordsCause (codes "put" ∷ words) d
  go BadBookmark h = record {
    event = Put member key value [];
    more = more;
    spellable = (f, k, v, All-nil (λ b. Fits b × (b.cluster ≡ 0)));
    presents = refl;
    are_words = h;
    words_are = ap (λ l. codes "put" ∷ l) w;
  }
  go BadLine h = λ right. let r = put_right words right in h (subst (λ l. list_all is_bookmark_word l ≡ true) (ap (drop 3)
      (sym r.words_are ∙ w)) r.are_words)
  go c.NoHeader h = absurd h
  go c.NoCluster h = absurd h
  go UnknownVerb h = absurd h
  go c.WrongWorld h = absurd h
  go c.NoMember h = absurd h
  go c.NoConn h = absurd h
  go c.NoMessage h = absurd h
  go c.NoSession h = absurd h
  go c.WrongRole h = absurd h
  go c.BackInTime h = absurd h
  go c.Busy h = absurd h

get_none : (cluster : ℕ) (words : List (List ℕ)) → ((member : ℕ) (key : List ℕ) (bs : List Point) → member < 2 ^ 8 → is_word key ≡ true
    → AreOf cluster bs → words ≢ decimal member ∷ key ∷ bookmark_words bs)
    → (e : Event) → AreWords cluster (codes "get" ∷ words) e → ⊥
get_none cluster words none (Get member key bs) h = none member key bs h.0.0 h.0.1 h.0.2 (ap (drop 1) h.1)
get_none cluster words none e h = omega (arith, ap first_byte h.1)

-- the words of a `get` and others behind it
record IsGetBut (words : List (List ℕ)) : Type 0 where
  member : ℕ
  key : List ℕ
  more : List (List ℕ)
  member_fits : member < 2 ^ 8
  key_is : is_word key ≡ true
  are_words : list_all is_bookmark_word more ≡ true
  words_are : words ≡ decimal member ∷ key ∷ more

get_right : (words : List (List ℕ)) → AreRightBut (codes "get" ∷ words) → IsGetBut words
get_right words r = go r.event r.words_are r.presents r.spellable where
  go : (e : Event) → codes "get" ∷ words ≡ words_of e ++ r.more → MayPresent e → Spellable 0 e → IsGetBut words
  go (Put member key value bs) w h s = absurd (omega (arith, ap first_byte w))
  go (Get member key bs) w h s = record {
    member = member;
    key = key;
    more = r.more;
    member_fits = s.0;
    key_is = s.1;
    are_words = r.are_words;
    words_are = ap (drop 1) w ∙ ap (λ l. (decimal member ∷ key ∷ bookmark_words l) ++ r.more) h;
  }
  go e w h s = absurd h

-- what stands in front of the bookmarks has another form
pub get_bad : (cluster : ℕ) (words : List (List ℕ)) → ((member : ℕ) (key : List ℕ) (more : List (List ℕ)) → member < 2 ^ 8 →
    is_word key ≡ true → words ≢ decimal member ∷ key ∷ more)
    → AreBad cluster (codes "get" ∷ words) BadLine
get_bad cluster words none = record {
  none = get_none cluster words (λ member key bs f k of. none member key (bookmark_words bs) f k);
  cause_is = λ right. let r = get_right words right in none r.member r.key r.more r.member_fits r.key_is r.words_are;
}

-- the bookmarks are none
pub get_no_bookmarks : (cluster : ℕ) (words : List (List ℕ)) (member : ℕ) (key : List ℕ) (more : List (List ℕ)) (cause : Cause) →
    member < 2 ^ 8 → is_word key ≡ true → words ≡ decimal member ∷ key ∷ more
    → AreNoBookmarks cluster more cause → AreBad cluster (codes "get" ∷ words) cause
get_no_bookmarks cluster words member key more cause f k w b = record {
  none = get_none cluster words (λ m x bs g h of e. b.none bs (of, ap (drop 2) (sym w ∙ e)));
  cause_is = go cause b.cause_is;
} where
  go : (d : Cause) → IsBookmarksCause more d → IsWordsCause (codes "get" ∷ words) d
  go BadBookmark h = record {
    event = Get member key [];
    more = more;
    spellable = (f, k, All-nil (λ b. Fits b × (b.cluster ≡ 0)));
    presents = refl;
    are_words = h;
    words_are = ap (λ l. codes "get" ∷ l) w;
  }
  go BadLine h = λ right. let r = get_right words right in h (subst (λ l. list_all is_bookmark_word l ≡ true) (ap (drop 2)
      (sym r.words_are ∙ w)) r.are_words)
  go c.NoHeader h = absurd h
  go c.NoCluster h = absurd h
  go UnknownVerb h = absurd h
  go c.WrongWorld h = absurd h
  go c.NoMember h = absurd h
  go c.NoConn h = absurd h
  go c.NoMessage h = absurd h
  go c.NoSession h = absurd h
  go c.WrongRole h = absurd h
  go c.BackInTime h = absurd h
  go c.Busy h = absurd h

cluster_none : (cluster : ℕ) (words : List (List ℕ)) (e : Event) → AreWords cluster (codes "cluster" ∷ words) e → ⊥
cluster_none cluster words (Time to) h = omega (arith, ap first_byte h.1)
cluster_none cluster words e h = omega (arith, ap first_byte h.1)

pub cluster_bad : (words : List (List ℕ)) (cluster : ℕ) → AreBad cluster (codes "cluster" ∷ words) BadLine
cluster_bad words cluster = record {
  none = cluster_none cluster words;
  cause_is = not_right (codes "cluster" ∷ words) (λ e. omega (arith, e)) (λ e. omega (arith, e));
}

pub setup_bad : (words : List (List ℕ)) → ((cores replicas cluster wait : ℕ) → 1 ≤ cores → cores ≤ 7 → replicas ≤ 16 →
    cluster < 2 ^ 64 → wait ≤ 86400000 → words ≢ decimal cores ∷ decimal replicas ∷ decimal cluster ∷ decimal wait ∷ []) →
    (s : Setup) → ¬ (AreSetup (codes "cluster" ∷ codes "list" ∷ words) s)
setup_bad words none s h = none s.cores s.replicas s.cluster s.wait h.allowed.cores.0 h.allowed.cores.1 h.allowed.replicas h.allowed.id
    h.allowed.wait (ap (drop 2) h.words_are)

-- other words behind `cluster` than `list`
pub kind_bad : (words : List (List ℕ)) → ((more : List (List ℕ)) → words ≢ codes "list" ∷ more) → (s : Setup)
    → ¬ (AreSetup (codes "cluster" ∷ words) s)
kind_bad words none s h =
    none (decimal s.cores ∷ decimal s.replicas ∷ decimal s.cluster ∷ decimal s.wait ∷ []) (ap (drop 1) h.words_are)

-- ---- between a refused line and its words

known_verb : (v : Verb) → is_verb (verb_word v) ≡ true
known_verb Verbs.Cluster = refl
known_verb Verbs.Time = refl
known_verb Verbs.Put = refl
known_verb Verbs.Get = refl
known_verb Verbs.Apply = refl
known_verb Verbs.Timeout = refl
known_verb Verbs.Beat = refl
known_verb Verbs.Deliver = refl
known_verb Verbs.Pull = refl
known_verb Verbs.Crash = refl
known_verb Verbs.Open = refl
known_verb Verbs.Bytes = refl
known_verb Verbs.Close = refl
known_verb Verbs.Session = refl
known_verb Verbs.Work = refl
known_verb Verbs.Up = refl
known_verb Verbs.Down = refl
known_verb Verbs.Pump = refl
known_verb Verbs.Cut = refl

pub is_known : (line : List ℕ) (v : Verb) → first_word line ≡ verb_word v → is_verb (first_word line) ≡ true
is_known line v e = ap is_verb e ∙ known_verb v

more_no_space : (ws : List (List ℕ)) → list_all is_bookmark_word ws ≡ true → AllByRecursion NoSpace ws
more_no_space [] h = tt
more_no_space (w ∷ ws) h =
    let parts = and_parts (is_bookmark_word w) (list_all is_bookmark_word ws) h in
    (bookmark_word_no_space w parts.0, more_no_space ws parts.1)

both_no_space : (xs ys : List (List ℕ)) → AllByRecursion NoSpace xs → AllByRecursion NoSpace ys → AllByRecursion NoSpace (xs ++ ys)
both_no_space [] ys f g = g
both_no_space (x ∷ xs) ys f g = (f.0, both_no_space xs ys f.1 g)

both_nonempty : (e : Event) (more : List (List ℕ)) → 0 < length (words_of e ++ more)
both_nonempty (Time to) more = omega arith
both_nonempty e more = omega arith

pub right_words : (line : List ℕ) → IsRightBut line → AreRightBut (words_between line)
right_words line r = record {
  event = r.event;
  more = r.words;
  spellable = r.spellable;
  presents = r.presents;
  are_words = r.are_words;
  words_are = ap words_between r.line_is ∙ words-join (words_of r.event ++ r.words)
      (both_no_space (words_of r.event) r.words (words_no_space 0 r.event r.spellable) (more_no_space r.words r.are_words))
      (both_nonempty r.event r.words);
}

pub words_right : (line : List ℕ) → AreRightBut (words_between line) → IsRightBut line
words_right line r = record {
  event = r.event;
  words = r.more;
  spellable = r.spellable;
  presents = r.presents;
  are_words = r.are_words;
  line_is = join-words line ∙ ap (join_with_byte 32) r.words_are;
}

-- a line whose words are those of no event
pub bad_line : (cluster : ℕ) (line : List ℕ) (cause : Cause) → is_verb (first_word line) ≡ true → AreBad cluster (words_between line) cause
    → SaysNone cluster line cause
bad_line cluster line cause known bad = record {
  none = λ e said. bad.none e (says_words cluster line e said);
  cause_is = go cause bad.cause_is;
} where
  go : (d : Cause) → IsWordsCause (words_between line) d → IsCause line d
  go BadBookmark h = words_right line h
  go BadLine h = (known, λ r. h (right_words line r))
  go c.NoHeader h = absurd h
  go c.NoCluster h = absurd h
  go UnknownVerb h = absurd h
  go c.WrongWorld h = absurd h
  go c.NoMember h = absurd h
  go c.NoConn h = absurd h
  go c.NoMessage h = absurd h
  go c.NoSession h = absurd h
  go c.WrongRole h = absurd h
  go c.BackInTime h = absurd h
  go c.Busy h = absurd h

-- the first word of an event's words is a verb
event_known : (e : Event) → is_verb (first_word_of (words_of e)) ≡ true
event_known (Time to) = refl
event_known e = refl

first_of_both : (e : Event) (more : List (List ℕ)) → first_word_of (words_of e ++ more) ≡ first_word_of (words_of e)
first_of_both (Time to) more = refl
first_of_both e more = refl

pub right_known : (line : List ℕ) → first_word line ≡ first_word_of (words_between line) → IsRightBut line → is_verb
    (first_word line) ≡ true
right_known line first r =
    let w = right_words line r in
    ap is_verb (first ∙ (ap first_word_of w.words_are ∙ first_of_both w.event w.more)) ∙ event_known w.event

-- a line whose first word is no verb
pub unknown_none : (cluster : ℕ) (line : List ℕ) → first_word line ≡ first_word_of (words_between line) → is_verb (first_word line) ≡ false
    → SaysNone cluster line UnknownVerb
unknown_none cluster line first unknown = record {
  none = λ e said.
      let known = ap is_verb (first ∙ ap first_word_of (says_words cluster line e said).1) ∙ event_known e in
      true≢false (sym known ∙ unknown);
  cause_is = unknown;
} where
  true≢false : true ≡ false → ⊥
  true≢false e = cc

-- the first word of a line is the first of its words
pub first_of_line : (line : List ℕ) → first_word line ≡ first_word_of (words_between line)
first_of_line line = elim (cases_lt (position_or_len (λ b. b == 32) line) (length line)) [
  | inl within ↦ sym (ap first_word_of (slice_split_first (λ b. b == 32) line 0 within))
  | inr past ↦ take_all (position_or_len (λ b. b == 32) line) line past
      ∙ sym (ap first_word_of (slice_split_none (λ b. b == 32) line (no_space_before line past)))
]

pub cluster_first : (line : List ℕ) (s : Setup) → SaysCluster line s → first_word line ≡ codes "cluster"
cluster_first line s says = first_of_line line ∙ ap first_word_of (says_words_cluster line s says).words_are

-- ---- words that are no bookmarks

all_words : (bs : List Point) → list_all is_bookmark_word (bookmark_words bs) ≡ true
all_words [] = refl
all_words (b ∷ bs) = both (is_bookmark_word (text_of b)) (list_all is_bookmark_word (bookmark_words bs)) (text_is_word b)
    (all_words bs) where
      both : (x y : Bool) → x ≡ true → y ≡ true → (x && y) ≡ true
      both x y e f = cc

-- the cause of an error
pub cause_is : {T : Type 0} (a b : Cause) → IsErrOf {T = T} (Err (LineErrors.Cause a)) (LineErrors.Cause b) → a ≡ b
cause_is a b h = cc

pub no_words : (cluster : ℕ) (words : List (List ℕ)) (cause : Cause) → list_all is_bookmark_word words ≡ false → BadLine ≡ cause
    → AreNoBookmarks cluster words cause
no_words cluster words cause h e = subst (AreNoBookmarks cluster words) e (record {
  none = λ bs are. differ (list_all is_bookmark_word words) (ap (list_all is_bookmark_word) are.1 ∙ all_words bs) h;
  cause_is = λ all. differ (list_all is_bookmark_word words) all h;
}) where
  differ : (x : Bool) → x ≡ true → x ≡ false → ⊥
  differ x e f = cc

-- ---- the cluster line

pub cluster_says : (line verb : List ℕ) (words : List (List ℕ)) (s : Setup) → words_between line ≡ verb ∷ words → verb ≡ codes "cluster"
    → AreSetup (codes "cluster" ∷ words) s → SaysCluster line s
cluster_says line verb words s e f are =
    words_say_cluster line s (subst (λ l. AreSetup l s) (sym (e ∙ ap (λ w. w ∷ words) f)) are)

pub cluster_none_says : (line verb : List ℕ) (words : List (List ℕ)) (cause : Cause) → words_between line ≡ verb ∷ words
    → verb ≡ first_word line → verb ≡ codes "cluster" → ((s : Setup) → AreSetup (codes "cluster" ∷ words) s → ⊥)
    → IsErrOf {T = Setup} (Err BadLine) cause → IsNoCluster line cause
cluster_none_says line verb words cause e f g none h =
    subst (IsNoCluster line) (same h) (
      sym f ∙ g,
      λ s says. none s (subst (λ l. AreSetup l s) (e ∙ ap (λ w. w ∷ words) g) (says_words_cluster line s says)),
    ) where
      same : IsErrOf {T = Setup} (Err BadLine) cause → BadLine ≡ cause
      same h = cc

-- ---- an event's words

pub none_bad : (cluster : ℕ) (words : List (List ℕ)) (o : Option Event) (r : Result Event LineError) (cause : Cause)
    → r ≡ ok_or o (LineErrors.Cause BadLine) → IfNone o ((k : ℕ) → AreBad k words BadLine) → IsErrOf r (LineErrors.Cause cause)
    → AreBad cluster words cause
none_bad cluster words None r cause e none h =
    let same : BadLine ≡ cause = cause_is {T = Event} BadLine cause (sym e ∙ h) in
    subst (AreBad cluster words) same (none cluster)
none_bad cluster words (Some x) r cause e none h = absurd (differ (sym e ∙ h)) where
  differ : {E : Type 0} {y : E} → Ok x ≡ Err y → ⊥
  differ e = cc

pub bytes_front : (words rest more : List (List ℕ)) (conn : ℕ) (word : List ℕ) → words ≡ decimal conn ∷ rest → rest ≡ word ∷ more
    → ((bytes : List ℕ) → 1 ≤ length bytes → length bytes ≤ 1_048_576 → word ≡ hex bytes → more ≡ [] → ⊥) → (cluster : ℕ)
    → AreBad cluster (codes "bytes" ∷ words) BadLine
bytes_front words rest more conn word e f none =
    bytes_bad words (λ c bytes fits some few are is.
    let back : rest ≡ hex bytes ∷ [] = ap (drop 1) (sym e ∙ is) in
    let both : word ∷ more ≡ hex bytes ∷ [] = sym f ∙ back in
    none bytes some few (ap first_word_of both) (ap (drop 1) both))

-- One input, and where a session rests.
use Rattle.std.proofs.Common.{◌≡◌, inl, inr, ℕ, Bool, true, false, not, Some, None, List, [], ◌∷◌, ◌++◌, length, refl, sym, ap, ◌∙◌}
use Rattle.std.proofs.Common.{append_assoc, append-nil, subst}
use Rattle.std.specs.Prelude.{Result, Ok, Err, OnErr}
use Rattle.ncc_stream.specs.Stream.{behind, still, going}
use Rattle.ncc_stream.proofs.Going.{going_none, going_some, behind_twice}
use Rattle.ncc_chunk.specs.Inflow.{Inflow, Stands as StandsFor}
use Rattle.ncc_session.specs.declared.config.ConnConfig.{ConnConfig}
use Rattle.ncc_session.specs.declared.state.ConnState.{ConnState}
use Rattle.ncc_session.specs.declared.state.ConnState.TheVariants.{Ended}
use Rattle.ncc_session.specs.declared.ask.Fact.{Fact}
use Rattle.ncc_session.specs.Question.{Output, wrote, asked, bytes_of}
use Rattle.ncc_session.specs.Core.{Doing, idle, opened, asks, Situation}
use Rattle.ncc_session.specs.Turns.{Turned}
use Rattle.ncc_session.specs.Session.{Input, Standing, on_live, on_input, turned, reads, acts, goes_by, move, is_ended}
use Rattle.ncc_session.specs.Took.{Took}
use Rattle.ncc_session.specs.Talk.{inputs_behind}
use Rattle.ncc_session.specs.Steps.{may_go, may_read, Went, IsStill, Gone, Begun, Nexts, SettleBreaks}
use Rattle.ncc_session.proofs.Lawful.{lawful}

-- the bytes of two lists of outputs are those of both
pub bytes_join : (a b : List Output) → bytes_of (a ++ b) ≡ bytes_of a ++ bytes_of b
bytes_join [] b = refl
bytes_join (wrote x ∷ a) b = ap (λ (v : List ℕ). x ++ v) (bytes_join a b) ∙ sym (append_assoc x (bytes_of a) (bytes_of b))
bytes_join (asked q ∷ a) b = bytes_join a b

-- what was written before, and behind it
pub out_join : (o a b c : List ℕ) (v w : List Output) → b ≡ o ++ bytes_of v → c ≡ b ++ bytes_of w → c ≡ o ++ bytes_of (v ++ w)
out_join o a b c v w d e =
    e ∙ ap (λ (x : List ℕ). x ++ bytes_of w) d ∙ append_assoc o (bytes_of v) (bytes_of w)
    ∙ ap (λ (x : List ℕ). o ++ x) (sym (bytes_join v w))

reads_by : (config : ConnConfig) (p : Situation) (s : ConnState) (i : Input) (is : List Input) (fs : List Fact) → is_ended s ≡ false
    → turned (on_input config p s i) is fs ≡ turned (on_live config p i) is fs
reads_by config p (Ended stop) i is fs e = absurd (cc)
reads_by config p _ i is fs e = refl

acts_by : (config : ConnConfig) (p : Situation) (d : Doing) (b : Bool) (i : Input) (is : List Input) (fs : List Fact) → may_go d b ≡ true
    → (acts config p d (i ∷ is) fs ≡ reads config p (i ∷ is) fs) × (b ≡ true)
acts_by config p (asks q n) b i is fs e = absurd (cc)
acts_by config p idle b i is fs e = (refl, e)
acts_by config p (opened tx) b i is fs e = (refl, e)

not_not : (b : Bool) → not b ≡ true → b ≡ false
not_not true e = absurd (cc)
not_not false e = refl

goes_live : (config : ConnConfig) (p : Situation) (s : ConnState) (is : List Input) (fs : List Fact) → is_ended s ≡ false
    → goes_by config p s is fs ≡ acts config p p.doing is fs
goes_live config p (Ended stop) is fs e = absurd (cc)
goes_live config p _ is fs e = refl

-- where it may, a session takes the next input
pub reads_live : (config : ConnConfig) (p : Situation) (i : Input) (is : List Input) → may_read p ≡ true
    → move config p (i ∷ is) [] ≡ turned (on_live config p i) is []
unfolding move
reads_live config p i is e =
    let a = acts_by config p p.doing (not (is_ended p.state)) i is [] e in
    let live : is_ended p.state ≡ false = not_not (is_ended p.state) a.1 in
    goes_live config p p.state (i ∷ is) [] live ∙ a.0 ∙ reads_by config p p.state i is [] live

no_acts : (config : ConnConfig) (p : Situation) (d : Doing) → acts config p d [] [] ≡ None
no_acts config p (asks q n) = refl
no_acts config p idle = refl
no_acts config p (opened tx) = refl

no_goes : (config : ConnConfig) (p : Situation) (s : ConnState) → goes_by config p s [] [] ≡ None
no_goes config p (Ended stop) = refl
no_goes config p _ = no_acts config p p.doing

-- no input is no move
pub no_move : (config : ConnConfig) (p : Situation) → move config p [] [] ≡ None
unfolding move
no_move config p = no_goes config p p.state

pub stays : (config : ConnConfig) (p : Situation) → going (move config) p [] [] ≡ still p [] []
stays config p = going_none (move config) (lawful config) p [] [] (no_move config p)

ended_move : (config : ConnConfig) (p : Situation) (s : ConnState) (i : Input) (is : List Input) (fs : List Fact) → is_ended s ≡ true
    → goes_by config p s (i ∷ is) fs ≡ turned (on_input config p p.state i) is fs
ended_move config p (Ended stop) i is fs e = refl
ended_move config p _ i is fs e = absurd (cc)

ended_drop : (config : ConnConfig) (p : Situation) (s : ConnState) (i : Input) → is_ended s ≡ true
    → on_input config p s i ≡ record { place = p; written = [] }
ended_drop config p (Ended stop) i e = refl
ended_drop config p _ i e = absurd (cc)

drops_one : (config : ConnConfig) (p : Situation) (i : Input) (is : List Input) → is_ended p.state ≡ true
    → move config p (i ∷ is) [] ≡ Some (still p is [])
unfolding move
drops_one config p i is e =
    ended_move config p p.state i is [] e ∙ ap (λ (t : Turned). turned t is []) (ended_drop config p p.state i e)

-- after the end all is dropped
pub drops_all : (config : ConnConfig) (p : Situation) (is : List Input) → is_ended p.state ≡ true
    → going (move config) p is [] ≡ still p [] []
drops_all config p [] e = stays config p
drops_all config p (i ∷ is) e =
    going_some (move config) (lawful config) p (i ∷ is) [] (still p is []) (drops_one config p i is e)
    ∙ ap (behind []) (drops_all config p is e)

asks_wait : (config : ConnConfig) (p : Situation) (d : Doing) (is : List Input) → may_go d true ≡ false → acts config p d is [] ≡ None
asks_wait config p (asks q n) is e = refl
asks_wait config p idle is e = absurd (cc)
asks_wait config p (opened tx) is e = absurd (cc)

waits_by : (config : ConnConfig) (p : Situation) (is : List Input) → is_ended p.state ≡ false → may_go p.doing true ≡ false
    → move config p is [] ≡ None
unfolding move
waits_by config p is live e = goes_live config p p.state is [] live ∙ asks_wait config p p.doing is e

-- where nothing is left to do the session stands still: after the end nothing is left, and else what was left
pub record Rests (config : ConnConfig) (p : Situation) (left kept : List Input) : Type 0 where
  pub same : going (move config) p left [] ≡ still p kept []
  pub none : is_ended p.state ≡ true → kept ≡ []
  pub all : is_ended p.state ≡ false → kept ≡ left

pub rests_at : (config : ConnConfig) (p : Situation) (left : List Input) (b : Bool) → is_ended p.state ≡ b → IsStill p left
    → (kept : List Input) × Rests config p left kept
rests_at config p left true e h =
    ([], record { same = drops_all config p left e; none = λ _. refl; all = λ f. absurd (let g = e in cc) })
rests_at config p left false e (inr none) = (
  [],
  record {
    same = ap (λ (is : List Input). going (move config) p is []) none ∙ stays config p;
    none = λ f. refl;
    all = λ f. sym none;
  },
)
rests_at config p left false e (inl waits) =
    let w : may_go p.doing true ≡ false = ap (λ b. may_go p.doing (not b)) (sym e) ∙ waits in (
      left,
      record {
        same = going_none (move config) (lawful config) p left [] (waits_by config p left e w);
        none = λ f. absurd (let g = e in cc);
        all = λ f. refl;
      },
    )

-- ---- one step and the next

pub went_not : (config : ConnConfig) (p : Situation) (is : List Input) (o : List ℕ) → Went config p is o p is o
went_not config p is o = record { written = []; same = refl; out_is = sym (append-nil o) }

pub went_on : (config : ConnConfig) (p q r : Situation) (is js ks : List Input) (a b c : List ℕ) → Went config p is a q js b
    → Went config q js b r ks c → Went config p is a r ks c
went_on config p q r is js ks a b c v w = record {
  written = v.written ++ w.written;
  same = v.same ∙ ap (behind v.written) w.same ∙ behind_twice v.written w.written (going (move config) r ks []);
  out_is = out_join a a b c v.written w.written v.out_is w.out_is;
}

-- a turn that was made of the next input
pub went_by : (config : ConnConfig) (p q : Situation) (i : Input) (is : List Input) (a b : List ℕ) → may_read p ≡ true
    → Took (on_live config p i) a q b → Went config p (i ∷ is) a q is b
went_by config p q i is a b e t =
    let u = on_live config p i in
    record {
      written = u.written;
      same = going_some (move config) (lawful config) p (i ∷ is) [] (record { core = u.place; items = is; facts = []; written = u.written })
          (reads_live config p i is e)
          ∙ ap (λ (x : Situation). behind u.written (going (move config) x is [])) (sym t.place_is);
      out_is = t.out_is;
    }

pub gone_not : (config : ConnConfig) (p : Situation) (d : Inflow) (o stream : List ℕ) (handed : List (List ℕ)) → StandsFor d stream handed
    → Gone config p o p d o stream handed true
gone_not config p d o stream handed k = record {
  later = handed;
  stands = k;
  went = went_not config p (inputs_behind stream (length handed)) o;
  still = λ e. absurd (cc);
}

pub gone_on : (config : ConnConfig) (p q r : Situation) (d e : Inflow) (a b c stream : List ℕ) (handed : List (List ℕ)) (more last : Bool)
    → (g : Gone config p a q d b stream handed more) → Gone config q b r e c stream g.later last → Gone config p a r e c stream handed last
gone_on config p q r d e a b c stream handed more last g h = record {
  later = h.later;
  stands = h.stands;
  went = went_on config p q r (inputs_behind stream (length handed)) (inputs_behind stream (length g.later))
      (inputs_behind stream (length h.later)) a b c g.went h.went;
  still = h.still;
}

-- nothing more to do, since a question waits or the end came
pub gone_still : (config : ConnConfig) (p q : Situation) (d : Inflow) (a b stream : List ℕ) (handed : List (List ℕ)) (more : Bool)
    → Gone config p a q d b stream handed more → may_read q ≡ false → Gone config p a q d b stream handed false
gone_still config p q d a b stream handed more g e =
    record { later = g.later; stands = g.stands; went = g.went; still = λ _. inl e }

-- what was written before memory was wanting
pub begun_by : (config : ConnConfig) (p q : Situation) (is js : List Input) (a b : List ℕ) → Went config p is a q js b → Begun config p is a b
begun_by config p q is js a b w = record {
  front = w.written;
  rest = (going (move config) q js []).written;
  begins = ap (λ (s : Standing). s.written) w.same;
  out_is = w.out_is;
}

-- ---- the same for each stream

pub nexts_not : (config : ConnConfig) (p : Situation) (d : Inflow) (a : List ℕ) → Nexts config p d a p d a true
nexts_not config p d a stream handed k = gone_not config p d a stream handed k

pub nexts_on : (config : ConnConfig) (p q r : Situation) (d e f : Inflow) (a b c : List ℕ) (last more : Bool) → Nexts config p d a q e b true
    → Nexts config q e b r f c last → last ≡ more → Nexts config p d a r f c more
nexts_on config p q r d e f a b c last more v w same stream handed k =
    let g = v stream handed k in
    subst (λ (m : Bool). Gone config p a r f c stream handed m) same
    (gone_on config p q r e f a b c stream handed true last g (w stream g.later g.stands))

pub nexts_still : (config : ConnConfig) (p q : Situation) (d e : Inflow) (a b : List ℕ) → Nexts config p d a q e b true → may_read q ≡ false
    → Nexts config p d a q e b false
nexts_still config p q d e a b v h stream handed k = gone_still config p q e a b stream handed true (v stream handed k) h

pub nexts_broke : (config : ConnConfig) (p q : Situation) (d e : Inflow) (a b c : List ℕ) → Nexts config p d a q e b true → c ≡ b
    → SettleBreaks config p d a c
nexts_broke config p q d e a b c v same stream handed k =
    let g = v stream handed k in
    subst (λ (o : List ℕ). Begun config p (inputs_behind stream (length handed)) a o) (sym same)
    (begun_by config p q (inputs_behind stream (length handed)) (inputs_behind stream (length g.later)) a b g.went)

-- what is said of a call that fails
pub on_err : {T E : Type 0} (r : Result T E) (P : Type 0) → P → OnErr r P
on_err (Ok x) P h = tt
on_err (Err x) P h = h

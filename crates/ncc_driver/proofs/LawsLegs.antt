-- What is sent on a link, what is done behind an end, and what a success rests on.
use Rattle.std.proofs.Common.{◌≡◌, ℕ, true, false, List, [], ◌∷◌, ◌++◌, Ok, refl, sym, ap, ◌∙◌, subst}
use Rattle.std.specs.Prelude.{IsTrue}
use Rattle.std.proofs.lemmas.List.{append_cancel_left}
use Rattle.ncc_pack.specs.declared.value.Value.{Value}
use Rattle.ncc_driver.specs.declared.config.SessionConfig.{SessionConfig}
use Rattle.ncc_driver.specs.declared.action.Action.{Action}
use Rattle.ncc_driver.specs.declared.action.Action.TheVariants.{Connect, Send, Close, Sleep, Receive, Finish}
use Rattle.ncc_driver.specs.declared.action.WorkDone.{WorkDone}
use Rattle.ncc_driver.specs.Work.{Job}
use Rattle.ncc_driver.specs.Session.{Ran, Begun, session, begins, told_all}
use Rattle.ncc_driver.specs.LawsLegs.{IsLeg, DoneIn, presented_behind, sends, opens_none, IsCommitted}
use Rattle.ncc_driver.specs.LawsLegs.{SendsByLegs, SendsOnLinks, SendsByLegsSince, EndsLast, CommitsByAnswer}
use Rattle.ncc_driver.specs.LawsFits.{SendsWhatFits, SendsWhatFitsToBytes, JobFits, AllFit, IsFitLeg, ToldBytes}
use Rattle.std.specs.Prelude.{nat_le, length, ◌≤◌}
use Rattle.std.proofs.Common.{arith}
use Rattle.std.specs.List.{AllByRecursion}
use Rattle.ncc_pack.specs.declared.value.Value.TheVariants as v
use Rattle.ncc_pack.specs.Fits.{fits}
use Rattle.ncc_driver.specs.Config.{config_fits, auth_fits, texts_fit}
use Rattle.ncc_driver.specs.Spelling.{literal_alone}
use Rattle.ncc_driver.proofs.Kept.{right as second}
use Rattle.ncc_driver.proofs.LawsBytes.{ConnectsFit, session_fine, work_fine}
use Rattle.ncc_driver.proofs.Talking.{session_last}
use Rattle.ncc_driver.proofs.LawsPresenting.{keeps_last}
use Rattle.ncc_driver.proofs.LegsTraced.{Sound, silent, Trace, traced, traced_all, sent_is, leg_is}
use Rattle.ncc_driver.proofs.LegsTurns.{IsSent, At, Along}
use Rattle.ncc_driver.proofs.LegsHeard.{Committed, told_goes, not_both}

-- a work that was begun, and has sent nothing
abbrev fresh : Trace
fresh = record { address = []; sent = []; joined = false; over = false }

begun_at : (config : SessionConfig) (works : List Begun) (work : Begun) (now : ℕ)
    → At config (presented_behind config works) work.job fresh (begins now (session config works).state).place
unfolding begins
begun_at config works work now = record {
  leg = silent config.auth [] (presented_behind config works) work.job;
  over = refl;
  given_is = keeps_last config works;
}

-- of a work behind earlier ones: what a success in it rests on
abbrev Cause : SessionConfig → List Begun → Begun → Trace → WorkDone → Type 0
Cause config works work = Committed config (presented_behind config works) work.job (session config (works ++ work ∷ [])).state.came

abbrev WorkGoes : SessionConfig → List Begun → Begun → Trace → List Action → Type 0
WorkGoes config works work t actions = Along config (presented_behind config works) work.job (Cause config works work) t actions

done_is : (config : SessionConfig) (works : List Begun) (work : Begun) (done : List Action) → DoneIn config works work done
    → (told_all config work.job (begins work.began (session config works).state) work.inputs).actions ≡ done
done_is config works work done d =
    let s = session config works in
    let r = told_all config work.job (begins work.began s.state) work.inputs in
    append_cancel_left s.actions r.actions done (sym (ap (λ (x : Ran). x.actions) (session_last config works work)) ∙ d)

work_goes : (config : SessionConfig) (works : List Begun) (work : Begun) (done : List Action) → DoneIn config works work done
    → WorkGoes config works work fresh done
work_goes config works work done d =
    let given = presented_behind config works in
    let s = session config works in
    let r = told_all config work.job (begins work.began s.state) work.inputs in
    let e = session_last config works work in
    let g = told_goes config given work.job fresh (begins work.began s.state) work.inputs (begun_at config works work work.began) in
    subst (λ (x : List Action). WorkGoes config works work fresh x) (done_is config works work done d)
    (subst (λ (x : Ran). Along config given work.job (Committed config given work.job x.state.came) fresh r.actions) (sym e) g.along)

module _ (config : SessionConfig) (given : List Value) (job : Job) (C : Trace → WorkDone → Type 0) where
  along_front : (t : Trace) (xs ys : List Action) → Along config given job C t (xs ++ ys) → IsSent config given job (traced_all t xs)
  along_front t [] [] h = h
  along_front t [] (y ∷ ys) h = h.0
  along_front t (x ∷ xs) ys h = along_front (traced t x) xs ys h.3

  along_back : (t : Trace) (xs ys : List Action) → Along config given job C t (xs ++ ys) → Along config given job C (traced_all t xs) ys
  along_back t [] ys h = h
  along_back t (x ∷ xs) ys h = along_back (traced t x) xs ys h.3

  ended : (t : Trace) (ys : List Action) → t.over ≡ true → Along config given job C t ys → ys ≡ []
  ended t [] o h = refl
  ended t (y ∷ ys) o h = absurd (not_both (sym o ∙ h.1))

  unjoined : (t : Trace) (xs ys : List Action) → t.joined ≡ false → IsTrue (opens_none xs) → Along config given job C t (xs ++ ys)
      → sends xs ≡ []
  unjoined t [] ys j n h = refl
  unjoined t (Connect address ∷ xs) ys j n h = absurd (cc)
  unjoined t (Send bytes ∷ xs) ys j n h = absurd (not_both (sym h.2 ∙ j))
  unjoined t (Close ∷ xs) ys j n h = unjoined t xs ys j n h.3
  unjoined t (Sleep until ∷ xs) ys j n h = unjoined t xs ys j n h.3
  unjoined t (Receive ∷ xs) ys j n h = unjoined t xs ys j n h.3
  unjoined t (Finish end ∷ xs) ys j n h = unjoined (traced t (Finish end)) xs ys j n h.3

leg_behind : (config : SessionConfig) (works : List Begun) (work : Begun) (front : List Action) (address : List ℕ) (leg back : List Action)
    → DoneIn config works work (front ++ Connect address ∷ leg ++ back) → IsTrue (opens_none leg)
    → Sound config.auth address (presented_behind config works) work.job (sends leg)
leg_behind config works work front address leg back d n =
    let given = presented_behind config works in
    let u = traced_all fresh (front ++ Connect address ∷ leg) in
    let h = along_front config given work.job (Cause config works work) fresh (front ++ Connect address ∷ leg) back
    (work_goes config works work _ d) in
    let e = leg_is fresh front leg address n in
    subst (λ (x : List ℕ). Sound config.auth x given work.job (sends leg)) e.1
    (subst (λ (x : List (List ℕ)). Sound config.auth u.address given work.job x) e.0 h)

pub sends_by_legs : SendsByLegs
sends_by_legs config works work front address leg back d n = (leg_behind config works work front address leg back d n).leg

pub sends_what_fits : SendsWhatFits
sends_what_fits config works work front address leg back d n all = (leg_behind config works work front address leg back d n).fit all

pub sends_on_links : SendsOnLinks
sends_on_links config works work front back d n =
    unjoined config (presented_behind config works) work.job (Cause config works work) fresh front back refl n
    (work_goes config works work (front ++ back) d)

pub sends_by_legs_since : SendsByLegsSince
sends_by_legs_since config works work front back d =
    let given = presented_behind config works in
    let u = traced_all fresh front in
    let h = along_front config given work.job (Cause config works work) fresh front back (work_goes config works work (front ++ back) d) in
    (u.address, subst (λ (x : List (List ℕ)). IsLeg config.auth u.address given work.job x) (sent_is fresh front) h.leg)

-- ---- what is sent where bytes came

empty_fits : fits (v.Text []) ≡ true
empty_fits = literal_alone [] refl

address_fits : (t : Trace) (xs ys : List Action) → ConnectsFit (xs ++ ys) → fits (v.Text t.address) ≡ true
    → fits (v.Text (traced_all t xs).address) ≡ true
address_fits t [] ys c h = h
address_fits t (Connect address ∷ xs) ys c h = address_fits (traced t (Connect address)) xs ys c.1 c.0
address_fits t (Send bytes ∷ xs) ys c h = address_fits (traced t (Send bytes)) xs ys c h
address_fits t (Close ∷ xs) ys c h = address_fits t xs ys c h
address_fits t (Sleep until ∷ xs) ys c h = address_fits t xs ys c h
address_fits t (Receive ∷ xs) ys c h = address_fits t xs ys c h
address_fits t (Finish end ∷ xs) ys c h = address_fits (traced t (Finish end)) xs ys c h

told_front : (works : List Begun) (work : Begun) → AllByRecursion ToldBytes (works ++ work ∷ [])
    → AllByRecursion ToldBytes works × ToldBytes work
told_front [] work h = (tt, h.0)
told_front (w ∷ works) work h = let more = told_front works work h.1 in ((h.0, more.0), more.1)

few_are : (n : ℕ) → nat_le n 256 ≡ true → n ≤ 256
few_are n h = grind arith

work_connects : (config : SessionConfig) (works : List Begun) (work : Begun) (done : List Action) → config_fits config ≡ true
    → AllByRecursion ToldBytes (works ++ work ∷ []) → DoneIn config works work done → ConnectsFit done
work_connects config works work done allowed b d =
    let told = told_front works work b in
    let s = session config works in
    let before = session_fine config allowed works told.0 in
    let r = told_all config work.job (begins work.began s.state) work.inputs in
    let g = work_fine config allowed s.state work before.fine.kept before.came told.1 in
    subst ConnectsFit (done_is config works work done d) g.fine.connects

all_fit : (config : SessionConfig) (works : List Begun) (work : Begun) (address : List ℕ) → config_fits config ≡ true → JobFits work.job
    → AllByRecursion ToldBytes (works ++ work ∷ []) → fits (v.Text address) ≡ true
    → AllFit config.auth address (presented_behind config works) work.job
all_fit config works work address allowed job b f =
    let k = (session_fine config allowed works (told_front works work b).0).fine.kept in
    record {
      auth_is = second _ (auth_fits config.auth) allowed;
      address_is = f;
      bookmarks_are = subst (λ (x : List Value). texts_fit x ≡ true) (keeps_last config works) k.bookmarks;
      few = few_are (length (presented_behind config works))
          (subst (λ (x : List Value). nat_le (length x) 256 ≡ true) (keeps_last config works) k.few);
      steps_are = job;
    }

pub sends_what_fits_to_bytes : SendsWhatFitsToBytes
sends_what_fits_to_bytes config works work front back allowed job b d =
    let given = presented_behind config works in
    let u = traced_all fresh front in
    let h = along_front config given work.job (Cause config works work) fresh front back (work_goes config works work (front ++ back) d) in
    let f = address_fits fresh front back (work_connects config works work (front ++ back) allowed b d) empty_fits in (
      u.address,
      subst (λ (x : List (List ℕ)). IsFitLeg config.auth u.address given work.job x) (sent_is fresh front)
          (h.fit (all_fit config works work u.address allowed job b f)),
    )

pub ends_last : EndsLast
ends_last config works work front end back d =
    let given = presented_behind config works in
    let u = traced_all fresh front in
    let h = along_back config given work.job (Cause config works work) fresh front (Finish end ∷ back)
    (work_goes config works work (front ++ Finish end ∷ back) d) in
    ended config given work.job (Cause config works work) (traced u (Finish end)) back refl h.3

pub commits_by_answer : CommitsByAnswer
commits_by_answer config works work front done back d =
    let given = presented_behind config works in
    let u = traced_all fresh front in
    let h = along_back config given work.job (Cause config works work) fresh front (Finish (Ok done) ∷ back)
    (work_goes config works work (front ++ Finish (Ok done) ∷ back) d) in
    subst (λ (x : List (List ℕ)). IsCommitted config given work.job x (session config (works ++ work ∷ [])).state.came done)
    (sent_is fresh front) h.2

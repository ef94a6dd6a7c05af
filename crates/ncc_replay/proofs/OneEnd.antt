-- Each text ends in one way.
use Rattle.std.proofs.Common.{◌≡◌, ◌≢◌, ℕ, ◌+◌, ◌⊎◌, List, [], ◌∷◌, Option, None, Some, Bool, true, false}
use Rattle.std.proofs.Common.{refl, ap, sym, ◌∙◌, subst}
use Rattle.std.proofs.Common.{arith, inl, inr, codes}
use Rattle.ncc_world.specs.declared.setup.Setup.{Setup}
use Rattle.ncc_world.specs.declared.event.Event.{Event}
use Rattle.ncc_world.specs.Happening.{WorldRun, start_of, refusal, Happens, RunsOn}
use Rattle.ncc_clients.specs.Reads.{SessionsReadTheirWrites}
use Rattle.ncc_world.specs.Headline.{EveryRunKeeps, Headline, OneRun, AllMayHappen}
use Rattle.ncc_world.specs.Setting.{IsSetup}
use Rattle.ncc_replay.specs.Line.{SaysNone, SaysCluster, IsCause, IsRightBut, first_word, is_verb, is_skipped}
use Rattle.ncc_replay.specs.Script.{Script, End, refused, Lines, IsRefusedFor, EventLines}
use Rattle.ncc_replay.specs.Script.{ClusterLines, ScriptLines}
use Rattle.ncc_replay.specs.Script.{IsNoCluster, is_long, cause_of, numbered, IsText, OneEnd}
use Rattle.ncc_replay.specs.declared.status.Cause.{Cause}
use Rattle.ncc_replay.specs.declared.status.Cause.TheVariants as c
use Rattle.ncc_replay.specs.declared.status.Cause.TheVariants.{BadLine, BadBookmark, UnknownVerb, NoCluster}
use Rattle.ncc_replay.proofs.Lines.{says_one, says_one_cluster, right_known}
use Rattle.ncc_replay.proofs.Lines.{cluster_first, first_of_line}
use Rattle.ncc_replay.proofs.Scripts.{may_happen}

true_false : (b : Bool) → b ≡ true → b ≡ false → ⊥
true_false b e f = cc

-- ---- a line is refused for one cause

abbrev Known : List ℕ → Cause → Type 0
Known line cause =
    ((cause ≡ UnknownVerb) × (is_verb (first_word line) ≡ false))
    ⊎ (((cause ≡ BadBookmark) × IsRightBut line) ⊎ ((cause ≡ BadLine) × (is_verb (first_word line) ≡ true) × (IsRightBut line → ⊥)))

known : (line : List ℕ) (cause : Cause) → IsCause line cause → Known line cause
known line UnknownVerb h = inl (refl, h)
known line BadBookmark h = inr (inl (refl, h))
known line BadLine h = inr (inr (refl, h.0, h.1))
known line c.NoHeader h = absurd h
known line NoCluster h = absurd h
known line c.WrongWorld h = absurd h
known line c.NoMember h = absurd h
known line c.NoConn h = absurd h
known line c.NoMessage h = absurd h
known line c.NoSession h = absurd h
known line c.WrongRole h = absurd h
known line c.BackInTime h = absurd h
known line c.Busy h = absurd h

one_known : (line : List ℕ) (a b : Cause) → Known line a → Known line b → a ≡ b
one_known line a b (inl f) (inl g) = f.0 ∙ sym g.0
one_known line a b (inl f) (inr (inl g)) = absurd (true_false (is_verb (first_word line)) (right_known line (first_of_line line) g.1) f.1)
one_known line a b (inl f) (inr (inr g)) = absurd (true_false (is_verb (first_word line)) g.1 f.1)
one_known line a b (inr (inl f)) (inl g) = absurd (true_false (is_verb (first_word line)) (right_known line (first_of_line line) f.1) g.1)
one_known line a b (inr (inl f)) (inr (inl g)) = f.0 ∙ sym g.0
one_known line a b (inr (inl f)) (inr (inr g)) = absurd (g.2 f.1)
one_known line a b (inr (inr f)) (inl g) = absurd (true_false (is_verb (first_word line)) f.1 g.1)
one_known line a b (inr (inr f)) (inr (inl g)) = absurd (f.2 g.1)
one_known line a b (inr (inr f)) (inr (inr g)) = f.0 ∙ sym g.0

one_cause : (cluster : ℕ) (line : List ℕ) (a b : Cause) → SaysNone cluster line a → SaysNone cluster line b → a ≡ b
one_cause cluster line a b f g = one_known line a b (known line a f.cause_is) (known line b g.cause_is)

one_refusal : (s : Setup) (r : WorldRun) (event other : Event) (a b : Cause) → event ≡ other → IsRefusedFor s r event a
    → IsRefusedFor s r other b → a ≡ b
one_refusal s r event other a b e f g =
    let errors : Some f.error ≡ Some g.error = sym f.refuses ∙ (ap (refusal s r) e ∙ g.refuses) in
    let same : f.error ≡ g.error = cc in
    let causes : Some a ≡ Some b = sym f.cause_is ∙ (ap cause_of same ∙ g.cause_is) in
    cc

allowed_refused : (s : Setup) (r : WorldRun) (event other : Event) (a : Cause) → event ≡ other → refusal s r event ≡ None
    → IsRefusedFor s r other a → ⊥
allowed_refused s r event other a e f g =
    let none : None ≡ Some g.error = sym f ∙ (ap (refusal s r) e ∙ g.refuses) in
    cc

-- ---- the same lines end in one way

pub record Same (es fs : List (ℕ × Event)) (t u : WorldRun) (end other : End) : Type 0 where
  pub events : es ≡ fs
  pub runs : t ≡ u
  pub ends : end ≡ other

pub one_end_events : OneRun → (s : Setup) (n : ℕ) (r : WorldRun) (ls : Lines) (es fs : List (ℕ × Event)) (t u : WorldRun) (end other : End)
    → EventLines s n r ls es t end → EventLines s n r ls fs u other → Same es fs t u end other
one_end_events one s n r ls es fs t u end other (EventLines.none_left na ra) (EventLines.none_left nb rb) = record {
  events =
      refl;
  runs = refl;
  ends = refl;
}
one_end_events one s n r ls es fs t u end other (EventLines.long na ra numbera linea lsa ha)
    (EventLines.long nb rb numberb lineb lsb hb) = record { events = refl; runs = refl; ends = refl }
one_end_events one s n r ls es fs t u end other (EventLines.long na ra numbera linea lsa ha)
    (EventLines.skipped nb rb numberb lineb lsb esb tb endb fb hb moreb) = absurd (true_false (is_long linea) ha fb)
one_end_events one s n r ls es fs t u end other (EventLines.long na ra numbera linea lsa ha)
    (EventLines.says_none nb rb numberb lineb lsb causeb cb noneb) = absurd (true_false (is_long linea) ha cb.short)
one_end_events one s n r ls es fs t u end other (EventLines.long na ra numbera linea lsa ha)
    (EventLines.not_allowed nb rb numberb lineb lsb eventb causeb cb saysb nob) = absurd (true_false (is_long linea) ha cb.short)
one_end_events one s n r ls es fs t u end other (EventLines.long na ra numbera linea lsa ha)
    (EventLines.many nb rb numberb lineb lsb eventb ab mb) = absurd (true_false (is_long linea) ha ab.counts.short)
one_end_events one s n r ls es fs t u end other (EventLines.long na ra numbera linea lsa ha)
    (EventLines.happens nb rb mb numberb lineb lsb eventb esb tb endb ab fewb didb moreb) = absurd (true_false
    (is_long linea) ha ab.counts.short)
one_end_events one s n r ls es fs t u end other (EventLines.skipped na ra numbera linea lsa esa ta enda fa ha morea)
    (EventLines.long nb rb numberb lineb lsb hb) = absurd (true_false (is_long linea) hb fa)
one_end_events one s n r ls es fs t u end other (EventLines.skipped na ra numbera linea lsa esa ta enda fa ha morea)
    (EventLines.skipped nb rb numberb lineb lsb esb tb endb fb hb moreb) =
    one_end_events one s na ra lsa esa esb ta tb enda endb morea moreb
one_end_events one s n r ls es fs t u end other (EventLines.skipped na ra numbera linea lsa esa ta enda fa ha morea)
    (EventLines.says_none nb rb numberb lineb lsb causeb cb noneb) = absurd (true_false (is_skipped linea) ha cb.kept)
one_end_events one s n r ls es fs t u end other (EventLines.skipped na ra numbera linea lsa esa ta enda fa ha morea)
    (EventLines.not_allowed nb rb numberb lineb lsb eventb causeb cb saysb nob) = absurd (true_false (is_skipped linea) ha cb.kept)
one_end_events one s n r ls es fs t u end other (EventLines.skipped na ra numbera linea lsa esa ta enda fa ha morea)
    (EventLines.many nb rb numberb lineb lsb eventb ab mb) = absurd (true_false (is_skipped linea) ha ab.counts.kept)
one_end_events one s n r ls es fs t u end other (EventLines.skipped na ra numbera linea lsa esa ta enda fa ha morea)
    (EventLines.happens nb rb mb numberb lineb lsb eventb esb tb endb ab fewb didb moreb) = absurd (true_false
    (is_skipped linea) ha ab.counts.kept)
one_end_events one s n r ls es fs t u end other (EventLines.says_none na ra numbera linea lsa causea ca nonea)
    (EventLines.long nb rb numberb lineb lsb hb) = absurd (true_false (is_long linea) hb ca.short)
one_end_events one s n r ls es fs t u end other (EventLines.says_none na ra numbera linea lsa causea ca nonea)
    (EventLines.skipped nb rb numberb lineb lsb esb tb endb fb hb moreb) = absurd (true_false (is_skipped linea) hb ca.kept)
one_end_events one s n r ls es fs t u end other (EventLines.says_none na ra numbera linea lsa causea ca nonea)
    (EventLines.says_none nb rb numberb lineb lsb causeb cb noneb) = record {
      events = refl;
      runs = refl;
      ends = ap (refused numbera)
          (one_cause s.cluster linea causea causeb nonea noneb);
    }
one_end_events one s n r ls es fs t u end other (EventLines.says_none na ra numbera linea lsa causea ca nonea)
    (EventLines.not_allowed nb rb numberb lineb lsb eventb causeb cb saysb nob) = absurd (nonea.none eventb saysb)
one_end_events one s n r ls es fs t u end other (EventLines.says_none na ra numbera linea lsa causea ca nonea)
    (EventLines.many nb rb numberb lineb lsb eventb ab mb) = absurd (nonea.none eventb ab.says)
one_end_events one s n r ls es fs t u end other (EventLines.says_none na ra numbera linea lsa causea ca nonea)
    (EventLines.happens nb rb mb numberb lineb lsb eventb esb tb endb ab fewb didb moreb) = absurd (nonea.none eventb ab.says)
one_end_events one s n r ls es fs t u end other (EventLines.not_allowed na ra numbera linea lsa eventa causea ca saysa noa)
    (EventLines.long nb rb numberb lineb lsb hb) = absurd (true_false (is_long linea) hb ca.short)
one_end_events one s n r ls es fs t u end other (EventLines.not_allowed na ra numbera linea lsa eventa causea ca saysa noa)
    (EventLines.skipped nb rb numberb lineb lsb esb tb endb fb hb moreb) = absurd (true_false (is_skipped linea) hb ca.kept)
one_end_events one s n r ls es fs t u end other (EventLines.not_allowed na ra numbera linea lsa eventa causea ca saysa noa)
    (EventLines.says_none nb rb numberb lineb lsb causeb cb noneb) = absurd (noneb.none eventa saysa)
one_end_events one s n r ls es fs t u end other (EventLines.not_allowed na ra numbera linea lsa eventa causea ca saysa noa)
    (EventLines.not_allowed nb rb numberb lineb lsb eventb causeb cb saysb nob) = record {
      events = refl;
      runs = refl;
      ends = ap
          (refused numbera) (one_refusal s ra eventa eventb causea causeb (says_one s.cluster linea eventa eventb saysa saysb) noa nob);
    }
one_end_events one s n r ls es fs t u end other (EventLines.not_allowed na ra numbera linea lsa eventa causea ca saysa noa)
    (EventLines.many nb rb numberb lineb lsb eventb ab mb) = absurd (allowed_refused s ra eventb eventa causea
    (says_one s.cluster linea eventb eventa ab.says saysa) ab.allowed noa)
one_end_events one s n r ls es fs t u end other (EventLines.not_allowed na ra numbera linea lsa eventa causea ca saysa noa)
    (EventLines.happens nb rb mb numberb lineb lsb eventb esb tb endb ab fewb didb moreb) = absurd
    (allowed_refused s ra eventb eventa causea (says_one s.cluster linea eventb eventa ab.says saysa) ab.allowed noa)
one_end_events one s n r ls es fs t u end other (EventLines.many na ra numbera linea lsa eventa aa ma)
    (EventLines.long nb rb numberb lineb lsb hb) = absurd (true_false (is_long linea) hb aa.counts.short)
one_end_events one s n r ls es fs t u end other (EventLines.many na ra numbera linea lsa eventa aa ma)
    (EventLines.skipped nb rb numberb lineb lsb esb tb endb fb hb moreb) = absurd (true_false (is_skipped linea) hb aa.counts.kept)
one_end_events one s n r ls es fs t u end other (EventLines.many na ra numbera linea lsa eventa aa ma)
    (EventLines.says_none nb rb numberb lineb lsb causeb cb noneb) = absurd (noneb.none eventa aa.says)
one_end_events one s n r ls es fs t u end other (EventLines.many na ra numbera linea lsa eventa aa ma)
    (EventLines.not_allowed nb rb numberb lineb lsb eventb causeb cb saysb nob) = absurd (allowed_refused s ra eventa eventb causeb
    (says_one s.cluster linea eventa eventb aa.says saysb) aa.allowed nob)
one_end_events one s n r ls es fs t u end other (EventLines.many na ra numbera linea lsa eventa aa ma)
    (EventLines.many nb rb numberb lineb lsb eventb ab mb) = record { events = refl; runs = refl; ends = refl }
one_end_events one s n r ls es fs t u end other (EventLines.many na ra numbera linea lsa eventa aa ma)
    (EventLines.happens nb rb mb numberb lineb lsb eventb esb tb endb ab fewb didb moreb) = absurd (omega (arith, ma, fewb))
one_end_events one s n r ls es fs t u end other (EventLines.happens na ra ma numbera linea lsa eventa esa ta enda aa fewa dida morea)
    (EventLines.long nb rb numberb lineb lsb hb) = absurd (true_false (is_long linea) hb aa.counts.short)
one_end_events one s n r ls es fs t u end other (EventLines.happens na ra ma numbera linea lsa eventa esa ta enda aa fewa dida morea)
    (EventLines.skipped nb rb numberb lineb lsb esb tb endb fb hb moreb) = absurd (true_false (is_skipped linea) hb aa.counts.kept)
one_end_events one s n r ls es fs t u end other (EventLines.happens na ra ma numbera linea lsa eventa esa ta enda aa fewa dida morea)
    (EventLines.says_none nb rb numberb lineb lsb causeb cb noneb) = absurd (noneb.none eventa aa.says)
one_end_events one s n r ls es fs t u end other (EventLines.happens na ra ma numbera linea lsa eventa esa ta enda aa fewa dida morea)
    (EventLines.not_allowed nb rb numberb lineb lsb eventb causeb cb saysb nob) = absurd (allowed_refused s ra eventa eventb causeb
    (says_one s.cluster linea eventa eventb aa.says saysb) aa.allowed nob)
one_end_events one s n r ls es fs t u end other (EventLines.happens na ra ma numbera linea lsa eventa esa ta enda aa fewa dida morea)
    (EventLines.many nb rb numberb lineb lsb eventb ab mb) = absurd (omega (arith, fewa, mb))
one_end_events one s n r ls es fs t u end other (EventLines.happens na ra ma numbera linea lsa eventa esa ta enda aa fewa dida morea)
    (EventLines.happens nb rb mb numberb lineb lsb eventb esb tb endb ab fewb didb moreb) =
    let event : eventb ≡ eventa = says_one s.cluster linea eventb eventa ab.says aa.says in
    let did : Happens s numbera eventa ra mb = subst (λ x. Happens s numbera x ra mb) event didb in
    let run : mb ≡ ma = one s ((numbera, eventa) ∷ []) ra mb ma (mb, did, refl) (ma, dida, refl) in
    let rest = one_end_events one s (na + 1) ma lsa esa esb ta tb enda endb morea (subst (λ x. EventLines s
    (na + 1) x lsa esb tb endb) run moreb) in
    record {
      events = ap (λ e. (numbera, e) ∷ esa) (sym event) ∙ ap (λ l. (numbera, eventb) ∷ l) rest.events;
      runs = rest.runs;
      ends = rest.ends;
    }

-- ---- the cluster line

one_no_cluster : (line : List ℕ) (a b : Cause) → IsNoCluster line a → IsNoCluster line b → a ≡ b
one_no_cluster line a b f g = pick line a b (kind line a f) (kind line b g) where
  kind : (l : List ℕ) (x : Cause) → IsNoCluster l x → ((x ≡ NoCluster) × (first_word l ≢ codes "cluster")) ⊎ ((x ≡ BadLine)
      × (first_word l ≡ codes "cluster"))
  kind l NoCluster h = inl (refl, h)
  kind l BadLine h = inr (refl, h.0)
  kind l c.NoHeader h = absurd h
  kind l UnknownVerb h = absurd h
  kind l BadBookmark h = absurd h
  kind l c.WrongWorld h = absurd h
  kind l c.NoMember h = absurd h
  kind l c.NoConn h = absurd h
  kind l c.NoMessage h = absurd h
  kind l c.NoSession h = absurd h
  kind l c.WrongRole h = absurd h
  kind l c.BackInTime h = absurd h
  kind l c.Busy h = absurd h

  pick : (l : List ℕ) (x y : Cause) → ((x ≡ NoCluster) × (first_word l ≢ codes "cluster")) ⊎ ((x ≡ BadLine) ×
      (first_word l ≡ codes "cluster"))
      → ((y ≡ NoCluster) × (first_word l ≢ codes "cluster")) ⊎ ((y ≡ BadLine) × (first_word l ≡ codes "cluster")) → x ≡ y
  pick l x y (inl f) (inl g) = f.0 ∙ sym g.0
  pick l x y (inl f) (inr g) = absurd (f.1 g.1)
  pick l x y (inr f) (inl g) = absurd (g.1 f.1)
  pick l x y (inr f) (inr g) = f.0 ∙ sym g.0

no_cluster_none : (line : List ℕ) (cause : Cause) (s : Setup) → IsNoCluster line cause → SaysCluster line s → ⊥
no_cluster_none line NoCluster s h says = h (cluster_first line s says)
no_cluster_none line BadLine s h says = h.1 s says
no_cluster_none line c.NoHeader s h says = h
no_cluster_none line UnknownVerb s h says = h
no_cluster_none line BadBookmark s h says = h
no_cluster_none line c.WrongWorld s h says = h
no_cluster_none line c.NoMember s h says = h
no_cluster_none line c.NoConn s h says = h
no_cluster_none line c.NoMessage s h says = h
no_cluster_none line c.NoSession s h says = h
no_cluster_none line c.WrongRole s h says = h
no_cluster_none line c.BackInTime s h says = h
no_cluster_none line c.Busy s h says = h

pub record SameScript (s x : Script) (t u : Option WorldRun) (end other : End) : Type 0 where
  pub scripts : s ≡ x
  pub runs : t ≡ u
  pub ends : end ≡ other

pub one_end_cluster : OneRun → (ls : Lines) (s x : Script) (t u : Option WorldRun) (end other : End) → ClusterLines ls s t end
    → ClusterLines ls x u other → SameScript s x t u end other
one_end_cluster one ls s x t u end other ClusterLines.none_left ClusterLines.none_left = record { scripts = refl; runs = refl; ends = refl }
one_end_cluster one ls s x t u end other (ClusterLines.long numbera linea lsa ha) (ClusterLines.long numberb lineb lsb hb) =
    record { scripts = refl; runs = refl; ends = refl }
one_end_cluster one ls s x t u end other (ClusterLines.long numbera linea lsa ha)
    (ClusterLines.skipped numberb lineb lsb sb tb endb fb hb moreb) = absurd (true_false (is_long linea) ha fb)
one_end_cluster one ls s x t u end other (ClusterLines.long numbera linea lsa ha)
    (ClusterLines.says_none numberb lineb lsb causeb cb noneb) = absurd (true_false (is_long linea) ha cb.short)
one_end_cluster one ls s x t u end other (ClusterLines.long numbera linea lsa ha)
    (ClusterLines.says numberb lineb lsb setupb esb tb endb cb saysb moreb) = absurd (true_false (is_long linea) ha cb.short)
one_end_cluster one ls s x t u end other (ClusterLines.skipped numbera linea lsa sa ta enda fa ha morea)
    (ClusterLines.long numberb lineb lsb hb) = absurd (true_false (is_long linea) hb fa)
one_end_cluster one ls s x t u end other (ClusterLines.skipped numbera linea lsa sa ta enda fa ha morea)
    (ClusterLines.skipped numberb lineb lsb sb tb endb fb hb moreb) = one_end_cluster one lsa sa sb ta tb enda endb morea moreb
one_end_cluster one ls s x t u end other (ClusterLines.skipped numbera linea lsa sa ta enda fa ha morea)
    (ClusterLines.says_none numberb lineb lsb causeb cb noneb) = absurd (true_false (is_skipped linea) ha cb.kept)
one_end_cluster one ls s x t u end other (ClusterLines.skipped numbera linea lsa sa ta enda fa ha morea)
    (ClusterLines.says numberb lineb lsb setupb esb tb endb cb saysb moreb) = absurd (true_false (is_skipped linea) ha cb.kept)
one_end_cluster one ls s x t u end other (ClusterLines.says_none numbera linea lsa causea ca nonea)
    (ClusterLines.long numberb lineb lsb hb) = absurd (true_false (is_long linea) hb ca.short)
one_end_cluster one ls s x t u end other (ClusterLines.says_none numbera linea lsa causea ca nonea)
    (ClusterLines.skipped numberb lineb lsb sb tb endb fb hb moreb) = absurd (true_false (is_skipped linea) hb ca.kept)
one_end_cluster one ls s x t u end other (ClusterLines.says_none numbera linea lsa causea ca nonea)
    (ClusterLines.says_none numberb lineb lsb causeb cb noneb) = record {
      scripts = refl;
      runs = refl;
      ends = ap (refused numbera)
          (one_no_cluster linea causea causeb nonea noneb);
    }
one_end_cluster one ls s x t u end other (ClusterLines.says_none numbera linea lsa causea ca nonea)
    (ClusterLines.says numberb lineb lsb setupb esb tb endb cb saysb moreb) = absurd (no_cluster_none linea causea setupb nonea saysb)
one_end_cluster one ls s x t u end other (ClusterLines.says numbera linea lsa setupa esa ta enda ca saysa morea)
    (ClusterLines.long numberb lineb lsb hb) = absurd (true_false (is_long linea) hb ca.short)
one_end_cluster one ls s x t u end other (ClusterLines.says numbera linea lsa setupa esa ta enda ca saysa morea)
    (ClusterLines.skipped numberb lineb lsb sb tb endb fb hb moreb) = absurd (true_false (is_skipped linea) hb ca.kept)
one_end_cluster one ls s x t u end other (ClusterLines.says numbera linea lsa setupa esa ta enda ca saysa morea)
    (ClusterLines.says_none numberb lineb lsb causeb cb noneb) = absurd (no_cluster_none linea causeb setupa noneb saysa)
one_end_cluster one ls s x t u end other (ClusterLines.says numbera linea lsa setupa esa ta enda ca saysa morea)
    (ClusterLines.says numberb lineb lsb setupb esb tb endb cb saysb moreb) =
    let setup : setupb ≡ setupa = says_one_cluster linea setupb setupa saysb saysa in
    let rest = one_end_events one setupa 0 (start_of setupa) lsa esa esb ta tb enda endb morea
    (subst (λ v. EventLines v 0 (start_of v) lsa esb tb endb) setup moreb) in
    let made : Setup → List (ℕ × Event) → Script = λ v l. record { setup = Some v; events = l } in
    record {
      scripts = ap (made setupa) rest.events ∙ ap (λ v. made v esb) (sym setup);
      runs = ap Some rest.runs;
      ends = rest.ends;
    }

pub one_end_script : OneRun → (ls : Lines) (s x : Script) (t u : Option WorldRun) (end other : End) → ScriptLines ls s t end
    → ScriptLines ls x u other → SameScript s x t u end other
one_end_script one ls s x t u end other ScriptLines.none_left ScriptLines.none_left = record { scripts = refl; runs = refl; ends = refl }
one_end_script one ls s x t u end other (ScriptLines.long numbera linea lsa ha) (ScriptLines.long numberb lineb lsb hb) =
    record { scripts = refl; runs = refl; ends = refl }
one_end_script one ls s x t u end other (ScriptLines.long numbera linea lsa ha)
    (ScriptLines.skipped numberb lineb lsb sb tb endb fb hb moreb) = absurd (true_false (is_long linea) ha fb)
one_end_script one ls s x t u end other (ScriptLines.long numbera linea lsa ha) (ScriptLines.other numberb lineb lsb cb nob) = absurd
    (true_false (is_long linea) ha cb.short)
one_end_script one ls s x t u end other (ScriptLines.long numbera linea lsa ha)
    (ScriptLines.is_header numberb lineb lsb sb tb endb cb isb moreb) = absurd (true_false (is_long linea) ha cb.short)
one_end_script one ls s x t u end other (ScriptLines.skipped numbera linea lsa sa ta enda fa ha morea)
    (ScriptLines.long numberb lineb lsb hb) = absurd (true_false (is_long linea) hb fa)
one_end_script one ls s x t u end other (ScriptLines.skipped numbera linea lsa sa ta enda fa ha morea)
    (ScriptLines.skipped numberb lineb lsb sb tb endb fb hb moreb) = one_end_script one lsa sa sb ta tb enda endb morea moreb
one_end_script one ls s x t u end other (ScriptLines.skipped numbera linea lsa sa ta enda fa ha morea)
    (ScriptLines.other numberb lineb lsb cb nob) = absurd (true_false (is_skipped linea) ha cb.kept)
one_end_script one ls s x t u end other (ScriptLines.skipped numbera linea lsa sa ta enda fa ha morea)
    (ScriptLines.is_header numberb lineb lsb sb tb endb cb isb moreb) = absurd (true_false (is_skipped linea) ha cb.kept)
one_end_script one ls s x t u end other (ScriptLines.other numbera linea lsa ca noa) (ScriptLines.long numberb lineb lsb hb) = absurd
    (true_false (is_long linea) hb ca.short)
one_end_script one ls s x t u end other (ScriptLines.other numbera linea lsa ca noa)
    (ScriptLines.skipped numberb lineb lsb sb tb endb fb hb moreb) = absurd (true_false (is_skipped linea) hb ca.kept)
one_end_script one ls s x t u end other (ScriptLines.other numbera linea lsa ca noa) (ScriptLines.other numberb lineb lsb cb nob) =
    record { scripts = refl; runs = refl; ends = refl }
one_end_script one ls s x t u end other (ScriptLines.other numbera linea lsa ca noa)
    (ScriptLines.is_header numberb lineb lsb sb tb endb cb isb moreb) = absurd (noa isb)
one_end_script one ls s x t u end other (ScriptLines.is_header numbera linea lsa sa ta enda ca isa morea)
    (ScriptLines.long numberb lineb lsb hb) = absurd (true_false (is_long linea) hb ca.short)
one_end_script one ls s x t u end other (ScriptLines.is_header numbera linea lsa sa ta enda ca isa morea)
    (ScriptLines.skipped numberb lineb lsb sb tb endb fb hb moreb) = absurd (true_false (is_skipped linea) hb ca.kept)
one_end_script one ls s x t u end other (ScriptLines.is_header numbera linea lsa sa ta enda ca isa morea)
    (ScriptLines.other numberb lineb lsb cb nob) = absurd (nob isa)
one_end_script one ls s x t u end other (ScriptLines.is_header numbera linea lsa sa ta enda ca isa morea)
    (ScriptLines.is_header numberb lineb lsb sb tb endb cb isb moreb) = one_end_cluster one lsa sa sb ta tb enda endb morea moreb

pub texts_end : OneRun → OneEnd
texts_end one text s x t u end other f g =
    let same = one_end_script one (numbered text) s x t u end other f g in (same.ends, same.scripts, same.runs)

-- ---- the events of a script run as they are said

pub events_run : (s : Setup) (n : ℕ) (r : WorldRun) (ls : Lines) (es : List (ℕ × Event)) (t : WorldRun) (end : End)
    → EventLines s n r ls es t end → RunsOn s es r t
events_run s n r ls es t end (EventLines.none_left na ra) = refl
events_run s n r ls es t end (EventLines.long na ra numbera linea lsa ha) = refl
events_run s n r ls es t end (EventLines.skipped na ra numbera linea lsa esa ta enda fa ha morea) = events_run s na ra lsa esa ta enda morea
events_run s n r ls es t end (EventLines.says_none na ra numbera linea lsa causea ca nonea) = refl
events_run s n r ls es t end (EventLines.not_allowed na ra numbera linea lsa eventa causea ca saysa noa) = refl
events_run s n r ls es t end (EventLines.many na ra numbera linea lsa eventa aa ma) = refl
events_run s n r ls es t end (EventLines.happens na ra ma numbera linea lsa eventa esa ta enda aa fewa dida morea) = (
  ma,
  dida,
  events_run s (na + 1) ma lsa esa ta enda morea,
)

-- a world takes each of the events
pub events_may_happen : (s : Setup) (n : ℕ) (r : WorldRun) (ls : Lines) (es : List (ℕ × Event)) (t : WorldRun) (end : End)
    → EventLines s n r ls es t end → AllMayHappen s es
events_may_happen s n r ls es t end (EventLines.none_left na ra) = tt
events_may_happen s n r ls es t end (EventLines.long na ra number line lsa h) = tt
events_may_happen s n r ls es t end (EventLines.skipped na ra number line lsa esa ta enda f h more) =
    events_may_happen s na ra lsa esa ta enda more
events_may_happen s n r ls es t end (EventLines.says_none na ra number line lsa cause c none) = tt
events_may_happen s n r ls es t end (EventLines.not_allowed na ra number line lsa event cause c says noa) = tt
events_may_happen s n r ls es t end (EventLines.many na ra number line lsa event a m) = tt
events_may_happen s n r ls es t end (EventLines.happens na ra ma number line lsa event esa ta enda a few did more) =
    (may_happen s.cluster line event a.says a.counts.short, events_may_happen s (na + 1) ma lsa esa ta enda more)

pub record RunsAsSaid (s : Script) (t : Option WorldRun) (setup : Setup) (r : WorldRun) : Type 0 where
  pub allowed : IsSetup setup
  pub runs : RunsOn setup s.events (start_of setup) r
  pub may_happen : AllMayHappen setup s.events

cluster_run : (ls : Lines) (s : Script) (t : Option WorldRun) (end : End) (setup : Setup) (r : WorldRun) → ClusterLines ls s t end
    → s.setup ≡ Some setup → t ≡ Some r → RunsAsSaid s t setup r
cluster_run ls s t end setup r ClusterLines.none_left e f = absurd (cc)
cluster_run ls s t end setup r (ClusterLines.long number line rest h) e f = absurd (cc)
cluster_run ls s t end setup r (ClusterLines.skipped number line rest x u stop g h more) e f = cluster_run rest x u stop setup r more e f
cluster_run ls s t end setup r (ClusterLines.says_none number line rest cause c none) e f = absurd (cc)
cluster_run ls s t end setup r (ClusterLines.says number line rest it es u stop c says more) e f =
    let setups : it ≡ setup = cc in
    let runs : u ≡ r = cc in
    record {
      allowed = subst IsSetup setups says.allowed;
      runs = subst (λ v. RunsOn setup es (start_of setup) v) runs
          (subst (λ v. RunsOn v es (start_of v) u) setups (events_run it 0 (start_of it) rest es u stop more));
      may_happen = subst (λ v. AllMayHappen v es) setups (events_may_happen it 0 (start_of it) rest es u stop more);
    }

script_run : (ls : Lines) (s : Script) (t : Option WorldRun) (end : End) (setup : Setup) (r : WorldRun) → ScriptLines ls s t end
    → s.setup ≡ Some setup → t ≡ Some r → RunsAsSaid s t setup r
script_run ls s t end setup r ScriptLines.none_left e f = absurd (cc)
script_run ls s t end setup r (ScriptLines.long number line rest h) e f = absurd (cc)
script_run ls s t end setup r (ScriptLines.skipped number line rest x u stop g h more) e f = script_run rest x u stop setup r more e f
script_run ls s t end setup r (ScriptLines.other number line rest c differs) e f = absurd (cc)
script_run ls s t end setup r (ScriptLines.is_header number line rest x u stop c is more) e f = cluster_run rest x u stop setup r more e f

-- the promise holds of each script
pub text_keeps : EveryRunKeeps → (text : List ℕ) (s : Script) (t : Option WorldRun) (end : End) → IsText text s t end → (setup : Setup)
    (r : WorldRun) → s.setup ≡ Some setup → t ≡ Some r → Headline setup s.events r
text_keeps keeps text s t end is setup r e f =
    let run = script_run (numbered text) s t end setup r is e f in
    keeps setup s.events r run.allowed run.runs

-- and sessions read their writes in it
pub text_reads : EveryRunKeeps → (text : List ℕ) (s : Script) (t : Option WorldRun) (end : End) → IsText text s t end → (setup : Setup)
    (r : WorldRun) → s.setup ≡ Some setup → t ≡ Some r → SessionsReadTheirWrites r
text_reads keeps text s t end is setup r e f =
    let run = script_run (numbered text) s t end setup r is e f in
    (keeps setup s.events r run.allowed run.runs).sessions_read_their_writes run.may_happen

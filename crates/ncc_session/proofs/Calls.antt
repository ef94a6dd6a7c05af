-- Any list of calls.
use Rattle.std.proofs.Common.{ℕ, List, [], ◌∷◌, ◌++◌, sym, ap, ◌∙◌, subst, append_assoc, append-nil}
use Rattle.ncc_session.specs.declared.config.ConnConfig.{ConnConfig}
use Rattle.ncc_session.specs.declared.ask.Fact.{Fact}
use Rattle.ncc_session.specs.Question.{bytes_of}
use Rattle.ncc_session.specs.Session.{Standing}
use Rattle.ncc_session.specs.Talk.{Talk, Stands}
use Rattle.ncc_session.specs.Laws.{Call, feeds, tells, hands_out, ByCalls, bytes_fed, facts_told, bytes_out, StandsForAll, CutsDontMatter}

stands_on : (config : ConnConfig) (old new : Talk) (calls : List Call) (bytes : List ℕ) (facts : List Fact) (out : List ℕ)
    → Stands old config bytes facts out → ByCalls old calls new
    → Stands new config (bytes ++ bytes_fed calls) (facts ++ facts_told calls) (out ++ bytes_out calls)
stands_on config old new [] bytes facts out k h =
    subst (λ (b : List ℕ). Stands new config b (facts ++ []) (out ++ [])) (sym (append-nil bytes))
    (subst (λ (f : List Fact). Stands new config bytes f (out ++ [])) (sym (append-nil facts))
    (subst (λ (o : List ℕ). Stands new config bytes facts o) (sym (append-nil out))
    (subst (λ (t : Talk). Stands t config bytes facts out) h k)))
stands_on config old new (feeds piece ∷ calls) bytes facts out k h =
    subst (λ (b : List ℕ). Stands new config b (facts ++ facts_told calls) (out ++ bytes_out calls))
    (append_assoc bytes piece (bytes_fed calls))
    (stands_on config h.0 new calls (bytes ++ piece) facts out (h.1 config bytes facts out k) h.2)
stands_on config old new (tells fact ∷ calls) bytes facts out k h =
    subst (λ (f : List Fact). Stands new config (bytes ++ bytes_fed calls) f (out ++ bytes_out calls))
    (append_assoc facts (fact ∷ []) (facts_told calls))
    (stands_on config h.0 new calls bytes (facts ++ fact ∷ []) out (h.1 config bytes facts out k) h.2)
stands_on config old new (hands_out handed ∷ calls) bytes facts out k h =
    subst (λ (o : List ℕ). Stands new config (bytes ++ bytes_fed calls) (facts ++ facts_told calls) o)
    (append_assoc out handed (bytes_out calls))
    (stands_on config h.0 new calls bytes facts (out ++ handed) (h.1 config bytes facts out k) h.2)

pub stands_for_all : StandsForAll
stands_for_all config old new calls k h = stands_on config old new calls [] [] [] k h

pub cuts_dont_matter : CutsDontMatter
cuts_dont_matter config one other bytes facts x y k l =
    let same = sym k.went ∙ l.went in (
      ap (λ (s : Standing). s.core) same,
      sym k.out_is ∙ ap (λ (s : Standing). bytes_of s.written) same ∙ l.out_is,
    )

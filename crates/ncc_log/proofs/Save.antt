-- What the images of a save stand for.
use Rattle.std.proofs.Common.{◌≡◌, inl, inr, ℕ, ◌+◌, ◌≤◌, List, [], ◌∷◌, ◌++◌, length, get_or, take, drop, refl, sym, ◌∙◌, ap}
use Rattle.std.proofs.Common.{subst, arith, append_assoc, length-append}
use Rattle.std.proofs.lemmas.Bool.{cases_eq}
use Rattle.std.proofs.lemmas.List.{append_cancel_left, get_or_at, length-take-le, take_at}
use Rattle.ncc_base.specs.Disk.{Only}
use Rattle.ncc_tx.specs.declared.entry.ChangeSet.{ChangeSet}
use Rattle.ncc_tx.specs.declared.entry.Saved.{Saved}
use Rattle.ncc_tx.specs.Kept.{MayFollow, max_items, part_after, payload}
use Rattle.ncc_log.specs.Gated.{IsGated, IsOpen}
use Rattle.ncc_log.specs.Header.{header}
use Rattle.ncc_log.specs.Records.{MayStandBehind, closed, opened, recorded}
use Rattle.ncc_log.specs.Saves.{BeforeOrAfter, Saves, nothing}
use Rattle.ncc_log.specs.Shown.{LeadsTo, Ready}
use Rattle.ncc_log.proofs.Crash.{closed_split, front_long}
use Rattle.ncc_log.proofs.One.{recorded_long}
use Rattle.ncc_log.proofs.Stand.{one_stands}

pub one_saves : (cluster member : ℕ) (b : List ℕ) (s t : Saved) → Saves cluster member b s → Saves cluster member b t → s ≡ t
one_saves cluster member b s t a d =
    one_stands nothing s t a.records d.records
    (append_cancel_left (header cluster member) a.records d.records (sym a.whole ∙ d.whole)) a.stands d.stands

-- a body behind a gate of a front that leads to a part
module _ (cluster member : ℕ) (front : List ℕ) (s : Saved) (leads : LeadsTo cluster member front s) where
  pub closed_gate : (rest b : List ℕ) → b ≡ front ++ (0 ∷ rest) → Saves cluster member b s
  closed_gate rest b e = subst (λ (l : List ℕ). Saves cluster member l s) (sym e) (leads.on (0 ∷ rest) s (closed s (0 ∷ rest) rest refl))

  module _ (c : ChangeSet) (may : MayStandBehind s c) where
    abbrev body : List ℕ
    body = recorded c ++ 0 ∷ []

    abbrev next : Saved
    next = part_after s c

    pub open_gate : (gate : ℕ) (rest b : List ℕ) → (gate ≡ 0 → ⊥) → b ≡ front ++ (gate ∷ (body ++ rest)) → Saves cluster member b next
    open_gate gate rest b is_open e =
        let tail : List ℕ = gate ∷ (body ++ rest) in
        let same : tail ≡ gate ∷ (recorded c ++ (0 ∷ rest)) = ap (λ (l : List ℕ). gate ∷ l) (append_assoc (recorded c) (0 ∷ []) rest) in
        subst (λ (l : List ℕ). Saves cluster member l next) (sym e) (leads.on tail next
        (opened s next tail gate c (0 ∷ rest) is_open may same (closed next (0 ∷ rest) rest refl)))

    pub gated_is : (b : List ℕ) → IsGated front body b → BeforeOrAfter cluster member s next b
    gated_is b (inl (rest, e)) = inl (closed_gate rest b e)
    gated_is b (inr (gate, rest, e)) = elim (cases_eq gate 0) [
      | inl shut ↦ inl (closed_gate (body ++ rest) b (e ∙ ap (λ (k : ℕ). front ++ (k ∷ (body ++ rest))) shut))
      | inr is_open ↦ inr (open_gate gate rest b is_open e)
    ]

    pub opened_is : (b : List ℕ) → IsOpen front body b → Saves cluster member b next
    opened_is b (rest, e) = open_gate 1 rest b (λ h. cc) e

    pub leads_next : (gate : ℕ) → (gate ≡ 0 → ⊥) → LeadsTo cluster member (front ++ gate ∷ recorded c) next
    leads_next gate is_open = record {
      on = λ tail t on.
          subst (λ (l : List ℕ). Saves cluster member l t) (sym (append_assoc front (gate ∷ recorded c) tail))
          (leads.on (gate ∷ (recorded c ++ tail)) t (opened s t (gate ∷ (recorded c ++ tail)) gate c tail is_open may refl on));
    }

    pub ready_next : (gate : ℕ) (b : List ℕ) (images : List ℕ → Type 0) → length front ≡ gate → IsOpen front body b → Only b images →
        Ready cluster member (gate + (length (payload c) + 5)) b images
    ready_next gate b images long (rest, e) only =
        let head : List ℕ = front ++ 1 ∷ recorded c in
        let split : b ≡ head ++ (0 ∷ rest) = e ∙ ap (λ (l : List ℕ). front ++ (1 ∷ l)) (append_assoc (recorded c) (0 ∷ []) rest)
        ∙ sym (append_assoc front (1 ∷ recorded c) (0 ∷ rest)) in
        let place : length head ≡ gate + (length (payload c) + 5) =
        omega (arith, length-append front (1 ∷ recorded c), recorded_long c, long) in
        let at : ℕ = gate + (length (payload c) + 5) in
        record {
          closed = record {
            within = omega (arith, ap length split, length-append head (0 ∷ rest), place);
            closed = ap (λ (l : List ℕ). get_or l at 1) split ∙ get_or_at head 0 rest 1 at place;
          };
          part = next;
          leads = subst (λ (l : List ℕ). LeadsTo cluster member l next) (sym (ap (take at) split ∙ take_at head (0 ∷ rest) at place))
              (leads_next 1 (λ h. cc));
          only = only;
        }

-- ---- a journal that is ready

module _ (cluster member gate : ℕ) (seen : List ℕ) (images : List ℕ → Type 0) (r : Ready cluster member gate seen images) where
  pub saves_now : Saves cluster member seen r.part
  saves_now = closed_gate cluster member (take gate seen) r.part r.leads (drop (gate + 1) seen) seen (closed_split gate seen [] r.closed)

  pub same_part : (s : Saved) → Saves cluster member seen s → s ≡ r.part
  same_part s a = one_saves cluster member seen s r.part a saves_now

  module _ (s : Saved) (saves : Saves cluster member seen s) (c : ChangeSet) (follows : MayFollow s c)
      (few : c.keep + length c.items ≤ max_items) where
    pub leads_now : LeadsTo cluster member (take gate seen) s
    leads_now = subst (LeadsTo cluster member (take gate seen)) (sym (same_part s saves)) r.leads

    pub may_now : MayStandBehind s c
    may_now = record {
      follows = follows;
      few = omega (arith, few, length-append (take c.keep s.log) c.items, length-take-le c.keep s.log follows.keep);
    }

    pub before_or_after : (b : List ℕ) → IsGated (take gate seen) (recorded c ++ 0 ∷ []) b →
        BeforeOrAfter cluster member s (part_after s c) b
    before_or_after b h = gated_is cluster member (take gate seen) s leads_now c may_now b h

    pub after_now : (b : List ℕ) → IsOpen (take gate seen) (recorded c ++ 0 ∷ []) b → Saves cluster member b (part_after s c)
    after_now b h = opened_is cluster member (take gate seen) s leads_now c may_now b h

    pub ready_after : (b : List ℕ) (left : List ℕ → Type 0) → IsOpen (take gate seen) (recorded c ++ 0 ∷ []) b → Only b left →
        Ready cluster member (gate + (length (payload c) + 5)) b left
    ready_after b left h only =
        ready_next cluster member (take gate seen) s leads_now c may_now gate b left (front_long gate seen [] r.closed) h only

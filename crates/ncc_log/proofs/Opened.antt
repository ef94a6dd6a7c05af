-- A journal that is opened: its header, and the records up to a closed gate.
use Rattle.std.proofs.Common.{◌≡◌, ◌⊎◌, inl, inr, ℕ, ◌+◌, ◌≤◌, Bool, true, false, List, ◌∷◌, ◌++◌, length, get_or, take, drop}
use Rattle.std.proofs.Common.{Option, Some, None, Result, Ok, Err, refl, sym, ◌∙◌, ap, append_assoc, subst, arith, take-append-drop}
use Rattle.std.specs.Prelude.{◌&&◌, nat_eq, nat_lt, if◌then◌else◌, IfErr, IfOk}
use Rattle.std.proofs.lemmas.List.{drop-append-le, drop_at, drop_more, length-take-le, take-take, take_at}
use Rattle.ncc_base.specs.declared.disk.Disk.{Ghosts}
use Rattle.ncc_base.specs.Disk.{Only}
use Rattle.ncc_tx.specs.declared.entry.Saved.{Saved}
use Rattle.ncc_log.specs.declared.error.JournalError.{JournalError}
use Rattle.ncc_log.specs.declared.error.JournalError.TheVariants.{Damaged, DiskFault, Foreign, Full, Memory}
use Rattle.ncc_log.specs.Calls.{Looks}
use Rattle.ncc_log.specs.Header.{behind_magic, first_wrong, header, header_fault, magic, owner_fault, told_cluster, told_member}
use Rattle.ncc_log.specs.Opening.{Reached}
use Rattle.ncc_log.specs.Records.{Breaks, Stands, closed}
use Rattle.ncc_log.specs.Saves.{IsRefusal, Saves, nothing}
use Rattle.ncc_log.specs.Shown.{Ready}
use Rattle.ncc_log.proofs.HeaderRead.{fault_front, header_long, right_is}

-- ---- the header

-- the first fifteen bytes begin with the header, and so do all
pub right_behind : (cluster member : ℕ) (seen : List ℕ) → take 15 seen ≡ header cluster member ++ drop 14 (take 15 seen) →
    seen ≡ header cluster member ++ drop 14 seen
right_behind cluster member seen e =
    let h : List ℕ = header cluster member in
    let rest : List ℕ = drop 14 (take 15 seen) ++ drop 15 seen in
    let whole : seen ≡ h ++ rest = sym (take-append-drop 15 seen) ∙ ap (λ (l : List ℕ). l ++ drop 15 seen) e
    ∙ append_assoc h (drop 14 (take 15 seen)) (drop 15 seen) in
    let behind : drop 14 seen ≡ rest = ap (drop 14) whole ∙ drop_at h rest 14 (header_long cluster member) in
    whole ∙ ap (λ (l : List ℕ). h ++ l) (sym behind)

pub right_long : (cluster member : ℕ) (seen : List ℕ) → header_fault cluster member (take 15 seen) ≡ None → 15 ≤ length seen
right_long cluster member seen none = (right_is cluster member seen (sym (fault_front cluster member seen) ∙ none)).long

-- an error that bytes call for
abbrev pub IsOfBytes : JournalError → Type 0
IsOfBytes (Damaged at) = Unit {0}
IsOfBytes (Foreign c m) = Unit {0}
IsOfBytes e = ⊥

behind_of : (cluster member : ℕ) (b : List ℕ) (o : Option ℕ) (e : JournalError) → behind_magic o cluster member b ≡ Some e → IsOfBytes e
behind_of cluster member b (Some at) e is = let same : Damaged at ≡ e = cc in subst IsOfBytes same tt
behind_of cluster member b None e is =
    go (nat_lt (length b) 15) (nat_eq (told_cluster b) cluster && nat_eq (told_member b) member) refl refl
  where
    owner : Bool → Option JournalError
    owner t = if t then None else Some (Foreign (told_cluster b) (told_member b))

    go : (s t : Bool) → nat_lt (length b) 15 ≡ s → (nat_eq (told_cluster b) cluster && nat_eq (told_member b) member) ≡ t → IsOfBytes e
    go true t f h =
        let whole : Some (Damaged (length b)) ≡ Some e =
        sym (ap (λ (t : Bool). if t then Some (Damaged (length b)) else owner_fault cluster member b) f) ∙ is in
        let same : Damaged (length b) ≡ e = cc in
        subst IsOfBytes same tt
    go false true f h =
        let bad : None ≡ Some e =
        sym (ap (λ (t : Bool). if t then Some (Damaged (length b)) else owner_fault cluster member b) f ∙ ap owner h) ∙ is in
        absurd (cc)
    go false false f h =
        let whole : Some (Foreign (told_cluster b) (told_member b)) ≡ Some e =
        sym (ap (λ (t : Bool). if t then Some (Damaged (length b)) else owner_fault cluster member b) f ∙ ap owner h) ∙ is in
        let same : Foreign (told_cluster b) (told_member b) ≡ e = cc in
        subst IsOfBytes same tt

pub fault_of : (cluster member : ℕ) (b : List ℕ) (e : JournalError) → Some e ≡ header_fault cluster member b → IsOfBytes e
unfolding header_fault
fault_of cluster member b e is = behind_of cluster member b (first_wrong magic b 0) e (sym is)

pub not_of : (e other : JournalError) → IsOfBytes e → (IsOfBytes other → ⊥) → e ≡ other → ⊥
not_of e other h none same = none (subst IsOfBytes same h)

-- what is wrong with a header is the refusal
pub fault_refuses : (cluster member : ℕ) (seen : List ℕ) (e : JournalError) → Some e ≡ header_fault cluster member (take 15 seen) →
    IsRefusal cluster member seen e
fault_refuses cluster member seen DiskFault is = tt
fault_refuses cluster member seen Memory is = tt
fault_refuses cluster member seen Full is = fault_of cluster member (take 15 seen) Full is
fault_refuses cluster member seen (Damaged at) is = inl (sym (is ∙ fault_front cluster member seen))
fault_refuses cluster member seen (Foreign c m) is = inl (sym (is ∙ fault_front cluster member seen))

-- ---- the records

-- behind a right header the first gate at fault is the refusal
pub records_refuse : (cluster member : ℕ) (seen : List ℕ) (e : JournalError) → header_fault cluster member (take 15 seen) ≡ None →
    ((e ≡ DiskFault) ⊎ (e ≡ Memory) ⊎ ((at : ℕ) × (e ≡ Damaged at)))
    → ((at : ℕ) → e ≡ Damaged at → Breaks nothing 14 (drop 14 seen) at) → IsRefusal cluster member seen e
records_refuse cluster member seen e none (inl is) breaks = subst (IsRefusal cluster member seen) (sym is) tt
records_refuse cluster member seen e none (inr (inl is)) breaks = subst (IsRefusal cluster member seen) (sym is) tt
records_refuse cluster member seen e none (inr (inr (at, is))) breaks =
    subst (IsRefusal cluster member seen) (sym is)
    (inr (at, refl, record { right = sym (fault_front cluster member seen) ∙ none; breaks = breaks at is }))

-- behind the header records, and then a closed gate
module _ (cluster member : ℕ) (seen : List ℕ) (right : seen ≡ header cluster member ++ drop 14 seen) (gate : ℕ) (s : Saved)
    (r : Reached seen gate s) (rest : List ℕ) (shut : drop gate seen ≡ 0 ∷ rest) where
  front_long : length (take gate seen) ≡ gate
  front_long = length-take-le gate seen (omega (arith, r.inside))

  header_there : take 14 (take gate seen) ≡ header cluster member
  header_there = take-take 14 gate seen r.front ∙ ap (take 14) right
      ∙ take_at (header cluster member) (drop 14 seen) 14 (header_long cluster member)

  front_is : take gate seen ≡ header cluster member ++ drop 14 (take gate seen)
  front_is = sym (take-append-drop 14 (take gate seen)) ∙ ap (λ (l : List ℕ). l ++ drop 14 (take gate seen)) header_there

  pub opened_saves : Saves cluster member seen s
  opened_saves = record {
    records = drop 14 seen;
    whole = right;
    stands = subst (λ (l : List ℕ). Stands nothing l s)
        (sym (drop-append-le 14 (take gate seen) (drop gate seen) (omega (arith, front_long, r.front)))
        ∙ ap (drop 14) (take-append-drop gate seen))
        (r.on (drop gate seen) s (closed s (drop gate seen) rest shut));
  }

  first : get_or seen gate 1 ≡ 0
  first = let e : get_or seen gate 1 ∷ drop (gate + 1) seen ≡ 0 ∷ rest = sym (drop_more seen gate 1 r.inside) ∙ shut in cc

  pub opened_ready : (images : List ℕ → Type 0) → Only seen images → Ready cluster member gate seen images
  opened_ready images only = record {
    closed = record { within = r.inside; closed = first };
    part = s;
    leads = record {
      on = λ tail t stands. record {
        records = drop 14 (take gate seen) ++ tail;
        whole = ap (λ (l : List ℕ). l ++ tail) front_is ∙ append_assoc (header cluster member) (drop 14 (take gate seen)) tail;
        stands = r.on tail t stands;
      };
    };
    only = only;
  }

-- ---- a disk whose bytes were read as a journal

module _ {D : Type 0} (g : Ghosts D) (old now new : D) (cluster member : ℕ) (first : Looks g old now) (r : Result (Saved × ℕ) JournalError)
  where
    pub read_refuses : (g.told → header_fault cluster member (take 15 (g.seen old)) ≡ None) →
        ((at : ℕ) → r ≡ Err (Damaged at) → g.told → Breaks nothing 14 (drop 14 (g.seen now)) at)
        → ((e : JournalError) → r ≡ Err e → (e ≡ DiskFault) ⊎ (e ≡ Memory) ⊎ ((at : ℕ) × (e ≡ Damaged at)))
        → IfErr r (λ e. g.told → IsRefusal cluster member (g.seen old) e)
    read_refuses none broken which = go r broken which
      where
        go : (r : Result (Saved × ℕ) JournalError) →
            ((at : ℕ) → r ≡ Err (Damaged at) → g.told → Breaks nothing 14 (drop 14 (g.seen now)) at) →
            ((e : JournalError) → r ≡ Err e → (e ≡ DiskFault) ⊎ (e ≡ Memory) ⊎ ((at : ℕ) × (e ≡ Damaged at)))
            → IfErr r (λ e. g.told → IsRefusal cluster member (g.seen old) e)
        go (Ok p) broken which = tt
        go (Err e) broken which = λ told.
            records_refuse cluster member (g.seen old) e (none told) (which e refl)
            (λ at is. subst (λ (l : List ℕ). Breaks nothing 14 (drop 14 l) at) (first.stays told).seen (broken at (ap Err is) told))

    pub read_saves : (g.told → g.seen old ≡ header cluster member ++ drop 14 (g.seen old)) →
        IfOk r (λ p. g.told → Reached (g.seen now) p.1 p.0)
        → IfOk r (λ p. g.told → (rest : List ℕ) × (drop p.1 (g.seen now) ≡ 0 ∷ rest))
        → IfOk r (λ p. g.told → Saves cluster member (g.seen old) p.0)
    read_saves right reached shut = go r reached shut
      where
        go : (r : Result (Saved × ℕ) JournalError) → IfOk r (λ p. g.told → Reached (g.seen now) p.1 p.0) →
            IfOk r (λ p. g.told → (rest : List ℕ) × (drop p.1 (g.seen now) ≡ 0 ∷ rest))
            → IfOk r (λ p. g.told → Saves cluster member (g.seen old) p.0)
        go (Err e) reached shut = tt
        go (Ok p) reached shut = λ told.
            let same : g.seen now ≡ g.seen old = (first.stays told).seen in
            opened_saves cluster member (g.seen old) (right told) p.1 p.0
            (subst (λ (l : List ℕ). Reached l p.1 p.0) same (reached told)) (shut told).0 (ap (drop p.1) (sym same) ∙ (shut told).1)

    pub read_ready : Looks g now new → (g.told → g.seen old ≡ header cluster member ++ drop 14 (g.seen old)) →
        IfOk r (λ p. g.told → Reached (g.seen now) p.1 p.0)
        → IfOk r (λ p. g.told → (rest : List ℕ) × (drop p.1 (g.seen now) ≡ 0 ∷ rest))
        → IfOk r (λ p. g.told → Only (g.seen old) (g.may_leave old) → Ready cluster member p.1 (g.seen new) (g.may_leave new))
    read_ready last right reached shut = go r reached shut
      where
        go : (r : Result (Saved × ℕ) JournalError) → IfOk r (λ p. g.told → Reached (g.seen now) p.1 p.0) →
            IfOk r (λ p. g.told → (rest : List ℕ) × (drop p.1 (g.seen now) ≡ 0 ∷ rest))
            → IfOk r (λ p. g.told → Only (g.seen old) (g.may_leave old) → Ready cluster member p.1 (g.seen new) (g.may_leave new))
        go (Err e) reached shut = tt
        go (Ok p) reached shut = λ told only.
            let same : g.seen now ≡ g.seen old = (first.stays told).seen in
            let end : g.seen new ≡ g.seen old = (last.stays told).seen ∙ same in
            let ready = opened_ready cluster member (g.seen old) (right told) p.1 p.0
            (subst (λ (l : List ℕ). Reached l p.1 p.0) same (reached told)) (shut told).0 (ap (drop p.1) (sym same) ∙ (shut told).1)
            (g.may_leave new) (λ c h. only c ((first.stays told).no_more c ((last.stays told).no_more c h))) in
            subst (λ (l : List ℕ). Ready cluster member p.1 l (g.may_leave new)) (sym end) ready

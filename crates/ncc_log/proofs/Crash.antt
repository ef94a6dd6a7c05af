-- What a crash leaves in each of the two steps of a body behind a gate.
use Rattle.std.proofs.Common.{◌≡◌, inl, inr, ℕ, ◌+◌, ◌<◌, List, [], ◌∷◌, ◌++◌, length, get_or, take, drop, sym, ◌∙◌, ap, arith}
use Rattle.std.proofs.Common.{append_assoc, length-append, take-append-drop}
use Rattle.std.proofs.lemmas.List.{take_at, drop_at, drop_more, take_more, length-take-le}
use Rattle.ncc_base.specs.Disk.{Holds, Torn}
use Rattle.ncc_log.specs.Gated.{IsGated, IsOpen}
use Rattle.ncc_log.specs.Shown.{ClosedAt}

module _ (gate : ℕ) (file body : List ℕ) (at : ClosedAt gate file) where
  abbrev front : List ℕ
  front = take gate file

  abbrev behind : List ℕ
  behind = drop (gate + 1 + length body) file

  pub front_long : length front ≡ gate
  front_long = length-take-le gate file (omega (arith, at.within))

  head : take (gate + 1) file ≡ front ++ 0 ∷ []
  head = take_more file gate 1 at.within ∙ ap (λ (g : ℕ). front ++ g ∷ []) at.closed

  pub closed_split : file ≡ front ++ (0 ∷ drop (gate + 1) file)
  closed_split = sym (take-append-drop (gate + 1) file) ∙ ap (λ (l : List ℕ). l ++ drop (gate + 1) file) head
      ∙ append_assoc front (0 ∷ []) (drop (gate + 1) file)

  -- the closed gate stands in each outcome of the first step
  pub torn_closed : (n : ℕ) (c : List ℕ) → Torn (gate + 1) n file c → c ≡ front ++ (0 ∷ drop (gate + 1) c)
  torn_closed n c torn =
      sym (take-append-drop (gate + 1) c) ∙ ap (λ (l : List ℕ). l ++ drop (gate + 1) c) (torn.before ∙ head)
      ∙ append_assoc front (0 ∷ []) (drop (gate + 1) c)

  pub torn_behind : (n : ℕ) (c : List ℕ) → Torn (gate + 1) n file c → IsGated front body c
  torn_behind n c torn = inl (drop (gate + 1) c, torn_closed n c torn)

  pub written_behind : (mid : List ℕ) → Holds file (gate + 1) body mid → mid ≡ front ++ (0 ∷ (body ++ behind))
  written_behind mid holds =
      holds ∙ append_assoc (take (gate + 1) file) body behind ∙ ap (λ (l : List ℕ). l ++ (body ++ behind)) head
      ∙ append_assoc front (0 ∷ []) (body ++ behind)

  -- the body stands whole in each outcome of the second
  pub torn_gate : (mid c : List ℕ) → Holds file (gate + 1) body mid → Torn gate 1 mid c → IsGated front body c
  torn_gate mid c holds torn =
      let is = written_behind mid holds in
      let long : gate < length c = omega (arith, torn.no_shorter, ap length is, length-append front (0 ∷ (body ++ behind)), front_long) in
      let first : take gate c ≡ front = torn.before ∙ ap (λ (l : List ℕ). take gate l) is
      ∙ take_at front (0 ∷ (body ++ behind)) gate front_long in
      let rest : drop (gate + 1) c ≡ body ++ behind =
      torn.after ∙ ap (λ (l : List ℕ). drop (gate + 1) l) (is ∙ sym (append_assoc front (0 ∷ []) (body ++ behind)))
      ∙ drop_at (front ++ 0 ∷ []) (body ++ behind) (gate + 1) (omega (arith, length-append front (0 ∷ []), front_long)) in
      inr (
        get_or c gate 0,
        behind,
        sym (take-append-drop gate c) ∙ ap (λ (l : List ℕ). l ++ drop gate c) first
            ∙ ap (λ (l : List ℕ). front ++ l) (drop_more c gate 0 long ∙ ap (λ (l : List ℕ). get_or c gate 0 ∷ l) rest),
      )

  pub written_gate : (mid new : List ℕ) → Holds file (gate + 1) body mid → Holds mid gate (1 ∷ []) new → IsOpen front body new
  written_gate mid new holds opens =
      let is = written_behind mid holds in
      let first : take gate mid ≡ front = ap (λ (l : List ℕ). take gate l) is ∙ take_at front (0 ∷ (body ++ behind)) gate front_long in
      let rest : drop (gate + 1) mid ≡ body ++ behind =
      ap (λ (l : List ℕ). drop (gate + 1) l) (is ∙ sym (append_assoc front (0 ∷ []) (body ++ behind)))
      ∙ drop_at (front ++ 0 ∷ []) (body ++ behind) (gate + 1) (omega (arith, length-append front (0 ∷ []), front_long)) in (
        behind,
        opens ∙ append_assoc (take gate mid) (1 ∷ []) (drop (gate + 1) mid)
            ∙ ap (λ (l : List ℕ). l ++ (1 ∷ drop (gate + 1) mid)) first ∙ ap (λ (l : List ℕ). front ++ (1 ∷ l)) rest,
      )

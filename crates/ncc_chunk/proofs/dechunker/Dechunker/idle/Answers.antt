use Rattle.std.proofs.Common.{◌≡◌, ℕ, List, [], ◌∷◌, length, refl, sym, ap, ◌∙◌, arith}
use Rattle.std.proofs.lemmas.Bool.{eqb-true, eq-eqb}
use Rattle.ncc_chunk.specs.Inflow.{Inflow}
use Rattle.ncc_chunk.proofs.Handing.{idle_is, idle_back}
use Rattle.ncc_chunk.proofs.dechunker.Dechunker.idle.Goals as goal

no_length : (xs : List ℕ) → length xs ≡ 0 → xs ≡ []
no_length [] e = refl
no_length (x ∷ xs) e = absurd (omega arith)

pub returns-in-Between : goal.returns-in-Between
returns-in-Between c =
    let body = c.self.inside.body in
    let place = sym (ap (λ (s : Inflow). s.place) c.self.view_is) ∙ c.in-Between.is in
    let same = ap (λ (s : Inflow). s.body) c.self.view_is in
    record {
      between = λ stream handed k. (
        λ e. (
            let none = eqb-true body.len 0 (sym c.is_empty.ensures ∙ e) in
            idle_is c.args.self.now place (sym same ∙ no_length body.items (sym body.ok.0 ∙ none)) stream handed k),
        λ e. (
            let none = same ∙ (idle_back c.args.self.now stream handed k e).1 in
            c.is_empty.ensures ∙ eq-eqb body.len 0 (body.ok.0 ∙ ap length none)),
      );
    }

pub returns-in_default : goal.returns-in_default
returns-in_default c = record {
  between = λ stream handed k. (
    λ e. absurd (cc),
    λ e. absurd (c.in_default.not-Between (ap (λ (s : Inflow). s.place) c.self.view_is ∙ (idle_back c.args.self.now stream handed k e).0)),
  );
}

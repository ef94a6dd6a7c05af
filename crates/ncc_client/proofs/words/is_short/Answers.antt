use Rattle.std.proofs.lemmas.Str.{is_utf8-from_IsUtf8}
use Rattle.std.proofs.Common.{rules, subst, ℕ, List}
use Rattle.ncc_client.specs.Words as w
use Rattle.ncc_client.proofs.Named.{short_fits}
use Rattle.ncc_client.proofs.words.is_short.Goals as goal

pub returns-clause-fits : goal.returns-clause-fits
returns-clause-fits c = λ h.
    subst (λ (l : List ℕ). w.fits_text l) c.as_str.ensures.same
    (short_fits c.as_str.result.now (is_utf8-from_IsUtf8 c.as_str.result.now (search rules)) h)

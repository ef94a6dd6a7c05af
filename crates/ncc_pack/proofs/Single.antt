-- A text, a list and a dictionary by themselves.
use Rattle.std.proofs.Common.{◌≡◌, ℕ, ◌+◌, ◌≤◌, Bool, min, List, length, map, sym, ap, ◌∙◌, arith}
use Rattle.ncc_pack.specs.declared.value.Value.{Value}
use Rattle.ncc_pack.specs.declared.value.Value.TheOpen.{Value-F}
use Rattle.ncc_pack.specs.declared.value.Value.TheVariants as v
use Rattle.ncc_pack.specs.Limits.{max_size, max_depth}
use Rattle.ncc_pack.specs.Short.{text, short}
use Rattle.ncc_pack.specs.Fits.{Fit, fit, fit_pair, fits, fits_text, fits_list, fits_dict}
use Rattle.ncc_pack.proofs.Loops.{fit_of, short_text}
use Rattle.ncc_pack.proofs.Sizes.{greatest, stays}

abbrev at_all : Fit → Bool
at_all f = f.levels max_depth

pub fits_of_text : (t : List ℕ) → fits (v.Text t) ≡ fits_text t
fits_of_text t = ap at_all (fit_of (v.Text t) (Value-F.Text t) (v.rolls-Text t))

pub fits_of_list : (xs : List Value) → fits (v.List xs) ≡ fits_list (map fit xs) max_depth
fits_of_list xs = ap at_all (fit_of (v.List xs) (Value-F.List xs) (v.rolls-List xs))

pub fits_of_dict : (ps : List (List ℕ × Value)) → fits (v.Dict ps) ≡ fits_dict (map fit_pair ps) max_depth
fits_of_dict ps = ap at_all (fit_of (v.Dict ps) (Value-F.Dict ps) (v.rolls-Dict ps))

-- a text is too short for a sum that does not fit
pub short_text_len : (t : List ℕ) (n : ℕ) → n ≡ length (text t) → n ≤ max_size + 5 → n ≡ min (length (short (v.Text t))) greatest
short_text_len t n is le = stays n (omega arith) ∙ ap (λ (k : ℕ). min k greatest) (is ∙ ap length (sym (short_text t)))

-- Which values have a spelling (PackStream version 1, "Data types"): their sizes, their depth, their keys and their labels.
use Rattle.std.specs.Prelude.{ℕ, zero, suc, ℤ, pos, negsuc, Bool, true, false, ◌&&◌, nat_lt, nat_le, List, [], length}
use Rattle.std.specs.List.{list_all}
use Rattle.std.specs.Str.{is_utf8}
use Rattle.ncc_pack.specs.declared.value.Value.{Value, fold-Value}
use Rattle.ncc_pack.specs.declared.value.NodeValue.{NodeValue, fold-NodeValue}
use Rattle.ncc_pack.specs.declared.value.Value.TheOpen.{Value-F, NodeValue-F}
use Rattle.ncc_pack.specs.Limits.{max_size, max_depth}
use Rattle.ncc_pack.specs.Keys.{distinct}

abbrev pub fits_i64 : ℤ → Bool
fits_i64 (pos n) = nat_lt n 0x8000_0000_0000_0000
fits_i64 (negsuc n) = nat_lt n 0x8000_0000_0000_0000

abbrev pub fits_text : List ℕ → Bool
fits_text t = nat_le (length t) max_size && is_utf8 t

-- What fits says so for each number of levels that are left, and whether it is a text.
pub record Fit : Type 0 where
  pub levels : ℕ → Bool
  pub is_text : Bool

abbrev pub fits_list : List Fit → ℕ → Bool
fits_list xs zero = false
fits_list xs (suc d) = nat_le (length xs) max_size && list_all (λ f. f.levels d) xs

abbrev pub fits_dict : List (List ℕ × Fit) → ℕ → Bool
fits_dict ps zero = false
fits_dict ps (suc d) = nat_le (length ps) max_size && list_all (λ p. fits_text p.0 && p.1.levels d) ps && distinct [] ps

abbrev pub fits_labels : List Fit → ℕ → Bool
fits_labels xs d = fits_list xs d && list_all (λ f. f.is_text) xs

abbrev pub fits_step : Value-F Fit (ℕ → Bool) → Fit
fits_step Value-F.Null = record { levels = λ d. true; is_text = false }
fits_step (Value-F.Bool b) = record { levels = λ d. true; is_text = false }
fits_step (Value-F.Int z) = record { levels = λ d. fits_i64 z; is_text = false }
fits_step (Value-F.Bytes b) = record { levels = λ d. nat_le (length b) max_size; is_text = false }
fits_step (Value-F.Text t) = record { levels = λ d. fits_text t; is_text = true }
fits_step (Value-F.List xs) = record { levels = fits_list xs; is_text = false }
fits_step (Value-F.Dict ps) = record { levels = fits_dict ps; is_text = false }
fits_step (Value-F.Node n) = record { levels = n; is_text = false }

-- a node takes one level, and its labels and properties another
abbrev pub fits_node_step : NodeValue-F Fit (ℕ → Bool) → ℕ → Bool
fits_node_step n zero = false
fits_node_step n (suc d) = fits_i64 n.id && fits_labels n.labels d && fits_dict n.props d

abbrev pub fit : Value → Fit
fit = fold-Value Fit (ℕ → Bool) fits_step fits_node_step

-- a node fits within so many levels
abbrev pub fits_node : NodeValue → ℕ → Bool
fits_node = fold-NodeValue Fit (ℕ → Bool) fits_step fits_node_step

abbrev pub fit_pair : List ℕ × Value → List ℕ × Fit
fit_pair p = (p.0, fit p.1)

-- a value fits within so many levels
abbrev pub fits_within : Value → ℕ → Bool
fits_within x d = (fit x).levels d

abbrev pub fits : Value → Bool
fits x = fits_within x max_depth

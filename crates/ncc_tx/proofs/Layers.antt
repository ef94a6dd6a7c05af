-- The kinds of a value differ, and a value tells what it was made of.
use Rattle.std.proofs.Common.{◌≡◌, ℕ, List, sym, ap, ◌∙◌}
use Rattle.ncc_pack.specs.declared.value.Value.{Value, out-Value, out-roll-Value}
use Rattle.ncc_pack.specs.declared.value.Value.TheOpen.{Value-F}
use Rattle.ncc_pack.specs.declared.value.Value.TheVariants as v

out_list : (xs : List Value) → out-Value (v.List xs) ≡ Value-F.List xs
out_list xs = ap out-Value (sym (v.rolls-List xs)) ∙ out-roll-Value (Value-F.List xs)

out_dict : (ps : List (List ℕ × Value)) → out-Value (v.Dict ps) ≡ Value-F.Dict ps
out_dict ps = ap out-Value (sym (v.rolls-Dict ps)) ∙ out-roll-Value (Value-F.Dict ps)

out_text : (t : List ℕ) → out-Value (v.Text t) ≡ Value-F.Text t
out_text t = ap out-Value (sym (v.rolls-Text t)) ∙ out-roll-Value (Value-F.Text t)

out_null : out-Value v.Null ≡ Value-F.Null
out_null = ap out-Value (sym v.rolls-Null) ∙ out-roll-Value Value-F.Null

pub list_same : (xs ys : List Value) → v.List xs ≡ v.List ys → xs ≡ ys
list_same xs ys e = let o = sym (out_list xs) ∙ ap out-Value e ∙ out_list ys in cc

pub dict_same : (ps qs : List (List ℕ × Value)) → v.Dict ps ≡ v.Dict qs → ps ≡ qs
dict_same ps qs e = let o = sym (out_dict ps) ∙ ap out-Value e ∙ out_dict qs in cc

pub text_same : (t u : List ℕ) → v.Text t ≡ v.Text u → t ≡ u
text_same t u e = let o = sym (out_text t) ∙ ap out-Value e ∙ out_text u in cc

pub null_is_no_list : (xs : List Value) → v.Null ≡ v.List xs → ⊥
null_is_no_list xs e = let o = sym out_null ∙ ap out-Value e ∙ out_list xs in cc

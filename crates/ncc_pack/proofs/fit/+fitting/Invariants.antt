use Rattle.std.proofs.Common.{◌≡◌, ◌-◌, ◌&&◌, true, take}
use Rattle.std.specs.List.{list_all}
use Rattle.ncc_pack.specs.Fits.{fits_text, fits_within}
use Rattle.ncc_pack.proofs.fit.+fitting.Given as goal

abbrev pub invariant-list_fits-loop-value : goal.invariant-list_fits-loop-value
invariant-list_fits-loop-value l = list_all (λ x. fits_within x (l.depth - 1)) (take l.value-index l.value-items) ≡ true

abbrev pub invariant-pairs_fit-loop-pair : goal.invariant-pairs_fit-loop-pair
invariant-pairs_fit-loop-pair l = list_all (λ p. fits_text p.0 && fits_within p.1 l.depth) (take l.pair-index l.pair-items) ≡ true

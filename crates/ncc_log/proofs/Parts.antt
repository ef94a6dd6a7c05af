-- A part of a file that is held.
use Rattle.std.proofs.Common.{◌≡◌, ℕ, ◌+◌, ◌-◌, ◌≤◌, List, length, take, drop, ap, ◌∙◌, arith, length-take}
use Rattle.std.proofs.lemmas.List.{drop-drop, drop-take, take-take}
use Rattle.ncc_log.specs.Reading.{IsPart}

pub part_there : (file held : List ℕ) (from at count : ℕ) → IsPart file from held → from ≤ at → (at - from) + count ≤ length held →
    take count (drop (at - from) held) ≡ take count (drop at file)
part_there file held from at count p le fits =
    let m : ℕ = at - from in
    let rest : List ℕ = drop from file in
    let few : m + count ≤ p.count = omega (arith, fits, ap length p.same, length-take p.count rest) in
    let j : ℕ = p.count - m in
    let split : p.count ≡ m + j = omega (arith, few) in
    let whole : held ≡ take (m + j) rest = p.same ∙ ap (λ (n : ℕ). take n rest) split in
    ap (λ (l : List ℕ). take count (drop m l)) whole ∙ ap (take count) (drop-take m j rest)
    ∙ take-take count j (drop m rest) (omega (arith, few)) ∙ ap (take count) (drop-drop m from file)
    ∙ ap (λ (n : ℕ). take count (drop n file)) (omega (arith, le))

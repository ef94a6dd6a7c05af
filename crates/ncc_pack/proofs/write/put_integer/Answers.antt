use Rattle.std.proofs.Common.{◌≡◌, false, ℕ, List, [], ◌∷◌, ◌++◌, append_assoc, refl, sym, ap, ◌∙◌, w64}
use Rattle.std.specs.Int.{to_be_bytes, cast_unsigned}
use Rattle.std.specs.Prelude.{◌&&◌, pos, negsuc, int_le, int_lt}
use Rattle.std.proofs.lemmas.Int.{to_z-of_z}
use Rattle.ncc_pack.proofs.Fitting.{and_false}
use Rattle.ncc_pack.proofs.Room.{in_eight}
use Rattle.ncc_pack.proofs.write.put_integer.Goals as goal
use Rattle.ncc_pack.proofs.write.put_integer.Goals.{
  else-number-geminus2147483648-via-then-number-geminus2147483648+else-number-lt2147483648,
  else-number-geminus2147483648-via-else-number-geminus2147483648,
}

pub returns-clause-items : goal.returns-clause-items
returns-clause-items c =
    let same = to_z-of_z w64 c.args.number c.ranges.number in
    let wide : (int_le (negsuc 0x7FFF_FFFF) c.args.number && int_lt c.args.number (pos 0x8000_0000)) ≡ false =
    elim c.else-number-geminus2147483648.branch [
      | else-number-geminus2147483648-via-then-number-geminus2147483648+else-number-lt2147483648 w ↦ rw
          (rw same at w.if-number-lt2147483648.false) (and_false _)
      | else-number-geminus2147483648-via-else-number-geminus2147483648 w ↦ rw (rw same at w.if-number-geminus2147483648.false) refl
    ] in
    let bytes : c.to_be_bytes-2.result ≡ to_be_bytes w64 (cast_unsigned w64 c.args.number) = rw same at c.to_be_bytes-2.ensures in
    let front = ap (λ (t : List ℕ). t ++ c.to_be_bytes-2.result) c.append_one-2.ensures.items
    ∙ append_assoc c.args.into.now.items (0xCB ∷ []) c.to_be_bytes-2.result in
    c.append-2.ensures.items ∙ front ∙ ap (λ (t : List ℕ). c.args.into.now.items ++ t)
    (ap (λ (t : List ℕ). 0xCB ∷ t) bytes ∙ sym (in_eight c.args.number wide))

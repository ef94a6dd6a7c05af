-- What a PULL makes of a place, and what a pull that broke off leaves.
use Rattle.std.proofs.Common.{◌≡◌, ℕ, Bool, List, ◌++◌, length, take, refl, sym, ap, ◌∙◌, append_assoc}
use Rattle.std.specs.Prelude.{Result, Ok, Err, OnOk}
use Rattle.std.proofs.lemmas.List.{take_at}
use Rattle.ncc_pack.specs.Writing.{Begins}
use Rattle.ncc_session.specs.declared.checks.Wish.{Wish}
use Rattle.ncc_session.specs.Question.{Row, bytes_of}
use Rattle.ncc_session.specs.Core.{Tx, Situation}
use Rattle.ncc_session.specs.Took.{Took}
use Rattle.ncc_session.specs.Turns.{rows_at, left_in, taken, are_left, pulled, records, goes_on, pulls_rows, pulls_wish}
use Rattle.ncc_session.proofs.Shares.{outputs_join}

module _ (place to : Situation) (tx after : Tx) (keep : Bool) (wish : Wish) (left rows : List Row) (more : Bool) (before between out : List ℕ)
    (left_is : left ≡ rows_at tx.told wish.number wish.next) (rows_are : rows ≡ taken wish.count left)
    (more_is : more ≡ are_left wish.count left) (behind : between ≡ before ++ bytes_of (records keep rows))
    (noted : after ≡ pulled tx wish (length rows) more) where
  same_turn : pulls_rows place tx keep wish rows more ≡ pulls_wish place tx keep wish
  same_turn =
      ap (λ (r : List Row). pulls_rows place tx keep wish r more) (rows_are ∙ ap (taken wish.count) left_is)
      ∙ ap (λ (m : Bool). pulls_rows place tx keep wish (taken wish.count (left_in tx wish)) m)
      (more_is ∙ ap (are_left wish.count) left_is)

  took_rows : Took (goes_on place after wish.number more) between to out → Took (pulls_wish place tx keep wish) before to out
  took_rows took =
      let k : Took (goes_on place (pulled tx wish (length rows) more) wish.number more) between to out = rw noted at took in
      rw (← same_turn) (record {
        place_is = k.place_is;
        out_is = k.out_is
            ∙ ap (λ (v : List ℕ). v ++ bytes_of (goes_on place (pulled tx wish (length rows) more) wish.number more).written) behind
            ∙ append_assoc before (bytes_of (records keep rows)) _
            ∙ ap (λ (v : List ℕ). before ++ v) (sym (outputs_join (records keep rows) _));
      })

  pub pulled_rows : {X E : Type 0} (result : Result X E) → OnOk result (Took (goes_on place after wish.number more) between to out)
      → OnOk result (Took (pulls_wish place tx keep wish) before to out)
  pulled_rows (Ok x) took = took_rows took
  pulled_rows (Err e) took = tt

-- what was written is cut off again
pub cut_back : (old new : List ℕ) → Begins old new → take (length old) new ≡ old
cut_back old new begins = rw begins.1 (take_at old begins.0 (length old) refl)

-- What is whole among the bytes of a link, as more bytes come; and how many items of it are taken.
use Rattle.std.proofs.Common.{◌≡◌, ℕ, ◌+◌, ◌≤◌, Bool, true, false, List, [], ◌∷◌, ◌++◌, length, map, take, drop}
use Rattle.std.proofs.Common.{refl, sym, ap, ◌∙◌, arith, append_assoc, append-nil}
use Rattle.std.specs.Prelude.{if◌then◌else◌, nat_lt}
use Rattle.std.proofs.lemmas.List.{map-append, length-append, take-append-le, drop-append-le}
use Rattle.ncc_stream.specs.Stream.{behind}
use Rattle.ncc_stream.proofs.Going.{behind_twice}
use Rattle.ncc_chunk.specs.Messages.{messages_of, rest_of, is_too_long}
use Rattle.ncc_chunk.proofs.Parts.{functions_go_on, no_more_past_limit}
use Rattle.ncc_driver.specs.declared.config.SessionConfig.{SessionConfig}
use Rattle.ncc_driver.specs.declared.link.Item.{Item}
use Rattle.ncc_driver.specs.declared.link.Item.TheVariants.{Shaken, Message}
use Rattle.ncc_driver.specs.declared.action.Action.{Action}
use Rattle.ncc_driver.specs.Work.{Job}
use Rattle.ncc_driver.specs.Session.{Listening, Standing, answered, end_of, stream_items, items_of}
use Rattle.ncc_driver.proofs.LawsTurns.{is_asking}
use Rattle.ncc_driver.proofs.LawsHearing.{next, hear, hear_asked, hear_not, walk}

-- ---- items

-- the items of more bytes begin with these
pub record Goes (items whole : List Item) : Type 0 where
  pub more : List Item
  pub is : whole ≡ items ++ more

stream_goes_by : (stream bytes : List ℕ) (long : Bool) → is_too_long stream ≡ long
    → Goes (stream_items stream) (stream_items (stream ++ bytes))
stream_goes_by stream bytes true e =
    let n = no_more_past_limit stream bytes e in
    record {
      more = [];
      is =
          ap (λ (ms : List (List ℕ)). map Message ms ++ end_of (is_too_long (stream ++ bytes))) n.0
          ∙ ap (λ (b : Bool). map Message (messages_of stream) ++ end_of b) (n.1 ∙ sym e)
          ∙ sym (append-nil (stream_items stream));
    }
stream_goes_by stream bytes false e =
    let later = messages_of (rest_of stream ++ bytes) in
    let end = end_of (is_too_long (stream ++ bytes)) in
    record {
      more = map Message later ++ end;
      is =
          ap (λ (ms : List (List ℕ)). map Message ms ++ end) (functions_go_on stream bytes).0
          ∙ ap (λ (is : List Item). is ++ end) (map-append Message (messages_of stream) later)
          ∙ append_assoc (map Message (messages_of stream)) (map Message later) end
          ∙ ap (λ (is : List Item). is ++ (map Message later ++ end)) (sym (append-nil (map Message (messages_of stream))))
          ∙ ap (λ (b : Bool). (map Message (messages_of stream) ++ end_of b) ++ (map Message later ++ end)) (sym e);
    }

stream_goes : (stream bytes : List ℕ) → Goes (stream_items stream) (stream_items (stream ++ bytes))
stream_goes stream bytes = stream_goes_by stream bytes (is_too_long stream) refl

long_enough : (came bytes : List ℕ) → nat_lt (length came) 4 ≡ false → (4 ≤ length came) × (nat_lt (length (came ++ bytes)) 4 ≡ false)
long_enough came bytes e = let l = length-append came bytes in (grind arith, grind arith)

abbrev items_if : List ℕ → Bool → List Item
items_if came short = if short then [] else Shaken (take 4 came) ∷ stream_items (drop 4 came)

items_go_by : (came bytes : List ℕ) (short : Bool) → nat_lt (length came) 4 ≡ short → Goes (items_if came short) (items_of (came ++ bytes))
items_go_by came bytes true e = record { more = items_of (came ++ bytes); is = refl }
items_go_by came bytes false e =
    let l = long_enough came bytes e in
    let g = stream_goes (drop 4 came) bytes in
    record {
      more = g.more;
      is =
          ap (λ (b : Bool). items_if (came ++ bytes) b) l.1
          ∙ ap (λ (x : List ℕ). Shaken x ∷ stream_items (drop 4 (came ++ bytes))) (take-append-le 4 came bytes l.0)
          ∙ ap (λ (x : List ℕ). Shaken (take 4 came) ∷ stream_items x) (drop-append-le 4 came bytes l.0)
          ∙ ap (λ (is : List Item). Shaken (take 4 came) ∷ is) g.is;
    }

pub items_go : (came bytes : List ℕ) → Goes (items_of came) (items_of (came ++ bytes))
items_go came bytes = items_go_by came bytes (nat_lt (length came) 4) refl

-- ---- what is taken of them

pub not_both : (b : Bool) → b ≡ true → b ≡ false → ⊥
not_both b e f = absurd (cc)

module _ (config : SessionConfig) (job : Job) (now : ℕ) where
  -- each item that is taken is counted
  pub hear_counts : (l : Listening) (items : List Item)
      → let r = hear config job now l items in r.core.taken + length r.items ≡ l.taken + length items
  hear_counts = walk config job now (λ l items r. r.core.taken + length r.items ≡ l.taken + length items)
      (λ l. refl) (λ l asked item items e ih. omega arith) (λ l item items f. refl)

  -- A session that still waits for an answer has taken all.
  pub hear_rests : (l : Listening) (items : List Item) → is_asking (hear config job now l items).core.place.core.stage ≡ true
      → (hear config job now l items).items ≡ []
  hear_rests = walk config job now (λ l items r. is_asking r.core.place.core.stage ≡ true → r.items ≡ [])
      (λ l e. refl) (λ l asked item items e ih. ih) (λ l item items f e. absurd (not_both _ e f))

  -- It goes on with more where it still waits.
  pub hear_on : (l : Listening) (items more : List Item) → let r = hear config job now l items in is_asking r.core.place.core.stage ≡ true
      → hear config job now l (items ++ more) ≡ behind r.written (hear config job now r.core more)
  hear_on l items more = walk config job now
      (λ l items r. is_asking r.core.place.core.stage ≡ true
      → hear config job now l (items ++ more) ≡ behind r.written (hear config job now r.core more))
      (λ l e. refl)
      (λ l asked item items e ih g.
      let actions = (answered config job now l asked item).actions in
      let k = next config job now l asked item in
      hear_asked config job now l asked item (items ++ more) e
      ∙ ap (λ (r : Standing). behind actions r) (ih g)
      ∙ behind_twice actions (hear config job now k items).written _)
      (λ l item items f e. absurd (not_both _ e f)) l items

  -- And it takes no more where it does not.
  pub hear_off : (l : Listening) (items more : List Item) → let r = hear config job now l items in is_asking r.core.place.core.stage ≡ false
      → let u = hear config job now l (items ++ more) in (u.core ≡ r.core) × (u.written ≡ r.written)
  hear_off l items more = walk config job now
      (λ l items r. is_asking r.core.place.core.stage ≡ false
      → let u = hear config job now l (items ++ more) in (u.core ≡ r.core) × (u.written ≡ r.written))
      (λ l f. let h = hear_not config job now l more f in (ap (λ (r : Standing). r.core) h, ap (λ (r : Standing). r.written) h))
      (λ l asked item items e ih g.
      let actions = (answered config job now l asked item).actions in
      let h = hear_asked config job now l asked item (items ++ more) e in (
        ap (λ (r : Standing). r.core) h ∙ (ih g).0,
        ap (λ (r : Standing). r.written) h ∙ ap (λ (w : List Action). actions ++ w) (ih g).1,
      ))
      (λ l item items f g.
      let h = hear_not config job now l (item ∷ items ++ more) f in
      (ap (λ (r : Standing). r.core) h, ap (λ (r : Standing). r.written) h))
      l items

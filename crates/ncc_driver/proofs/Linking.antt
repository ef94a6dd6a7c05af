-- What is kept of a link, and which items come on it.
use Rattle.std.proofs.Common.{◌≡◌, ◌⊎◌, inl, inr, ℕ, zero, suc, ◌+◌, ◌-◌, ◌<◌, ◌≤◌, ◌^◌, Bool, true, false, List, [], ◌∷◌, ◌++◌}
use Rattle.std.proofs.Common.{length, map, take, drop, refl, sym, ap, ◌∙◌, subst, arith, append_assoc, append-nil, length-append, min}
use Rattle.std.specs.Prelude.{Some, None, nat_lt}
use Rattle.std.proofs.lemmas.Bool.{cases_lt}
use Rattle.std.proofs.lemmas.List.{take_all, drop_all, take_min, take-append-le, drop-append-le, length-take, length-take-le, drop-drop}
use Rattle.std.proofs.Math.Seq.{drop-nil, take-append-add, drop-append-add}
use Rattle.ncc_chunk.specs.Chunks.{Framed, PastLimit, EndsAfter, IsTooLongAfter}
use Rattle.ncc_chunk.specs.Inflow.{Inflow, Stands, Feeds}
use Rattle.ncc_chunk.specs.Messages.{messages_of, rest_of, is_too_long, parts_by, front_by}
use Rattle.ncc_chunk.proofs.Parts.{functions_are_all, tests_too_long, dechunker_has_messages}
use Rattle.ncc_driver.specs.declared.link.Item.{Item}
use Rattle.ncc_driver.specs.declared.link.Item.TheVariants.{Shaken, Message, TooLong}
use Rattle.ncc_driver.specs.Line.{Line}
use Rattle.ncc_driver.specs.Session.{end_of, stream_items, items_of}
use Rattle.ncc_driver.specs.Talk.{Keeps}
use Rattle.ncc_driver.specs.Hearing.{FeedsLine, HandsItem, KeepsBehind, TakesItem, shake_item}

-- ---- the items of a stream behind the messages that were handed out

drop_front : {A B : Type 0} (f : A → B) (xs ys : List A) (zs : List B) → drop (length xs) (map f (xs ++ ys) ++ zs) ≡ map f ys ++ zs
drop_front f [] ys zs = refl
drop_front f (x ∷ xs) ys zs = drop_front f xs ys zs

behind_by : (stream : List ℕ) (handed ready : List (List ℕ)) → messages_of stream ≡ handed ++ ready
    → drop (length handed) (stream_items stream) ≡ map Message ready ++ end_of (is_too_long stream)
behind_by stream handed ready e =
    ap (λ (ms : List (List ℕ)). drop (length handed) (map Message ms ++ end_of (is_too_long stream))) e
    ∙ drop_front Message handed ready (end_of (is_too_long stream))

behind_ready : (d : Inflow) (stream : List ℕ) (handed : List (List ℕ)) → Stands d stream handed
    → drop (length handed) (stream_items stream) ≡ map Message d.ready ++ end_of (is_too_long stream)
behind_ready d stream handed k = behind_by stream handed d.ready (dechunker_has_messages d stream handed k)

-- a message is the next item where the dechunker hands it out
behind_next : (e : Inflow) (stream m : List ℕ) (handed : List (List ℕ)) → Stands e stream (handed ++ m ∷ [])
    → drop (length handed) (stream_items stream) ≡ Message m ∷ drop (length (handed ++ m ∷ [])) (stream_items stream)
behind_next e stream m handed n =
    behind_by stream handed (m ∷ e.ready)
    (dechunker_has_messages e stream (handed ++ m ∷ []) n ∙ append_assoc handed (m ∷ []) e.ready)
    ∙ ap (λ (is : List Item). Message m ∷ is) (sym (behind_ready e stream (handed ++ m ∷ []) n))

long_or_not : (b : Bool) → (b ≡ true) ⊎ (b ≡ false)
long_or_not true = inl refl
long_or_not false = inr refl

handed_all : (stream : List ℕ) (handed : List (List ℕ)) (rest : List ℕ) → Framed stream handed rest → messages_of stream ≡ handed ++ []
handed_all stream handed rest f = sym (functions_are_all stream rest handed f).0 ∙ sym (append-nil handed)

-- none is left where the stream ends behind them
behind_end : (stream : List ℕ) (handed : List (List ℕ)) → EndsAfter stream handed → drop (length handed) (stream_items stream) ≡ []
behind_end stream handed e = elim (long_or_not (is_too_long stream)) [
  | inl l ↦ (
      let o = (tests_too_long stream).0 l in
      let a = functions_are_all stream e.0 handed e.1 in
      let b = functions_are_all stream o.0 (messages_of stream) o.1 in
      absurd (e.2 (subst PastLimit (b.1 ∙ sym a.1) o.2)))
  | inr l ↦ behind_by stream handed [] (handed_all stream handed e.0 e.1) ∙ ap end_of l
]

-- one is left where it goes on with a message that is too long
behind_long : (stream : List ℕ) (handed : List (List ℕ)) → IsTooLongAfter stream handed
    → drop (length handed) (stream_items stream) ≡ TooLong ∷ []
behind_long stream handed e =
    let all = (functions_are_all stream e.0 handed e.1).0 in
    let long : is_too_long stream ≡ true =
    (tests_too_long stream).1 (subst (λ (ms : List (List ℕ)). IsTooLongAfter stream ms) all e) in
    behind_by stream handed [] (handed_all stream handed e.0 e.1) ∙ ap end_of long

none_of_none : stream_items [] ≡ []
unfolding messages_of is_too_long rest_of parts_by front_by
none_of_none = refl

-- ---- the items of a link

whole_items : (came : List ℕ) → 4 ≤ length came → items_of came ≡ Shaken (take 4 came) ∷ stream_items (drop 4 came)
whole_items came le = let e : nat_lt (length came) 4 ≡ false = grind arith in rw e refl

part_items : (came : List ℕ) → length came < 4 → items_of came ≡ []
part_items came lt = let e : nat_lt (length came) 4 ≡ true = grind arith in rw e refl

-- behind the four bytes, the items are those of the stream, also where the four have not come
later_or : (came : List ℕ) (n : ℕ) → (length came < 4) ⊎ (4 ≤ length came)
    → drop (suc n) (items_of came) ≡ drop n (stream_items (drop 4 came))
later_or came n (inl lt) =
    let none : stream_items (drop 4 came) ≡ [] = ap stream_items (drop_all 4 came (omega arith)) ∙ none_of_none in
    rw (part_items came lt, none, drop-nil {A = Item} n) refl
later_or came n (inr le) = ap (λ (is : List Item). drop (suc n) is) (whole_items came le)

later_items : (came : List ℕ) (n : ℕ) → drop (suc n) (items_of came) ≡ drop n (stream_items (drop 4 came))
later_items came n = later_or came n (cases_lt (length came) 4)

-- ---- more that came

drop_min_or : (n : ℕ) (xs : List ℕ) → (n < length xs) ⊎ (length xs ≤ n) → drop (min n (length xs)) xs ≡ drop n xs
drop_min_or n xs (inl lt) = let e : min n (length xs) ≡ n = omega arith in rw e refl
drop_min_or n xs (inr le) = drop_all (min n (length xs)) xs (omega arith) ∙ sym (drop_all n xs le)

drop_min : (n : ℕ) (xs : List ℕ) → drop (min n (length xs)) xs ≡ drop n xs
drop_min n xs = drop_min_or n xs (cases_lt n (length xs))

-- the piece is cut where the four bytes are whole
front_or : (came piece : List ℕ) → (length came < 4) ⊎ (4 ≤ length came)
    → take 4 came ++ take (4 - length (take 4 came)) piece ≡ take 4 (came ++ piece)
front_or came piece (inl lt) =
    let all : take 4 came ≡ came = take_all 4 came (omega arith) in
    let e : length came + (4 - length came) ≡ 4 = omega arith in
    rw all (sym (take-append-add came piece (4 - length came)) ∙ ap (λ (n : ℕ). take n (came ++ piece)) e)
front_or came piece (inr le) =
    let n : 4 - length (take 4 came) ≡ 0 = omega (arith, length-take-le 4 came le) in
    rw n (append-nil (take 4 came) ∙ sym (take-append-le 4 came piece le))

back_or : (came piece : List ℕ) → (length came < 4) ⊎ (4 ≤ length came)
    → drop 4 came ++ drop (4 - length (take 4 came)) piece ≡ drop 4 (came ++ piece)
back_or came piece (inl lt) =
    let all : take 4 came ≡ came = take_all 4 came (omega arith) in
    let none : drop 4 came ≡ [] = drop_all 4 came (omega arith) in
    let e : length came + (4 - length came) ≡ 4 = omega arith in
    rw (all, none) (sym (drop-append-add came piece (4 - length came)) ∙ ap (λ (n : ℕ). drop n (came ++ piece)) e)
back_or came piece (inr le) =
    let n : 4 - length (take 4 came) ≡ 0 = omega (arith, length-take-le 4 came le) in
    rw n (sym (drop-append-le 4 came piece le))

fed_line_of : (old new : Line) (piece front rest : List ℕ) (want m n : ℕ) → want ≡ min m (length piece) → m ≡ 4 - n
    → n ≡ length old.shake → front ≡ take want piece → rest ≡ drop want piece → new.shake ≡ old.shake ++ front
    → Feeds old.inflow rest new.inflow
    → new.taken ≡ old.taken → FeedsLine old piece new
fed_line_of old new piece front rest want m n w l h f r s feeds t came taken k =
    let k' : ℕ = 4 - length (take 4 came) in
    let n' : n ≡ length (take 4 came) = h ∙ ap (λ (x : List ℕ). length x) k.shake_is in
    let w' : want ≡ min k' (length piece) = w ∙ ap (λ (x : ℕ). min x (length piece)) (l ∙ ap (λ (x : ℕ). 4 - x) n') in
    let f' : front ≡ take k' piece = f ∙ ap (λ (x : ℕ). take x piece) w' ∙ take_min k' piece in
    let r' : rest ≡ drop k' piece = r ∙ ap (λ (x : ℕ). drop x piece) w' ∙ drop_min k' piece in
    let split = cases_lt (length came) 4 in
    let back : drop 4 came ++ rest ≡ drop 4 (came ++ piece) = ap (λ (x : List ℕ). drop 4 came ++ x) r' ∙ back_or came piece split in
    record {
      shake_is = s ∙ ap (λ (x : List ℕ). x ++ front) k.shake_is ∙ ap (λ (x : List ℕ). take 4 came ++ x) f' ∙ front_or came piece split;
      handed = k.handed;
      stands = subst (λ (x : List ℕ). Stands new.inflow x k.handed) back (feeds (drop 4 came) k.handed k.stands);
      count = k.count;
      taken_is = t ∙ k.taken_is;
    }

-- ---- the next item

-- the four bytes are next
shake_whole : (shake : List ℕ) (item : Item) (b : Bool) → nat_lt (length shake) 4 ≡ b → Some item ≡ shake_item shake
    → (item ≡ Shaken shake) × (nat_lt (length shake) 4 ≡ false)
shake_whole shake item true e h = let f : Some item ≡ None = h ∙ rw e refl in absurd (cc)
shake_whole shake item false e h = let f : Some item ≡ Some (Shaken shake) = h ∙ rw e refl in (cc, e)

shake_part : (shake : List ℕ) (b : Bool) → nat_lt (length shake) 4 ≡ b → None ≡ shake_item shake → nat_lt (length shake) 4 ≡ true
shake_part shake true e h = e
shake_part shake false e h = let f : None ≡ Some (Shaken shake) = h ∙ rw e refl in absurd (cc)

four_come : (came : List ℕ) → nat_lt (length (take 4 came)) 4 ≡ false → 4 ≤ length came
four_come came e =
    let le : 4 ≤ length (take 4 came) = grind arith in omega (arith, length-take 4 came)

four_wanting : (came : List ℕ) → nat_lt (length (take 4 came)) 4 ≡ true → length came < 4
four_wanting came e =
    let lt : length (take 4 came) < 4 = grind arith in omega (arith, length-take 4 came)

abbrev grown : Line → Inflow → ℕ → Line
grown old inflow taken = record { shake = old.shake; inflow = inflow; taken = taken }

first_some : (old : Line) (inflow : Inflow) (taken : ℕ) (item : Item) → Some item ≡ shake_item old.shake → inflow ≡ old.inflow
    → taken ≡ min (old.taken + 1) (2 ^ 64 - 1) → (came : List ℕ) → Keeps old came 0
    → (items_of came ≡ item ∷ drop 1 (items_of came)) × KeepsBehind item (grown old inflow taken) came 1
first_some old inflow taken item e d t came k =
    let w = shake_whole old.shake item (nat_lt (length old.shake) 4) refl e in
    let le : 4 ≤ length came = four_come came (ap (λ (x : List ℕ). nat_lt (length x) 4) (sym k.shake_is) ∙ w.1) in
    let is : item ≡ Shaken (take 4 came) = w.0 ∙ ap (λ (x : List ℕ). Shaken x) k.shake_is in
    let keeps : Keeps (grown old inflow taken) came 1 = record {
      shake_is = k.shake_is;
      handed = k.handed;
      stands = subst (λ (x : Inflow). Stands x (drop 4 came) k.handed) (sym d) k.stands;
      count = k.count ∙ omega arith;
      taken_is = let z = k.taken_is in omega arith;
    } in (
      whole_items came le ∙ ap (λ (x : Item). x ∷ stream_items (drop 4 came)) (sym is)
          ∙ ap (λ (is : List Item). item ∷ is) (sym (later_items came 0)),
      subst (λ (x : Item). KeepsBehind x (grown old inflow taken) came 1) (sym is) keeps,
    )

-- behind the four bytes
abbrev Later : Item → Line → List ℕ → ℕ → Type 0
Later item new came m =
    (drop (suc m) (items_of came) ≡ item ∷ drop (suc (suc m)) (items_of came)) × KeepsBehind item new came (suc (suc m))

one_longer : (handed : List (List ℕ)) (message : List ℕ) → length (handed ++ message ∷ []) ≡ suc (length handed)
one_longer handed message = omega (arith, length-append handed (message ∷ []))

later_some : (old : Line) (inflow : Inflow) (taken : ℕ) (item : Item) → HandsItem old.inflow (Some item) inflow
    → taken ≡ min (old.taken + 1) (2 ^ 64 - 1) → (came : List ℕ) (m : ℕ) → Keeps old came (suc m)
    → Later item (grown old inflow taken) came m
later_some old inflow taken (Shaken bytes) h t came m k = absurd h
later_some old inflow taken (Message message) h t came m k =
    let stream = drop 4 came in
    let n : length k.handed ≡ m = let c = k.count in omega arith in
    let n' : length (k.handed ++ message ∷ []) ≡ suc m = one_longer k.handed message ∙ ap (λ (x : ℕ). suc x) n in
    let stands = h stream k.handed k.stands in
    let next : drop m (stream_items stream) ≡ Message message ∷ drop (suc m) (stream_items stream) =
    ap (λ (x : ℕ). drop x (stream_items stream)) (sym n) ∙ behind_next inflow stream message k.handed stands
    ∙ ap (λ (x : ℕ). Message message ∷ drop x (stream_items stream)) n' in (
      later_items came m ∙ next ∙ ap (λ (is : List Item). Message message ∷ is) (sym (later_items came (suc m))),
      record {
        shake_is = k.shake_is;
        handed = k.handed ++ message ∷ [];
        stands = stands;
        count = n' ∙ omega arith;
        taken_is = let z = k.taken_is in omega arith;
      },
    )
later_some old inflow taken TooLong h t came m k =
    let stream = drop 4 came in
    let n : length k.handed ≡ m = let c = k.count in omega arith in
    let next : drop m (stream_items stream) ≡ TooLong ∷ [] =
    ap (λ (x : ℕ). drop x (stream_items stream)) (sym n) ∙ behind_long stream k.handed (h stream k.handed k.stands) in
    let e : m + 1 ≡ suc m = omega arith in
    let none : drop (suc m) (stream_items stream) ≡ [] =
    ap (λ (x : ℕ). drop x (stream_items stream)) (sym e) ∙ sym (drop-drop 1 m (stream_items stream))
    ∙ ap (λ (is : List Item). drop 1 is) next in
    (later_items came m ∙ next ∙ ap (λ (is : List Item). TooLong ∷ is) (sym (later_items came (suc m) ∙ none)), tt)

-- no item is taken yet, or some are
first_or_later : (t n : ℕ) → t ≡ min n (2 ^ 64 - 1) → ((t ≡ 0) × (n ≡ 0)) ⊎ ((0 < t) × ((m : ℕ) × (n ≡ suc m)))
first_or_later t zero e = inl (e ∙ omega arith, refl)
first_or_later t (suc m) e = inr (omega arith, (m, refl))

takes_some_of : (old : Line) (inflow : Inflow) (taken : ℕ) (item : Item)
    → (old.taken ≡ 0 → (Some item ≡ shake_item old.shake) × (inflow ≡ old.inflow))
    → (0 < old.taken → HandsItem old.inflow (Some item) inflow) → taken ≡ min (old.taken + 1) (2 ^ 64 - 1)
    → TakesItem old (Some item) (grown old inflow taken)
takes_some_of old inflow taken item first later t came n k = elim (first_or_later old.taken n k.taken_is) [
  | inl z ↦ (
      let f = first z.0 in
      let r = first_some old inflow taken item f.0 f.1 t came (subst (λ (x : ℕ). Keeps old came x) z.1 k) in
      subst (λ (x : ℕ). (drop x (items_of came) ≡ item ∷ drop (x + 1) (items_of came))
      × KeepsBehind item (grown old inflow taken) came (x + 1)) (sym z.1) r)
  | inr z ↦ (
      let r = later_some old inflow taken item (later z.0) t came z.1.0 (subst (λ (x : ℕ). Keeps old came x) z.1.1 k) in
      let e : suc z.1.0 + 1 ≡ suc (suc z.1.0) = omega arith in
      subst (λ (x : ℕ). (drop x (items_of came) ≡ item ∷ drop (x + 1) (items_of came))
      × KeepsBehind item (grown old inflow taken) came (x + 1)) (sym z.1.1)
      (subst (λ (x : ℕ). (drop (suc z.1.0) (items_of came) ≡ item ∷ drop x (items_of came))
      × KeepsBehind item (grown old inflow taken) came x) (sym e) r))
]

kept_still : (old : Line) (inflow : Inflow) (came : List ℕ) (n : ℕ) → inflow ≡ old.inflow → Keeps old came n
    → Keeps (grown old inflow old.taken) came n
kept_still old inflow came n d k = record {
  shake_is = k.shake_is;
  handed = k.handed;
  stands = subst (λ (x : Inflow). Stands x (drop 4 came) k.handed) (sym d) k.stands;
  count = k.count;
  taken_is = k.taken_is;
}

first_none : (old : Line) (came : List ℕ) → None ≡ shake_item old.shake → Keeps old came 0 → items_of came ≡ []
first_none old came e k =
    let w = shake_part old.shake (nat_lt (length old.shake) 4) refl e in
    part_items came (four_wanting came (ap (λ (x : List ℕ). nat_lt (length x) 4) (sym k.shake_is) ∙ w))

later_none : (old : Line) (came : List ℕ) (m : ℕ)
    → ((stream : List ℕ) (handed : List (List ℕ)) → Stands old.inflow stream handed → EndsAfter stream handed)
    → Keeps old came (suc m) → drop (suc m) (items_of came) ≡ []
later_none old came m h k =
    let n : length k.handed ≡ m = let c = k.count in omega arith in
    later_items came m ∙ ap (λ (x : ℕ). drop x (stream_items (drop 4 came))) (sym n)
    ∙ behind_end (drop 4 came) k.handed (h (drop 4 came) k.handed k.stands)

takes_none_of : (old : Line) (inflow : Inflow) → (old.taken ≡ 0 → (None ≡ shake_item old.shake) × (inflow ≡ old.inflow))
    → (0 < old.taken → HandsItem old.inflow None inflow) → TakesItem old None (grown old inflow old.taken)
takes_none_of old inflow first later came n k = elim (first_or_later old.taken n k.taken_is) [
  | inl z ↦ (
      let f = first z.0 in
      let none = first_none old came f.0 (subst (λ (x : ℕ). Keeps old came x) z.1 k) in
      (subst (λ (x : ℕ). drop x (items_of came) ≡ []) (sym z.1) none, kept_still old inflow came n f.1 k))
  | inr z ↦ (
      let f = later z.0 in
      let none = later_none old came z.1.0 f.1 (subst (λ (x : ℕ). Keeps old came x) z.1.1 k) in
      (subst (λ (x : ℕ). drop x (items_of came) ≡ []) (sym z.1.1) none, kept_still old inflow came n f.0 k))
]

-- ---- the same by the view of a link

pub fed_line : (old was new : Line) (piece front rest : List ℕ) (want m n : ℕ) → old ≡ was → want ≡ min m (length piece) → m ≡ 4 - n
    → n ≡ length old.shake → front ≡ take want piece → rest ≡ drop want piece → new.shake ≡ old.shake ++ front
    → Feeds old.inflow rest new.inflow → new.taken ≡ old.taken → FeedsLine was piece new
fed_line old was new piece front rest want m n is w l h f r s feeds t =
    subst (λ (x : Line). FeedsLine x piece new) is (fed_line_of old new piece front rest want m n w l h f r s feeds t)

pub takes_some : (old was : Line) (inflow : Inflow) (taken : ℕ) (item : Item) → old ≡ was
    → (old.taken ≡ 0 → (Some item ≡ shake_item old.shake) × (inflow ≡ old.inflow))
    → (0 < old.taken → HandsItem old.inflow (Some item) inflow) → taken ≡ min (old.taken + 1) (2 ^ 64 - 1)
    → TakesItem was (Some item) (record { shake = old.shake; inflow = inflow; taken = taken })
takes_some old was inflow taken item is first later t =
    subst (λ (x : Line). TakesItem x (Some item) (grown old inflow taken)) is (takes_some_of old inflow taken item first later t)

pub takes_none : (old was : Line) (inflow : Inflow) → old ≡ was
    → (old.taken ≡ 0 → (None ≡ shake_item old.shake) × (inflow ≡ old.inflow)) → (0 < old.taken → HandsItem old.inflow None inflow)
    → TakesItem was None (record { shake = old.shake; inflow = inflow; taken = old.taken })
takes_none old was inflow is first later =
    subst (λ (x : Line). TakesItem x None (grown old inflow old.taken)) is (takes_none_of old inflow first later)

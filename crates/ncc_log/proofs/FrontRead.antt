-- The front of a payload, and the change that it belongs to.
use Rattle.std.proofs.Common.{◌≡◌, ℕ, zero, suc, ◌^◌, ◌<◌, ◌≤◌, List, [], ◌∷◌, ◌++◌, length, get_or, take, drop, refl, sym, ap}
use Rattle.std.proofs.Common.{◌∙◌, append_assoc, subst, arith, length-append, length-drop, take-append-drop}
use Rattle.std.specs.Int.{w32, w64, from_be_bytes, to_be_bytes}
use Rattle.std.proofs.lemmas.List.{drop-drop, drop_at, drop_more, get_or_at, length-take-le, take_at}
use Rattle.std.proofs.lemmas.Nat.{be_bytes_4, be_bytes_8, from_be_bytes-to_be_bytes_4, from_be_bytes-to_be_bytes_8}
use Rattle.ncc_tx.specs.declared.entry.ChangeSet.{ChangeSet}
use Rattle.ncc_tx.specs.declared.entry.Item.{Item}
use Rattle.ncc_tx.specs.declared.entry.Saved.{Saved}
use Rattle.ncc_tx.specs.Items.{counted, items_bytes}
use Rattle.ncc_tx.specs.Kept.{NeverFalls, payload, term_at}
use Rattle.ncc_tx.proofs.ItemRead.{AreBytes, rest_bytes}
use Rattle.ncc_log.specs.declared.records.Front.{Front}
use Rattle.ncc_log.specs.Fronts.{FrontMayStand, front_at}
use Rattle.ncc_log.specs.Reading.{AreItemsFrom}
use Rattle.ncc_log.specs.Records.{MayStandBehind}
use Rattle.ncc_log.proofs.One.{Fits, fits_of, kept_few, payload_is}

pub take_bytes : (bs : List ℕ) (n : ℕ) → AreBytes bs → AreBytes (take n bs)
take_bytes bs zero all k = omega arith
take_bytes [] (suc n) all k = all k
take_bytes (b ∷ bs) (suc n) all zero = all zero
take_bytes (b ∷ bs) (suc n) all (suc k) = take_bytes bs n (λ j. all (suc j)) k

counted_is : (items : List Item) → counted items ≡ to_be_bytes w32 (length items) ++ items_bytes items
unfolding counted
counted_is items = refl

-- the parts of a payload, one behind the other
spread : (c : ChangeSet) → payload c ≡ to_be_bytes w64 c.term ++ (c.vote ∷ (to_be_bytes w64 c.keep
    ++ (to_be_bytes w32 (length c.items) ++ items_bytes c.items)))
spread c =
    payload_is c ∙ append_assoc (to_be_bytes w64 c.term) (c.vote ∷ to_be_bytes w64 c.keep) (counted c.items)
    ∙ ap (λ (l : List ℕ). to_be_bytes w64 c.term ++ (c.vote ∷ (to_be_bytes w64 c.keep ++ l))) (counted_is c.items)

-- ---- what the front of a payload says

-- the front has the numbers of this change
pub record Says (f : Front) (c : ChangeSet) : Type 0 where
  pub term : f.term ≡ c.term
  pub vote : f.vote ≡ c.vote
  pub keep : f.keep ≡ c.keep
  pub count : f.count ≡ length c.items

pub front_says : (c : ChangeSet) (bs : List ℕ) → Fits c → bs ≡ payload c → Says (front_at bs) c
front_says c bs f e =
    let t : List ℕ = to_be_bytes w64 c.term in
    let k : List ℕ = to_be_bytes w64 c.keep in
    let n : List ℕ = to_be_bytes w32 (length c.items) in
    let is : List ℕ = items_bytes c.items in
    let whole : bs ≡ t ++ (c.vote ∷ (k ++ (n ++ is))) = e ∙ spread c in
    let nine : drop 9 bs ≡ k ++ (n ++ is) = ap (drop 9) (whole ∙ sym (append_assoc t (c.vote ∷ []) (k ++ (n ++ is))))
    ∙ drop_at (t ++ c.vote ∷ []) (k ++ (n ++ is)) 9 refl in
    let rest : drop 17 bs ≡ n ++ is = sym (drop-drop 8 9 bs) ∙ ap (drop 8) nine ∙ drop_at k (n ++ is) 8 refl in
    record {
      term = ap (λ (l : List ℕ). from_be_bytes w64 (take 8 l)) whole
          ∙ ap (from_be_bytes w64) (take_at t (c.vote ∷ (k ++ (n ++ is))) 8 refl) ∙ from_be_bytes-to_be_bytes_8 c.term f.term;
      vote = ap (λ (l : List ℕ). get_or l 8 0) whole ∙ get_or_at t c.vote (k ++ (n ++ is)) 0 8 refl;
      keep = ap (λ (l : List ℕ). from_be_bytes w64 (take 8 l)) nine
          ∙ ap (from_be_bytes w64) (take_at k (n ++ is) 8 refl) ∙ from_be_bytes-to_be_bytes_8 c.keep f.keep;
      count = ap (λ (l : List ℕ). from_be_bytes w32 (take 4 l)) rest
          ∙ ap (from_be_bytes w32) (take_at n is 4 refl) ∙ from_be_bytes-to_be_bytes_4 (length c.items) f.items.number;
    }

pub payload_long : (c : ChangeSet) (bs : List ℕ) → bs ≡ payload c → 21 ≤ length bs
payload_long c bs e =
    let t : List ℕ = to_be_bytes w64 c.term in
    let k : List ℕ = to_be_bytes w64 c.keep in
    let n : List ℕ = to_be_bytes w32 (length c.items) in
    let is : List ℕ = items_bytes c.items in
    omega (
      arith,
      ap length (e ∙ spread c),
      length-append t (c.vote ∷ (k ++ (n ++ is))),
      length-append k (n ++ is),
      length-append n is,
    )

-- what stands behind the front are the items
pub items_behind : (c : ChangeSet) (bs : List ℕ) → bs ≡ payload c → drop 21 bs ≡ items_bytes c.items
items_behind c bs e =
    let t : List ℕ = to_be_bytes w64 c.term in
    let k : List ℕ = to_be_bytes w64 c.keep in
    let n : List ℕ = to_be_bytes w32 (length c.items) in
    let is : List ℕ = items_bytes c.items in
    let whole : bs ≡ ((t ++ c.vote ∷ []) ++ (k ++ n)) ++ is = e ∙ spread c
    ∙ sym (append_assoc t (c.vote ∷ []) (k ++ (n ++ is))) ∙ ap (λ (l : List ℕ). (t ++ c.vote ∷ []) ++ l) (sym (append_assoc k n is))
    ∙ sym (append_assoc (t ++ c.vote ∷ []) (k ++ n) is) in
    ap (drop 21) whole ∙ drop_at ((t ++ c.vote ∷ []) ++ (k ++ n)) is 21 refl

-- ---- bytes that are a front and items are a payload

pub payload_of : (bs : List ℕ) (c : ChangeSet) → AreBytes bs → 21 ≤ length bs → Says (front_at bs) c → drop 21 bs ≡ items_bytes c.items →
    bs ≡ payload c
payload_of bs c all long says behind =
    let t : List ℕ = take 8 bs in
    let k : List ℕ = take 8 (drop 9 bs) in
    let n : List ℕ = take 4 (drop 17 bs) in
    let term : to_be_bytes w64 c.term ≡ t = be_bytes_8 t c.term (length-take-le 8 bs (omega arith)) (take_bytes bs 8 all) (sym says.term) in
    let keep : to_be_bytes w64 c.keep ≡ k = be_bytes_8 k c.keep
    (length-take-le 8 (drop 9 bs) (omega (arith, length-drop 9 bs))) (take_bytes (drop 9 bs) 8 (rest_bytes bs 9 all)) (sym says.keep) in
    let count : to_be_bytes w32 (length c.items) ≡ n = be_bytes_4 n (length c.items)
    (length-take-le 4 (drop 17 bs) (omega (arith, length-drop 17 bs))) (take_bytes (drop 17 bs) 4 (rest_bytes bs 17 all))
    (sym says.count) in
    let end : drop 17 bs ≡ n ++ items_bytes c.items = sym (take-append-drop 4 (drop 17 bs))
    ∙ ap (λ (l : List ℕ). n ++ l) (drop-drop 4 17 bs ∙ behind) in
    let nine : drop 9 bs ≡ k ++ (n ++ items_bytes c.items) = sym (take-append-drop 8 (drop 9 bs))
    ∙ ap (λ (l : List ℕ). k ++ l) (drop-drop 8 9 bs ∙ end) in
    let eight : drop 8 bs ≡ c.vote ∷ (k ++ (n ++ items_bytes c.items)) = drop_more bs 8 0 (omega arith)
    ∙ ap (λ (v : ℕ). v ∷ drop 9 bs) says.vote ∙ ap (λ (l : List ℕ). c.vote ∷ l) nine in
    sym (take-append-drop 8 bs) ∙ ap (λ (l : List ℕ). t ++ l) eight
    ∙ ap (λ (l : List ℕ). l ++ (c.vote ∷ (k ++ (n ++ items_bytes c.items)))) (sym term)
    ∙ ap (λ (l : List ℕ). to_be_bytes w64 c.term ++ (c.vote ∷ (l ++ (n ++ items_bytes c.items)))) (sym keep)
    ∙ ap (λ (l : List ℕ). to_be_bytes w64 c.term ++ (c.vote ∷ (to_be_bytes w64 c.keep ++ (l ++ items_bytes c.items)))) (sym count)
    ∙ sym (spread c)

from_zero : (least greatest : ℕ) (items : List Item) → NeverFalls least greatest items → NeverFalls 0 greatest items
from_zero least greatest [] h = tt
from_zero least greatest (x ∷ xs) h = (omega arith, h.1, h.2)

-- ---- what is read is the change

module _ (bs : List ℕ) (part : Saved) (all : AreBytes bs) (long : 21 ≤ length bs) (short : length bs < 2 ^ 32) where
  pub change_read : (f : Front) (items : List Item) → f ≡ front_at bs → FrontMayStand part f →
      AreItemsFrom bs 21 f.count (term_at part.log f.keep) f.term items
      → MayStandBehind part (record { term = f.term; vote = f.vote; keep = f.keep; items = items })
      × (bs ≡ payload (record { term = f.term; vote = f.vote; keep = f.keep; items = items }))
  change_read f items is may are =
      let c : ChangeSet = record { term = f.term; vote = f.vote; keep = f.keep; items = items } in
      let same : bs ≡ payload c = payload_of bs c all long record {
        term = ap (λ (x : Front). x.term) (sym is);
        vote = ap (λ (x : Front). x.vote) (sym is);
        keep = ap (λ (x : Front). x.keep) (sym is);
        count = ap (λ (x : Front). x.count) (sym is) ∙ sym are.number;
      } are.same in (
        record {
          follows = record {
            stands = record {
              term = may.term;
              vote = may.vote;
              terms = from_zero (term_at part.log f.keep) f.term items are.terms;
              entries = are.allowed;
              short = omega (arith, short, ap length same);
            };
            term = may.rises;
            keep = may.keep;
            terms = are.terms;
          };
          few = omega (
            arith,
            may.few,
            are.number,
            length-append (take f.keep part.log) items,
            length-take-le f.keep part.log may.keep,
          );
        },
        same,
      )

pub front_may_stand : (bs : List ℕ) (part : Saved) (c : ChangeSet) (f : Front) → f ≡ front_at bs → MayStandBehind part c → bs ≡ payload c →
    FrontMayStand part f
front_may_stand bs part c f is m e =
    let s = front_says c bs (fits_of part c m) e in
    subst (FrontMayStand part) (sym is) record {
      rises = omega (arith, s.term, m.follows.term);
      term = omega (arith, s.term, m.follows.stands.term);
      vote = omega (arith, s.vote, m.follows.stands.vote);
      keep = omega (arith, s.keep, m.follows.keep);
      few = omega (arith, s.keep, s.count, kept_few part c m);
    }

pub items_there : (bs : List ℕ) (part : Saved) (c : ChangeSet) (f : Front) → f ≡ front_at bs → MayStandBehind part c → bs ≡ payload c →
    AreItemsFrom bs 21 f.count (term_at part.log f.keep) f.term c.items
items_there bs part c f is m e =
    let s = front_says c bs (fits_of part c m) e in
    let term : f.term ≡ c.term = ap (λ (x : Front). x.term) is ∙ s.term in
    let keep : f.keep ≡ c.keep = ap (λ (x : Front). x.keep) is ∙ s.keep in
    let count : f.count ≡ length c.items = ap (λ (x : Front). x.count) is ∙ s.count in
    record {
      same = items_behind c bs e;
      number = sym count;
      terms = subst (λ (n : ℕ). NeverFalls (term_at part.log f.keep) n c.items) (sym term)
          (subst (λ (n : ℕ). NeverFalls (term_at part.log n) c.term c.items) (sym keep) m.follows.terms);
      allowed = m.follows.stands.entries;
    }

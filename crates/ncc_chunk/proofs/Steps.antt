-- What each step of a dechunker leaves.
use Rattle.std.proofs.Common.{◌≡◌, ℕ, zero, suc, ◌+◌, ◌-◌, ◌<◌, ◌≤◌, List, [], ◌∷◌, ◌++◌, length, refl, sym, ap, subst, ◌∙◌}
use Rattle.std.proofs.Common.{append_assoc, append-nil, length-append, arith}
use Rattle.ncc_chunk.specs.declared.dechunker.Position.{Position}
use Rattle.ncc_chunk.specs.declared.dechunker.Position.TheVariants.{Between, InHead, InBody, Stopped}
use Rattle.ncc_chunk.specs.Chunks.{size_of, Chunks, none, chunk, limit, Spells, HoldsNone, Framed, nothing, no_op, message, PastLimit}
use Rattle.ncc_chunk.specs.Inflow.{Inflow, IsInBody, IsInHead, IsBetween, Holds, Stands}
use Rattle.ncc_chunk.specs.Keeping.{Begins, Took, place_by, grown, ready_with, ended}
use Rattle.ncc_chunk.proofs.Lists.{begins_grown, begins_next, begins_over}
use Rattle.ncc_chunk.proofs.WholeChunks.{chunks_join}
use Rattle.ncc_chunk.proofs.Framing.{framed_on, none_in_cut, none_in_past, past_on}

-- what is held is no whole message
pub holds_none : (p : Position) (body r : List ℕ) → Holds p body r → HoldsNone r
holds_none Between body r h = subst HoldsNone (append-nil r) (none_in_cut body r [] h.whole tt)
holds_none (InHead first) body r h = subst HoldsNone (sym h.rest_is) (none_in_cut body h.chunks (first ∷ []) h.whole tt)
holds_none (InBody left) body r h = subst HoldsNone (sym h.rest_is)
    (none_in_cut h.message h.chunks (h.high ∷ h.low ∷ h.part) h.whole (let l = h.left_is in let s = h.some_left in omega arith))
holds_none Stopped body r h = none_in_past r h

-- how a step goes on from what was held
record Goes (a b : Inflow) (x r : List ℕ) : Type 0 where
  messages : List (List ℕ)
  rest : List ℕ
  framed : Framed (r ++ x) messages rest
  ready_is : b.ready ≡ a.ready ++ messages
  holds : Holds b.place b.body rest

goes_took : (a b : Inflow) (x : List ℕ) → ((r : List ℕ) → Holds a.place a.body r → Goes a b x r) →
    Begins a.ready a.body (b.ready ++ b.body ∷ []) → Took a x b
goes_took a b x go begins = record {
  stands = λ stream handed k. (let g = go k.rest k.holds in record {
    rest = g.rest;
    framed = rw (g.ready_is, ← append_assoc handed a.ready g.messages)
        (framed_on stream (handed ++ a.ready) k.rest x g.messages g.rest k.framed g.framed);
    holds = g.holds;
  });
  begins = begins;
}

-- a step that ends no message
stays : (a b : Inflow) (x r : List ℕ) → b.ready ≡ a.ready → Holds b.place b.body (r ++ x) → Goes a b x r
stays a b x r e h = record {
  messages = [];
  rest = r ++ x;
  framed = nothing (holds_none b.place b.body (r ++ x) h);
  ready_is = e
      ∙ sym (append-nil a.ready);
  holds = h;
}

pub begins_as : (a : Inflow) → Begins a.ready a.body (a.ready ++ a.body ∷ [])
begins_as a = subst (λ (b : List ℕ). Begins a.ready a.body (a.ready ++ b ∷ [])) (append-nil a.body) (begins_grown a.ready a.body [])

-- nothing taken
pub took_none : (a : Inflow) → Took a [] a
took_none a = record { stands = λ stream handed k. subst (λ s. Stands a s handed) (sym (append-nil stream)) k; begins = begins_as a }

-- one step and then another
pub took_then : (a b c : Inflow) (x y : List ℕ) → Took a x b → Took b y c → Took a (x ++ y) c
took_then a b c x y p q = record {
  stands = λ stream handed k. subst (λ s. Stands c s handed) (append_assoc stream x y)
      (q.stands (stream ++ x) handed (p.stands stream handed k));
  begins = begins_over a.ready b.ready a.body b.body (c.ready ++ c.body ∷ []) p.begins q.begins;
}

-- past the limit
pub step_stopped : (a : Inflow) (x : List ℕ) → a.place ≡ Stopped → Took a x a
step_stopped a x e = goes_took a a x (λ r h. stays a a x r refl (subst (λ p. Holds p a.body (r ++ x)) (sym e) (let o : PastLimit r =
    subst (λ p. Holds p a.body r) e h in past_on r x o))) (begins_as a)

-- the first byte of a head
pub step_first : (a : Inflow) (first : ℕ) → a.place ≡ Between →
    Took a (first ∷ []) (record { ready = a.ready; body = a.body; place = InHead first })
step_first a first e =
    let b : Inflow = record { ready = a.ready; body = a.body; place = InHead first } in
    goes_took a b (first ∷ []) (λ r h. (
    let w : IsBetween a.body r = subst (λ p. Holds p a.body r) e h in
    let k : IsInHead first a.body (r ++ first ∷ []) = record { chunks = r; whole = w.whole; rest_is = refl; fits = w.fits } in
    stays a b (first ∷ []) r refl k)) (begins_as a)

head_whole : (body r : List ℕ) (first second : ℕ) (w : IsInHead first body r) → r ++ second ∷ [] ≡ w.chunks ++ first ∷ second ∷ []
head_whole body r first second w = ap (λ v. v ++ second ∷ []) w.rest_is ∙ append_assoc w.chunks (first ∷ []) (second ∷ [])

-- the second byte of a head that passes the limit
pub step_long : (a : Inflow) (first second : ℕ) → a.place ≡ InHead first → limit < length a.body + size_of first second →
    Took a (second ∷ []) (record { ready = a.ready; body = a.body; place = Stopped })
step_long a first second e past =
    let b : Inflow = record { ready = a.ready; body = a.body; place = Stopped } in
    goes_took a b (second ∷ []) (λ r h. (
    let w : IsInHead first a.body r = subst (λ p. Holds p a.body r) e h in
    let k : PastLimit (r ++ second ∷ []) = record {
      message = a.body;
      chunks = w.chunks;
      high = first;
      low = second;
      more = [];
      whole = w.whole;
      rest_is = head_whole a.body r first second w;
      past = past;
    } in
    stays a b (second ∷ []) r refl k)) (begins_as a)

-- the second byte of a head within the limit
pub step_size : (a : Inflow) (first second size : ℕ) → a.place ≡ InHead first → size ≡ size_of first second → 0 < size →
    length a.body + size ≤ limit → Took a (second ∷ []) (record { ready = a.ready; body = a.body; place = InBody size })
step_size a first second size e is some fits =
    let b : Inflow = record { ready = a.ready; body = a.body; place = InBody size } in
    goes_took a b (second ∷ []) (λ r h. (
    let w : IsInHead first a.body r = subst (λ p. Holds p a.body r) e h in
    let k : IsInBody size a.body (r ++ second ∷ []) = record {
      message = a.body;
      chunks = w.chunks;
      high = first;
      low = second;
      part = [];
      whole = w.whole;
      rest_is = head_whole a.body r first second w;
      body_is = sym (append-nil a.body);
      left_is = omega arith;
      some_left = some;
      fits = fits;
    } in
    stays a b (second ∷ []) r refl k)) (begins_as a)

pub size_none : (h l : ℕ) → size_of h l ≡ 0 → (h ≡ 0) × (l ≡ 0)
size_none h l e = (omega arith, omega arith)

pub chunks_of_none : (m c : List ℕ) → Chunks m c → m ≡ [] → c ≡ []
chunks_of_none m c none e = refl
chunks_of_none m c (chunk h l b m1 c1 some len p) e = let k = simp length-append at (ap length e) in absurd (omega arith)

pub chunks_in_none : (m c : List ℕ) → Chunks m c → c ≡ [] → m ≡ []
chunks_in_none m c none e = refl
chunks_in_none m c (chunk h l b m1 c1 some len p) e = absurd (cc)

-- 00 00, by whether something is held
ends_by : (a : Inflow) (body r : List ℕ) (h l : ℕ) → a.body ≡ body → size_of h l ≡ 0 → IsInHead h body r → Goes a (ended a) (l ∷ []) r
ends_by a [] r h l e z w =
    let c : w.chunks ≡ [] = chunks_of_none [] w.chunks w.whole refl in
    let k : r ++ l ∷ [] ≡ 0 ∷ 0 ∷ [] = rw (w.rest_is, c, (size_none h l z).0, (size_none h l z).1) refl in
    record {
      messages = [];
      rest = [];
      framed = rw k (no_op (nothing (holds_none Between [] [] (record { whole = none; fits = omega arith }))));
      ready_is = rw (e, append-nil a.ready) refl;
      holds = record { whole = none; fits = omega arith };
    }
ends_by a (x ∷ xs) r h l e z w =
    let k : r ++ l ∷ [] ≡ (w.chunks ++ 0 ∷ 0 ∷ []) ++ [] = rw (
      w.rest_is,
      (size_none h l z).0,
      (size_none h l z).1,
      append_assoc w.chunks (0 ∷ []) (0 ∷ []),
      append-nil (w.chunks ++ 0 ∷ 0 ∷ []),
    ) refl in
    let spells : Spells (x ∷ xs) (w.chunks ++ 0 ∷ 0 ∷ []) = record {
      chunks = w.chunks;
      whole = w.whole;
      not_empty = omega arith;
      fits = w.fits;
      ends = refl;
    } in
    record {
      messages = (x ∷ xs) ∷ [];
      rest = [];
      framed = rw k (message (x ∷ xs) (w.chunks ++ 0 ∷ 0 ∷ []) [] spells
          (nothing (holds_none Between [] [] (record { whole = none; fits = omega arith }))));
      ready_is = rw e refl;
      holds = record { whole = none; fits = omega arith };
    }

ended_begins : (rs : List (List ℕ)) (body : List ℕ) → Begins rs body (ready_with rs body ++ [] ∷ [])
ended_begins rs [] = begins_grown rs [] []
ended_begins rs (x ∷ xs) = begins_next rs (x ∷ xs) []

pub step_end : (a : Inflow) (first second : ℕ) → a.place ≡ InHead first → size_of first second ≡ 0 → Took a (second ∷ []) (ended a)
step_end a first second e z =
    goes_took a (ended a) (second ∷ []) (λ r h. ends_by a a.body r first second refl z (subst (λ p. Holds p a.body r) e h))
    (ended_begins a.ready a.body)

-- a part of a body, by what is left of it then
body_by : (left n : ℕ) (body part r : List ℕ) → length part ≤ left → left - length part ≡ n → IsInBody left body r →
    Holds (place_by n) (body ++ part) (r ++ part)
body_by left zero body part r f e w =
    let l = length-append w.part part in
    let b = length-append body part in
    let s = w.some_left in
    let i = w.left_is in
    let lim = w.fits in
    let last : Chunks ((w.part ++ part) ++ []) (w.high ∷ w.low ∷ (w.part ++ part) ++ []) =
    chunk w.high w.low (w.part ++ part) [] [] (omega arith) (omega arith) none in
    let all = chunks_join w.message w.chunks ((w.part ++ part) ++ []) (w.high ∷ w.low ∷ (w.part ++ part) ++ []) w.whole last in
    record {
      whole = rw (
        w.rest_is,
        w.body_is,
        append_assoc w.message w.part part,
        append_assoc w.chunks (w.high ∷ w.low ∷ w.part) part,
      ) (rw (append-nil (w.part ++ part)) at all);
      fits = omega arith;
    }
body_by left (suc n) body part r f e w =
    let l = length-append w.part part in
    let b = length-append body part in
    let s = w.some_left in
    let i = w.left_is in
    let lim = w.fits in
    record {
      message = w.message;
      chunks = w.chunks;
      high = w.high;
      low = w.low;
      part = w.part ++ part;
      whole = w.whole;
      rest_is = rw (w.rest_is, append_assoc w.chunks (w.high ∷ w.low ∷ w.part) part) refl;
      body_is = rw (w.body_is, append_assoc w.message w.part part) refl;
      left_is = omega arith;
      some_left = omega arith;
      fits = omega arith;
    }

pub step_body : (a : Inflow) (left : ℕ) (part : List ℕ) → a.place ≡ InBody left → length part ≤ left → Took a part (grown a left part)
step_body a left part e f =
    goes_took a (grown a left part) part (λ r h. stays a (grown a left part) part r refl
    (body_by left (left - length part) a.body part r f refl (subst (λ p. Holds p a.body r) e h))) (begins_grown a.ready a.body part)

-- An envelope, its fields and items, and its frame.
use Rattle.std.proofs.Common.{◌≡◌, ℕ, zero, suc, ◌+◌, ◌-◌, ◌<◌, ◌≤◌, Bool, true, false, List, [], ◌∷◌, ◌++◌, length, Option, Some, None}
use Rattle.std.proofs.Common.{refl, sym, ap, ◌∙◌, arith, length-append}
use Rattle.std.specs.Prelude.{IsTrue}
use Rattle.std.specs.Int.{w32, w64, to_be_bytes}
use Rattle.std.specs.List.{All}
use Rattle.std.proofs.lemmas.List.Elements.{All-cons, All-head, All-nil, All-tail}
use Rattle.ncc_tx.specs.declared.entry.Item.{Item}
use Rattle.ncc_tx.specs.Items.{counted, entry_allowed, items_bytes}
use Rattle.ncc_tx.specs.Kept.{AllAllowed, NeverFalls, term_limit}
use Rattle.ncc_raft.specs.Carried.{IsWithin, max_frame}
use Rattle.ncc_raft.specs.declared.message.Body.{Body}
use Rattle.ncc_raft.specs.declared.message.Body.TheVariants.{VoteAsk, VoteReply, Append, AppendReply, Pull, Batch}
use Rattle.ncc_raft.specs.declared.message.Envelope.{Envelope}
use Rattle.ncc_wire.specs.declared.kind.Kind.{Kind}
use Rattle.ncc_wire.specs.declared.kind.Kind.TheVariants as k
use Rattle.ncc_wire.specs.declared.listing.Listing.{Listing}
use Rattle.ncc_wire.specs.Kinds.{Field, any_number, behind_place, code, fields, first_place, flag, item_count, term, widths, written}
use Rattle.ncc_wire.specs.Frames.{IsBody, Spells, body_bytes, content, flag_of, frame_bytes, kind_of}
use Rattle.ncc_wire.specs.Frames.{answers, appends, asks, gives, pulls, votes}
use Rattle.ncc_wire.specs.Judged.{items_of, numbers}
use Rattle.ncc_wire.specs.Reading.{AreWithin, listing}
use Rattle.ncc_wire.proofs.Fields.{AreSound, Within, spelled, written_long}

abbrev allowed : Item → Type 0
allowed i = IsTrue (entry_allowed i.entry)

abbrev pub listing_of : Body → Listing
listing_of b = listing (kind_of b) (numbers b)

pub counts : (b : Body) → length (items_of b) ≡ (listing_of b).count
counts (VoteAsk t p l) = refl
counts (VoteReply t g) = refl
counts (Append t p q c items) = refl
counts (AppendReply t h p) = refl
counts (Pull have) = refl
counts (Batch first items) = refl

pub sound : (kind : Kind) → AreSound (fields kind)
sound k.VoteAsk = (omega arith, (omega arith, (omega arith, tt)))
sound k.VoteReply = (omega arith, (omega arith, tt))
sound k.Append = (omega arith, (omega arith, (omega arith, (omega arith, (omega arith, tt)))))
sound k.AppendReply = (omega arith, (omega arith, (omega arith, tt)))
sound k.Pull = (omega arith, tt)
sound k.Batch = (omega arith, (omega arith, tt))

-- the fields and the items are the bytes
pub body_is : (b : Body) → body_bytes b ≡ spelled (fields (kind_of b)) (numbers b) ++ items_bytes (items_of b)
unfolding body_bytes counted
body_is (VoteAsk t p l) = refl
body_is (VoteReply t g) = refl
body_is (Append t p q c items) = refl
body_is (AppendReply t h p) = refl
body_is (Pull have) = refl
body_is (Batch first items) = refl

pub spelled_long : (fs : List Field) (ns : List ℕ) → Within fs ns → length (spelled fs ns) ≡ widths fs
spelled_long [] ns w = refl
spelled_long (f ∷ fs) [] w = absurd w
spelled_long (f ∷ fs) (n ∷ ns) w = omega (
  arith,
  length-append (written f.wide n) (spelled fs ns),
  written_long f.wide n,
  spelled_long fs ns w.2,
)

pub content_is : (c : ℕ) (e : Envelope) → content c e ≡ to_be_bytes w64 c ++ (code (kind_of e.body) ∷ (e.from ∷ (e.to ∷ body_bytes e.body)))
unfolding content
content_is c e = refl

pub frame_is : (c : ℕ) (e : Envelope) → frame_bytes c e ≡ to_be_bytes w32 (length (content c e)) ++ content c e
unfolding frame_bytes
frame_is c e = refl

pub content_long : (c : ℕ) (e : Envelope) → length (content c e) ≡ 11 + length (body_bytes e.body)
content_long c e =
    let tail : List ℕ = code (kind_of e.body) ∷ (e.from ∷ (e.to ∷ body_bytes e.body)) in
    omega (arith, ap length (content_is c e), length-append (to_be_bytes w64 c) tail)

pub frame_long : (c : ℕ) (e : Envelope) → length (frame_bytes c e) ≡ 15 + length (body_bytes e.body)
frame_long c e = omega (
  arith,
  ap length (frame_is c e),
  length-append (to_be_bytes w32 (length (content c e))) (content c e),
  content_long c e,
)

-- ---- what can be carried

-- its numbers are those that the fields may hold, its items those that may stand behind them, and it is short enough
pub record Fine (b : Body) : Type 0 where
  pub within : Within (fields (kind_of b)) (numbers b)
  pub terms : AreWithin (listing_of b).rising (listing_of b).least (listing_of b).greatest (items_of b)
  pub entries : AllAllowed (items_of b)
  pub short : 11 + length (body_bytes b) ≤ max_frame

rising_of : (least greatest : ℕ) (items : List Item) → NeverFalls least greatest items → AreWithin true least greatest items
rising_of least greatest [] h = tt
rising_of least greatest (i ∷ is) h = (h.0, h.1, rising_of i.term greatest is h.2)

falls_never : (least greatest : ℕ) (items : List Item) → AreWithin true least greatest items → NeverFalls least greatest items
falls_never least greatest [] h = tt
falls_never least greatest (i ∷ is) h = (h.0, h.1, falls_never i.term greatest is h.2)

abbrev is_term : Item → Type 0
is_term i = i.term < term_limit

within_of : (items : List Item) → All is_term items → AreWithin false 0 (term_limit - 1) items
within_of [] h = tt
within_of (i ∷ is) h = let first = All-head is_term i is h in (omega arith, omega arith, within_of is (All-tail is_term i is h))

terms_of : (items : List Item) → AreWithin false 0 (term_limit - 1) items → All is_term items
terms_of [] h = All-nil is_term
terms_of (i ∷ is) h = All-cons is_term i is (omega (arith, h.1)) (terms_of is h.2)

flag_small : (b : Bool) → flag_of b ≤ 1
flag_small true = omega arith
flag_small false = omega arith

pub append_long : (t p q c : ℕ) (items : List Item) → length (body_bytes (Append t p q c items)) ≡ 32 + length (counted items)
unfolding body_bytes
append_long t p q c items =
    let front : List ℕ = to_be_bytes w64 t ++ to_be_bytes w64 p ++ to_be_bytes w64 q ++ to_be_bytes w64 c in
    let n : length front ≡ 32 = refl in
    omega (arith, n, length-append front (counted items))

pub batch_long : (first : ℕ) (items : List Item) → length (body_bytes (Batch first items)) ≡ 8 + length (counted items)
unfolding body_bytes
batch_long first items =
    let n : length (to_be_bytes w64 first) ≡ 8 = refl in
    omega (arith, n, length-append (to_be_bytes w64 first) (counted items))

pub fine_of : (b : Body) → IsWithin b → Fine b
unfolding body_bytes
fine_of (VoteAsk t p l) h = record {
  within = (omega arith, omega (arith, h.0), (omega arith, omega (arith, h.1), (omega arith, omega (arith, h.2), tt)));
  terms = tt;
  entries = All-nil allowed;
  short = omega arith;
}
fine_of (VoteReply t g) h = record {
  within = (omega arith, omega arith, (omega arith, flag_small g, tt));
  terms = tt;
  entries = All-nil allowed;
  short = omega arith;
}
fine_of (Append t p q c items) h = record {
  within = (
    omega arith,
    omega (arith, h.0),
    (omega arith, omega (arith, h.1), (omega arith, omega (arith, h.2), (omega arith, omega (arith, h.3), (omega arith, h.5.number, tt)))),
  );
  terms = rising_of q t items h.4;
  entries = h.5.entries;
  short = omega (arith, h.5.bytes, append_long t p q c items);
}
fine_of (AppendReply t g p) h = record {
  within = (omega arith, omega (arith, h.0), (omega arith, flag_small g, (omega arith, omega (arith, h.1), tt)));
  terms = tt;
  entries = All-nil allowed;
  short = omega arith;
}
fine_of (Pull have) h = record {
  within = (omega arith, omega arith, tt);
  terms = tt;
  entries = All-nil allowed;
  short = omega arith;
}
fine_of (Batch first items) h = record {
  within = (h.0, h.1, (omega arith, h.3.number, tt));
  terms = within_of items h.2;
  entries = h.3.entries;
  short = omega (arith, h.3.bytes, batch_long first items);
}

pub within_from : (b : Body) → Fine b → IsWithin b
within_from (VoteAsk t p l) f = (omega (arith, f.within.1), omega (arith, f.within.2.1), omega (arith, f.within.2.2.1))
within_from (VoteReply t g) f = omega (arith, f.within.1)
within_from (Append t p q c items) f = (
  omega (arith, f.within.1),
  omega (arith, f.within.2.1),
  omega (arith, f.within.2.2.1),
  omega (arith, f.within.2.2.2.1),
  falls_never q t items f.terms,
  record { number = f.within.2.2.2.2.1; entries = f.entries; bytes = omega (arith, f.short, append_long t p q c items) },
)
within_from (AppendReply t g p) f = (omega (arith, f.within.1), omega (arith, f.within.2.2.1))
within_from (Pull have) f = omega (arith, f.within.1)
within_from (Batch first items) f = (
  f.within.0,
  f.within.1,
  terms_of items f.terms,
  record { number = f.within.2.1; entries = f.entries; bytes = omega (arith, f.short, batch_long first items) },
)

-- ---- what is a body

pub record Spelt (kind : Kind) (b : Body) (bytes : List ℕ) : Type 0 where
  pub kind_is : kind ≡ kind_of b
  pub within : Within (fields (kind_of b)) (numbers b)
  pub terms : AreWithin (listing_of b).rising (listing_of b).least (listing_of b).greatest (items_of b)
  pub entries : AllAllowed (items_of b)
  pub same : bytes ≡ body_bytes b

pub spelt : (kind : Kind) (b : Body) (bytes : List ℕ) → IsBody kind b bytes → Spelt kind b bytes
unfolding body_bytes counted
spelt _ _ _ (asks t p l a b c x y z) = record {
  kind_is = refl;
  within = (x.least, x.greatest, (y.least, y.greatest, (z.least, z.greatest, tt)));
  terms = tt;
  entries = All-nil allowed;
  same = rw (x.same, y.same, z.same) refl;
}
spelt _ _ _ (votes t g a b x y) = record {
  kind_is = refl;
  within = (x.least, x.greatest, (y.least, y.greatest, tt));
  terms = tt;
  entries = All-nil allowed;
  same = rw (x.same, y.same) refl;
}
spelt _ _ _ (appends t p q c items a b d e n i x y z w v terms s) = record {
  kind_is = refl;
  within = (x.least, x.greatest, (y.least, y.greatest, (z.least, z.greatest, (w.least, w.greatest, (v.least, v.greatest, tt)))));
  terms = rising_of q t items terms;
  entries = s.entries;
  same = rw (x.same, y.same, z.same, w.same, v.same, s.same) refl;
}
spelt _ _ _ (answers t p g a b c x y z) = record {
  kind_is = refl;
  within = (x.least, x.greatest, (y.least, y.greatest, (z.least, z.greatest, tt)));
  terms = tt;
  entries = All-nil allowed;
  same = rw (x.same, y.same, z.same) refl;
}
spelt _ _ _ (pulls have a x) = record {
  kind_is = refl;
  within = (x.least, x.greatest, tt);
  terms = tt;
  entries = All-nil allowed;
  same = x.same;
}
spelt _ _ _ (gives first items a n i x v terms s) = record {
  kind_is = refl;
  within = (x.least, x.greatest, (v.least, v.greatest, tt));
  terms = within_of items terms;
  entries = s.entries;
  same = rw (x.same, v.same, s.same) refl;
}

spells : (f : Field) (n : ℕ) → f.least ≤ n → n ≤ f.greatest → Spells f n (written f.wide n)
spells f n low high = record { least = low; greatest = high; same = refl }

abbrev held : (f : Field) → ℕ → List ℕ
held f n = written f.wide n

pub is_body : (b : Body) → Fine b → IsBody (kind_of b) b (body_bytes b)
unfolding body_bytes counted
is_body (VoteAsk t p l) f = let w = f.within in
    asks t p l (held term t) (held any_number p) (held term l) (spells term t w.0 w.1) (spells any_number p w.2.0 w.2.1)
    (spells term l w.2.2.0 w.2.2.1)
is_body (VoteReply t g) f = let w = f.within in
    votes t g (held term t) (held flag (flag_of g)) (spells term t w.0 w.1) (spells flag (flag_of g) w.2.0 w.2.1)
is_body (Append t p q c items) f = let w = f.within in
    appends t p q c items (held term t) (held behind_place p) (held term q) (held any_number c) (held item_count (length items))
    (items_bytes items)
    (spells term t w.0 w.1) (spells behind_place p w.2.0 w.2.1) (spells term q w.2.2.0 w.2.2.1) (spells any_number c w.2.2.2.0 w.2.2.2.1)
    (spells item_count (length items) w.2.2.2.2.0 w.2.2.2.2.1) (falls_never q t items f.terms) (record { entries = f.entries; same = refl })
is_body (AppendReply t g p) f = let w = f.within in
    answers t p g (held term t) (held flag (flag_of g)) (held any_number p) (spells term t w.0 w.1) (spells flag (flag_of g) w.2.0 w.2.1)
    (spells any_number p w.2.2.0 w.2.2.1)
is_body (Pull have) f = pulls have (held behind_place have) (spells behind_place have f.within.0 f.within.1)
is_body (Batch first items) f = let w = f.within in
    gives first items (held first_place first) (held item_count (length items)) (items_bytes items)
    (spells first_place first w.0 w.1) (spells item_count (length items) w.2.0 w.2.1) (terms_of items f.terms)
    (record { entries = f.entries; same = refl })

-- ---- one body for one kind, numbers and items

abbrev flag_to : ℕ → Bool
flag_to zero = false
flag_to (suc n) = true

abbrev body_from : Kind → List ℕ → List Item → Option Body
body_from k.VoteAsk (t ∷ p ∷ l ∷ []) items = Some (VoteAsk t p l)
body_from k.VoteReply (t ∷ g ∷ []) items = Some (VoteReply t (flag_to g))
body_from k.Append (t ∷ p ∷ q ∷ c ∷ n ∷ []) items = Some (Append t p q c items)
body_from k.AppendReply (t ∷ h ∷ p ∷ []) items = Some (AppendReply t (flag_to h) p)
body_from k.Pull (have ∷ []) items = Some (Pull have)
body_from k.Batch (first ∷ n ∷ []) items = Some (Batch first items)
body_from kind ns items = None

body_back : (b : Body) → body_from (kind_of b) (numbers b) (items_of b) ≡ Some b
body_back (VoteAsk t p l) = refl
body_back (VoteReply t true) = refl
body_back (VoteReply t false) = refl
body_back (Append t p q c items) = refl
body_back (AppendReply t true p) = refl
body_back (AppendReply t false p) = refl
body_back (Pull have) = refl
body_back (Batch first items) = refl

pub one_body : (a b : Body) → kind_of a ≡ kind_of b → numbers a ≡ numbers b → items_of a ≡ items_of b → a ≡ b
one_body a b k n i =
    let same : Some a ≡ Some b = sym (body_back a) ∙ ap (λ (x : Kind). body_from x (numbers a) (items_of a)) k
    ∙ ap (λ (x : List ℕ). body_from (kind_of b) x (items_of a)) n ∙ ap (λ (x : List Item). body_from (kind_of b) (numbers b) x) i
    ∙ body_back b in
    cc

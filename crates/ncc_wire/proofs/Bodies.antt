-- What is read of a body, field by field and item by item, and of a whole frame.
use Rattle.std.proofs.Common.{◌≡◌, ℕ, ◌+◌, ◌<◌, ◌≤◌, List, [], ◌∷◌, length, drop, Result, Ok, Err, refl, sym, ap, ◌∙◌, subst, arith}
use Rattle.std.proofs.Common.{length-append}
use Rattle.std.proofs.Common.{length-drop}
use Rattle.ncc_tx.specs.declared.entry.Item.{Item}
use Rattle.ncc_tx.specs.Items.{items_bytes}
use Rattle.ncc_raft.specs.declared.message.Body.{Body}
use Rattle.ncc_raft.specs.declared.message.Envelope.{Envelope}
use Rattle.ncc_wire.specs.declared.error.FrameError.{FrameError}
use Rattle.ncc_wire.specs.declared.error.FrameError.TheVariants.{BadField, BadKind, Memory, OtherCluster, Rest, Short, TooLong}
use Rattle.ncc_wire.specs.declared.kind.Kind.{Kind}
use Rattle.ncc_wire.specs.Kinds.{fields, members}
use Rattle.ncc_wire.specs.Judged.{BodyBreaks, BodyRead, HasBody, HasFields, HasItems, IsCaused, Judges, Reads, in_fields, in_items}
use Rattle.ncc_wire.specs.Judged.{items_of, numbers}
use Rattle.ncc_wire.specs.Reading.{Breaks, Front, Refuses, at_end, at_field, at_item, behind_fields, fields_at, front_at, kind_at}
use Rattle.ncc_wire.specs.Reading.{listing, whole_at}
use Rattle.ncc_wire.proofs.Fields.{fields_inside}
use Rattle.ncc_wire.proofs.Heads.{kind_inside}
use Rattle.ncc_wire.proofs.Lists.{stand_none}
use Rattle.ncc_wire.proofs.Parts.{counts}

-- ---- a body

broken : (kind : Kind) (frame : List ℕ) (e : FrameError) → BodyBreaks kind frame e → BodyRead kind frame (Err e)
broken kind frame Short h = h
broken kind frame (TooLong n) h = h
broken kind frame (OtherCluster n) h = h
broken kind frame (BadKind n) h = h
broken kind frame (BadField n) h = h
broken kind frame (Rest n) h = h
broken kind frame Memory h = tt

pub no_fields : (kind : Kind) (frame : List ℕ) (e : FrameError) → fields_at (fields kind) 15 frame ≡ Err e → BodyRead kind frame (Err e)
no_fields kind frame e h = broken kind frame e (in_fields kind frame e h)

pub no_items : (kind : Kind) (frame ns : List ℕ) (e : FrameError) → fields_at (fields kind) 15 frame ≡ Ok ns →
    HasItems (listing kind ns) (behind_fields kind) (drop (behind_fields kind) frame) (Err e) → BodyRead kind frame (Err e)
no_items kind frame ns e f h = go e h
  where
    at : (e : FrameError) → (place : ℕ) × Breaks (listing kind ns) (drop (behind_fields kind) frame) place ×
        (e ≡ BadField (behind_fields kind + place))
        → BodyBreaks kind frame e
    at e h = subst (BodyBreaks kind frame) (sym h.2) (in_items kind frame ns h.0 f h.1)

    go : (e : FrameError) → HasItems (listing kind ns) (behind_fields kind) (drop (behind_fields kind) frame) (Err e) →
        BodyRead kind frame (Err e)
    go Short h = at Short h
    go (TooLong n) h = at (TooLong n) h
    go (OtherCluster n) h = at (OtherCluster n) h
    go (BadKind n) h = at (BadKind n) h
    go (BadField n) h = at (BadField n) h
    go (Rest n) h = at (Rest n) h
    go Memory h = tt

pub plain : (kind : Kind) (frame : List ℕ) (b : Body) → HasFields kind frame (Ok b) → BodyRead kind frame (Ok (b, behind_fields kind))
plain kind frame b h = record {
  kind_is = h.0;
  fields_are = h.1;
  stand = stand_none (listing kind (numbers b)) (drop (behind_fields kind) frame) (items_of b) h.2;
  number = counts b ∙ ap (λ (k : Kind). (listing k (numbers b)).count) h.0;
  end_is = let n : length (items_bytes (items_of b)) ≡ 0 = ap (λ (l : List Item). length (items_bytes l)) h.2 in omega arith;
}

pub told_body : (kind : Kind) (frame : List ℕ) (r : Result (Body × ℕ) FrameError) (y e : FrameError) → r ≡ Err y → y ≡ e →
    BodyRead kind frame (Err e) → BodyRead kind frame r
told_body kind frame r y e a b h = subst (BodyRead kind frame) (sym a) (subst (λ (x : FrameError). BodyRead kind frame (Err x)) (sym b) h)

-- a body without items, of a kind that is known
pub no_fields_of : (k kind : Kind) (frame : List ℕ) (r : Result (Body × ℕ) FrameError) (y e : FrameError) → kind ≡ k → r ≡ Err y → y ≡ e →
    fields_at (fields k) 15 frame ≡ Err e → BodyRead kind frame r
no_fields_of k kind frame r y e is a b h = told_body kind frame r y e a b
    (subst (λ (x : Kind). BodyRead x frame (Err e)) (sym is) (no_fields k frame e h))

pub plain_of : (k kind : Kind) (frame : List ℕ) (b : Body) → kind ≡ k → HasFields k frame (Ok b) →
    BodyRead kind frame (Ok (b, behind_fields k))
plain_of k kind frame b is h = subst (λ (x : Kind). BodyRead x frame (Ok (b, behind_fields k))) (sym is) (plain k frame b h)

-- ---- a frame

caused : (c : ℕ) (bytes : List ℕ) (e : FrameError) → Refuses c bytes e → IsCaused c bytes e
caused c bytes Short h = h
caused c bytes (TooLong n) h = h
caused c bytes (OtherCluster n) h = h
caused c bytes (BadKind n) h = h
caused c bytes (BadField n) h = h
caused c bytes (Rest n) h = h
caused c bytes Memory h = tt

pub no_whole : (c : ℕ) (bytes : List ℕ) (e : FrameError) → whole_at bytes ≡ Err e → IsCaused c bytes e
no_whole c bytes e h = caused c bytes e (at_field c bytes e (rw h refl))

pub no_kind : (c : ℕ) (bytes frame : List ℕ) (e : FrameError) → whole_at bytes ≡ Ok frame → kind_at c frame ≡ Err e → IsCaused c bytes e
no_kind c bytes frame e w h = caused c bytes e (at_field c bytes e (rw (w, h) refl))

pub no_members : (c : ℕ) (bytes frame : List ℕ) (kind : Kind) (e : FrameError) → whole_at bytes ≡ Ok frame → kind_at c frame ≡ Ok kind →
    fields_at members 13 frame ≡ Err e → IsCaused c bytes e
no_members c bytes frame kind e w k h = caused c bytes e (at_field c bytes e (rw (w, k, h) refl))

pub told : (c : ℕ) (bytes : List ℕ) (r : Result (Envelope × ℕ) FrameError) (y e : FrameError) → r ≡ Err y → y ≡ e → IsCaused c bytes e →
    Judges c bytes r
told c bytes r y e a b h = subst (Judges c bytes) (sym a) (subst (λ (x : FrameError). IsCaused c bytes x) (sym b) h)

-- what stands before the body
pub record Headed (c : ℕ) (bytes frame : List ℕ) (kind : Kind) (from to : ℕ) : Type 0 where
  pub whole : whole_at bytes ≡ Ok frame
  pub owned : kind_at c frame ≡ Ok kind
  pub members_are : fields_at members 13 frame ≡ Ok (from ∷ (to ∷ []))

abbrev front_with : List ℕ → Kind → ℕ → ℕ → List ℕ → Front
front_with frame kind from to ns = record { frame = frame; kind = kind; between = from ∷ (to ∷ []); numbers = ns }

front_is : (c : ℕ) (bytes frame ns : List ℕ) (kind : Kind) (from to : ℕ) → Headed c bytes frame kind from to →
    fields_at (fields kind) 15 frame ≡ Ok ns → front_at c bytes ≡ Ok (front_with frame kind from to ns)
front_is c bytes frame ns kind from to h f = rw (h.whole, h.owned, h.members_are, f) refl

refused : (c : ℕ) (bytes frame : List ℕ) (kind : Kind) (from to : ℕ) (e : FrameError) → Headed c bytes frame kind from to →
    BodyBreaks kind frame e → Refuses c bytes e
refused c bytes _ _ from to _ h (in_fields kind frame e f) = at_field c bytes e (rw (h.whole, h.owned, h.members_are, f) refl)
refused c bytes _ _ from to _ h (in_items kind frame ns place f b) =
    at_item c bytes (front_with frame kind from to ns) place (front_is c bytes frame ns kind from to h f) b

module _ (c : ℕ) (bytes frame : List ℕ) (kind : Kind) (from to : ℕ) (h : Headed c bytes frame kind from to) where
  pub no_body : (e : FrameError) → BodyRead kind frame (Err e) → IsCaused c bytes e
  no_body Short b = refused c bytes frame kind from to Short h b
  no_body (TooLong n) b = refused c bytes frame kind from to (TooLong n) h b
  no_body (OtherCluster n) b = refused c bytes frame kind from to (OtherCluster n) h b
  no_body (BadKind n) b = refused c bytes frame kind from to (BadKind n) h b
  no_body (BadField n) b = refused c bytes frame kind from to (BadField n) h b
  no_body (Rest n) b = refused c bytes frame kind from to (Rest n) h b
  no_body Memory b = tt

  pub has_rest : (b : Body) (end : ℕ) → HasBody kind frame b end → end < length frame → IsCaused c bytes (Rest end)
  has_rest b end x lt =
      let f : Front = front_with frame kind from to (numbers b) in
      let r : Refuses c bytes (Rest (behind_fields kind + length (items_bytes (items_of b)))) =
      at_end c bytes f (items_of b) (front_is c bytes frame (numbers b) kind from to h x.fields_are) x.stand x.number
      (omega (arith, lt, x.end_is)) in
      subst (λ (n : ℕ). Refuses c bytes (Rest n)) (sym x.end_is) r

  pub has_all : (b : Body) (end : ℕ) → HasBody kind frame b end → length frame ≤ end →
      Reads c bytes (record { from = from; to = to; body = b }) (length frame)
  has_all b end x le =
      let head : 13 ≤ length frame = kind_inside c frame kind h.owned in
      let two : 15 ≤ length frame = fields_inside members 13 frame (from ∷ (to ∷ [])) h.members_are head in
      let inside = fields_inside (fields kind) 15 frame (numbers b) x.fields_are two in
      let all : behind_fields kind + length (items_bytes (items_of b)) ≡ length frame = omega (
        arith,
        x.end_is,
        le,
        inside,
        ap length x.stand.same,
        length-append (items_bytes (items_of b)) x.stand.rest,
        length-drop (behind_fields kind) frame,
      ) in record {
        front = front_with frame kind from to (numbers b);
        front_is = front_is c bytes frame (numbers b) kind from to h x.fields_are;
        kind_is = sym x.kind_is;
        between_is = refl;
        numbers_are = refl;
        stand = x.stand;
        number = x.number;
        whole = all;
        length_is = refl;
      }

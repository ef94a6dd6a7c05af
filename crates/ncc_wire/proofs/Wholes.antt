-- The bytes of a frame, and what is read of them: each gives the other.
use Rattle.std.proofs.Common.{◌≡◌, ℕ, ◌+◌, ◌-◌, ◌^◌, ◌<◌, ◌≤◌, List, [], ◌∷◌, ◌++◌, length, drop, Result, Ok}
use Rattle.std.proofs.Common.{refl, sym, ap, ◌∙◌, append_assoc, subst, arith, length-append, length-drop}
use Rattle.std.specs.Int.{w32, w64, to_be_bytes}
use Rattle.std.proofs.lemmas.List.{append-nil, drop-drop, drop_at, nil_from_length}
use Rattle.ncc_tx.specs.declared.entry.Item.{Item}
use Rattle.ncc_tx.specs.Items.{items_bytes}
use Rattle.ncc_tx.proofs.ItemRead.{AreBytes}
use Rattle.ncc_raft.specs.Carried.{Carried, IsNumber, max_frame}
use Rattle.ncc_raft.specs.declared.message.Envelope.{Envelope}
use Rattle.ncc_wire.specs.declared.error.FrameError.{FrameError}
use Rattle.ncc_wire.specs.declared.kind.Kind.{Kind}
use Rattle.ncc_wire.specs.Kinds.{code, fields, members, widths}
use Rattle.ncc_wire.specs.Frames.{IsFrame, body_bytes, content, frame_bytes, kind_of}
use Rattle.ncc_wire.specs.Judged.{Reads, items_of, numbers}
use Rattle.ncc_wire.specs.Reading.{◌>>=◌, AreWithin, Front, behind, behind_fields, fields_at, front_at, kind_at, listed, listing, whole_at}
use Rattle.ncc_wire.proofs.Fields.{Within, bind_ok, fields_again, fields_take, spelled}
use Rattle.ncc_wire.proofs.Heads.{owner_again, owner_takes, whole_again, whole_takes}
use Rattle.ncc_wire.proofs.Parts.{Fine, body_is, content_is, content_long, counts, fine_of, frame_is, frame_long, is_body, listing_of}
use Rattle.ncc_wire.proofs.Parts.{sound, spelled_long, spelt, within_from}

-- ---- a frame that is one, and an envelope that can be carried

pub record Sent (c : ℕ) (e : Envelope) : Type 0 where
  pub cluster : c < 2 ^ 64
  pub from : IsNumber e.from
  pub to : IsNumber e.to
  pub fine : Fine e.body

pub carried_of : (c : ℕ) (e : Envelope) → Sent c e → Carried e
carried_of c e s = record { from = s.from; to = s.to; body = within_from e.body s.fine }

pub sent_of : (c : ℕ) (e : Envelope) → c < 2 ^ 64 → Carried e → Sent c e
sent_of c e few h = record { cluster = few; from = h.from; to = h.to; fine = fine_of e.body h.body }

-- what a frame holds is what is written
pub record Framed (c : ℕ) (e : Envelope) (bytes : List ℕ) : Type 0 where
  pub sent : Sent c e
  pub same : bytes ≡ frame_bytes c e

pub framed : (c : ℕ) (e : Envelope) (bytes : List ℕ) → IsFrame c e bytes → Framed c e bytes
framed c e bytes f =
    let b = spelt f.kind e.body f.body f.spelled in
    let inner : f.owner ++ (code f.kind ∷ (f.from ++ (f.to ++ f.body))) ≡ content c e =
    ap (λ (l : List ℕ). l ++ (code f.kind ∷ (f.from ++ (f.to ++ f.body)))) f.of_cluster.same
    ∙ ap (λ (k : Kind). to_be_bytes w64 c ++ (code k ∷ (f.from ++ (f.to ++ f.body)))) b.kind_is
    ∙ ap (λ (l : List ℕ). to_be_bytes w64 c ++ (code (kind_of e.body) ∷ (l ++ (f.to ++ f.body)))) f.sender.same
    ∙ ap (λ (l : List ℕ). to_be_bytes w64 c ++ (code (kind_of e.body) ∷ (e.from ∷ (l ++ f.body)))) f.receiver.same
    ∙ ap (λ (l : List ℕ). to_be_bytes w64 c ++ (code (kind_of e.body) ∷ (e.from ∷ (e.to ∷ l)))) b.same
    ∙ sym (content_is c e) in
    let short : length (content c e) ≤ max_frame = omega (arith, f.sized.greatest, ap length inner) in
    record {
      sent = record {
        cluster = omega (arith, f.of_cluster.greatest);
        from = (f.sender.least, f.sender.greatest);
        to = (f.receiver.least, f.receiver.greatest);
        fine = record { within = b.within; terms = b.terms; entries = b.entries; short = omega (arith, short, content_long c e) };
      };
      same = f.whole ∙ ap (λ (l : List ℕ). f.size ++ l) inner ∙ ap (λ (l : List ℕ). l ++ content c e) f.sized.same
          ∙ ap (λ (l : List ℕ). to_be_bytes w32 (length l) ++ content c e) inner ∙ sym (frame_is c e);
    }

pub is_frame : (c : ℕ) (e : Envelope) → Sent c e → IsFrame c e (frame_bytes c e)
is_frame c e s = record {
  kind = kind_of e.body;
  size = to_be_bytes w32 (length (content c e));
  owner = to_be_bytes w64 c;
  from = e.from ∷ [];
  to = e.to ∷ [];
  body = body_bytes e.body;
  whole = frame_is c e ∙ ap (λ (l : List ℕ). to_be_bytes w32 (length (content c e)) ++ l) (content_is c e);
  sized = record {
    least = omega arith;
    greatest = omega (arith, s.fine.short, content_long c e, ap length (content_is c e));
    same = ap (λ (l : List ℕ). to_be_bytes w32 (length l)) (content_is c e);
  };
  of_cluster = record { least = omega arith; greatest = omega (arith, s.cluster); same = refl };
  sender = record { least = s.from.0; greatest = s.from.1; same = refl };
  receiver = record { least = s.to.0; greatest = s.to.1; same = refl };
  spelled = is_body e.body s.fine;
}

-- ---- what was written is read

abbrev between_of : Envelope → List ℕ
between_of e = e.from ∷ (e.to ∷ [])

abbrev front_of : ℕ → Envelope → Front
front_of c e = record { frame = frame_bytes c e; kind = kind_of e.body; between = between_of e; numbers = numbers e.body }

members_within : (e : Envelope) → IsNumber e.from → IsNumber e.to → Within members (between_of e)
members_within e f t = (f.0, f.1, (t.0, t.1, tt))

module _ (c : ℕ) (e : Envelope) where
  frame : List ℕ
  frame = frame_bytes c e

  tail : List ℕ
  tail = e.from ∷ (e.to ∷ body_bytes e.body)

  drop_4 : drop 4 (frame_bytes c e) ≡ to_be_bytes w64 c ++ (code (kind_of e.body) ∷ (e.from ∷ (e.to ∷ body_bytes e.body)))
  drop_4 = ap (drop 4) (frame_is c e) ∙ drop_at (to_be_bytes w32 (length (content c e))) (content c e) 4 refl ∙ content_is c e

  drop_13 : drop 13 (frame_bytes c e) ≡ e.from ∷ (e.to ∷ body_bytes e.body)
  drop_13 =
      let t : List ℕ = e.from ∷ (e.to ∷ body_bytes e.body) in
      sym (drop-drop 9 4 (frame_bytes c e)) ∙ ap (drop 9) drop_4
      ∙ ap (drop 9) (sym (append_assoc (to_be_bytes w64 c) (code (kind_of e.body) ∷ []) t))
      ∙ drop_at (to_be_bytes w64 c ++ code (kind_of e.body) ∷ []) t 9 refl

  drop_15 : drop 15 (frame_bytes c e) ≡ spelled (fields (kind_of e.body)) (numbers e.body) ++ items_bytes (items_of e.body)
  drop_15 = sym (drop-drop 2 13 (frame_bytes c e)) ∙ ap (drop 2) drop_13 ∙ body_is e.body

  drop_items : Fine e.body → drop (behind_fields (kind_of e.body)) (frame_bytes c e) ≡ items_bytes (items_of e.body)
  drop_items f =
      let w = widths (fields (kind_of e.body)) in
      sym (drop-drop w 15 (frame_bytes c e)) ∙ ap (drop w) drop_15
      ∙ drop_at (spelled (fields (kind_of e.body)) (numbers e.body)) (items_bytes (items_of e.body)) w
      (spelled_long (fields (kind_of e.body)) (numbers e.body) f.within)

  pub whole_frame : Fine e.body → (rest : List ℕ) → whole_at (frame_bytes c e ++ rest) ≡ Ok (frame_bytes c e)
  whole_frame f rest =
      let again = whole_again (content c e) rest (omega (arith, f.short, content_long c e)) in
      subst (λ (l : List ℕ). whole_at (l ++ rest) ≡ Ok l) (sym (frame_is c e)) again

  pub front_again : Sent c e → (rest : List ℕ) → front_at c (frame_bytes c e ++ rest) ≡ Ok (front_of c e)
  front_again s rest =
      let a = whole_frame s.fine rest in
      let b = owner_again c (frame_bytes c e) (kind_of e.body) (e.from ∷ (e.to ∷ body_bytes e.body)) s.cluster drop_4 in
      let d = fields_again members 13 (frame_bytes c e) (between_of e) (body_bytes e.body)
      (omega arith, (omega arith, tt)) (members_within e s.from s.to) drop_13 in
      let g = fields_again (fields (kind_of e.body)) 15 (frame_bytes c e) (numbers e.body) (items_bytes (items_of e.body))
      (sound (kind_of e.body))
      s.fine.within drop_15 in
      ap (λ (r : Result (List ℕ) FrameError). r >>= λ frame. kind_at c frame >>= λ kind. fields_at members 13 frame >>= λ between.
      fields_at (fields kind) 15 frame >>= λ ns. Ok (record { frame = frame; kind = kind; between = between; numbers = ns })) a
      ∙ ap (λ (r : Result Kind FrameError). r >>= λ kind. fields_at members 13 (frame_bytes c e) >>= λ between.
      fields_at (fields kind) 15 (frame_bytes c e) >>= λ ns.
      Ok (record { frame = frame_bytes c e; kind = kind; between = between; numbers = ns })) b
      ∙ ap (λ (r : Result (List ℕ) FrameError). r >>= λ between. fields_at (fields (kind_of e.body)) 15 (frame_bytes c e) >>= λ ns.
      Ok (record { frame = frame_bytes c e; kind = kind_of e.body; between = between; numbers = ns })) d
      ∙ ap (λ (r : Result (List ℕ) FrameError). r >>= λ ns.
      Ok (record { frame = frame_bytes c e; kind = kind_of e.body; between = between_of e; numbers = ns })) g

  pub owned_frame : Sent c e → kind_at c (frame_bytes c e) ≡ Ok (kind_of e.body)
  owned_frame s = owner_again c (frame_bytes c e) (kind_of e.body) (e.from ∷ (e.to ∷ body_bytes e.body)) s.cluster drop_4

  pub read_again : (bytes rest : List ℕ) → Sent c e → bytes ≡ frame_bytes c e ++ rest → Reads c bytes e (length (frame_bytes c e))
  read_again bytes rest s same =
      let items = drop_items s.fine in
      let long : length (body_bytes e.body) ≡ widths (fields (kind_of e.body)) + length (items_bytes (items_of e.body)) =
      ap length (body_is e.body) ∙ length-append (spelled (fields (kind_of e.body)) (numbers e.body)) (items_bytes (items_of e.body))
      ∙ ap (λ (n : ℕ). n + length (items_bytes (items_of e.body))) (spelled_long (fields (kind_of e.body)) (numbers e.body) s.fine.within)
      in
      record {
        front = front_of c e;
        front_is = ap (front_at c) same ∙ front_again s rest;
        kind_is = refl;
        between_is = refl;
        numbers_are = refl;
        stand = record {
          rest = [];
          same = items ∙ sym (append-nil (items_bytes (items_of e.body)));
          terms = s.fine.terms;
          entries = s.fine.entries;
        };
        number = counts e.body;
        whole = omega (arith, long, frame_long c e);
        length_is = refl;
      }

-- ---- what was read was written

-- the parts of a front
pub record Parted (c : ℕ) (bytes : List ℕ) (f : Front) : Type 0 where
  pub whole : whole_at bytes ≡ Ok f.frame
  pub owned : kind_at c f.frame ≡ Ok f.kind
  pub members_are : fields_at members 13 f.frame ≡ Ok f.between
  pub fields_are : fields_at (fields f.kind) 15 f.frame ≡ Ok f.numbers

abbrev found : Front → Result Front FrameError
found f = Ok f

pub parted : (c : ℕ) (bytes : List ℕ) (f : Front) → front_at c bytes ≡ Ok f → Parted c bytes f
parted c bytes f e =
    let a = bind_ok (whole_at bytes) (λ frame. kind_at c frame >>= λ kind. fields_at members 13 frame >>= λ between.
    fields_at (fields kind) 15 frame >>= λ ns. Ok (record { frame = frame; kind = kind; between = between; numbers = ns })) f e in
    let b = bind_ok (kind_at c a.0) (λ kind. fields_at members 13 a.0 >>= λ between. fields_at (fields kind) 15 a.0 >>= λ ns.
    Ok (record { frame = a.0; kind = kind; between = between; numbers = ns })) f a.2 in
    let d = bind_ok (fields_at members 13 a.0) (λ between. fields_at (fields b.0) 15 a.0 >>= λ ns.
    Ok (record { frame = a.0; kind = b.0; between = between; numbers = ns })) f b.2 in
    let g = bind_ok (fields_at (fields b.0) 15 a.0) (λ ns. Ok (record { frame = a.0; kind = b.0; between = d.0; numbers = ns })) f d.2 in
    let made : Front = record { frame = a.0; kind = b.0; between = d.0; numbers = g.0 } in
    let last : found made ≡ found f = g.2 in
    let same : made ≡ f = cc in
    subst (Parted c bytes) same record { whole = a.1; owned = b.1; members_are = d.1; fields_are = g.1 }

pub record Written (c : ℕ) (bytes : List ℕ) (e : Envelope) (n : ℕ) : Type 0 where
  pub sent : Sent c e
  pub rest : List ℕ
  pub same : bytes ≡ frame_bytes c e ++ rest
  pub length_is : n ≡ length (frame_bytes c e)

-- nothing is behind the items
ended : (xs ys : List ℕ) (items : List Item) → xs ≡ items_bytes items ++ ys → length xs ≤ length (items_bytes items) →
    xs ≡ items_bytes items
ended xs ys items e le =
    let none : ys ≡ [] = nil_from_length ys (omega (arith, ap length e, length-append (items_bytes items) ys)) in
    e ∙ ap (λ (l : List ℕ). items_bytes items ++ l) none ∙ append-nil (items_bytes items)

pub written_by : (c : ℕ) (bytes : List ℕ) (e : Envelope) (n : ℕ) → c < 2 ^ 64 → AreBytes bytes → Reads c bytes e n → Written c bytes e n
written_by c bytes e n few all r =
    let f = r.front in
    let p = parted c bytes f r.front_is in
    let w = whole_takes bytes f.frame all p.whole in
    let o = owner_takes c f.frame f.kind w.bytes_are p.owned in
    let m = fields_take members 13 f.frame f.between w.bytes_are p.members_are in
    let h = fields_take (fields f.kind) 15 f.frame f.numbers w.bytes_are p.fields_are in
    let within_two : Within members (between_of e) = subst (Within members) r.between_is m.within in
    let within : Within (fields (kind_of e.body)) (numbers e.body) =
    subst (λ (k : Kind). Within (fields k) (numbers e.body)) r.kind_is (subst (Within (fields f.kind)) r.numbers_are h.within) in
    let listed_is : listed f ≡ listing_of e.body = ap (λ (k : Kind). listing k f.numbers) r.kind_is
    ∙ ap (listing (kind_of e.body)) r.numbers_are in
    let items : drop (behind_fields f.kind) f.frame ≡ items_bytes (items_of e.body) =
    ended (behind f) r.stand.rest (items_of e.body) r.stand.same
    (omega (arith, r.whole, length-drop (behind_fields f.kind) f.frame)) in
    let body : drop 15 f.frame ≡ body_bytes e.body = h.same ∙ ap (λ (l : List ℕ). spelled (fields f.kind) f.numbers ++ l) items
    ∙ ap (λ (l : List ℕ). spelled (fields f.kind) l ++ items_bytes (items_of e.body)) r.numbers_are
    ∙ ap (λ (k : Kind). spelled (fields k) (numbers e.body) ++ items_bytes (items_of e.body)) r.kind_is ∙ sym (body_is e.body) in
    let two : drop 13 f.frame ≡ e.from ∷ (e.to ∷ body_bytes e.body) = m.same
    ∙ ap (λ (l : List ℕ). spelled members l ++ drop 15 f.frame) r.between_is
    ∙ ap (λ (l : List ℕ). e.from ∷ (e.to ∷ l)) body in
    let inner : drop 4 f.frame ≡ content c e = o.same ∙ ap (λ (l : List ℕ). to_be_bytes w64 c ++ (code f.kind ∷ l)) two
    ∙ ap (λ (k : Kind). to_be_bytes w64 c ++ (code k ∷ (e.from ∷ (e.to ∷ body_bytes e.body)))) r.kind_is ∙ sym (content_is c e) in
    let long : length f.frame - 4 ≡ length (content c e) = sym (length-drop 4 f.frame) ∙ ap length inner in
    let frame : f.frame ≡ frame_bytes c e = w.size ∙ ap (λ (n : ℕ). to_be_bytes w32 n ++ drop 4 f.frame) long
    ∙ ap (λ (l : List ℕ). to_be_bytes w32 (length (content c e)) ++ l) inner ∙ sym (frame_is c e) in
    record {
      sent = record {
        cluster = few;
        from = (within_two.0, within_two.1);
        to = (within_two.2.0, within_two.2.1);
        fine = record {
          within = within;
          terms = subst (λ (l : _). AreWithin l.rising l.least l.greatest (items_of e.body)) listed_is r.stand.terms;
          entries = r.stand.entries;
          short = omega (arith, long, w.short, content_long c e);
        };
      };
      rest = w.rest;
      same = w.same ∙ ap (λ (l : List ℕ). l ++ w.rest) frame;
      length_is = r.length_is ∙ ap length frame;
    }

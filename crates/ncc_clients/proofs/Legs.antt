-- What was sent on a link, as a client sends it, also where only the first bytes of it have come in.
use Rattle.std.proofs.Common.{◌≡◌, ◌⊎◌, inl, inr, ℕ, Bool, List, [], ◌∷◌, ◌++◌, map, length, refl, sym, ap, subst, ◌∙◌, append_assoc}
use Rattle.std.specs.Prelude.{IsTrue}
use Rattle.std.specs.List.{AllByRecursion, flat_map}
use Rattle.std.proofs.lemmas.Bool.{cases_lt}
use Rattle.ncc_pack.specs.declared.value.Value.{Value}
use Rattle.ncc_bolt.specs.Fields.{Pairs}
use Rattle.ncc_bolt.specs.Writing.{fits_request, short_request}
use Rattle.ncc_bolt.specs.declared.message.Request.{Request}
use Rattle.ncc_bolt.specs.declared.message.Request.TheVariants as r
use Rattle.ncc_chunk.specs.Chunks.{limit}
use Rattle.ncc_driver.specs.Requests.{shake_bytes}
use Rattle.ncc_clients.specs.Transacting.{shake, CanBeSent, IsUnread, Sent, MayLeave, AreSteps, IsTransaction, IsRouting, LogsIn}
use Rattle.ncc_clients.specs.Transacting.{Transacts, Routes}
use Rattle.ncc_driver.specs.LawsLegs.{wire}
use Rattle.ncc_clients.proofs.Driven.{IsLeg, begins_with}
use Rattle.ncc_clients.proofs.Linking.{flat}

-- ---- the first of a client's requests are a client's requests

may_front : (a b : List Request) → MayLeave (a ++ b) → MayLeave a
may_front [] b h = tt
may_front (r.Goodbye ∷ []) b h = tt
may_front (r.Goodbye ∷ x ∷ xs) b h = absurd h
may_front (_ ∷ xs) b h = absurd h

steps_front : (a b : List Request) → AreSteps (a ++ b) → AreSteps a
steps_front [] b h = tt
steps_front (r.Run query params extra ∷ a) b h = steps_front a b h
steps_front (r.Pull extra ∷ a) b h = steps_front a b h
steps_front (r.Commit ∷ a) b h = may_front a b h
steps_front (r.Goodbye ∷ a) b h = may_front (r.Goodbye ∷ a) b h
steps_front (_ ∷ a) b h = absurd h

transaction_front : (extra : Pairs) (a b : List Request) → IsTransaction extra (a ++ b) → IsTransaction extra a
transaction_front extra [] b h = tt
transaction_front extra (r.Begin given ∷ a) b h = (h.0, steps_front a b h.1)
transaction_front extra (r.Goodbye ∷ a) b h = may_front (r.Goodbye ∷ a) b h
transaction_front extra (_ ∷ a) b h = absurd h

routing_front : (a b : List Request) → IsRouting (a ++ b) → IsRouting a
routing_front [] b h = tt
routing_front (r.Route routing bookmarks extra ∷ a) b h = may_front a b h
routing_front (r.Goodbye ∷ a) b h = may_front (r.Goodbye ∷ a) b h
routing_front (_ ∷ a) b h = absurd h

logs_front : (Follows : List Request → Type 0) → ((a b : List Request) → Follows (a ++ b) → Follows a) → (a b : List Request)
    → LogsIn Follows (a ++ b) → LogsIn Follows a
logs_front Follows front [] b h = tt
logs_front Follows front (r.Hello extra ∷ a) b h = front a b h
logs_front Follows front (r.Goodbye ∷ a) b h = may_front (r.Goodbye ∷ a) b h
logs_front Follows front (_ ∷ a) b h = absurd h

-- ---- up to a message that is too long

record UpTo (requests : List Request) : Type 0 where
  good : List Request
  others : List Request
  begins : good ++ others ≡ requests
  can : AllByRecursion CanBeSent good
  behind : List ℕ
  unread : IsUnread behind
  are : flat_map wire good ++ behind ≡ flat_map wire requests

up_to : (requests : List Request) → AllByRecursion (λ request. IsTrue (fits_request request)) requests → UpTo requests
up_to [] h = record { good = []; others = []; begins = refl; can = tt; behind = []; unread = inl refl; are = refl }
up_to (q ∷ qs) h = elim (cases_lt limit (length (short_request q))) [
  | inl lt ↦ record {
    good = [];
    others = q ∷ qs;
    begins = refl;
    can = tt;
    behind = wire q ++ flat_map wire qs;
    unread = inr (short_request q, flat_map wire qs, lt, refl);
    are = refl;
  }
  | inr le ↦ (
      let u = up_to qs h.1 in
      record {
        good = q ∷ u.good;
        others = u.others;
        begins = ap (λ (l : List Request). q ∷ l) u.begins;
        can = ((h.0, le), u.can);
        behind = u.behind;
        unread = u.unread;
        are = append_assoc (wire q) (flat_map wire u.good) u.behind ∙ ap (λ (b : List ℕ). wire q ++ b) u.are;
      })
]

flat_wire : (requests : List Request) → flat (map wire requests) ≡ flat_map wire requests
flat_wire [] = refl
flat_wire (q ∷ qs) = ap (λ (b : List ℕ). wire q ++ b) (flat_wire qs)

sent_some : (requests : List Request) (bytes left : List ℕ) → bytes ++ left ≡ flat (shake_bytes ∷ map wire requests)
    → (u : UpTo requests) → Sent u.good bytes
sent_some requests bytes left e u = record {
  can = u.can;
  behind = u.behind;
  unread = u.unread;
  rest = left;
  begins = e ∙ ap (λ (b : List ℕ). shake ++ b) (flat_wire requests ∙ sym u.are);
}

sent_none : (bytes left : List ℕ) → bytes ++ left ≡ [] → Sent [] bytes
sent_none [] left e = record { can = tt; behind = []; unread = inl refl; rest = shake; begins = refl }
sent_none (b ∷ bytes) left e = absurd (cc)

-- what came in of it is what a client sends
pub leg_of : (bookmarks : List Value) (sent : List (List ℕ)) (bytes left : List ℕ) → IsLeg bookmarks sent → bytes ++ left ≡ flat sent
    → Routes bytes ⊎ ((writes : Bool) × Transacts (begins_with bookmarks writes) bytes)
leg_of bookmarks sent bytes left k e = go k.sent_is k.leg where
  u : UpTo k.requests
  u = up_to k.requests k.fit

  some : sent ≡ shake_bytes ∷ map wire k.requests → Sent u.good bytes
  some f = sent_some k.requests bytes left (e ∙ ap flat f) u

  go : (sent ≡ []) ⊎ (sent ≡ shake_bytes ∷ map wire k.requests)
      → LogsIn IsRouting k.requests ⊎ ((writes : Bool) × LogsIn (IsTransaction (begins_with bookmarks writes)) k.requests)
      → Routes bytes ⊎ ((writes : Bool) × Transacts (begins_with bookmarks writes) bytes)
  go (inl f) h = inl ([], tt, sent_none bytes left (e ∙ ap flat f))
  go (inr f) (inl h) =
      inl (u.good, logs_front IsRouting routing_front u.good u.others (subst (LogsIn IsRouting) (sym u.begins) h), some f)
  go (inr f) (inr h) =
      let extra = begins_with bookmarks h.0 in
      let logs = logs_front (IsTransaction extra) (transaction_front extra) u.good u.others
      (subst (LogsIn (IsTransaction extra)) (sym u.begins) h.1) in
      inr (h.0, (u.good, logs, some f))

-- A work that ends in success was told the bookmark of a transaction that its last link's connection was told is done.
use Rattle.std.proofs.Common.{◌≡◌, ◌⊎◌, inl, inr, ℕ, zero, suc, ◌≤◌, Bool, List, [], ◌∷◌, ◌++◌, drop, refl, sym, ap, subst, ◌∙◌}
use Rattle.std.proofs.Common.{arith}
use Rattle.std.specs.Prelude.{◌<◌, ◌^◌}
use Rattle.std.specs.List.{AllByRecursion, Contains}
use Rattle.std.proofs.lemmas.List.Elements.{Contains-append_left}
use Rattle.ncc_pack.specs.declared.value.Value.{Value}
use Rattle.ncc_pack.specs.declared.value.Value.TheVariants as v
use Rattle.ncc_bookmark.specs.Point.{Point}
use Rattle.ncc_bookmark.proofs.Naming.{point_of_spelled}
use Rattle.ncc_chunk.specs.Messages.{messages_of, rest_of}
use Rattle.ncc_chunk.proofs.Parts.{functions_go_on}
use Rattle.ncc_driver.specs.declared.config.SessionConfig.{SessionConfig}
use Rattle.ncc_driver.specs.declared.action.WorkDone.{WorkDone}
use Rattle.ncc_driver.specs.Attempts.{place_in}
use Rattle.ncc_driver.specs.Session.{Begun}
use Rattle.ncc_session.specs.declared.ask.Fact.{Fact}
use Rattle.ncc_session.specs.declared.ask.Fact.TheVariants as f
use Rattle.ncc_clients.specs.Members.{Cluster, config_of}
use Rattle.ncc_clients.specs.Run.{Client, talk_of, out_of}
use Rattle.ncc_clients.specs.Lawful.{place_of}
use Rattle.ncc_clients.specs.Transacting.{Routes, Transacts, WasDoneAt, answers_in}
use Rattle.ncc_driver.specs.LawsLegs.{presented_behind}
use Rattle.ncc_clients.proofs.Driven.{begins_with, IsTold}
use Rattle.ncc_clients.proofs.Streams.{no_messages}
use Rattle.ncc_clients.proofs.Telling.{tells_its_bookmark}
use Rattle.ncc_clients.proofs.Routing.{routes_alone}
use Rattle.ncc_clients.proofs.Speaking.{Behind, Presented, Speaks}
use Rattle.ncc_clients.proofs.Wanting.{Success}

-- ---- lists

pub all_has : {A : Type 0} (P : A → Type 0) (xs : List A) (x : A) → AllByRecursion P xs → Contains xs x → P x
all_has P [] x h (n, lt, e) = absurd (omega (arith, lt))
all_has P (y ∷ ys) x h (zero, lt, e) = subst P e h.0
all_has P (y ∷ ys) x h (suc n, lt, e) = all_has P ys x h.1 (n, omega (arith, lt), e)

none_has : {A : Type 0} (x : A) → Contains [] x → ⊥
none_has x (n, lt, e) = absurd (omega (arith, lt))

-- ---- what is read of the first bytes is read of all

no_message : (xs : List ℕ) (m : List ℕ) → xs ≡ [] → Contains (messages_of xs) m → ⊥
no_message xs m e h =
    none_has m (subst (λ (l : List (List ℕ)). Contains l m) (ap messages_of e ∙ no_messages) h)

in_front : (came rest : List ℕ) (m : List ℕ) → Contains (messages_of (drop 4 came)) m → Contains (messages_of (drop 4 (came ++ rest))) m
in_front [] rest m h = absurd (no_message (drop 4 []) m refl h)
in_front (a ∷ []) rest m h = absurd (no_message (drop 4 (a ∷ [])) m refl h)
in_front (a ∷ b ∷ []) rest m h = absurd (no_message (drop 4 (a ∷ b ∷ [])) m refl h)
in_front (a ∷ b ∷ c ∷ []) rest m h = absurd (no_message (drop 4 (a ∷ b ∷ c ∷ [])) m refl h)
in_front (a ∷ b ∷ c ∷ d ∷ xs) rest m h =
    subst (λ (l : List (List ℕ)). Contains l m) (sym (functions_go_on xs rest).0)
    (Contains-append_left (messages_of xs) (messages_of (rest_of xs ++ rest)) m h)

module _ {S : Type 0} (C : Cluster S) where
  place_behind : (c : Client) (bookmarks : List Value) (place old : ℕ) → Speaks C bookmarks c → WasDoneAt c.facts place
      → Presented C.id bookmarks old → old ≤ place
  place_behind c bookmarks place old h (inl x) p = all_has (Behind old) c.facts (f.Placed place) (h.facts old p) x
  place_behind c bookmarks place old h (inr x) p = all_has (Behind old) c.facts (f.Done place) (h.facts old p) x

  place_within : (c : Client) (bookmarks : List Value) (place : ℕ) → Speaks C bookmarks c → WasDoneAt c.facts place → place < 2 ^ 64
  place_within c bookmarks place h (inl x) = all_has (λ (y : Fact). place_of y < 2 ^ 64) c.facts (f.Placed place) h.within x
  place_within c bookmarks place h (inr x) = all_has (λ (y : Fact). place_of y < 2 ^ 64) c.facts (f.Done place) h.within x

  pub success_of : C.id < 2 ^ 64 → (config : SessionConfig) (before : List Begun) (c : Client) (came rest : List ℕ) (done : WorkDone)
      → Speaks C (presented_behind config before) c → came ++ rest ≡ out_of C c → IsTold came done → Success C config before done
  success_of id config before c came rest done h front k = go h.leg where
    there : Contains (answers_in (talk_of C c).written) k.message
    there = subst (λ (b : List ℕ). Contains (messages_of (drop 4 b)) k.message) front (in_front came rest k.message k.came_is)

    go : Routes c.bytes ⊎ ((writes : Bool) × Transacts (begins_with (presented_behind config before) writes) c.bytes)
        → Success C config before done
    go (inl routes) =
        absurd ((routes_alone (config_of C c.number) c.bytes c.facts routes).1 k.message done.bookmark there k.tells)
    go (inr t) =
        let x = tells_its_bookmark (config_of C c.number) c.bytes c.facts k.message done.bookmark there k.tells in
        let p : Point = record { cluster = C.id; place = x.1 } in
        let small = place_within c (presented_behind config before) x.1 h x.2 in
        record {
          q = x.1;
          presented_is = record { number = id; place = small; is = ap (λ (t : List ℕ). v.Text t ∷ []) x.3 };
          place_is = k.place_is ∙ ap place_in (point_of_spelled done.bookmark p (record { cluster = id; place = small }) x.3);
          after = λ old o. place_behind c (presented_behind config before) x.1 old h x.2 o;
        }

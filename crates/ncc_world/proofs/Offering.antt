-- What becomes of an entry that is proposed.
use Rattle.std.proofs.Common.{◌≡◌, ◌∙◌, ℕ, ◌+◌, ◌-◌, ◌<◌, ◌≤◌, List, [], ◌∷◌, ◌++◌, length, Bool, true, false, cond, refl, ap, sym, subst}
use Rattle.std.proofs.Common.{arith, inl, inr, append-nil, take, drop}
use Rattle.std.proofs.lemmas.List.{length-set}
use Rattle.std.specs.Prelude.{nat_le, ◌==◌, Result, Ok, Err, IfOk, OnOk}
use Rattle.std.proofs.lemmas.Bool.Decides.{leb_tells}
use Rattle.ncc_tx.specs.declared.entry.Entry.{Entry}
use Rattle.ncc_tx.specs.declared.entry.Item.{Item}
use Rattle.ncc_clients.specs.Four.{Begins}
use Rattle.ncc_clients.specs.Members.{elsewhere, full, placed}
use Rattle.ncc_world.specs.declared.setup.Setup.{Setup}
use Rattle.ncc_world.specs.declared.proposal.Proposal.TheVariants as proposal
use Rattle.ncc_world.specs.Setting.{Lists, over_list, cluster_of, list_at, item_of, appended, proposes, extended, lagging}
use Rattle.ncc_world.specs.declared.proposal.Proposal.{Proposal}
use Rattle.ncc_world.specs.World.{KeptMembers, AreOneList}
use Rattle.ncc_world.specs.Parts.{BecomeMembers, IsOffered, IsProposed}
use Rattle.ncc_world.proofs.Begun.{begins_more, grows_set}
use Rattle.ncc_world.proofs.Listing.{longest_is}

le_yes : (a b : ℕ) → a ≤ b → nat_le a b ≡ true
le_yes a b h = elim (leb_tells a b) [ inl k ↦ k.0 | inr k ↦ absurd (omega (arith, k.1, h)) ]

le_no : (a b : ℕ) → b < a → nat_le a b ≡ false
le_no a b h = elim (leb_tells a b) [ inl k ↦ absurd (omega (arith, k.1, h)) | inr k ↦ k.0 ]

pub is_elsewhere : (s : Setup) (lists : Lists) (member : ℕ) (entry : Entry) (m : KeptMembers) → (member == 1) ≡ false → AreOneList s m lists
    → IsOffered s lists ((cluster_of s).propose (over_list lists) member entry) proposal.Elsewhere m
is_elsewhere s lists member entry m e k =
    subst (λ (b : Bool). IsOffered s lists (cond b (proposes s.limit lists entry) elsewhere) proposal.Elsewhere m) (sym e) (refl, k)

pub is_full : (s : Setup) (lists : Lists) (member entries : ℕ) (entry : Entry) (m : KeptMembers) → (member == 1) ≡ true
    → entries ≡ length (list_at lists 1) → s.limit ≤ entries → AreOneList s m lists
    → IsOffered s lists ((cluster_of s).propose (over_list lists) member entry) (proposal.Full entries) m
is_full s lists member entries entry m e f l k =
    subst (λ (b : Bool). IsOffered s lists (cond b (proposes s.limit lists entry) elsewhere) (proposal.Full entries) m) (sym e)
    (subst (λ (b : Bool). IsOffered s lists (cond b (full (length (list_at lists 1))) (placed (length (list_at lists 1) + 1) 1 (over_list (appended lists entry))))
    (proposal.Full entries) m) (sym (le_yes s.limit (length (list_at lists 1)) (omega (arith, f, l))))
    (ap (λ n. proposal.Full n) f, k))

pub is_placed : (s : Setup) (lists : Lists) (member entries : ℕ) (entry : Entry) (m : KeptMembers) → (member == 1) ≡ true
    → entries ≡ length (list_at lists 1) → entries < s.limit → AreOneList s m (appended lists entry)
    → IsOffered s lists ((cluster_of s).propose (over_list lists) member entry) (proposal.Placed (record { place = entries + 1; term = 1 })) m
is_placed s lists member entries entry m e f l k =
    subst (λ (b : Bool). IsOffered s lists (cond b (proposes s.limit lists entry) elsewhere)
    (proposal.Placed (record { place = entries + 1; term = 1 })) m) (sym e)
    (subst (λ (b : Bool). IsOffered s lists (cond b (full (length (list_at lists 1))) (placed (length (list_at lists 1) + 1) 1 (over_list (appended lists entry))))
    (proposal.Placed (record { place = entries + 1; term = 1 })) m) (sym (le_no s.limit (length (list_at lists 1)) (omega (arith, f, l))))
    (ap (λ n. proposal.Placed (record { place = n + 1; term = 1 })) f, k))

-- ---- the same, as any members have it

same_history : (s : Setup) (old new : KeptMembers) (lists : Lists) (history : List Item) → AreOneList s old lists → old.items ≡ history
    → AreOneList s new lists → new.items ≡ history
same_history s old new lists history k e m = sym m.first ∙ (k.first ∙ e)

offered_by : (s : Setup) (lists : Lists) (history : List Item) (entry : Entry) (p : Proposal) (old new : KeptMembers) (b d : Bool)
    → AreOneList s old lists → old.items ≡ history → Begins old.items new.items
    → IsOffered s lists (cond b (cond d (full (length (list_at lists 1))) (placed (length (list_at lists 1) + 1) 1 (over_list (appended lists entry))))
    elsewhere) p new
    → IsProposed s (over_list lists) history
    (cond b (cond d (full (length (list_at lists 1))) (placed (length (list_at lists 1) + 1) 1 (over_list (appended lists entry)))) elsewhere) p new
offered_by s lists history entry p old new false d k e g h = (h.0, (h.1, same_history s old new lists history k e h.1))
offered_by s lists history entry p old new true true k e g h = (h.0, (h.1, same_history s old new lists history k e h.1))
offered_by s lists history entry p old new true false k e g h = (
  h.0,
  omega arith,
  record {
    are = (
      h.1,
      sym (longest_is history g.0 new.items new.shelves (appended lists entry) h.1.shelves h.1.first h.1.some
          (ap (λ (l : List Item). l ++ g.0) (sym e) ∙ g.1)),
    );
    count = length-set lists 0 (list_at lists 1 ++ (item_of entry ∷ []));
    grow = λ member.
        grows_set lists 0 (list_at lists 1 ++ (item_of entry ∷ [])) (begins_more (list_at lists 1) (item_of entry ∷ [])) (member - 1);
  },
)

pub was_offered : (s : Setup) (lists : Lists) (history : List Item) (member : ℕ) (entry : Entry) (p : Proposal) (old new : KeptMembers)
    → AreOneList s old lists → old.items ≡ history → Begins old.items new.items
    → IsOffered s lists ((cluster_of s).propose (over_list lists) member entry) p new
    → IsProposed s (over_list lists) history ((cluster_of s).propose (over_list lists) member entry) p new
was_offered s lists history member entry p old new k e g h =
    offered_by s lists history entry p old new (member == 1) (nat_le s.limit (length (list_at lists 1))) k e g h

-- a member applies further entries
pub has_lagged : (s : Setup) (lists : Lists) (history : List Item) (member count : ℕ) (old new : KeptMembers)
    → AreOneList s old lists → old.items ≡ history → new.items ≡ old.items → AreOneList s new (lagging lists member count)
    → BecomeMembers s new (over_list lists) history (over_list (lagging lists member count))
has_lagged s lists history member count old new k e same m =
    let none : List Item = [] in record {
      are = (
        m,
        sym (longest_is history none new.items new.shelves (lagging lists member count) m.shelves m.first m.some
            (append-nil history ∙ sym (same ∙ e))),
      );
      count = length-set lists (member - 1) (extended (list_at lists member) (list_at lists 1) count);
      grow = λ n.
          grows_set lists (member - 1) (extended (list_at lists member) (list_at lists 1) count)
          (begins_more (list_at lists member) (take count (drop (length (list_at lists member)) (list_at lists 1)))) (n - 1);
    }

-- ---- what two answers say of one result

pub if_ok_both : {X E : Type 0} (P Q R : X → Type 0) → ((x : X) → P x → Q x → R x) → (r : Result X E) → IfOk r P → IfOk r Q → IfOk r R
if_ok_both P Q R f (Ok x) h k = f x h k
if_ok_both P Q R f (Err e) h k = tt

pub on_ok_both : {X E : Type 0} (P Q R : Type 0) → (P → Q → R) → (r : Result X E) → OnOk r P → OnOk r Q → OnOk r R
on_ok_both P Q R f (Ok x) h k = f h k
on_ok_both P Q R f (Err e) h k = tt

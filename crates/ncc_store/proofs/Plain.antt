-- Properties that are set stay truth values, integers and texts.
use Rattle.std.proofs.Common.{◌≡◌, true, false, cond, Bool, List, [], ◌∷◌, map, All, IsTrue, Less, Equal, Greater, Ordering, Some}
use Rattle.std.proofs.Common.{Result, Ok, Err, IfOk, refl, sym, ap, subst, ◌∙◌}
use Rattle.std.specs.Map.{remove_entry}
use Rattle.std.specs.BTreeMap.{insert_entry, is_at}
use Rattle.std.specs.Ordering.{match_ordering}
use Rattle.std.proofs.lemmas.List.Elements.{All-cons, All-head, All-tail}
use Rattle.ncc_pack.specs.declared.value.Value.{Value, out-Value, out-roll-Value}
use Rattle.ncc_pack.specs.declared.value.Value.TheVariants as v
use Rattle.ncc_pack.specs.declared.value.Value.TheOpen.{Value-F}
use Rattle.ncc_cypher.specs.declared.tree.Pair.{Pair}
use Rattle.ncc_store.specs.declared.scalar.Scalar.{Scalar}
use Rattle.ncc_store.specs.declared.scalar.Scalar.TheVariants as s
use Rattle.ncc_store.specs.declared.fault.RunFault.{RunFault}
use Rattle.ncc_store.specs.Scalar.{scalar, scalar_in, value_of}
use Rattle.ncc_store.specs.Props.{Name, Props, name_cmp, put, is_there, is_plain, ArePlain}
use Rattle.ncc_store.specs.Sum.{Answer, ◌>>=◌, sum}
use Rattle.ncc_store.specs.Exec.{pairs, changed}

-- a scalar, as a value, is that scalar
pub scalar_again : (x : Scalar) → scalar (value_of x) ≡ Some x
scalar_again s.Null = ap scalar_in (ap out-Value (sym (v.rolls-Null)) ∙ out-roll-Value Value-F.Null)
scalar_again (s.Bool b) = ap scalar_in (ap out-Value (sym (v.rolls-Bool b)) ∙ out-roll-Value (Value-F.Bool b))
scalar_again (s.Int z) = ap scalar_in (ap out-Value (sym (v.rolls-Int z)) ∙ out-roll-Value (Value-F.Int z))
scalar_again (s.Text t) = ap scalar_in (ap out-Value (sym (v.rolls-Text t)) ∙ out-roll-Value (Value-F.Text t))

all_insert : (P : Name × Value → Type 0) (k : Name) (x : Value) (ps : Props) → ((q : Name) → P (q, x)) → All P ps
    → All P (insert_entry name_cmp ps k x)
all_insert P k x [] p all = All-cons P (k, x) [] (p k) all
all_insert P k x (e ∷ es) p all = go (name_cmp k e.0) (all_insert P k x es p (All-tail P e es all)) where
  go : (o : Ordering) → All P (insert_entry name_cmp es k x) → All P (match_ordering o ((k, x) ∷ e ∷ es) ((e.0, x) ∷ es)
      (e ∷ insert_entry name_cmp es k x))
  go Less again = All-cons P (k, x) (e ∷ es) (p k) all
  go Equal again = All-cons P (e.0, x) es (p e.0) (All-tail P e es all)
  go Greater again = All-cons P e (insert_entry name_cmp es k x) (All-head P e es all) again

all_remove : (P : Name × Value → Type 0) (test : Name → Bool) (ps : Props) → All P ps → All P (remove_entry test ps)
all_remove P test [] all = all
all_remove P test (e ∷ es) all = go (test e.0) (all_remove P test es (All-tail P e es all)) where
  go : (t : Bool) → All P (remove_entry test es) → All P (cond t es (e ∷ remove_entry test es))
  go true again = All-tail P e es all
  go false again = All-cons P e (remove_entry test es) (All-head P e es all) again

pub plain_put : (ps : Props) (k : Name) (x : Scalar) → ArePlain ps → ArePlain (put ps k x)
unfolding put
plain_put ps k s.Null a = all_remove (λ (p : Name × Value). IsTrue (is_plain p.1)) (is_at (name_cmp k)) ps a
plain_put ps k (s.Bool b) a = all_insert (λ (p : Name × Value). IsTrue (is_plain p.1)) k (v.Bool b) ps
    (λ q. ap is_there (scalar_again (s.Bool b))) a
plain_put ps k (s.Int z) a = all_insert (λ (p : Name × Value). IsTrue (is_plain p.1)) k (v.Int z) ps
    (λ q. ap is_there (scalar_again (s.Int z))) a
plain_put ps k (s.Text t) a = all_insert (λ (p : Name × Value). IsTrue (is_plain p.1)) k (v.Text t) ps
    (λ q. ap is_there (scalar_again (s.Text t))) a

pub plain_pairs : (params ps qs : Props) (list : List Pair) → ArePlain ps → pairs params ps list ≡ Ok qs → ArePlain qs
unfolding pairs
plain_pairs params ps qs [] a e = let same : ps ≡ qs = cc in subst ArePlain same a
plain_pairs params ps qs (p ∷ rest) a e = go (sum params [] p.value) e (λ x h. plain_pairs params (put ps p.key x) qs rest
    (plain_put ps p.key x a) h) where
      go : (r : Answer Scalar) → (r >>= λ x. pairs params (put ps p.key x) rest) ≡ Ok qs
          → ((x : Scalar) → pairs params (put ps p.key x) rest ≡ Ok qs → ArePlain qs) → ArePlain qs
      go (Ok x) h again = again x h
      go (Err f) h again = absurd (cc)

pub plain_changed : (params : Props) (cs : List Pair) (ps qs : Props) → ArePlain ps → changed params cs ps ≡ Ok qs → ArePlain qs
unfolding changed
plain_changed params [] ps qs a e = let same : ps ≡ qs = cc in subst ArePlain same a
plain_changed params (c ∷ cs) ps qs a e = go (sum params ps c.value) e (λ x h. plain_changed params cs (put ps c.key x) qs
    (plain_put ps c.key x a) h) where
      go : (r : Answer Scalar) → (r >>= λ x. changed params cs (put ps c.key x)) ≡ Ok qs
          → ((x : Scalar) → changed params cs (put ps c.key x) ≡ Ok qs → ArePlain qs) → ArePlain qs
      go (Ok x) h again = again x h
      go (Err f) h again = absurd (cc)

pub plain_answer : {E : Type 0} (r : Result Props E) (ps : Props) → IfOk r (λ d. d ≡ ps) → ArePlain ps → IfOk r ArePlain
plain_answer (Ok d) ps e a = subst ArePlain (sym e) a
plain_answer (Err x) ps e a = tt

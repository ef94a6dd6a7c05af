-- A MERGE that is run again.
use Rattle.std.proofs.Common.{◌≡◌, ℤ, pos, ◌+ℤ◌, int_lt, Bool, true, false, cond, ◌&&◌, List, [], ◌∷◌, ◌++◌, filter, Option, Some, None}
use Rattle.std.proofs.Common.{Ok, Err, int_eq, refl, sym, ap, ap₂, subst, ◌∙◌, ◌⊎◌, inl, inr}
use Rattle.std.specs.Bool.{beq}
use Rattle.std.specs.Cmp.Lexicographic.{bytes_decides}
use Rattle.std.specs.Str.{bytes_eq}
use Rattle.std.specs.BTreeMap.{insert_entry}
use Rattle.ncc_pack.specs.declared.value.Value.{Value}
use Rattle.ncc_cypher.specs.declared.tree.Pair.{Pair}
use Rattle.ncc_cypher.specs.declared.tree.Statement.{Statement}
use Rattle.ncc_cypher.specs.declared.tree.Head.{Head}
use Rattle.ncc_cypher.specs.declared.tree.Head.TheVariants as h
use Rattle.ncc_cypher.specs.declared.tree.Change.{Change}
use Rattle.ncc_cypher.specs.declared.tree.Change.TheVariants as c
use Rattle.ncc_cypher.specs.Parsed.{parsed}
use Rattle.ncc_store.specs.declared.call.Call.{Call}
use Rattle.ncc_store.specs.declared.node.StoredNode.{StoredNode}
use Rattle.ncc_store.specs.declared.scalar.Scalar.{Scalar}
use Rattle.ncc_store.specs.declared.scalar.Scalar.TheVariants as s
use Rattle.ncc_store.specs.declared.fault.RunFault.{RunFault}
use Rattle.ncc_store.specs.declared.fault.RunFault.TheVariants as f
use Rattle.ncc_store.specs.Scalar.{scalar, same, value_of}
use Rattle.ncc_store.specs.Props.{Name, Props, at_key, held, or_null, prop, put}
use Rattle.ncc_store.specs.Sum.{Answer, ◌>>=◌, sum}
use Rattle.ncc_store.specs.Graph.{Graph, ids, last_id}
use Rattle.ncc_store.specs.Rows.{returned}
use Rattle.ncc_store.specs.Exec.{Headed, has_label, has_value, taken, matching, made, found_or_made, merged, head, change, nodes_of}
use Rattle.ncc_store.specs.Exec.{step, run}
use Rattle.ncc_store.proofs.Placed.{itself}
use Rattle.ncc_store.proofs.Plain.{scalar_again}
use Rattle.ncc_store.proofs.Joined.{Given, bound, parts_of, ran_of, step_of}
use Rattle.ncc_store.proofs.Lasting.{Made, made_is}

text_itself : (t : Name) → bytes_eq t t ≡ true
text_itself t = (bytes_decides t t).1 refl

truth_itself : (b : Bool) → beq b b ≡ true
truth_itself true = refl
truth_itself false = refl

-- a property that was put alone has its value
put_alone_by : (k : Name) (x : Scalar) (v : Value) → scalar v ≡ Some x → held (at_key k ((k, v) ∷ [])) ≡ x
put_alone_by k x v e = ap (λ (t : Bool). held (cond t (Some v) None)) (text_itself k) ∙ ap or_null e

put_alone : (k : Name) (x : Scalar) → ((x ≡ s.Null) → ⊥) → prop k (put [] k x) ≡ x
unfolding prop put
put_alone k s.Null n = absurd (n refl)
put_alone k (s.Bool b) n = put_alone_by k (s.Bool b) (value_of (s.Bool b)) (scalar_again (s.Bool b))
put_alone k (s.Int z) n = put_alone_by k (s.Int z) (value_of (s.Int z)) (scalar_again (s.Int z))
put_alone k (s.Text t) n = put_alone_by k (s.Text t) (value_of (s.Text t)) (scalar_again (s.Text t))

same_itself : (x : Scalar) → ((x ≡ s.Null) → ⊥) → same x x ≡ true
same_itself s.Null n = absurd (n refl)
same_itself (s.Bool b) n = truth_itself b
same_itself (s.Int z) n = itself z
same_itself (s.Text t) n = text_itself t

abbrev one_made : Name → Name → Scalar → Graph → StoredNode
one_made l k x g = record { id = g.next; label = l; props = put [] k x }

made_taken : (l k : Name) (x : Scalar) (g : Graph) → ((x ≡ s.Null) → ⊥) → taken (Some l) (Some (k, x)) (one_made l k x g) ≡ true
made_taken l k x g n =
    ap₂ (λ (a : Bool) (b : Bool). a && b) (text_itself l) (ap (λ (y : Scalar). same y x) (put_alone k x n) ∙ same_itself x n)

abbrev grown : Name → Name → Scalar → Graph → Graph
grown l k x g = record { next = g.next +ℤ pos 1; nodes = g.nodes ++ one_made l k x g ∷ [] }

only_it : (l k : Name) (x : Scalar) (g : Graph) → ((x ≡ s.Null) → ⊥) → matching (Some l) (Some (k, x)) g ≡ []
    → matching (Some l) (Some (k, x)) (grown l k x g) ≡ g.next ∷ []
only_it l k x g n none =
    ap ids (split (taken (Some l) (Some (k, x))) g.nodes (one_made l k x g) (made_taken l k x g n))
    ∙ ids_append (filter (taken (Some l) (Some (k, x))) g.nodes) (one_made l k x g)
    ∙ ap (λ (is : List ℤ). is ++ g.next ∷ []) none where
      split : (p : StoredNode → Bool) (ns : List StoredNode) (m : StoredNode) → p m ≡ true → filter p (ns ++ m ∷ []) ≡ filter p ns ++ m ∷ []
      split p [] m e = ap (λ (t : Bool). cond t (m ∷ []) []) e
      split p (y ∷ ys) m e = go (p y) (split p ys m e) where
        go : (t : Bool) → filter p (ys ++ m ∷ []) ≡ filter p ys ++ m ∷ [] → cond t (y ∷ filter p (ys ++ m ∷ []))
            (filter p (ys ++ m ∷ [])) ≡ cond t (y ∷ filter p ys) (filter p ys) ++ m ∷ []
        go true again = ap (λ (zs : List StoredNode). y ∷ zs) again
        go false again = again

      ids_append : (ns : List StoredNode) (m : StoredNode) → ids (ns ++ m ∷ []) ≡ ids ns ++ m.id ∷ []
      ids_append [] m = refl
      ids_append (y ∷ ys) m = ap (λ (is : List ℤ). y.id ∷ is) (ids_append ys m)

found_again : (l k : Name) (x : Scalar) (g : Graph) (is : List ℤ) (r : Headed) → ((x ≡ s.Null) → ⊥) → matching (Some l) (Some (k, x)) g
    ≡ is → found_or_made l k x g is ≡ Ok r → found_or_made l k x r.0 (matching (Some l) (Some (k, x)) r.0) ≡ Ok r
found_again l k x g [] r n m e = go (int_lt g.next last_id) e where
  again : (q : Headed) → (grown l k x g, g.next ∷ []) ≡ q → found_or_made l k x q.0 (matching (Some l) (Some (k, x)) q.0) ≡ Ok q
  again q h = subst (λ (y : Headed). found_or_made l k x y.0 (matching (Some l) (Some (k, x)) y.0) ≡ Ok y) h
      (ap (found_or_made l k x (grown l k x g)) (only_it l k x g n m))

  go : (t : Bool) → cond t (Ok (grown l k x g, g.next ∷ [])) (Err f.IdsSpent) ≡ Ok r
      → found_or_made l k x r.0 (matching (Some l) (Some (k, x)) r.0) ≡ Ok r
  go true h = again r (let t : (grown l k x g, g.next ∷ []) ≡ r = cc in t)
  go false h = absurd (cc)
found_again l k x g (i ∷ is) r n m e =
    let t : (g, i ∷ is) ≡ r = cc in
    subst (λ (y : Headed). found_or_made l k x y.0 (matching (Some l) (Some (k, x)) y.0) ≡ Ok y) t (ap (found_or_made l k x g) m)

merged_again : (l k : Name) (g : Graph) (x : Scalar) (r : Headed) → merged l k g x ≡ Ok r → merged l k r.0 x ≡ Ok r
merged_again l k g s.Null r e = absurd (cc)
merged_again l k g (s.Bool b) r e = found_again l k (s.Bool b) g (matching (Some l) (Some (k, s.Bool b)) g) r (λ n. absurd (cc)) refl e
merged_again l k g (s.Int z) r e = found_again l k (s.Int z) g (matching (Some l) (Some (k, s.Int z)) g) r (λ n. absurd (cc)) refl e
merged_again l k g (s.Text t) r e = found_again l k (s.Text t) g (matching (Some l) (Some (k, s.Text t)) g) r (λ n. absurd (cc)) refl e

head_again : (params : Props) (g : Graph) (l : Name) (p : Pair) (r : Headed) → head params g (h.Merge l p) ≡ Ok r
    → head params r.0 (h.Merge l p) ≡ Ok r
head_again params g l p r e =
    let one = bound (sum params [] p.value) (merged l p.key g) r e in
    ap (λ (a : Answer Scalar). a >>= merged l p.key r.0) one.1.0 ∙ merged_again l p.key g one.0 r one.1.1

kept : (params : Props) (ch : Change) (r : Headed) (after : Graph) → ch ≡ c.Keep → change params ch r ≡ Ok after → after ≡ r.0
kept params c.Keep r after k e = let t : after ≡ r.0 = cc in t
kept params (c.Set cs) r after k e = absurd (cc)
kept params c.Delete r after k e = absurd (cc)

keeps : (params : Props) (ch : Change) (r : Headed) → ch ≡ c.Keep → change params ch r ≡ Ok r.0
keeps params c.Keep r k = refl
keeps params (c.Set cs) r k = absurd (cc)
keeps params c.Delete r k = absurd (cc)

pub merges_once : (g after : Graph) (call : Call) (x : Statement) (label : Name) (pair : Pair) (rows : Given)
    → parsed call.source ≡ Ok x → x.head ≡ h.Merge label pair → x.change ≡ c.Keep → step g call ≡ Ok (rows, after) → step after call
    ≡ Ok (rows, after)
merges_once g after call x label pair rows p is_merge is_keep e =
    let q = parts_of g call.params x rows after (ran_of g call x rows after p e) in
    let stays : after ≡ q.headed.0 = kept call.params x.change q.headed after is_keep q.change in
    let first : head call.params g (h.Merge label pair) ≡ Ok q.headed = ap (head call.params g) (sym is_merge) ∙ q.head in
    let second : head call.params after x.head ≡ Ok q.headed =
    ap₂ (head call.params) stays is_merge ∙ head_again call.params g label pair q.headed first in
    let changed : change call.params x.change q.headed ≡ Ok after = keeps call.params x.change q.headed is_keep ∙ ap Ok (sym stays) in
    step_of after call x p
    ∙ ap (λ (a : Answer Headed). a >>= λ r. change call.params x.change r >>= λ k. returned call.params x.tail (nodes_of x.head k r.1)
    >>= λ rs. Ok (rs, k)) second
    ∙ ap (λ (a : Answer Graph). a >>= λ k. returned call.params x.tail (nodes_of x.head k q.headed.1) >>= λ rs. Ok (rs, k)) changed
    ∙ ap (λ (a : Answer Given). a >>= λ rs. Ok (rs, after)) q.returned

-- Equal trees at some depth: kind by kind, from tree to tree, and what is found in the same place of lists that go pair by pair.
use mathlib.Core.Path.{◌≡◌, refl, subst}
use Prim.Native.Nat.{ℕ, zero, suc, ◌+◌, ◌<◌}
use mathlib.Core.List.{List}
use mathlib.Core.Option.{Option, none, some, none-ne-some}
use mathlib.Core.Bool.{Bool, true, false, cond}
use native.Mathlib.Omega.{arith}
use lib.ListN.{get_elem?}
use lib.Dec.{eqb}
use Rattle.definitions.specs.Layouts.{nodes}
use Rattle.definitions.specs.NodeFields.{Clause, chosen}
use Rattle.definitions.specs.SheetNodes.{SheetNode, call, sheet_node_of}
use Rattle.definitions.specs.Checks.{sheet_verdict}
use Rattle.definitions.specs.Trees.{same_tree, deepest}
use Rattle.definitions.specs.Verdict.{Accepted}
use Rattle.trees.specs.SameNodes.{Pairs, no_pair, pair, ClausePairs, no_clause_law, clause_pair, SameNode, same_call}
use Rattle.trees.proofs.Heads.{heads, heads_map, no_tree, tree_swap, tree_then, tree_rises}
use Rattle.trees.proofs.KindByKind.{kind_by_kind}
use Rattle.trees.proofs.Parts.{record_of}
use Rattle.trees.proofs.Depths.{within_deepest, tree_itself}
use Rattle.shared_runs.specs.Reads.{EqualTrees}

pub trees_then : {a b c : List ℕ} {k m n : ℕ} → EqualTrees a b k m → EqualTrees b c m n → EqualTrees a c k n
trees_then {a} {b} {c} {k} {m} {n} p q =
    let d = p.depth + q.depth in
    record {
      depth = d;
      equal = tree_then a b c d k m n (tree_rises a b p.depth d k m (omega arith) p.equal) (tree_rises b c q.depth d m n (omega arith) q.equal);
    }

pub trees_back : {a b : List ℕ} {k m : ℕ} → EqualTrees a b k m → EqualTrees b a m k
trees_back {a} {b} {k} {m} e = record { depth = e.depth; equal = tree_swap a b e.depth k m e.equal }

pub trees_itself : (a : List ℕ) → sheet_verdict a ≡ Accepted → (k : ℕ) → k < nodes a → EqualTrees a a k k
trees_itself a accepted k h = record { depth = deepest a; equal = tree_itself a (within_deepest a accepted k h) }

-- a call with a tree equal to a call's
pub record SameCall (R : ℕ → ℕ → Type 0) (f : ℕ) (ns : List ℕ) (md : SheetNode) : Type 0 where
  pub arguments : List ℕ
  pub is : md ≡ call f arguments
  pub pairs : Pairs R ns arguments

call_from : {R : ℕ → ℕ → Type 0} {a b : List ℕ} {k m f : ℕ} {ns : List ℕ} {md : SheetNode} → SameNode R a b k m (call f ns) md → SameCall R f ns md
call_from (same_call {ms} p) = record { arguments = ms; is = refl; pairs = p }

module _ (a b : List ℕ) (accepted : sheet_verdict a ≡ Accepted) where
  nodes_at_law : (d k m : ℕ) → k < nodes a → same_tree a b d k m ≡ true
      → SameNode (EqualTrees a b) a b k m (sheet_node_of a k) (sheet_node_of b m)
  unfolding sheet_node_of
  nodes_at_law zero k m h e = no_tree a b k m e
  nodes_at_law (suc d) k m h e =
      kind_by_kind a b k m (heads_map (λ x y q. record { depth = d; equal = q }) (heads a b d k m e)) (record_of a accepted k h)

  pub same_nodes : {k m : ℕ} → k < nodes a → EqualTrees a b k m → SameNode (EqualTrees a b) a b k m (sheet_node_of a k) (sheet_node_of b m)
  same_nodes {k} {m} h s = nodes_at_law s.depth k m h s.equal

  pub same_calls : {k m f : ℕ} {ns : List ℕ} → k < nodes a → sheet_node_of a k ≡ call f ns → EqualTrees a b k m
      → SameCall (EqualTrees a b) f ns (sheet_node_of b m)
  same_calls {k} {m} h e s =
      call_from (subst (λ (nd : SheetNode). SameNode (EqualTrees a b) a b k m nd (sheet_node_of b m)) e (same_nodes h s))

some_is : {x y : ℕ} → ◌≡◌ {A = Option ℕ} (some x) (some y) → x ≡ y
some_is e = cc

pub pairs_at : {R : ℕ → ℕ → Type 0} {xs ys : List ℕ} (i : ℕ) {x y : ℕ} → Pairs R xs ys → get_elem? xs i ≡ some x → get_elem? ys i ≡ some y → R x y
pairs_at i {x} no_pair e f = absurd (none-ne-some x e)
pairs_at zero (pair r p) e f = rw (some_is e, some_is f) at r
pairs_at (suc i) (pair r p) e f = pairs_at i p e f

-- in two lists that a third goes with, what is found
pub data BothFound (P : ℕ → ℕ → Type 0) : Option ℕ → Option ℕ → Type 0 where
  in_neither : BothFound P none none
  in_each : {k m : ℕ} → P k m → BothFound P (some k) (some m)

module _ {R Q : ℕ → ℕ → Type 0} (P : ℕ → ℕ → Type 0) where
  pub element_found : {xs ks ms : List ℕ} (i : ℕ) → Pairs R xs ks → Pairs Q xs ms
      → ((x k m : ℕ) → get_elem? xs i ≡ some x → get_elem? ks i ≡ some k → get_elem? ms i ≡ some m → R x k → Q x m → P k m)
      → BothFound P (get_elem? ks i) (get_elem? ms i)
  element_found i no_pair no_pair f = in_neither
  element_found zero (pair r p) (pair s q) f = in_each (f _ _ _ refl refl refl r s)
  element_found (suc i) (pair r p) (pair s q) f = element_found i p q f

  clause_here : (x k m : ℕ) (o u v : Option ℕ) (t : Bool)
      → R x k → Q x m
      → (((x k m : ℕ) → o ≡ some x → u ≡ some k → v ≡ some m → R x k → Q x m → P k m) → BothFound P u v)
      → ((y l n : ℕ) → cond t (some x) o ≡ some y → cond t (some k) u ≡ some l → cond t (some m) v ≡ some n → R y l → Q y n → P l n)
      → BothFound P (cond t (some k) u) (cond t (some m) v)
  clause_here x k m o u v true r s g f = in_each (f x k m refl refl refl r s)
  clause_here x k m o u v false r s g f = g f

  pub clause_found : {xs ks ms : List Clause} (t : ℕ) → ClausePairs R xs ks → ClausePairs Q xs ms
      → ((x k m : ℕ) → chosen xs t ≡ some x → chosen ks t ≡ some k → chosen ms t ≡ some m → R x k → Q x m → P k m)
      → BothFound P (chosen ks t) (chosen ms t)
  unfolding chosen
  clause_found t no_clause_law no_clause_law f = in_neither
  clause_found t (clause_pair {c = x} {d = k} {cs = xs} {ds = ks} e r p) (clause_pair {d = m} {ds = ms} g s q) f =
      rw (← e, ← g)
      (clause_here x.node k.node m.node (chosen xs t) (chosen ks t) (chosen ms t) (eqb x.constructor t) r s
      (λ h. clause_found t p q h) (rw (← e, ← g) at f))

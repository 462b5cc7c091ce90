-- Equal trees by what they say of their nodes; from tree to tree; at larger depths.
use mathlib.Core.Path.{◌≡◌, refl, sym, ◌∙◌}
use Prim.Native.Nat.{ℕ, zero, suc, ◌+◌, ◌-◌, ◌≤◌, ◌<◌}
use mathlib.Core.List.{List}
use mathlib.Core.Bool.{Bool, true, false, cond, and-eq-true_iff, false≢true}
use native.Mathlib.Omega.{arith}
use lib.Dec.{eqb}
use borrow.Author.Tests.{eqb-true, eq-eqb}
use Rattle.definitions.specs.Records.{kind_of, field, field_count}
use Rattle.definitions.specs.Lists.{all_of}
use Rattle.definitions.specs.Layouts.{node_record, owner_of}
use Rattle.definitions.specs.SheetKinds
use Rattle.definitions.specs.SheetNodes.{scrutinee_of}
use Rattle.definitions.specs.Trees.{names_node, same_field, same_fields, same_place, same_tree}
use Rattle.definitions.specs.declared.Layout.TheVariants.{Sheet}
use Rattle.laws.proofs.Lists.{all_each, all_pass}
use Rattle.trees.specs.SameNodes.{Heads}

-- one field
field_says : (same : ℕ → ℕ → Bool) (x y : ℕ) (t : Bool) → cond t (same x y) (eqb x y) ≡ true
    → (t ≡ true → same x y ≡ true) × (t ≡ false → x ≡ y)
field_says same x y true h = ((λ p. h), (λ p. absurd (false≢true (sym p))))
field_says same x y false h = ((λ p. absurd (false≢true p)), (λ p. eqb-true x y h))

field_same : (same : ℕ → ℕ → Bool) (x y : ℕ) (t : Bool) → (t ≡ true → same x y ≡ true) → (t ≡ false → x ≡ y)
    → cond t (same x y) (eqb x y) ≡ true
field_same same x y true p q = p refl
field_same same x y false p q = eq-eqb x y (q refl)

-- what is asked of a node besides its fields
place_same : (same : ℕ → ℕ → Bool) (a b : List ℕ) (kind k m : ℕ)
    → (kind ≡ SheetKinds.parameter → owner_of Sheet a k ≡ owner_of Sheet b m)
    → (kind ≡ SheetKinds.pattern_variable → same (scrutinee_of a k) (scrutinee_of b m) ≡ true)
    → same_place same a b kind k m ≡ true
unfolding same_place
place_same same a b kind k m p q = by (eqb kind SheetKinds.parameter) (eqb kind SheetKinds.pattern_variable) refl refl
  where
    by : (s t : Bool) → eqb kind SheetKinds.parameter ≡ s → eqb kind SheetKinds.pattern_variable ≡ t
        → cond s (eqb (owner_of Sheet a k) (owner_of Sheet b m)) (cond t (same (scrutinee_of a k) (scrutinee_of b m)) true) ≡ true
    by true t e f = eq-eqb _ _ (p (eqb-true _ _ e))
    by false true e f = q (eqb-true _ _ f)
    by false false e f = refl

-- a tree one deeper is its node over trees
pub heads : (a b : List ℕ) (d k m : ℕ) → same_tree a b (suc d) k m ≡ true → Heads (λ x y. same_tree a b d x y ≡ true) a b k m
unfolding same_tree same_fields same_field same_place
heads a b d k m e =
    let x = node_record a k in
    let y = node_record b m in
    let p = (and-eq-true_iff _ _).0 e in
    let q = (and-eq-true_iff _ _).0 p.0 in
    let r = (and-eq-true_iff _ _).0 q.0 in
    let each : (i : ℕ) → i < field_count x → cond (names_node (kind_of x) i) (same_tree a b d (field x i) (field y i)) (eqb (field x i) (field y i)) ≡ true
    = all_each (field_count x) (λ i. cond (names_node (kind_of x) i) (same_tree a b d (field x i) (field y i)) (eqb (field x i) (field y i))) q.1 in
    record {
      kinds = eqb-true _ _ r.0;
      counts = eqb-true _ _ r.1;
      parts = λ i h. (field_says (same_tree a b d) (field x i) (field y i) (names_node (kind_of x) i) (each i h)).0;
      numbers = λ i h. (field_says (same_tree a b d) (field x i) (field y i) (names_node (kind_of x) i) (each i h)).1;
      owners = λ h. eqb-true _ _ (rw h at p.1);
      scrutinees = λ h. rw h at p.1;
    }

pub from_heads : (a b : List ℕ) (d k m : ℕ) → Heads (λ x y. same_tree a b d x y ≡ true) a b k m → same_tree a b (suc d) k m ≡ true
unfolding same_tree same_fields same_field
from_heads a b d k m h =
    let x = node_record a k in
    let y = node_record b m in
    let each : all_of (field_count x) (λ i. cond (names_node (kind_of x) i) (same_tree a b d (field x i) (field y i)) (eqb (field x i) (field y i))) ≡ true
    = all_pass (field_count x) (λ i. cond (names_node (kind_of x) i) (same_tree a b d (field x i) (field y i)) (eqb (field x i) (field y i)))
    (λ i l. field_same (same_tree a b d) (field x i) (field y i) (names_node (kind_of x) i) (h.parts i l) (h.numbers i l)) in
    rw (eq-eqb _ _ h.kinds, eq-eqb _ _ h.counts, each, place_same (same_tree a b d) a b (kind_of x) k m h.owners h.scrutinees) refl

-- heads go along with what joins the parts
pub heads_map : {R Q : ℕ → ℕ → Type 0} {a b : List ℕ} {k m : ℕ} → ((x y : ℕ) → R x y → Q x y) → Heads R a b k m → Heads Q a b k m
heads_map f h =
    record {
      kinds = h.kinds;
      counts = h.counts;
      parts = λ i l e. f _ _ (h.parts i l e);
      numbers = h.numbers;
      owners = h.owners;
      scrutinees = λ e. f _ _ (h.scrutinees e);
    }

heads_swap : {R Q : ℕ → ℕ → Type 0} {a b : List ℕ} {k m : ℕ} → ((x y : ℕ) → R x y → Q y x) → Heads R a b k m → Heads Q b a m k
heads_swap f h =
    record {
      kinds = sym h.kinds;
      counts = sym h.counts;
      parts = λ i l e. f _ _ (h.parts i (rw h.counts l) (rw h.kinds e));
      numbers = λ i l e. sym (h.numbers i (rw h.counts l) (rw h.kinds e));
      owners = λ e. sym (h.owners (h.kinds ∙ e));
      scrutinees = λ e. f _ _ (h.scrutinees (h.kinds ∙ e));
    }

heads_then : {R Q P : ℕ → ℕ → Type 0} {a b c : List ℕ} {k m n : ℕ} → ((x y z : ℕ) → R x y → Q y z → P x z)
    → Heads R a b k m → Heads Q b c m n → Heads P a c k n
heads_then f h g =
    record {
      kinds = h.kinds ∙ g.kinds;
      counts = h.counts ∙ g.counts;
      parts = λ i l e. f _ _ _ (h.parts i l e) (g.parts i (rw (← h.counts) l) (rw (← h.kinds) e));
      numbers = λ i l e. h.numbers i l e ∙ g.numbers i (rw (← h.counts) l) (rw (← h.kinds) e);
      owners = λ e. h.owners e ∙ g.owners (sym h.kinds ∙ e);
      scrutinees = λ e. f _ _ _ (h.scrutinees e) (g.scrutinees (sym h.kinds ∙ e));
    }

-- no trees are equal at depth 0
pub no_tree : (a b : List ℕ) (k m : ℕ) {P : Type 0} → same_tree a b zero k m ≡ true → P
unfolding same_tree
no_tree a b k m e = absurd (false≢true e)

-- the other way round, and from tree to tree
pub tree_swap : (a b : List ℕ) (d k m : ℕ) → same_tree a b d k m ≡ true → same_tree b a d m k ≡ true
tree_swap a b zero k m e = no_tree a b k m e
tree_swap a b (suc d) k m e = from_heads b a d m k (heads_swap (tree_swap a b d) (heads a b d k m e))

pub tree_then : (a b c : List ℕ) (d k m n : ℕ) → same_tree a b d k m ≡ true → same_tree b c d m n ≡ true → same_tree a c d k n ≡ true
tree_then a b c zero k m n e f = no_tree a b k m e
tree_then a b c (suc d) k m n e f = from_heads a c d k n (heads_then (tree_then a b c d) (heads a b d k m e) (heads b c d m n f))

-- equal trees stay so at larger depths
pub tree_deeper : (a b : List ℕ) (d k m : ℕ) → same_tree a b d k m ≡ true → same_tree a b (suc d) k m ≡ true
tree_deeper a b zero k m e = no_tree a b k m e
tree_deeper a b (suc d) k m e = from_heads a b (suc d) k m (heads_map (tree_deeper a b d) (heads a b d k m e))

tree_more : (a b : List ℕ) (n d k m : ℕ) → same_tree a b d k m ≡ true → same_tree a b (n + d) k m ≡ true
tree_more a b zero d k m e = let z : 0 + d ≡ d = omega arith in rw z e
tree_more a b (suc n) d k m e =
    let z : suc n + d ≡ suc (n + d) = omega arith in rw z (tree_deeper a b (n + d) k m (tree_more a b n d k m e))

pub tree_rises : (a b : List ℕ) (d n k m : ℕ) → d ≤ n → same_tree a b d k m ≡ true → same_tree a b n k m ≡ true
tree_rises a b d n k m h e = let z : n - d + d ≡ n = omega arith in rw z at (tree_more a b (n - d) d k m e)

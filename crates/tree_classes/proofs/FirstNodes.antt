-- Numbered nodes have one number exactly if their trees are equal: outside clauses whatever the places of pattern variables, and
-- anywhere where these are the numbers of their scrutinees.
use mathlib.Core.Path.{◌≡◌, refl, sym, ◌∙◌}
use Prim.Native.Nat.{ℕ, zero, suc, ◌<◌}
use mathlib.Core.List.{List}
use mathlib.Core.Bool.{Bool, true, false, cond, false≢true}
use native.Mathlib.Omega.{arith}
use native.Mathlib.Nat.{not-suc-le-zero}
use lib.Dec.{eqb}
use borrow.Author.Tests.{eqb-true}
use Rattle.definitions.specs.Records.{kind_of, field, field_count}
use Rattle.definitions.specs.Layouts.{functions, nodes, node_record, owner_of}
use Rattle.definitions.specs.SheetKinds
use Rattle.definitions.specs.SheetNodes.{scrutinee_of}
use Rattle.definitions.specs.Checks.{sheet_verdict}
use Rattle.definitions.specs.Trees.{names_node, equal_trees}
use Rattle.definitions.specs.declared.Layout.TheVariants.{Sheet}
use Rattle.definitions.specs.Verdict.{Accepted}
use Rattle.laws.proofs.FirstPassing.{first_found}
use Rattle.accepted.proofs.Owners.{owner_below}
use Rattle.accepted.proofs.Checks.{sheet_shape}
use Rattle.trees.specs.SameNodes.{Heads}
use Rattle.trees.specs.Depths.{Outside}
use Rattle.trees.proofs.Parts.{part_smaller, part_below, scrutinee_outside, outside_part, outside_no_pattern}
use Rattle.trees.proofs.Equal.{equal_unfolds, equal_folds}
use Rattle.tree_classes.specs.Keys.{entry_of, value_of}
use Rattle.tree_classes.specs.Classes.{Numbered, FirstNodes}
use Rattle.tree_classes.specs.Places.{place_of, Placed, ScrutineeClasses}

-- values by whether the field names a node
module _ (class : ℕ → ℕ) (x y : ℕ) where
  value_part : (t : Bool) → t ≡ true → cond t (class x) x ≡ cond t (class y) y → class x ≡ class y
  value_part true e v = v
  value_part false e v = absurd (false≢true e)

  value_number : (t : Bool) → t ≡ false → cond t (class x) x ≡ cond t (class y) y → x ≡ y
  value_number true e v = absurd (false≢true (sym e))
  value_number false e v = v

  value_of_law : (t : Bool) → (t ≡ true → class x ≡ class y) → (t ≡ false → x ≡ y) → cond t (class x) x ≡ cond t (class y) y
  value_of_law true p q = p refl
  value_of_law false p q = q refl

-- some nodes, with their parts, on which places are what nodes count as besides their fields
record Meant (b : List ℕ) (place : ℕ → ℕ) (Among : ℕ → Type 0) : Type 0 where
  pub below : (k : ℕ) → Among k → k < nodes b
  pub part : (k : ℕ) → Among k → (i : ℕ) → i < field_count (node_record b k) → names_node (kind_of (node_record b k)) i ≡ true → Among (field (node_record b k) i)
  pub owners : (j k : ℕ) → Among j → Among k → kind_of (node_record b j) ≡ kind_of (node_record b k) → place j ≡ place k
      → kind_of (node_record b j) ≡ SheetKinds.parameter → owner_of Sheet b j ≡ owner_of Sheet b k
  pub scrutinees : (j k : ℕ) → Among j → Among k → kind_of (node_record b j) ≡ kind_of (node_record b k) → place j ≡ place k
      → kind_of (node_record b j) ≡ SheetKinds.pattern_variable → equal_trees b (scrutinee_of b j) (scrutinee_of b k) ≡ true
  pub places : (j k : ℕ) → Among j → Among k → Heads (λ x y. equal_trees b x y ≡ true) b b j k → place j ≡ place k

module _ {b : List ℕ} (accepted : sheet_verdict b ≡ Accepted) {place : ℕ → ℕ} {classes : List ℕ} (w : Numbered b place classes (nodes b))
    {Among : ℕ → Type 0} (m : Meant b place Among) where
  abbrev class : ℕ → ℕ
  class = entry_of classes

  numbered_equal : (d j k : ℕ) → j < d → Among j → Among k → class j ≡ class k → equal_trees b j k ≡ true
  unfolding value_of
  numbered_equal zero j k l p q e = absurd (not-suc-le-zero l)
  numbered_equal (suc d) j k l p q e =
      let h = m.below j p in
      let s = w.key j k h (m.below k q) e in
      equal_folds b accepted j k h
      (record {
        kinds = s.kinds;
        counts = s.counts;
        parts = λ i g t.
            numbered_equal d _ _ (omega (arith, l, part_smaller b accepted j h i g t)) (m.part j p i g t)
            (m.part k q i (rw (← s.counts) g) (rw (← s.kinds) t))
            (value_part class _ _ _ t (s.values i g ∙ rw s.kinds refl));
        numbers = λ i g t. value_number class _ _ _ t (s.values i g ∙ rw s.kinds refl);
        owners = m.owners j k p q s.kinds s.places;
        scrutinees = m.scrutinees j k p q s.kinds s.places;
      })

  equal_numbered : (d j k : ℕ) → j < d → Among j → Among k → equal_trees b j k ≡ true → class j ≡ class k
  unfolding value_of
  equal_numbered zero j k l p q e = absurd (not-suc-le-zero l)
  equal_numbered (suc d) j k l p q e =
      let h = m.below j p in
      let s = equal_unfolds b j k e in
      w.class j k h (m.below k q)
      (record {
        kinds = s.kinds;
        counts = s.counts;
        places = m.places j k p q s;
        values = λ i g.
            value_of_law class _ _ (names_node (kind_of (node_record b j)) i)
            (λ t. equal_numbered d _ _ (omega (arith, l, part_smaller b accepted j h i g t)) (m.part j p i g t)
            (m.part k q i (rw (← s.counts) g) (rw (← s.kinds) t)) (s.parts i g t))
            (s.numbers i g)
            ∙ rw s.kinds refl;
      })

-- places by a number for each function's scrutinee
module _ (scrutinee : ℕ → ℕ) (f g : ℕ) where
  place_owners : (kind : ℕ) → kind ≡ SheetKinds.parameter → place_of scrutinee kind f ≡ place_of scrutinee kind g → f ≡ g
  unfolding place_of
  place_owners kind e p = rw e at p

  place_scrutinees : (kind : ℕ) → kind ≡ SheetKinds.pattern_variable → place_of scrutinee kind f ≡ place_of scrutinee kind g → scrutinee f ≡ scrutinee g
  unfolding place_of
  place_scrutinees kind e p = rw e at p

  place_by : (kind : ℕ) (s t : Bool) → eqb kind SheetKinds.parameter ≡ s → eqb kind SheetKinds.pattern_variable ≡ t
      → (kind ≡ SheetKinds.parameter → f ≡ g) → (kind ≡ SheetKinds.pattern_variable → scrutinee f ≡ scrutinee g)
      → cond s f (cond t (scrutinee f) 0) ≡ cond s g (cond t (scrutinee g) 0)
  place_by kind true t e h p q = p (eqb-true kind SheetKinds.parameter e)
  place_by kind false true e h p q = q (eqb-true kind SheetKinds.pattern_variable h)
  place_by kind false false e h p q = refl

  place_same : (kind : ℕ) → (kind ≡ SheetKinds.parameter → f ≡ g) → (kind ≡ SheetKinds.pattern_variable → scrutinee f ≡ scrutinee g)
      → place_of scrutinee kind f ≡ place_of scrutinee kind g
  unfolding place_of
  place_same kind p q = place_by kind (eqb kind SheetKinds.parameter) (eqb kind SheetKinds.pattern_variable) refl refl p q

-- such places are meant where the numbers of scrutinees are
module _ {b places : List ℕ} {scrutinee : ℕ → ℕ} (d : Placed b scrutinee places (nodes b)) {Among : ℕ → Type 0}
    (below : (k : ℕ) → Among k → k < nodes b)
    (part : (k : ℕ) → Among k → (i : ℕ) → i < field_count (node_record b k) → names_node (kind_of (node_record b k)) i ≡ true → Among (field (node_record b k) i))
    (equal : (j k : ℕ) → Among j → Among k → kind_of (node_record b j) ≡ SheetKinds.pattern_variable → kind_of (node_record b k) ≡ SheetKinds.pattern_variable
    → scrutinee (owner_of Sheet b j) ≡ scrutinee (owner_of Sheet b k) → equal_trees b (scrutinee_of b j) (scrutinee_of b k) ≡ true)
    (one : (j k : ℕ) → Among j → Among k → kind_of (node_record b j) ≡ SheetKinds.pattern_variable → kind_of (node_record b k) ≡ SheetKinds.pattern_variable
    → equal_trees b (scrutinee_of b j) (scrutinee_of b k) ≡ true → scrutinee (owner_of Sheet b j) ≡ scrutinee (owner_of Sheet b k)) where
  by_kind : (j k : ℕ) → Among j → Among k → kind_of (node_record b j) ≡ kind_of (node_record b k) → entry_of places j ≡ entry_of places k
      → place_of scrutinee (kind_of (node_record b j)) (owner_of Sheet b j) ≡ place_of scrutinee (kind_of (node_record b j)) (owner_of Sheet b k)
  by_kind j k p q e z = sym (d.entry j (below j p)) ∙ z ∙ d.entry k (below k q) ∙ rw e refl

  places_meant : Meant b (entry_of places) Among
  places_meant =
      record {
        below = below;
        part = part;
        owners = λ j k p q e z t. place_owners scrutinee _ _ _ t (by_kind j k p q e z);
        scrutinees = λ j k p q e z t. equal j k p q t (sym e ∙ t) (place_scrutinees scrutinee _ _ _ t (by_kind j k p q e z));
        places = λ j k p q h.
            d.entry j (below j p)
            ∙ place_same scrutinee _ _ _ h.owners (λ t. one j k p q t (sym h.kinds ∙ t) (h.scrutinees t))
            ∙ rw h.kinds (sym (d.entry k (below k q)));
      }

module _ {b : List ℕ} (accepted : sheet_verdict b ≡ Accepted) where
  -- outside clauses no pattern variable is, so any places are
  module _ {places : List ℕ} {scrutinee : ℕ → ℕ} (d : Placed b scrutinee places (nodes b)) where
    outside_meant : Meant b (entry_of places) (Outside b)
    outside_meant =
        places_meant d (λ k o. o.below) (outside_part b accepted)
        (λ j k p q t u e. absurd (outside_no_pattern b accepted j p t))
        (λ j k p q t u e. absurd (outside_no_pattern b accepted j p t))

  -- with the numbers of scrutinees all are
  module _ {first second scrutinees classes : List ℕ} {scrutinee : ℕ → ℕ} (d : Placed b scrutinee first (nodes b)) (w : Numbered b (entry_of first) classes (nodes b))
      (s : ScrutineeClasses b (entry_of classes) scrutinees (functions b)) (e : Placed b (entry_of scrutinees) second (nodes b)) where
    scrutinee_class : (k : ℕ) → k < nodes b → entry_of scrutinees (owner_of Sheet b k) ≡ entry_of classes (scrutinee_of b k)
    unfolding scrutinee_of
    scrutinee_class k h = s.entry (owner_of Sheet b k) (owner_below Sheet b (sheet_shape b accepted) k h)

    all_meant : Meant b (entry_of second) (λ k. k < nodes b)
    all_meant =
        places_meant e (λ k h. h) (part_below b accepted)
        (λ j k p q t u z.
        let o = scrutinee_outside b accepted j p t in
        numbered_equal accepted w (outside_meant d) (nodes b) (scrutinee_of b j) (scrutinee_of b k) o.below o (scrutinee_outside b accepted k q u)
        (sym (scrutinee_class j p) ∙ z ∙ scrutinee_class k q))
        (λ j k p q t u z.
        let o = scrutinee_outside b accepted j p t in
        scrutinee_class j p
        ∙ equal_numbered accepted w (outside_meant d) (nodes b) (scrutinee_of b j) (scrutinee_of b k) o.below o (scrutinee_outside b accepted k q u) z
        ∙ sym (scrutinee_class k q))

    -- so the second numbers are the first nodes with equal trees
    pub classes_first : {found : List ℕ} → Numbered b (entry_of second) found (nodes b) → FirstNodes b found
    classes_first {found} n =
        record {
          size = n.size;
          entry = λ k h.
              let c = entry_of found in
              first_found (record {
                limit = n.below k h;
                passes = λ l. numbered_equal accepted n all_meant (nodes b) (c k) k (omega (arith, l, h)) (omega (arith, l, h)) h (n.first k h);
                least = λ i l t.
                    let z = equal_numbered accepted n all_meant (nodes b) i k (omega (arith, l, h)) (omega (arith, l, h)) h t in
                    omega (arith, z, n.below i (omega (arith, l, h)));
              });
        }

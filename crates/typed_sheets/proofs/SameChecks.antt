-- Sheets that are equal up to types pass the same checks of references, arguments, trees and patterns.
use mathlib.Core.Path.{◌≡◌, refl, ap, ap₂, ◌∙◌, fun_ext}
use Prim.Native.Nat.{ℕ, zero, suc, ◌+◌, ◌-◌}
use mathlib.Core.List.{List}
use mathlib.Core.Option.{Option, none, some}
use mathlib.Core.Bool.{Bool, true, cond, ◌&&◌, not}
use lib.Dec.{ltb, eqb}
use Rattle.definitions.specs.Records.{kind_of, field}
use Rattle.definitions.specs.SheetKinds
use Rattle.definitions.specs.Lists.{sum_of, count_of, all_of, last_of}
use Rattle.definitions.specs.Layouts.{nodes, first_node, node_record, owner_of}
use Rattle.definitions.specs.References.{parameters, children, child, clauses, names_in_range, in_range}
use Rattle.definitions.specs.SheetRules.{arguments_match, times_child, is_body, children_right, clauses_rise, tree_right, parent_of, clause_of, clause_within, below_arity, pattern_right}
use Rattle.definitions.specs.declared.Layout.TheVariants.{Sheet}
use Rattle.typed_sheets.specs.UpToTypes.{EqualUpToTypes}
use Rattle.typed_sheets.proofs.SameRuns.{same_owner, same_body}

module _ {a b : List ℕ} (e : EqualUpToTypes a b) where
  pub same_first_node : first_node a ≡ first_node b
  same_first_node = ap₂ (λ (i f : ℕ). 1 + i + f) e.items e.functions

  -- the names and the arguments of a record
  same_parameters : (r : ℕ) → parameters a (owner_of Sheet a (r - first_node a)) ≡ parameters b (owner_of Sheet b (r - first_node b))
  same_parameters r =
      e.parameters (owner_of Sheet a (r - first_node a))
      ∙ ap (λ f. parameters b f) (ap (λ n. owner_of Sheet a (r - n)) same_first_node ∙ same_owner e (r - first_node b))

  same_names : (r : ℕ) (rec : List ℕ) → names_in_range a r rec ≡ names_in_range b r rec
  unfolding names_in_range
  same_names r rec = rw (same_parameters r, e.readings, e.functions, e.items) refl

  pub same_range : (r : ℕ) (rec : List ℕ) → in_range a r rec ≡ in_range b r rec
  unfolding in_range
  same_range r rec = ap₂ ◌&&◌ (ap (λ n. all_of (children rec) (λ j. ltb (child rec j) n)) e.nodes) (same_names r rec)

  pub same_arguments : (r : ℕ) (rec : List ℕ) → arguments_match a r rec ≡ arguments_match b r rec
  unfolding arguments_match
  same_arguments r rec = rw (e.parameters (field rec 0), e.arities (field rec 0), e.items) refl

  -- the rules of children and cases
  records : Path (ℕ → List ℕ) (λ k. node_record a k) (λ k. node_record b k)
  records = fun_ext e.records

  same_is_body : (k : ℕ) → is_body a k ≡ is_body b k
  unfolding is_body
  same_is_body k = ap (eqb k) (same_body e k)

  same_children : (k : ℕ) → children_right a k ≡ children_right b k
  unfolding children_right
  same_children k =
      ap₂ (λ (rec : ℕ → List ℕ) (own : ℕ → ℕ). all_of (children (rec k)) (λ j. ltb (child (rec k) j) k && eqb (own (child (rec k) j)) (own k)))
      records (fun_ext (same_owner e))

  same_times : (k : ℕ) → times_child a k ≡ times_child b k
  unfolding times_child
  same_times k =
      ap₂ (λ (n : ℕ) (rec : ℕ → List ℕ). sum_of n (λ p. count_of (children (rec p)) (λ j. eqb (child (rec p) j) k))) e.nodes records

  pub same_tree_right : (k : ℕ) → tree_right a k ≡ tree_right b k
  unfolding tree_right
  same_tree_right k =
      ap₂ ◌&&◌ (ap₂ ◌&&◌ (same_children k) (ap₂ (λ (t : Bool) (n : ℕ). cond t true (eqb n 1)) (same_is_body k) (same_times k)))
      (ap₂ (λ (t : Bool) (rec : List ℕ). cond (eqb (kind_of rec) SheetKinds.case_of) (t && clauses_rise rec) true) (same_is_body k) (e.records k))

  -- the rule of patterns
  same_parent : (k : ℕ) → parent_of a k ≡ parent_of b k
  unfolding parent_of
  same_parent k =
      ap₂ (λ (n : ℕ) (rec : ℕ → List ℕ). last_of n (λ p. not (eqb (count_of (children (rec p)) (λ j. eqb (child (rec p) j) k)) 0)))
      e.nodes records

  same_clause : (d k : ℕ) → clause_within a d k ≡ clause_within b d k
  unfolding clause_within
  same_clause zero k = refl
  same_clause (suc d) k =
      ap₂ (λ (t : Bool) (o : Option ℕ). cond t none o) (same_is_body k)
      (ap₂ (λ (rec : List ℕ) (o : Option ℕ). cond (eqb (kind_of rec) SheetKinds.case_of) (clause_of rec (clauses rec) k) o)
      (e.records (parent_of a k) ∙ ap (node_record b) (same_parent k))
      (ap (clause_within a d) (same_parent k) ∙ same_clause d (parent_of b k)))

  same_below : (i : ℕ) (o : Option ℕ) → below_arity a i o ≡ below_arity b i o
  unfolding below_arity
  same_below i none = refl
  same_below i (some c) = ap (ltb i) (e.arities c)

  pub same_pattern_right : (k : ℕ) → pattern_right a k ≡ pattern_right b k
  unfolding pattern_right
  same_pattern_right k =
      ap₂ (λ (rec : List ℕ) (o : Option ℕ). cond (eqb (kind_of rec) SheetKinds.pattern_variable) (below_arity a (field rec 0) o) true)
      (e.records k) (ap (λ n. clause_within a n k) e.nodes ∙ same_clause (nodes b) k)
      ∙ ap (λ (t : Bool). cond (eqb (kind_of (node_record b k)) SheetKinds.pattern_variable) t true)
      (same_below (field (node_record b k) 0) (clause_within b (nodes b) k))

-- Each node of the canonical file stands in the clause in which its twin stands, so patterns pass.
use mathlib.Core.Path.{◌≡◌, refl, sym, ap, ◌∙◌}
use Prim.Native.Nat.{ℕ, ◌+◌, ◌<◌}
use mathlib.Core.List.{List}
use mathlib.Core.Option.{Option, none, some}
use mathlib.Core.Bool.{Bool, true, false, cond}
use native.Mathlib.Decide.{ℕ_discrete}
use lib.Dec.{eqb}
use borrow.Author.Tests.{eqb-true}
use Rattle.definitions.specs.Records.{kind_of, field, field_count}
use Rattle.definitions.specs.SheetKinds
use Rattle.definitions.specs.Numbers.{bad_tree}
use Rattle.definitions.specs.Layouts.{items, functions, nodes, first_node, node_record, body_of, owner_of}
use Rattle.definitions.specs.References.{every_other, from_first, from_second}
use Rattle.definitions.specs.SheetNodes.{SheetNode, sheet_node_of}
use Rattle.definitions.specs.SheetRules.{clause_within, below_arity, pattern_right, pattern}
use Rattle.definitions.specs.Checks.{sheet_verdict}
use Rattle.definitions.specs.Trees.{names_node}
use Rattle.definitions.specs.CanonicalSheet.{canonical}
use Rattle.definitions.specs.declared.Layout.TheVariants.{Sheet}
use Rattle.definitions.specs.Verdict.{Accepted}
use Rattle.laws.proofs.Verdicts.{require_true}
use Rattle.laws.proofs.ByteFiles.{Bytes}
use Rattle.accepted.specs.Child.{Child, is_case}
use Rattle.accepted.proofs.SheetRecords.{SheetRecord, is_number, is_reading, is_parameter, is_pattern_variable, is_operator, is_conditional, is_call, is_build, is_case_law, node_record_law}
use Rattle.accepted.proofs.Children.{clause_element}
use Rattle.accepted.proofs.Owners.{owner_of_body, owner_below}
use Rattle.accepted.proofs.Checks.{sheet_shape, trees_pass, pattern_right_law}
use Rattle.accepted.proofs.Places.{same_place, scrutinee_place, clause_place, body_place}
use Rattle.accepted.proofs.Patterns.{clause_within_below}
use Rattle.trees.proofs.Parts.{field_child, record_of, part_child}
use Rattle.canonical_sheets.proofs.ReadBack.{nodes_read, body_read}
use Rattle.canonical_sheets.proofs.Cover.{PassedDown, original}
use Rattle.canonical_sheets.proofs.Cases.{CaseIs, case_is, CaseField, of_scrutinee, of_clause, case_field}
use Rattle.canonical_sheets.proofs.Kept.{owner_kept, arity_kept}
use Rattle.canonical_sheets.proofs.Twins.{Twin, pair, twin_below, twin_child, twin_body, first_same, clauses_same, constructor_same}
use Rattle.canonical_sheets.proofs.TreesPass.{file_shaped, form_trees_pass}

other_case : {rec : List ℕ} {nd : SheetNode} → SheetRecord rec nd → (kind_of rec ≡ SheetKinds.case_of → ⊥) → is_case nd ≡ false
other_case (is_number e m) n = refl
other_case (is_reading e m) n = refl
other_case (is_parameter e m) n = refl
other_case (is_pattern_variable e m) n = refl
other_case (is_operator e m) n = refl
other_case (is_conditional e m) n = refl
other_case (is_call e l g) n = refl
other_case (is_build e l g) n = refl
other_case (is_case_law e m l g) n = absurd (n e)

-- twins that stand in clauses of the same constructor, or in none
pub record SameClause (b : List ℕ) (f k q : ℕ) : Type 0 where
  pub twin : Twin b f k q
  pub same : clause_within (canonical b) (nodes (canonical b)) q ≡ clause_within b (nodes b) k

module _ (b : List ℕ) (bytes : Bytes b) (accepted : sheet_verdict b ≡ Accepted) where
  abbrev form : List ℕ
  form = canonical b

  -- twins
  module _ {f k q : ℕ} (t : Twin b f k q) where
    abbrev one : List ℕ
    one = node_record b k

    abbrev two : List ℕ
    two = node_record form q

    one_record : SheetRecord one (sheet_node_of b k)
    one_record = record_of b accepted k (pair t).below

    two_record : SheetRecord two (sheet_node_of form q)
    two_record = node_record_law form (file_shaped b bytes accepted) q (twin_below b accepted t)

    -- that are cases
    module _ (e : kind_of one ≡ SheetKinds.case_of) where
      pub one_case : CaseIs one (sheet_node_of b k)
      one_case = case_is b k one_record e

      pub two_case : CaseIs two (sheet_node_of form q)
      two_case = case_is form q two_record ((pair t).kinds ∙ e)

    -- and the nodes that field i names
    module _ (i : ℕ) (l : i < field_count one) (n : names_node (kind_of one) i ≡ true) where
      pub one_child : Child (sheet_node_of b k) (field one i)
      one_child = part_child b accepted k (pair t).below i l n

      pub two_child : Child (sheet_node_of form q) (field two i)
      two_child = field_child two two_record i (rw (pair t).counts l) (rw (pair t).kinds n)

      plain_place : (kind_of one ≡ SheetKinds.case_of → ⊥) → clause_within form (nodes form) q ≡ clause_within b (nodes b) k
          → clause_within form (nodes form) (field two i) ≡ clause_within b (nodes b) (field one i)
      plain_place d same =
          same_place form (form_trees_pass b bytes accepted) q (twin_below b accepted t) refl (other_case two_record (λ z. d (sym (pair t).kinds ∙ z))) two_child
          ∙ same
          ∙ sym (same_place b (trees_pass b accepted) k (pair t).below refl (other_case one_record d) one_child)

      case_place : kind_of one ≡ SheetKinds.case_of → CaseField one i
          → clause_within form (nodes form) (field two i) ≡ clause_within b (nodes b) (field one i)
      case_place e (of_scrutinee z) =
          rw z
          (scrutinee_place form (form_trees_pass b bytes accepted) q (twin_below b accepted t) (two_case e).is
          ∙ sym (scrutinee_place b (trees_pass b accepted) k (pair t).below (one_case e).is))
      case_place e (of_clause j m w) =
          rw w
          at (clause_place form (form_trees_pass b bytes accepted) q (twin_below b accepted t) (two_case e).is j
          (clause_element two j (rw (clauses_same b accepted t) m))
          ∙ ap some (constructor_same b accepted t e (one_case e).count j m)
          ∙ sym (clause_place b (trees_pass b accepted) k (pair t).below (one_case e).is j (clause_element one j m)))

      child_place : clause_within form (nodes form) q ≡ clause_within b (nodes b) k
          → clause_within form (nodes form) (field two i) ≡ clause_within b (nodes b) (field one i)
      child_place same =
          elim (ℕ_discrete (kind_of one) SheetKinds.case_of) [
            | yes e ↦ case_place e (case_field one i e (one_case e).count l n)
            | no e ↦ plain_place e same
          ]

  -- every node
  pub clauses_down : {f : ℕ} → PassedDown (SameClause b f) b form
  clauses_down =
      record { down = λ i l n w. record { twin = twin_child b accepted w.twin i l n; same = child_place w.twin i l n w.same } }

  pub body_clause : (f : ℕ) → f < functions b → SameClause b f (body_of Sheet b f) (body_of Sheet b f)
  body_clause f h =
      let p = body_of Sheet b f in
      let o = owner_of_body Sheet b (sheet_shape b accepted) f h in
      let e : p ≡ body_of Sheet form (owner_of Sheet form p) = rw (owner_kept b accepted p, o, body_read b accepted f h) refl in
      record { twin = twin_body b accepted bytes f h; same = body_place form p (nodes form) e ∙ sym (body_place b p (nodes b) (rw o refl)) }

  -- so a pattern variable is below the arity of its clause's constructor
  arity_by : (i : ℕ) (o : Option ℕ) → ((j : ℕ) → o ≡ some j → j < items b) → below_arity b i o ≡ true → below_arity form i o ≡ true
  unfolding below_arity
  arity_by i none f e = e
  arity_by i (some j) f e = rw (arity_kept b accepted j (f j refl)) e

  pattern_by : (q : ℕ) → q < nodes b → (t : Bool) → eqb (kind_of (node_record form q)) SheetKinds.pattern_variable ≡ t
      → cond t (below_arity form (field (node_record form q) 0) (clause_within form (nodes form) q)) true ≡ true
  unfolding pattern_right names_node every_other from_first from_second
  pattern_by q h false e = refl
  pattern_by q h true e =
      let f = owner_of Sheet b q in
      let x = original b bytes accepted (SameClause b f) clauses_down q h (body_clause f (owner_below Sheet b (sheet_shape b accepted) q h)) in
      let k = x.node in
      let t = x.holds.twin in
      let kind : kind_of (node_record b k) ≡ SheetKinds.pattern_variable
      = sym (pair t).kinds ∙ eqb-true (kind_of (node_record form q)) SheetKinds.pattern_variable e in
      let g : below_arity b (field (node_record b k) 0) (clause_within b (nodes b) k) ≡ true = rw kind at (pattern_right_law b accepted k (pair t).below) in
      rw (first_same b accepted t kind refl, x.holds.same)
      (arity_by (field (node_record b k) 0) (clause_within b (nodes b) k) (λ j w. clause_within_below b accepted (nodes b) k j (pair t).below w) g)

  pub pattern_passes : (q : ℕ) → q < nodes form → pattern form q ≡ Accepted
  unfolding pattern pattern_right
  pattern_passes q g =
      require_true (pattern_right form q) bad_tree (first_node form + q)
      (pattern_by q (rw (nodes_read b accepted) at g) (eqb (kind_of (node_record form q)) SheetKinds.pattern_variable) refl)

-- The nodes of the canonical file keep the rules of types where the sheet's do.
use mathlib.Core.Path.{◌≡◌, refl}
use Prim.Native.Nat.{ℕ, ◌+◌, ◌<◌}
use mathlib.Core.List.{List}
use mathlib.Core.Bool.{Bool, true, false, cond, ◌||◌}
use native.Mathlib.Decide.{ℕ_discrete}
use lib.Dec.{eqb}
use borrow.Author.Tests.{eq-eqb, ne_eqb}
use Rattle.definitions.specs.Records.{kind_of, field, field_count}
use Rattle.definitions.specs.SheetKinds
use Rattle.definitions.specs.Numbers.{ill_typed}
use Rattle.definitions.specs.Verdicts.{first_of}
use Rattle.definitions.specs.Layouts.{is_typed, functions, nodes, first_node, node_record, body_of, owner_of}
use Rattle.definitions.specs.SheetRules.{is_body}
use Rattle.definitions.specs.Types.{is_clause_of, is_clause, result_typed, type_right, typing, types}
use Rattle.definitions.specs.Checks.{sheet_verdict}
use Rattle.definitions.specs.Trees.{names_node}
use Rattle.definitions.specs.CanonicalSheet.{canonical}
use Rattle.definitions.specs.declared.Layout.TheVariants.{Sheet}
use Rattle.definitions.specs.Verdict.{Accepted}
use Rattle.laws.proofs.Verdicts.{require_true, first_all}
use Rattle.laws.proofs.ByteFiles.{Bytes}
use Rattle.accepted.proofs.Children.{clause_element}
use Rattle.accepted.proofs.Owners.{owner_of_body, owner_below, body_below}
use Rattle.accepted.proofs.Checks.{sheet_shape, trees_pass, type_right_law}
use Rattle.accepted.proofs.Trees.{child_no_body}
use Rattle.accepted.proofs.Parents.{parent_is}
use Rattle.accepted.proofs.Places.{no_scrutinee}
use Rattle.canonical_sheets.proofs.ReadBack.{nodes_read, typed_read}
use Rattle.canonical_sheets.proofs.Cover.{PassedDown, original}
use Rattle.canonical_sheets.proofs.Cases.{CaseField, of_scrutinee, of_clause, case_field}
use Rattle.canonical_sheets.proofs.Kept.{body_kept}
use Rattle.canonical_sheets.proofs.Twins.{Twin, pair, twin_below, clauses_same}
use Rattle.canonical_sheets.proofs.TreesPass.{form_trees_pass}
use Rattle.canonical_sheets.proofs.PatternsPass.{SameClause, one_case, two_case, one_child, two_child, clauses_down, body_clause}
use Rattle.canonical_sheets.proofs.SameTypes.{owner_result, same_type, same_children}

-- whether a function's result type is asked of a node: of a body and of a clause's node
abbrev asked : List ℕ → ℕ → Bool
asked s k = is_body s k || is_clause s k

module _ (b : List ℕ) (bytes : Bytes b) (accepted : sheet_verdict b ≡ Accepted) where
  abbrev form : List ℕ
  form = canonical b

  -- twins of both of which it is asked, or of neither
  record SameAsked (f k q : ℕ) : Type 0 where
    clause : SameClause b f k q
    results : asked form q ≡ asked b k

  body_asked : (f : ℕ) → f < functions b → SameAsked f (body_of Sheet b f) (body_of Sheet b f)
  unfolding is_body
  body_asked f h =
      let p = body_of Sheet b f in
      let own : eqb p (body_of Sheet b (owner_of Sheet b p)) ≡ true = eq-eqb p _ (rw (owner_of_body Sheet b (sheet_shape b accepted) f h) refl) in
      record { clause = body_clause b bytes accepted f h; results = rw (body_kept b accepted p (body_below Sheet b (sheet_shape b accepted) f h), own) refl }

  -- the nodes that field i of twins names
  module _ {f k q : ℕ} (t : Twin b f k q) (i : ℕ) (l : i < field_count (node_record b k)) (n : names_node (kind_of (node_record b k)) i ≡ true) where
    abbrev one : List ℕ
    one = node_record b k

    abbrev two : List ℕ
    two = node_record form q

    one_no_body : is_body b (field one i) ≡ false
    unfolding is_body
    one_no_body = ne_eqb _ _ (child_no_body b (trees_pass b accepted) k (pair t).below refl (one_child b bytes accepted t i l n))

    two_no_body : is_body form (field two i) ≡ false
    unfolding is_body
    two_no_body =
        ne_eqb _ _ (child_no_body form (form_trees_pass b bytes accepted) q (twin_below b accepted t) refl (two_child b bytes accepted t i l n))

    -- in a case, the scrutinee is its first field and no other
    scrutinee_same : kind_of one ≡ SheetKinds.case_of → CaseField one i → eqb (field two 0) (field two i) ≡ eqb (field one 0) (field one i)
    scrutinee_same e (of_scrutinee z) = rw (z, eq-eqb (field two 0) (field two 0) refl, eq-eqb (field one 0) (field one 0) refl) refl
    scrutinee_same e (of_clause j m w) =
        let no_one = no_scrutinee b (trees_pass b accepted) k (pair t).below (one_case b bytes accepted t e).is j (clause_element one j m) in
        let no_two = no_scrutinee form (form_trees_pass b bytes accepted) q (twin_below b accepted t) (two_case b bytes accepted t e).is j
        (clause_element two j (rw (clauses_same b accepted t) m)) in
        rw (ne_eqb _ _ (rw w at no_two), ne_eqb _ _ (rw w at no_one)) refl

    clause_same : is_clause_of two (field two i) ≡ is_clause_of one (field one i)
    unfolding is_clause_of
    clause_same =
        elim (ℕ_discrete (kind_of one) SheetKinds.case_of) [
          | yes e ↦ rw ((pair t).kinds, scrutinee_same e (case_field one i e (one_case b bytes accepted t e).count l n)) refl
          | no e ↦ rw ((pair t).kinds, ne_eqb (kind_of one) SheetKinds.case_of e) refl
        ]

    child_asked : asked form (field two i) ≡ asked b (field one i)
    unfolding is_clause
    child_asked =
        rw (
          one_no_body,
          two_no_body,
          parent_is b (trees_pass b accepted) k (pair t).below refl (one_child b bytes accepted t i l n),
          parent_is form (form_trees_pass b bytes accepted) q (twin_below b accepted t) refl (two_child b bytes accepted t i l n),
        ) clause_same

  asked_down : {f : ℕ} → PassedDown (SameAsked f) b form
  asked_down =
      record {
        down = λ i l n w. record {
          clause = (clauses_down b bytes accepted).down i l n w.clause;
          results = child_asked w.clause.twin i l n;
        };
      }

  -- the rules of types
  type_passes : is_typed b ≡ true → (q : ℕ) → q < nodes form → type_right form q ≡ true
  unfolding type_right result_typed
  type_passes typed q g =
      let h : q < nodes b = rw (nodes_read b accepted) at g in
      let f = owner_of Sheet b q in
      let x = original b bytes accepted (SameAsked f) asked_down q h (body_asked f (owner_below Sheet b (sheet_shape b accepted) q h)) in
      let w = x.holds.clause in
      rw (same_children b accepted bytes w, x.holds.results, same_type b accepted bytes w, owner_result b accepted w)
      (type_right_law b accepted typed x.node (pair w.twin).below)

  types_by : (t : Bool) → is_typed b ≡ t → cond t (first_of (nodes form) (typing form)) Accepted ≡ Accepted
  unfolding typing
  types_by true e =
      first_all (nodes form) (typing form) (λ q h. require_true (type_right form q) ill_typed (first_node form + q) (type_passes e q h))
  types_by false e = refl

  pub types_pass : types form ≡ Accepted
  unfolding types
  types_pass = rw (typed_read b accepted) (types_by (is_typed b) refl)

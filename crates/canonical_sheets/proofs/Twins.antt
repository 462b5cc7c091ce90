-- The nodes of the canonical file, each with the node of the sheet that it is a copy of, its twin: their functions, their children, and
-- their fields that name no node.
use mathlib.Core.Path.{◌≡◌, refl, sym, ◌∙◌}
use Prim.Native.Nat.{ℕ, ◌+◌, ◌*◌, ◌%◌, ◌≤◌, ◌<◌}
use mathlib.Core.List.{List}
use mathlib.Core.Bool.{true, false}
use native.Mathlib.Omega.{arith}
use borrow.Author.Tests.{ne_eqb}
use Rattle.definitions.specs.Records.{kind_of, field, field_count}
use Rattle.definitions.specs.SheetKinds
use Rattle.definitions.specs.Lists.{sum_of}
use Rattle.definitions.specs.Layouts.{functions, nodes, node_record, node_count, run_end, body_of, owner_of}
use Rattle.definitions.specs.Shape.{file_shape}
use Rattle.definitions.specs.References.{every_other, children, child, clauses, clause_constructor}
use Rattle.definitions.specs.SheetNodes.{SheetNode}
use Rattle.definitions.specs.Checks.{sheet_verdict}
use Rattle.definitions.specs.Trees.{names_node}
use Rattle.definitions.specs.CanonicalSheet.{canonical}
use Rattle.definitions.specs.declared.Layout.TheVariants.{Sheet}
use Rattle.definitions.specs.Verdict.{Accepted}
use Rattle.laws.proofs.ByteFiles.{Bytes}
use Rattle.accepted.proofs.SheetRecords.{SheetRecord, is_number, is_reading, is_parameter, is_pattern_variable, is_operator, is_conditional, is_call, is_build, is_case_law}
use Rattle.accepted.proofs.Owners.{owner_unique, owner_below, end_within_law, body_before_end}
use Rattle.accepted.proofs.Checks.{sheet_shape}
use Rattle.trees.proofs.Parts.{record_of}
use Rattle.canonical_sheets.proofs.ReadBack.{nodes_read}
use Rattle.canonical_sheets.proofs.ChildFields.{child_named}
use Rattle.canonical_sheets.proofs.Placed.{Copy, Placed}
use Rattle.canonical_sheets.proofs.Cover.{copy, tree_order, subtree, PassedDown, Original, body_placed, original}
use Rattle.canonical_sheets.proofs.Kept.{owner_kept}

-- node q of the canonical file is node k of the sheet, and its tree stands in the run of their function f
pub record Twin (b : List ℕ) (f k q : ℕ) : Type 0 where
  pub first : ℕ
  pub tree : Placed b (canonical b) f first k q
  pub function : f < functions b
  pub from : sum_of f (node_count Sheet b) ≤ first
  pub to : q < run_end Sheet b f

-- as records
abbrev pub pair : {b : List ℕ} {f k q : ℕ} → Twin b f k q → Copy b (canonical b) f k q
pair t = copy t.tree

-- a node has a field
some_field : {rec : List ℕ} {nd : SheetNode} → SheetRecord rec nd → 0 < field_count rec
some_field (is_number e m) = omega (arith, m)
some_field (is_reading e m) = omega (arith, m)
some_field (is_parameter e m) = omega (arith, m)
some_field (is_pattern_variable e m) = omega (arith, m)
some_field (is_operator e m) = omega (arith, m)
some_field (is_conditional e m) = omega (arith, m)
some_field (is_call e l g) = l
some_field (is_build e l g) = l
some_field (is_case_law e m l g) = omega (arith, m)

module _ (b : List ℕ) (accepted : sheet_verdict b ≡ Accepted) where
  abbrev form : List ℕ
  form = canonical b

  abbrev shaped : file_shape Sheet b ≡ Accepted
  shaped = sheet_shape b accepted

  module _ {f k q : ℕ} (t : Twin b f k q) where
    abbrev one : List ℕ
    one = node_record b k

    abbrev two : List ℕ
    two = node_record form q

    pub twin_below : q < nodes form
    twin_below = rw (nodes_read b accepted) (omega (arith, t.to, end_within_law Sheet b shaped f t.function))

    pub twin_owner : owner_of Sheet form q ≡ f
    twin_owner = owner_kept b accepted q ∙ owner_unique Sheet b shaped q f t.function (omega (arith, t.from, tree_order t.tree)) t.to

    -- children
    pub twin_child : (i : ℕ) → i < field_count one → names_node (kind_of one) i ≡ true → Twin b f (field one i) (field two i)
    twin_child i l n =
        let w = subtree t.tree i l n in
        record {
          first = w.first;
          tree = w.tree;
          function = t.function;
          from = omega (arith, w.from, t.from);
          to = omega (arith, w.before, t.to);
        }

    -- a field that names no node
    pub first_same : {n : ℕ} → kind_of one ≡ n → names_node n 0 ≡ false → field two 0 ≡ field one 0
    first_same e n = (pair t).plain 0 (some_field (record_of b accepted k (pair t).below)) (rw e n)

    pub clauses_same : clauses two ≡ clauses one
    unfolding clauses
    clauses_same = rw (pair t).counts refl

    pub constructor_same : kind_of one ≡ SheetKinds.case_of → field_count one ≡ 1 + 2 * clauses one → (j : ℕ) → j < clauses one
        → clause_constructor two j ≡ clause_constructor one j
    unfolding clause_constructor names_node every_other
    constructor_same e m j l = (pair t).plain (1 + 2 * j) (omega (arith, m, l)) (rw (e, ne_eqb ((1 + 2 * j) % 2) 0 (λ z. omega (arith, z))) refl)

  -- a child is before its parent, in the same function
  pub child_before : {f k q : ℕ} → Twin b f k q → (j : ℕ) → j < children (node_record form q)
      → (child (node_record form q) j < q) × (owner_of Sheet form (child (node_record form q) j) ≡ owner_of Sheet form q)
  child_before {f} {k} {q} t j l =
      let n = child_named (node_record form q) j l in
      let h = rw (pair t).counts at n.below in
      let i = rw (pair t).kinds at n.holds.0 in
      rw n.holds.1 ((subtree t.tree n.at h i).before, twin_owner (twin_child t n.at h i) ∙ sym (twin_owner t))

  -- every node
  twins_down : {f : ℕ} → PassedDown (Twin b f) b form
  twins_down = record { down = λ i l n t. twin_child t i l n }

  module _ (bytes : Bytes b) where
    pub twin_body : (f : ℕ) → f < functions b → Twin b f (body_of Sheet b f) (body_of Sheet b f)
    twin_body f h =
        record {
          first = sum_of f (node_count Sheet b);
          tree = body_placed b bytes accepted f h;
          function = h;
          from = omega arith;
          to = omega (arith, body_before_end Sheet b shaped f h);
        }

    pub twin_of : (q : ℕ) → q < nodes b → Original (Twin b (owner_of Sheet b q)) b q
    twin_of q h =
        let f = owner_of Sheet b q in
        original b bytes accepted (Twin b f) twins_down q h (twin_body f (owner_below Sheet b shaped q h))

-- Laws of the child, case and clause order rules over an opened sheet's tables.
use mathlib.Core.Path.{◌≡◌, refl, sym, ◌∙◌}
use Prim.Native.Nat.{ℕ, suc, ◌+◌, ◌-◌, ◌≤◌, ◌<◌}
use mathlib.Core.List.{List}
use mathlib.Core.Bool.{Bool, true, false, cond, not}
use native.Mathlib.Omega.{arith}
use native.Mathlib.Numerals.{add-one}
use lib.ListN.{get_or}
use lib.Dec.{ltb, eqb, eqb-suc-suc}
use Rattle.definitions.specs.Numbers.{bad_tree}
use Rattle.definitions.specs.SheetKinds
use Rattle.definitions.specs.Sizes.{most_functions, most_nodes}
use borrow.Author.Tests.{lt-ltb, le-ltb, eq-eqb, ne_eqb}
use Rattle.definitions.specs.Records.{record_at, kind_of}
use Rattle.definitions.specs.Lists.{all_of}
use Rattle.definitions.specs.Layouts.{functions, nodes, first_node, node_record, body_of, owner_of}
use Rattle.definitions.specs.References.{children, child, clause_constructor}
use Rattle.definitions.specs.SheetRules.{times_child, is_body, children_right, clauses_rise, tree_right, tree}
use Rattle.definitions.specs.declared.Layout.TheVariants.{Sheet}
use Rattle.definitions.specs.Verdict.{Accepted, Refused}
use Rattle.accepted.proofs.Head.{nodes_limit, functions_limit}
use Rattle.accepted.proofs.Owners.{owner_below, body_before_end}
use Rattle.laws.proofs.Verdicts.{require_true, require_false}
use Rattle.file_records.specs.Index.{start_in}
use Rattle.file_runs.specs.Runs.{Owners}
use Rattle.sheet_rules.specs.Nodes.{NodeAt, child_right}
use Rattle.sheet_rules.specs.Seen.{TimesOf}
use Rattle.file_records.proofs.Indices.{opened_record}

-- node k and its owner are in the tables
module _ {b starts ends owners : List ℕ} {k : ℕ} (w : NodeAt b starts ends owners k) where
  pub node_in_table : k < most_nodes
  node_in_table = omega (arith, w.below, nodes_limit Sheet b w.file.accepted)

  owner_read : (x : ℕ) → x ≡ get_or owners k 0 → x ≡ owner_of Sheet b k
  owner_read x e = e ∙ w.owned.entry k w.below

  owner_few : (x : ℕ) → x ≡ get_or owners k 0 → x < functions b
  owner_few x e = rw (owner_read x e) (owner_below Sheet b w.file.accepted k w.below)

  pub owner_in_table : {x : ℕ} → x ≡ get_or owners k 0 → x < most_functions
  owner_in_table {x} e = omega (arith, owner_few x e, functions_limit Sheet b w.file.accepted)

  pub body_test : {x e : ℕ} → x ≡ get_or owners k 0 → e ≡ get_or ends x 0 → eqb (k + 1) e ≡ is_body b k
  unfolding is_body
  body_test {x} {e} f g =
      let h : e ≡ suc (body_of Sheet b x) = g ∙ w.runs.entry x (owner_few x f) ∙ sym (body_before_end Sheet b w.file.accepted x (owner_few x f)) in
      rw (h, add-one, eqb-suc-suc, ← owner_read x f) refl

  -- the record of node k
  pub node_record_law : {f : ℕ} {rec : List ℕ} → f ≡ first_node b → rec ≡ record_at b (start_in starts (f + k)) → rec ≡ node_record b k
  node_record_law {f} {rec} e g =
      opened_record Sheet b starts (f + k) rec w.file (omega (arith, e, w.below)) g ∙ rw e refl

-- the test of a child
module _ (b rec : List ℕ) {k : ℕ} (j : ℕ) {c : ℕ} (e : c ≡ child rec j) where
  pub child_not_smaller : k ≤ c → child_right b rec k j ≡ false
  child_not_smaller h = rw (← e, le-ltb c k h) refl

  module _ {owners : List ℕ} (w : Owners b owners) (hk : k < nodes b) (h : c < k) where
    pub child_elsewhere : (get_or owners c 0 ≡ get_or owners k 0 → ⊥) → child_right b rec k j ≡ false
    child_elsewhere f =
        rw (← e, lt-ltb c k h, ne_eqb (owner_of Sheet b c) (owner_of Sheet b k) (λ q. f (w.entry c (omega arith) ∙ q ∙ sym (w.entry k hk)))) refl

    pub child_right_law : get_or owners c 0 ≡ get_or owners k 0 → child_right b rec k j ≡ true
    child_right_law f =
        rw (← e, lt-ltb c k h, eq-eqb (owner_of Sheet b c) (owner_of Sheet b k) (sym (w.entry c (omega arith)) ∙ f ∙ w.entry k hk)) refl

-- the test of two clauses that follow one another
module _ (rec : List ℕ) {j x y : ℕ} (h : 1 ≤ j) (e : x ≡ clause_constructor rec j) (f : y ≡ clause_constructor rec (j - 1)) where
  next_clause : suc (j - 1) ≡ j
  next_clause = omega (arith, h)

  pub clauses_fall : x ≤ y → ltb (clause_constructor rec (j - 1)) (clause_constructor rec (suc (j - 1))) ≡ false
  clauses_fall l = rw (next_clause, ← f, ← e) (le-ltb y x l)

  pub clauses_rise_here : y < x → ltb (clause_constructor rec (j - 1)) (clause_constructor rec (suc (j - 1))) ≡ true
  clauses_rise_here l = rw (next_clause, ← f, ← e) (lt-ltb y x l)

-- the rules of node k, by what the tests answered
module _ (b : List ℕ) {rec : List ℕ} (k : ℕ) (er : rec ≡ node_record b k) {t : Bool}
    (et : t ≡ all_of (children rec) (λ j. child_right b rec k j)) where
  pub tree_child_wrong : t ≡ false → false ≡ tree_right b k
  unfolding tree_right children_right
  tree_child_wrong e = rw (← er, ← et, e) refl

  module _ (ht : t ≡ true) {u : Bool} (eu : u ≡ is_body b k) where
    pub tree_case_body : {i : ℕ} {v : Bool} → u ≡ true → i ≡ kind_of rec → i ≡ SheetKinds.case_of → v ≡ clauses_rise rec → v ≡ tree_right b k
    unfolding tree_right children_right
    tree_case_body e f g h = rw (← er, ← et, ht, ← eu, e, ← f, g) h

    pub tree_body : {i : ℕ} → u ≡ true → i ≡ kind_of rec → (i ≡ SheetKinds.case_of → ⊥) → true ≡ tree_right b k
    unfolding tree_right children_right
    tree_body {i} e f g = rw (← er, ← et, ht, ← eu, e, ← f, ne_eqb i SheetKinds.case_of g) refl

    module _ {times : List ℕ} (w : TimesOf b times) (hk : k < nodes b) {x : ℕ} (ex : x ≡ get_or times k 0) where
      pub tree_times_wrong : u ≡ false → (x ≡ 1 → ⊥) → false ≡ tree_right b k
      unfolding tree_right children_right
      tree_times_wrong e f =
          rw (← er, ← et, ht, ← eu, e, ne_eqb (times_child b k) 1 (λ q. f (omega (arith, ex, w.entry k hk, q)))) refl

      pub tree_inner : {i : ℕ} → u ≡ false → x ≡ 1 → i ≡ kind_of rec → not (eqb i SheetKinds.case_of) ≡ tree_right b k
      unfolding tree_right children_right
      tree_inner {i} e f g =
          rw (← er, ← et, ht, ← eu, e, eq-eqb (times_child b k) 1 (omega (arith, ex, w.entry k hk, f)), ← g) (case_not (eqb i SheetKinds.case_of))
        where
          case_not : (v : Bool) → not v ≡ cond v false true
          case_not true = refl
          case_not false = refl

-- the verdict on node k
pub tree_refused : (b : List ℕ) (k f : ℕ) (t : Bool) → f ≡ first_node b → t ≡ tree_right b k → t ≡ false → Refused bad_tree (f + k) ≡ tree b k
unfolding tree
tree_refused b k f t e g h = rw e (sym (require_false (tree_right b k) bad_tree (first_node b + k) (sym g ∙ h)))

pub tree_accepted : (b : List ℕ) (k : ℕ) (t : Bool) → t ≡ tree_right b k → t ≡ true → Accepted ≡ tree b k
unfolding tree
tree_accepted b k t g h = sym (require_true (tree_right b k) bad_tree (first_node b + k) (sym g ∙ h))

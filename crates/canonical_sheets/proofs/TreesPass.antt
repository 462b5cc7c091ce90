-- The canonical file passes the checks of shape, references and arguments, and its nodes the rules of children and cases.
use mathlib.Core.Path.{◌≡◌, refl, sym, ap, ◌∙◌}
use Prim.Native.Nat.{ℕ, zero, suc, ◌+◌, ◌-◌, ◌≤◌, ◌<◌}
use mathlib.Core.List.{List}
use mathlib.Core.Bool.{Bool, true, false, cond, ◌&&◌, false≢true}
use native.Mathlib.Omega.{arith}
use native.Mathlib.Decide.{dec_lt}
use lib.ListN.{length}
use lib.Dec.{ltb, leb, eqb}
use borrow.Author.Tests.{le-leb, lt-ltb, eq-eqb, ne_eqb, eqb-true}
use Rattle.definitions.specs.Records.{start_of, kind_of}
use Rattle.definitions.specs.SheetKinds
use Rattle.definitions.specs.Sizes.{sheet_bytes}
use Rattle.definitions.specs.Numbers.{oversize, bad_record}
use Rattle.definitions.specs.Lists.{sum_of}
use Rattle.definitions.specs.Verdicts.{◌and_then◌, first_of}
use Rattle.definitions.specs.Layouts.{functions, nodes, first_node, due, node_record, node_count, body_of, owner_of}
use Rattle.definitions.specs.Shape.{shape, file_shape}
use Rattle.definitions.specs.References.{children, child, clauses, clause_constructor, references}
use Rattle.definitions.specs.SheetRules.{arguments, times_child, is_body, children_right, clauses_rise, tree_right}
use Rattle.definitions.specs.Checks.{sheet_verdict}
use Rattle.definitions.specs.CanonicalSheet.{canonical}
use Rattle.definitions.specs.declared.Layout.TheVariants.{Sheet}
use Rattle.definitions.specs.Verdict.{Verdict, Accepted}
use Rattle.laws.proofs.Lists.{all_each, all_pass}
use Rattle.laws.proofs.Verdicts.{then_accepted, require_true, first_all}
use Rattle.laws.proofs.ByteFiles.{Bytes}
use Rattle.accepted.proofs.Records.{within_limit}
use Rattle.accepted.proofs.Sections.{node_counts_sum}
use Rattle.accepted.proofs.Owners.{run_start, owner_of_body, body_before_end}
use Rattle.accepted.proofs.Checks.{sheet_shape, TreesPass, trees_pass}
use Rattle.accepted.proofs.Trees.{case_body, case_rises}
use Rattle.trees.proofs.Parts.{record_of}
use Rattle.canonical_sheets.proofs.Sums.{sum_zero, sum_single}
use Rattle.canonical_sheets.proofs.Sizes.{times}
use Rattle.canonical_sheets.proofs.ReadBack.{nodes_read, first_node_read, due_read, filled}
use Rattle.canonical_sheets.proofs.Lengths.{length_kept}
use Rattle.canonical_sheets.proofs.Cover.{body_placed}
use Rattle.canonical_sheets.proofs.ChildOnce.{one_at, tree_once}
use Rattle.canonical_sheets.proofs.Cases.{case_is}
use Rattle.canonical_sheets.proofs.Kept.{body_kept, section_shape, section_names}
use Rattle.canonical_sheets.proofs.Twins.{pair, twin_of, child_before, clauses_same, constructor_same}
use Rattle.canonical_sheets.proofs.NodesPass.{node_shape, node_names_pass}

-- clauses rise where their constructors are those of clauses that rise
clauses_rise_law : (x y : List ℕ) → clauses y ≡ clauses x → ((j : ℕ) → j < clauses x → clause_constructor y j ≡ clause_constructor x j)
    → clauses_rise x ≡ true
    → clauses_rise y ≡ true
unfolding clauses_rise
clauses_rise_law x y e f h =
    rw e
    (all_pass (clauses x - 1) (λ j. ltb (clause_constructor y j) (clause_constructor y (suc j)))
    (λ j l. rw (f j (omega (arith, l)), f (suc j) (omega (arith, l)))
    (all_each (clauses x - 1) (λ j. ltb (clause_constructor x j) (clause_constructor x (suc j))) h j l)))

module _ (b : List ℕ) (bytes : Bytes b) (accepted : sheet_verdict b ≡ Accepted) where
  abbrev form : List ℕ
  form = canonical b

  abbrev shaped : file_shape Sheet b ≡ Accepted
  shaped = sheet_shape b accepted

  -- a check of each record, which those before the nodes pass and the nodes do
  each_record : (check : ℕ → Verdict) → ((r : ℕ) → r < first_node b → check r ≡ Accepted)
      → ((q : ℕ) → q < nodes b → check (first_node form + q) ≡ Accepted)
      → first_of (due form) check ≡ Accepted
  each_record check before after =
      first_all (due form) check
      (λ r h. elim (dec_lt r (first_node b)) [
        | yes l ↦ before r l
        | no l ↦
            let e : first_node form + (r - first_node b) ≡ r = omega (arith, l, first_node_read b accepted) in
            rw e at (after (r - first_node b) (omega (arith, h, l, due_read b accepted)))
      ])

  pub file_shaped : file_shape Sheet form ≡ Accepted
  unfolding file_shape
  file_shaped =
      let size = require_true (leb (length form) sheet_bytes) oversize 0 (le-leb (length form) sheet_bytes (rw (length_kept b accepted) (within_limit Sheet b shaped))) in
      let each = each_record (shape Sheet form) (section_shape b accepted) (λ q h. node_shape b accepted (twin_of b accepted bytes q h).holds) in
      let full = require_true (eqb (start_of form (due form)) (length form)) bad_record (due form)
      (eq-eqb (start_of form (due form)) (length form) (filled b accepted bytes)) in
      rw (size, then_accepted Accepted (first_of (due form) (shape Sheet form)) refl, each, full) (then_accepted Accepted Accepted refl)

  pub names_pass : first_of (due form) (λ r. references form r and_then arguments form r) ≡ Accepted
  names_pass =
      each_record (λ r. references form r and_then arguments form r) (section_names b accepted)
      (λ q h. node_names_pass b accepted (twin_of b accepted bytes q h).holds)

  -- a node that is no body is a child once: in the runs of the first f functions the nodes but the bodies are
  runs_once : (x f : ℕ) → f ≤ functions b
      → sum_of (sum_of f (node_count Sheet b)) (λ p. times form p x) + sum_of f (λ g. one_at x (body_of Sheet b g))
      ≡ sum_of (sum_of f (node_count Sheet b)) (one_at x)
  unfolding sum_of
  runs_once x zero h = refl
  runs_once x (suc f) h =
      let p = body_of Sheet b f in
      let e : sum_of f (node_count Sheet b) + node_count Sheet b f ≡ suc p
      = omega (arith, run_start Sheet b shaped f, body_before_end Sheet b shaped f h) in
      let v : sum_of (suc p) (one_at x) ≡ sum_of p (one_at x) + one_at x p = refl in
      rw e (omega (arith, runs_once x f (omega (arith, h)), tree_once b form x (body_placed b bytes accepted f h), v))

  no_body : (x : ℕ) → (x ≡ body_of Sheet b (owner_of Sheet b x) → ⊥) → sum_of (functions b) (λ g. one_at x (body_of Sheet b g)) ≡ 0
  no_body x n =
      sum_zero (functions b) (λ g. one_at x (body_of Sheet b g))
      (λ g l. rw (ne_eqb (body_of Sheet b g) x
      (λ e. n (sym e ∙ ap (body_of Sheet b) (sym (owner_of_body Sheet b shaped g l) ∙ ap (owner_of Sheet b) e)))) refl)

  times_once : (x : ℕ) → x < nodes b → (x ≡ body_of Sheet b (owner_of Sheet b x) → ⊥) → times_child form x ≡ 1
  unfolding times_child
  times_once x h n =
      let all : sum_of (nodes b) (λ p. times form p x) + sum_of (functions b) (λ g. one_at x (body_of Sheet b g)) ≡ sum_of (nodes b) (one_at x)
      = rw (node_counts_sum Sheet b shaped) at (runs_once x (functions b) (omega arith)) in
      let here : sum_of (nodes b) (one_at x) ≡ 1
      = sum_single (nodes b) x (one_at x) h (λ i d. rw (ne_eqb i x d) refl) ∙ rw (eq-eqb x x refl) refl in
      rw (nodes_read b accepted) (omega (arith, all, no_body x n, here))

  -- the rules of node q
  children_right_law : (q : ℕ) → q < nodes b → children_right form q ≡ true
  unfolding children_right
  children_right_law q h =
      let rec = node_record form q in
      all_pass (children rec) (λ j. ltb (child rec j) q && eqb (owner_of Sheet form (child rec j)) (owner_of Sheet form q))
      (λ j l.
      let p = child_before b accepted (twin_of b accepted bytes q h).holds j l in
      rw (lt-ltb (child rec j) q p.0, eq-eqb (owner_of Sheet form (child rec j)) (owner_of Sheet form q) p.1) refl)

  once_by : (q : ℕ) → q < nodes b → (t : Bool) → is_body form q ≡ t → cond t true (eqb (times_child form q) 1) ≡ true
  unfolding is_body
  once_by q h true e = refl
  once_by q h false e =
      eq-eqb (times_child form q) 1
      (times_once q h (λ z. false≢true (sym e ∙ body_kept b accepted q h ∙ eq-eqb q (body_of Sheet b (owner_of Sheet b q)) z)))

  case_by : (q : ℕ) → q < nodes b → (t : Bool) → eqb (kind_of (node_record form q)) SheetKinds.case_of ≡ t
      → cond t (is_body form q && clauses_rise (node_record form q)) true ≡ true
  unfolding is_body
  case_by q h false e = refl
  case_by q h true e =
      let x = twin_of b accepted bytes q h in
      let t = x.holds in
      let k = x.node in
      let kind : kind_of (node_record b k) ≡ SheetKinds.case_of = sym (pair t).kinds ∙ eqb-true (kind_of (node_record form q)) SheetKinds.case_of e in
      let n = case_is b k (record_of b accepted k (pair t).below) kind in
      let body = (x.body (case_body b (trees_pass b accepted) k (pair t).below n.is)).1 in
      let top : eqb q (body_of Sheet form (owner_of Sheet form q)) ≡ true = body_kept b accepted q h ∙ eq-eqb q (body_of Sheet b (owner_of Sheet b q)) body in
      let rise = case_rises b (trees_pass b accepted) k (pair t).below n.is in
      rw (top, clauses_rise_law (node_record b k) (node_record form q) (clauses_same b accepted t) (constructor_same b accepted t kind n.count) rise) refl

  pub tree_passes : (q : ℕ) → q < nodes form → tree_right form q ≡ true
  unfolding tree_right
  tree_passes q g =
      let h : q < nodes b = rw (nodes_read b accepted) at g in
      rw (children_right_law q h, once_by q h (is_body form q) refl, case_by q h (eqb (kind_of (node_record form q)) SheetKinds.case_of) refl) refl

  pub form_trees_pass : TreesPass form
  form_trees_pass = record { shape = file_shaped; right = tree_passes }

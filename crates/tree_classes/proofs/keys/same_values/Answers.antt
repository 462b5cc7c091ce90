-- `tree_classes::keys::same_values` meets its contract.
use mathlib.Core.Path.{◌≡◌, refl, sym, ◌∙◌}
use mathlib.Core.Bool.{Bool, true, false}
use Prim.Native.Nat.{ℕ}
use native.Mathlib.Omega.{arith}
use lib.Dec.{eqb}
use borrow.Author.Rules.{rules}
use borrow.Author.Tests.{tests, eqb-true}
use Rattle.std.proofs.lemmas.Iterator.{cases_from_all, YieldsList-from_range}
use Rattle.tree_classes.specs.Keys.{entry_of, value_of}
use Rattle.tree_classes.proofs.SameKeys.{all_tested, kinds_differ, counts_differ, values_tested}
use Rattle.tree_classes.proofs.keys.same_values.Goals as goal
use Rattle.tree_classes.proofs.keys.same_values.Goals.{then-node_kind-kind, else-node_kind-kind}

pub returns-then-count-field_count : goal.returns-then-count-field_count
returns-then-count-field_count c =
    let kind = c.kind-node_kind in
    let count = c.field_count-count in
    let class = entry_of c.args.classes.now in
    let test : ℕ → Bool = λ i. eqb (value_of class c.args.x.now i) (value_of class c.args.y.now i) in
    let tested =
    cases_from_all _ _ _ (λ i. test i ≡ true) (λ i. test i ≡ false) c.all.ensures.ran (YieldsList-from_range 0 count.result count.result refl (omega arith))
    (λ i q k. search (rules, tests)) (λ i q k. search (rules, tests)) in
    elim c.if-node_kind-kind.branch [
      | then-node_kind-kind w ↦ values_tested class _ _ kind.ensures c.kind.ensures count.ensures w.field_count.ensures w.if-node_kind-kind.true w.value-is
          c.if-count-field_count.true (all_tested _ test _ tested)
      | else-node_kind-kind w ↦ absurd (w.if-node_kind-kind.false (eqb-true _ _ (sym w.value-is ∙ c.if-count-field_count.true)))
    ]

pub returns-else-count-field_count : goal.returns-else-count-field_count
returns-else-count-field_count c =
    let kind = c.kind-node_kind in
    let count = c.field_count-count in
    elim c.if-node_kind-kind.branch [
      | then-node_kind-kind w ↦ counts_differ _ _ _ kind.ensures c.kind.ensures count.ensures w.field_count.ensures w.value-is c.if-count-field_count.false
      | else-node_kind-kind w ↦ kinds_differ _ _ _ kind.ensures c.kind.ensures count.ensures w.value-is c.if-count-field_count.false
    ]

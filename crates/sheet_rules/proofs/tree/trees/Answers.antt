-- `sheet_rules::tree::trees` meets its contract. The loop's invariant: the rules of the nodes passed are accepted.
use borrow.Author.Rules.{rules}
use Rattle.sheet_rules.proofs.Ruling.{ruling_begins, ruling_more, ruling_refused}
use Rattle.sheet_rules.proofs.TreeSteps.{tree_refused, tree_accepted}
use mathlib.Core.Path.{◌∙◌, refl}
use Rattle.sheet_rules.proofs.tree.trees.Goals as goal

pub loop-k-init : goal.loop-k-init
loop-k-init c =
    let pre = c.requires in
    (ruling_begins pre.0 c.first_node-first.ensures (c.from-count.ensures ∙ c.nodes.ensures), pre.1, pre.2, pre.3)

pub returns-then-not-tree_right : goal.returns-then-not-tree_right
returns-then-not-tree_right c = search (rules, ruling_refused, tree_refused)

pub loop-k-preserved : goal.loop-k-preserved
loop-k-preserved c =
    let loop = c.loop-k in
    let loop_test = c.loop-k-test in (
      ruling_more loop.invariant.0 loop_test.true
          (tree_accepted _ _ _ c.tree_right.ensures c.if-not-tree_right.false) refl,
      loop.invariant.1,
      loop.invariant.2,
      loop.invariant.3,
    )

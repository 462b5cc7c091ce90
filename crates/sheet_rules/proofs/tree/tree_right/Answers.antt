-- `sheet_rules::tree::tree_right` meets its contract: the rules in the definition's order.
use borrow.Author.Rules.{rules}
use mathlib.Core.Path.{refl}
use Rattle.sheet_rules.proofs.TreeSteps.{node_in_table, node_record_law, tree_child_wrong, tree_case_body, tree_body, tree_times_wrong, tree_inner}
use Rattle.sheet_rules.proofs.tree.tree_right.Goals as goal

pub children_right-requires : goal.children_right-requires
children_right-requires c = search (rules, node_in_table)

pub returns-then-not-children_right : goal.returns-then-not-children_right
returns-then-not-children_right c = search (tree_child_wrong, node_record_law)

pub returns-then-kind-eq-CASE : goal.returns-then-kind-eq-CASE
returns-then-kind-eq-CASE c = search (tree_case_body, node_record_law)

pub returns-then-is_body : goal.returns-then-is_body
returns-then-is_body c = search (tree_body, node_record_law)

pub bounds-times-k : goal.bounds-times-k
bounds-times-k c = search node_in_table

pub returns-then-times-k-ne1 : goal.returns-then-times-k-ne1
returns-then-times-k-ne1 c =
    let pre = c.requires in
    tree_times_wrong _ _ (node_record_law pre.0 c.first_node.ensures.0 c.indexed-rec.ensures) c.children_right.ensures c.if-not-children_right.false
    c.is_body.ensures pre.1 pre.0.below refl c.if-is_body.false c.if-times-k-ne1.true

pub returns : goal.returns
returns c = search (rules, tree_inner, node_record_law)

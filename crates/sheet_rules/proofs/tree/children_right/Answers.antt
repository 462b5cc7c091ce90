-- `sheet_rules::tree::children_right` meets its contract. The loop's invariant: the nodes named so far are right.
use borrow.Author.Rules.{rules}
use Rattle.sheet_rules.proofs.TreeSteps.{child_not_smaller, child_elsewhere, child_right_law}
use Rattle.laws.proofs.Tests.{tests_begin, tests_go_on, tests_fail}
use Rattle.sheet_rules.proofs.tree.children_right.Goals as goal

pub loop-j-init : goal.loop-j-init
loop-j-init c = search tests_begin

pub returns-then-k-c : goal.returns-then-k-c
returns-then-k-c c = search (rules, tests_fail, child_not_smaller)

pub returns-then-owners-c : goal.returns-then-owners-c
returns-then-owners-c c = search (rules, tests_fail, child_elsewhere)

pub loop-j-preserved : goal.loop-j-preserved
loop-j-preserved c = search (rules, tests_go_on, child_right_law)

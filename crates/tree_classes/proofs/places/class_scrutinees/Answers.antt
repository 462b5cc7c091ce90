-- `tree_classes::places::class_scrutinees` meets its contract. The loop's invariant: the functions passed have their scrutinees' classes in the table.
use mathlib.Core.Path.{◌∙◌}
use native.Mathlib.Omega.{arith}
use Rattle.tree_classes.proofs.PlacedNodes.{function_narrow, end_is, classed_more}
use borrow.Author.Rules.{rules}
use Rattle.tree_classes.proofs.places.class_scrutinees.Goals as goal

pub bounds-ends-f : goal.bounds-ends-f
bounds-ends-f c =
    function_narrow c.requires.0 c.loop-f-test.true (c.from-count.ensures ∙ c.functions.ensures)

pub overflow_sub-body : goal.overflow_sub-body
overflow_sub-body c =
    omega (arith, end_is c.requires.0 c.loop-f-test.true (c.from-count.ensures ∙ c.functions.ensures) _ c.from-body.ensures)

pub bounds-scrutinees-f : goal.bounds-scrutinees-f
bounds-scrutinees-f c =
    function_narrow c.requires.0 c.loop-f-test.true (c.from-count.ensures ∙ c.functions.ensures)

pub loop-f-preserved : goal.loop-f-preserved
loop-f-preserved c = (
  search rules,
  classed_more c.requires.0 c.loop-f-test.true (c.from-count.ensures ∙ c.functions.ensures) c.loop-f.invariant.1
      c.first_node-first.ensures.0 c.from-body.ensures c.indexed.ensures c.field.ensures c.entry.ensures,
)

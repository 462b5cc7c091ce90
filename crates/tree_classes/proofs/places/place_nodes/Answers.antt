-- `tree_classes::places::place_nodes` meets its contract. The loop's invariant: the nodes passed have their places in the table.
use mathlib.Core.Path.{refl, ◌∙◌}
use Rattle.tree_classes.proofs.PlacedNodes.{place_narrow, owner_narrow, placed_more}
use borrow.Author.Rules.{rules}
use Rattle.tree_classes.proofs.places.place_nodes.Goals as goal

pub bounds-owners-k : goal.bounds-owners-k
bounds-owners-k c =
    place_narrow c.requires.0 c.loop-k-test.true (c.from-count.ensures ∙ c.nodes.ensures)

pub place-requires : goal.place-requires
place-requires c =
    owner_narrow c.requires.0 c.loop-k-test.true (c.from-count.ensures ∙ c.nodes.ensures) refl

pub bounds-places-k : goal.bounds-places-k
bounds-places-k c =
    place_narrow c.requires.0 c.loop-k-test.true (c.from-count.ensures ∙ c.nodes.ensures)

pub loop-k-preserved : goal.loop-k-preserved
loop-k-preserved c = (
  search rules,
  placed_more c.requires.0 c.loop-k-test.true (c.from-count.ensures ∙ c.nodes.ensures) c.loop-k.invariant.1
      c.first_node-first.ensures.0 c.indexed.ensures c.kind.ensures refl c.place.ensures,
)

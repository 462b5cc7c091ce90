-- `file_layout::layout::is_due` meets its contract: the tests in the definition's order.
use Rattle.laws.proofs.Shape.{due_head, due_section, due_below, due_node}
use mathlib.Core.Path.{◌∙◌}
use borrow.Author.Tests.{lt-leb}
use Rattle.file_layout.proofs.layout.is_due.Goals as goal

pub returns-then-r-eq0 : goal.returns-then-r-eq0
returns-then-r-eq0 c = search due_head

pub returns-then-r-first : goal.returns-then-r-first
returns-then-r-first c = search due_section

pub returns-else-low-kind : goal.returns-else-low-kind
returns-else-low-kind c =
    let below = c.if-low-kind.false in
    lt-leb _ _ below ∙ due_below _ _ _ _ _ _ c.if-r-eq0.false c.requires c.if-r-first.false c.node_kind-low.ensures below

pub returns-then-low-kind : goal.returns-then-low-kind
returns-then-low-kind c = search due_node

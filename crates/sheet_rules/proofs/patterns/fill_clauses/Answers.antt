-- `sheet_rules::patterns::fill_clauses` meets its contract. The loop's invariant: the entries from node k on are right.
use Rattle.sheet_rules.proofs.PatternSteps.{filling_begins}
use mathlib.Core.Path.{◌∙◌}
use Rattle.sheet_rules.proofs.patterns.fill_clauses.Goals as goal

pub loop-k-init : goal.loop-k-init
loop-k-init c =
    let pre = c.requires in
    filling_begins pre.0 pre.1 (c.from-k.ensures ∙ c.nodes.ensures)

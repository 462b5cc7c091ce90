-- `sheet_rules::seen::note_children` meets its contract. The loop's invariant: the nodes named so far are noted.
use Rattle.sheet_rules.proofs.SeenTables.{noted_none, noted_more}
use native.Mathlib.Omega.{arith}
use mathlib.Core.Path.{◌∙◌}
use borrow.Author.Rules.{rules}
use Rattle.sheet_rules.proofs.seen.note_children.Goals as goal

pub loop-j-init : goal.loop-j-init
loop-j-init c = search (rules, noted_none)

pub loop-j-preserved : goal.loop-j-preserved
loop-j-preserved c =
    let loop = c.loop-j in
    (omega arith, loop.invariant.1, noted_more loop.invariant.2 (c.from.ensures ∙ c.child_inside.ensures) c.note_child.ensures)

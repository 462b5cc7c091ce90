-- The loop has walked over `i` records. Assumes nothing.
use borrow.Author.Rules.{rules}
use mathlib.Core.Path.{ap, ◌∙◌}
use native.Mathlib.Omega.{arith}
use Rattle.file_writer.specs.Writing.{start_of}
use Rattle.file_writer.proofs.Laws.{start_first, start_more}
use Rattle.file_writer.proofs.start.Goals as goal

pub loop-i-init : goal.loop-i-init
loop-i-init c = (search rules, start_first _, search rules)

pub loop-i-preserved : goal.loop-i-preserved
loop-i-preserved c = (search rules, start_more _ _ _ _ c.loop-i.invariant.1 c.skip-at.ensures.0, search rules)

pub returns : goal.returns
returns c = (c.loop-i.invariant.1 ∙ ap (start_of _) (omega arith), search rules)

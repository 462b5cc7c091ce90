-- `run::memory::remember` meets its contract: a value is written into the formal's own cell.
use mathlib.Core.Path.{sym, ◌∙◌}
use Rattle.run.proofs.Remembered.{value_remembered, end_not_remembered, not_own_kept}
use Rattle.run.proofs.memory.remember.Goals.{else-own-via-then-own+else-is_value, else-own-via-else-own}
use Rattle.run.proofs.memory.remember.Goals as goal

pub returns-then-is_value : goal.returns-then-is_value
returns-then-is_value c =
    value_remembered _ _ _ _ _ c.if-own.true (sym c.is_value.ensures ∙ c.if-is_value.true) c.write_entry.ensures

pub returns-else-own : goal.returns-else-own
returns-else-own c =
    elim c.else-own.branch [
      | else-own-via-then-own+else-is_value w ↦ end_not_remembered _ _ _ _ _ (sym w.is_value.ensures ∙ w.if-is_value.false)
      | else-own-via-else-own w ↦ not_own_kept _ _ _ _ _ w.if-own.false
    ]

-- `sheet_rules::patterns::clause_of` meets its contract. The loop's invariant: the clauses passed are not the one.
use Rattle.sheet_rules.proofs.ClauseTable.{clause_left_fewer, clause_found, clause_not_found}
use mathlib.Core.Path.{◌∙◌}
use Rattle.sheet_rules.proofs.patterns.clause_of.Goals as goal

pub returns-then-from-k : goal.returns-then-from-k
returns-then-from-k c =
    clause_found c.loop-j.invariant c.loop-j-test.true (c.from.ensures ∙ c.child.ensures) c.if-from-k.true (c.from-then-from-k.ensures ∙ c.clause_constructor.ensures)

pub loop-j-preserved : goal.loop-j-preserved
loop-j-preserved c =
    clause_left_fewer c.loop-j.invariant c.loop-j-test.true (c.from.ensures ∙ c.child.ensures) c.if-from-k.false

pub returns : goal.returns
returns c = clause_not_found c.loop-j.invariant c.loop-j-test.false

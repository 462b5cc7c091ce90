-- `sheet_rules::patterns::clause_at` meets its contract: a body stands in no clause, a clause's node in its own, any other node in its parent's.
use Rattle.sheet_rules.proofs.PatternSteps.{body_entry, parent_in_table, clause_entry, parent_entry}
use Rattle.sheet_rules.proofs.TreeSteps.{node_in_table}
use Rattle.sheet_rules.proofs.patterns.clause_at.Goals as goal

pub returns-then-is_body : goal.returns-then-is_body
returns-then-is_body c = search body_entry

pub bounds-parents-k : goal.bounds-parents-k
bounds-parents-k c = search node_in_table

pub returns-then-kind-eq-CASE : goal.returns-then-kind-eq-CASE
returns-then-kind-eq-CASE c = search clause_entry

pub bounds-held-p : goal.bounds-held-p
bounds-held-p c = search parent_in_table

pub returns : goal.returns
returns c = search parent_entry

-- `sheet_types::types` meets its contract. The loop's invariant: the nodes passed keep the rules, and their types are in the table.
use Rattle.sheet_types.proofs.Typing.{Typing}
use Rattle.sheet_types.proofs.types.Given as goal

abbrev pub invariant-loop-k : goal.invariant-loop-k
invariant-loop-k l = Typing l.b l.starts l.ends l.owners l.parents l.held l.types l.first l.count l.k

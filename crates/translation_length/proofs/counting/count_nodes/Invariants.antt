-- `translation_length::counting::count_nodes` meets its contract. The loop's invariant: the words of the nodes passed are summed.
use Rattle.translation_length.specs.Words.{node_length}
use Rattle.translation_length.proofs.WordCounts.{Summed}
use Rattle.translation_length.proofs.counting.count_nodes.Given as goal

abbrev pub invariant-loop-k : goal.invariant-loop-k
invariant-loop-k l = Summed (node_length l.b) l.count l.total l.k

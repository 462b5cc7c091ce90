-- `translator::nodes::put_nodes` meets its contract. The loop's invariant: the nodes passed are written.
use Rattle.definitions.specs.Trees.{equal_trees}
use Rattle.definitions.specs.Translate.{node_words}
use Rattle.translation_words.proofs.Writing.{PartsWritten}
use Rattle.translator.proofs.nodes.put_nodes.Given as goal

abbrev pub invariant-loop-k : goal.invariant-loop-k
invariant-loop-k l = PartsWritten l.initial.out l.at (node_words (equal_trees l.b) l.b) l.count l.k l.next l.out

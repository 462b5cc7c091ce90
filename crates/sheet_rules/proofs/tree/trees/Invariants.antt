-- `sheet_rules::tree::trees` meets its contract. The loop's invariant: the rules of the nodes passed are accepted.
use Rattle.sheet_rules.proofs.Ruling.{Ruling}
use Rattle.file_runs.specs.Runs.{RunEndTable, Owners}
use Rattle.sheet_rules.specs.Seen.{TimesOf}
use Rattle.definitions.specs.declared.Layout.TheVariants.{Sheet}
use Rattle.definitions.specs.SheetRules.{tree}
use Rattle.sheet_rules.proofs.tree.trees.Given as goal

abbrev pub invariant-loop-k : goal.invariant-loop-k
invariant-loop-k l = Ruling l.b l.starts l.first l.count l.k (tree l.b) × RunEndTable Sheet l.b l.ends × Owners l.b l.owners × TimesOf l.b l.times

-- `sheet_rules::names::names` meets its contract. The loop's invariant: the records passed are accepted.
use Rattle.file_records.specs.Index.{Opened}
use Rattle.file_runs.specs.Runs.{Owners}
use Rattle.laws.proofs.Verdicts.{Passed}
use Rattle.definitions.specs.declared.Layout.TheVariants.{Sheet}
use Rattle.definitions.specs.Verdicts.{◌and_then◌}
use Rattle.definitions.specs.SheetRules.{arguments}
use Rattle.definitions.specs.References.{references}
use Rattle.definitions.specs.Layouts.{due}
use mathlib.Core.Path.{◌≡◌}
use Prim.Native.Nat.{◌≤◌}
use Rattle.sheet_rules.proofs.names.names.Given as goal

abbrev pub invariant-loop-r : goal.invariant-loop-r
invariant-loop-r l = (l.r ≤ l.count) × (l.count ≡ due l.b) × Opened Sheet l.b l.starts × Owners l.b l.owners × Passed l.r (λ i. references l.b i and_then arguments l.b i)

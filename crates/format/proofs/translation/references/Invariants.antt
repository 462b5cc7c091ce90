-- `format::translation::references` meets its contract. The loop's invariant: the rules of the records passed are accepted.
use Rattle.file_records.specs.Index.{Opened}
use Rattle.laws.proofs.Verdicts.{Passed}
use Rattle.definitions.specs.declared.Layout.TheVariants.{Translation}
use Rattle.definitions.specs.References.{references}
use Rattle.definitions.specs.Layouts.{due}
use mathlib.Core.Path.{◌≡◌}
use Prim.Native.Nat.{◌≤◌, ◌-◌}
use Rattle.format.proofs.translation.references.Given as goal

abbrev pub invariant-loop-r : goal.invariant-loop-r
invariant-loop-r l = (l.r ≤ l.count) × (l.count ≡ due l.b) × Opened Translation l.b l.starts × Passed l.r (references l.b)

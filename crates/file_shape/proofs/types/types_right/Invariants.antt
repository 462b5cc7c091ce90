-- `file_shape::types::types_right` meets its contract. The loop's invariant: every type so far is in its range.
use Prim.Native.Nat.{◌+◌, ◌-◌}
use Rattle.definitions.specs.Sizes.{most_types}
use Rattle.definitions.specs.Records.{field}
use Rattle.definitions.specs.Ranges.{within}
use Rattle.laws.proofs.Tests.{Testing}
use Rattle.file_shape.proofs.types.types_right.Given as goal

abbrev pub invariant-loop-i : goal.invariant-loop-i
invariant-loop-i l = Testing (λ j. within 0 most_types (field l.rec (2 + j))) (l.n - 2) l.count l.i

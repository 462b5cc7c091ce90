-- `sheet_types::arguments_typed` meets its contract. The loop's invariant: the arguments so far have the types declared.
use Prim.Native.Nat.{◌+◌, ◌-◌}
use lib.Dec.{eqb}
use Rattle.definitions.specs.Records.{field, field_count}
use Rattle.laws.proofs.Tests.{Testing}
use Rattle.sheet_types.specs.Tables.{type_in}
use Rattle.sheet_types.proofs.arguments_typed.Given as goal

abbrev pub invariant-loop-i : goal.invariant-loop-i
invariant-loop-i l = Testing (λ j. eqb (type_in l.types (field l.rec (1 + j))) (field l.declared (l.first + j))) (field_count l.rec - 1) l.count l.i

-- `translator::tables::sums` meets its contract. The loop's invariant: the sums over the functions passed are in the table.
use Prim.Native.Nat.{ℕ}
use Rattle.translator.specs.Tables.{Gives}
use Rattle.translator.proofs.SheetTables.{Summing}
use Rattle.translator.proofs.tables.sums.Given as goal

abbrev pub invariant-loop-f : goal.invariant-loop-f
invariant-loop-f g l = (at : ℕ → ℕ) → Gives (goal.F-post g l.number) l.count at → Summing at l.sums l.count l.total l.f

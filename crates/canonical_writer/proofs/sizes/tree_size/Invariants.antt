-- `canonical_writer::sizes::tree_size` meets its contract. The loop's invariant: the size so far is that of the fields passed, and one.
use mathlib.Core.Path.{◌≡◌}
use Prim.Native.Nat.{suc}
use Rattle.definitions.specs.CanonicalSheet.{size_of}
use Rattle.canonical_sheets.proofs.WholeTrees.{up_to}
use Rattle.canonical_writer.proofs.FieldSteps.{AtField}
use Rattle.canonical_writer.proofs.sizes.tree_size.Given as goal

abbrev pub invariant-loop-i : goal.invariant-loop-i
invariant-loop-i l = AtField l.b l.rec l.k l.node_kind l.count l.i × (l.size ≡ suc (size_of (up_to l.b l.k l.i)))

-- `run::node_table::set_reading` meets its contract.
use mathlib.Core.Path.{refl}
use mir.Syntax.{w32}
use mir.ValLaws.{to_z-of_z}
use Rattle.run.proofs.node_table.set_reading.Goals as goal

pub returns : goal.returns
returns c = rw (c.from.ensures, c.bits_of-bits.ensures, to_z-of_z w32 _ c.ranges.z) refl

-- `run::packed::packed_value` meets its contract.
use mir.ValLaws.{to_z-of_z}
use mir.Syntax.{w32}
use Rattle.run.proofs.Packing.{number_packed, constructor_packed}
use borrow.Author.Rules.{rules}
use Rattle.run.proofs.packed.packed_value.Goals as goal

pub returns-in-Number : goal.returns-in-Number
returns-in-Number c = number_packed _ _ _ _ _ (record { sfits = search rules }) (to_z-of_z w32 _ (record { sfits = search rules })) c.in-Number.is
    c.bits_of-bits.ensures (search rules) c.entry_with.ensures

pub returns-in-Constructor : goal.returns-in-Constructor
returns-in-Constructor c =
    constructor_packed _ _ _ _ c.in-Constructor.is c.entry_with-in-Constructor.ensures

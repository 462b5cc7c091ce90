-- `run::packed::packed` meets its contract.
use Rattle.run.proofs.Packing.{value_packed, ended_packed}
use Rattle.run.proofs.packed.packed.Goals as goal

pub returns-in-Ok : goal.returns-in-Ok
returns-in-Ok c =
    value_packed _ _ _ c.in-Ok.is c.packed_value.ensures

pub returns-in-Err : goal.returns-in-Err
returns-in-Err c =
    ended_packed _ _ _ c.in-Err.is c.entry_with.ensures

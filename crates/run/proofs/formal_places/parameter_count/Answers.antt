-- `run::formal_places::parameter_count` meets its contract.
use Rattle.run.proofs.Places.{count_read}
use Rattle.run.proofs.formal_places.parameter_count.Goals as goal

pub returns : goal.returns
returns c =
    count_read c.requires.0 c.requires.1 c.first_function.ensures.0 c.from.ensures c.indexed.ensures c.field.ensures

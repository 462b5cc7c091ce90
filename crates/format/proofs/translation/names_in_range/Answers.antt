-- `format::translation::names_in_range` meets its contract, kind by kind.
use Rattle.laws.proofs.Names.{names_reading, names_function, names_formal, names_none}
use Rattle.format.proofs.translation.names_in_range.Goals as goal

pub returns-then-k-eq-READING : goal.returns-then-k-eq-READING
returns-then-k-eq-READING c = search names_reading

pub returns-then-k-eq-CALL : goal.returns-then-k-eq-CALL
returns-then-k-eq-CALL c = search names_function

pub returns-then-k-eq-FORMAL : goal.returns-then-k-eq-FORMAL
returns-then-k-eq-FORMAL c = search names_formal

pub returns : goal.returns
returns c = search names_none

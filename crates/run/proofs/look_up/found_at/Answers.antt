-- `run::look_up::found_at` meets its contract.
use Rattle.run.proofs.LookUps.{found_nothing, found_node}
use Rattle.run.proofs.look_up.found_at.Goals as goal

pub returns-then-place-eq0 : goal.returns-then-place-eq0
returns-then-place-eq0 c = found_nothing _ _ c.if-place-eq0.true

pub returns-else-place-eq0 : goal.returns-else-place-eq0
returns-else-place-eq0 c =
    let if1 = c.if-place-eq0 in
    found_node _ _ _ if1.false c.field_of.ensures

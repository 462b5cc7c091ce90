-- `run::state::given` meets its contract, case by case.
use mathlib.Core.Path.{ap, ◌∙◌}
use Rattle.definitions.specs.Rule.{ended}
use Rattle.run.proofs.Outcomes.{given_number, given_fault}
use borrow.Author.Rules.{rules}
use Rattle.run.proofs.state.given.Goals as goal

pub returns-in-Ok : goal.returns-in-Ok
returns-in-Ok c = c.number.ensures ∙ given_number _ _ (record { sfits = search rules }) c.in-Ok.is

pub returns-in-Err : goal.returns-in-Err
returns-in-Err c = c.ended.ensures ∙ ap ended c.number-in-Err.ensures ∙ given_fault _ _ c.in-Err.is

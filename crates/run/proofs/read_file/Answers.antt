-- `run::read_file` meets its contract.
use mathlib.Core.Path.{refl}
use Rattle.laws.proofs.Refusals.{passed_on}
use Rattle.run.proofs.Answering.{ready_by, indexed_by, read_refused, read_accepted}
use Rattle.run.proofs.read_file.Goals as goal

pub fill_translation-requires : goal.fill_translation-requires
fill_translation-requires c = record { starts_length = refl; ends_length = refl }

pub returns-in_err-fill_translation : goal.returns-in_err-fill_translation
returns-in_err-fill_translation c =
    rw (passed_on c.from_residual.result c.in_err-fill_translation.field-0.0 c.from_residual.ensures.1)
    (read_refused c.in_err-fill_translation.ensures c.requires)

pub fill_places-requires : goal.fill_places-requires
fill_places-requires c = (indexed_by c.in_ok-fill_translation.ensures, refl)

pub fill_nodes-requires : goal.fill_nodes-requires
fill_nodes-requires c = (ready_by c.in_ok-fill_translation.ensures, c.fill_places.ensures, c.requires)

pub returns : goal.returns
returns c = read_accepted c.in_ok-fill_translation.ensures c.fill_nodes.ensures

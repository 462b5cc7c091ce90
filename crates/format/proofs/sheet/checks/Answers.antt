-- `format::sheet::checks` meets its contract: the passes in the papers' order.
use Rattle.format.proofs.Readings.{names_refused, trees_refused, trees_accepted, checks_last, times_seen, parents_seen}
use Rattle.sheet_rules.proofs.SeenTables.{seen_none}
use Rattle.definitions.specs.Sizes.{most_nodes}
use lib.ListN.{get_or-replicate}
use mathlib.Core.Path.{refl}
use Rattle.laws.proofs.Refusals.{passed_on}
use Rattle.format.proofs.sheet.checks.Goals as goal

pub returns-in_err-names : goal.returns-in_err-names
returns-in_err-names c = rw (passed_on c.from_residual.result c.in_err-names.field-0.0 c.from_residual.ensures.1) (names_refused c.requires.0 c.in_err-names.ensures refl)

pub note_sheet-requires : goal.note_sheet-requires
note_sheet-requires c =
    let pre = c.requires in
    (pre.0, seen_none refl refl (λ k h. get_or-replicate most_nodes k 0 0 h) (λ k h. get_or-replicate most_nodes k 0 0 h))

pub trees-requires : goal.trees-requires
trees-requires c =
    let pre = c.requires in
    (pre.0, pre.1, pre.2, times_seen pre.0 c.note_sheet.ensures)

pub returns-in_err-trees : goal.returns-in_err-trees
returns-in_err-trees c =
    let refusal = c.in_err-trees in
    let residual = c.from_residual-in_err-trees in
    rw (passed_on residual.result refusal.field-0.0 residual.ensures.1) (trees_refused c.requires.0 c.in_ok-names.ensures refl refusal.ensures refl)

pub last_checks-requires : goal.last_checks-requires
last_checks-requires c =
    let pre = c.requires in
    let note_sheet = c.note_sheet in
    record {
      file = pre.0;
      runs = pre.1;
      owned = pre.2;
      parents_right = parents_seen pre.0 note_sheet.ensures;
      checks = trees_accepted pre.0 c.in_ok-names.ensures refl c.in_ok-trees.ensures refl;
    }

pub returns : goal.returns
returns c = checks_last c.requires.0 c.in_ok-names.ensures refl c.in_ok-trees.ensures refl c.last_checks.ensures

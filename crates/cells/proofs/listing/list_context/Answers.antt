-- `cells::listing::list_context` meets its contract: the labels are counted first, so that a refusal writes nothing.
use Rattle.cells.proofs.Walks.{refused_on, walk_refused, output_short, listed_whole, listable}
use Rattle.cells.proofs.listing.list_context.Goals as goal

pub returns-in_err-n : goal.returns-in_err-n
returns-in_err-n c =
    let err = c.in_err-n in
    let from = c.from_residual in
    walk_refused (refused_on from.result err.field-0.0 from.ensures.1) err.ensures

pub returns-in_err-require : goal.returns-in_err-require
returns-in_err-require c =
    let err = c.in_err-require in
    let from = c.from_residual-in_err-require in
    output_short c.in_ok-n.ensures (refused_on from.result err.field-0.0 from.ensures.1) err.ensures

pub write_labels-requires : goal.write_labels-requires
write_labels-requires c = listable c.in_ok-n.ensures c.in_ok-require.ensures

pub returns : goal.returns
returns c = listed_whole c.in_ok-n.ensures c.in_ok-require.ensures c.write_labels.ensures

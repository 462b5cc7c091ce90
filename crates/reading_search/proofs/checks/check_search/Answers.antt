-- `reading_search::checks::check_search` meets its contract: 9, 10 and 23 in this order.
use Rattle.std.proofs.Common.{◌∙◌}
use Rattle.reading_search.specs.Queries.{query_of}
use Rattle.reading_search.proofs.Refusals.{checked}
use Rattle.reading_search.proofs.checks.check_search.Goals as goal

pub returns : goal.returns
returns c =
    checked _ _ (query_of c.args.query) _ _ _ _ _ _ (c.from-width.ensures ∙ c.readings.ensures) c.fit.ensures c.range_fits.ensures
    c.require-counted.ensures c.require-within.ensures c.require-ranged.ensures c.and.ensures c.and-2.ensures

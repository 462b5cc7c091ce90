-- `reading_search::find_reading` meets its contract: the refusals in their order, or the search.
use mathlib.Core.Path.{refl}
use Rattle.run.proofs.Answering.{readable_by}
use Rattle.reading_search.specs.Queries.{query_of}
use Rattle.reading_search.proofs.Refusals.{search_fits, file_refused, checks_refused, range_searched}
use Rattle.reading_search.proofs.find_reading.Goals as goal

pub returns-in_err-read_file : goal.returns-in_err-read_file
returns-in_err-read_file c =
    let file = c.in_err-read_file in
    (file_refused c.from_residual.result file.field-0.0 c.from_residual.ensures.1 file.ensures, refl)

pub returns-in_err-check_search : goal.returns-in_err-check_search
returns-in_err-check_search c =
    let checks = c.in_err-check_search in
    let passed = c.from_residual-in_err-check_search in
    (checks_refused c.in_ok-read_file.ensures.verdict passed.result checks.field-0.0 passed.ensures.1 checks.ensures, refl)

pub search_range-requires : goal.search_range-requires
search_range-requires c = (readable_by c.in_ok-read_file.ensures, search_fits {q = query_of c.args.query} c.in_ok-check_search.ensures)

pub returns : goal.returns
returns c =
    let range = c.search_range in
    (range_searched c.in_ok-read_file.ensures.verdict c.in_ok-check_search.ensures range.ensures.0, range.ensures.1)

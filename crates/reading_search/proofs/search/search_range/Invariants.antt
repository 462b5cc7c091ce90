-- `reading_search::search::search_range` meets its contract: no value passed was the one looked for.
use Prim.Native.Nat.{◌-◌, ◌≤◌}
use Rattle.definitions.specs.ReadingSearch.{value_count}
use Rattle.reading_search.specs.Queries.{query_of}
use Rattle.reading_search.proofs.Searching.{Searching}
use Rattle.reading_search.proofs.search.search_range.Given as goal

abbrev pub invariant-loop-left : goal.invariant-loop-left
invariant-loop-left l =
    let q = query_of l.query in
    let count = value_count q.lowest q.highest in
    (l.left ≤ count)
    × Searching l.file l.table l.readings q l.allowances.steps l.allowances.nesting l.allowances.cells l.initial.cells l.cells (count - l.left)

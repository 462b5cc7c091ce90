-- `reading_search::search::search_range` meets its contract: no value passed was the one looked for.
use mathlib.Core.Path.{refl, ap, ◌∙◌}
use native.Mathlib.Omega.{arith}
use borrow.Author.Rules.{rules}
use mir.Syntax.{w32}
use mir.ValLaws.{to_z-of_z}
use Rattle.definitions.specs.ReadingSearch.{value_at}
use Rattle.run.proofs.ReadingEntries.{still_readable, set_held, readings_room}
use Rattle.reading_search.proofs.Searching.{searching_begins, triable, value_fits, next_value, more_values, value_found, searching_goes_on, none_found}
use Rattle.reading_search.proofs.search.search_range.Goals as goal

pub set_readings-requires : goal.set_readings-requires
set_readings-requires c =
    let pre = c.requires in
    (pre.0.room, readings_room _ c.args.readings.now pre.0.accepted pre.1.given)

pub loop-left-init : goal.loop-left-init
loop-left-init c =
    let pre = c.requires in
    let set = c.set_readings.ensures in
    searching_begins pre.1 (still_readable pre.0 set) (set_held _ set pre.1.given) c.value_count-count.ensures

pub value_at-z-requires : goal.value_at-z-requires
value_at-z-requires c =
    let next = next_value c.loop-left.invariant.0 c.loop-left-test.true c.value_count-count.ensures in
    value_fits c.loop-left.invariant.1 (record { sfits = search rules }) (record { sfits = search rules }) next.1 next.0

pub try_value-requires : goal.try_value-requires
try_value-requires c = triable c.loop-left.invariant.1

pub returns-then-try_value : goal.returns-then-try_value
returns-then-try_value c =
    let inv = c.loop-left.invariant in
    let tried = c.try_value.ensures in
    let next = next_value inv.0 c.loop-left-test.true c.value_count-count.ensures in
    let value = to_z-of_z w32 _ (record { sfits = search rules }) ∙ c.value_at-z.ensures ∙ ap (value_at _) next.0 in
    (value_found inv.1 next.1 value tried.0 c.if-try_value.true, tried.1 ∙ inv.1.stays)

pub loop-left-preserved : goal.loop-left-preserved
loop-left-preserved c =
    let inv = c.loop-left.invariant in
    let tried = c.try_value.ensures in
    let next = next_value inv.0 c.loop-left-test.true c.value_count-count.ensures in
    let value = to_z-of_z w32 _ (record { sfits = search rules }) ∙ c.value_at-z.ensures ∙ ap (value_at _) next.0 in
    more_values inv.0 c.loop-left-test.true (searching_goes_on inv.1 next.1 value tried.0 c.if-try_value.false refl tried.1)

pub returns : goal.returns
returns c =
    let inv = c.loop-left.invariant in
    (none_found inv.1 (omega (arith, c.loop-left-test.false)), inv.1.stays)

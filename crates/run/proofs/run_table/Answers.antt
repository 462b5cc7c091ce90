-- `run::run_table` meets its contract: the refusals in their order, or the answer of the rule.
use mathlib.Core.Path.{refl, sym, ◌∙◌}
use Rattle.run.proofs.Answering.{readings_refused, allowance_refused, run_answered}
use Rattle.run.proofs.ReadingEntries.{still_readable, set_held, readings_room}
use Rattle.run.proofs.run_table.Goals as goal

pub returns-then-readings-from : goal.returns-then-readings-from
returns-then-readings-from c =
    let pre = c.requires in
    let readings = c.readings in
    let from = c.from in
    (readings_refused _ _ _ _ _ _ _ pre.accepted _ _ readings.ensures from.ensures c.if-readings-from.true c.refused.ensures, refl, pre)

pub returns-then-not-fit : goal.returns-then-not-fit
returns-then-not-fit c =
    let pre = c.requires in
    let readings = c.readings in
    let from = c.from in
    let if1 = c.if-readings-from in
    let fit = c.fit in (
      allowance_refused _ _ _ _ _ _ _ pre.accepted _ _ readings.ensures from.ensures _ if1.false
          fit.ensures c.if-not-fit.true c.refused-then-not-fit.ensures,
      refl,
      pre,
    )

pub set_readings-requires : goal.set_readings-requires
set_readings-requires c =
    let pre = c.requires in
    let args = c.args in
    let readings = c.readings in
    let from = c.from in
    let if1 = c.if-readings-from in
    (pre.room, readings_room _ args.readings.now pre.accepted (if1.false ∙ from.ensures ∙ readings.ensures))

pub run_held-end-requires : goal.run_held-end-requires
run_held-end-requires c =
    let set_readings = c.set_readings in
    let if2 = c.if-not-fit in
    let fit = c.fit in
    let pre = c.requires in
    (still_readable pre set_readings.ensures, sym fit.ensures ∙ if2.false)

pub answered-requires : goal.answered-requires
answered-requires c = c.run_held-end.ensures.0.answerable

pub returns : goal.returns
returns c =
    let run_held = c.run_held-end in
    let set_readings = c.set_readings in
    let if2 = c.if-not-fit in
    let fit = c.fit in
    let if1 = c.if-readings-from in
    let from = c.from in
    let readings = c.readings in
    let pre = c.requires in
    let readable = still_readable pre set_readings.ensures in
    let held = set_held _ set_readings.ensures (if1.false ∙ from.ensures ∙ readings.ensures) in (
      run_answered _ _ _ _ _ _ _ pre.accepted _ _ readings.ensures from.ensures if1.false fit.ensures if2.false held
          run_held.ensures.0 (c.answered.ensures.answer _ readable.table),
      run_held.ensures.1,
      readable,
    )

-- `run::run_held` meets its contract: the first visit is that of function 0's body, and what it leaves is the rule's end.
use mathlib.Core.Path.{refl, ◌∙◌}
use native.Mathlib.Omega.{arith}
use Rattle.definitions.specs.declared.Layout.TheVariants.{Translation}
use Rattle.laws.proofs.ByteFiles.{Bytes}
use Rattle.accepted.proofs.Head.{nodes_limit}
use Rattle.accepted.proofs.Checks.{translation_shape}
use Rattle.allowances.proofs.Limits.{fitting}
use Rattle.run.proofs.Answering.{first_below, run_held}
use Rattle.run.proofs.Counting.{first_there, first_context, first_visit}
use Rattle.run.proofs.Packing.{last_opened}
use Rattle.run.proofs.ReadingEntries.{held_in, equips}
use Rattle.run.proofs.run_held.Goals as goal

pub overflow_mul-limits : goal.overflow_mul-limits
overflow_mul-limits c =
    let args = c.args in
    let pre = c.requires in
    record { fits = omega (arith, (fitting args.allowances.nesting args.allowances.cells _ _ refl pre.1).made) }

pub overflow_add-limits : goal.overflow_add-limits
overflow_add-limits c =
    let args = c.args in
    let pre = c.requires in
    let fit = fitting args.allowances.nesting args.allowances.cells _ _ refl pre.1 in
    record { fits = omega (arith, fit.nested, fit.made) }

pub first_body-requires : goal.first_body-requires
first_body-requires c =
    let pre = c.requires in
    pre.0.accepted

pub visit-x-requires : goal.visit-x-requires
visit-x-requires c =
    let pre = c.requires in
    let args = c.args in
    let is_first = c.from-first.ensures ∙ c.first_body.ensures in
    let readable = pre.0 in
    let bytes : Bytes args.file.now = record { below = λ i. omega (arith, c.shared_slice_known-1.given i) } in
    let fit = fitting args.allowances.nesting args.allowances.cells _ _ refl pre.1 in
    let nodes = nodes_limit Translation _ (translation_shape _ readable.accepted) in
    let first = first_below _ _ readable.accepted is_first in
    record {
      equipped = equips bytes readable;
      there = first_there _ _ nodes first;
      context = first_context _ _ _ _ _ _ _ fit.nested nodes first fit.made fit.lends;
    }

pub returns : goal.returns
returns c =
    let pre = c.requires in
    let args = c.args in
    let is_first = c.from-first.ensures ∙ c.first_body.ensures in
    let visit = c.visit-x in
    let opened = c.opened in
    let readable = pre.0 in
    let bytes : Bytes args.file.now = record { below = λ i. omega (arith, c.shared_slice_known-1.given i) } in
    let fit = fitting args.allowances.nesting args.allowances.cells _ _ refl pre.1 in
    let nodes = nodes_limit Translation _ (translation_shape _ readable.accepted) in
    let first = first_below _ _ readable.accepted is_first in
    let reached = first_visit _ _ args.allowances.nesting args.allowances.cells _ _ _ _ fit.nested nodes first (visit.ensures.same _ (held_in _ _)) in
    (run_held bytes readable _ _ _ fit.made fit.lends is_first (last_opened _ _ opened.ensures reached), visit.ensures.stays)

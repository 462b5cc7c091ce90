-- `file_shape::shape_at` meets its contract: the checks in document 01's order.
use Rattle.laws.proofs.Shape.{shape_short, shape_not_due, shape_length, shape_cut, shape_code, shape_counts, shape_accepted}
use native.Mathlib.Omega.{arith}
use Rattle.file_shape.proofs.shape_at.Goals as goal

pub returns-then-left-lt4 : goal.returns-then-left-lt4
returns-then-left-lt4 c = search shape_short

pub returns-then-not-is_due : goal.returns-then-not-is_due
returns-then-not-is_due c = search shape_not_due

pub returns-then-not-allows : goal.returns-then-not-allows
returns-then-not-allows c = search shape_length

pub returns-then-left-from : goal.returns-then-left-from
returns-then-left-from c =
    shape_cut _ _ _ _ (omega arith) (omega arith) _ _ c.word_inside-k.ensures c.word_inside-n.ensures _ c.is_due.ensures c.if-not-is_due.false _
    c.allows.ensures c.if-not-allows.false (omega arith)

pub returns-then-not-operator_code : goal.returns-then-not-operator_code
returns-then-not-operator_code c =
    shape_code _ _ _ _ (omega arith) (omega arith) _ _ c.word_inside-k.ensures c.word_inside-n.ensures _ c.is_due.ensures c.if-not-is_due.false _
    c.allows.ensures c.if-not-allows.false (omega arith) _ c.record_at-rec.ensures _ c.operator_code.ensures c.if-not-operator_code.true

pub returns-then-not-counts : goal.returns-then-not-counts
returns-then-not-counts c =
    shape_counts _ _ _ _ (omega arith) (omega arith) _ _ c.word_inside-k.ensures c.word_inside-n.ensures _ c.is_due.ensures c.if-not-is_due.false _
    c.allows.ensures c.if-not-allows.false (omega arith) _ c.record_at-rec.ensures _ c.operator_code.ensures c.if-not-operator_code.false _
    c.counts.ensures c.if-not-counts.true

pub returns : goal.returns
returns c =
    shape_accepted _ _ _ _ (omega arith) (omega arith) _ _ c.word_inside-k.ensures c.word_inside-n.ensures _ c.is_due.ensures c.if-not-is_due.false _
    c.allows.ensures c.if-not-allows.false (omega arith) _ c.record_at-rec.ensures _ c.operator_code.ensures c.if-not-operator_code.false _
    c.counts.ensures c.if-not-counts.false

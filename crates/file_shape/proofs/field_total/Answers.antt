-- `file_shape::field_total` meets its contract. The loop's invariant: the total is the sum over the functions passed.
use mathlib.Core.Path.{◌∙◌}
use native.Mathlib.Omega.{arith}
use Rattle.file_records.proofs.Indices.{indexed_field, as_many}
use Rattle.laws.proofs.Runs.{total_none, total_more, total_fields}
use borrow.Author.Rules.{rules}
use Rattle.file_shape.proofs.field_total.Goals as goal

pub loop-f-init : goal.loop-f-init
loop-f-init c = (search rules, as_many c.requires (omega arith), search rules, total_none _ _ _)

pub loop-f-preserved : goal.loop-f-preserved
loop-f-preserved c =
    let loop = c.loop-f in (
      omega arith,
      search rules,
      search rules,
      total_more _ _ _ _ _ _ loop.invariant.3
          (indexed_field _ _ _ _ _ _ _ loop.invariant.1 (omega arith) c.indexed.ensures (c.from-total.ensures ∙ c.field.ensures)),
    )

pub returns : goal.returns
returns c =
    let args = c.args in
    let first_function = c.first_function-first in
    total_fields args.y args.b.now _ _ _ _ _ c.loop-f.invariant.3 first_function.ensures.0 (omega arith)

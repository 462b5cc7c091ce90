-- `answer::write_answer` meets its contract: eight fields one after the other are the record's bytes.
use Rattle.answer.proofs.Records.{record_short, record_bytes_law, record_written}
use Rattle.std.proofs.Common.{◌∙◌}
use Rattle.laws.proofs.Refusals.{passed_on}
use Rattle.answer.proofs.write_answer.Goals as goal

pub returns-in_err-require : goal.returns-in_err-require
returns-in_err-require c =
    let from = c.from_residual in
    let err = c.in_err-require in
    let passed = passed_on from.result err.field-0.0 from.ensures.1 in
    record_short (passed ∙ err.ensures) passed

pub returns : goal.returns
returns c =
    record_written _ _ _ c.in_ok-require.ensures
    (record_bytes_law c.args.a _ _ _ _ _ _ _ _ _ _ _ _ _
    c.outcome_of.ensures c.value_bits.ensures c.node_of.ensures c.context_of.ensures
    c.put_word.ensures c.put_word-2.ensures c.put_word-3.ensures c.put_word32.ensures
    c.put_word32-2.ensures c.put_word-4.ensures c.put_word-5.ensures c.put_word-6.ensures)

-- `driver_view::is_answer_record` meets its contract: the length's test and the length field's, and then the kind's.
use Rattle.std.proofs.Common.{◌≡◌}
use Rattle.driver_view.proofs.Views.{sized, both_lengths, other_size, no_record_by_length, record_by_kind}
use Rattle.driver_view.proofs.is_answer_record.Goals as goal
use Rattle.driver_view.proofs.is_answer_record.Goals.{then-rec-eq-ANSWER_BYTES, else-rec-eq-ANSWER_BYTES}

pub returns-then-word-eq-LENGTH : goal.returns-then-word-eq-LENGTH
returns-then-word-eq-LENGTH c =
    let both : c.if-rec-eq-ANSWER_BYTES.value ≡ sized c.args.rec.now = elim c.if-rec-eq-ANSWER_BYTES.branch [
      | then-rec-eq-ANSWER_BYTES w ↦ both_lengths _ w.if-rec-eq-ANSWER_BYTES.true w.word.ensures w.value-is
      | else-rec-eq-ANSWER_BYTES w ↦ other_size _ w.if-rec-eq-ANSWER_BYTES.false w.value-is
    ] in
    record_by_kind _ both c.if-word-eq-LENGTH.true c.word-then-word-eq-LENGTH.ensures

pub returns-else-word-eq-LENGTH : goal.returns-else-word-eq-LENGTH
returns-else-word-eq-LENGTH c =
    let both : c.if-rec-eq-ANSWER_BYTES.value ≡ sized c.args.rec.now = elim c.if-rec-eq-ANSWER_BYTES.branch [
      | then-rec-eq-ANSWER_BYTES w ↦ both_lengths _ w.if-rec-eq-ANSWER_BYTES.true w.word.ensures w.value-is
      | else-rec-eq-ANSWER_BYTES w ↦ other_size _ w.if-rec-eq-ANSWER_BYTES.false w.value-is
    ] in
    no_record_by_length _ both c.if-word-eq-LENGTH.false

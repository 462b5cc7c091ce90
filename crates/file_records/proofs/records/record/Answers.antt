-- `file_records::records::record` meets its contract: the record at the place where record r starts.
use mathlib.Core.Path.{◌∙◌, ap}
use Rattle.definitions.specs.Records.{record_of, record_at}
use Rattle.file_records.proofs.records.record.Goals as goal

pub returns : goal.returns
unfolding record_of
returns c =
    let args = c.args in
    c.record_at.ensures ∙ ap (record_at args.b.now) c.start.ensures

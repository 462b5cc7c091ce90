-- `file_records::records::indexed` meets its contract.
use Rattle.definitions.specs.Records.{record_at}
use mathlib.Core.Path.{◌∙◌, ap}
use Rattle.file_records.proofs.records.indexed.Goals as goal

pub returns : goal.returns
returns c =
    let args = c.args in
    c.record_at.ensures ∙ ap (record_at args.b.now) c.start_in.ensures.0

-- `file_records::declared_fields::function_field` meets its contract.
use Rattle.file_records.proofs.Indices.{shown_field}
use Rattle.file_records.proofs.declared_fields.function_field.Goals as goal

pub returns : goal.returns
returns c =
    let first_function = c.first_function in
    shown_field _ _ _ _ first_function.ensures.0 c.indexed_from.ensures c.field.ensures

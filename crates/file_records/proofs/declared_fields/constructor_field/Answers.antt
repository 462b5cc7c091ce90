-- `file_records::declared_fields::constructor_field` meets its contract.
use Rattle.file_records.proofs.Indices.{shown_field}
use Rattle.file_records.proofs.declared_fields.constructor_field.Goals as goal

pub returns : goal.returns
returns c =
    let first_item = c.first_item in
    shown_field _ _ _ _ first_item.ensures.0 c.indexed_from.ensures c.field.ensures

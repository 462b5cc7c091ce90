use Rattle.laws.proofs.Records.{field_is, field_past}
use borrow.Author.Rules.{rules}
use Rattle.file_records.proofs.records.field.Goals as goal

pub returns-then-j-rec : goal.returns-then-j-rec
returns-then-j-rec c = field_is _ _ _ c.word.ensures

pub returns-else-j-rec : goal.returns-else-j-rec
returns-else-j-rec c = field_past _ _ (search rules)

-- The word is put where the walk over the lengths and the words before it lead. Assumes nothing.
use Rattle.file_writer.proofs.Laws.{word_changed}
use Rattle.file_writer.proofs.change.Goals as goal

pub returns : goal.returns
returns c =
    let start = c.start in
    word_changed _ _ _ start.ensures.0 c.put.ensures

-- `translator::file::put_file` meets its contract: head, functions, formals and nodes, one after the other.
use Rattle.definitions.specs.Translate.{translation_words}
use Rattle.translation_words.proofs.Writing.{wrote_then}
use Rattle.translator.proofs.file.put_file.Goals as goal

pub returns : goal.returns
unfolding translation_words
returns c =
    let first = wrote_then c.put_head-first_function.ensures c.put_functions-first_formal.ensures in
    wrote_then (wrote_then first c.put_formals-first_node.ensures) c.put_nodes.ensures

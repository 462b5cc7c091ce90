-- `zifnora_c::zifnora_translated_length` meets its contract.
use Rattle.zifnora_c.proofs.Coding.{length_coded}
use Rattle.zifnora_c.proofs.zifnora_translated_length.Goals as goal

pub returns : goal.returns
returns c = length_coded _ _ c.translated_length.ensures c.count_code.ensures.written

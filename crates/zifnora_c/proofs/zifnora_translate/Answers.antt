-- `zifnora_c::zifnora_translate` meets its contract.
use Rattle.zifnora_c.proofs.Coding.{translate_coded}
use Rattle.zifnora_c.proofs.zifnora_translate.Goals as goal

pub returns : goal.returns
returns c = translate_coded c.translate.ensures c.count_code.ensures.written

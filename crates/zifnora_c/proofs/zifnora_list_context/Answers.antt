-- `zifnora_c::zifnora_list_context` meets its contract.
use Rattle.zifnora_c.proofs.Coding.{list_coded}
use Rattle.zifnora_c.proofs.zifnora_list_context.Goals as goal

pub returns : goal.returns
returns c = list_coded c.list_context.ensures c.count_code.ensures.listed

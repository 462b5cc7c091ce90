-- `zifnora_c::zifnora_driver_view` meets its contract.
use Rattle.zifnora_c.proofs.Coding.{view_coded}
use Rattle.zifnora_c.proofs.zifnora_driver_view.Goals as goal

pub returns : goal.returns
returns c = view_coded c.write_view.ensures c.count_code.ensures.written

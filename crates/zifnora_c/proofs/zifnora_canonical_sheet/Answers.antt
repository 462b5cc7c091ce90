-- `zifnora_c::zifnora_canonical_sheet` meets its contract.
use Rattle.zifnora_c.proofs.Coding.{canonical_coded}
use Rattle.zifnora_c.proofs.zifnora_canonical_sheet.Goals as goal

pub returns : goal.returns
returns c = canonical_coded c.write_canonical.ensures c.count_code.ensures.written

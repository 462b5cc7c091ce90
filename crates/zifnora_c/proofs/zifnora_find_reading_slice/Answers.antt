-- `zifnora_c::zifnora_find_reading_slice` meets its contract.
use mir.Syntax.{w32}
use mir.ValLaws.{to_z-of_z}
use Rattle.zifnora_c.proofs.Coding.{search_coded}
use Rattle.zifnora_c.proofs.zifnora_find_reading_slice.Goals as goal

pub returns : goal.returns
returns c =
    let fits = c.ranges in
    let found = c.find_reading.ensures in
    (search_coded (rw (to_z-of_z w32 _ fits.lowest, to_z-of_z w32 _ fits.highest, to_z-of_z w32 _ fits.wanted) at found.0) c.searched_code.ensures, found.1)

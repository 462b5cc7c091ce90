-- `run::going_on::arm_taken` meets its contract.
use mir.Syntax.{w32}
use mir.ValLaws.{to_z-of_z}
use Rattle.run.proofs.Choices.{branch_goes}
use Rattle.run.proofs.EntryReads.{entry_room}
use Rattle.run.proofs.going_on.arm_taken.Goals as goal

pub entry-node-requires : goal.entry-node-requires
entry-node-requires c = entry_room c.requires.equipped c.requires.node.below

pub returns : goal.returns
returns c =
    branch_goes c.requires (to_z-of_z w32 c.args.z c.ranges.z)
    c.entry-node.ensures c.second_in.ensures c.third_in.ensures c.branch-m.ensures c.pair_of.ensures

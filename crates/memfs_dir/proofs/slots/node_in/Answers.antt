use Rattle.std.proofs.Common.{◌∙◌}
use Rattle.memfs_dir.proofs.SlotBytes.{node_shown}
use Rattle.memfs_dir.proofs.slots.node_in.Goals as goal

pub returns : goal.returns
returns c = λ entry spells. c.pointer_in.ensures ∙ node_shown c.args.block.now c.args.slot entry c.told-block c.requires spells

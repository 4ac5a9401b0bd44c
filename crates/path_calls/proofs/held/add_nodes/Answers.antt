use Rattle.path_calls.proofs.Opened.{target_held}
use Rattle.path_calls.proofs.held.add_nodes.Goals as goal

pub add_opened-requires : goal.add_opened-requires
add_opened-requires c = target_held c.args.heap.now _ c.get_desc.result.now c.requires.owners c.get_desc.ensures

use Rattle.memfs_dir.proofs.Once.{asked_once}
use Rattle.memfs_dir.proofs.laws.a_look_asks_for_each_block_once.Goals as goal

pub returns : goal.returns
returns c = asked_once

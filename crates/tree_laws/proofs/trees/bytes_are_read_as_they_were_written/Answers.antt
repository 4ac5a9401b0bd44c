use Rattle.tree_laws.proofs.FileRoom.{length-resized}
use Rattle.tree_laws.proofs.FileBytesLaws.{written_back, written_before, written_behind, written_len, resized_at}
use Rattle.tree_laws.proofs.trees.bytes_are_read_as_they_were_written.Goals as goal

pub returns-clause-back : goal.returns-clause-back
returns-clause-back c = written_back

pub returns-clause-before : goal.returns-clause-before
returns-clause-before c = written_before

pub returns-clause-behind : goal.returns-clause-behind
returns-clause-behind c = written_behind

pub returns-clause-len : goal.returns-clause-len
returns-clause-len c = written_len

pub returns-clause-sized : goal.returns-clause-sized
returns-clause-sized c = resized_at

pub returns-clause-size : goal.returns-clause-size
returns-clause-size c = length-resized

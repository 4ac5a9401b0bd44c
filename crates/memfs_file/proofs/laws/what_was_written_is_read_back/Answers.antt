use Rattle.memfs_file.proofs.ReadBack.{read_back, others_stay, gap_is_zero}
use Rattle.memfs_file.proofs.laws.what_was_written_is_read_back.Goals as goal

pub returns-clause-back : goal.returns-clause-back
returns-clause-back c = read_back

pub returns-clause-others : goal.returns-clause-others
returns-clause-others c = λ disk after number at place bytes old new r. others_stay disk after number at bytes old new r place

pub returns-clause-gap : goal.returns-clause-gap
returns-clause-gap c = λ disk after number at place bytes old new r. gap_is_zero disk after number at bytes old new r place

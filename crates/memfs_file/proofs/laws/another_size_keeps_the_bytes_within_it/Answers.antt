use Rattle.memfs_file.proofs.ReadBack.{bytes_stay, rest_is_zero}
use Rattle.memfs_file.proofs.laws.another_size_keeps_the_bytes_within_it.Goals as goal

pub returns-clause-kept : goal.returns-clause-kept
returns-clause-kept c = λ disk after number size place old new r. bytes_stay disk after number size old new r place

pub returns-clause-zeros : goal.returns-clause-zeros
returns-clause-zeros c = λ disk after number size place old new r. rest_is_zero disk after number size old new r place

use Rattle.blk_map.proofs.AndBack.{bytes_are_back, changes_follow, free_is_back}
use Rattle.blk_map.proofs.laws.growing_and_shrinking_back_changes_nothing.Goals as goal

pub returns-clause-bytes : goal.returns-clause-bytes
returns-clause-bytes c = bytes_are_back

pub returns-clause-others : goal.returns-clause-others
returns-clause-others c = λ number size first second third old grown new grows back. changes_follow number first second third grows.resizes.changes back.changes

pub returns-clause-free : goal.returns-clause-free
returns-clause-free c = free_is_back

use Rattle.part_trials.proofs.locks.take_one.Goals as goal

pub returns-in-Drop : goal.returns-in-Drop
returns-in-Drop g c = (_, c.drop_of.ensures.holds c.requires.0 c.requires.1)

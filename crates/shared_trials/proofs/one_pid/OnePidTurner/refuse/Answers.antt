use Rattle.shared_trials.proofs.SampleSteps.{sample_since}
use Rattle.shared_trials.proofs.one_pid.OnePidTurner.refuse.Goals as goal

pub returns-then-self-lt2-clause-since : goal.returns-then-self-lt2-clause-since
returns-then-self-lt2-clause-since c = λ world is. sample_since world c.args.self.now.place c.args.self.now.lives c.mark.new.self.high is c.mark.ensures.high

pub returns-else-self-lt2-clause-since : goal.returns-else-self-lt2-clause-since
returns-else-self-lt2-clause-since c = λ world is. sample_since world c.args.self.now.place c.args.self.now.lives c.mark.new.self.high is c.mark.ensures.high

use Rattle.shared_trials.proofs.SampleSteps.{sample_since}
use Rattle.shared_trials.proofs.one_pid.OnePidTurner.kill.Goals as goal

pub returns-clause-since : goal.returns-clause-since
returns-clause-since c = λ world is. sample_since world c.args.self.now.place c.args.self.now.lives c.mark.new.self.high is c.mark.ensures.high

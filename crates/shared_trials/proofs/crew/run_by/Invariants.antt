use Rattle.shared_trials.specs.Sample.{sample}
use Rattle.shared_trials.proofs.crew.run_by.Given as goal

-- the names of the run
abbrev pub ghosts-run_workers : goal.ghosts-run_workers
ghosts-run_workers g a = record { script = sample; steps = a.steps; charge = a.charge }

use Rattle.shared_trials.proofs.rows.goes_so.Given as goal

abbrev pub ghosts-run : goal.ghosts-run
ghosts-run g a = record { script = g.T.Turner.script a.store; steps = a.size.steps; charge = a.charge }

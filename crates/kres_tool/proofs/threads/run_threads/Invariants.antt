use Rattle.kres_tool.proofs.threads.run_threads.Given as goal

-- the names of the run
abbrev pub ghosts-run_workers : goal.ghosts-run_workers
ghosts-run_workers g a = record { script = a.store.script; steps = a.steps; charge = a.charge }

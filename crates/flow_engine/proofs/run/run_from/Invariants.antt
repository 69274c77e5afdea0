use Rattle.flow_engine.proofs.run.run_from.Given as goal

-- the beginning that was handed in
abbrev pub ghosts-run_begun : goal.ghosts-run_begun
ghosts-run_begun g a = record { begin = a.start }

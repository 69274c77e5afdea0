use Rattle.flow_model.specs.Begin.{at_first}
use Rattle.flow_runners.specs.Crew.{setup_in}
use Rattle.flow_engine.proofs.run.run_with.Given as goal

-- the beginning of all
abbrev pub ghosts-run_seeded : goal.ghosts-run_seeded
ghosts-run_seeded g a = record { begin = at_first (setup_in a.flow.now) }

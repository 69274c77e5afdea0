use Rattle.std.proofs.Common.{map}
use Rattle.flow_runner.specs.Runner.{endpoints_of}
use Rattle.flow_runners.specs.Crew.{setup_in}
use Rattle.flow_runners.proofs.run.run_all.Given as goal

-- the charter of a run: its setup, its beginning, and the endpoints of its workers
abbrev pub ghosts-under : goal.ghosts-under
ghosts-under g a = record {
  setup = setup_in a.flow.now;
  begin = g.B.Beginning.begin;
  endpoints = map endpoints_of a.workers.items;
}

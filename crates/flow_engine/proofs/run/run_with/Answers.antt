use Rattle.flow_model.specs.Begin.{at_first}
use Rattle.flow_model.specs.Setup.{setup_view}
use Rattle.flow_engine.proofs.Over.{consistent_recorded, waits_recorded}
use Rattle.flow_engine.proofs.run.run_with.Goals as goal

pub returns-clause-waits : goal.returns-clause-waits
returns-clause-waits g c =
    waits_recorded g.F.Feeding.LIVE (at_first (setup_view c.args.setup)) c.args.rows.now c.in_ok-ended.ended.feeds c.in_ok-ended.ended.workers.items c.args.setup c.in_ok-setup.setup c.in_ok-ended.ensures.run c.in_ok-setup.ensures

pub returns-clause-consistent : goal.returns-clause-consistent
returns-clause-consistent g c =
    consistent_recorded g.F.Feeding.LIVE c.args.rows.now c.in_ok-ended.ended.feeds c.in_ok-ended.ended.workers.items c.args.setup c.in_ok-setup.setup c.in_ok-ended.ensures.run c.in_ok-setup.ensures c.requires.rows (λ ran. c.runs_are_consistent.ensures c.args.rows.now ran c.are_numbered.ensures)

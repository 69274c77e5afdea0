use Rattle.std.proofs.Common.{take}
use Rattle.flow_model.specs.Duties.{duties}
use Rattle.flow_model.specs.SetupWorker.{setup_here, who_here}
use Rattle.audit_laws.specs.Delivered.{feed_of}
use Rattle.audit_journal.specs.Course.{progress_of}
use Rattle.audit_journal.proofs.LawLemmas.{HasCome}
use Rattle.audit_journal.proofs.law.is_finished.Given as goal

abbrev pub invariant-loop-entry : goal.invariant-loop-entry
invariant-loop-entry l =
    HasCome (duties (setup_here l.who) l.start.turned (who_here l.who)) l.start.turned
    (feed_of l.start (setup_here l.who) l.rows)
    (take l.entry-index l.journal) (progress_of (setup_here l.who) (who_here l.who).node l.course)

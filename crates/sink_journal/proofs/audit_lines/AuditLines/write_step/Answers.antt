use Rattle.std.proofs.Common.{◌∙◌, decimal}
use Rattle.sink_journal.specs.Audit.{dotted, shown}
use Rattle.sink_journal.proofs.FieldLemmas.{step-record, on-ok}
use Rattle.sink_journal.proofs.audit_lines.AuditLines.write_step.Goals as goal

pub returns : goal.returns
returns c =
    on-ok c.end.result (λ last. step-record c.args.self.now c.self.inside.lines c.add_shown.new.self c.add_shown-2.new.self c.add_dotted.new.self c.end.new.self
    c.args.step.entry.now c.args.front.worker.now c.args.front.node.now (decimal c.args.front.place) (shown c.args.step.lane) (shown c.args.step.number) (dotted c.args.step.birth.now)
    c.args.step.plain c.args.front.fields (c.self.view_is ∙ c.in_ok-begin.ensures) c.in_ok-add_shown.ensures c.in_ok-add_shown-2.ensures c.in_ok-add_dotted.ensures last) c.end.ensures

use Rattle.std.proofs.Common.{◌∙◌, decimal, sym}
use Rattle.sink_journal.proofs.FieldLemmas.{met-record, on-ok}
use Rattle.sink_journal.proofs.audit_lines.AuditLines.write_met.Goals as goal

pub returns-then-is_empty : goal.returns-then-is_empty
returns-then-is_empty c =
    on-ok c.end_laned.result (λ text. met-record c.args.self.now c.self.inside.lines c.end_laned.new.self c.args.front.node.now c.args.front.worker.now c.args.front.met.now (decimal c.args.front.place) (decimal c.args.lane) (decimal c.args.row) c.args.birth.now
    c.self.view_is c.args.front.first c.args.front.fields (sym c.is_empty.ensures ∙ c.if-is_empty.true) text) c.end_laned.ensures

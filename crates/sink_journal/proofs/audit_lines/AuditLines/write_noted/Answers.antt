use Rattle.std.proofs.Common.{◌∙◌, ◌++◌, ap, List, ℕ, codes, decimal}
use Rattle.sink_journal.specs.Audit.{code_word}
use Rattle.sink_journal.proofs.FieldLemmas.{noted-record, on-ok}
use Rattle.sink_journal.proofs.audit_lines.AuditLines.write_noted.Goals as goal

pub returns : goal.returns
returns c =
    let place = decimal c.args.noted.place in
    let first = c.in_ok-add.ensures ∙ ap (λ (x : List ℕ). x ++ codes "refused,,,") c.self.view_is in
    let second = rw c.into.ensures at c.in_ok-add_number.ensures in
    on-ok c.end.result (λ last. noted-record c.args.self.now c.add.new.self c.add_number.new.self c.add_code.new.self c.end.new.self place (code_word c.args.noted.code) first second c.in_ok-add_code.ensures last) c.end.ensures

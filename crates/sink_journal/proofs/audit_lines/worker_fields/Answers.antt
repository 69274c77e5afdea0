use Rattle.std.proofs.Common.{rules, ◌∷◌, [], decimal}
use Rattle.sink_journal.proofs.FieldLemmas.{fields-cons}
use Rattle.sink_journal.proofs.audit_lines.worker_fields.Goals as goal

pub returns : goal.returns
returns c = rw (fields-cons c.args.node.now (decimal c.args.place ∷ [])) (search rules)

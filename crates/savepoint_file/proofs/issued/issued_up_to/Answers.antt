use Rattle.std.proofs.Common.{◌∙◌, ap, filter, length}
use Rattle.savepoint_file.specs.Steps.{is_issued_up_to}
use Rattle.savepoint_file.proofs.IssuedLemmas.{issued_count}
use Rattle.savepoint_file.proofs.issued.issued_up_to.Goals as goal

pub returns : goal.returns
returns c =
    c.issued_in.ensures
    ∙ (ap (λ l. length (filter (is_issued_up_to c.args.row c.args.rows) l)) c.as_slice.ensures ∙ issued_count c.args.row c.args.rows c.args.setup.now.judged.accepted)

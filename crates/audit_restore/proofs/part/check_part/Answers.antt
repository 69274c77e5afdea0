use Rattle.std.proofs.Common.{rules}
use Rattle.audit_restore.proofs.part.check_part.Goals as goal

pub returns-in-Err-clause-found : goal.returns-in-Err-clause-found
returns-in-Err-clause-found c run is fits =
    let memory = c.in-Err.ensures.found run is fits in
    search (rules, memory)

pub returns-in-Ok-clause-only : goal.returns-in-Ok-clause-only
returns-in-Ok-clause-only c run is fits = c.in-Ok.ensures.only run is fits

use Rattle.stream_law.proofs.WholeLemmas.{parts_consistent, parts_serial}
use Rattle.stream_law.proofs.parts.parts_keep_the_laws.Goals as goal

pub returns-clause-consistent : goal.returns-clause-consistent
returns-clause-consistent c so_far part later is next = parts_consistent so_far part later is next

pub returns-clause-serial : goal.returns-clause-serial
returns-clause-serial c so_far part later is next ordered =
    parts_serial so_far part later is next ordered

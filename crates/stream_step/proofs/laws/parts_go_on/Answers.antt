use Rattle.stream_step.proofs.PartLemmas.{first_run, part_after}
use Rattle.stream_step.proofs.laws.parts_go_on.Goals as goal

pub returns-clause-later : goal.returns-clause-later
returns-clause-later c stream so_far requests rows setup left has on =
    part_after stream so_far requests rows setup left has on c.part_runs_are_next_parts.ensures
    c.a_part_more_is_a_run.ensures c.parts_between_rows_are_exact.ensures.next

pub returns-clause-first : goal.returns-clause-first
returns-clause-first c stream requests rows setup left first on =
    first_run c.parts_between_rows_are_exact.ensures.first stream requests rows setup left first on

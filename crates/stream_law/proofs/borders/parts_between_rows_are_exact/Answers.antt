use Rattle.stream_law.proofs.ExactLemmas.{exact_first, exact_next, exact_none}
use Rattle.stream_law.proofs.borders.parts_between_rows_are_exact.Goals as goal

pub returns-clause-first : goal.returns-clause-first
returns-clause-first c setup rows ran is alone = exact_first setup rows ran is alone

pub returns-clause-next : goal.returns-clause-next
returns-clause-next c base so_far part is next alone were =
    exact_next so_far part is next base alone were

pub returns-clause-none : goal.returns-clause-none
returns-clause-none c so_far = exact_none so_far

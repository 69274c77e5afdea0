use Rattle.stream_law.proofs.PartLemmas.{border_anew, border_first, border_stays}
use Rattle.stream_law.proofs.borders.parts_without_rows_set_borders.Goals as goal

pub returns-clause-anew : goal.returns-clause-anew
returns-clause-anew c so_far part is next none request above =
    border_anew so_far part is next none request above

pub returns-clause-kept : goal.returns-clause-kept
returns-clause-kept c so_far part request border is next le under was =
    border_stays so_far part is next request border le under was

pub returns-clause-first : goal.returns-clause-first
returns-clause-first c setup ran is request = border_first setup ran is request

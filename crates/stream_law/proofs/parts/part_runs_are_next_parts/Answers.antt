use Rattle.stream_law.proofs.PartRunLemmas.{part_run_is_next}
use Rattle.stream_law.proofs.parts.part_runs_are_next_parts.Goals as goal

pub returns : goal.returns
returns c so_far others new requests plans part is =
    part_run_is_next so_far others new requests plans part is

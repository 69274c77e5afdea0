use Rattle.std.proofs.Common.{◌≡◌, ◌+◌, ap, arith, subst}
use Rattle.std.specs.Prelude.{IfSome}
use Rattle.stream_step.specs.Pending.{first_wait}
use Rattle.stream_step.specs.declared.stream.Stream.{Stream}
use Rattle.stream_parts.proofs.TimeLemmas.{wait-at}
use Rattle.stream_parts.proofs.rows.rows_of_part.Goals as goal

pub returns-clause-exact : goal.returns-clause-exact
returns-clause-exact c =
    wait-at c.args.stream.now.exact c.args.stream.now.start.row _ c.part_end.result _
    (omega (
      arith,
      c.part_end.ensures.later,
      c.requires.some,
      ap (λ (s : Stream). s.start.row) c.stream.view_is,
    ))
    (subst (λ (s : Stream). IfSome c.args.stream.now.exact (λ base. c.part_end.result
    ≡ first_wait c.args.stream.now.start.row (s.start.row + c.args.most)
    c.args.stream.now.pending)) c.stream.view_is c.part_end.ensures.exact)

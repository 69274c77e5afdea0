use Rattle.std.proofs.Common.{subst, sym}
use Rattle.stream_replay.specs.InParts.{Given, IsLastReplay}
use Rattle.stream_replay.specs.declared.fault.PartFault.{PartFault}
use Rattle.stream_replay.specs.inner.Progress.{IsLooseFor, body_of, start_in}
use Rattle.stream_replay.proofs.PassLemmas.{all_in_parts, loose_end}
use Rattle.stream_replay.proofs.check.end_at.Goals as goal

pub returns-in-Ok-clause-parts : goal.returns-in-Ok-clause-parts
returns-in-Ok-clause-parts c given parts was =
    let part = c.in-Ok.ensures.part in
    all_in_parts c.args.whole.now given parts c.args.progress was (body_of c.args.part.now) part.0
    (subst (λ (g : Given). IsLastReplay g (start_in c.args.progress) (body_of c.args.part.now) part.0)
    was.given_is part.1)

pub returns-in-Err-clause-loose : goal.returns-in-Err-clause-loose
returns-in-Err-clause-loose c given parts was same =
    subst (λ (w : PartFault). IsLooseFor given parts (body_of c.args.part.now) w)
    (sym c.fault_at.ensures)
    (loose_end c.args.whole.now given parts c.args.progress was (body_of c.args.part.now)
    c.args.number same c.in-Err.fault
    (λ left is.
    c.in-Err.ensures.found left
    (subst (λ (g : Given). IsLastReplay g (start_in c.args.progress) (body_of c.args.part.now) left)
    (sym was.given_is) is)))

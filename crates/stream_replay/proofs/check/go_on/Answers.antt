use Rattle.std.proofs.Common.{◌∙◌, ◌++◌, ◌∷◌, subst, sym}
use Rattle.stream_replay.specs.InParts.{Given, IsPartReplay}
use Rattle.stream_replay.specs.declared.fault.PartFault.{PartFault}
use Rattle.stream_replay.specs.inner.Progress.{IsLooseFor, body_of, start_in}
use Rattle.stream_replay.proofs.PassLemmas.{loose_at, passed_more, passes_given}
use Rattle.stream_replay.proofs.check.go_on.Goals as goal

pub returns-in-Ok-clause-passed : goal.returns-in-Ok-clause-passed
returns-in-Ok-clause-passed c given parts was =
    passed_more c.args.whole.now given parts c.args.progress c.in-Ok.next
    (body_of c.args.part.now) was c.in-Ok.ensures.progress
    (c.in-Ok.ensures.given ∙ was.given_is)
    (passes_given c.args.whole.now given c.args.progress c.in-Ok.next (body_of c.args.part.now)
    was.given_is c.in-Ok.ensures.part c.in-Ok.ensures.only)

pub returns-in-Err-clause-loose : goal.returns-in-Err-clause-loose
returns-in-Err-clause-loose c given parts later last was same =
    subst
    (λ (w : PartFault). IsLooseFor given (parts ++ body_of c.args.part.now ∷ later) last w)
    (sym c.fault_at.ensures)
    (loose_at c.args.whole.now given parts c.args.progress was (body_of c.args.part.now) later last
    c.args.number same c.in-Err.fault
    (λ left is.
    c.in-Err.ensures.found left
    (subst (λ (g : Given). IsPartReplay g (start_in c.args.progress) (body_of c.args.part.now) left)
    (sym was.given_is) is)))

use Rattle.std.proofs.Common.{inr}
use Rattle.stream_call.proofs.calls.end_fault.Goals as goal

pub returns-in-Err-clause-some : goal.returns-in-Err-clause-some
returns-in-Err-clause-some g c =
    inr (c.in-None.is, (g.O.Sink.state c.print_end.new.out, rw c.in-Err.is at c.print_end.ensures))

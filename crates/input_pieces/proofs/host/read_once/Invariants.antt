use Rattle.std.specs.Io.KnownBytes.{Keeps}
use Rattle.input_pieces.proofs.host.read_once.Given as goal

abbrev pub invariant-loop : goal.invariant-loop
invariant-loop g l = Keeps (g.I.Read.remaining l.fn.input) (g.I.Read.remaining l.input)

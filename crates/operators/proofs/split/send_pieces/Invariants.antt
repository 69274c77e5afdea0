use Rattle.std.proofs.Common.{◌≡◌, ◌++◌, ◌-◌, take, List, map}
use Rattle.std.specs.List.{enumerate_from}
use Rattle.std.specs.Option.{option_copied}
use Rattle.operators.specs.declared.output.Output.{Output}
use Rattle.operators.specs.Meaning.{piece_sent, split_up}
use Rattle.operators.specs.Pieces.{pieces_left}
use Rattle.operators.proofs.split.send_pieces.Given as goal

abbrev pub invariant-loop-number : goal.invariant-loop-number
invariant-loop-number l = record {
  more : (sent : List Output) × (l.out ≡ l.initial.out ++ sent);
  left : l.out ++ map (piece_sent l.columns l.visit l.split.on l.tuple) (enumerate_from l.number (take (l.split.most - l.number) (pieces_left l.split.by (option_copied l.left)))) ≡ l.initial.out ++ split_up l.columns l.visit l.split l.tuple;
}

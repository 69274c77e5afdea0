use Rattle.std.proofs.Common.{◌≡◌, ◌-◌, [], cond, false, length, suc, true}
use Rattle.std.specs.Io.KnownBytes.{IsAtEnd}
use Rattle.input_pieces.specs.Gathering.{Gathers, kept_of}
use Rattle.input_pieces.specs.declared.limits.TheConstants.{MAX_RECORD}
use Rattle.input_pieces.proofs.pieces.Pieces.next_piece.Given as goal

-- what was read so far is kept
abbrev pub invariant-loop-self : goal.invariant-loop-self
invariant-loop-self g l = record {
  gathered : Gathers (g.T.Tap.state l.fn.tap).left (g.T.Tap.state l.tap).left (kept_of l.fn.self) [] (kept_of l.self);
  faults : (g.T.Tap.state l.tap).faults ≡ (g.T.Tap.state l.fn.tap).faults;
  end : l.fn.self.over ≡ false → l.self.over ≡ true → IsAtEnd (g.T.Tap.state l.tap).left;
  stays : l.fn.self.over ≡ true → (l.self.over ≡ true) × (g.T.Tap.state l.tap ≡ g.T.Tap.state l.fn.tap);
}

abbrev pub decreases-loop-self : goal.decreases-loop-self
decreases-loop-self g l = cond l.self.over 0 (suc (MAX_RECORD - length (kept_of l.self)))

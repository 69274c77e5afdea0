use Rattle.std.proofs.Common.{Option, drop}
use Rattle.fries_lines.specs.declared.fault.Fault.{Fault}
use Rattle.fries_steps.specs.Outcomes.{EndsStoring}
use Rattle.payments.specs.World.{World, world}
use Rattle.fries_steps.proofs.writing.write_texts.Given as goal

-- however storing the files that are left ends, storing all of them ends
abbrev pub invariant-loop-text : goal.invariant-loop-text
invariant-loop-text g l =
    (new : World) (answer : Option Fault) →
    EndsStoring (drop l.text-index l.texts.files.items) l.texts.lines
    (world (g.S.Shelf.state l.shelf) (g.O.Sink.state l.out)) new answer →
    EndsStoring l.texts.files.items l.texts.lines
    (world (g.S.Shelf.state l.fn.shelf) (g.O.Sink.state l.fn.out)) new answer

use Rattle.std.proofs.Common.{◌∷◌}
use Rattle.flow_model.specs.Setup.{setup_view}
use Rattle.audit_parts.specs.Reading.{parts_left}
use Rattle.stream_replay.specs.inner.Progress.{body_of, given_of}
use Rattle.stream_replay.proofs.LoopLemmas.{IsAt}
use Rattle.stream_replay.proofs.check.pass_all.Given as goal

abbrev pub invariant-parts : goal.invariant-parts
invariant-parts l =
    IsAt l.whole (given_of l.whole (setup_view l.fn.progress.setup))
    (body_of l.fn.first ∷ parts_left l.fn.parts) l.fn.progress.setup.job l.progress l.part
    (parts_left l.parts) l.number

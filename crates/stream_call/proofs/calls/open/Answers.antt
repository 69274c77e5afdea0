use Rattle.std.proofs.Common.{◌∙◌, inl, refl, sym}
use Rattle.stream_call.specs.Unopened.{OneName}
use Rattle.stream_call.proofs.calls.open.Goals as goal

pub returns-then-eq-clause-cause : goal.returns-then-eq-clause-cause
returns-then-eq-clause-cause g c =
    inl (
      OneName (rw (sym c.as_str.ensures, sym c.as_str-2.ensures)
          (sym c.eq.ensures ∙ c.if-eq.true)),
      refl,
    )

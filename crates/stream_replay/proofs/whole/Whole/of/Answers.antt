use Rattle.std.proofs.Common.{◌∙◌, List, ap, map, subst, sym}
use Rattle.std.specs.Prelude.{All}
use Rattle.std.proofs.lemmas.List.Elements.{All-map}
use Rattle.audit_fault.specs.Noting.{IsNoted}
use Rattle.fries_lines.specs.Lines.{noted}
use Rattle.versions.specs.declared.in_order.Refused.{Refused}
use Rattle.stream_replay.proofs.whole.Whole.of.Goals as goal

pub invariant_of-result : goal.invariant_of-result
invariant_of-result c =
    let same = c.in_ok-refused.ensures in
    record {
      noted_are =
          c.in_ok-noted.ensures
          ∙ ap (λ (l : List Refused). map noted l) (sym same);
      each =
          subst (All IsNoted) (sym c.in_ok-noted.ensures)
          (All-map IsNoted noted c.as_slice-refused.result.now c.refused_are_noted.ensures);
    }

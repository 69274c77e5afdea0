use Rattle.std.proofs.Common.{[], w64, ◌++◌, ◌∙◌, List, ℕ, ap}
use Rattle.std.proofs.lemmas.Int.{to_z-of_z}
use Rattle.std.specs.Fmt.{signed_decimal}
use Rattle.sink_journal.proofs.FieldLemmas.{signed-plain, field-onto, on-ok}
use Rattle.sink_journal.proofs.lines.Lines.add_signed.Goals as goal

pub returns : goal.returns
returns c =
    let digits = c.as_bytes.ensures.value ∙ (simp (to_z-of_z w64 c.args.number c.ranges.number) at c.format.ensures.text) in
    let plain = signed-plain c.args.number c.ranges.number in
    on-ok c.extend_from_slice.result (λ text. field-onto c.args.self.now c.self.inside.text c.push.new.self c.extend_from_slice.new.self [] (signed_decimal c.args.number) c.self.view_is c.in_ok-push.ensures.ok (text ∙ ap (λ (t : List ℕ). c.push.new.self ++ t) digits) plain) c.extend_from_slice.ensures.ok

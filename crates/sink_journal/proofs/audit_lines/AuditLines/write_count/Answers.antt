use Rattle.std.proofs.Common.{◌∙◌, ◌++◌, ap, sym, List, ℕ, [], refl, w64, codes, decimal}
use Rattle.std.proofs.lemmas.Int.{to_z-of_z}
use Rattle.std.specs.Fmt.{signed_decimal}
use Rattle.sink_journal.proofs.FieldLemmas.{one-empty, step-record, on-ok}
use Rattle.sink_journal.proofs.audit_lines.AuditLines.write_count.Goals as goal

pub returns : goal.returns
returns c =
    let second = c.in_ok-add.ensures ∙ ap (λ (x : List ℕ). c.self.inside.lines ++ x) (sym one-empty) in
    let third = simp (to_z-of_z w64 c.args.count c.ranges.count) at c.in_ok-add_signed.ensures in
    on-ok c.end.result (λ last. step-record c.args.self.now c.self.inside.lines c.add.new.self c.add_signed.new.self c.add_text.new.self c.end.new.self
    (codes "state") c.args.worker.now c.args.node.now (decimal c.args.place) [] (signed_decimal c.args.count) c.args.key.now
    refl c.requires (c.self.view_is ∙ c.in_ok-begin.ensures) second third c.in_ok-add_text.ensures last) c.end.ensures

use Rattle.std.proofs.Common.{◌≡◌, ◌∙◌, ◌+◌, ◌∷◌, List, Bool, ap, drop, false, refl, sym, true}
use Rattle.std.proofs.lemmas.List.{drop_all, drop_more}
use Rattle.sink_journal.specs.declared.journal.Entry.{Entry}
use Rattle.flow_model.specs.Whole.{meets_row}
use Rattle.serial_order.specs.Places.{rows_numbered}
use Rattle.serial_order.proofs.NewLemmas.{rest_after, step-after, step-before, step-end}
use Rattle.serial_order.proofs.places.number_after_turn.Goals as goal
use Rattle.serial_order.proofs.places.number_after_turn.Goals.{then-turned, else-turned}

pub loop-entry-init : goal.loop-entry-init
loop-entry-init c = refl

pub loop-entry-preserved : goal.loop-entry-preserved
loop-entry-preserved c =
    let journal : List Entry = c.args.journal.now in
    let r = c.args.request in
    let i = c.loop-entry.entry-index in
    let e : Entry = c.entry-item.result in
    let more : List Entry = drop (i + 1) journal in
    let xs = c.loop-entry.numbers in
    let here : drop i journal ≡ e ∷ more = drop_more journal i e c.loop-entry-test.true ∙ ap (λ (x : Entry). x ∷ more) (sym c.entry-item.is) in
    elim c.if-turned.branch [
      | then-turned w ↦
          let turned : c.loop-entry.turned ≡ true = w.if-turned.true in
          rw (w.numbers-is, w.number_met.ensures, turned)
          (step-after r e more xs
          ∙ (ap (λ (l : List Entry). rows_numbered (λ row. meets_row row (rest_after true r l)) r 1 xs) (sym here)
          ∙ (ap (λ (b : Bool). rows_numbered (λ row. meets_row row (rest_after b r (drop i journal))) r 1 xs) (sym turned) ∙ c.loop-entry.invariant)))
      | else-turned w ↦
          let turned : c.loop-entry.turned ≡ false = w.if-turned.false in
          rw (w.numbers-is, turned, c.is_turn-turned.ensures)
          (step-before r e more xs
          ∙ (ap (λ (l : List Entry). rows_numbered (λ row. meets_row row (rest_after false r l)) r 1 xs) (sym here)
          ∙ (ap (λ (b : Bool). rows_numbered (λ row. meets_row row (rest_after b r (drop i journal))) r 1 xs) (sym turned) ∙ c.loop-entry.invariant)))
    ]

pub returns : goal.returns
returns c = sym (step-end c.loop-entry.turned c.args.request (drop c.loop-entry.entry-index c.args.journal.now) c.loop-entry.numbers (drop_all c.loop-entry.entry-index c.args.journal.now c.loop-entry-test.false)) ∙ c.loop-entry.invariant

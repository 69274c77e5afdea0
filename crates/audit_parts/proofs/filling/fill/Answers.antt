use Rattle.std.proofs.Common.{◌≡◌, ◌∙◌, ◌∷◌, false, sym, true}
use Rattle.std.proofs.lemmas.Bool.{and_from, and_left, and_right}
use Rattle.std.proofs.lemmas.List.Elements.{All-tail}
use Rattle.csv.specs.Records.{fields_of}
use Rattle.audit_parts.specs.inner.Fields.{HasField}
use Rattle.audit_parts.specs.Cut.{is_border, leads, may_end}
use Rattle.audit_parts.proofs.FillLemmas.{fill_border, fill_last, fill_more}
use Rattle.audit_parts.proofs.HeaderLemmas.{left_have}
use Rattle.audit_parts.proofs.filling.fill.Goals as goal
use Rattle.audit_parts.proofs.filling.fill.Goals.{else-ends-via-then-ends+else-leads, else-ends-via-else-ends}

pub returns-then-not-branch-clause-part : goal.returns-then-not-branch-clause-part
returns-then-not-branch-clause-part c =
    let start = fields_of c.args.cells.now ∷ c.args.records.now in
    let none = rw c.if-not-branch.true at c.in_ok-next.ensures in
    fill_last start c.loop.part c.add.new.self (fields_of c.loop.cells) c.loop.records c.loop.counter c.loop.invariant none
    (c.in_ok-add.ensures c.loop.invariant.own c.loop.invariant.texts)

pub returns-then-leads-clause-part : goal.returns-then-leads-clause-part
returns-then-leads-clause-part c =
    let start = fields_of c.args.cells.now ∷ c.args.records.now in
    let x = fields_of c.loop.cells in
    let y = fields_of c.next.new.cells in
    let is = rw c.if-not-branch.false at c.in_ok-next.ensures in
    let border : is_border x y ≡ true = and_from (leads y) (may_end x) (sym c.leads.ensures ∙ c.if-leads.true) (sym c.may_end-ends.ensures ∙ c.if-ends.true) in
    fill_border start c.loop.part c.add.new.self x y c.loop.records c.next.new.self c.loop.counter c.loop.invariant is border
    (c.in_ok-add.ensures c.loop.invariant.own c.loop.invariant.texts)

pub returns-then-leads-clause-fields : goal.returns-then-leads-clause-fields
returns-then-leads-clause-fields c read =
    let is = rw c.if-not-branch.false at c.in_ok-next.ensures in
    left_have (fields_of c.next.new.cells) c.next.new.self c.loop.records is (All-tail HasField (fields_of c.loop.cells) c.loop.records c.loop.invariant.ahead)

pub loop-preserved : goal.loop-preserved
loop-preserved c =
    let start = fields_of c.args.cells.now ∷ c.args.records.now in
    let x = fields_of c.loop.cells in
    let y = fields_of c.next.new.cells in
    let is = rw c.if-not-branch.false at c.in_ok-next.ensures in
    let none : is_border x y ≡ false = elim c.else-ends.branch [
      | else-ends-via-then-ends+else-leads w ↦ and_left (leads y) (may_end x) (sym w.leads.ensures ∙ w.if-leads.false)
      | else-ends-via-else-ends w ↦ and_right (leads y) (may_end x) (sym c.may_end-ends.ensures ∙ w.if-ends.false)
    ] in
    fill_more start c.loop.part c.add.new.self x y c.loop.records c.next.new.self c.loop.counter c.loop.invariant is none
    (c.in_ok-add.ensures c.loop.invariant.own c.loop.invariant.texts)

use Rattle.std.proofs.Common.{◌≡◌, ◌∙◌, ◌∷◌, ℕ, List, [], ap, refl, rules, subst}
use Rattle.sink_journal.specs.Audit.{audit_header}
use Rattle.audit_check.specs.Telling.{Tells}
use Rattle.audit_check.proofs.shape.read_records.Goals as goal

pub read_lines-requires : goal.read_lines-requires
read_lines-requires c = subst (λ n. Tells n [] c.in_ok-told.told) c.workers.ensures.value c.in_ok-told.ensures

pub returns-in_err-read_lines-clause-fault : goal.returns-in_err-read_lines-clause-fault
returns-in_err-read_lines-clause-fault c begin refused rows =
    let first = rw c.if-not-branch.false at c.in_ok-next.ensures in
    let header = c.if-not-is_header.ensures.0 refl in
    let whole : c.args.records.now ≡ audit_header ∷ c.next.new.self = first ∙ ap (λ (here : List (List ℕ)). here ∷ c.next.new.self) header in
    let fault = rw (← whole) at c.in_err-read_lines.ensures.fault begin refused rows in
    search (rules, fault)

pub returns-clause-ok : goal.returns-clause-ok
returns-clause-ok c =
    let first = rw c.if-not-branch.false at c.in_ok-next.ensures in
    let header = c.if-not-is_header.ensures.0 refl in
    let whole : c.args.records.now ≡ audit_header ∷ c.next.new.self = first ∙ ap (λ (here : List (List ℕ)). here ∷ c.next.new.self) header in
    rw (← whole) at c.in_ok-read_lines.ensures.ok

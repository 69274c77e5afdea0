use Rattle.std.proofs.lemmas.List.Elements.{All-tail}
use Rattle.std.proofs.lemmas.Bool.{iff_false}
use Rattle.csv.specs.Records.{fields_of}
use Rattle.audit_parts.specs.inner.Fields.{HasField}
use Rattle.audit_parts.proofs.HeaderLemmas.{found_have, left_have, no_header}
use Rattle.audit_parts.proofs.filling.begin.Goals as goal

pub returns-then-not-is_header-clause-parts : goal.returns-then-not-is_header-clause-parts
returns-then-not-is_header-clause-parts c =
    let first = rw c.if-not-branch.false at c.in_ok-next.ensures in
    no_header (fields_of c.next.new.cells) c.next.new.self c.args.records.now first (iff_false c.is_header.ensures c.if-not-is_header.true)

pub returns-clause-fields : goal.returns-clause-fields
returns-clause-fields c all =
    let first = rw c.if-not-branch.false at c.in_ok-next.ensures in
    let both = left_have (fields_of c.next.new.cells) c.next.new.self c.args.records.now first all in
    found_have c.in_ok-next-2.field-0 (fields_of c.next-2.new.cells) c.next-2.new.self c.next.new.self c.in_ok-next-2.ensures
    (All-tail HasField (fields_of c.next.new.cells) c.next.new.self both)

-- What a reader of parts has left.
use Rattle.std.specs.Prelude.{ℕ, Bool, List}
use Rattle.csv.specs.Records.{fields_of}
use Rattle.audit_parts.specs.Ahead.{is_fault, is_read, parts_from}
use Rattle.audit_parts.specs.declared.parts.AuditParts.{AuditParts}

-- the parts that are still to come
abbrev pub parts_left : AuditParts → List (List (List (List ℕ)))
parts_left parts = parts_from (is_read parts.ahead) (fields_of parts.cells) parts.records

-- a call ran out of memory, so each later one does
abbrev pub has_failed : AuditParts → Bool
has_failed parts = is_fault parts.ahead

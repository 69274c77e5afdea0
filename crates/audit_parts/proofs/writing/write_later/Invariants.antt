use Rattle.std.proofs.Common.{◌≡◌, ◌++◌, drop}
use Rattle.csv.specs.Records.{fields_of}
use Rattle.csv.specs.Writing.{default_writer, fields_text}
use Rattle.audit_parts.proofs.writing.write_later.Given as goal

abbrev pub invariant-loop-place : goal.invariant-loop-place
invariant-loop-place l = l.text ++ fields_text default_writer (drop l.place (fields_of l.cells))
    ≡ l.fn.text ++ fields_text default_writer (drop 1 (fields_of l.cells))

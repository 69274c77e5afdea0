-- The text of a part.
use Rattle.std.specs.Prelude.{◌≡◌, ℕ, List, ◌∷◌, length}
use Rattle.std.specs.List.{count_by}
use Rattle.csv.specs.Reading.{default_config, records as records_of, strip_bom}
use Rattle.sink_journal.specs.Audit.{audit_header}
use Rattle.sink_journal.specs.Records.{records_text}
use Rattle.audit_parts.specs.Cut.{is_fed_record, is_issued_record, is_refused_record}
use Rattle.audit_parts.specs.declared.part.AuditPart.{AuditPart}

-- a part's text has the header and these records, and its counts are theirs
pub record IsTextOf (part : AuditPart) (records : List (List (List ℕ))) : Type 0 where
  pub text : part.text ≡ records_text (audit_header ∷ records)
  pub count : part.records ≡ length records
  pub refused : part.refused ≡ count_by is_refused_record records
  pub fed : part.fed ≡ count_by is_fed_record records
  pub issued : part.issued ≡ count_by is_issued_record records

-- the text is read as the header and these records
abbrev pub IsReadAs : List ℕ → List (List (List ℕ)) → Type 0
IsReadAs text records = records_of default_config (strip_bom text) ≡ audit_header ∷ records

-- What is printed of a fault of an audit.
use Rattle.std.specs.Prelude.{ℕ, List, ◌++◌, codes, decimal}
use Rattle.audit_fault.specs.declared.fault.AuditFault.{AuditFault}
use Rattle.audit_fault.specs.declared.fault.AuditFault.TheVariants as fault

-- a fault of an audit: its code, and the record, worker or lane that it names
abbrev pub audit_words : AuditFault → List ℕ
audit_words (fault.Shape record_number) = codes "V1 record " ++ decimal record_number
audit_words (fault.Refused record_number) = codes "V2 record " ++ decimal record_number
audit_words (fault.Feed record_number) = codes "V3 record " ++ decimal record_number
audit_words (fault.Law worker) = codes "V4 worker " ++ decimal worker
audit_words (fault.Lane lane) = codes "V5 lane " ++ decimal lane
audit_words (fault.State worker) = codes "V6 worker " ++ decimal worker
audit_words fault.NoMemory = codes "memory"

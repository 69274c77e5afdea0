-- The codes under which the table tells of a fault: those that are printed, and a status where
-- there is none.
use Rattle.std.specs.Prelude.{ℕ, List, codes}
use Rattle.audit_fault.specs.declared.fault.AuditFault.{AuditFault}
use Rattle.audit_fault.specs.declared.fault.AuditFault.TheVariants as audit
use Rattle.job_file.specs.declared.fault.JobFault.{JobFault}
use Rattle.job_file.specs.declared.fault.JobFault.TheVariants as job
use Rattle.job_file.specs.declared.fault.ReqFileFault.{ReqFileFault}
use Rattle.job_file.specs.declared.fault.ReqFileFault.TheVariants as requests
use Rattle.payments.specs.declared.read.PFault.{PFault}
use Rattle.payments.specs.declared.read.PFault.TheVariants as rows
use Rattle.fries_lines.specs.declared.fault.Fault.{Fault}
use Rattle.fries_lines.specs.declared.fault.Fault.TheVariants as fault
use Rattle.fries_lines.specs.declared.fault.FileIs.{FileIs}
use Rattle.fries_lines.specs.declared.fault.FileIs.TheVariants as file
use Rattle.savepoint.specs.declared.fault.SaveFault.{SaveFault}
use Rattle.savepoint.specs.declared.fault.SaveFault.TheVariants as save
use Rattle.stream_call.specs.declared.fault.StreamFault.{StreamFault}
use Rattle.stream_call.specs.declared.fault.StreamFault.TheVariants as stream
use Rattle.stream_save.specs.declared.fault.StreamSaveFault.{StreamSaveFault}
use Rattle.stream_save.specs.declared.fault.StreamSaveFault.TheVariants as stream_save
use Rattle.versions.specs.declared.fault.QFault.{QFault}
use Rattle.versions.specs.declared.fault.QFault.TheVariants as refusal

abbrev pub job_code : JobFault → List ℕ
job_code job.NotToml = codes "J1"
job_code (job.Shape _) = codes "J2"
job_code (job.Limit which number) = codes "J3"
job_code (job.NameTwice named place) = codes "J4"
job_code (job.NoSuchEnd edge) = codes "J5"
job_code (job.Ports node) = codes "J6"
job_code (job.Cycle node) = codes "J7"
job_code (job.Column node) = codes "J8"
job_code (job.NoTable node) = codes "J9"
job_code (job.Weight weight) = codes "J10"
job_code job.NoMemory = codes "7"

abbrev pub requests_code : ReqFileFault → List ℕ
requests_code requests.NotToml = codes "F1"
requests_code (requests.Shape _) = codes "F2"
requests_code (requests.Limit which number) = codes "F3"
requests_code requests.NoMemory = codes "7"

abbrev pub payments_code : PFault → List ℕ
payments_code rows.NoHeader = codes "P1"
payments_code rows.Header = codes "P2"
payments_code (rows.Length row) = codes "P3"
payments_code (rows.Source row) = codes "P4"
payments_code (rows.Value row column) = codes "P5"
payments_code (rows.TextLong row column) = codes "P6"
payments_code (rows.TooMuch row) = codes "P7"
payments_code rows.NoMemory = codes "7"

abbrev pub save_code : SaveFault → List ℕ
save_code (save.Shape number) = codes "S1"
save_code (save.Past row) = codes "S2"
save_code (save.Count requests) = codes "S3"
save_code (save.State number) = codes "S4"
save_code save.NoMemory = codes "7"

abbrev pub audit_code : AuditFault → List ℕ
audit_code (audit.Shape number) = codes "V1"
audit_code (audit.Refused number) = codes "V2"
audit_code (audit.Feed number) = codes "V3"
audit_code (audit.Law worker) = codes "V4"
audit_code (audit.Lane lane) = codes "V5"
audit_code (audit.State worker) = codes "V6"
audit_code audit.NoMemory = codes "7"

-- a file that is too long: payments, the savepoint, the audit and the alerts have rows of their own
abbrev pub long_code : FileIs → List ℕ
long_code file.Payments = codes "9 payments"
long_code file.Save = codes "9 save"
long_code file.Audit = codes "9 audit"
long_code file.Alerts = codes "9 alerts"
long_code _ = codes "9"

-- a read fault: the input of releases has a row of its own
abbrev pub read_code : FileIs → List ℕ
read_code file.Asks = codes "5 asks"
read_code _ = codes "5"

-- a write fault: the standard output has a row of its own
abbrev pub write_code : FileIs → List ℕ
write_code file.Out = codes "6 out"
write_code _ = codes "6"

abbrev pub help_code_of : Fault → List ℕ
help_code_of fault.Usage = codes "1"
help_code_of (fault.Job code) = job_code code
help_code_of (fault.Requests code) = requests_code code
help_code_of (fault.Payments code) = payments_code code
help_code_of (fault.Save code) = save_code code
help_code_of (fault.Audit code) = audit_code code
help_code_of (fault.Alerts line) = codes "V7"
help_code_of (fault.Part part) = codes "V8"
help_code_of (fault.Read file) = read_code file
help_code_of (fault.Write file) = write_code file
help_code_of fault.NoMemory = codes "7"
help_code_of (fault.Long file) = long_code file

-- the savepoint of a stream: a wait has a row of its own
abbrev pub stream_save_code : StreamSaveFault → List ℕ
stream_save_code (stream_save.Shape number) = codes "S1"
stream_save_code (stream_save.Past row) = codes "S2"
stream_save_code (stream_save.Count number) = codes "S3 record"
stream_save_code (stream_save.State number) = codes "S4"
stream_save_code (stream_save.Alerts length) = codes "S5"
stream_save_code (stream_save.Audit length) = codes "S5"
stream_save_code stream_save.NoMemory = codes "7"

abbrev pub stream_code : StreamFault → List ℕ
stream_code (stream.Call code) = help_code_of code
stream_code (stream.Save code) = stream_save_code code
stream_code (stream.Ahead row) = codes "S6"

abbrev pub refusal_code : QFault → List ℕ
refusal_code (refusal.NoNode change) = codes "Q1"
refusal_code (refusal.Fixed change) = codes "Q2"
refusal_code (refusal.NodeTwice change) = codes "Q3"
refusal_code (refusal.Stale change current) = codes "Q4"
refusal_code (refusal.IllTyped change) = codes "Q5"
refusal_code (refusal.KindOrKey change) = codes "Q6"
refusal_code (refusal.BadCarry change) = codes "Q7"
refusal_code refusal.Empty = codes "Q8"
refusal_code (refusal.Backwards last) = codes "Q9"
refusal_code (refusal.LateSplit change) = codes "Q10"

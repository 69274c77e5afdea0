-- Faults and their statuses, and the files that they speak of.
use Rattle.std.specs.Prelude.{ℕ, List, [], ◌∷◌, Option, None, Some}
use Rattle.audit_fault.specs.declared.fault.AuditFault.{AuditFault}
use Rattle.audit_fault.specs.declared.fault.AuditFault.TheVariants as audit
use Rattle.job_file.specs.declared.fault.JobFault.{JobFault}
use Rattle.job_file.specs.declared.fault.JobFault.TheVariants as job
use Rattle.job_file.specs.declared.fault.ReqFileFault.{ReqFileFault}
use Rattle.job_file.specs.declared.fault.ReqFileFault.TheVariants as requests
use Rattle.payments.specs.declared.read.PFault.{PFault}
use Rattle.payments.specs.declared.read.PFault.TheVariants as rows
use Rattle.savepoint.specs.declared.fault.SaveFault.{SaveFault}
use Rattle.savepoint.specs.declared.fault.SaveFault.TheVariants as save
use Rattle.versions.specs.declared.in_order.Refused.{Refused}
use Rattle.fries_lines.specs.declared.fault.Fault.{Fault}
use Rattle.fries_lines.specs.declared.fault.Fault.TheVariants as fault
use Rattle.fries_lines.specs.declared.fault.FileIs.{FileIs}
use Rattle.fries_lines.specs.declared.fault.FileIs.TheVariants as file

-- the fault of the program for one of the job file
abbrev pub job_fault : JobFault → Fault
job_fault job.NoMemory = fault.NoMemory
job_fault code = fault.Job code

-- the fault of the program for one of the request file
abbrev pub requests_fault : ReqFileFault → Fault
requests_fault requests.NoMemory = fault.NoMemory
requests_fault code = fault.Requests code

-- the fault of the program for one of the payments
abbrev pub payments_fault : PFault → Fault
payments_fault rows.NoMemory = fault.NoMemory
payments_fault code = fault.Payments code

-- the fault of the program for one of the savepoint
abbrev pub save_fault : SaveFault → Fault
save_fault save.NoMemory = fault.NoMemory
save_fault code = fault.Save code

-- the fault of the program for one of the audit
abbrev pub audit_fault : AuditFault → Fault
audit_fault audit.NoMemory = fault.NoMemory
audit_fault code = fault.Audit code

-- the status that a fault ends with
abbrev pub status_of : Fault → ℕ
status_of fault.Usage = 1
status_of (fault.Job code) = 2
status_of (fault.Requests code) = 3
status_of (fault.Payments code) = 4
status_of (fault.Read file) = 5
status_of (fault.Write file) = 6
status_of fault.NoMemory = 7
status_of (fault.Long file) = 9
status_of (fault.Save code) = 10
status_of (fault.Audit code) = 11
status_of (fault.Alerts line) = 11
status_of (fault.Part part) = 11

-- the status of a call: that of its fault, where it has one; else 0, or 8 where a request was
-- refused
abbrev pub status_for : Option Fault → List Refused → ℕ
status_for None [] = 0
status_for None (first ∷ later) = 8
status_for (Some fault) refused = status_of fault

-- how many bytes of a file are read at most: none of one that is only written
abbrev pub limit_of : FileIs → ℕ
limit_of file.Job = 1048576
limit_of file.Requests = 1048576
limit_of file.Payments = 67108864
limit_of file.Alerts = 2147483648
limit_of file.Audit = 536870912
limit_of file.Save = 536870912
limit_of file.Asks = 1048576
limit_of file.Out = 0

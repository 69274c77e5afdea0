-- What is printed of a fault.
use Rattle.std.specs.Prelude.{ℕ, List, ◌++◌, codes, decimal}
use Rattle.audit_fault.specs.FaultWords.{audit_words}
use Rattle.job_file.specs.FaultWords.{job_words, requests_words}
use Rattle.payments.specs.FaultWords.{payments_words}
use Rattle.savepoint.specs.FaultWords.{save_words}
use Rattle.fries_lines.specs.Faults.{status_of}
use Rattle.fries_lines.specs.declared.fault.Fault.{Fault}
use Rattle.fries_lines.specs.declared.fault.Fault.TheVariants as fault
use Rattle.fries_lines.specs.declared.fault.FileIs.{FileIs}
use Rattle.fries_lines.specs.declared.fault.FileIs.TheVariants as file

-- the word for a file, or for the input or the output
abbrev pub file_words : FileIs → List ℕ
file_words file.Job = codes "job"
file_words file.Requests = codes "requests"
file_words file.Payments = codes "payments"
file_words file.Alerts = codes "alerts"
file_words file.Audit = codes "audit"
file_words file.Save = codes "save"
file_words file.Asks = codes "asks"
file_words file.Out = codes "out"

-- what the line of a fault says after the status
abbrev pub fault_words : Fault → List ℕ
fault_words fault.Usage = codes "usage"
fault_words (fault.Job code) = job_words code
fault_words (fault.Requests code) = requests_words code
fault_words (fault.Payments code) = payments_words code
fault_words (fault.Save code) = save_words code
fault_words (fault.Audit code) = audit_words code
fault_words (fault.Alerts line) = codes "V7 line " ++ decimal line
fault_words (fault.Part part) = codes "V8 part " ++ decimal part
fault_words (fault.Read file) = file_words file
fault_words (fault.Write file) = file_words file
fault_words fault.NoMemory = codes "memory"
fault_words (fault.Long file) = file_words file

-- the line of a fault
abbrev pub fault_line : Fault → List ℕ
fault_line fault =
    codes "fault " ++ decimal (status_of fault) ++ codes " " ++ fault_words fault ++ codes "\n"

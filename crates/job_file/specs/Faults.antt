-- The faults of the two files, by where they come from.
use Rattle.std.specs.Prelude.{Result, Ok, Err}
use Rattle.jobs.specs.declared.fault.LawFault.{LawFault}
use Rattle.jobs.specs.declared.fault.LawFault.TheVariants as law
use Rattle.job_file.specs.declared.fault.FormFault.{FormFault}
use Rattle.job_file.specs.declared.fault.FormFault.TheVariants as form
use Rattle.job_file.specs.declared.fault.JobFault.{JobFault}
use Rattle.job_file.specs.declared.fault.JobFault.TheVariants as fault
use Rattle.job_file.specs.declared.fault.ReqFileFault.{ReqFileFault}
use Rattle.job_file.specs.declared.fault.ReqFileFault.TheVariants as request_fault

-- a fault of form of a job file
abbrev pub of_form : FormFault → JobFault
of_form form.NotToml = fault.NotToml
of_form (form.Shape place) = fault.Shape place
of_form form.NoMemory = fault.NoMemory

-- what was read, its fault as one of a job file
abbrev pub in_form : {A : Type 0} → Result A FormFault → Result A JobFault
in_form (Ok x) = Ok x
in_form (Err f) = Err (of_form f)

-- a fault of a job that isn't lawful
abbrev pub of_law : LawFault → JobFault
of_law (law.Limit size number) = fault.Limit size number
of_law (law.NameTwice named i) = fault.NameTwice named i
of_law (law.NoSuchEnd i) = fault.NoSuchEnd i
of_law (law.Ports v) = fault.Ports v
of_law (law.Cycle v) = fault.Cycle v
of_law (law.Column v) = fault.Column v
of_law (law.NoTable v) = fault.NoTable v
of_law (law.Weight weight) = fault.Weight weight
of_law law.NoMemory = fault.NoMemory

-- a fault of form of a request file
abbrev pub of_request_form : FormFault → ReqFileFault
of_request_form form.NotToml = request_fault.NotToml
of_request_form (form.Shape place) = request_fault.Shape place
of_request_form form.NoMemory = request_fault.NoMemory

-- what was read, its fault as one of a request file
abbrev pub in_request_form : {A : Type 0} → Result A FormFault → Result A ReqFileFault
in_request_form (Ok x) = Ok x
in_request_form (Err f) = Err (of_request_form f)

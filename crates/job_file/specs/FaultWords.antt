-- What is printed of a fault of a job file or a request file: its code, and what it names.
use Rattle.std.specs.Prelude.{ℕ, List, ◌++◌, codes, decimal}
use Rattle.std.specs.Fmt.{signed_decimal}
use Rattle.jobs.specs.FaultWords.{which_words}
use Rattle.jobs.specs.declared.fault.Named.TheVariants as named
use Rattle.job_file.specs.declared.fault.JobFault.{JobFault}
use Rattle.job_file.specs.declared.fault.JobFault.TheVariants as job
use Rattle.job_file.specs.declared.fault.Part.{Part}
use Rattle.job_file.specs.declared.fault.Part.TheVariants as part
use Rattle.job_file.specs.declared.fault.ReqFileFault.{ReqFileFault}
use Rattle.job_file.specs.declared.fault.ReqFileFault.TheVariants as requests

-- the key of a part of a file's layout, or `unknown`
abbrev pub part_words : Part → List ℕ
part_words part.Columns = codes "columns"
part_words part.Tables = codes "tables"
part_words part.Node = codes "node"
part_words part.Edge = codes "edge"
part_words part.Name = codes "name"
part_words part.Kind = codes "kind"
part_words part.Workers = codes "workers"
part_words part.When = codes "when"
part_words part.Steps = codes "steps"
part_words part.Key = codes "key"
part_words part.Into = codes "into"
part_words part.Table = codes "table"
part_words part.Other = codes "other"
part_words part.Add = codes "add"
part_words part.On = codes "on"
part_words part.By = codes "by"
part_words part.Most = codes "most"
part_words part.Low = codes "low"
part_words part.High = codes "high"
part_words part.Roof = codes "roof"
part_words part.From = codes "from"
part_words part.To = codes "to"
part_words part.Port = codes "port"
part_words part.Request = codes "request"
part_words part.Change = codes "change"
part_words part.After = codes "after"
part_words part.Carry = codes "carry"
part_words part.Unknown = codes "unknown"

-- a fault of the job file: its code, and what it names
abbrev pub job_words : JobFault → List ℕ
job_words job.NotToml = codes "J1"
job_words (job.Shape part) = codes "J2 " ++ part_words part
job_words (job.Limit which number) =
    codes "J3 " ++ which_words which ++ codes " " ++ signed_decimal number
job_words (job.NameTwice named.Node place) = codes "J4 node " ++ decimal place
job_words (job.NameTwice named.Column place) =
    codes "J4 column " ++ decimal place
job_words (job.NoSuchEnd edge) = codes "J5 edge " ++ decimal edge
job_words (job.Ports node) = codes "J6 node " ++ decimal node
job_words (job.Cycle node) = codes "J7 node " ++ decimal node
job_words (job.Column node) = codes "J8 node " ++ decimal node
job_words (job.NoTable node) = codes "J9 node " ++ decimal node
job_words (job.Weight weight) = codes "J10 weight " ++ decimal weight
job_words job.NoMemory = codes "memory"

-- a fault of the request file: its code, and what it names
abbrev pub requests_words : ReqFileFault → List ℕ
requests_words requests.NotToml = codes "F1"
requests_words (requests.Shape part) = codes "F2 " ++ part_words part
requests_words (requests.Limit which number) =
    codes "F3 " ++ which_words which ++ codes " " ++ signed_decimal number
requests_words requests.NoMemory = codes "memory"

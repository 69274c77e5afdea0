-- What a command line may ask for, and what a command asks for.
use Rattle.std.specs.Prelude.{◌≤◌, ⊤, ℕ, ℤ, Bool, Option}
use Rattle.fries_words.specs.Form.{Text}
use Rattle.fries_words.specs.declared.command.AuditOf.{AuditOf}
use Rattle.fries_words.specs.declared.command.EngineSize.{EngineSize}
use Rattle.fries_words.specs.declared.command.Command.{Command}
use Rattle.fries_words.specs.declared.command.Command.TheVariants as command
use Rattle.fries_words.specs.declared.command.First.{First as FirstWords}
use Rattle.fries_words.specs.declared.command.Make.{Make as MakeWords}
use Rattle.fries_words.specs.declared.command.PlanFiles.{PlanFiles}
use Rattle.fries_words.specs.declared.command.ResumeFiles.{ResumeFiles}
use Rattle.fries_words.specs.declared.command.RunFiles.{RunFiles}
use Rattle.fries_words.specs.declared.command.SaveFiles.{SaveFiles}
use Rattle.fries_words.specs.declared.command.VerifyFiles.{VerifyFiles}
use Rattle.fries_words.specs.declared.topic.Topic.{Topic}
use Rattle.tuple_trace.specs.declared.limits.TheConstants.{MAX_CAPACITY, MAX_THREADS}

-- ---- what is asked

-- what `first` is asked to do: the files, the least amount at first, after which row it changes,
-- and the least amount from then on
pub record FirstAsked : Type 0 where
  pub payments : Text
  pub alerts : Text
  pub least : ℤ
  pub after : ℕ
  pub least_after : ℤ

-- what `plan` is asked to do: the job file, the request file, and whether rows and requests are to
-- have one order
pub record PlanAsked : Type 0 where
  pub job : Text
  pub requests : Text
  pub ordered : Bool

-- an engine has 1 to 16 threads, and its lanes hold up to 1 to 64 items
pub record IsSize (size : EngineSize) : Type 0 where
  pub some_threads : 1 ≤ size.threads
  pub few_threads : size.threads ≤ MAX_THREADS
  pub some_items : 1 ≤ size.capacity
  pub few_items : size.capacity ≤ MAX_CAPACITY

-- what `run` is asked to do: the files of `plan`, the payments, the alerts and the audit that it is
-- to write, by how large an engine, and whether the row of each request is to be its border
pub record RunAsked : Type 0 where
  pub plan : PlanAsked
  pub payments : Text
  pub alerts : Text
  pub audit : Text
  pub size : EngineSize
  pub exact : Bool

-- what `make` is asked to do: the job file, the seed, how many rows, by how many threads, and
-- whether rows and requests are to have one order
pub record MakeAsked : Type 0 where
  pub job : Text
  pub seed : ℕ
  pub rows : ℕ
  pub threads : ℕ
  pub ordered : Bool

-- what `save` is asked to do: a run, the savepoint that it is to write, and after how many rows
pub record SaveAsked : Type 0 where
  pub run : RunAsked
  pub save : Text
  pub rows : ℕ

-- what `resume` is asked to do: a run, and the savepoint that it begins with
pub record ResumeAsked : Type 0 where
  pub run : RunAsked
  pub save : Text

-- what `verify` is asked to do: the files of a run, the audit that it is to look at, the alerts
-- that are to be those of the run, if they are named, and which command wrote the audit
pub record VerifyAsked : Type 0 where
  pub plan : PlanAsked
  pub payments : Text
  pub audit : Text
  pub alerts : Option Text
  pub of : AuditOf

-- an engine has 1 to 16 threads
abbrev pub IsThreads : ℕ → Type 0
IsThreads threads = (1 ≤ threads) × (threads ≤ MAX_THREADS)

-- what a command line asks for
pub data Asked : Type 0 where
  First : FirstAsked → Asked
  -- the job file that is to be checked
  Check : Text → Asked
  Plan : PlanAsked → Asked
  Run : RunAsked → Asked
  Make : MakeAsked → Asked
  Save : SaveAsked → Asked
  Resume : ResumeAsked → Asked
  -- a run whose requests are released while rows flow
  Live : RunAsked → Asked
  Verify : VerifyAsked → Asked
  -- to explain the program or a command
  Help : Topic → Asked
  -- to say which version this is
  Version : Asked

-- ---- what a command asks for

-- what a `First` asks for
abbrev pub first_asked : FirstWords → FirstAsked
first_asked first = record {
  payments = first.payments;
  alerts = first.alerts;
  least = first.least;
  after = first.after;
  least_after = first.least_after;
}

-- what the files of `plan` ask for
abbrev pub plan_asked : PlanFiles → PlanAsked
plan_asked files = record { job = files.job; requests = files.requests; ordered = files.ordered }

-- what the files of `run` ask for
abbrev pub run_asked : RunFiles → RunAsked
run_asked files = record {
  plan = plan_asked files.plan;
  payments = files.payments;
  alerts = files.alerts;
  audit = files.audit;
  size = files.size;
  exact = files.exact;
}

-- what a `Make` asks for
abbrev pub make_asked : MakeWords → MakeAsked
make_asked make = record {
  job = make.job;
  seed = make.seed;
  rows = make.rows;
  threads = make.threads;
  ordered = make.ordered;
}

-- what the files of `resume` ask for
abbrev pub resume_asked : ResumeFiles → ResumeAsked
resume_asked files = record { run = run_asked files.run; save = files.save }

-- what the files of `save` ask for
abbrev pub save_asked : SaveFiles → SaveAsked
save_asked files = record { run = run_asked files.run; save = files.save; rows = files.rows }

-- what the files of `verify` ask for
abbrev pub verify_asked : VerifyFiles → VerifyAsked
verify_asked files = record {
  plan = plan_asked files.plan;
  payments = files.payments;
  audit = files.audit;
  alerts = files.alerts;
  of = files.of;
}

-- what a `Command` asks for
abbrev pub asked_by : Command → Asked
asked_by (command.First first) = First (first_asked first)
asked_by (command.Check job) = Check job
asked_by (command.Plan files) = Plan (plan_asked files)
asked_by (command.Run files) = Run (run_asked files)
asked_by (command.Make make) = Make (make_asked make)
asked_by (command.Save files) = Save (save_asked files)
asked_by (command.Resume files) = Resume (resume_asked files)
asked_by (command.Live files) = Live (run_asked files)
asked_by (command.Verify files) = Verify (verify_asked files)
asked_by (command.Help about) = Help about
asked_by command.Version = Version

-- the engine of a command that has one has a size in range
abbrev pub IsSized : Command → Type 0
IsSized (command.Run files) = IsSize files.size
IsSized (command.Make make) = IsThreads make.threads
IsSized (command.Save files) = IsSize files.run.size
IsSized (command.Resume files) = IsSize files.run.size
IsSized (command.Live files) = IsSize files.size
IsSized _ = ⊤

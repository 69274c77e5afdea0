-- What the words of a command line ask for.
use Rattle.std.specs.Prelude.{◌^◌, ◌-◌, ℕ, ℤ, pos, Bool, true, false, List, [], ◌∷◌, ◌||◌, nat_le}
use Rattle.std.specs.Prelude.{Option, None, Some, is_some, option_map, option_and_then, unwrap_or}
use Rattle.std.specs.Prelude.{codes}
use Rattle.std.specs.Prelude.{if◌then◌else◌}
use Rattle.std.specs.Str.{bytes_eq}
use Rattle.tuple_trace.specs.Digits.{at_most, digits_of}
use Rattle.fries_words.specs.Form.{Flag, Form, Text, ValueOption, found_in_words, value_of}
use Rattle.fries_words.specs.declared.command.AuditOf.{AuditOf}
use Rattle.fries_words.specs.declared.command.AuditOf.TheVariants as audit
use Rattle.fries_words.specs.declared.command.EngineSize.{EngineSize}
use Rattle.fries_words.specs.declared.topic.Topic.{Topic}
use Rattle.fries_words.specs.declared.topic.Topic.TheVariants as topic
use Rattle.fries_words.specs.Asked.{Asked, Check, First, FirstAsked, Help, Live, Make, MakeAsked}
use Rattle.fries_words.specs.Asked.{Plan, PlanAsked, Resume, ResumeAsked, Run, RunAsked, Save}
use Rattle.fries_words.specs.Asked.{SaveAsked, Verify, VerifyAsked, Version}
use Rattle.tuple_trace.specs.declared.limits.TheConstants.{MAX_CAPACITY, MAX_THREADS}
use Rattle.tuple_trace.specs.declared.limits.TheConstants.{USUAL_CAPACITY}

-- ---- the forms of the commands

-- the option `--threads`
abbrev pub threads_option : ValueOption
threads_option = record {
  id = codes "threads";
  word = codes "--threads";
  start = codes "--threads=";
}

-- the option `--capacity`
abbrev pub capacity_option : ValueOption
capacity_option = record {
  id = codes "capacity";
  word = codes "--capacity";
  start = codes "--capacity=";
}

-- the option `--save`
abbrev pub save_option : ValueOption
save_option = record { id = codes "save"; word = codes "--save"; start = codes "--save=" }

-- the option `--every`
abbrev pub every_option : ValueOption
every_option = record { id = codes "every"; word = codes "--every"; start = codes "--every=" }

-- the option `--from`
abbrev pub from_option : ValueOption
from_option = record { id = codes "from"; word = codes "--from"; start = codes "--from=" }

-- the flag `--ordered`
abbrev pub ordered_flag : Flag
ordered_flag = record { id = codes "ordered"; word = codes "--ordered" }

-- the flag `--live`
abbrev pub live_flag : Flag
live_flag = record { id = codes "live"; word = codes "--live" }

-- the flag `--stream`
abbrev pub stream_flag : Flag
stream_flag = record { id = codes "stream"; word = codes "--stream" }

-- the flag `--resume`
abbrev pub resume_flag : Flag
resume_flag = record { id = codes "resume"; word = codes "--resume" }

-- the flag `--exact`
abbrev pub exact_flag : Flag
exact_flag = record { id = codes "exact"; word = codes "--exact" }

-- the flag `--progress`
abbrev pub progress_flag : Flag
progress_flag = record { id = codes "progress"; word = codes "--progress" }

-- the full form of the words after a command: what may follow it
abbrev pub form_of : Topic → Form
form_of topic.Program = record { names = []; extra = []; options = []; flags = [] }
form_of topic.First = record {
  names = codes "payments" ∷ codes "alerts" ∷ codes "min" ∷ codes "after" ∷ codes "min2" ∷ [];
  extra = [];
  options = [];
  flags = [];
}
form_of topic.Check = record { names = codes "job" ∷ []; extra = []; options = []; flags = [] }
form_of topic.Plan = record {
  names = codes "job" ∷ codes "requests" ∷ [];
  extra = [];
  options = [];
  flags = ordered_flag ∷ [];
}
form_of topic.Run = record {
  names = codes "job" ∷ codes "requests" ∷ codes "payments" ∷ codes "alerts" ∷ codes "audit" ∷ [];
  extra = [];
  options = threads_option ∷ capacity_option ∷ [];
  flags = ordered_flag ∷ exact_flag ∷ [];
}
form_of topic.Make = record {
  names = codes "job" ∷ codes "seed" ∷ codes "rows" ∷ [];
  extra = [];
  options = threads_option ∷ [];
  flags = ordered_flag ∷ [];
}
form_of topic.Save = record {
  names =
      codes "job" ∷ codes "requests" ∷ codes "payments" ∷ codes "alerts" ∷ codes "audit"
      ∷ codes "save" ∷ codes "rows" ∷ [];
  extra = [];
  options = threads_option ∷ capacity_option ∷ [];
  flags = [];
}
form_of topic.Resume = record {
  names =
      codes "job" ∷ codes "requests" ∷ codes "payments" ∷ codes "save" ∷ codes "alerts"
      ∷ codes "audit" ∷ [];
  extra = [];
  options = threads_option ∷ capacity_option ∷ [];
  flags = [];
}
form_of topic.Live = record {
  names = codes "job" ∷ codes "requests" ∷ codes "payments" ∷ codes "alerts" ∷ codes "audit" ∷ [];
  extra = [];
  options = threads_option ∷ capacity_option ∷ [];
  flags = [];
}
form_of topic.Verify = record {
  names = codes "job" ∷ codes "requests" ∷ codes "payments" ∷ codes "audit" ∷ [];
  extra = codes "alerts" ∷ [];
  options = save_option ∷ [];
  flags = ordered_flag ∷ live_flag ∷ stream_flag ∷ [];
}
form_of topic.Stream = record {
  names = codes "job" ∷ codes "requests" ∷ codes "alerts" ∷ codes "audit" ∷ [];
  extra = [];
  options = threads_option ∷ capacity_option ∷ save_option ∷ every_option ∷ from_option ∷ [];
  flags = ordered_flag ∷ exact_flag ∷ resume_flag ∷ progress_flag ∷ [];
}

-- ---- values

-- the value under each name and option
abbrev pub Values : Type 0
Values = Text → Option Text

-- the value of a name, which every full form has
abbrev pub value_named : Values → Text → Text
value_named values id = unwrap_or (values id) []

-- the number in digits of a name
abbrev pub number_in : Values → ℕ → Text → Option ℕ
number_in values most id = at_most most (digits_of (value_named values id))

-- an amount in cents, in digits
abbrev pub amount_in : Values → Text → Option ℤ
amount_in values id = option_map pos (number_in values (2 ^ 63 - 1) id)

-- a number, if it is at least 1
abbrev pub at_least_1 : ℕ → Option ℕ
at_least_1 number = if nat_le 1 number then Some number else None

-- the number of an option, 1 to so many, or the usual one if the option isn't there
abbrev pub size_in : ℕ → ℕ → Option Text → Option ℕ
size_in usual most None = Some usual
size_in usual most (Some text) = option_and_then at_least_1 (at_most most (digits_of text))

-- the text of a flag says that it is there
abbrev pub is_true : Option Text → Bool
is_true None = false
is_true (Some text) = bytes_eq text (codes "true")

-- how many rows a request waits for at most, and how many come before a savepoint at most
abbrev pub after_max : ℕ
after_max = 1048576

-- two names and three numbers, which are in range
abbrev pub with_numbers : Text → Text → Option ℤ → Option ℕ → Option ℤ → Option FirstAsked
with_numbers payments alerts (Some least) (Some after) (Some least_after) =
    Some (record {
      payments = payments;
      alerts = alerts;
      least = least;
      after = after;
      least_after = least_after;
    })
with_numbers payments alerts None after least_after = None
with_numbers payments alerts (Some least) None least_after = None
with_numbers payments alerts (Some least) (Some after) None = None

-- what the values of `first` ask for
abbrev pub first_in : Values → Option FirstAsked
first_in values =
    with_numbers (value_named values (codes "payments")) (value_named values (codes "alerts"))
    (amount_in values (codes "min"))
    (number_in values after_max (codes "after"))
    (amount_in values (codes "min2"))

-- the files of a plan and its mode: ordered where the flag is there
abbrev pub plan_in : Values → PlanAsked
plan_in values = record {
  job = value_named values (codes "job");
  requests = value_named values (codes "requests");
  ordered = is_true (values (codes "ordered"));
}

-- the size of an engine
abbrev pub engine_of : Option ℕ → Option ℕ → Option EngineSize
engine_of (Some threads) (Some capacity) = Some (record { threads = threads; capacity = capacity })
engine_of None capacity = None
engine_of (Some threads) None = None

-- the size of an engine: one thread and lanes of 16 items, if the options aren't there
abbrev pub engine_in : Values → Option EngineSize
engine_in values = engine_of (size_in 1 MAX_THREADS (values (codes "threads")))
    (size_in USUAL_CAPACITY MAX_CAPACITY (values (codes "capacity")))

-- the files of a run, the last two of which are different words, and whether its borders are exact
abbrev pub run_over : PlanAsked → Bool → Text → Text → Text → EngineSize → Option RunAsked
run_over plan exact payments alerts audit size =
    if bytes_eq alerts audit then None
    else Some (record {
      plan = plan;
      payments = payments;
      alerts = alerts;
      audit = audit;
      size = size;
      exact = exact;
    })

-- the files of a plan that isn't in ordered mode
abbrev pub unordered_in : Values → PlanAsked
unordered_in values = record {
  job = value_named values (codes "job");
  requests = value_named values (codes "requests");
  ordered = false;
}

-- the run of this plan over the files, and of the size, that the values name
abbrev pub run_with : PlanAsked → Values → Option RunAsked
run_with plan values =
    option_and_then (run_over plan (is_true (values (codes "exact")))
    (value_named values (codes "payments")) (value_named values (codes "alerts"))
    (value_named values (codes "audit")))
    (engine_in values)

-- The command that wrote an audit, by `--ordered`, `--live`, `--stream`, whether alerts are named,
-- and the file of `--save`: `resume` from that savepoint, `live`, `stream`, or else `run`. None if
-- two options stand together, but for `--ordered` and `--stream`. Beside `--stream` no alerts are
-- named, since a stream writes them part by part.
abbrev pub audit_by : Bool → Bool → Bool → Bool → Option Text → Option AuditOf
audit_by ordered false false named None = Some audit.Run
audit_by ordered false true false None = Some audit.Stream
audit_by ordered false true true None = None
audit_by false true false named None = Some audit.Live
audit_by false true true named None = None
audit_by true true stream named None = None
audit_by false false false named (Some save) = Some (audit.Resume save)
audit_by false false true named (Some save) = None
audit_by false true stream named (Some save) = None
audit_by true live stream named (Some save) = None

-- the command that wrote the audit of `verify`
abbrev pub audit_in : Values → Option AuditOf
audit_in values =
    audit_by (is_true (values (codes "ordered"))) (is_true (values (codes "live")))
    (is_true (values (codes "stream"))) (is_some (values (codes "alerts")))
    (values (codes "save"))

-- the files of a run, its audit, the file of its alerts if that is named, and which command wrote
-- the audit
abbrev pub verify_in : Values → Option VerifyAsked
verify_in values =
    option_map (λ (of : AuditOf). record {
      plan = plan_in values;
      payments = value_named values (codes "payments");
      audit = value_named values (codes "audit");
      alerts = values (codes "alerts");
      of = of;
    }) (audit_in values)

-- the run writes a file with this name
abbrev pub writes : RunAsked → Text → Bool
writes run name = bytes_eq run.alerts name || bytes_eq run.audit name

-- a run and a savepoint, which is another word than the files that the run writes
abbrev pub resume_with : Text → RunAsked → Option ResumeAsked
resume_with save run = if writes run save then None else Some (record { run = run; save = save })

-- what the values of `resume` ask for
abbrev pub resume_in : Values → Option ResumeAsked
resume_in values =
    option_and_then (resume_with (value_named values (codes "save")))
    (run_with (unordered_in values) values)

-- the run and the savepoint with the number of rows, if that is in range
abbrev pub save_with : Option ResumeAsked → Option ℕ → Option SaveAsked
save_with files None = None
save_with files (Some rows) =
    option_map (λ (of : ResumeAsked). record { run = of.run; save = of.save; rows = rows }) files

-- what the values of `save` ask for
abbrev pub save_in : Values → Option SaveAsked
save_in values = save_with (resume_in values) (number_in values after_max (codes "rows"))

-- a job file and three numbers, which are in range, and the mode
abbrev pub make_with : Text → Option ℕ → Option ℕ → Option ℕ → Bool → Option MakeAsked
make_with job (Some seed) (Some rows) (Some threads) ordered =
    Some (record { job = job; seed = seed; rows = rows; threads = threads; ordered = ordered })
make_with job None rows threads ordered = None
make_with job (Some seed) None threads ordered = None
make_with job (Some seed) (Some rows) None ordered = None

-- what the values of `make` ask for
abbrev pub make_in : Values → Option MakeAsked
make_in values =
    make_with (value_named values (codes "job"))
    (number_in values (2 ^ 64 - 1) (codes "seed"))
    (number_in values (2 ^ 32 - 1) (codes "rows"))
    (size_in 1 MAX_THREADS (values (codes "threads")))
    (is_true (values (codes "ordered")))

-- ---- words

-- `--help` or `-h`
abbrev pub is_help : Text → Bool
is_help word = bytes_eq word (codes "--help") || bytes_eq word (codes "-h")

-- `--version` or `-V`
abbrev pub is_version : Text → Bool
is_version word = bytes_eq word (codes "--version") || bytes_eq word (codes "-V")

-- the command that a word names
abbrev pub topic_of : Text → Option Topic
topic_of word =
    if bytes_eq word (codes "first") then Some topic.First
    else if bytes_eq word (codes "check") then Some topic.Check
    else if bytes_eq word (codes "plan") then Some topic.Plan
    else if bytes_eq word (codes "run") then Some topic.Run
    else if bytes_eq word (codes "make") then Some topic.Make
    else if bytes_eq word (codes "save") then Some topic.Save
    else if bytes_eq word (codes "resume") then Some topic.Resume
    else if bytes_eq word (codes "live") then Some topic.Live
    else if bytes_eq word (codes "verify") then Some topic.Verify
    else if bytes_eq word (codes "stream") then Some topic.Stream
    else None

-- what the values of a command ask for that ends; a stream may not
abbrev pub asked_with : Topic → Values → Option Asked
asked_with topic.Program values = None
asked_with topic.First values = option_map First (first_in values)
asked_with topic.Check values = Some (Check (value_named values (codes "job")))
asked_with topic.Plan values = Some (Plan (plan_in values))
asked_with topic.Run values = option_map Run (run_with (plan_in values) values)
asked_with topic.Make values = option_map Make (make_in values)
asked_with topic.Save values = option_map Save (save_in values)
asked_with topic.Resume values = option_map Resume (resume_in values)
asked_with topic.Live values = option_map Live (run_with (unordered_in values) values)
asked_with topic.Verify values = option_map Verify (verify_in values)
asked_with topic.Stream values = None

-- what the words after a command ask for, if they have its full form
abbrev pub asked_after : Topic → List Text → Option Asked
asked_after about words =
    option_and_then (λ found. asked_with about (value_of found))
    (found_in_words (form_of about) words)

-- the only word asks for help or for the version
abbrev pub asked_alone : Text → Option Asked
asked_alone word =
    if is_help word then Some (Help topic.Program)
    else if is_version word then Some Version
    else None

-- the only word after a command asks for help on it
abbrev pub asks_help : List Text → Bool
asks_help [] = false
asks_help (word ∷ []) = is_help word
asks_help (word ∷ more ∷ words) = false

-- what a first word that names no command asks for, alone
abbrev pub asked_first : Text → List Text → Option Asked
asked_first word [] = asked_alone word
asked_first word (next ∷ words) = None

-- what words ask for that begin with this one
abbrev pub asked_by_word : Option Topic → Text → List Text → Option Asked
asked_by_word (Some about) word words =
    if asks_help words then Some (Help about) else asked_after about words
asked_by_word None word words = asked_first word words

-- What words ask for: a command in its full form, help, or the version. None if they do neither.
abbrev pub asked_of : List Text → Option Asked
asked_of [] = None
asked_of (word ∷ words) = asked_by_word (topic_of word) word words

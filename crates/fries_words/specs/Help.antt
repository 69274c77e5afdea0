-- What is printed to explain the program.
use Rattle.std.specs.Prelude.{◌++◌, codes}
use Rattle.fries_words.specs.Form.{Text}
use Rattle.fries_words.specs.declared.topic.Topic.{Topic}
use Rattle.fries_words.specs.declared.topic.Topic.TheVariants as topic

-- the line that `--version` prints
abbrev pub version_line : Text
version_line = codes "fries 0.2.0\n"

-- the text that `--help` prints: of the program, or of one command
abbrev pub help_of : Topic → Text
help_of topic.Program =
    codes "fries - changes operators of a dataflow while payments flow through it\n"
    ++ codes "\n"
    ++ codes "usage: fries COMMAND NAMES [OPTIONS]\n"
    ++ codes "\n"
    ++ codes "  check JOB                                       prints the sizes of a job\n"
    ++ codes "  plan JOB REQUESTS                               prints what each request changes\n"
    ++ codes "  run JOB REQUESTS PAYMENTS ALERTS AUDIT          runs payments through a job\n"
    ++ codes
    "  live JOB REQUESTS PAYMENTS ALERTS AUDIT         the same, with requests released by lines\n"
    ++ codes
    "  stream JOB REQUESTS ALERTS AUDIT                runs payments as they come, without end\n"
    ++ codes
    "  save JOB REQUESTS PAYMENTS ALERTS AUDIT SAVE N  runs the first payments, saves the counts\n"
    ++ codes
    "  resume JOB REQUESTS PAYMENTS SAVE ALERTS AUDIT  runs the later payments from there\n"
    ++ codes
    "  verify JOB REQUESTS PAYMENTS AUDIT [ALERTS]     looks whether an audit is that of a run\n"
    ++ codes "  make JOB SEED ROWS                              runs rows that are made up\n"
    ++ codes "  first PAYMENTS ALERTS MIN AFTER MIN2            runs the smallest job\n"
    ++ codes "\n"
    ++ codes
    "Options stand anywhere after the command, as two words or one: --threads 2, --threads=2.\n"
    ++ codes "`fries COMMAND --help` explains a command, `fries --version` prints the version.\n"
    ++ codes "\n"
    ++ codes "example: fries check job.toml\n"
help_of topic.First =
    codes "usage: fries first PAYMENTS ALERTS MIN AFTER MIN2\n"
    ++ codes "\n"
    ++ codes "Runs payments through one filter, whose least amount changes on the way.\n"
    ++ codes "\n"
    ++ codes "  PAYMENTS  file to read: payments as CSV\n"
    ++ codes "  ALERTS    file to write: the payments that pass, as CSV\n"
    ++ codes "  MIN       least amount at first, in cents, 0 to 9223372036854775807\n"
    ++ codes "  AFTER     rows before the change, 0 to 1048576\n"
    ++ codes "  MIN2      least amount after the change, in cents, 0 to 9223372036854775807\n"
    ++ codes "\n"
    ++ codes "example: fries first pay.csv alerts.csv 10000 2 5000\n"
help_of topic.Check =
    codes "usage: fries check JOB\n"
    ++ codes "\n"
    ++ codes "Reads a job and prints how many nodes, edges and workers it has, and its weight.\n"
    ++ codes "\n"
    ++ codes "  JOB       file to read: a job as TOML\n"
    ++ codes "\n"
    ++ codes "example: fries check job.toml\n"
help_of topic.Plan =
    codes "usage: fries plan JOB REQUESTS [--ordered]\n"
    ++ codes "\n"
    ++ codes
    "Prints for each request which nodes and edges its change covers, or why it is refused.\n"
    ++ codes "\n"
    ++ codes "  JOB        file to read: a job as TOML\n"
    ++ codes "  REQUESTS   file to read: requests as TOML\n"
    ++ codes
    "  --ordered  plans for one order of all rows and requests; without it, rows alone are whole\n"
    ++ codes "\n"
    ++ codes "example: fries plan job.toml requests.toml\n"
help_of topic.Run =
    codes "usage: fries run JOB REQUESTS PAYMENTS ALERTS AUDIT [OPTIONS]\n"
    ++ codes "\n"
    ++ codes "Runs payments through a job, while requests change its operators.\n"
    ++ codes "\n"
    ++ codes "  JOB           file to read: a job as TOML\n"
    ++ codes "  REQUESTS      file to read: requests as TOML\n"
    ++ codes "  PAYMENTS      file to read: payments as CSV\n"
    ++ codes "  ALERTS        file to write: what comes to the sinks, as CSV\n"
    ++ codes
    "  AUDIT         file to write: what each worker did, as CSV; another word than ALERTS\n"
    ++ codes "  --threads N   threads, 1 to 16; without it, 1\n"
    ++ codes "  --capacity C  items on a lane, 1 to 64; without it, 16\n"
    ++ codes "  --ordered     gives rows and requests one order; without it, rows alone are whole\n"
    ++ codes
    "  --exact       each request takes effect just behind its row; without it, it overtakes rows\n"
    ++ codes "\n"
    ++ codes "example: fries run job.toml requests.toml pay.csv alerts.csv audit.csv --threads 4\n"
help_of topic.Make =
    codes "usage: fries make JOB SEED ROWS [--threads N] [--ordered]\n"
    ++ codes "\n"
    ++ codes "Makes rows from a seed, runs them without requests, and prints the summary alone.\n"
    ++ codes "\n"
    ++ codes "  JOB          file to read: a job as TOML\n"
    ++ codes "  SEED         what the rows are made from, 0 to 18446744073709551615\n"
    ++ codes "  ROWS         rows, 0 to 4294967295; times the weight of the job at most 1048576\n"
    ++ codes "  --threads N  threads, 1 to 16; without it, 1\n"
    ++ codes "  --ordered    gives rows and requests one order; without requests nothing changes\n"
    ++ codes "\n"
    ++ codes "example: fries make job.toml 7 1000\n"
help_of topic.Save =
    codes "usage: fries save JOB REQUESTS PAYMENTS ALERTS AUDIT SAVE N [OPTIONS]\n"
    ++ codes "\n"
    ++ codes "Runs the first N payments, and writes the counts from which `resume` goes on.\n"
    ++ codes "\n"
    ++ codes "  JOB           file to read: a job as TOML\n"
    ++ codes "  REQUESTS      file to read: requests as TOML\n"
    ++ codes "  PAYMENTS      file to read: payments as CSV\n"
    ++ codes "  ALERTS        file to write: what comes to the sinks, as CSV\n"
    ++ codes
    "  AUDIT         file to write: what each worker did, as CSV; another word than ALERTS\n"
    ++ codes
    "  SAVE          file to write: the savepoint, as CSV; another word than ALERTS and AUDIT\n"
    ++ codes "  N             payments before the savepoint, 0 to 1048576; all if there are fewer\n"
    ++ codes "  --threads N   threads, 1 to 16; without it, 1\n"
    ++ codes "  --capacity C  items on a lane, 1 to 64; without it, 16\n"
    ++ codes "\n"
    ++ codes "example: fries save job.toml requests.toml pay.csv alerts.csv audit.csv save.csv 8\n"
help_of topic.Resume =
    codes "usage: fries resume JOB REQUESTS PAYMENTS SAVE ALERTS AUDIT [OPTIONS]\n"
    ++ codes "\n"
    ++ codes "Runs the payments after a savepoint, from the counts that `save` wrote.\n"
    ++ codes "\n"
    ++ codes "  JOB           file to read: a job as TOML\n"
    ++ codes "  REQUESTS      file to read: requests as TOML\n"
    ++ codes "  PAYMENTS      file to read: payments as CSV, with those before the savepoint\n"
    ++ codes
    "  SAVE          file to read: the savepoint, as CSV; another word than ALERTS and AUDIT\n"
    ++ codes "  ALERTS        file to write: what comes to the sinks, as CSV\n"
    ++ codes
    "  AUDIT         file to write: what each worker did, as CSV; another word than ALERTS\n"
    ++ codes "  --threads N   threads, 1 to 16; without it, 1\n"
    ++ codes "  --capacity C  items on a lane, 1 to 64; without it, 16\n"
    ++ codes "\n"
    ++ codes "example: fries resume job.toml requests.toml pay.csv save.csv alerts.csv audit.csv\n"
help_of topic.Live =
    codes "usage: fries live JOB REQUESTS PAYMENTS ALERTS AUDIT [OPTIONS]\n"
    ++ codes "\n"
    ++ codes "Runs payments through a job, while the standard input releases its requests.\n"
    ++ codes "Each line feed there releases the next request. "
    ++ codes "A request is issued once it is released and its\n"
    ++ codes "`after` payments are fed, or without a release after the last payment. "
    ++ codes "It overtakes payments that\n"
    ++ codes "wait, so these may meet the new operators too. "
    ++ codes "The command ends once the input has ended or has\n"
    ++ codes "released all requests.\n"
    ++ codes "\n"
    ++ codes "  JOB           file to read: a job as TOML\n"
    ++ codes "  REQUESTS      file to read: requests as TOML\n"
    ++ codes "  PAYMENTS      file to read: payments as CSV\n"
    ++ codes "  ALERTS        file to write: what comes to the sinks, as CSV\n"
    ++ codes
    "  AUDIT         file to write: what each worker did, as CSV; another word than ALERTS\n"
    ++ codes "  --threads N   threads, 1 to 16; without it, 1\n"
    ++ codes "  --capacity C  items on a lane, 1 to 64; without it, 16\n"
    ++ codes "\n"
    ++ codes "example: fries live job.toml requests.toml pay.csv alerts.csv audit.csv\n"
help_of topic.Verify =
    codes "usage: fries verify JOB REQUESTS PAYMENTS AUDIT [ALERTS] [OPTIONS]\n"
    ++ codes "\n"
    ++ codes "Looks whether an audit is that of a run, "
    ++ codes "and rebuilds the run: then no row met half of a change.\n"
    ++ codes "With ALERTS it looks too whether these are just the alerts of that run.\n"
    ++ codes
    "An option says which command wrote the audit; without one it is `run`. No two options stand\n"
    ++ codes "together, but for --ordered and --stream.\n"
    ++ codes "\n"
    ++ codes "  JOB          file to read: a job as TOML\n"
    ++ codes "  REQUESTS     file to read: requests as TOML\n"
    ++ codes "  PAYMENTS     file to read: payments as CSV\n"
    ++ codes "  AUDIT        file to read: the audit that the command wrote, as CSV\n"
    ++ codes
    "  ALERTS       file to read: the alerts of the same command, as CSV; not beside --stream\n"
    ++ codes "  --ordered    the command had --ordered: it is `run`, or `stream`\n"
    ++ codes "  --live       the audit is that of `live`\n"
    ++ codes "  --stream     the audit is that of `stream`, from its beginning to its end\n"
    ++ codes
    "  --save SAVE  file to read: the savepoint, as CSV; the audit is that of `resume` from there\n"
    ++ codes "\n"
    ++ codes "example: fries verify job.toml requests.toml pay.csv audit.csv alerts.csv\n"
help_of topic.Stream =
    codes "usage: fries stream JOB REQUESTS ALERTS AUDIT [OPTIONS]\n"
    ++ codes "\n"
    ++ codes
    "Runs payments of the standard input through a job as they come, in parts, without end.\n"
    ++ codes
    "A part ends where no more payments are there yet. Then the files have its alerts and audit.\n"
    ++ codes "REQUESTS is read again before each part, so requests may be appended meanwhile.\n"
    ++ codes "\n"
    ++ codes "  JOB           file to read: a job as TOML\n"
    ++ codes "  REQUESTS      file to read: requests as TOML\n"
    ++ codes
    "  ALERTS        file to write: what comes to the sinks, as CSV; it grows with each part\n"
    ++ codes
    "  AUDIT         file to write: what each worker did, as CSV; another word than ALERTS\n"
    ++ codes
    "  --save SAVE   file to write: the savepoint, as CSV; another word than ALERTS and AUDIT\n"
    ++ codes "  --every N     payments between two savepoints, 1 to 1048576; without it, 65536\n"
    ++ codes "  --resume      goes on from the savepoint; without it, both files begin anew\n"
    ++ codes
    "  --from N      first payments that are left out, 0 to 9223372036854775806; without it, 0\n"
    ++ codes "  --threads N   threads, 1 to 16; without it, 1\n"
    ++ codes "  --capacity C  items on a lane, 1 to 64; without it, 16\n"
    ++ codes "  --ordered     gives rows and requests one order; without it, rows alone are whole\n"
    ++ codes
    "  --exact       each request takes effect just behind its row; without it, it overtakes rows\n"
    ++ codes "  --progress    tells on the standard error how far the stream has come\n"
    ++ codes "\n"
    ++ codes "example: fries stream job.toml requests.toml alerts.csv audit.csv --save save.csv\n"

-- What is printed of the things that have a limit.
use Rattle.std.specs.Prelude.{ℕ, List, codes}
use Rattle.jobs.specs.declared.fault.Which.{Which}
use Rattle.jobs.specs.declared.fault.Which.TheVariants as which

-- the name of what has a limit
abbrev pub which_words : Which → List ℕ
which_words which.Nodes = codes "nodes"
which_words which.Edges = codes "edges"
which_words which.Workers = codes "workers"
which_words which.AllWorkers = codes "allworkers"
which_words which.Columns = codes "columns"
which_words which.Text = codes "text"
which_words which.Entries = codes "entries"
which_words which.Conditions = codes "conditions"
which_words which.Steps = codes "steps"
which_words which.Most = codes "most"
which_words which.Roof = codes "roof"
which_words which.Requests = codes "requests"
which_words which.Changes = codes "changes"
which_words which.After = codes "after"

-- What came to the sinks of a run, against what its rows make by themselves.
use Rattle.std.specs.Prelude.{◌≡◌, Bool, false, List, [], ◌∷◌, All, map, count_by, if◌then◌else◌}
use Rattle.std.specs.List.{flat_map}
use Rattle.jobs.specs.Nodes.{is_count, is_sink}
use Rattle.jobs.specs.JobView.{JobView}
use Rattle.jobs.specs.declared.func.NodeDef.{NodeDef}
use Rattle.sink_journal.specs.declared.journal.Entry.{Entry}
use Rattle.tuple_trace.specs.declared.row.Row.{Row}
use Rattle.flow_model.specs.declared.landing.Landing.{Landing}
use Rattle.flow_model.specs.SetupView.{Worker}
use Rattle.flow_model.specs.Alone.{alone, landing, table}
use Rattle.flow_model.specs.Run.{Ran}
use Rattle.flow_model.specs.Whole.{journals_at, met_tuples}
use Rattle.flow_model.specs.Workers.{workers_in}

-- what a worker lands by its journal: a sink's what it met, and any other nothing
abbrev pub landings_by : Worker → List Entry → List Landing
landings_by who journal = if is_sink who.func then map (landing who.node) (met_tuples journal)
    else []

-- what came to the sinks of a run, worker by worker
abbrev pub landings : Ran → List Landing
landings ran = flat_map (λ (who : Worker). flat_map (landings_by who)
    (journals_at ran.journals (who ∷ []))) (workers_in ran.setup.job)

-- what these rows make by themselves, each with the functions that it met in the run
abbrev pub landings_alone : Ran → List Row → List Landing
landings_alone ran rows = flat_map (λ (row : Row). alone ran.setup.job
    (table ran row.tuple.row) row) rows

-- both lists have the same items equally often: of both as many pass any test
abbrev pub AreSameItems : {A : Type 0} → List A → List A → Type 0
AreSameItems {A} xs ys = (test : A → Bool) → count_by test xs ≡ count_by test ys

-- what came to the sinks is what the rows make by themselves, each by one table of functions
abbrev pub IsOneTable : List Row → Ran → Type 0
IsOneTable rows ran = AreSameItems (landings ran) (landings_alone ran rows)

-- no node counts
abbrev pub HasNoCounts : JobView → Type 0
HasNoCounts job = All (λ (def : NodeDef). is_count def.func ≡ false) job.nodes

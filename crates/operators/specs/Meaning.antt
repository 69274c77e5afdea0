-- What a function makes of one tuple. Each operator has a file of its own.
use Rattle.std.specs.Prelude.{List, []}
use Rattle.std.specs.FinMap as finite
use Rattle.tuple_trace.specs.declared.tuple.Tuple.{Tuple}
use Rattle.tuple_trace.specs.declared.tuple.Visit.{Visit}
use Rattle.keyed_state.specs.Counts.{Counts}
use Rattle.jobs.specs.declared.func.Func.{Func}
use Rattle.jobs.specs.declared.func.Func.TheVariants as func
use Rattle.jobs.specs.JobView.{JobView}
use Rattle.operators.specs.declared.output.Output.{Output}
use Rattle.operators.specs.Fields.{text_at}
use Rattle.operators.specs.Map.{mapped}
pub use Rattle.operators.specs.Clamp.{clamped, clamped_number}
pub use Rattle.operators.specs.Count.{count_after, counted}
pub use Rattle.operators.specs.Dedupe.{deduped, met_after}
pub use Rattle.operators.specs.Enrich.{enriched, looked_up}
pub use Rattle.operators.specs.Filter.{filtered}
pub use Rattle.operators.specs.Replicate.{replicated}
pub use Rattle.operators.specs.Sent.{born, sent}
pub use Rattle.operators.specs.Split.{piece_sent, split_up}

-- what a function puts out for a tuple, where the node has these counts
abbrev pub outputs : JobView → Visit → Func → Counts → Tuple → List Output
outputs job visit func.Source counts tuple = []
outputs job visit (func.Filter conds) counts tuple =
    filtered job.columns job.edges visit conds tuple
outputs job visit (func.Map steps) counts tuple = mapped job.columns visit steps tuple
outputs job visit (func.Enrich lookup) counts tuple =
    enriched job.columns job.tables visit lookup tuple
outputs job visit (func.Count count) counts tuple = counted job.columns visit count counts tuple
outputs job visit (func.Dedupe dedupe) counts tuple = deduped job.columns visit dedupe counts tuple
outputs job visit (func.Clamp clamp) counts tuple = clamped job.columns visit clamp tuple
outputs job visit (func.Split split) counts tuple = split_up job.columns visit split tuple
outputs job visit func.Replicate counts tuple = replicated job.edges visit tuple
outputs job visit (func.Sink listed) counts tuple = []

-- the counts of the node afterwards: kinds with a key alone change them
abbrev pub counts_after : JobView → Func → Counts → Tuple → Counts
counts_after job func.Source counts tuple = counts
counts_after job (func.Filter conds) counts tuple = counts
counts_after job (func.Map steps) counts tuple = counts
counts_after job (func.Enrich lookup) counts tuple = counts
counts_after job (func.Count count) counts tuple =
    finite.insert counts (text_at job.columns tuple.fields count.key)
    (count_after job.columns count counts tuple)
counts_after job (func.Dedupe dedupe) counts tuple =
    finite.insert counts (text_at job.columns tuple.fields dedupe.key)
    (met_after job.columns dedupe counts tuple)
counts_after job (func.Clamp clamp) counts tuple = counts
counts_after job (func.Split split) counts tuple = counts
counts_after job func.Replicate counts tuple = counts
counts_after job (func.Sink listed) counts tuple = counts

-- the meaning of a function: of the counts of a node and a tuple that visits it, the counts
-- afterwards, and what is put out
abbrev pub step : JobView → Visit → Func → Counts → Tuple → Counts × List Output
step job visit func counts tuple =
    (counts_after job func counts tuple, outputs job visit func counts tuple)

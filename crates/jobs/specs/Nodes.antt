-- The nodes of a job: what the kinds of their functions say of them.
use Rattle.std.specs.Prelude.{◌+◌, ◌==◌, ◌&&◌, if◌then◌else◌, ℕ, Bool, false, nat_le, List, [], ◌∷◌, Option, Some, None, slice_get, All, IsTrue}
use Rattle.jobs.specs.declared.func.Func.{Func}
use Rattle.jobs.specs.declared.func.Func.TheVariants as func
use Rattle.jobs.specs.declared.func.NodeDef.{NodeDef}
use Rattle.jobs.specs.Kinds.{are_copies, are_free, are_none, are_pieces, are_several, are_sinks, are_sources, row_at}
use Rattle.jobs.specs.JobView.{JobView}
use Rattle.tuple_trace.specs.declared.row.Row.{Row}
use Rattle.jobs.specs.declared.limits.TheConstants.{MAX_PIECES}

-- rows enter at a source
abbrev pub is_source : Func → Bool
is_source func = are_sources (row_at func).role

-- what comes to a node with this function is an alert, and goes no further
abbrev pub is_sink : Func → Bool
is_sink func = are_sinks (row_at func).role

-- the function is a count
abbrev pub is_count : Func → Bool
is_count func = (row_at func).counts

-- the function is a split
abbrev pub is_split : Func → Bool
is_split func = are_pieces (row_at func).shape

-- the function is a replicate
abbrev pub is_replicate : Func → Bool
is_replicate func = are_copies (row_at func).shape

-- the function may make several tuples of one
abbrev pub may_emit : Func → Bool
may_emit func = are_several (row_at func).shape

-- requests leave a node with this function as it is
abbrev pub is_fixed : Func → Bool
is_fixed func = are_none (row_at func).followers

-- the kinds that requests may change into each other at a node that one edge leaves
abbrev pub is_free : Func → Bool
is_free func = are_free (row_at func).followers

-- how many tuples the function may send along an edge for one that it gets: `most` for a split
abbrev pub fan_out : Func → ℕ
fan_out (func.Split split) = split.most
fan_out _ = 1

-- the greatest roof of a node with this function that this number of edges leaves: `MAX_PIECES` if
-- its kind is free, but 1 if two edges leave it, as its kind allows
abbrev pub most_roof : Func → ℕ → ℕ
most_roof func outs =
    if is_free func then (if nat_le 2 (row_at func).most_outs && outs == 2 then 1 else MAX_PIECES)
    else 1

-- there is a node, and it is a source
abbrev pub is_source_node : Option NodeDef → Bool
is_source_node None = false
is_source_node (Some node) = is_source node.func

-- the node with this number is a source
abbrev pub IsSourceOf : JobView → ℕ → Type 0
IsSourceOf job node = IsTrue (is_source_node (slice_get job.nodes node))

-- each row enters by a source of the job
abbrev pub AreFromSources : JobView → List Row → Type 0
AreFromSources job rows = All (λ (row : Row). IsSourceOf job row.source) rows

-- the most workers that a node with this function may have
abbrev pub most_workers : Func → ℕ
most_workers func = (row_at func).most_workers

-- the workers that keep a journal, of a node with this function and this number of workers
abbrev pub workers_with : Func → ℕ → ℕ
workers_with func workers = if is_source func then 0 else workers

-- the workers of a node that keep a journal: the feeder plays a source, so it has none
abbrev pub workers_of : NodeDef → ℕ
workers_of node = workers_with node.func node.workers

-- how many journals these nodes have in all
abbrev pub worker_count : List NodeDef → ℕ
worker_count [] = 0
worker_count (node ∷ nodes) = workers_of node + worker_count nodes

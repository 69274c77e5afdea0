-- What a stream has taken of its file of requests.
use Rattle.std.specs.Prelude.{◌↔◌, ◌++◌, ◌||◌, ℕ, Bool, IsTrue, List, Some, drop, length, slice_get}
use Rattle.flow_dag.specs.Masks.{Has}
use Rattle.jobs.specs.Job.{job_view}
use Rattle.jobs.specs.declared.func.NodeDef.{NodeDef}
use Rattle.versions.specs.Judged.{judged_within}
use Rattle.versions.specs.declared.in_order.Judged.{Judged}
use Rattle.versions.specs.declared.in_order.Refused.{Refused}
use Rattle.versions.specs.declared.request.Request.{Request}
use Rattle.flow_model.specs.Planned.{is_split_node, may_become_split}
use Rattle.stream_step.specs.Pending.{AreAsked}
use Rattle.stream_step.specs.declared.stream.Stream.{Stream}

-- the node may be a split in a stream of the job: the job makes it one, or a request may
abbrev pub may_split : List NodeDef → ℕ → Bool
may_split nodes node =
    is_split_node (slice_get nodes node) || may_become_split (slice_get nodes node)

-- the mask holds exactly these nodes
abbrev pub IsMaskOfNodes : List NodeDef → ℕ → Type 0
IsMaskOfNodes nodes splits = (node : ℕ) → Has splits node ↔ IsTrue (may_split nodes node)

-- how a stream judges these requests: only the nodes of its mask may be splits
abbrev pub judged_in : Stream → List Request → Judged
judged_in stream requests =
    judged_within (Some stream.setup.splits) (job_view stream.setup.job) requests

-- Of the known requests, the stream has all that were accepted: the first were taken into parts,
-- and the others are pending.
abbrev pub IsKnownTo : List Request → Stream → Type 0
IsKnownTo known stream =
    AreAsked (job_view stream.setup.job) stream.setup.judged.accepted stream.pending
    (judged_in stream known).accepted

-- the known requests, and then those of a later reading that come after as many
abbrev pub known_after : List Request → List Request → List Request
known_after known found = known ++ drop (length known) found

-- the requests of `all` that are accepted after those of `known`, with which `all` begins
abbrev pub accepted_after : Stream → List Request → List Request → List Request
accepted_after stream known all =
    drop (length (judged_in stream known).accepted) (judged_in stream all).accepted

-- the requests of `all` that are refused after those of `known`, with which `all` begins
abbrev pub refused_after : Stream → List Request → List Request → List Refused
refused_after stream known all =
    drop (length (judged_in stream known).refused) (judged_in stream all).refused

-- What is true of all outputs.
use Rattle.std.specs.Prelude.{◌≡◌, ◌≢◌, ℕ, ◌<◌, ◌≤◌, ◌⊎◌, false, IsTrue, List, [], ◌∷◌, ◌++◌, length, map, nat_le, Some, slice_get}
use Rattle.flow_dag.specs.declared.edge.Edge.{Edge}
use Rattle.tuple_trace.specs.declared.tuple.Tuple.{Tuple}
use Rattle.tuple_trace.specs.declared.tuple.Visit.{Visit}
use Rattle.keyed_state.specs.Counts.{Counts}
use Rattle.jobs.specs.declared.func.Func.{Func}
use Rattle.jobs.specs.declared.kind.Shape.{Shape}
use Rattle.jobs.specs.declared.kind.Shape.TheVariants as shape
use Rattle.jobs.specs.Kinds.{row_at}
use Rattle.jobs.specs.Nodes.{fan_out, is_count}
use Rattle.jobs.specs.Places.{Each}
use Rattle.jobs.specs.Ports.{are_ports, has_port}
use Rattle.jobs.specs.JobView.{JobView}
use Rattle.operators.specs.declared.output.Output.{Output}
use Rattle.operators.specs.Meaning.{step}
use Rattle.operators.specs.Ports.{most_outputs, out_ports}

-- the births of the output with number k, which leaves by the port: pieces add the number, copies
-- the port, and no other output adds anything
abbrev pub births_as : Shape → List ℕ → ℕ → ℕ → List ℕ
births_as shape.Nothing birth k port = birth
births_as shape.AtMostOne birth k port = birth
births_as shape.Pieces birth k port = birth ++ k ∷ []
births_as shape.Copies birth k port = birth ++ port ∷ []

-- the births of an output of the function
abbrev pub births_of : Func → List ℕ → ℕ → ℕ → List ℕ
births_of func birth k port = births_as (row_at func).shape birth k port

-- the output with number k may leave the node by the port: at most one leaves by port 0, or by port
-- 1 if the kind may have two edges and the node has one there; pieces leave by port 0, up to the
-- function's number; a copy leaves by each edge
abbrev pub MayLeaveAs : Shape → List Edge → ℕ → Func → ℕ → ℕ → Type 0
MayLeaveAs shape.Nothing edges node func k port = ⊥
MayLeaveAs shape.AtMostOne edges node func k port =
    (k ≡ 0)
    × ((port ≡ 0)
    ⊎ ((port ≡ 1) × IsTrue (nat_le 2 (row_at func).most_outs) × IsTrue (has_port edges node 1)))
MayLeaveAs shape.Pieces edges node func k port = (k < fan_out func) × (port ≡ 0)
MayLeaveAs shape.Copies edges node func k port = slice_get (out_ports edges node) k ≡ Some port

-- the output of the function may leave by the port
abbrev pub MayLeaveBy : List Edge → ℕ → Func → ℕ → ℕ → Type 0
MayLeaveBy edges node func k port = MayLeaveAs (row_at func).shape edges node func k port

-- what every output has of the tuple that it was made of
pub record IsMadeOf (edges : List Edge) (visit : Visit) (func : Func) (tuple : Tuple) (k : ℕ)
    (output : Output) : Type 0 where
  pub row : output.tuple.row ≡ tuple.row
  pub issued : output.tuple.issued ≡ tuple.issued
  pub trace : output.tuple.trace ≡ tuple.trace ++ visit ∷ []
  pub birth : output.tuple.birth ≡ births_of func tuple.birth k output.port
  pub port : MayLeaveBy edges visit.node func k output.port

-- every output is made of its tuple, whatever the job, the function and the counts are
abbrev pub OutputsAreMadeOf : Type 0
OutputsAreMadeOf =
    (job : JobView) (visit : Visit) (func : Func) (counts : Counts) (tuple : Tuple)
    → Each (IsMadeOf job.edges visit func tuple) (step job visit func counts tuple).1

-- every function but a count leaves the counts as they are, and puts out the same whatever they are
abbrev pub CountsServeCounts : Type 0
CountsServeCounts =
    (job : JobView) (visit : Visit) (func : Func) (counts other : Counts) (tuple : Tuple)
    → is_count func ≡ false
    → ((step job visit func counts tuple).0 ≡ counts)
    × ((step job visit func counts tuple).1 ≡ (step job visit func other tuple).1)

-- a tuple and an output without what a flow writes on them: the trace, and how many requests had
-- been issued
abbrev pub bare_tuple : Tuple → Tuple
bare_tuple tuple = record tuple { issued = 0; trace = [] }

abbrev pub bare : Output → Output
bare output = record output { tuple = bare_tuple output.tuple }

-- a visit of the same node, at its first worker and before any request
abbrev pub bare_visit : Visit → Visit
bare_visit visit = record visit { worker = 0; last = 0 }

-- ports, rows, births and fields of what is put out depend neither on the worker and the requests,
-- nor on the trace and `issued`
abbrev pub OutputsAreBlind : Type 0
OutputsAreBlind =
    (job : JobView) (visit : Visit) (func : Func) (counts : Counts) (tuple : Tuple)
    → map bare (step job visit func counts tuple).1
    ≡ map bare (step job (bare_visit visit) func counts (bare_tuple tuple)).1

-- where the edges of the node are those of the function's kind, each output leaves by the port of
-- one of them
abbrev pub PortsHaveEdges : Type 0
PortsHaveEdges =
    (job : JobView) (visit : Visit) (func : Func) (counts : Counts) (tuple : Tuple)
    → IsTrue (are_ports job.edges visit.node func)
    → Each (λ k (output : Output). IsTrue (has_port job.edges visit.node output.port))
    (step job visit func counts tuple).1

-- and two outputs for one tuple have different births
abbrev pub OutputsArePeers : Type 0
OutputsArePeers =
    (job : JobView) (visit : Visit) (func : Func) (counts : Counts) (tuple : Tuple) (k l : ℕ)
    (a b : Output)
    → IsTrue (are_ports job.edges visit.node func)
    → slice_get (step job visit func counts tuple).1 k ≡ Some a
    → slice_get (step job visit func counts tuple).1 l ≡ Some b
    → k ≢ l
    → a.tuple.birth ≢ b.tuple.birth

-- no function makes more outputs of one tuple than its kind may
abbrev pub OutputsAreFew : Type 0
OutputsAreFew =
    (job : JobView) (visit : Visit) (func : Func) (counts : Counts) (tuple : Tuple)
    → length (step job visit func counts tuple).1
    ≤ most_outputs func (out_ports job.edges visit.node)

-- The ports of a node, in place of the edges that leave it.
use Rattle.std.proofs.Common.{◌≡◌, ◌∙◌, ℕ, ◌≤◌, ◌==◌, ◌&&◌, ◌||◌, refl, List, [], ◌∷◌, length, map, filter, take, cond, Bool, true, false, arith}
use Rattle.std.specs.Prelude.{if◌then◌else◌, int_le, pos}
use Rattle.std.specs.List.{enumerate_from, list_all, list_any}
use Rattle.std.proofs.lemmas.List.{length-map, length-take}
use Rattle.std.proofs.lemmas.List.FromFn.{length-enumerate_from}
use Rattle.std.proofs.lemmas.Simd.{map-map}
use Rattle.flow_dag.specs.declared.edge.Edge.{Edge}
use Rattle.tuple_trace.specs.declared.tuple.Tuple.{Tuple}
use Rattle.tuple_trace.specs.declared.tuple.Visit.{Visit}
use Rattle.keyed_state.specs.Counts.{Counts}
use Rattle.jobs.specs.declared.column.Column.{Column}
use Rattle.jobs.specs.declared.func.Cond.{Cond}
use Rattle.jobs.specs.declared.func.Func.{Func}
use Rattle.jobs.specs.declared.func.Func.TheVariants as func
use Rattle.jobs.specs.Ports.{has_port, leaves}
use Rattle.jobs.specs.JobView.{JobView}
use Rattle.operators.specs.Conditions.{meets}
use Rattle.operators.specs.Fields.{text_at}
use Rattle.operators.specs.Meaning.{born, filtered, met_after, outputs, piece_sent, replicated, sent}
use Rattle.operators.specs.Pieces.{pieces}
use Rattle.operators.specs.Ports.{most_outputs, out_ports}

-- an edge leaves the node on a port exactly if the port is one of the node's
pub has_port-among : (edges : List Edge) (node port : ℕ) → has_port edges node port ≡ list_any (λ p. p == port) (out_ports edges node)
has_port-among [] node port = refl
has_port-among (e ∷ es) node port = go (leaves node e) (has_port-among es node port)
  where
    go : (b : Bool) → has_port es node port ≡ list_any (λ p. p == port) (out_ports es node) → ((b && e.port == port) || has_port es node port) ≡ list_any (λ p. p == port) (map (λ (d : Edge). d.port) (cond b (e ∷ filter (leaves node) es) (filter (leaves node) es)))
    go true later = rw later refl
    go false later = later

-- a tuple that misses a condition leaves by port 1, if that is one of the node's
pub filtered-out : (columns : List Column) (edges : List Edge) (visit : Visit) (conds : List Cond) (tuple : Tuple) (ports : List ℕ) → ports ≡ out_ports edges visit.node
    → list_all (meets columns tuple.fields) conds ≡ false → list_any (λ p. p == 1) ports ≡ true → sent visit 1 tuple ∷ [] ≡ filtered columns edges visit conds tuple
filtered-out columns edges visit conds tuple ports same missed there =
    let has : has_port edges visit.node 1 ≡ true = has_port-among edges visit.node 1 ∙ rw (← same) there in
    rw (missed, has) refl

-- and else it ends
pub filtered-none : (columns : List Column) (edges : List Edge) (visit : Visit) (conds : List Cond) (tuple : Tuple) (ports : List ℕ) → ports ≡ out_ports edges visit.node
    → list_all (meets columns tuple.fields) conds ≡ false → list_any (λ p. p == 1) ports ≡ false → [] ≡ filtered columns edges visit conds tuple
filtered-none columns edges visit conds tuple ports same missed lacks =
    let has : has_port edges visit.node 1 ≡ false = has_port-among edges visit.node 1 ∙ rw (← same) lacks in
    rw (missed, has) refl

-- copies by the ports of the edges are copies by the edges
pub copies-by_ports : (edges : List Edge) (visit : Visit) (tuple : Tuple) → map (λ port. sent visit port (born port tuple)) (out_ports edges visit.node) ≡ replicated edges visit tuple
copies-by_ports edges visit tuple = map-map (λ port. sent visit port (born port tuple)) (λ (e : Edge). e.port) (filter (leaves visit.node) edges)

filter_few : (visit : Visit) (tuple : Tuple) (p q : Bool) → length (if p then sent visit 0 tuple ∷ [] else (if q then sent visit 1 tuple ∷ [] else [])) ≤ 1
filter_few visit tuple true q = omega arith
filter_few visit tuple false true = omega arith
filter_few visit tuple false false = omega arith

dedupe_few : (visit : Visit) (tuple : Tuple) (first : Bool) → length (if first then sent visit 0 tuple ∷ [] else []) ≤ 1
dedupe_few visit tuple true = omega arith
dedupe_few visit tuple false = omega arith

pub outputs_few : (job : JobView) (visit : Visit) (f : Func) (counts : Counts) (tuple : Tuple) → length (outputs job visit f counts tuple) ≤ most_outputs f (out_ports job.edges visit.node)
outputs_few job visit func.Source counts tuple = omega arith
outputs_few job visit (func.Filter conds) counts tuple = filter_few visit tuple (list_all (meets job.columns tuple.fields) conds) (has_port job.edges visit.node 1)
outputs_few job visit (func.Map steps) counts tuple = omega arith
outputs_few job visit (func.Enrich lookup) counts tuple = omega arith
outputs_few job visit (func.Count count) counts tuple = omega arith
outputs_few job visit (func.Dedupe dedupe) counts tuple = dedupe_few visit tuple (int_le (met_after job.columns dedupe counts tuple) (pos 1))
outputs_few job visit (func.Clamp clamp) counts tuple = omega arith
outputs_few job visit (func.Split split) counts tuple =
    let all = pieces split.by (text_at job.columns tuple.fields split.on) in
    let parts = take split.most all in
    omega (arith, length-map (enumerate_from 0 parts) (piece_sent job.columns visit split.on tuple), length-enumerate_from 0 parts, length-take split.most all)
outputs_few job visit func.Replicate counts tuple =
    let outs = filter (leaves visit.node) job.edges in
    omega (arith, length-map outs (λ (e : Edge). sent visit e.port (born e.port tuple)), length-map outs (λ (e : Edge). e.port))
outputs_few job visit (func.Sink listed) counts tuple = omega arith

-- The text of a savepoint, node by node.
use Rattle.std.proofs.Common.{◌≡◌, ◌∙◌, ◌+◌, ◌++◌, ℕ, zero, suc, List, [], ◌∷◌, Some, refl, sym, ap, arith, length, map, drop, take, flat_map, zip, slice_get}
use Rattle.std.specs.FinMap.{entries}
use Rattle.std.proofs.lemmas.Grind.{flat_map-append}
use Rattle.jobs.specs.Nodes.{workers_of}
use Rattle.jobs.specs.JobView.{JobView}
use Rattle.jobs.specs.declared.func.Func.{Func}
use Rattle.jobs.specs.declared.func.NodeDef.{NodeDef}
use Rattle.keyed_state.specs.Counts.{Counts}
use Rattle.flow_model.specs.SetupView.{Worker}
use Rattle.flow_model.specs.Workers.{node_workers, workers_from}
use Rattle.flow_model.proofs.WorkerListLemmas.{length-node_workers}
use Rattle.savepoint.specs.SaveText.{count_record, count_records, name_of, records_of_worker}
use Rattle.savepoint_file.specs.ByNode.{node_records, nodes_count_records}

abbrev Record : Type 0
Record = List (List ℕ)

zip_none : {A B : Type 0} (xs : List A) (zs : List B) → zs ≡ [] → zip xs zs ≡ []
zip_none [] zs e = refl
zip_none (x ∷ xs) [] e = refl
zip_none (x ∷ xs) (z ∷ zs) e = absurd (cc e)

zip_append : {A B : Type 0} (xs ys : List A) (zs : List B) → zip (xs ++ ys) zs ≡ zip xs zs ++ zip ys (drop (length xs) zs)
zip_append [] ys zs = refl
zip_append (x ∷ xs) ys [] = sym (zip_none ys [] refl)
zip_append (x ∷ xs) ys (z ∷ zs) = ap (λ l. (x, z) ∷ l) (zip_append xs ys zs)

at_node : (job : JobView) (def : NodeDef) (number node : ℕ) (f : Func) (place count : ℕ) (states : List Counts) → slice_get job.nodes node ≡ Some def
    → flat_map (records_of_worker job) (zip (node_workers number node f place count) states) ≡ node_records def.name place (take count states)
at_node job def number node f place zero states is = refl
at_node job def number node f place (suc count) [] is = refl
at_node job def number node f place (suc count) (s ∷ states) is =
    let here : map (count_record (name_of (slice_get job.nodes node)) place) (entries s) ≡ map (count_record def.name place) (entries s)
    = ap (λ o. map (count_record (name_of o) place) (entries s)) is in
    ap (λ (l : List Record). l ++ flat_map (records_of_worker job) (zip (node_workers (number + 1) node f (place + 1) count) states)) here
    ∙ ap (λ (l : List Record). map (count_record def.name place) (entries s) ++ l) (at_node job def (number + 1) node f (place + 1) count states is)

from_node : (job : JobView) (number node : ℕ) (defs : List NodeDef) (states : List Counts) → ((i : ℕ) → slice_get defs i ≡ slice_get job.nodes (node + i))
    → flat_map (records_of_worker job) (zip (workers_from number node defs) states) ≡ nodes_count_records defs states
from_node job number node [] states h = refl
from_node job number node (def ∷ more) states h =
    let own : List Worker = node_workers number node def.func 0 (workers_of def) in
    let others : List Worker = workers_from (number + workers_of def) (node + 1) more in
    let n : length own ≡ workers_of def = length-node_workers number node def.func 0 (workers_of def) in
    let is : slice_get job.nodes node ≡ Some def = ap (slice_get job.nodes) (let e : node ≡ node + 0 = omega arith in e) ∙ sym (h 0) in
    let tail : (i : ℕ) → slice_get more i ≡ slice_get job.nodes ((node + 1) + i)
    = λ i. h (suc i) ∙ ap (slice_get job.nodes) (let e : node + suc i ≡ (node + 1) + i = omega arith in e) in
    ap (flat_map (records_of_worker job)) (zip_append own others states)
    ∙ (flat_map-append (records_of_worker job) (zip own states) (zip others (drop (length own) states))
    ∙ (ap (λ (l : List Record). l ++ flat_map (records_of_worker job) (zip others (drop (length own) states))) (at_node job def number node def.func 0 (workers_of def) states is)
    ∙ ap (λ (l : List Record). node_records def.name 0 (take (workers_of def) states) ++ l)
    (ap (λ (k : ℕ). flat_map (records_of_worker job) (zip others (drop k states))) n ∙ from_node job (number + workers_of def) (node + 1) more (drop (workers_of def) states) tail)))

-- the records that are written node by node are those of the savepoint
pub counts_by_node : (job : JobView) (states : List Counts) → nodes_count_records job.nodes states ≡ count_records job states
counts_by_node job states = sym (from_node job 0 0 job.nodes states (λ i. ap (slice_get job.nodes) (let e : i ≡ 0 + i = omega arith in e)))

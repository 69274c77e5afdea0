-- Sizes that are within their limits.
use Rattle.std.proofs.Common.{◌≡◌, ◌≤◌, ℕ, List, [], ◌∷◌, length, Option, Some, None, All, IfNone, refl, sym, arith}
use Rattle.std.specs.Option.{option_or}
use Rattle.std.proofs.lemmas.Grind.{common_steps}
use Rattle.std.proofs.lemmas.List.Elements.{All-cons, All-head, All-nil, All-tail, All-weaker}
use Rattle.jobs.specs.declared.fault.Which.{Which}
use Rattle.jobs.specs.declared.fault.Which.TheVariants as which
use Rattle.jobs.specs.declared.func.NodeDef.{NodeDef}
use Rattle.flow_dag.specs.declared.edge.Edge.{Edge}
use Rattle.jobs.specs.Limits.{HasLimits, Oversize, entry_count, first_oversize, first_oversize_of, func_oversize, most_roof_of, outside, roof_oversize, table_oversize, workers_oversize}
use Rattle.jobs.specs.Nodes.{fan_out, most_workers, worker_count}
use Rattle.jobs.specs.JobView.{JobView}

pub option_or-none : {A : Type 0} (o p : Option A) → option_or o p ≡ None → (o ≡ None) × (p ≡ None)
option_or-none None p e = (refl, e)
option_or-none (Some x) p e = absurd (cc e)

pub outside-none : (w : Which) (least most n : ℕ) → outside w least most n ≡ None → (least ≤ n) × (n ≤ most)
outside-none w least most n e = (grind (arith, common_steps), grind (arith, common_steps))

pub outside-within : (w : Which) (least most n : ℕ) → least ≤ n → n ≤ most → outside w least most n ≡ None
outside-within w least most n low high = grind (arith, common_steps)

pub first_oversize-none : {A : Type 0} (size : A → Option Oversize) (xs : List A) → first_oversize size xs ≡ None → All (λ x. size x ≡ None) xs
first_oversize-none {A} size [] e = All-nil (λ (x : A). size x ≡ None)
first_oversize-none {A} size (x ∷ xs) e =
    let (head, tail) = option_or-none (size x) (first_oversize size xs) e in
    All-cons (λ (y : A). size y ≡ None) x xs head (first_oversize-none size xs tail)

first_oversize-all : {A : Type 0} (size : A → Option Oversize) (xs : List A) → All (λ x. size x ≡ None) xs → first_oversize size xs ≡ None
first_oversize-all {A} size [] all = refl
first_oversize-all {A} size (x ∷ xs) all =
    rw (All-head (λ (y : A). size y ≡ None) x xs all) (first_oversize-all size xs (All-tail (λ (y : A). size y ≡ None) x xs all))

workers-none : (n : NodeDef) → workers_oversize n ≡ None → (1 ≤ n.workers) × (n.workers ≤ most_workers n.func)
workers-none n e = outside-none which.Workers 1 (most_workers n.func) n.workers e

workers-within : (n : NodeDef) → (1 ≤ n.workers) × (n.workers ≤ most_workers n.func) → workers_oversize n ≡ None
workers-within n (low, high) = outside-within which.Workers 1 (most_workers n.func) n.workers low high

roof-none : (nodes : List NodeDef) (edges : List Edge) (n : NodeDef) → roof_oversize nodes edges n ≡ None
    → (fan_out n.func ≤ n.roof) × (n.roof ≤ most_roof_of nodes edges n)
roof-none nodes edges n e = outside-none which.Roof (fan_out n.func) (most_roof_of nodes edges n) n.roof e

roof-within : (nodes : List NodeDef) (edges : List Edge) (n : NodeDef) → (fan_out n.func ≤ n.roof) × (n.roof ≤ most_roof_of nodes edges n)
    → roof_oversize nodes edges n ≡ None
roof-within nodes edges n (low, high) = outside-within which.Roof (fan_out n.func) (most_roof_of nodes edges n) n.roof low high

HasLimits-from_none : (job : JobView) → first_oversize_of job ≡ None → HasLimits job
HasLimits-from_none job e =
    let (nodes, e1) = option_or-none _ _ e in
    let (edges, e2) = option_or-none _ _ e1 in
    let (columns, e3) = option_or-none _ _ e2 in
    let (workers, e4) = option_or-none _ _ e3 in
    let (all, e5) = option_or-none _ _ e4 in
    let (entries, e6) = option_or-none _ _ e5 in
    let (texts, e7) = option_or-none _ _ e6 in
    let (functions, roofs) = option_or-none _ _ e7 in
    record {
      nodes = outside-none which.Nodes 1 64 (length job.nodes) nodes;
      edges = (outside-none which.Edges 0 128 (length job.edges) edges).1;
      columns = outside-none which.Columns 1 12 (length job.columns) columns;
      workers = All-weaker _ _ workers-none job.nodes (first_oversize-none workers_oversize job.nodes workers);
      all_workers = (outside-none which.AllWorkers 0 64 (worker_count job.nodes) all).1;
      entries = (outside-none which.Entries 0 4096 (entry_count job.tables) entries).1;
      texts = first_oversize-none table_oversize job.tables texts;
      functions = first_oversize-none func_oversize job.nodes functions;
      roofs = All-weaker _ _ (roof-none job.nodes job.edges) job.nodes (first_oversize-none (roof_oversize job.nodes job.edges) job.nodes roofs);
    }

-- a job within its limits has no size that is outside of them
pub first_oversize_of-none : (job : JobView) → HasLimits job → first_oversize_of job ≡ None
first_oversize_of-none job limits =
    rw (outside-within which.Nodes 1 64 (length job.nodes) limits.nodes.0 limits.nodes.1)
    (rw (outside-within which.Edges 0 128 (length job.edges) (omega arith) limits.edges)
    (rw (outside-within which.Columns 1 12 (length job.columns) limits.columns.0 limits.columns.1)
    (rw (first_oversize-all workers_oversize job.nodes (All-weaker _ _ workers-within job.nodes limits.workers))
    (rw (outside-within which.AllWorkers 0 64 (worker_count job.nodes) (omega arith) limits.all_workers)
    (rw (outside-within which.Entries 0 4096 (entry_count job.tables) (omega arith) limits.entries)
    (rw (first_oversize-all table_oversize job.tables limits.texts)
    (rw (first_oversize-all func_oversize job.nodes limits.functions)
    (first_oversize-all (roof_oversize job.nodes job.edges) job.nodes (All-weaker _ _ (roof-within job.nodes job.edges) job.nodes limits.roofs)))))))))

-- where no size is found, all are within their limits
pub IfNone-limits : (job : JobView) (answer : Option Oversize) → answer ≡ first_oversize_of job → IfNone answer (HasLimits job)
IfNone-limits job None is = HasLimits-from_none job (sym is)
IfNone-limits job (Some size) is = tt

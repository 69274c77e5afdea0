-- The names of workers, by their numbers.
use Rattle.std.proofs.Common.{◌≡◌, ◌∙◌, ◌<◌, ◌+◌, ◌^◌, ◌++◌, ℕ, zero, suc, List, [], ◌∷◌, Option, Some, None, refl, sym, ap, ap₂, arith, decimal, length, map, option_map, slice_get}
use Rattle.std.proofs.lemmas.Fmt.{decimal_injective}
use Rattle.std.proofs.lemmas.List.{map-append}
use Rattle.std.proofs.lemmas.Option.{slice_get-map, slice_get_within}
use Rattle.jobs.specs.Law.{IsLawful}
use Rattle.jobs.specs.Nodes.{workers_of}
use Rattle.jobs.specs.JobView.{JobView}
use Rattle.jobs.specs.declared.func.Func.{Func}
use Rattle.jobs.specs.declared.func.NodeDef.{NodeDef}
use Rattle.flow_model.specs.SetupView.{Worker}
use Rattle.flow_model.specs.Workers.{workers_in, node_workers, workers_from}
use Rattle.audit_laws.specs.Names.{Named, named_at, named_workers}
use Rattle.audit_laws.proofs.NamedLemmas.{NameStands, few_workers, name_stands}
use Rattle.audit_laws.proofs.TextLemmas.{length-named}
use Rattle.audit_check.specs.Cells.{NamesWorker, named_as}

abbrev name_at : Option NodeDef → List ℕ
name_at None = []
name_at (Some def) = def.name

abbrev name_by : List NodeDef → Worker → Named
name_by all who = named_as (name_at (slice_get all who.node)) who.place

names_at : (all : List NodeDef) (number node place n : ℕ) (f : Func) (name : List ℕ) → name_at (slice_get all node) ≡ name → named_at name place n ≡ map (name_by all) (node_workers number node f place n)
names_at all number node place zero f name e = refl
names_at all number node place (suc n) f name e =
    ap₂ (λ (x : Named) (xs : List Named). x ∷ xs) (ap (λ m. named_as m place) (sym e)) (names_at all (number + 1) node (place + 1) n f name e)

names_from : (all : List NodeDef) (number node : ℕ) (nodes : List NodeDef) → ((k : ℕ) → slice_get all (node + k) ≡ slice_get nodes k) → named_workers nodes ≡ map (name_by all) (workers_from number node nodes)
names_from all number node [] from = refl
names_from all number node (def ∷ nodes) from =
    let z : node + 0 ≡ node = omega arith in
    let here : name_at (slice_get all node) ≡ def.name = ap (λ n. name_at (slice_get all n)) (sym z) ∙ ap name_at (from 0) in
    ap₂ (λ (a b : List Named). a ++ b) (names_at all number node 0 (workers_of def) def.func def.name here)
    (names_from all (number + workers_of def) (node + 1) nodes (λ k. let e : node + 1 + k ≡ node + suc k = omega arith in ap (slice_get all) e ∙ from (suc k)))
    ∙ sym (map-append (name_by all) (node_workers number node def.func 0 (workers_of def)) (workers_from (number + workers_of def) (node + 1) nodes))

-- the name of a worker
pub worker_name : (job : JobView) (w : ℕ) (who : Worker) (def : NodeDef) → slice_get (workers_in job) w ≡ Some who → slice_get job.nodes who.node ≡ Some def
    → slice_get (named_workers job.nodes) w ≡ Some (named_as def.name who.place)
worker_name job w who def p g =
    let all = names_from job.nodes 0 0 job.nodes (λ k. let e : 0 + k ≡ k = omega arith in ap (slice_get job.nodes) e) in
    ap (λ (l : List Named). slice_get l w) all
    ∙ (slice_get-map (name_by job.nodes) (workers_in job) w
    ∙ (ap (option_map (name_by job.nodes)) p ∙ ap (λ o. Some (named_as (name_at o) who.place)) g))

-- the place of a worker is spelled in 32 bits
pub place_narrow : (job : JobView) → IsLawful job → (w : ℕ) (x : Named) → slice_get (named_workers job.nodes) w ≡ Some x → x.place < 2 ^ 32
place_narrow job law w x g =
    let s : NameStands job.nodes w x = name_stands job.nodes w x g in
    let few = few_workers job law s.at s.def s.there in
    let lt = s.within in
    omega arith

-- a worker that cells name has the name with the number that they spell
pub named_so : (job : JobView) → IsLawful job → (node text : List ℕ) (w place : ℕ) → place < 2 ^ 32 → text ≡ decimal place → NamesWorker job node text w
    → slice_get (named_workers job.nodes) w ≡ Some (named_as node place)
named_so job law node text w place lt spelled (x, there, name, at) =
    let small = place_narrow job law w x there in
    let same : x.place ≡ place = decimal_injective x.place place (omega arith) (omega arith) (at ∙ spelled) in
    there ∙ ap₂ (λ (n : List ℕ) (p : ℕ). Some (named_as n p)) name same

pub names_worker : (job : JobView) (node text : List ℕ) (w place : ℕ) → text ≡ decimal place → slice_get (named_workers job.nodes) w ≡ Some (named_as node place) → NamesWorker job node text w
names_worker job node text w place spelled there = (named_as node place, there, refl, sym spelled)

-- no name stands past the last worker
pub name_within : (job : JobView) (w : ℕ) (x : Named) → slice_get (named_workers job.nodes) w ≡ Some x → w < length (workers_in job)
name_within job w x g = let lt = slice_get_within (named_workers job.nodes) w x g in omega (arith, lt, length-named 0 0 job.nodes)

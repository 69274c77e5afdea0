-- The workers of a job, by their numbers.
use Rattle.std.proofs.Common.{◌≡◌, ◌∙◌, ◌<◌, ◌+◌, ◌==◌, ℕ, zero, suc, List, [], ◌∷◌, ◌++◌, ◌⊎◌, inl, inr, refl, sym, subst, ap, arith, true, false, Bool, length, Some, slice_get, slice_index_or}
use Rattle.std.proofs.lemmas.Bool.{eq-eqb, eqb-true}
use Rattle.std.proofs.lemmas.Option.{get_or_from_slice_get, same_Some, slice_get_within}
use Rattle.std.specs.FinMap.{empty}
use Rattle.sink_journal.specs.declared.journal.Entry.{Entry}
pub use Rattle.jobs.proofs.EdgeLemmas.{item_at}
use Rattle.jobs.specs.Nodes.{is_source, workers_of}
use Rattle.jobs.specs.JobView.{JobView}
use Rattle.jobs.specs.declared.func.Func.{Func}
use Rattle.jobs.specs.declared.func.NodeDef.{NodeDef}
use Rattle.flow_model.specs.SetupView.{SetupView, Worker}
use Rattle.flow_model.specs.Begin.{view_at}
use Rattle.flow_model.specs.Replay.{StateView}
use Rattle.flow_model.specs.Run.{Ran}
use Rattle.flow_model.specs.Workers.{nobody, workers_in, node_workers, workers_from, workers_at_node}
use Rattle.flow_model.proofs.WorkerListLemmas.{get-node_workers, length-node_workers, who_by}
use Rattle.flow_model.proofs.ElementLemmas.{AreDistinct, IsIn, distinct_by_place, distinct_filter, filter_in, in_filter, place_of_in}

-- ---- what a worker is

-- a worker has its number for its place, and stands at a node of the job that isn't a source, with the node's function
pub record IsWorker (job : JobView) (who : Worker) : Type 0 where
  pub there : slice_get (workers_in job) who.number ≡ Some who
  pub def : NodeDef
  pub node_is : slice_get job.nodes who.node ≡ Some def
  pub func_is : who.func ≡ def.func
  pub no_source : is_source def.func ≡ false
  pub place : who.place < workers_of def

node_workers_get : (number node : ℕ) (f : Func) (place left k : ℕ) (who : Worker) → slice_get (node_workers number node f place left) k ≡ Some who
    → (who.number ≡ number + k) × (who.node ≡ node) × (who.place ≡ place + k) × (who.func ≡ f) × (k < left)
node_workers_get number node f place left k who g =
    let lt : k < left = omega (arith, slice_get_within (node_workers number node f place left) k who g, length-node_workers number node f place left) in
    let e : who ≡ who_by (number + k) node f (place + k) = same_Some who (who_by (number + k) node f (place + k)) (sym g ∙ get-node_workers number node f place left k lt) in
    (ap (λ (p : Worker). p.number) e, ap (λ (p : Worker). p.node) e, ap (λ (p : Worker). p.place) e, ap (λ (p : Worker). p.func) e, lt)

-- a place of joined lists is one of the first or of the second
pub get_append : {A : Type 0} (xs ys : List A) (q : ℕ) (x : A) → slice_get (xs ++ ys) q ≡ Some x
    → (slice_get xs q ≡ Some x) ⊎ ((k : ℕ) × (q ≡ length xs + k) × (slice_get ys k ≡ Some x))
get_append [] ys q x h = inr (q, omega arith, h)
get_append (y ∷ xs) ys zero x h = inl h
get_append (y ∷ xs) ys (suc q) x h =
    elim (get_append xs ys q x h) [ inl a ↦ inl a | inr b ↦ let e = b.1 in inr (b.0, omega (arith, e), b.2) ]

no_workers : (def : NodeDef) → is_source def.func ≡ true → workers_of def ≡ 0
no_workers def e = rw e refl

-- every worker but those of a source: as many as the node's definition says
pub all_workers : (def : NodeDef) → is_source def.func ≡ false → workers_of def ≡ def.workers
all_workers def e = rw e refl

-- what stands at a place of the workers of these nodes
pub record StandsAt (number node : ℕ) (nodes : List NodeDef) (k : ℕ) (who : Worker) : Type 0 where
  pub number_is : who.number ≡ number + k
  pub def : NodeDef
  pub at : ℕ
  pub node_is : who.node ≡ node + at
  pub there : slice_get nodes at ≡ Some def
  pub func_is : who.func ≡ def.func
  pub place : who.place < workers_of def

workers_get : (number node : ℕ) (nodes : List NodeDef) (k : ℕ) (who : Worker) → slice_get (workers_from number node nodes) k ≡ Some who → StandsAt number node nodes k who
workers_get number node [] k who g = absurd (cc)
workers_get number node (def ∷ more) k who g =
    elim (get_append (node_workers number node def.func 0 (workers_of def)) (workers_from (number + workers_of def) (node + 1) more) k who g) [
      | inl a ↦
          let r = node_workers_get number node def.func 0 (workers_of def) k who a in
          record { number_is = r.0; def = def; at = 0; node_is = omega (arith, r.1); there = refl; func_is = r.3; place = omega (arith, r.2, r.4) }
      | inr b ↦
          let r : StandsAt (number + workers_of def) (node + 1) more b.0 who = workers_get (number + workers_of def) (node + 1) more b.0 who b.2 in
          let l : length (node_workers number node def.func 0 (workers_of def)) ≡ workers_of def = length-node_workers number node def.func 0 (workers_of def) in
          let q = b.1 in
          record { number_is = omega (arith, r.number_is); def = r.def; at = suc r.at; node_is = omega (arith, r.node_is); there = r.there; func_is = r.func_is; place = r.place }
    ]

-- what stands at a place of the workers is the worker with this number
pub worker_with : (job : JobView) (w : ℕ) (who : Worker) → slice_get (workers_in job) w ≡ Some who → (who.number ≡ w) × IsWorker job who
worker_with job w who g =
    let r : StandsAt 0 0 job.nodes w who = workers_get 0 0 job.nodes w who g in
    let number : who.number ≡ w = omega (arith, r.number_is) in
    let node : who.node ≡ r.at = omega (arith, r.node_is) in (
      number,
      record {
        there = subst (λ k. slice_get (workers_in job) k ≡ Some who) (sym number) g;
        def = r.def;
        node_is = subst (λ k. slice_get job.nodes k ≡ Some r.def) (sym node) r.there;
        func_is = r.func_is;
        no_source = manned r.def r.place;
        place = r.place;
      },
    )
  where
    manned : (def : NodeDef) → who.place < workers_of def → is_source def.func ≡ false
    manned def lt = go (is_source def.func) refl
      where
        go : (b : Bool) → is_source def.func ≡ b → is_source def.func ≡ false
        go true e = let none : workers_of def ≡ 0 = no_workers def e in absurd (omega arith)
        go false e = e

pub in_workers : (job : JobView) (who : Worker) → IsIn who (workers_in job) → IsWorker job who
in_workers job who i = let r = place_of_in who (workers_in job) i in (worker_with job r.0 who r.1).1

-- a worker by its number
pub same_who : (job : JobView) (a b : Worker) → IsIn a (workers_in job) → IsIn b (workers_in job) → a.number ≡ b.number → a ≡ b
same_who job a b i j e =
    let x = (in_workers job a i).there in
    let y : slice_get (workers_in job) a.number ≡ Some b = subst (λ k. slice_get (workers_in job) k ≡ Some b) (sym e) (in_workers job b j).there in
    cc

pub workers_distinct : (job : JobView) → AreDistinct (workers_in job)
workers_distinct job = distinct_by_place (workers_in job) (λ i j who g h. sym (worker_with job i who g).0 ∙ (worker_with job j who h).0)

-- ---- the workers of a node

pub workers_at_node_distinct : (job : JobView) (node : ℕ) → AreDistinct (workers_at_node job node)
workers_at_node_distinct job node = distinct_filter (λ (who : Worker). who.node == node) (workers_in job) (workers_distinct job)

pub in_workers_at_node : (job : JobView) (node : ℕ) (who : Worker) → IsIn who (workers_at_node job node) → IsIn who (workers_in job) × (who.node ≡ node)
in_workers_at_node job node who i =
    let r = in_filter (λ (who : Worker). who.node == node) who (workers_in job) i in
    (r.0, eqb-true who.node node r.1)

pub workers_at_node_in : (job : JobView) (node : ℕ) (who : Worker) → IsIn who (workers_in job) → who.node ≡ node → IsIn who (workers_at_node job node)
workers_at_node_in job node who i e = filter_in (λ (who : Worker). who.node == node) who (workers_in job) i (eq-eqb who.node node e)

-- ---- workers and journals by numbers, where a number that is none's has a worker of nothing and an empty journal

unfoldable pub worker_no : SetupView → ℕ → Worker
worker_no setup w = slice_index_or (workers_in setup.job) w nobody

unfoldable pub journal_of : Ran → ℕ → List Entry
journal_of ran w = slice_index_or ran.journals w []

-- what is in force at a worker at first
abbrev pub begun : SetupView → ℕ → StateView
begun setup w = view_at setup 0 (worker_no setup w) empty

pub who_is : (setup : SetupView) (w : ℕ) (who : Worker) → slice_get (workers_in setup.job) w ≡ Some who → worker_no setup w ≡ who
unfolding worker_no
who_is setup w who g = get_or_from_slice_get (workers_in setup.job) w who nobody g

pub journal_is : (ran : Ran) (w : ℕ) (journal : List Entry) → slice_get ran.journals w ≡ Some journal → journal_of ran w ≡ journal
unfolding journal_of
journal_is ran w journal g = get_or_from_slice_get ran.journals w journal [] g

pub who_there : (setup : SetupView) (w : ℕ) → w < length (workers_in setup.job) → slice_get (workers_in setup.job) w ≡ Some (worker_no setup w)
who_there setup w lt = let r = item_at (workers_in setup.job) w lt in r.1 ∙ ap Some (sym (who_is setup w r.0 r.1))

pub journal_there : (ran : Ran) (w : ℕ) → w < length ran.journals → slice_get ran.journals w ≡ Some (journal_of ran w)
journal_there ran w lt = let r = item_at ran.journals w lt in r.1 ∙ ap Some (sym (journal_is ran w r.0 r.1))

pub worker_is : (setup : SetupView) (w : ℕ) → w < length (workers_in setup.job) → ((worker_no setup w).number ≡ w) × IsWorker setup.job (worker_no setup w)
worker_is setup w lt = worker_with setup.job w (worker_no setup w) (who_there setup w lt)

-- a worker of a node, by its number
pub record Stands (setup : SetupView) (node w : ℕ) : Type 0 where
  pub within : w < length (workers_in setup.job)
  pub node_is : (worker_no setup w).node ≡ node

pub stands_at : (setup : SetupView) (node : ℕ) (who : Worker) → IsIn who (workers_at_node setup.job node) → (worker_no setup who.number ≡ who) × Stands setup node who.number
stands_at setup node who i =
    let r = in_workers_at_node setup.job node who i in
    let is : IsWorker setup.job who = in_workers setup.job who r.0 in
    let e : worker_no setup who.number ≡ who = who_is setup who.number who is.there in
    (e, record { within = slice_get_within (workers_in setup.job) who.number who is.there; node_is = ap (λ (p : Worker). p.node) e ∙ r.1 })

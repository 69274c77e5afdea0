-- Workers by their numbers.
use Rattle.std.proofs.Common.{◌≡◌, ◌<◌, ◌+◌, ◌==◌, ℕ, zero, suc, List, [], ◌∷◌, ◌++◌, true, false, length, take, Some, refl, sym, ap, ◌∙◌, arith, length-append}
use Rattle.std.specs.Prelude.{filter, slice_get, option_map}
use Rattle.std.proofs.lemmas.Bool.{eq-eqb, ne_eqb}
use Rattle.std.proofs.lemmas.List.{append-nil}
use Rattle.std.proofs.lemmas.List.Elements.{filter-append}
use Rattle.jobs.specs.Nodes.{worker_count, workers_of}
use Rattle.jobs.specs.JobView.{JobView}
use Rattle.jobs.specs.declared.func.Func.{Func}
use Rattle.jobs.specs.declared.func.NodeDef.{NodeDef}
use Rattle.flow_model.specs.SetupView.{Worker}
use Rattle.flow_model.specs.Workers.{node_workers, workers_from, workers_at_node}

pub length-node_workers : (number node : ℕ) (func : Func) (place n : ℕ) → length (node_workers number node func place n) ≡ n
length-node_workers number node func place zero = refl
length-node_workers number node func place (suc n) = ap suc (length-node_workers (number + 1) node func (place + 1) n)

pub length-workers_from : (number node : ℕ) (nodes : List NodeDef) → length (workers_from number node nodes) ≡ worker_count nodes
length-workers_from number node [] = refl
length-workers_from number node (def ∷ more) =
    omega (arith, length-append (node_workers number node def.func 0 (workers_of def)) (workers_from (number + workers_of def) (node + 1) more), length-node_workers number node def.func 0 (workers_of def), length-workers_from (number + workers_of def) (node + 1) more)

-- the k-th worker of a node, from a number and a place on
abbrev pub who_by : ℕ → ℕ → Func → ℕ → Worker
who_by number node f place = record { number = number; node = node; place = place; func = f }

pub get-node_workers : (number node : ℕ) (f : Func) (place n k : ℕ) → k < n → slice_get (node_workers number node f place n) k ≡ Some (who_by (number + k) node f (place + k))
get-node_workers number node f place zero k lt = absurd (omega arith)
get-node_workers number node f place (suc n) zero lt =
    let a : number ≡ number + 0 = omega arith in
    let b : place ≡ place + 0 = omega arith in
    ap (λ (m : ℕ). Some (who_by m node f place)) a ∙ ap (λ (m : ℕ). Some (who_by (number + 0) node f m)) b
get-node_workers number node f place (suc n) (suc k) lt =
    let a : number + 1 + k ≡ number + suc k = omega arith in
    let b : place + 1 + k ≡ place + suc k = omega arith in
    get-node_workers (number + 1) node f (place + 1) n k (omega arith)
    ∙ (ap (λ (m : ℕ). Some (who_by m node f (place + 1 + k))) a ∙ ap (λ (m : ℕ). Some (who_by (number + suc k) node f m)) b)

at_node : (number node : ℕ) (func : Func) (place n : ℕ) (rest : List Worker) (w : ℕ) → w < n
    → option_map (λ (p : Worker). p.node) (slice_get (node_workers number node func place n ++ rest) w) ≡ Some node
at_node number node func place zero rest w lt = absurd (omega arith)
at_node number node func place (suc n) rest zero lt = refl
at_node number node func place (suc n) rest (suc w) lt = at_node (number + 1) node func (place + 1) n rest w (omega arith)

past_node : (number node : ℕ) (func : Func) (place n : ℕ) (rest : List Worker) (w v : ℕ) → w ≡ n + v
    → slice_get (node_workers number node func place n ++ rest) w ≡ slice_get rest v
past_node number node func place zero rest w v e = let same : w ≡ v = omega arith in rw same refl
past_node number node func place (suc n) rest zero v e = absurd (omega arith)
past_node number node func place (suc n) rest (suc w) v e = past_node (number + 1) node func (place + 1) n rest w v (omega arith)

-- a number below those of the first node's workers is of that node
pub who-here : (number node : ℕ) (nodes more : List NodeDef) (def : NodeDef) (w : ℕ) → nodes ≡ def ∷ more → w < workers_of def
    → option_map (λ (p : Worker). p.node) (slice_get (workers_from number node nodes) w) ≡ Some node
who-here number node nodes more def w is lt = rw is (at_node number node def.func 0 (workers_of def) (workers_from (number + workers_of def) (node + 1) more) w lt)

-- any other is of a later one
pub who-later : (number node number' : ℕ) (nodes more : List NodeDef) (def : NodeDef) (w v : ℕ) → nodes ≡ def ∷ more → number' ≡ number + workers_of def
    → w ≡ workers_of def + v → slice_get (workers_from number node nodes) w ≡ slice_get (workers_from number' (node + 1) more) v
who-later number node number' nodes more def w v is next e =
    rw (is, next) (past_node number node def.func 0 (workers_of def) (workers_from (number + workers_of def) (node + 1) more) w v e)

pub who-left : (number node number' node' : ℕ) (nodes more : List NodeDef) (def : NodeDef) (w v : ℕ) → nodes ≡ def ∷ more → w ≡ workers_of def + v
    → w < length (workers_from number node nodes) → v < length (workers_from number' node' more)
who-left number node number' node' nodes more def w v is e lt =
    let all : length (workers_from number node nodes) ≡ workers_of def + worker_count more = length-workers_from number node nodes ∙ ap worker_count is in
    omega (arith, all, length-workers_from number' node' more)

-- ---- the workers of a node

others : (number node target : ℕ) (f : Func) (place n : ℕ) → (node ≡ target → ⊥) → filter (λ (who : Worker). who.node == target) (node_workers number node f place n) ≡ []
others number node target f place zero ne = refl
others number node target f place (suc n) ne =
    let no : (node == target) ≡ false = ne_eqb node target ne in
    rw no (others (number + 1) node target f (place + 1) n ne)

same : (number node : ℕ) (f : Func) (place n : ℕ) → filter (λ (who : Worker). who.node == node) (node_workers number node f place n) ≡ node_workers number node f place n
same number node f place zero = refl
same number node f place (suc n) =
    let yes : (node == node) ≡ true = eq-eqb node node refl in
    rw yes (ap (λ (l : List Worker). who_by number node f place ∷ l) (same (number + 1) node f (place + 1) n))

earlier : (number node target : ℕ) (nodes : List NodeDef) → target < node → filter (λ (who : Worker). who.node == target) (workers_from number node nodes) ≡ []
earlier number node target [] lt = refl
earlier number node target (def ∷ more) lt =
    filter-append (λ (who : Worker). who.node == target) (node_workers number node def.func 0 (workers_of def)) (workers_from (number + workers_of def) (node + 1) more)
    ∙ (ap (λ (l : List Worker). l ++ filter (λ (who : Worker). who.node == target) (workers_from (number + workers_of def) (node + 1) more)) (others number node target def.func 0 (workers_of def) (λ e. absurd (omega (arith, e))))
    ∙ earlier (number + workers_of def) (node + 1) target more (omega arith))

posted_at : (number node k target first : ℕ) (nodes : List NodeDef) (def : NodeDef) → target ≡ node + k → first ≡ number + worker_count (take k nodes) → slice_get nodes k ≡ Some def
    → filter (λ (who : Worker). who.node == target) (workers_from number node nodes) ≡ node_workers first target def.func 0 (workers_of def)
posted_at number node k target first [] def e f g = absurd (cc)
posted_at number node zero target first (d ∷ more) def e f g =
    let is : d ≡ def = cc in
    let at : node ≡ target = omega arith in
    let num : number ≡ first = omega arith in
    filter-append (λ (who : Worker). who.node == target) (node_workers number node d.func 0 (workers_of d)) (workers_from (number + workers_of d) (node + 1) more)
    ∙ (ap (λ (l : List Worker). filter (λ (who : Worker). who.node == target) (node_workers number node d.func 0 (workers_of d)) ++ l) (earlier (number + workers_of d) (node + 1) target more (omega arith))
    ∙ (append-nil (filter (λ (who : Worker). who.node == target) (node_workers number node d.func 0 (workers_of d)))
    ∙ (ap (λ (t : ℕ). filter (λ (who : Worker). who.node == t) (node_workers number node d.func 0 (workers_of d))) (sym at)
    ∙ (same number node d.func 0 (workers_of d)
    ∙ (ap (λ (m : ℕ). node_workers m node d.func 0 (workers_of d)) num ∙ (ap (λ (m : ℕ). node_workers first m d.func 0 (workers_of d)) at ∙ ap (λ (x : NodeDef). node_workers first target x.func 0 (workers_of x)) is))))))
posted_at number node (suc k) target first (d ∷ more) def e f g =
    filter-append (λ (who : Worker). who.node == target) (node_workers number node d.func 0 (workers_of d)) (workers_from (number + workers_of d) (node + 1) more)
    ∙ (ap (λ (l : List Worker). l ++ filter (λ (who : Worker). who.node == target) (workers_from (number + workers_of d) (node + 1) more)) (others number node target d.func 0 (workers_of d) (λ q. absurd (omega (arith, q))))
    ∙ posted_at (number + workers_of d) (node + 1) k target first more def (omega arith) (omega arith) g)

-- the workers of a node are those that follow its first one
pub workers_at_node-node : (job : JobView) (node : ℕ) (def : NodeDef) → slice_get job.nodes node ≡ Some def → workers_at_node job node ≡ node_workers (worker_count (take node job.nodes)) node def.func 0 (workers_of def)
workers_at_node-node job node def g = posted_at 0 0 node node (worker_count (take node job.nodes)) job.nodes def (omega arith) (omega arith) g

pub length-workers_at_node : (job : JobView) (node : ℕ) (def : NodeDef) → slice_get job.nodes node ≡ Some def → length (workers_at_node job node) ≡ workers_of def
length-workers_at_node job node def g = ap (length {A = Worker}) (workers_at_node-node job node def g) ∙ length-node_workers (worker_count (take node job.nodes)) node def.func 0 (workers_of def)

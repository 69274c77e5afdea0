-- How the tables of a topology are made, one entry after another.
use Rattle.std.proofs.Common.{◌≡◌, ◌<◌, ◌≤◌, ◌+◌, ◌*◌, ◌^◌, ℕ, zero, suc, List, [], ◌∷◌, ◌++◌, Bool, true, false, cond, length, map, take, drop, get_or, Option, Some, None, refl, sym, ap, ◌∙◌, arith, length-append, append_assoc}
use Rattle.std.specs.Prelude.{filter, option_map, slice_get}
use Rattle.std.specs.List.{enumerate_from, flat_map, range_with_len}
use Rattle.std.proofs.lemmas.List.{append-nil, drop_all, drop_more, length-map, map-append, take_all, take_more}
use Rattle.std.proofs.lemmas.List.Concat.{flat_map-append}
use Rattle.std.proofs.lemmas.List.FromFn.{length-enumerate_from, map-range_with_len_more}
use Rattle.std.proofs.lemmas.Option.{get_or_from_slice_get, slice_get-get_or, slice_get-map, slice_get_within}
use Rattle.flow_dag.specs.declared.edge.Edge.{Edge}
use Rattle.jobs.specs.Law.{IsLawful}
use Rattle.jobs.specs.Nodes.{is_source, is_source_node, workers_of}
use Rattle.jobs.specs.declared.func.Func.{Func}
use Rattle.jobs.specs.declared.func.NodeDef.{NodeDef}
use Rattle.jobs.specs.JobView.{JobView}
use Rattle.flow_model.specs.declared.topology.Lane.{Lane}
use Rattle.flow_model.specs.declared.topology.OutEdge.{OutEdge}
use Rattle.flow_model.specs.declared.topology.WorkerAt.{WorkerAt}
use Rattle.flow_model.specs.Lanes.{lanes_of, senders}
use Rattle.flow_model.specs.SetupView.{Worker}
use Rattle.flow_model.specs.Topology.{first_lane, first_worker, lanes_along, lanes_to, out_edge, worker_of}
use Rattle.flow_model.specs.Workers.{node_workers, workers_from, workers_at_node}
use Rattle.flow_model.proofs.LaneLemmas.{lanes_from}
use Rattle.flow_model.proofs.LaneNumbers.{length-lanes_from}
use Rattle.flow_model.proofs.PieceLemmas.{get-enumerate, length-all_pieces}
use Rattle.flow_model.proofs.WorkerListLemmas.{length-workers_at_node, workers_at_node-node}
use Rattle.flow_model.proofs.WorkerPlaces.{get-workers_at_node}
use Rattle.flow_model.proofs.SizeLemmas.{entered, first_worker-workers, lanes-few}

-- ---- items by their places

-- an item that the code reads
pub item_read : {A : Type 0} (xs ys : List A) (i : ℕ) (x : A) → xs ≡ ys → i < length ys → x ≡ get_or xs i x → slice_get ys i ≡ Some x
item_read xs ys i x same lt is = slice_get-get_or ys i x lt ∙ ap Some (ap (λ l. get_or l i x) (sym same) ∙ sym is)

pub get-take : {A : Type 0} (xs : List A) (n i : ℕ) (x : A) → slice_get (take n xs) i ≡ Some x → slice_get xs i ≡ Some x
get-take [] zero i x e = absurd (cc)
get-take [] (suc n) i x e = absurd (cc)
get-take (y ∷ ys) zero i x e = absurd (cc)
get-take (y ∷ ys) (suc n) zero x e = e
get-take (y ∷ ys) (suc n) (suc i) x e = get-take ys n i x e

pub item_in_front : {A : Type 0} (xs ys : List A) (n i : ℕ) (x : A) → xs ≡ ys → i < length (take n xs) → x ≡ get_or (take n xs) i x → slice_get ys i ≡ Some x
item_in_front xs ys n i x same lt is = ap (λ l. slice_get l i) (sym same) ∙ get-take xs n i x (slice_get-get_or (take n xs) i x lt ∙ ap Some (sym is))

pub drop-at : {A : Type 0} (xs : List A) (i : ℕ) (x : A) → slice_get xs i ≡ Some x → drop i xs ≡ x ∷ drop (i + 1) xs
drop-at xs i x e = drop_more xs i x (slice_get_within xs i x e) ∙ ap (λ y. y ∷ drop (i + 1) xs) (get_or_from_slice_get xs i x x e)

pub take-next : {A : Type 0} (xs : List A) (i : ℕ) (x : A) → slice_get xs i ≡ Some x → take (i + 1) xs ≡ take i xs ++ x ∷ []
take-next xs i x e = take_more xs i x (slice_get_within xs i x e) ∙ ap (λ y. take i xs ++ y ∷ []) (get_or_from_slice_get xs i x x e)

-- ---- a list that grows by what passes a test, of numbered items

pub numbered-skip : {A B : Type 0} (f : ℕ × A → B) (test : ℕ × A → Bool) (xs : List A) (i : ℕ) (x : A) (done all : List B) → slice_get xs i ≡ Some x → test (i, x) ≡ false
    → done ++ map f (filter test (enumerate_from i (drop i xs))) ≡ all → done ++ map f (filter test (enumerate_from (i + 1) (drop (i + 1) xs))) ≡ all
numbered-skip f test xs i x done all e t h =
    ap (λ b. done ++ map f (cond b ((i, x) ∷ filter test (enumerate_from (i + 1) (drop (i + 1) xs))) (filter test (enumerate_from (i + 1) (drop (i + 1) xs))))) (sym t)
    ∙ (ap (λ l. done ++ map f (filter test (enumerate_from i l))) (sym (drop-at xs i x e)) ∙ h)

pub numbered-take : {A B : Type 0} (f : ℕ × A → B) (test : ℕ × A → Bool) (xs : List A) (i : ℕ) (x : A) (done more all : List B) (b : B) → slice_get xs i ≡ Some x → test (i, x) ≡ true
    → b ≡ f (i, x) → more ≡ done ++ b ∷ []
    → done ++ map f (filter test (enumerate_from i (drop i xs))) ≡ all → more ++ map f (filter test (enumerate_from (i + 1) (drop (i + 1) xs))) ≡ all
numbered-take f test xs i x done more all b e t is grown h =
    ap (λ l. l ++ map f (filter test (enumerate_from (i + 1) (drop (i + 1) xs)))) (grown ∙ ap (λ y. done ++ y ∷ []) is)
    ∙ (append_assoc done (f (i, x) ∷ []) (map f (filter test (enumerate_from (i + 1) (drop (i + 1) xs))))
    ∙ (ap (λ b. done ++ map f (cond b ((i, x) ∷ filter test (enumerate_from (i + 1) (drop (i + 1) xs))) (filter test (enumerate_from (i + 1) (drop (i + 1) xs))))) (sym t)
    ∙ (ap (λ l. done ++ map f (filter test (enumerate_from i l))) (sym (drop-at xs i x e)) ∙ h)))

pub numbered-end : {A B : Type 0} (f : ℕ × A → B) (test : ℕ × A → Bool) (xs : List A) (i : ℕ) (done all : List B) → length xs ≤ i
    → done ++ map f (filter test (enumerate_from i (drop i xs))) ≡ all → done ≡ all
numbered-end f test xs i done all le h =
    sym (append-nil done) ∙ (ap (λ l. done ++ map f (filter test (enumerate_from i l))) (sym (drop_all i xs le)) ∙ h)

-- a list that grows by what a function gives at each number
pub pushed-range : {A : Type 0} (f : ℕ → A) (old now new : List A) (n : ℕ) (x : A) → now ≡ old ++ map f (range_with_len 0 n) → new ≡ now ++ x ∷ [] → x ≡ f n
    → new ≡ old ++ map f (range_with_len 0 (n + 1))
pushed-range f old now new n x is grown same =
    grown ∙ (ap (λ l. l ++ x ∷ []) is
    ∙ (append_assoc old (map f (range_with_len 0 n)) (x ∷ [])
    ∙ (ap (λ a. old ++ (map f (range_with_len 0 n) ++ a ∷ [])) same
    ∙ ap (λ l. old ++ l) (sym (map-range_with_len_more f 0 n n (omega arith))))))

pub get-range : {A : Type 0} (f : ℕ → A) (a n i j : ℕ) (y : A) → a + i ≡ j → slice_get (map f (range_with_len a n)) i ≡ Some y → y ≡ f j
get-range f a zero i j y e g = absurd (cc)
get-range f a (suc n) zero j y e g = let same : f a ≡ y = cc in let z : a ≡ j = omega arith in sym same ∙ ap f z
get-range f a (suc n) (suc i) j y e g = get-range f (a + 1) n i j y (omega arith) g

-- ---- workers

pub workers-at : (number node : ℕ) (f : Func) (place n : ℕ) → map worker_of (node_workers number node f place n) ≡ map (λ (p : ℕ). record { node = node; place = p }) (range_with_len place n)
workers-at number node f place zero = refl
workers-at number node f place (suc n) = ap (λ (l : List WorkerAt). record { node = node; place = place } ∷ l) (workers-at (number + 1) node f (place + 1) n)

-- which node and index a worker has doesn't hang on its number
pub workers-from : (a b node : ℕ) (nodes : List NodeDef) → map worker_of (workers_from a node nodes) ≡ map worker_of (workers_from b node nodes)
workers-from a b node [] = refl
workers-from a b node (def ∷ more) =
    map-append worker_of (node_workers a node def.func 0 (workers_of def)) (workers_from (a + workers_of def) (node + 1) more)
    ∙ (ap (λ (l : List WorkerAt). l ++ map worker_of (workers_from (a + workers_of def) (node + 1) more)) (workers-at a node def.func 0 (workers_of def) ∙ sym (workers-at b node def.func 0 (workers_of def)))
    ∙ (ap (λ (l : List WorkerAt). map worker_of (node_workers b node def.func 0 (workers_of def)) ++ l) (workers-from (a + workers_of def) (b + workers_of def) (node + 1) more)
    ∙ sym (map-append worker_of (node_workers b node def.func 0 (workers_of def)) (workers_from (b + workers_of def) (node + 1) more))))

-- the workers of one node more
pub workers-next : (nodes : List NodeDef) (i workers : ℕ) (def : NodeDef) (done more all : List WorkerAt) → slice_get nodes i ≡ Some def → workers ≡ workers_of def
    → more ≡ done ++ map (λ (p : ℕ). record { node = i; place = p }) (range_with_len 0 workers)
    → done ++ map worker_of (workers_from 0 i (drop i nodes)) ≡ all → more ++ map worker_of (workers_from 0 (i + 1) (drop (i + 1) nodes)) ≡ all
workers-next nodes i workers def done more all e w grown h =
    ap (λ (l : List WorkerAt). l ++ map worker_of (workers_from 0 (i + 1) (drop (i + 1) nodes))) (grown ∙ ap (λ (k : ℕ). done ++ map (λ (p : ℕ). record { node = i; place = p }) (range_with_len 0 k)) w)
    ∙ (append_assoc done (map (λ (p : ℕ). record { node = i; place = p }) (range_with_len 0 (workers_of def))) (map worker_of (workers_from 0 (i + 1) (drop (i + 1) nodes)))
    ∙ (ap (λ (l : List WorkerAt). done ++ (l ++ map worker_of (workers_from 0 (i + 1) (drop (i + 1) nodes)))) (sym (workers-at 0 i def.func 0 (workers_of def)))
    ∙ (ap (λ (l : List WorkerAt). done ++ (map worker_of (node_workers 0 i def.func 0 (workers_of def)) ++ l)) (workers-from 0 (0 + workers_of def) (i + 1) (drop (i + 1) nodes))
    ∙ (ap (λ (l : List WorkerAt). done ++ l) (sym (map-append worker_of (node_workers 0 i def.func 0 (workers_of def)) (workers_from (0 + workers_of def) (i + 1) (drop (i + 1) nodes))))
    ∙ (ap (λ (l : List NodeDef). done ++ map worker_of (workers_from 0 i l)) (sym (drop-at nodes i def e)) ∙ h)))))

-- ---- senders

pub length-senders : (job : JobView) (node : ℕ) (def : NodeDef) → slice_get job.nodes node ≡ Some def → is_source def.func ≡ false → length (senders job node) ≡ workers_of def
length-senders job node def e none =
    let t : is_source_node (slice_get job.nodes node) ≡ false = rw e none in
    ap (λ (b : Bool). length (cond b (None ∷ []) (map (λ (who : Worker). Some who.number) (workers_at_node job node)))) t
    ∙ (length-map (workers_at_node job node) (λ (who : Worker). Some who.number) ∙ length-workers_at_node job node def e)

pub length-feeder : (job : JobView) (node : ℕ) (def : NodeDef) → slice_get job.nodes node ≡ Some def → is_source def.func ≡ true → length (senders job node) ≡ 1
length-feeder job node def e is =
    let t : is_source_node (slice_get job.nodes node) ≡ true = rw e is in
    ap (λ (b : Bool). length (cond b (None ∷ []) (map (λ (who : Worker). Some who.number) (workers_at_node job node)))) t

-- ---- edges and their lanes

pub length-lanes_of : (job : JobView) (number : ℕ) (edge : Edge) → length (lanes_of job number edge) ≡ length (senders job edge.from) * length (workers_at_node job edge.to)
length-lanes_of job number edge = length-all_pieces (lanes_from job number edge) (length (workers_at_node job edge.to)) (length-lanes_from job number edge) (senders job edge.from)

pub first_lane-next : (job : JobView) (i : ℕ) (edge : Edge) → slice_get job.edges i ≡ Some edge → first_lane job (i + 1) ≡ first_lane job i + length (senders job edge.from) * length (workers_at_node job edge.to)
first_lane-next job i edge e =
    let at : slice_get (enumerate_from 0 job.edges) i ≡ Some (i, edge) = get-enumerate 0 job.edges i i edge e (omega arith) in
    ap (λ (l : List (ℕ × Edge)). length (flat_map (lanes_along job) l)) (take-next (enumerate_from 0 job.edges) i (i, edge) at)
    ∙ (ap (length {A = Lane}) (flat_map-append (lanes_along job) (take i (enumerate_from 0 job.edges)) ((i, edge) ∷ []))
    ∙ (length-append (flat_map (lanes_along job) (take i (enumerate_from 0 job.edges))) (lanes_of job i edge ++ [])
    ∙ (let a = ap (length {A = Lane}) (append-nil (lanes_of job i edge)) in omega (arith, a, length-lanes_of job i edge))))

front_few : {A B : Type 0} (f : A → List B) (xs : List A) (k : ℕ) → length (flat_map f (take k xs)) ≤ length (flat_map f xs)
front_few f [] zero = omega arith
front_few f [] (suc k) = omega arith
front_few f (x ∷ xs) zero = omega arith
front_few f (x ∷ xs) (suc k) = let r = front_few f xs k in omega (arith, r, length-append (f x) (flat_map f (take k xs)), length-append (f x) (flat_map f xs))

pub first_lane-few : (job : JobView) (i : ℕ) → IsLawful job → first_lane job i < 2 ^ 32
first_lane-few job i law = let a = front_few (lanes_along job) (enumerate_from 0 job.edges) i in let b = lanes-few job law in omega (arith, a, b)

-- the entry of one edge more
pub out_edges-next : (job : JobView) (i : ℕ) (edge : Edge) (out : OutEdge) (done more : List OutEdge) → slice_get job.edges i ≡ Some edge → out ≡ out_edge job (i, edge) → more ≡ done ++ out ∷ []
    → done ≡ map (out_edge job) (take i (enumerate_from 0 job.edges)) → more ≡ map (out_edge job) (take (i + 1) (enumerate_from 0 job.edges))
out_edges-next job i edge out done more e is grown h =
    let at : slice_get (enumerate_from 0 job.edges) i ≡ Some (i, edge) = get-enumerate 0 job.edges i i edge e (omega arith) in
    grown ∙ (ap (λ (l : List OutEdge). l ++ out ∷ []) h
    ∙ (ap (λ (x : OutEdge). map (out_edge job) (take i (enumerate_from 0 job.edges)) ++ x ∷ []) is
    ∙ (sym (map-append (out_edge job) (take i (enumerate_from 0 job.edges)) ((i, edge) ∷ []))
    ∙ ap (map (out_edge job)) (sym (take-next (enumerate_from 0 job.edges) i (i, edge) at)))))

-- ---- lanes

abbrev pub lane_with : ℕ → Option ℕ → ℕ → Lane
lane_with edge sender receiver = record { edge = edge; sender = sender; receiver = receiver }

lanes-at : (edge : ℕ) (sender : Option ℕ) (first number node : ℕ) (f : Func) (place n : ℕ) → number ≡ first + place
    → map (λ (who : Worker). lane_with edge sender who.number) (node_workers number node f place n) ≡ map (λ (p : ℕ). lane_with edge sender (first + p)) (range_with_len place n)
lanes-at edge sender first number node f place zero e = refl
lanes-at edge sender first number node f place (suc n) e =
    ap (λ (l : List Lane). lane_with edge sender number ∷ l) (lanes-at edge sender first (number + 1) node f (place + 1) n (omega arith))
    ∙ ap (λ (w : ℕ). lane_with edge sender w ∷ map (λ (p : ℕ). lane_with edge sender (first + p)) (range_with_len (place + 1) n)) e

-- the lanes from one sender along an edge
pub lanes_to-from : (job : JobView) (number : ℕ) (edge : Edge) (sender : Option ℕ) (first workers : ℕ) → IsLawful job → slice_get job.edges number ≡ Some edge
    → first ≡ first_worker job edge.to → workers ≡ length (workers_at_node job edge.to) → lanes_to number sender first workers ≡ lanes_from job number edge sender
lanes_to-from job number edge sender first workers law e f w =
    let to = entered job number edge law e in
    ap (λ (m : ℕ). lanes_to number sender m workers) f
    ∙ (ap (lanes_to number sender (first_worker job edge.to)) (w ∙ length-workers_at_node job edge.to to.def to.node_is)
    ∙ (sym (lanes-at number sender (first_worker job edge.to) (first_worker job edge.to) edge.to to.def.func 0 (workers_of to.def) (omega arith))
    ∙ ap (map (λ (who : Worker). lane_with number sender who.number)) (sym (workers_at_node-node job edge.to to.def to.node_is))))

-- the lanes of one sender more
pub senders-next : (job : JobView) (number : ℕ) (edge : Edge) (place : ℕ) (sender : Option ℕ) (old now new some : List Lane) → slice_get (senders job edge.from) place ≡ Some sender
    → now ≡ old ++ flat_map (lanes_from job number edge) (take place (senders job edge.from)) → new ≡ now ++ some → some ≡ lanes_from job number edge sender
    → new ≡ old ++ flat_map (lanes_from job number edge) (take (place + 1) (senders job edge.from))
senders-next job number edge place sender old now new some at is grown same =
    let front : List Lane = flat_map (lanes_from job number edge) (take place (senders job edge.from)) in
    grown ∙ (ap (λ (l : List Lane). l ++ some) is
    ∙ (append_assoc old front some
    ∙ ap (λ (l : List Lane). old ++ l) (
    ap (λ (l : List Lane). front ++ l) (same ∙ sym (append-nil (lanes_from job number edge sender)))
    ∙ (sym (flat_map-append (lanes_from job number edge) (take place (senders job edge.from)) (sender ∷ []))
    ∙ ap (flat_map (lanes_from job number edge)) (sym (take-next (senders job edge.from) place sender at))))))

-- the lanes of one edge more
pub lanes-next : (job : JobView) (i : ℕ) (edge : Edge) (done more : List Lane) → slice_get job.edges i ≡ Some edge → more ≡ done ++ lanes_of job i edge
    → done ≡ flat_map (lanes_along job) (take i (enumerate_from 0 job.edges)) → more ≡ flat_map (lanes_along job) (take (i + 1) (enumerate_from 0 job.edges))
lanes-next job i edge done more e grown h =
    let at : slice_get (enumerate_from 0 job.edges) i ≡ Some (i, edge) = get-enumerate 0 job.edges i i edge e (omega arith) in
    let front : List (ℕ × Edge) = take i (enumerate_from 0 job.edges) in
    grown ∙ (ap (λ (l : List Lane). l ++ lanes_of job i edge) h
    ∙ (ap (λ (l : List Lane). flat_map (lanes_along job) front ++ l) (sym (append-nil (lanes_of job i edge)))
    ∙ (sym (flat_map-append (lanes_along job) front ((i, edge) ∷ []))
    ∙ ap (flat_map (lanes_along job)) (sym (take-next (enumerate_from 0 job.edges) i (i, edge) at)))))

-- ---- entries that are made

pub out_edge_at : (job : JobView) (all : List OutEdge) (i : ℕ) (edge : Edge) (d : OutEdge) → all ≡ map (out_edge job) (enumerate_from 0 job.edges) → slice_get job.edges i ≡ Some edge
    → get_or all i d ≡ out_edge job (i, edge)
out_edge_at job all i edge d same e =
    get_or_from_slice_get all i (out_edge job (i, edge)) d
    (ap (λ (l : List OutEdge). slice_get l i) same ∙ (slice_get-map (out_edge job) (enumerate_from 0 job.edges) i
    ∙ ap (option_map (out_edge job)) (get-enumerate 0 job.edges i i edge e (omega arith))))

pub out_edges-long : (job : JobView) (all : List OutEdge) → all ≡ map (out_edge job) (enumerate_from 0 job.edges) → length all ≡ length job.edges
out_edges-long job all same = ap (length {A = OutEdge}) same ∙ (length-map (enumerate_from 0 job.edges) (out_edge job) ∙ length-enumerate_from 0 job.edges)

-- an edge that the code reads
abbrev pub edge_read : List Edge → ℕ → Edge
edge_read edges i = get_or edges i (record { from = 0; port = 0; to = 0 })

pub get-edge_read : (xs edges : List Edge) (i : ℕ) → xs ≡ edges → i < length xs → slice_get edges i ≡ Some (edge_read xs i)
get-edge_read xs edges i same lt = ap (λ (l : List Edge). slice_get l i) (sym same) ∙ slice_get-get_or xs i (record { from = 0; port = 0; to = 0 }) lt

-- what all workers of the node where an edge ends are numbered below
pub workers_fit : (job : JobView) (number : ℕ) (edge : Edge) (first workers : ℕ) → IsLawful job → slice_get job.edges number ≡ Some edge
    → first ≡ first_worker job edge.to → workers ≡ length (workers_at_node job edge.to) → first + workers ≤ 64
workers_fit job number edge first workers law e f w =
    let to = entered job number edge law e in
    let long = length-workers_at_node job edge.to to.def to.node_is in
    omega (arith, first_worker-workers job edge.to to.def law to.node_is, long, f, w)

pub take-all_edges : (edges : List Edge) (i : ℕ) → length edges ≤ i → take i (enumerate_from 0 edges) ≡ enumerate_from 0 edges
take-all_edges edges i le = take_all i (enumerate_from 0 edges) (let l = length-enumerate_from 0 edges in omega (arith, l))

pub lane_grows : (job : JobView) (i : ℕ) (edge : Edge) (lane sends workers : ℕ) → slice_get job.edges i ≡ Some edge → lane ≡ first_lane job i → sends ≡ length (senders job edge.from)
    → workers ≡ length (workers_at_node job edge.to) → lane + sends * workers ≡ first_lane job (i + 1)
lane_grows job i edge lane sends workers e l s w =
    ap (λ (n : ℕ). n + sends * workers) l
    ∙ (ap (λ (n : ℕ). first_lane job i + n * workers) s ∙ (ap (λ (n : ℕ). first_lane job i + length (senders job edge.from) * n) w ∙ sym (first_lane-next job i edge e)))

abbrev pub out_edge_with : ℕ → ℕ → ℕ → ℕ → ℕ → OutEdge
out_edge_with port edge lane worker workers = record { port = port; edge = edge; first_lane = lane; first_receiver = worker; receivers = workers }

pub out_edge_made : (job : JobView) (i : ℕ) (edge : Edge) (lane first workers : ℕ) → lane ≡ first_lane job i → first ≡ first_worker job edge.to → workers ≡ length (workers_at_node job edge.to)
    → out_edge_with edge.port i lane first workers ≡ out_edge job (i, edge)
out_edge_made job i edge lane first workers l f w =
    ap (λ (n : ℕ). out_edge_with edge.port i n first workers) l
    ∙ (ap (λ (n : ℕ). out_edge_with edge.port i (first_lane job i) n workers) f ∙ ap (λ (n : ℕ). out_edge_with edge.port i (first_lane job i) (first_worker job edge.to) n) w)

-- a sender that the code makes
pub sender_made : (job : JobView) (node place first : ℕ) (def : NodeDef) → slice_get job.nodes node ≡ Some def → is_source def.func ≡ false → place < length (senders job node)
    → first ≡ first_worker job node → slice_get (senders job node) place ≡ Some (Some (first + place))
sender_made job node place first def e none lt f =
    let t : is_source_node (slice_get job.nodes node) ≡ false = rw e none in
    let within : place < workers_of def = let l = length-senders job node def e none in omega (arith, lt, l) in
    rw t (slice_get-map (λ (who : Worker). Some who.number) (workers_at_node job node) place
    ∙ (ap (option_map (λ (who : Worker). Some who.number)) (get-workers_at_node job node def place e within)
    ∙ ap (λ (n : ℕ). Some (Some (n + place))) (sym f)))

pub feeder_made : (job : JobView) (node place : ℕ) (def : NodeDef) → slice_get job.nodes node ≡ Some def → is_source def.func ≡ true → place < length (senders job node)
    → slice_get (senders job node) place ≡ Some None
feeder_made job node place def e is lt =
    let t : is_source_node (slice_get job.nodes node) ≡ true = rw e is in
    let zero_is : place ≡ 0 = let l = length-feeder job node def e is in omega (arith, lt, l) in
    ap (slice_get (senders job node)) zero_is ∙ rw t refl

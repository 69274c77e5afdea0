-- What a tuple makes at the sinks: whatever its trace is, and however many nodes more than needed are allowed.
use Rattle.std.proofs.Common.{◌≡◌, ◌∙◌, ◌<◌, ◌≤◌, ◌+◌, ◌++◌, ℕ, zero, suc, List, [], ◌∷◌, inl, inr, refl, sym, ap, ap₂, arith, true, false, Bool, length, map, flat_map, Some, Option, slice_get}
use Rattle.std.specs.FinMap.{empty}
use Rattle.std.specs.List.{enumerate_from}
use Rattle.jobs.specs.Nodes.{is_count, is_sink}
use Rattle.jobs.specs.Ports.{are_ports}
use Rattle.jobs.specs.JobView.{JobView}
use Rattle.jobs.specs.declared.func.Func.{Func}
use Rattle.jobs.specs.declared.func.NodeDef.{NodeDef}
use Rattle.keyed_state.specs.Counts.{Counts}
use Rattle.operators.specs.Laws.{bare, bare_tuple, bare_visit as bare_of}
use Rattle.operators.specs.Meaning.{outputs, step}
use Rattle.operators.specs.declared.output.Output.{Output}
use Rattle.operators.proofs.CountLemmas.{outputs_same}
use Rattle.operators.proofs.EdgeLemmas.{outputs_leave}
use Rattle.operators.proofs.OutputLemmas.{outputs_bare}
use Rattle.sink_journal.specs.declared.journal.Entry.TheVariants as entry
use Rattle.tuple_trace.specs.declared.row.Row.{Row}
use Rattle.tuple_trace.specs.declared.tuple.Tuple.{Tuple}
use Rattle.tuple_trace.specs.declared.tuple.Visit.{Visit}
use Rattle.flow_model.specs.declared.landing.Landing.{Landing}
use Rattle.flow_model.specs.Alone.{bare_visit, landing, lands, onward}
use Rattle.flow_model.specs.Lanes.{first_on}
use Rattle.flow_model.specs.OneTable.{HasNoCounts}
use Rattle.flow_model.specs.Run.{Ran}
use Rattle.flow_model.proofs.ElementLemmas.{IsIn, at_of_all, in_of_place, place_of_in}
use Rattle.flow_model.proofs.WorkerLemmas.{item_at, journal_of, worker_no}
use Rattle.flow_model.proofs.FitLemmas.{HasPortEdge, port_edge}
use Rattle.flow_model.proofs.KindLemmas.{AreAlike}
use Rattle.flow_model.proofs.RunLemmas.{HasWorker, Running}
use Rattle.flow_model.proofs.LineageLemmas.{story_of}
use Rattle.flow_model.proofs.StoryLemmas.{Moment}
use Rattle.flow_model.proofs.SumLemmas.{sum_over}

-- ---- outputs but for what a flow writes on them

-- the outputs for a tuple at a worker are those for one alike at its node, but for what a flow writes on them
pub outputs_alike : (job : JobView) (visit : Visit) (node : ℕ) (f : Func) (counts : Counts) (t u : Tuple) → visit.node ≡ node → is_count f ≡ false → bare_tuple t ≡ bare_tuple u
    → map bare (step job visit f counts t).1 ≡ map bare (step job (bare_visit node) f empty u).1
outputs_alike job visit node f counts t u at none same =
    outputs_bare job visit f counts t
    ∙ (ap (λ (os : List Output). map bare os) (outputs_same job (bare_of visit) f counts empty (bare_tuple t) none)
    ∙ (ap (λ v. map bare (outputs job (bare_visit v) f empty (bare_tuple t))) at
    ∙ (ap (λ (x : Tuple). map bare (outputs job (bare_visit node) f empty x)) same ∙ sym (outputs_bare job (bare_visit node) f empty u))))

-- a sum, or joined lists, over outputs that are alike
pub sum_alike : (F H : Output → ℕ) (os ps : List Output) → map bare os ≡ map bare ps → ((o p : Output) → IsIn o os → bare o ≡ bare p → F o ≡ H p) → sum_over F os ≡ sum_over H ps
sum_alike F H [] [] e h = refl
sum_alike F H [] (p ∷ ps) e h = absurd (cc)
sum_alike F H (o ∷ os) [] e h = absurd (cc)
sum_alike F H (o ∷ os) (p ∷ ps) e h =
    let a : bare o ≡ bare p = cc in
    let b : map bare os ≡ map bare ps = cc in
    omega (arith, h o p (inl refl) a, sum_alike F H os ps b (λ x y i. h x y (inr i)))

pub joined_alike : {A : Type 0} (F H : Output → List A) (os ps : List Output) → map bare os ≡ map bare ps → ((o p : Output) → IsIn o os → bare o ≡ bare p → F o ≡ H p) → flat_map F os ≡ flat_map H ps
joined_alike F H [] [] e h = refl
joined_alike F H [] (p ∷ ps) e h = absurd (cc)
joined_alike F H (o ∷ os) [] e h = absurd (cc)
joined_alike F H (o ∷ os) (p ∷ ps) e h =
    let a : bare o ≡ bare p = cc in
    let b : map bare os ≡ map bare ps = cc in
    ap₂ (λ x y. x ++ y) (h o p (inl refl) a) (joined_alike F H os ps b (λ x y i. h x y (inr i)))

-- ---- one node on

-- what becomes of an output of a node, over at most so many nodes
abbrev pub behind : JobView → (ℕ → Option Func) → ℕ → ℕ → Output → List Landing
behind job table nodes node output = onward (lands job table nodes) (first_on node output.port (enumerate_from 0 job.edges)) output.tuple

pub lands-sink : (job : JobView) (table : ℕ → Option Func) (nodes node : ℕ) (t : Tuple) (f : Func) → table node ≡ Some f → is_sink f ≡ true → lands job table (suc nodes) node t ≡ landing node t ∷ []
lands-sink job table nodes node t f is sink = rw (is, sink) refl

pub lands-outputs : (job : JobView) (table : ℕ → Option Func) (nodes node : ℕ) (t : Tuple) (f : Func) → table node ≡ Some f → is_sink f ≡ false
    → lands job table (suc nodes) node t ≡ flat_map (behind job table nodes node) (step job (bare_visit node) f empty t).1
lands-outputs job table nodes node t f is sink = rw (is, sink) refl

-- ---- the functions of a table

-- a table of functions for each row: each node has one, which goes with what the job gives the node, and what was in force where a tuple of the row
-- was met is the table's
pub record AreTables (ran : Ran) (T : ℕ → ℕ → Option Func) : Type 0 where
  pub gives : (row node : ℕ) (def : NodeDef) → slice_get ran.setup.job.nodes node ≡ Some def → (f : Func) × (T row node ≡ Some f) × AreAlike ran.setup.job.edges node def.func f
  pub in_force :
      (w i l : ℕ) (t : Tuple) (m : Moment) → HasWorker ran w → slice_get (story_of ran w) i ≡ Some m → slice_get (journal_of ran w) i ≡ Some (entry.Met l t)
      → T t.row (worker_no ran.setup w).node ≡ Some m.view.func

-- the function that a table gives a node: its edges are those of its kind, and it is no count where none of the job's is
pub record HasFunc (ran : Ran) (T : ℕ → ℕ → Option Func) (row node : ℕ) : Type 0 where
  pub def : NodeDef
  pub node_is : slice_get ran.setup.job.nodes node ≡ Some def
  pub func : Func
  pub func_is : T row node ≡ Some func
  pub alike : AreAlike ran.setup.job.edges node def.func func
  pub ports : are_ports ran.setup.job.edges node func ≡ true
  pub no_count : is_count func ≡ false

module _ (rows : List Row) (ran : Ran) (g : Running rows ran) (none : HasNoCounts ran.setup.job) (T : ℕ → ℕ → Option Func) (tables : AreTables ran T) where
  pub has_func : (row node : ℕ) → node < length ran.setup.job.nodes → HasFunc ran T row node
  has_func row node lt =
      let d = item_at ran.setup.job.nodes node lt in
      let (f, is, alike) = tables.gives row node d.0 d.1 in
      record {
        def = d.0;
        node_is = d.1;
        func = f;
        func_is = is;
        alike = alike;
        ports = alike.ports (g.connected.ports node d.0 d.1);
        no_count = alike.count ∙ at_of_all (λ (def : NodeDef). is_count def.func ≡ false) d.0 ran.setup.job.nodes none (in_of_place d.0 ran.setup.job.nodes node d.1);
      }

  -- the edge of an output's port
  pub output_edge : (visit : Visit) (f : Func) (counts : Counts) (t : Tuple) (o : Output) → are_ports ran.setup.job.edges visit.node f ≡ true → IsIn o (step ran.setup.job visit f counts t).1
      → HasPortEdge ran.setup.job.edges visit.node o.port 0
  output_edge visit f counts t o ports i =
      let k = place_of_in o (step ran.setup.job visit f counts t).1 i in
      port_edge ran.setup.job.edges visit.node o.port 0 (outputs_leave ran.setup.job visit f counts t ports k.0 o k.1)

  -- what an edge leads to is a node of higher rank
  pub edge_up : (node port : ℕ) (e : HasPortEdge ran.setup.job.edges node port 0) → (g.connected.rank node < g.connected.rank e.edge.to) × (e.edge.to < length ran.setup.job.nodes)
  edge_up node port e =
      let lt : g.connected.rank e.edge.from < g.connected.rank e.edge.to = g.connected.forward e.at e.edge e.edge_is in
      let a : g.connected.rank e.edge.from ≡ g.connected.rank node = ap g.connected.rank e.from in
      (omega arith, (g.connected.ends e.at e.edge e.edge_is).1)

  -- ---- the same landings

  landing_alike : (node : ℕ) (t u : Tuple) → bare_tuple t ≡ bare_tuple u → landing node t ≡ landing node u
  landing_alike node t u a =
      let row : t.row ≡ u.row = ap (λ (x : Tuple). x.row) a in
      let fields : t.fields ≡ u.fields = ap (λ (x : Tuple). x.fields) a in
      λ i. record { sink = node; row = row i; fields = fields i }

  pub lands_same : (row k n node : ℕ) (t u : Tuple) → bare_tuple t ≡ bare_tuple u → node < length ran.setup.job.nodes → length ran.setup.job.nodes ≤ k + g.connected.rank node
      → length ran.setup.job.nodes ≤ n + g.connected.rank node → lands ran.setup.job (T row) k node t ≡ lands ran.setup.job (T row) n node u
  lands_same row zero n node t u a lt p q = let l = g.connected.below node lt in absurd (omega arith)
  lands_same row (suc k) zero node t u a lt p q = let l = g.connected.below node lt in absurd (omega arith)
  lands_same row (suc k) (suc n) node t u a lt p q =
      go (has_func row node lt) (λ e o p' up lt' same. lands_same row k n e o p' same lt' (omega arith) (omega arith))
    where
      go : HasFunc ran T row node
          → ((to : ℕ) (o p : Tuple) → g.connected.rank node < g.connected.rank to → to < length ran.setup.job.nodes → bare_tuple o ≡ bare_tuple p
          → lands ran.setup.job (T row) k to o ≡ lands ran.setup.job (T row) n to p)
          → lands ran.setup.job (T row) (suc k) node t ≡ lands ran.setup.job (T row) (suc n) node u
      go h later = by_kind (is_sink h.func) refl
        where
          onward_same : (o p : Output) → IsIn o (step ran.setup.job (bare_visit node) h.func empty t).1 → bare o ≡ bare p
              → behind ran.setup.job (T row) k node o ≡ behind ran.setup.job (T row) n node p
          onward_same o p i b =
              let e : HasPortEdge ran.setup.job.edges node o.port 0 = output_edge (bare_visit node) h.func empty t o h.ports i in
              let up = edge_up node o.port e in
              let port : o.port ≡ p.port = ap (λ (x : Output). x.port) b in
              ap (λ f. onward (lands ran.setup.job (T row) k) f o.tuple) e.found
              ∙ (later e.edge.to o.tuple p.tuple up.0 up.1 (ap (λ (x : Output). x.tuple) b)
              ∙ ap (λ f. onward (lands ran.setup.job (T row) n) f p.tuple) (sym (ap (λ x. first_on node x (enumerate_from 0 ran.setup.job.edges)) (sym port) ∙ e.found)))

          by_kind : (b : Bool) → is_sink h.func ≡ b
              → lands ran.setup.job (T row) (suc k) node t ≡ lands ran.setup.job (T row) (suc n) node u
          by_kind true s =
              lands-sink ran.setup.job (T row) k node t h.func h.func_is s
              ∙ (ap (λ (l : Landing). l ∷ []) (landing_alike node t u a)
              ∙ sym (lands-sink ran.setup.job (T row) n node u h.func h.func_is s))
          by_kind false s =
              lands-outputs ran.setup.job (T row) k node t h.func h.func_is s
              ∙ (joined_alike (behind ran.setup.job (T row) k node) (behind ran.setup.job (T row) n node)
              (step ran.setup.job (bare_visit node) h.func empty t).1
              (step ran.setup.job (bare_visit node) h.func empty u).1
              (outputs_alike ran.setup.job (bare_visit node) node h.func empty t u refl h.no_count a) onward_same
              ∙ sym (lands-outputs ran.setup.job (T row) n node u h.func h.func_is s))

-- In a run from a beginning on each row is whole at each request.
use Rattle.std.proofs.Common.{◌≡◌, ◌∙◌, ◌≢◌, ◌<◌, ◌≤◌, ◌+◌, ◌-◌, ℕ, zero, suc, List, [], ◌∷◌, ◌⊎◌, inl, inr, refl, sym, subst, ap, arith, true, false, Bool, length, Option, None, Some, slice_get}
use Rattle.flow_dag.specs.Edges.{HasEdge}
use Rattle.flow_dag.specs.Paths.{IsOrReaches, Reaches}
use Rattle.flow_dag.proofs.PathLemmas.{IsOrReaches-edge, IsOrReaches-here, IsOrReaches-trans, Reaches-from_steps}
use Rattle.jobs.specs.declared.func.Func.{Func}
use Rattle.sink_journal.specs.declared.journal.Entry.{Entry}
use Rattle.sink_journal.specs.declared.journal.Entry.TheVariants as entry
use Rattle.tuple_trace.specs.declared.row.Row.{Row}
use Rattle.versions.specs.declared.request.Change.{Change}
use Rattle.tuple_trace.specs.declared.tuple.Tuple.{Tuple}
use Rattle.jobs.specs.Ports.{are_ports}
use Rattle.flow_dag.specs.declared.edge.Edge.{Edge}
use Rattle.flow_model.specs.Begin.{Begin}
use Rattle.flow_model.specs.Covers.{asks, covers}
use Rattle.flow_model.specs.Lanes.{lane_of}
use Rattle.flow_model.proofs.JobLemmas.{one_edge_to}
use Rattle.flow_model.proofs.LaneLemmas.{LaneIs, lane_by_port, lane_is}
use Rattle.flow_model.specs.SetupView.{SetupView, Worker}
use Rattle.flow_model.specs.Planned.{copies_at, splits_at}
use Rattle.flow_model.specs.Replay.{Put, visit_at}
use Rattle.flow_model.specs.Duties.{dues_after, numbers_from}
use Rattle.flow_model.specs.Requests.{change_by, changes, func_after, func_with}
use Rattle.flow_model.specs.Run.{Ran}
use Rattle.flow_model.specs.Whole.{IsOneSided, IsWhole, after_turn, any_after, any_before, asked_workers, before_turn, changed_workers, journals_at, meets_row}
use Rattle.flow_model.specs.Workers.{workers_in}
use Rattle.flow_model.proofs.ElementLemmas.{IsIn, any_in, before_first, filter_in, filter_map_in, in_filter, in_filter_map}
use Rattle.flow_model.proofs.WorkerLemmas.{IsWorker, in_workers, in_workers_at_node, journal_of, who_is, worker_no, worker_is}
use Rattle.flow_model.proofs.MarkerLemmas.{turned_is_due}
use Rattle.flow_model.proofs.PlannedLemmas.{covers_within, dues_rise, numbers_in}
use Rattle.flow_model.proofs.SendingLemmas.{made}
use Rattle.flow_model.proofs.StoryLemmas.{Moment, rising_in}
use Rattle.flow_model.proofs.AgreementLemmas.{HasAgreed, IsNew, IsOld}
use Rattle.flow_model.proofs.KindLemmas.{AreAlike, ArePieces, IsGiven, alike_given, copies_given, copies_part, emits_cases, given_then, pieces_of, splits_given}
use Rattle.flow_model.proofs.LineageLemmas.{Address, Meets, Passed, meets_one}
use Rattle.flow_model.proofs.RunLemmas.{HasWorker}
use Rattle.flow_model.proofs.TurnLemmas.{Early, Late, found_early, found_late, turns}
use Rattle.flow_model.proofs.WholeLemmas.{IsAsked, asked_journal, fewer_pass}
use Rattle.flow_laws.proofs.LineageLemmas.{Born, Child, IsChain, Parted, ShareRoot, born, parted, passed, share_root, story_of, visit_of}
use Rattle.flow_laws.proofs.RootLemmas.{Rooted, one_root, rooted}
use Rattle.flow_laws.proofs.RunLemmas.{RunningFrom, all_agree, begun_from, duties_from, execution, finished, rise_from, start_from}
use Rattle.std.proofs.lemmas.Option.{same_Some}

-- ---- chains lead along edges

pub chain_reaches : (begin : Begin) (ran : Ran) (p c : Address) (chain : List Address) → IsChain begin ran p chain c
    → IsOrReaches (HasEdge ran.setup.job.edges) (worker_no ran.setup p.worker).node (worker_no ran.setup c.worker).node
chain_reaches begin ran p c [] h =
    IsOrReaches-here (HasEdge ran.setup.job.edges) (worker_no ran.setup p.worker).node (worker_no ran.setup c.worker).node (ap (λ (x : Address). (worker_no ran.setup x.worker).node) h)
chain_reaches begin ran p c (a ∷ chain) h =
    IsOrReaches-trans (HasEdge ran.setup.job.edges) (worker_no ran.setup p.worker).node (worker_no ran.setup a.worker).node (worker_no ran.setup c.worker).node
    (IsOrReaches-edge (HasEdge ran.setup.job.edges) (worker_no ran.setup p.worker).node (worker_no ran.setup a.worker).node h.0.edge) (chain_reaches begin ran a c chain h.1)

-- ---- where two entries parted

-- An entry that meets a tuple of a row, with what was in force.
pub record Meeting (begin : Begin) (ran : Ran) (row : ℕ) (c : Address) : Type 0 where
  pub tuple : Tuple
  pub meets : Meets ran c tuple
  pub is_row : tuple.row ≡ row
  pub moment : Moment
  pub there : slice_get (story_of begin ran c.worker) c.entry ≡ Some moment
  pub within : HasWorker ran c.worker

-- two children of an entry are pieces that its function made: those of a split, or copies that went to two nodes
pub record HasParted (begin : Begin) (ran : Ran) (p a b : Address) (k : Parted begin ran p a b) : Type 0 where
  pub tuple : Tuple
  pub func : Func
  pub pieces : ArePieces func tuple.birth k.first.tuple.birth k.second.tuple.birth
  pub source :
      (splits_at ran.setup.job.nodes ran.setup.requests (worker_no ran.setup p.worker).node ≡ true)
      ⊎ ((copies_at ran.setup.job.nodes (worker_no ran.setup p.worker).node ≡ true) × ((worker_no ran.setup a.worker).node ≢ (worker_no ran.setup b.worker).node))

-- the edge along which a child came
along : (begin : Begin) (ran : Ran) (p a : Address) (k : Child begin ran p a) (x : Born begin ran p a k)
    → (edge : Edge) × (slice_get ran.setup.job.edges k.lane.edge ≡ Some edge) × (edge.from ≡ (worker_no ran.setup p.worker).node) × (edge.port ≡ x.out.port) × (edge.to ≡ (worker_no ran.setup a.worker).node)
along begin ran p a k x =
    let who : Worker = worker_no ran.setup p.worker in
    let lane : lane_of ran.setup.job (Some who.number) who.node x.out.port x.out.tuple ≡ Some k.lane = sym (ap (λ (p : Put). p.lane) x.put_so) ∙ k.on in
    let (edge, there, from, port) = lane_by_port ran.setup.job (Some who.number) who.node x.out.port x.out.tuple k.lane lane in
    let is : LaneIs ran.setup.job k.lane = lane_is ran.setup.job k.n k.lane k.numbered in
    let same : is.edge ≡ edge = same_Some is.edge edge (sym is.edge_is ∙ there) in
    let into = in_workers_at_node ran.setup.job is.edge.to is.to is.receives in
    let w : IsWorker ran.setup.job is.to = in_workers ran.setup.job is.to into.0 in
    let number : is.to.number ≡ a.worker = sym is.receiver ∙ k.receiver in
    let stands : worker_no ran.setup a.worker ≡ is.to = who_is ran.setup a.worker is.to (subst (λ n. slice_get (workers_in ran.setup.job) n ≡ Some is.to) number w.there) in
    (edge, there, from, port, sym (ap (λ (e : Edge). e.to) same) ∙ (sym into.1 ∙ sym (ap (λ (p : Worker). p.node) stands)))

-- two children that came to one node left by one port
same_port : (begin : Begin) (ran : Ran) (p a b : Address) (k : Child begin ran p a) (l : Child begin ran p b) (x : Born begin ran p a k) (y : Born begin ran p b l) (f : Func) → are_ports ran.setup.job.edges (worker_no ran.setup p.worker).node f ≡ true
    → (worker_no ran.setup a.worker).node ≡ (worker_no ran.setup b.worker).node → x.out.port ≡ y.out.port
same_port begin ran p a b k l x y f ports e =
    let (edge, there, from, port, to) = along begin ran p a k x in
    let (other, there', from', port', to') = along begin ran p b l y in
    let same : edge ≡ other = one_edge_to ran.setup.job.edges (worker_no ran.setup p.worker).node f ports k.lane.edge l.lane.edge edge other there there' from from' (to ∙ (e ∙ sym to')) in
    sym port ∙ (ap (λ (e : Edge). e.port) same ∙ port')

-- what is in force at the beginning was given by the job or by a request
given_at : (setup : SetupView) (node : ℕ) (first func : Func) (turned : ℕ) → first ≡ func → IsGiven setup node first (func_after setup node func turned)
given_at setup node first func zero e = inl e
given_at setup node first func (suc r) e = go (change_by setup (suc r) node) refl (given_at setup node first func r e)
  where
    go : (o : Option Change) → change_by setup (suc r) node ≡ o → IsGiven setup node first (func_after setup node func r) → IsGiven setup node first (func_with o (func_after setup node func r))
    go None f before = before
    go (Some change) f before = inr (suc r, change, f, refl)

pub has_parted : (begin : Begin) (rows : List Row) (ran : Ran) (g : RunningFrom begin rows ran) (p a b : Address) (k : Parted begin ran p a b) → HasParted begin ran p a b k
has_parted begin rows ran g p a b k =
    let setup : SetupView = ran.setup in
    let who : Worker = worker_no ran.setup p.worker in
    let is : IsWorker setup.job who = (worker_is setup p.worker k.first.within).1 in
    let m : Moment = k.first.moment in
    let x : Born begin ran p a k.first = born begin ran p a k.first in
    let y : Born begin ran p b k.second = born begin ran p b k.second in
    let same : y.tuple ≡ x.tuple = meets_one ran p y.tuple x.tuple y.meets x.meets in
    let given : IsGiven setup who.node is.def.func m.view.func =
    given_then setup who is.def.func (begun_from begin setup p.worker) (journal_of ran p.worker) p.entry m (given_at setup who.node is.def.func who.func begin.turned (sym is.func_is)) k.first.there in
    let alike : AreAlike setup.job.edges who.node is.def.func m.view.func = alike_given setup who.node is.def m.view.func g.kinds is.node_is given in
    let ports : are_ports setup.job.edges who.node m.view.func ≡ true = alike.ports (g.connected.ports who.node is.def is.node_is) in
    let second : slice_get (made setup who m.view x.tuple) k.second.k ≡ Some y.out =
    subst (λ (n : Moment). slice_get (made setup who n.view x.tuple) k.second.k ≡ Some y.out) (sym k.same_moment)
    (subst (λ (t : Tuple). slice_get (made setup who k.second.moment.view t) k.second.k ≡ Some y.out) same y.made_so) in
    let pieces : ArePieces m.view.func x.tuple.birth x.out.tuple.birth y.out.tuple.birth =
    pieces_of setup.job (visit_at who m.view) m.view.func m.view.counts x.tuple k.first.k k.second.k x.out y.out
    ports x.made_so second k.other_output in
    record {
      tuple = x.tuple;
      func = m.view.func;
      pieces = subst (λ (l : List ℕ). ArePieces m.view.func x.tuple.birth l k.second.tuple.birth) (sym (ap (λ (t : Tuple). t.birth) x.is))
          (subst (λ (l : List ℕ). ArePieces m.view.func x.tuple.birth x.out.tuple.birth l) (sym (ap (λ (t : Tuple). t.birth) y.is)) pieces);
      source = elim (emits_cases m.view.func pieces.emits) [
        | inl split ↦ inl (splits_given setup who.node is.def m.view.func is.node_is given split)
        | inr copy ↦ inr (
          copies_given setup who.node is.def m.view.func is.node_is alike copy,
          λ e. copies_part setup.job (visit_at who m.view) m.view.func m.view.counts x.tuple k.first.k k.second.k x.out y.out ports x.made_so second k.other_output copy
              (same_port begin ran p a b k.first k.second x y m.view.func ports e),
        )
      ];
    }

-- ---- two entries of a row at asked nodes

pub share_root_of_row : (begin : Begin) (rows : List Row) (ran : Ran) (g : RunningFrom begin rows ran) (row : ℕ) (c d : Address) → Meeting begin ran row c → Meeting begin ran row d → ShareRoot begin ran c d
share_root_of_row begin rows ran g row c d m n =
    let p : Rooted begin rows ran c = rooted begin rows ran g c m.tuple m.within m.meets in
    let q : Rooted begin rows ran d = rooted begin rows ran g d n.tuple n.within n.meets in
    let a : Passed p.root.tuple m.tuple = passed begin ran p.at c p.chain p.root.tuple m.tuple p.down (p.root.n, p.root.met) m.meets in
    let b : Passed q.root.tuple n.tuple = passed begin ran q.at d q.chain q.root.tuple n.tuple q.down (q.root.n, q.root.met) n.meets in
    let one : p.at ≡ q.at = one_root begin rows ran p.at q.at g p.root q.root (sym a.row ∙ (m.is_row ∙ (sym n.is_row ∙ b.row))) in
    share_root begin ran p.at c d p.chain q.chain p.down (subst (λ x. IsChain begin ran x q.chain d) (sym one) q.down)

same_last : (begin : Begin) (ran : Ran) (p : Address) (m n : Moment) → slice_get (story_of begin ran p.worker) p.entry ≡ Some m → slice_get (story_of begin ran p.worker) p.entry ≡ Some n → m.view.last ≡ n.view.last
same_last begin ran p m n x y = let z : m ≡ n = cc in ap (λ (m : Moment). m.view.last) z

module _ (begin : Begin) (rows : List Row) (ran : Ran) (g : RunningFrom begin rows ran) (row r : ℕ) (c d : Address)
    (ac : asks ran.setup r (worker_no ran.setup c.worker).node ≡ true) (ad : asks ran.setup r (worker_no ran.setup d.worker).node ≡ true)
    (m : Meeting begin ran row c) (n : Meeting begin ran row d)
    (late : r ≤ m.moment.view.last) (new : IsNew ran.setup r m.tuple) (early : n.moment.view.last < r) (old : IsOld ran.setup r n.tuple)
  where
    same_entry : c ≡ d → ⊥
    same_entry e =
        let k = same_last begin ran c m.moment n.moment m.there (subst (λ (a : Address). slice_get (story_of begin ran a.worker) a.entry ≡ Some n.moment) (sym e) n.there) in
        absurd (omega arith)

    below : (a : Address) (chain : List Address) → Child begin ran c a → IsChain begin ran a chain d → ⊥
    below a chain k h =
        let lt : k.moment.view.last < r = old (visit_at (worker_no ran.setup c.worker) k.moment.view) (visit_of begin ran c a d chain n.tuple k h n.meets) (g.kept.asked r (worker_no ran.setup c.worker).node ac) in
        let last = same_last begin ran c k.moment m.moment k.there m.there in
        absurd (omega arith)

    above : (a : Address) (chain : List Address) → Child begin ran d a → IsChain begin ran a chain c → ⊥
    above a chain k h =
        let le : r ≤ k.moment.view.last = new (visit_at (worker_no ran.setup d.worker) k.moment.view) (visit_of begin ran d a c chain m.tuple k h m.meets) (g.kept.asked r (worker_no ran.setup d.worker).node ad) in
        let last = same_last begin ran d k.moment n.moment k.there n.there in
        absurd (omega arith)

    -- where they parted is a split, or a node whose copies came to asked nodes along two edges, and so a covered one, whose visit both must judge
    between : (p a b : Address) → Child begin ran p a → Child begin ran p b → a ≢ b → (s t : List Address) → IsChain begin ran a s c → IsChain begin ran b t d → ⊥
    between p a b x y differ s t u v =
        let k : Parted begin ran p a b = parted begin ran p a b x y differ in
        let h : HasParted begin ran p a b k = has_parted begin rows ran g p a b k in
        let who : Worker = worker_no ran.setup p.worker in
        let leads : Reaches (HasEdge ran.setup.job.edges) who.node (worker_no ran.setup c.worker).node =
        Reaches-from_steps (HasEdge ran.setup.job.edges) who.node (worker_no ran.setup a.worker).node (worker_no ran.setup c.worker).node k.first.edge (chain_reaches begin ran a c s u) in
        let cov : covers ran.setup r who.node ≡ true =
        elim h.source [
          | inl split ↦ g.kept.splits r who.node (worker_no ran.setup c.worker).node split leads ac
          | inr copy ↦
              g.kept.copies r who.node (worker_no ran.setup a.worker).node (worker_no ran.setup b.worker).node (worker_no ran.setup c.worker).node (worker_no ran.setup d.worker).node copy.0 copy.1
              k.first.edge (chain_reaches begin ran a c s u) ac k.second.edge (chain_reaches begin ran b d t v) ad
        ] in
        let le : r ≤ k.first.moment.view.last = new (visit_at who k.first.moment.view) (visit_of begin ran p a c s m.tuple k.first u m.meets) cov in
        let lt : k.second.moment.view.last < r = old (visit_at who k.second.moment.view) (visit_of begin ran p b d t n.tuple k.second v n.meets) cov in
        let last : k.first.moment.view.last ≡ k.second.moment.view.last = ap (λ (m : Moment). m.view.last) k.same_moment in
        absurd (omega arith)

    torn : ShareRoot begin ran c d → ⊥
    torn (inl h) = down h.0 h.1
      where
        down : (chain : List Address) → IsChain begin ran c chain d → ⊥
        down [] e = same_entry e
        down (a ∷ chain) h = below a chain h.0 h.1
    torn (inr (inl h)) = up h.0 h.1
      where
        up : (chain : List Address) → IsChain begin ran d chain c → ⊥
        up [] e = same_entry (sym e)
        up (a ∷ chain) h = above a chain h.0 h.1
    torn (inr (inr h)) = between h.0 h.1 h.2 h.3 h.4 h.5 h.6.0 h.7.0 h.6.1 h.7.1

    -- one stands after its turn and the other before its turn: that can't be
    pub never_torn : ⊥
    never_torn = torn (share_root_of_row begin rows ran g row c d m n)

-- ---- the theorem

-- ---- what is due after a beginning

due_later : (setup : SetupView) (turned node r : ℕ) → turned < r → covers setup r node ≡ true → IsIn r (dues_after setup turned node)
due_later setup turned node r above h =
    let w = covers_within setup r node h in
    filter_in (λ r. covers setup r node) r (numbers_from (turned + 1) (length setup.plans - turned))
    (numbers_in (turned + 1) (length setup.plans - turned) r (omega (arith, above)) (omega (arith, above, w.1))) h

-- a request that a worker turns was not turned before
turned_later : (begin : Begin) (rows : List Row) (ran : Ran) (g : RunningFrom begin rows ran) (w r : ℕ) → HasWorker ran w → IsIn (entry.Turned r) (journal_of ran w) → begin.turned < r
turned_later begin rows ran g w r lt i =
    rising_in begin.turned r (dues_after ran.setup begin.turned (worker_no ran.setup w).node) (dues_rise ran.setup begin.turned (worker_no ran.setup w).node begin.turned (omega arith))
    (turned_is_due (duties_from begin ran w) (start_from begin ran w) (journal_of ran w) r (execution begin rows ran g w lt) i)

-- a covering request that wasn't turned before is turned by every worker
pub covered_turns : (begin : Begin) (rows : List Row) (ran : Ran) (g : RunningFrom begin rows ran) (w r : ℕ) → HasWorker ran w → begin.turned < r → covers ran.setup r (worker_no ran.setup w).node ≡ true → IsIn (entry.Turned r) (journal_of ran w)
covered_turns begin rows ran g w r lt above c =
    let lane = g.connected.reached (worker_no ran.setup w) (worker_is ran.setup w lt).1 in
    turns (duties_from begin ran w) (journal_of ran w) lane.0 r (finished begin rows ran g w lt) lane.1 (due_later ran.setup begin.turned (worker_no ran.setup w).node r above c)

pub late_of : (begin : Begin) (rows : List Row) (ran : Ran) (g : RunningFrom begin rows ran) (w row r : ℕ) → HasWorker ran w → meets_row row (after_turn r (journal_of ran w)) ≡ true
    → Late ran.setup (worker_no ran.setup w) (begun_from begin ran.setup w) (journal_of ran w) row r
late_of begin rows ran g w row r lt h =
    found_late ran.setup (duties_from begin ran w) (worker_no ran.setup w) (start_from begin ran w) (begun_from begin ran.setup w) (journal_of ran w) row r
    (execution begin rows ran g w lt) (rise_from begin ran w) h

pub early_of : (begin : Begin) (rows : List Row) (ran : Ran) (g : RunningFrom begin rows ran) (w row r : ℕ) → HasWorker ran w → begin.turned < r → covers ran.setup r (worker_no ran.setup w).node ≡ true → meets_row row (before_turn r (journal_of ran w)) ≡ true
    → Early ran.setup (worker_no ran.setup w) (begun_from begin ran.setup w) (journal_of ran w) row r
early_of begin rows ran g w row r lt above c h =
    found_early ran.setup (duties_from begin ran w) (worker_no ran.setup w) (start_from begin ran w) (begun_from begin ran.setup w) (journal_of ran w) row r
    (execution begin rows ran g w lt) (rise_from begin ran w) (covered_turns begin rows ran g w r lt above c) h

-- the row is met after the turn by one and before it by another: that can't be
both_sides : (begin : Begin) (rows : List Row) (ran : Ran) (g : RunningFrom begin rows ran) (r row : ℕ) (a b : List Entry) → IsAsked ran r a → IsAsked ran r b
    → meets_row row (after_turn r a) ≡ true → meets_row row (before_turn r b) ≡ true → ⊥
both_sides begin rows ran g r row a b x y h k =
    let late = late_of begin rows ran g x.w row r x.within (rw x.journal_there h) in
    let above : begin.turned < r =
    turned_later begin rows ran g x.w r x.within (before_first (entry.Turned r) (entry.Met late.found.lane late.found.tuple) (journal_of ran x.w) late.behind) in
    let early = early_of begin rows ran g y.w row r y.within above (g.kept.asked r (worker_no ran.setup y.w).node y.asked) (rw y.journal_there k) in
    let p : HasAgreed ran.setup (journal_of ran x.w) = all_agree begin rows ran g x.w x.within in
    let q : HasAgreed ran.setup (journal_of ran y.w) = all_agree begin rows ran g y.w y.within in
    never_torn begin rows ran g row r (record { worker = x.w; entry = late.found.i }) (record { worker = y.w; entry = early.found.i }) x.asked y.asked
    (record { tuple = late.found.tuple; meets = (late.found.lane, late.found.met); is_row = late.found.is_row; moment = late.found.moment; there = late.found.there; within = x.within })
    (record { tuple = early.found.tuple; meets = (early.found.lane, early.found.met); is_row = early.found.is_row; moment = early.found.moment; there = early.found.there; within = y.within })
    late.later (p.new late.found.lane late.found.tuple r late.behind) early.earlier (q.old early.found.lane early.found.tuple r early.ahead)

-- the workers of the nodes that the plan asks meet the row on one side alone
pub one_sided : (begin : Begin) (rows : List Row) (ran : Ran) (g : RunningFrom begin rows ran) (r row : ℕ) → IsOneSided ran r row (asked_workers ran.setup r)
one_sided begin rows ran g r row =
    go (any_after r row (journals_at ran.journals (asked_workers ran.setup r))) refl (any_before r row (journals_at ran.journals (asked_workers ran.setup r))) refl
  where
    go : (a : Bool) → any_after r row (journals_at ran.journals (asked_workers ran.setup r)) ≡ a → (b : Bool) → any_before r row (journals_at ran.journals (asked_workers ran.setup r)) ≡ b
        → IsOneSided ran r row (asked_workers ran.setup r)
    go false e b f = inl e
    go true e false f = inr f
    go true e true f =
        let a = any_in (λ (journal : List Entry). meets_row row (after_turn r journal)) (journals_at ran.journals (asked_workers ran.setup r)) e in
        let b = any_in (λ (journal : List Entry). meets_row row (before_turn r journal)) (journals_at ran.journals (asked_workers ran.setup r)) f in
        absurd (both_sides begin rows ran g r row a.0 b.0 (asked_journal ran r a.0 a.1) (asked_journal ran r b.0 b.1) a.2 b.2)

pub changed_asked : (begin : Begin) (rows : List Row) (ran : Ran) (g : RunningFrom begin rows ran) (r : ℕ) (journal : List Entry) → IsIn journal (journals_at ran.journals (changed_workers ran.setup r))
    → IsIn journal (journals_at ran.journals (asked_workers ran.setup r))
changed_asked begin rows ran g r journal h =
    let p = in_filter_map (λ (who : Worker). slice_get ran.journals who.number) journal (changed_workers ran.setup r) h in
    let q = in_filter (λ (who : Worker). changes ran.setup r who.node) p.0 (workers_in ran.setup.job) p.1 in
    filter_map_in (λ (who : Worker). slice_get ran.journals who.number) p.0 journal (asked_workers ran.setup r)
    (filter_in (λ (who : Worker). asks ran.setup r who.node) p.0 (workers_in ran.setup.job) q.0 (g.kept.changed r p.0.node q.1)) p.2

-- so do those of the nodes that the request changes
pub whole : (begin : Begin) (rows : List Row) (ran : Ran) (g : RunningFrom begin rows ran) (r row : ℕ) → IsWhole ran r row
whole begin rows ran g r row =
    elim (one_sided begin rows ran g r row) [
      | inl after ↦ inl (fewer_pass (λ (journal : List Entry). meets_row row (after_turn r journal)) (journals_at ran.journals (changed_workers ran.setup r)) (journals_at ran.journals (asked_workers ran.setup r)) (changed_asked begin rows ran g r) after)
      | inr before ↦ inr (fewer_pass (λ (journal : List Entry). meets_row row (before_turn r journal)) (journals_at ran.journals (changed_workers ran.setup r)) (journals_at ran.journals (asked_workers ran.setup r)) (changed_asked begin rows ran g r) before)
    ]

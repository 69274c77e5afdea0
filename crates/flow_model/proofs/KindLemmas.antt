-- The function in force at a worker is one that the job or a request gives its node, and goes with what the job gives it.
use Rattle.std.proofs.Common.{◌≡◌, ◌∙◌, ◌≢◌, ◌<◌, ◌≤◌, ◌++◌, ◌==◌, ◌&&◌, ◌||◌, nat_le, ℕ, zero, suc, List, [], ◌∷◌, ◌⊎◌, inl, inr, refl, sym, subst, ap, true, false, Bool, cond, Some, None, Option, slice_get, All, append_assoc, arith, length}
use Rattle.std.proofs.lemmas.Bool.{and_from, and_parts, eq-eqb, eqb-true, leb-true, or_cases, or_left, or_right}
use Rattle.std.proofs.lemmas.List.{append-nil, append_cancel_left}
use Rattle.std.specs.List.{list_any}
use Rattle.flow_dag.specs.declared.edge.Edge.{Edge}
use Rattle.jobs.specs.Law.{IsLawful}
use Rattle.jobs.proofs.RoleLemmas.{IsFreeRow, kind_row}
use Rattle.jobs.specs.Kinds.{KindView, are_copies, are_pieces, are_several, are_sinks, row_at, row_of}
use Rattle.jobs.specs.Nodes.{fan_out, is_count, is_free, is_replicate, is_sink, is_split, may_emit}
use Rattle.jobs.specs.Ports.{are_ports, is_entered, may_enter, may_leave, out_count}
use Rattle.jobs.specs.JobView.{JobView}
use Rattle.jobs.proofs.RoofLemmas.{roof_of_node}
use Rattle.jobs.specs.declared.func.Func.{Func}
use Rattle.jobs.specs.declared.kind.Shape.{Shape}
use Rattle.jobs.specs.declared.kind.Shape.TheVariants as shape
use Rattle.jobs.specs.declared.func.NodeDef.{NodeDef}
use Rattle.keyed_state.specs.Counts.{Counts}
use Rattle.operators.specs.Laws.{IsMadeOf, births_as, births_of}
use Rattle.operators.specs.Meaning.{step}
use Rattle.operators.specs.declared.output.Output.{Output}
use Rattle.operators.proofs.EdgeLemmas.{outputs_differ}
use Rattle.operators.proofs.OutputLemmas.{outputs_made}
use Rattle.sink_journal.specs.declared.journal.Entry.{Entry}
use Rattle.sink_journal.specs.declared.journal.Entry.TheVariants as entry
use Rattle.tuple_trace.specs.declared.tuple.Tuple.{Tuple}
use Rattle.tuple_trace.specs.declared.tuple.Visit.{Visit}
use Rattle.versions.specs.Judged.{NameNodes}
use Rattle.versions.specs.Judging.{is_like, leaves_once, may_replace}
use Rattle.versions.specs.Kept.{KeepKinds, KeepsKind}
use Rattle.versions.proofs.KeptLemmas.{are_like}
use Rattle.versions.specs.declared.request.Change.{Change}
use Rattle.versions.specs.declared.request.Request.{Request}
use Rattle.flow_model.specs.SetupView.{SetupView, Worker}
use Rattle.flow_model.specs.Planned.{copies_at, is_made_split, is_replicate_node, is_split_node, makes_split, splits_at}
use Rattle.flow_model.specs.Replay.{StateView, after, after_change}
use Rattle.flow_model.specs.Requests.{change_among, change_asked, change_by}
use Rattle.flow_model.proofs.ElementLemmas.{IsIn, at_of_all, in_any, in_of_place}
use Rattle.flow_model.proofs.StoryLemmas.{Moment, story}
use Rattle.flow_model.proofs.WorkerLemmas.{item_at}

-- a function goes with another at a node: both copy or neither, both count or neither, both are sinks or neither, and where the edges of the node
-- are those of the one's kind, they are those of the other's
pub record AreAlike (edges : List Edge) (node : ℕ) (f g : Func) : Type 0 where
  pub copy : is_replicate g ≡ is_replicate f
  pub count : is_count g ≡ is_count f
  pub sink : is_sink g ≡ is_sink f
  pub ports : are_ports edges node f ≡ true → are_ports edges node g ≡ true

pub alike_self : (edges : List Edge) (node : ℕ) (f : Func) → AreAlike edges node f f
alike_self edges node f = record { copy = refl; count = refl; sink = refl; ports = λ h. h }

-- two functions of one kind go with each other
alike_of_like : (edges : List Edge) (node : ℕ) (f g : Func) → is_like f g ≡ true → AreAlike edges node f g
unfolding are_ports
alike_of_like edges node f g h =
    let row : row_at g ≡ row_at f = ap row_of (sym (are_like f g h).kind) in
    record {
      copy = ap (λ (r : KindView). are_copies r.shape) row;
      count = ap (λ (r : KindView). r.counts) row;
      sink = ap (λ (r : KindView). are_sinks r.role) row;
      ports = λ h. rw row h;
    }

-- so do two of free kinds, at a node that one edge leaves
free_ports : (edges : List Edge) (node : ℕ) (f g : Func) → is_free f ≡ true → is_free g ≡ true → out_count edges node ≡ 1 → are_ports edges node f ≡ true → are_ports edges node g ≡ true
unfolding are_ports
free_ports edges node f g a b one h =
    let first = (kind_row f).of_free a in
    let second = (kind_row g).of_free b in
    let kinds = and_parts _ _ h in
    let ports = and_parts _ _ kinds.0 in
    let enter = and_parts _ _ ports.0 in
    let before : may_enter f (is_entered edges node) ≡ true = enter.0 in
    let entered : may_enter g (is_entered edges node) ≡ true = rw second.source (rw first.source at before) in
    let left : may_leave g (out_count edges node) ≡ true = subst (λ n. may_leave g n ≡ true) (sym one) second.leaves_one in
    and_from _ _ (and_from _ _ (and_from _ _ entered left) ports.1) kinds.1

-- a function that may replace another goes with it
pub alike_of_replace : (edges : List Edge) (node : ℕ) (f g : Func) (roof : ℕ) → may_replace f g roof (leaves_once edges node) ≡ true → AreAlike edges node f g
alike_of_replace edges node f g roof h =
    let p = and_parts (is_like f g || (is_free f && is_free g && leaves_once edges node)) (nat_le (fan_out g) roof) h in
    elim (or_cases (is_like f g) (is_free f && is_free g && leaves_once edges node) p.0) [
      | inl like ↦ alike_of_like edges node f g like
      | inr free ↦
          let u = and_parts (is_free f && is_free g) (leaves_once edges node) free in
          let v = and_parts (is_free f) (is_free g) u.0 in
          let a : IsFreeRow (row_at f) = (kind_row f).of_free v.0 in
          let b : IsFreeRow (row_at g) = (kind_row g).of_free v.1 in
          record {
            copy = b.copies ∙ sym a.copies;
            count = b.counts ∙ sym a.counts;
            sink = b.sink ∙ sym a.sink;
            ports = free_ports edges node f g v.0 v.1 (eqb-true (out_count edges node) 1 u.1);
          }
    ]

-- ---- what a request changes

change_found : (changes : List Change) (node : ℕ) (change : Change) → change_among changes node ≡ Some change → IsIn change changes × (change.node ≡ node)
change_found [] node change h = absurd (cc)
change_found (c ∷ more) node change h = go (c.node == node) refl (change_found more node change) h
  where
    go : (b : Bool) → (c.node == node) ≡ b → (change_among more node ≡ Some change → IsIn change more × (change.node ≡ node))
        → cond b (Some c) (change_among more node) ≡ Some change → IsIn change (c ∷ more) × (change.node ≡ node)
    go true e f h = let p : c ≡ change = cc in (inl (sym p), sym (ap (λ (x : Change). x.node) p) ∙ eqb-true c.node node e)
    go false e f h = let r = f h in (inr r.0, r.1)

-- the change is one of a request
pub change_there : (setup : SetupView) (r node : ℕ) (change : Change) → change_by setup r node ≡ Some change
    → (request : Request) × IsIn request setup.requests × IsIn change request.changes × (change.node ≡ node)
change_there setup zero node change h = absurd (cc)
change_there setup (suc r) node change h = go (slice_get setup.requests r) refl h
  where
    go : (o : Option Request) → slice_get setup.requests r ≡ o → change_asked o node ≡ Some change → (request : Request) × IsIn request setup.requests × IsIn change request.changes × (change.node ≡ node)
    go None e h = absurd (cc)
    go (Some request) e h = let found = change_found request.changes node change h in (request, in_of_place request setup.requests r e, found.0, found.1)

-- a change's function goes with the one that the job gives the node
pub changed_alike : (setup : SetupView) (r node : ℕ) (def : NodeDef) (change : Change) → KeepKinds setup.job setup.requests → slice_get setup.job.nodes node ≡ Some def
    → change_by setup r node ≡ Some change → AreAlike setup.job.edges node def.func change.func
changed_alike setup r node def change kinds g h =
    let (request, asked, among, at) = change_there setup r node change h in
    let all : All (KeepsKind setup.job) request.changes = at_of_all (λ (request : Request). All (KeepsKind setup.job) request.changes) request setup.requests kinds asked in
    let one : KeepsKind setup.job change = at_of_all (KeepsKind setup.job) change request.changes all among in
    alike_of_replace setup.job.edges node def.func change.func def.roof
    (subst (λ n. may_replace def.func change.func def.roof (leaves_once setup.job.edges n) ≡ true) at (one def (rw at g)))

-- and makes no more pieces than the node's roof
pub changed_roof : (setup : SetupView) (r node : ℕ) (def : NodeDef) (change : Change) → KeepKinds setup.job setup.requests → slice_get setup.job.nodes node ≡ Some def
    → change_by setup r node ≡ Some change → fan_out change.func ≤ def.roof
changed_roof setup r node def change kinds g h =
    let (request, asked, among, at) = change_there setup r node change h in
    let all : All (KeepsKind setup.job) request.changes = at_of_all (λ (request : Request). All (KeepsKind setup.job) request.changes) request setup.requests kinds asked in
    let one : KeepsKind setup.job change = at_of_all (KeepsKind setup.job) change request.changes all among in
    let once : Bool = leaves_once setup.job.edges change.node in
    leb-true (fan_out change.func) def.roof
    (and_parts (is_like def.func change.func || (is_free def.func && is_free change.func && once)) (nat_le (fan_out change.func) def.roof) (one def (rw at g))).1

-- the job has the node of a change
pub changed_node : (setup : SetupView) (r node : ℕ) (change : Change) → NameNodes setup.job setup.requests → change_by setup r node ≡ Some change → (def : NodeDef) × (slice_get setup.job.nodes node ≡ Some def)
changed_node setup r node change named h =
    let (request, asked, among, at) = change_there setup r node change h in
    let all : All (λ (change : Change). change.node < length setup.job.nodes) request.changes =
    at_of_all (λ (request : Request). All (λ (change : Change). change.node < length setup.job.nodes) request.changes) request setup.requests named asked in
    let lt : change.node < length setup.job.nodes = at_of_all (λ (change : Change). change.node < length setup.job.nodes) change request.changes all among in
    item_at setup.job.nodes node (omega arith)

-- ---- the function in force

-- the function is the one that the node has at first, or that of a change of it
abbrev pub IsGiven : SetupView → ℕ → Func → Func → Type 0
IsGiven setup node first f = (first ≡ f) ⊎ ((r : ℕ) × (change : Change) × (change_by setup r node ≡ Some change) × (change.func ≡ f))

given_after : (setup : SetupView) (who : Worker) (first : Func) (view : StateView) (x : Entry) → IsGiven setup who.node first view.func → IsGiven setup who.node first (after setup who view x).func
given_after setup who first view (entry.Met l t) a = a
given_after setup who first view (entry.Marked l r) a = a
given_after setup who first view (entry.Turned r) a = go (change_by setup r who.node) refl
  where
    go : (o : Option Change) → change_by setup r who.node ≡ o → IsGiven setup who.node first (after_change o view).func
    go None e = a
    go (Some change) e = inr (r, change, e, refl)
given_after setup who first view (entry.Ended l) a = a

-- so it is with the function in force at each moment
pub given_then : (setup : SetupView) (who : Worker) (first : Func) (view : StateView) (journal : List Entry) (i : ℕ) (m : Moment)
    → IsGiven setup who.node first view.func → slice_get (story setup who view journal) i ≡ Some m → IsGiven setup who.node first m.view.func
given_then setup who first view [] i m a h = absurd (cc)
given_then setup who first view (x ∷ journal) zero m a h =
    let q : ◌≡◌ {A = Moment} (record { view = view; entry = x }) m = cc in
    subst (λ (m : Moment). IsGiven setup who.node first m.view.func) q a
given_then setup who first view (x ∷ journal) (suc i) m a h = given_then setup who first (after setup who view x) journal i m (given_after setup who first view x a) h

-- what a node may be given goes with what the job gives it
pub alike_given : (setup : SetupView) (node : ℕ) (def : NodeDef) (f : Func) → KeepKinds setup.job setup.requests → slice_get setup.job.nodes node ≡ Some def
    → IsGiven setup node def.func f → AreAlike setup.job.edges node def.func f
alike_given setup node def f kinds g (inl same) = subst (AreAlike setup.job.edges node def.func) same (alike_self setup.job.edges node def.func)
alike_given setup node def f kinds g (inr (r, change, at, same)) = subst (AreAlike setup.job.edges node def.func) same (changed_alike setup r node def change kinds g at)

-- at each moment the function in force goes with the one that the job gives the node
pub alike_then : (setup : SetupView) (who : Worker) (def : NodeDef) (view : StateView) (journal : List Entry) (i : ℕ) (m : Moment) → KeepKinds setup.job setup.requests
    → slice_get setup.job.nodes who.node ≡ Some def → def.func ≡ view.func → slice_get (story setup who view journal) i ≡ Some m → AreAlike setup.job.edges who.node def.func m.view.func
alike_then setup who def view journal i m kinds g first h = alike_given setup who.node def m.view.func kinds g (given_then setup who def.func view journal i m (inl first) h)

-- what a node may be given makes no more pieces than its roof
pub given_roof : (setup : SetupView) (node : ℕ) (def : NodeDef) (f : Func) → IsLawful setup.job → KeepKinds setup.job setup.requests
    → slice_get setup.job.nodes node ≡ Some def → IsGiven setup node def.func f → fan_out f ≤ def.roof
given_roof setup node def f law kinds g (inl same) = subst (λ (f : Func). fan_out f ≤ def.roof) same (roof_of_node setup.job node def law g).0
given_roof setup node def f law kinds g (inr (r, change, at, same)) = subst (λ (f : Func). fan_out f ≤ def.roof) same (changed_roof setup r node def change kinds g at)

-- a node that is given a split is one of those that may make pieces
pub splits_given : (setup : SetupView) (node : ℕ) (def : NodeDef) (f : Func) → slice_get setup.job.nodes node ≡ Some def → IsGiven setup node def.func f → is_split f ≡ true
    → splits_at setup.job.nodes setup.requests node ≡ true
splits_given setup node def f g (inl same) s = or_left (is_split_node (slice_get setup.job.nodes node)) (is_made_split setup.requests node) (ap is_split_node g ∙ (ap is_split same ∙ s))
splits_given setup node def f g (inr (r, change, at, same)) s =
    let (request, asked, among, here) = change_there setup r node change at in
    or_right (is_split_node (slice_get setup.job.nodes node)) (is_made_split setup.requests node)
    (in_any (λ (request : Request). list_any (makes_split node) request.changes) request setup.requests asked
    (in_any (makes_split node) change request.changes among (and_from (change.node == node) (is_split change.func) (eq-eqb change.node node here) (ap is_split same ∙ s))))

-- a node that is given a replicate is one in the job
pub copies_given : (setup : SetupView) (node : ℕ) (def : NodeDef) (f : Func) → slice_get setup.job.nodes node ≡ Some def → AreAlike setup.job.edges node def.func f → is_replicate f ≡ true
    → copies_at setup.job.nodes node ≡ true
copies_given setup node def f g a s = ap is_replicate_node g ∙ (sym a.copy ∙ s)

-- a function that may make several tuples of one is a split or a replicate
pub emits_cases : (f : Func) → may_emit f ≡ true → (is_split f ≡ true) ⊎ (is_replicate f ≡ true)
emits_cases f m = go (row_at f).shape m
  where
    go : (s : Shape) → are_several s ≡ true → (are_pieces s ≡ true) ⊎ (are_copies s ≡ true)
    go shape.Pieces m = inl refl
    go shape.Copies m = inr refl
    go _ m = absurd (cc)

-- ---- the births of outputs

-- births only grow
pub birth_grows : (f : Func) (birth : List ℕ) (k port : ℕ) → (more : List ℕ) × (births_of f birth k port ≡ birth ++ more)
birth_grows f birth k port = go (row_at f).shape
  where
    go : (s : Shape) → (more : List ℕ) × (births_as s birth k port ≡ birth ++ more)
    go shape.Pieces = (k ∷ [], refl)
    go shape.Copies = (port ∷ [], refl)
    go _ = ([], sym (append-nil birth))

-- two different births of one tuple: the function may make several, and each adds a number of its own
pub record ArePieces (f : Func) (birth first second : List ℕ) : Type 0 where
  pub emits : may_emit f ≡ true
  pub one : ℕ
  pub other : ℕ
  pub first_is : first ≡ birth ++ one ∷ []
  pub second_is : second ≡ birth ++ other ∷ []
  pub differ : one ≢ other

births_differ : (f : Func) (birth : List ℕ) (j k p q : ℕ) → births_of f birth j p ≢ births_of f birth k q → ArePieces f birth (births_of f birth j p) (births_of f birth k q)
births_differ f birth j k p q d = go (row_at f).shape refl d
  where
    go : (s : Shape) → (row_at f).shape ≡ s → births_as s birth j p ≢ births_as s birth k q → ArePieces f birth (births_as s birth j p) (births_as s birth k q)
    go shape.Pieces is d = record { emits = ap are_several is; one = j; other = k; first_is = refl; second_is = refl; differ = λ e. d (ap (λ n. birth ++ n ∷ []) e) }
    go shape.Copies is d = record { emits = ap are_several is; one = p; other = q; first_is = refl; second_is = refl; differ = λ e. d (ap (λ n. birth ++ n ∷ []) e) }
    go _ is d = absurd (d refl)

-- two outputs for one tuple, at a node whose edges are those of the function's kind
pub pieces_of : (job : JobView) (visit : Visit) (f : Func) (counts : Counts) (t : Tuple) (j k : ℕ) (a b : Output) → are_ports job.edges visit.node f ≡ true
    → slice_get (step job visit f counts t).1 j ≡ Some a → slice_get (step job visit f counts t).1 k ≡ Some b → j ≢ k → ArePieces f t.birth a.tuple.birth b.tuple.birth
pieces_of job visit f counts t j k a b ports g h d =
    let x : IsMadeOf job.edges visit f t j a = outputs_made job visit f counts t j a g in
    let y : IsMadeOf job.edges visit f t k b = outputs_made job visit f counts t k b h in
    let differ : births_of f t.birth j a.port ≢ births_of f t.birth k b.port = λ e. outputs_differ job visit f counts t j k a b ports g h d (x.birth ∙ (e ∙ sym y.birth)) in
    subst (λ (l : List ℕ). ArePieces f t.birth l b.tuple.birth) (sym x.birth) (
    subst (λ (l : List ℕ). ArePieces f t.birth (births_of f t.birth j a.port) l) (sym y.birth) (births_differ f t.birth j k a.port b.port differ))

-- what a replicate sends along one port has one birth
copies_by_port : (f : Func) (birth : List ℕ) (j k p q : ℕ) → is_replicate f ≡ true → p ≡ q → births_of f birth j p ≡ births_of f birth k q
copies_by_port f birth j k p q r e = go (row_at f).shape r
  where
    go : (s : Shape) → are_copies s ≡ true → births_as s birth j p ≡ births_as s birth k q
    go shape.Copies r = ap (λ n. birth ++ n ∷ []) e
    go _ r = absurd (cc)

-- so two copies of one tuple leave by two ports
pub copies_part : (job : JobView) (visit : Visit) (f : Func) (counts : Counts) (t : Tuple) (j k : ℕ) (a b : Output) → are_ports job.edges visit.node f ≡ true
    → slice_get (step job visit f counts t).1 j ≡ Some a → slice_get (step job visit f counts t).1 k ≡ Some b → j ≢ k → is_replicate f ≡ true → a.port ≢ b.port
copies_part job visit f counts t j k a b ports g h d r same =
    let x : IsMadeOf job.edges visit f t j a = outputs_made job visit f counts t j a g in
    let y : IsMadeOf job.edges visit f t k b = outputs_made job visit f counts t k b h in
    outputs_differ job visit f counts t j k a b ports g h d (x.birth ∙ (copies_by_port f t.birth j k a.port b.port r same ∙ sym y.birth))

-- births that parted stay apart
pub pieces_stay_apart : (b : List ℕ) (j k : ℕ) (x y s t : List ℕ) → x ≡ (b ++ j ∷ []) ++ s → y ≡ (b ++ k ∷ []) ++ t → x ≡ y → j ≡ k
pieces_stay_apart b j k x y s t p q e =
    let u : b ++ (j ∷ s) ≡ b ++ (k ∷ t) = sym (append_assoc b (j ∷ []) s) ∙ (sym p ∙ (e ∙ (q ∙ append_assoc b (k ∷ []) t))) in
    let v : j ∷ s ≡ k ∷ t = append_cancel_left b (j ∷ s) (k ∷ t) u in
    cc

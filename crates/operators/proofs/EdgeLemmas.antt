-- The ports by which outputs leave, where the edges of a node are those of its kind.
use Rattle.std.proofs.Common.{◌≡◌, ◌∙◌, ◌≢◌, ℕ, ◌+◌, ◌<◌, ◌≤◌, ◌==◌, ◌&&◌, ◌||◌, zero, suc, sym, ap, refl, List, [], ◌∷◌, length, map, filter, cond, Bool, true, false, eqb, Some, inl, inr, arith}
use Rattle.std.specs.Prelude.{IsTrue, slice_get}
use Rattle.std.specs.List.{list_any}
use Rattle.std.proofs.lemmas.Bool.{and_parts, cases_eq, eq-eqb, eqb-true, leb-true, or_left, or_right}
use Rattle.std.proofs.lemmas.List.{append_cancel_left, length-map}
use Rattle.std.proofs.lemmas.Map.Steps.{le-length_from_below}
use Rattle.flow_dag.specs.declared.edge.Edge.{Edge}
use Rattle.tuple_trace.specs.declared.tuple.Tuple.{Tuple}
use Rattle.tuple_trace.specs.declared.tuple.Visit.{Visit}
use Rattle.keyed_state.specs.Counts.{Counts}
use Rattle.jobs.specs.declared.func.Func.{Func}
use Rattle.jobs.specs.declared.func.Func.TheVariants as func
use Rattle.jobs.specs.declared.kind.Shape.{Shape}
use Rattle.jobs.specs.declared.kind.Shape.TheVariants as shape
use Rattle.jobs.specs.Kinds.{row_at}
use Rattle.jobs.specs.Places.{Each}
use Rattle.jobs.specs.Ports.{are_ports, has_port, has_ports, leaves, may_leave, out_count}
use Rattle.jobs.specs.JobView.{JobView}
use Rattle.jobs.proofs.PortLemmas.{has_ports-lacks}
use Rattle.operators.specs.declared.output.Output.{Output}
use Rattle.operators.specs.Laws.{MayLeaveAs, MayLeaveBy, births_as, births_of}
use Rattle.operators.specs.Meaning.{outputs}
use Rattle.operators.specs.Ports.{out_ports}
use Rattle.operators.proofs.OutputLemmas.{outputs_made}

-- ports below the number of edges are there
has_ports-has : (edges : List Edge) (node n ports : ℕ) → has_ports edges node ports ≡ true → n < ports → has_port edges node n ≡ true
has_ports-has edges node n ports all below = go (has_port edges node n) refl
  where
    go : (b : Bool) → has_port edges node n ≡ b → has_port edges node n ≡ true
    go true is = is
    go false is = let lacks : has_ports edges node ports ≡ false = has_ports-lacks edges node n ports below is in cc

leaves_by_kind : (edges : List Edge) (node : ℕ) (f : Func) → are_ports edges node f ≡ true → may_leave f (out_count edges node) ≡ true
unfolding are_ports
leaves_by_kind edges node f all = (and_parts _ _ (and_parts _ _ (and_parts _ _ all).0).0).1

ports_by_kind : (edges : List Edge) (node : ℕ) (f : Func) → are_ports edges node f ≡ true → has_ports edges node (out_count edges node) ≡ true
unfolding are_ports
ports_by_kind edges node f all = (and_parts _ _ (and_parts _ _ all).0).1

-- an edge leaves each node of a kind that may put something out
least_out : (f : Func) → (row_at f).shape ≢ shape.Nothing → 1 ≤ (row_at f).least_outs
least_out func.Source puts = absurd (puts refl)
least_out (func.Sink listed) puts = absurd (puts refl)
least_out _ puts = omega arith

some_leave : (edges : List Edge) (node : ℕ) (f : Func) → are_ports edges node f ≡ true → (row_at f).shape ≢ shape.Nothing → 0 < out_count edges node
some_leave edges node f all puts =
    let least : (row_at f).least_outs ≤ out_count edges node =
    leb-true (row_at f).least_outs (out_count edges node) (and_parts _ _ (leaves_by_kind edges node f all)).0 in
    omega (arith, least, least_out f puts)

-- a node with edges has one on port 0
port_zero : (edges : List Edge) (node : ℕ) (f : Func) (port : ℕ) → are_ports edges node f ≡ true → 0 < out_count edges node → port ≡ 0 → has_port edges node port ≡ true
port_zero edges node f port all some is = rw is (has_ports-has edges node 0 (out_count edges node) (ports_by_kind edges node f all) some)

-- the port of an edge that leaves a node is one of the node's
out_port-has : (edges : List Edge) (node k port : ℕ) → slice_get (out_ports edges node) k ≡ Some port → has_port edges node port ≡ true
out_port-has [] node k port found = cc
out_port-has (e ∷ es) node k port found = go (leaves node e) refl (λ j later. out_port-has es node j port later) k found
  where
    go : (b : Bool) → leaves node e ≡ b → ((j : ℕ) → slice_get (out_ports es node) j ≡ Some port → has_port es node port ≡ true) → (j : ℕ) → slice_get (map (λ (e : Edge). e.port) (cond (leaves node e) (e ∷ filter (leaves node) es) (filter (leaves node) es))) j ≡ Some port → ((e.from == node && e.port == port) || has_port es node port) ≡ true
    go true is later zero here =
        let seen : Some e.port ≡ Some port = rw is at here in
        let same : e.port ≡ port = cc in
        rw (is, eq-eqb e.port port same) refl
    go true is later (suc j) here = or_right (e.from == node && e.port == port) (has_port es node port) (later j (rw is at here))
    go false is later j here = or_right (e.from == node && e.port == port) (has_port es node port) (later j (rw is at here))

leaves_by_edge : (edges : List Edge) (node : ℕ) (f : Func) (k port : ℕ) → are_ports edges node f ≡ true → MayLeaveBy edges node f k port → has_port edges node port ≡ true
leaves_by_edge edges node f k port all may = by_shape (row_at f).shape refl may
  where
    by_shape : (s : Shape) → (row_at f).shape ≡ s → MayLeaveAs s edges node f k port → has_port edges node port ≡ true
    by_shape shape.Nothing is may = absurd may
    by_shape shape.AtMostOne is may =
        elim may.1 [
          | inl none ↦ port_zero edges node f port all (some_leave edges node f all (λ no. let other : shape.AtMostOne ≡ shape.Nothing = sym is ∙ no in cc)) none
          | inr one ↦ rw one.0 one.2
        ]
    by_shape shape.Pieces is may =
        port_zero edges node f port all (some_leave edges node f all (λ no. let other : shape.Pieces ≡ shape.Nothing = sym is ∙ no in cc)) may.1
    by_shape shape.Copies is may = out_port-has edges node k port may

pub outputs_leave : (job : JobView) (visit : Visit) (f : Func) (counts : Counts) (tuple : Tuple) → IsTrue (are_ports job.edges visit.node f) → Each (λ k (output : Output). IsTrue (has_port job.edges visit.node output.port)) (outputs job visit f counts tuple)
outputs_leave job visit f counts tuple all = λ k o is. leaves_by_edge job.edges visit.node f k o.port all (outputs_made job visit f counts tuple k o is).port

-- ---- no two edges that leave a node have one port

without : ℕ → List ℕ → List ℕ
without k [] = []
without zero (x ∷ xs) = xs
without (suc k) (x ∷ xs) = x ∷ without k xs

length-without : (k : ℕ) (xs : List ℕ) (x : ℕ) → slice_get xs k ≡ Some x → length (without k xs) + 1 ≡ length xs
unfolding without
length-without k [] x is = cc
length-without zero (y ∷ xs) x is = omega arith
length-without (suc k) (y ∷ xs) x is = let later = length-without k xs x is in omega arith

member_at : (l x : ℕ) (xs : List ℕ) → slice_get xs l ≡ Some x → list_any (eqb x) xs ≡ true
member_at l x [] is = cc
member_at zero x (y ∷ xs) is = let same : y ≡ x = cc in or_left (eqb x y) (list_any (eqb x) xs) (eq-eqb x y (sym same))
member_at (suc l) x (y ∷ xs) is = or_right (eqb x y) (list_any (eqb x) xs) (member_at l x xs is)

-- what stands at another place is still there
list_any-without : (k l x : ℕ) (xs : List ℕ) → slice_get xs l ≡ Some x → k ≢ l → list_any (eqb x) (without k xs) ≡ true
unfolding without
list_any-without k l x [] is other = cc
list_any-without zero zero x (y ∷ xs) is other = absurd (other refl)
list_any-without zero (suc l) x (y ∷ xs) is other = member_at l x xs is
list_any-without (suc k) zero x (y ∷ xs) is other = let same : y ≡ x = cc in or_left (eqb x y) (list_any (eqb x) (without k xs)) (eq-eqb x y (sym same))
list_any-without (suc k) (suc l) x (y ∷ xs) is other = or_right (eqb x y) (list_any (eqb x) (without k xs)) (list_any-without k l x xs is (λ e. other (ap suc e)))

-- and so is every other number
others-without : (k x q : ℕ) (xs : List ℕ) → slice_get xs k ≡ Some x → q ≢ x → list_any (eqb q) xs ≡ true → list_any (eqb q) (without k xs) ≡ true
unfolding without
others-without k x q [] is other member = cc
others-without zero x q (y ∷ xs) is other member = go (eqb q y) refl
  where
    go : (b : Bool) → eqb q y ≡ b → list_any (eqb q) xs ≡ true
    go true e = let same : y ≡ x = cc in absurd (other (eqb-true q y e ∙ same))
    go false e = rw e at member
others-without (suc k) x q (y ∷ xs) is other member = go (eqb q y) refl (λ later. others-without k x q xs is other later)
  where
    go : (b : Bool) → eqb q y ≡ b → (list_any (eqb q) xs ≡ true → list_any (eqb q) (without k xs) ≡ true) → (eqb q y || list_any (eqb q) (without k xs)) ≡ true
    go true e later = or_left (eqb q y) (list_any (eqb q) (without k xs)) e
    go false e later = or_right (eqb q y) (list_any (eqb q) (without k xs)) (later (rw e at member))

-- as many numbers as there are below their count, with each of these among them, are all different
all_different : (xs : List ℕ) (k l x : ℕ) → ((q : ℕ) → q < length xs → list_any (eqb q) xs ≡ true) → slice_get xs k ≡ Some x → slice_get xs l ≡ Some x → k ≢ l → ⊥
all_different xs k l x full at_k at_l other =
    let shorter : length (without k xs) + 1 ≡ length xs = length-without k xs x at_k in
    let longer : length xs ≤ length (without k xs) = le-length_from_below (without k xs) (length xs) (λ q below. elim (cases_eq q x) [
      | inl same ↦ rw same (list_any-without k l x xs at_l other)
      | inr ne ↦ others-without k x q xs at_k ne (full q below)
    ]) in
    absurd (omega arith)

-- a port of the node is that of an edge which leaves it
port-member : (edges : List Edge) (node q : ℕ) → has_port edges node q ≡ true → list_any (eqb q) (out_ports edges node) ≡ true
port-member [] node q has = cc
port-member (e ∷ es) node q has = go (leaves node e) (e.port == q) refl refl (λ later. port-member es node q later)
  where
    go : (a b : Bool) → leaves node e ≡ a → (e.port == q) ≡ b → (has_port es node q ≡ true → list_any (eqb q) (out_ports es node) ≡ true) → list_any (eqb q) (map (λ (e : Edge). e.port) (cond (leaves node e) (e ∷ filter (leaves node) es) (filter (leaves node) es))) ≡ true
    go false b leaving same later = rw leaving (later (rw leaving at has))
    go true true leaving same later = rw leaving (or_left (eqb q e.port) (list_any (eqb q) (out_ports es node)) (eq-eqb q e.port (sym (eqb-true e.port q same))))
    go true false leaving same later = rw leaving (or_right (eqb q e.port) (list_any (eqb q) (out_ports es node)) (later (rw (leaving, same) at has)))

ports_differ : (edges : List Edge) (node : ℕ) (f : Func) (k l port : ℕ) → are_ports edges node f ≡ true → slice_get (out_ports edges node) k ≡ Some port → slice_get (out_ports edges node) l ≡ Some port → k ≢ l → ⊥
ports_differ edges node f k l port all at_k at_l other =
    let outs = filter (leaves node) edges in
    all_different (out_ports edges node) k l port (λ q below.
    let within : q < out_count edges node = omega (arith, length-map outs (λ (e : Edge). e.port)) in
    port-member edges node q (has_ports-has edges node q (out_count edges node) (ports_by_kind edges node f all) within)) at_k at_l other

births_differ : (edges : List Edge) (node : ℕ) (f : Func) (birth : List ℕ) (k l p q : ℕ) → are_ports edges node f ≡ true → MayLeaveBy edges node f k p → MayLeaveBy edges node f l q → k ≢ l → births_of f birth k p ≢ births_of f birth l q
births_differ edges node f birth k l p q all at_k at_l other = by_shape (row_at f).shape at_k at_l
  where
    by_shape : (s : Shape) → MayLeaveAs s edges node f k p → MayLeaveAs s edges node f l q → births_as s birth k p ≢ births_as s birth l q
    by_shape shape.Nothing at_k at_l = absurd at_k
    by_shape shape.AtMostOne at_k at_l = absurd (other (at_k.0 ∙ sym at_l.0))
    by_shape shape.Pieces at_k at_l = λ e.
        let last : k ∷ [] ≡ l ∷ [] = append_cancel_left birth (k ∷ []) (l ∷ []) e in
        let same : k ≡ l = cc in
        other same
    by_shape shape.Copies at_k at_l = λ e.
        let last : p ∷ [] ≡ q ∷ [] = append_cancel_left birth (p ∷ []) (q ∷ []) e in
        let same : q ≡ p = cc in
        ports_differ edges node f k l p all at_k (at_l ∙ ap (λ r. Some r) same) other

pub outputs_differ : (job : JobView) (visit : Visit) (f : Func) (counts : Counts) (tuple : Tuple) (k l : ℕ) (a b : Output) → IsTrue (are_ports job.edges visit.node f) → slice_get (outputs job visit f counts tuple) k ≡ Some a → slice_get (outputs job visit f counts tuple) l ≡ Some b → k ≢ l → a.tuple.birth ≢ b.tuple.birth
outputs_differ job visit f counts tuple k l a b all at_k at_l other = λ e.
    let first = outputs_made job visit f counts tuple k a at_k in
    let second = outputs_made job visit f counts tuple l b at_l in
    births_differ job.edges visit.node f tuple.birth k l a.port b.port all first.port second.port other (sym first.birth ∙ e ∙ second.birth)

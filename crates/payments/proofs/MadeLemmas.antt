-- The rows that a generator makes, and the sources that it picks from.
use Rattle.std.proofs.Common.{◌≡◌, ◌∙◌, ◌≤◌, ◌<◌, ◌+◌, ◌*◌, ◌%◌, ◌-◌, ℕ, zero, suc, List, [], ◌∷◌, ◌++◌, Some, Bool, true, false, Ok, nat_le, if◌then◌else◌, inl, inr, refl, sym, ap, subst, arith, drop, get_or, length, append_assoc}
use Rattle.std.proofs.lemmas.List.{append-nil, drop_all, get_or_default}
use Rattle.std.proofs.lemmas.List.Elements.{All-cons, All-nil}
use Rattle.std.proofs.lemmas.List.Folds.{Any-from_list_any}
use Rattle.std.proofs.lemmas.Bool.Decides.{Decides-eqb, nat_tests}
use Rattle.std.proofs.lemmas.Bool.{and_parts, cases_eq}
use Rattle.std.proofs.lemmas.Option.{slice_get_cases}
use Rattle.std.proofs.Math.Nat.{mod-lt}
use Rattle.std.specs.Prelude.{All, IsTrue, slice_get, ◌&&◌, ◌==◌}
use Rattle.flow_dag.specs.declared.edge.Edge.{Edge}
use Rattle.flow_dag.specs.Dag.{IsDag}
use Rattle.flow_dag.specs.Edges.{HasEdge}
use Rattle.tuple_trace.specs.declared.row.Row.{Row}
use Rattle.tuple_trace.specs.declared.value.Value.{Value}
use Rattle.jobs.specs.declared.column.Column.{Column}
use Rattle.jobs.specs.declared.column.ColumnKind.{ColumnKind}
use Rattle.jobs.specs.declared.column.ColumnKind.TheVariants as kind
use Rattle.jobs.specs.declared.func.Func.{Func}
use Rattle.jobs.specs.declared.func.NodeDef.{NodeDef}
use Rattle.jobs.specs.Law.{HasPorts}
use Rattle.jobs.specs.Limits.{HasShortTexts, IsShort}
use Rattle.jobs.specs.Nodes.{AreFromSources, IsSourceOf, is_source, is_source_node}
use Rattle.jobs.specs.Ports.{are_ports, is_entered}
use Rattle.jobs.proofs.RoleLemmas.{other_entered}
use Rattle.jobs.specs.Weights.{weight}
use Rattle.jobs.specs.JobView.{JobView}
use Rattle.payments.specs.Made.{draw_of, field_made, fields_made, made_rows, number_after, number_after_field, number_after_fields, number_after_row, row_made, rows_made_from, sources_from, value_made}
use Rattle.payments.specs.Reading.{first_value, work_max}
use Rattle.payments.proofs.Rest.{drop-item}

-- ---- the fields of a row

-- one more field
pub fields_made-step : (columns : List Column) (i : ℕ) (column : Column) (number after : ℕ) (fields : List Value) (field : Value) → i < length columns → column ≡ get_or columns i column
    → field ≡ field_made column number → after ≡ number_after_field column number
    → (fields ++ field ∷ []) ++ fields_made (drop (i + 1) columns) after ≡ fields ++ fields_made (drop i columns) number
unfolding fields_made
fields_made-step columns i column number after fields field less is made next =
    rw (drop-item columns i column less is, made, next) (append_assoc fields (field_made column number ∷ []) _)

pub number_after_fields-step : (columns : List Column) (i : ℕ) (column : Column) (number after : ℕ) → i < length columns → column ≡ get_or columns i column
    → after ≡ number_after_field column number
    → number_after_fields (drop (i + 1) columns) after ≡ number_after_fields (drop i columns) number
unfolding number_after_fields
number_after_fields-step columns i column number after less is next = rw (drop-item columns i column less is, next) refl

-- no column is left
pub fields_made-end : (columns : List Column) (i number : ℕ) (fields : List Value) → length columns ≤ i → fields ++ fields_made (drop i columns) number ≡ fields
unfolding fields_made
fields_made-end columns i number fields past = rw (drop_all i columns past) (append-nil fields)

pub number_after_fields-end : (columns : List Column) (i number : ℕ) → length columns ≤ i → number_after_fields (drop i columns) number ≡ number
unfolding number_after_fields
number_after_fields-end columns i number past = rw (drop_all i columns past) refl

-- ---- the rows

-- one more row
pub rows_made_from-step : (job : JobView) (number after row left : ℕ) (rows : List Row) (made : Row) → 0 < left → made ≡ row_made job number row → after ≡ number_after_row job number
    → (rows ++ made ∷ []) ++ rows_made_from job after (row + 1) (left - 1) ≡ rows ++ rows_made_from job number row left
unfolding rows_made_from
rows_made_from-step job number after row zero rows made some is next = absurd (omega (arith, some))
rows_made_from-step job number after row (suc left) rows made some is next =
    let same : suc left - 1 ≡ left = omega arith in
    rw (same, is, next) (append_assoc rows (row_made job number row ∷ []) _)

-- no row is left
pub rows_made_from-end : (job : JobView) (number row : ℕ) (rows : List Row) → rows ++ rows_made_from job number row 0 ≡ rows
unfolding rows_made_from
rows_made_from-end job number row rows = append-nil rows

pub length-rows_made_from : (job : JobView) (number row count : ℕ) → length (rows_made_from job number row count) ≡ count
unfolding rows_made_from
length-rows_made_from job number row zero = refl
length-rows_made_from job number row (suc count) =
    let rest = length-rows_made_from job (number_after_row job number) (row + 1) count in
    omega (arith, rest)

-- what holds of each row that is made
each_made : (P : Row → Type 0) (job : JobView) → ((number row : ℕ) → P (row_made job number row)) → (number row count : ℕ) → All P (rows_made_from job number row count)
unfolding rows_made_from
each_made P job each number row zero = All-nil P
each_made P job each number row (suc count) =
    All-cons P (row_made job number row) _ (each number row) (each_made P job each (number_after_row job number) (row + 1) count)

-- ---- texts

IsShort-value_made : (k : ColumnKind) (draw : ℕ) → IsShort (value_made k draw)
IsShort-value_made kind.Text draw = omega arith
IsShort-value_made kind.Number draw = omega arith
IsShort-value_made kind.Cents draw = omega arith

IsShort-first_value : (k : ColumnKind) → IsShort (first_value k)
IsShort-first_value kind.Text = omega arith
IsShort-first_value kind.Number = omega arith
IsShort-first_value kind.Cents = omega arith

IsShort-choice : (own : Bool) (k : ColumnKind) (draw : ℕ) → IsShort (if own then first_value k else value_made k draw)
IsShort-choice true k draw = IsShort-first_value k
IsShort-choice false k draw = IsShort-value_made k draw

AreShort-fields_made : (columns : List Column) (number : ℕ) → All IsShort (fields_made columns number)
unfolding fields_made
AreShort-fields_made [] number = All-nil IsShort
AreShort-fields_made (column ∷ columns) number =
    All-cons IsShort (field_made column number) _ (IsShort-choice column.own column.kind _) (AreShort-fields_made columns (number_after_field column number))

-- no row that is made has a longer text
pub HaveShortTexts-rows_made_from : (job : JobView) (number row count : ℕ) → All (λ (r : Row). HasShortTexts r.tuple) (rows_made_from job number row count)
HaveShortTexts-rows_made_from job = each_made (λ (r : Row). HasShortTexts r.tuple) job (λ number row. AreShort-fields_made job.columns (number_after number))

-- ---- sources

-- one more node
pub sources_from-source : (nodes : List NodeDef) (i : ℕ) (node : NodeDef) (found : List ℕ) → i < length nodes → node ≡ get_or nodes i node → is_source node.func ≡ true
    → (found ++ i ∷ []) ++ sources_from (i + 1) (drop (i + 1) nodes) ≡ found ++ sources_from i (drop i nodes)
unfolding sources_from
sources_from-source nodes i node found less is source = rw (drop-item nodes i node less is, source) (append_assoc found (i ∷ []) _)

pub sources_from-other : (nodes : List NodeDef) (i : ℕ) (node : NodeDef) (found : List ℕ) → i < length nodes → node ≡ get_or nodes i node → is_source node.func ≡ false
    → found ++ sources_from (i + 1) (drop (i + 1) nodes) ≡ found ++ sources_from i (drop i nodes)
unfolding sources_from
sources_from-other nodes i node found less is other = rw (drop-item nodes i node less is, other) refl

-- no node is left
pub sources_from-end : (nodes : List NodeDef) (i : ℕ) (found : List ℕ) → length nodes ≤ i → found ++ sources_from i (drop i nodes) ≡ found
unfolding sources_from
sources_from-end nodes i found past = rw (drop_all i nodes past) (append-nil found)

is_entered-other : (edges : List Edge) (v : ℕ) (f : Func) → are_ports edges v f ≡ true → is_source f ≡ false → is_entered edges v ≡ true
unfolding are_ports
is_entered-other edges v f ports other = other_entered f (is_entered edges v) other (and_parts _ _ (and_parts _ _ (and_parts _ _ ports).0).0).0

-- where no source is found, the first node is none, and none is found behind it
sources_from-cons : (b : Bool) (place : ℕ) (first : NodeDef) (nodes : List NodeDef) → is_source first.func ≡ b → length (sources_from place (first ∷ nodes)) ≡ 0
    → (is_source first.func ≡ false) × (length (sources_from (place + 1) nodes) ≡ 0)
unfolding sources_from
sources_from-cons true place first nodes source none = absurd (omega (arith, rw source at none))
sources_from-cons false place first nodes other none = (other, rw other at none)

-- where no source is found, no node is one
sources_from-none : (place : ℕ) (nodes : List NodeDef) → length (sources_from place nodes) ≡ 0 → (i : ℕ) (node : NodeDef) → slice_get nodes i ≡ Some node → is_source node.func ≡ false
sources_from-none place [] none i node at = absurd (cc at)
sources_from-none place (first ∷ nodes) none zero node at =
    let same : first ≡ node = cc at in
    rw (← same) (sources_from-cons (is_source first.func) place first nodes refl none).0
sources_from-none place (first ∷ nodes) none (suc i) node at =
    sources_from-none (place + 1) nodes (sources_from-cons (is_source first.func) place first nodes refl none).1 i node at

module _ (job : JobView) (n : ℕ) (order : List ℕ) (drawn : n ≡ length job.nodes) (dag : IsDag n job.edges order) (ports : HasPorts job) where
  -- the first node of the order, which no edge enters
  abbrev front : ℕ
  front = get_or order 0 0

  front-inside : front < n
  front-inside = dag.ordered.inside 0 0 (omega (arith, dag.some, dag.ordered.long))

  not-entered : is_entered job.edges front ≡ true → ⊥
  not-entered entered =
      let (k, e, lt, is, ends) = Any-from_list_any (λ (e : Edge). e.to == front) job.edges entered in
      let within : e.from < n = rw is at (dag.inside k e lt).0 in
      let (j, b, lj, at, same) = Any-from_list_any (λ b. b == e.from) order (dag.ordered.each e.from within) in
      let here : get_or order j 0 ≡ e.from = get_or_default order j 0 b lj ∙ (at ∙ (Decides-eqb b e.from).0 same) in
      let joined : HasEdge job.edges (get_or order j 0) front = (k, e, lt, is, (sym here, (Decides-eqb e.to front).0 ends)) in
      absurd (omega (arith, dag.ordered.forward j 0 (omega (arith, lj, dag.ordered.long)) (omega (arith, dag.some)) joined))

  -- a lawful job has a source
  pub some_source : 0 < length (sources_from 0 job.nodes)
  some_source =
      elim (cases_eq (length (sources_from 0 job.nodes)) 0) [
        | inl none ↦
            let inside : front < length job.nodes = omega (arith, drawn, front-inside) in
            elim (slice_get_cases job.nodes front).1 [
              | inl (node, lt, is, same) ↦
                  absurd (not-entered (is_entered-other job.edges front node.func (ports front node is) (sources_from-none 0 job.nodes none front node is)))
              | inr (past, other) ↦ absurd (omega (arith, inside, past))
            ]
        | inr some ↦ omega (arith, some)
      ]

-- the number is that of a source among these nodes
abbrev IsSourceIn : List NodeDef → ℕ → Type 0
IsSourceIn nodes v = IsTrue (is_source_node (slice_get nodes v))

found : (b : Bool) (all nodes : List NodeDef) (place : ℕ) (first : NodeDef) → is_source first.func ≡ b → slice_get all place ≡ Some first
    → All (IsSourceIn all) (sources_from (place + 1) nodes) → All (IsSourceIn all) (sources_from place (first ∷ nodes))
unfolding sources_from
found true all nodes place first source here later = rw source (All-cons (IsSourceIn all) place _ (rw here source) later)
found false all nodes place first other here later = rw other later

-- each number that is found is that of a source
IsSource-found : (all nodes : List NodeDef) (place : ℕ) → ((i : ℕ) (node : NodeDef) → slice_get nodes i ≡ Some node → slice_get all (place + i) ≡ Some node)
    → All (IsSourceIn all) (sources_from place nodes)
unfolding sources_from
IsSource-found all [] place inside = All-nil (IsSourceIn all)
IsSource-found all (first ∷ nodes) place inside =
    let zeroth : place + 0 ≡ place = omega arith in
    let here : slice_get all place ≡ Some first = subst (λ v. slice_get all v ≡ Some first) zeroth (inside 0 first refl) in
    let next : (i : ℕ) → place + suc i ≡ place + 1 + i = λ i. omega arith in
    found (is_source first.func) all nodes place first refl here
    (IsSource-found all nodes (place + 1) (λ i node at. subst (λ v. slice_get all v ≡ Some node) (next i) (inside (suc i) node at)))

-- each row that is made enters by a source
pub AreFromSources-rows_made_from : (job : JobView) (number row count : ℕ) → 0 < length (sources_from 0 job.nodes) → AreFromSources job (rows_made_from job number row count)
AreFromSources-rows_made_from job number row count some =
    each_made (λ (r : Row). IsSourceOf job r.source) job (λ number row.
    IsSource-found job.nodes job.nodes 0 (λ i node at. let same : i ≡ 0 + i = omega arith in subst (λ v. slice_get job.nodes v ≡ Some node) same at) (draw_of (number_after number) % length (sources_from 0 job.nodes)) 0 (mod-lt _ some)) number row count

-- the rows that are made, within the limit
pub made_rows-ok : (job : JobView) (seed count : ℕ) (made : List Row) → count * weight job ≤ work_max → made ≡ rows_made_from job seed 1 count → made_rows job seed count ≡ Ok made
made_rows-ok job seed count made within is =
    let test : nat_le (count * weight job) work_max ≡ true = grind (arith, nat_tests) in
    rw test (ap Ok (sym is))

-- the first draws of the seeds 0 and 1
draw-seed_0 : draw_of (number_after 0) ≡ 167951807
draw-seed_0 = refl

draw-seed_1 : draw_of (number_after 1) ≡ 908834774
draw-seed_1 = refl

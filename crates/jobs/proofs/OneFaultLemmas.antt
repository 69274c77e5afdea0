-- A job is refused for one fault alone: the checks come in one order, and each finds one fault at most.
use Rattle.std.proofs.Common.{◌≡◌, ◌≢◌, ◌<◌, ◌⊎◌, ℕ, List, Bool, All, inl, inr, refl, sym, ◌∙◌, ap, length, take, get_or, arith, Some}
use Rattle.std.proofs.lemmas.Bool.{both_ways, cases_order}
use Rattle.std.proofs.lemmas.List.{length-take}
use Rattle.std.proofs.lemmas.List.Elements.{All-get_or}
use Rattle.std.proofs.lemmas.Option.{get_or_from_slice_get, none-some, slice_get_within}
use Rattle.flow_dag.specs.declared.edge.Edge.{Edge}
use Rattle.flow_dag.specs.Edges.{HasEdge, IsInside, IsOutside}
use Rattle.flow_dag.specs.Paths.{Reaches}
use Rattle.jobs.specs.declared.fault.LawFault.{LawFault}
use Rattle.jobs.specs.declared.fault.LawFault.TheVariants as fault
use Rattle.jobs.specs.declared.fault.Named.TheVariants as named
use Rattle.jobs.specs.Law.{HasColumnNames, HasColumns, HasEndpoints, HasNoCycle, HasNodeNames, HasPorts, HasShape, HasTables, IsRefused, has_columns_of, has_ports_of, has_table_of}
use Rattle.jobs.specs.Limits.{HasLimits, Oversize, first_oversize_of}
use Rattle.jobs.specs.Names.{is_new_column, is_new_node}
use Rattle.jobs.specs.Places.{EachPasses, IsFirstFailure}
use Rattle.jobs.specs.Weights.{weight}
use Rattle.jobs.specs.JobView.{JobView}
use Rattle.jobs.proofs.EdgeLemmas.{IsOutside-inside, get_or-take}
use Rattle.jobs.proofs.LimitLemmas.{first_oversize_of-none}

-- at most one thing is so
abbrev IsOne : {A : Type 0} → (A → Type 0) → Type 0
IsOne P = (x y : _) → P x → P y → x ≡ y

-- the fault is made of what a check found
abbrev Made : {A : Type 0} → (A → LawFault) → (A → Type 0) → LawFault → Type 0
Made make Found f = (x : _) × (f ≡ make x) × Found x

-- the check made the fault, or else it passes and the fault is a later one
abbrev Checked : {A : Type 0} → (A → LawFault) → (A → Type 0) → Type 0 → (LawFault → Type 0) → LawFault → Type 0
Checked make Found Passes Later f = Made make Found f ⊎ (Passes × Later f)

Made-one : {A : Type 0} (make : A → LawFault) (Found : A → Type 0) → IsOne Found → IsOne (Made make Found)
Made-one make Found one f g (x, is, found) (y, is', found') = is ∙ ap make (one x y found found') ∙ sym is'

-- a check that finds one thing at most, and nothing where it passes
Checked-one :
    {A : Type 0} (make : A → LawFault) (Found : A → Type 0) (Passes : Type 0) (Later : LawFault → Type 0)
    → IsOne Found → ((x : A) → Found x → Passes → ⊥) → IsOne Later → IsOne (Checked make Found Passes Later)
Checked-one make Found Passes Later one fails later f g (inl made) (inl made') = Made-one make Found one f g made made'
Checked-one make Found Passes Later one fails later f g (inl (x, is, found)) (inr (passes, rest)) = absurd (fails x found passes)
Checked-one make Found Passes Later one fails later f g (inr (passes, rest)) (inl (x, is, found)) = absurd (fails x found passes)
Checked-one make Found Passes Later one fails later f g (inr (passes, rest)) (inr (passes', rest')) = later f g rest rest'

-- a place that no other can come before
least_one : (P : ℕ → Type 0) → ((i j : ℕ) → i < j → P i → P j → ⊥) → IsOne P
least_one P apart i j p q =
    elim (cases_order i j) [ inl same ↦ same | inr (inl lt) ↦ absurd (apart i j lt p q) | inr (inr gt) ↦ absurd (apart j i gt q p) ]

IsFirstFailure-one : {A : Type 0} (test : ℕ → A → Bool) (xs : List A) → IsOne (IsFirstFailure test xs)
IsFirstFailure-one test xs =
    least_one (IsFirstFailure test xs) (λ i j lt (((x, at, fails), before) : IsFirstFailure test xs i) (q : IsFirstFailure test xs j). both_ways _ fails (q.1 i x lt at))

IsFirstFailure-fails : {A : Type 0} (test : ℕ → A → Bool) (xs : List A) (i : ℕ) → IsFirstFailure test xs i → EachPasses test xs → ⊥
IsFirstFailure-fails test xs i ((x, at, fails), before) passes = both_ways _ fails (passes i x at)

-- the first edge with an end outside
abbrev IsFirstOutside : ℕ → List Edge → ℕ → Type 0
IsFirstOutside n edges i = IsOutside n edges i × All (IsInside n) (take i edges)

IsOutside-before : (n : ℕ) (edges : List Edge) (i j : ℕ) → i < j → IsOutside n edges i → All (IsInside n) (take j edges) → ⊥
IsOutside-before n edges i j lt (e, at, out) before =
    let within : i < length (take j edges) = omega (arith, length-take j edges, slice_get_within edges i e at, lt) in
    let here : get_or (take j edges) i e ≡ e = get_or-take edges j i e lt ∙ get_or_from_slice_get edges i e e at in
    let inside : IsInside n (get_or (take j edges) i e) = All-get_or (IsInside n) (take j edges) i e within before in
    out (rw here at inside)

IsFirstOutside-one : (n : ℕ) (edges : List Edge) → IsOne (IsFirstOutside n edges)
IsFirstOutside-one n edges =
    least_one (IsFirstOutside n edges) (λ i j lt (p : IsFirstOutside n edges i) (q : IsFirstOutside n edges j). IsOutside-before n edges i j lt p.0 q.1)

-- the least node on a cycle
abbrev IsLeastOnCycle : List Edge → ℕ → Type 0
IsLeastOnCycle edges v = Reaches (HasEdge edges) v v × ((u : ℕ) → u < v → ¬ Reaches (HasEdge edges) u u)

IsLeastOnCycle-one : (edges : List Edge) → IsOne (IsLeastOnCycle edges)
IsLeastOnCycle-one edges =
    least_one (IsLeastOnCycle edges) (λ i j lt (p : IsLeastOnCycle edges i) (q : IsLeastOnCycle edges j). q.1 i lt p.0)

module _ (job : JobView) where
  abbrev IsSize : Oversize → Type 0
  IsSize size = first_oversize_of job ≡ Some size

  abbrev IsWeight : ℕ → Type 0
  IsWeight number = number ≡ weight job

  -- after the checks of the shape: the fault is of a cycle, of a column, of a table or of the weight
  abbrev OfGraph : LawFault → Type 0
  OfGraph =
      Checked fault.Cycle (IsLeastOnCycle job.edges) (HasNoCycle job)
      (Checked fault.Column (IsFirstFailure (has_columns_of job) job.nodes) (HasColumns job)
      (Checked fault.NoTable (IsFirstFailure (has_table_of job) job.nodes) (HasTables job)
      (Made fault.Weight IsWeight)))

  -- the fault is the first that the checks find, in their order
  abbrev Refusal : LawFault → Type 0
  Refusal =
      Checked (λ (size : Oversize). fault.Limit size.0 size.1) IsSize (HasLimits job)
      (Checked (fault.NameTwice named.Column) (IsFirstFailure (is_new_column job.columns) job.columns) (HasColumnNames job)
      (Checked (fault.NameTwice named.Node) (IsFirstFailure (is_new_node job.nodes) job.nodes) (HasNodeNames job)
      (Checked fault.NoSuchEnd (IsFirstOutside (length job.nodes) job.edges) (HasEndpoints job)
      (Checked fault.Ports (IsFirstFailure (has_ports_of job) job.nodes) (HasPorts job) OfGraph))))

  -- a check of items one by one, with the checks after it
  items-one :
      {A : Type 0} (make : ℕ → LawFault) (test : ℕ → A → Bool) (xs : List A) (Later : LawFault → Type 0)
      → IsOne Later → IsOne (Checked make (IsFirstFailure test xs) (EachPasses test xs) Later)
  items-one make test xs Later later = Checked-one _ _ _ _ (IsFirstFailure-one test xs) (IsFirstFailure-fails test xs) later

  OfGraph-one : IsOne OfGraph
  OfGraph-one =
      Checked-one _ _ _ _ (IsLeastOnCycle-one job.edges) (λ v found passes. passes v found.0)
      (items-one _ _ _ _ (items-one _ _ _ _ (Made-one fault.Weight IsWeight (λ x y is is'. is ∙ sym is'))))

  Refusal-one : IsOne Refusal
  Refusal-one =
      Checked-one _ _ _ _ (λ x y is is'. cc (is, is')) (λ size is limits. none-some size (sym (first_oversize_of-none job limits) ∙ is))
      (items-one _ _ _ _ (items-one _ _ _ _
      (Checked-one _ _ _ _ (IsFirstOutside-one (length job.nodes) job.edges)
      (λ i found passes. IsOutside-inside (length job.nodes) job.edges i found.0 passes)
      (items-one _ _ _ _ OfGraph-one))))

  shaped : (f : LawFault) → HasShape job → OfGraph f → Refusal f
  shaped f (limits, columns, nodes, ends, ports) later = inr (limits, inr (columns, inr (nodes, inr (ends, inr (ports, later)))))

  -- what a fault says of a job, by the checks
  IsRefused-checked : (f : LawFault) → f ≢ fault.NoMemory → IsRefused f job → Refusal f
  IsRefused-checked (fault.Limit which number) plain size = inl ((which, number), refl, size)
  IsRefused-checked (fault.NameTwice named.Column i) plain (limits, found) = inr (limits, inl (i, refl, found))
  IsRefused-checked (fault.NameTwice named.Node i) plain (limits, columns, found) = inr (limits, inr (columns, inl (i, refl, found)))
  IsRefused-checked (fault.NoSuchEnd i) plain (limits, columns, nodes, outside, before) =
      inr (limits, inr (columns, inr (nodes, inl (i, refl, (outside, before)))))
  IsRefused-checked (fault.Ports v) plain (limits, columns, nodes, ends, found) =
      inr (limits, inr (columns, inr (nodes, inr (ends, inl (v, refl, found)))))
  IsRefused-checked (fault.Cycle v) plain (shape, path, least) = shaped (fault.Cycle v) shape (inl (v, refl, (path, least)))
  IsRefused-checked (fault.Column v) plain (shape, acyclic, found) = shaped (fault.Column v) shape (inr (acyclic, inl (v, refl, found)))
  IsRefused-checked (fault.NoTable v) plain (shape, acyclic, columns, found) =
      shaped (fault.NoTable v) shape (inr (acyclic, inr (columns, inl (v, refl, found))))
  IsRefused-checked (fault.Weight number) plain (shape, acyclic, columns, tables, is, over) =
      shaped (fault.Weight number) shape (inr (acyclic, inr (columns, inr (tables, (number, refl, is)))))
  IsRefused-checked fault.NoMemory plain r = absurd (plain refl)

-- a job is refused for one fault alone
pub IsRefused-one : (f g : LawFault) (job : JobView) → f ≢ fault.NoMemory → g ≢ fault.NoMemory → IsRefused f job → IsRefused g job → f ≡ g
IsRefused-one f g job plain plain' first second =
    Refusal-one job f g (IsRefused-checked job f plain first) (IsRefused-checked job g plain' second)

-- When a job is lawful, and what is wrong with one that isn't.
use Rattle.std.specs.Prelude.{◌≡◌, ◌≢◌, ⊤, ℕ, ◌<◌, ◌≤◌, Bool, All, Some, length, take}
use Rattle.flow_dag.specs.Edges.{HasEdge, IsInside, IsOutside}
use Rattle.flow_dag.specs.Paths.{IsAcyclic, Reaches}
use Rattle.jobs.specs.declared.fault.LawFault.{LawFault}
use Rattle.jobs.specs.declared.fault.LawFault.TheVariants as fault
use Rattle.jobs.specs.declared.fault.Named.TheVariants as named
use Rattle.jobs.specs.declared.func.NodeDef.{NodeDef}
use Rattle.jobs.specs.Fits.{fits_columns, fits_table}
use Rattle.jobs.specs.Limits.{HasLimits, first_oversize_of}
use Rattle.jobs.specs.Names.{is_new_column, is_new_node}
use Rattle.jobs.specs.Places.{EachPasses, IsFirstFailure}
use Rattle.jobs.specs.Ports.{are_ports}
use Rattle.jobs.specs.Weights.{weight}
use Rattle.jobs.specs.JobView.{JobView}
use Rattle.jobs.specs.declared.limits.TheConstants.{MAX_WEIGHT}

-- the columns have different names
abbrev pub HasColumnNames : JobView → Type 0
HasColumnNames job = EachPasses (is_new_column job.columns) job.columns

-- the nodes have different names
abbrev pub HasNodeNames : JobView → Type 0
HasNodeNames job = EachPasses (is_new_node job.nodes) job.nodes

-- both endpoints of each edge are nodes
abbrev pub HasEndpoints : JobView → Type 0
HasEndpoints job = All (IsInside (length job.nodes)) job.edges

-- the edges of the node are those of its kind
abbrev pub has_ports_of : JobView → ℕ → NodeDef → Bool
has_ports_of job v node = are_ports job.edges v node.func

-- the edges of each node are those of its kind
abbrev pub HasPorts : JobView → Type 0
HasPorts job = EachPasses (has_ports_of job) job.nodes

-- no path leads from a node back to it
abbrev pub HasNoCycle : JobView → Type 0
HasNoCycle job = IsAcyclic (HasEdge job.edges)

-- the function of the node fits the columns
abbrev pub has_columns_of : JobView → ℕ → NodeDef → Bool
has_columns_of job v node = fits_columns job.columns job.tables node.func

-- the function of each node fits the columns
abbrev pub HasColumns : JobView → Type 0
HasColumns job = EachPasses (has_columns_of job) job.nodes

-- the table that the node names is there
abbrev pub has_table_of : JobView → ℕ → NodeDef → Bool
has_table_of job v node = fits_table job.tables node.func

-- the tables that nodes name are there
abbrev pub HasTables : JobView → Type 0
HasTables job = EachPasses (has_table_of job) job.nodes

-- sizes, names and edges are as they have to be
abbrev pub HasShape : JobView → Type 0
HasShape job =
    HasLimits job × HasColumnNames job × HasNodeNames job × HasEndpoints job × HasPorts job

-- a lawful job
pub record IsLawful (job : JobView) : Type 0 where
  pub limits : HasLimits job
  pub column_names : HasColumnNames job
  pub node_names : HasNodeNames job
  pub endpoints : HasEndpoints job
  pub ports : HasPorts job
  pub acyclic : HasNoCycle job
  pub columns : HasColumns job
  pub tables : HasTables job
  pub weight : weight job ≤ MAX_WEIGHT

-- what a fault says of the job: it stands, at the first place that has it, and none of the faults
-- above it does. Out of memory says nothing
abbrev pub IsRefused : LawFault → JobView → Type 0
IsRefused (fault.Limit which number) job = first_oversize_of job ≡ Some (which, number)
IsRefused (fault.NameTwice named.Column i) job =
    HasLimits job × IsFirstFailure (is_new_column job.columns) job.columns i
IsRefused (fault.NameTwice named.Node i) job =
    HasLimits job × HasColumnNames job × IsFirstFailure (is_new_node job.nodes) job.nodes i
IsRefused (fault.NoSuchEnd i) job =
    HasLimits job
    × HasColumnNames job
    × HasNodeNames job
    × IsOutside (length job.nodes) job.edges i
    × All (IsInside (length job.nodes)) (take i job.edges)
IsRefused (fault.Ports v) job =
    HasLimits job × HasColumnNames job × HasNodeNames job × HasEndpoints job
    × IsFirstFailure (has_ports_of job) job.nodes v
IsRefused (fault.Cycle v) job =
    HasShape job
    × Reaches (HasEdge job.edges) v v
    × ((u : ℕ) → u < v → ¬ Reaches (HasEdge job.edges) u u)
IsRefused (fault.Column v) job =
    HasShape job
    × HasNoCycle job
    × IsFirstFailure (has_columns_of job) job.nodes v
IsRefused (fault.NoTable v) job =
    HasShape job
    × HasNoCycle job
    × HasColumns job
    × IsFirstFailure (has_table_of job) job.nodes v
IsRefused (fault.Weight number) job =
    HasShape job
    × HasNoCycle job
    × HasColumns job
    × HasTables job
    × (number ≡ weight job)
    × (MAX_WEIGHT < number)
IsRefused fault.NoMemory job = ⊤

-- no job is both lawful and refused, out of memory aside
abbrev pub Excludes : Type 0
Excludes = (f : LawFault) (job : JobView) → f ≢ fault.NoMemory → IsLawful job → IsRefused f job → ⊥

-- no job is refused for two faults, out of memory aside
abbrev pub HaveOneFault : Type 0
HaveOneFault =
    (f g : LawFault) (job : JobView) → f ≢ fault.NoMemory → g ≢ fault.NoMemory →
    IsRefused f job → IsRefused g job → f ≡ g

-- What the type of a setup keeps: its requests are accepted, and have the planner's plans.
use Rattle.std.specs.Prelude.{◌≡◌, ◌↔◌, ◌≤◌, ◌<◌, ◌^◌, ◌+◌, ◌++◌, ◌==◌, ◌&&◌, ◌||◌, ℕ, Bool, false}
use Rattle.std.specs.Prelude.{IsTrue, List, nat_le}
use Rattle.std.specs.Prelude.{length, take, Option, Some, None, slice_get, if◌then◌else◌}
use Rattle.std.specs.List.{list_any}
use Rattle.cover_planner.specs.declared.cover.Plan.{Plan}
use Rattle.cover_planner.specs.Plan.{IsPlan}
use Rattle.flow_dag.specs.Masks.{Has}
use Rattle.jobs.specs.Nodes.{IsSourceOf, is_free, is_replicate, is_split}
use Rattle.jobs.specs.JobView.{JobView}
use Rattle.jobs.specs.declared.func.NodeDef.{NodeDef}
use Rattle.versions.specs.Book.{is_named}
use Rattle.versions.specs.declared.request.Change.{Change}
use Rattle.versions.specs.declared.request.Request.{Request}
use Rattle.flow_model.specs.SetupView.{SetupView, splits_of}

-- ---- which nodes make several tuples of one

-- there is a node, and it is a split
abbrev pub is_split_node : Option NodeDef → Bool
is_split_node None = false
is_split_node (Some node) = is_split node.func

-- there is a node, and it is a replicate
abbrev pub is_replicate_node : Option NodeDef → Bool
is_replicate_node None = false
is_replicate_node (Some node) = is_replicate node.func

-- the job makes the node a replicate; no request changes one
abbrev pub copies_at : List NodeDef → ℕ → Bool
copies_at nodes node = is_replicate_node (slice_get nodes node)

-- the change makes the node a split
abbrev pub makes_split : ℕ → Change → Bool
makes_split node change = change.node == node && is_split change.func

-- some request makes the node a split
abbrev pub is_made_split : List Request → ℕ → Bool
is_made_split requests node = list_any (λ (request : Request). list_any
    (makes_split node) request.changes) requests

-- the function that the job, or some request, gives the node is a split
abbrev pub splits_at : List NodeDef → List Request → ℕ → Bool
splits_at nodes requests node = is_split_node (slice_get nodes node) || is_made_split requests node

-- a later request may make the node a split: its kind is free, and its roof is 2 or more
abbrev pub may_become_split : Option NodeDef → Bool
may_become_split None = false
may_become_split (Some node) = is_free node.func && nat_le 2 node.roof

-- ---- plans

-- the plan is the planner's for the nodes that it asks
abbrev pub IsPlanBy : JobView → ℕ → Plan → Type 0
IsPlanBy job splits plan = IsPlan job.edges (Has splits)
    (λ (node : ℕ). IsTrue (copies_at job.nodes node)) plan.asked plan

-- the plan is that, and it asks every node that the request changes
pub record IsPlanFor (job : JobView) (splits : ℕ) (request : Request) (plan : Plan) : Type 0 where
  pub planned : IsPlanBy job splits plan
  pub asked : (node : ℕ) → IsTrue (is_named request.changes node) → Has plan.asked node

-- the mask holds every node that may make pieces of a tuple, but no source and nothing outside of
-- the job; each request has its plan, and no plan has a source for a member; where rows and
-- requests have one order, a plan asks every node that a request up to its own changes
pub record IsPlanned (setup : SetupView) : Type 0 where
  pub splits : (node : ℕ) → IsTrue (splits_at setup.job.nodes setup.requests node)
      → Has (splits_of setup) node
  pub sources : (node : ℕ) → IsSourceOf setup.job node → ¬ Has (splits_of setup) node
  pub inside : splits_of setup < 2 ^ length setup.job.nodes
  pub one_each : length setup.plans ≡ length setup.requests
  pub plans :
      (r : ℕ) (request : Request) (plan : Plan) → slice_get setup.requests r ≡ Some request
      → slice_get setup.plans r ≡ Some plan →
      IsPlanFor setup.job (splits_of setup) request plan
  pub no_source : (r node : ℕ) (plan : Plan) → slice_get setup.plans r ≡ Some plan
      → IsSourceOf setup.job node → ¬ Has plan.members node
  pub ordered :
      IsTrue setup.ordered → (s r : ℕ) (request : Request) (plan : Plan) → s ≤ r
      → slice_get setup.requests s ≡ Some request →
      slice_get setup.plans r ≡ Some plan → (node : ℕ) → IsTrue (is_named request.changes node)
      → Has plan.asked node

-- ---- nothing else

-- the request changes the node
abbrev pub names_node : ℕ → Request → Bool
names_node node request = is_named request.changes node

-- there is a request, and it changes the node
abbrev pub is_named_by : Option Request → ℕ → Bool
is_named_by None node = false
is_named_by (Some request) node = names_node node request

-- the set that is planned for the request at this place holds the node: the request changes it, or,
-- where rows and requests have one order, some request up to this one does
abbrev pub is_planned : Bool → List Request → ℕ → ℕ → Bool
is_planned ordered requests r node =
    if ordered then list_any (names_node node) (take (r + 1) requests)
    else is_named_by (slice_get requests r) node

-- the plan is the planner's for exactly these nodes
pub record IsPlanOf (job : JobView) (splits : ℕ) (planned : ℕ → Bool) (plan : Plan) : Type 0 where
  pub by : IsPlanBy job splits plan
  pub asked : (node : ℕ) → Has plan.asked node ↔ IsTrue (planned node)

-- the requests from this place on have the planner's plan for the set that is planned for each
pub record ArePlansFrom (first : ℕ) (job : JobView) (splits : ℕ) (ordered : Bool)
    (requests : List Request) (plans : List Plan) : Type 0 where
  pub one_each : length plans ≡ length requests
  pub each : (r : ℕ) (plan : Plan) → first ≤ r → slice_get plans r ≡ Some plan
      → IsPlanOf job splits (is_planned ordered requests r) plan

-- each request has the planner's plan for the set that is planned for it
abbrev pub ArePlansOf : JobView → ℕ → Bool → List Request → List Plan → Type 0
ArePlansOf job splits ordered requests plans = ArePlansFrom 0 job splits ordered requests plans

-- the masks hold nothing else: the nodes that these are, and for each request the set that is
-- planned
pub record IsExactFor (held : ℕ → Bool) (setup : SetupView) : Type 0 where
  pub splits : (node : ℕ) → Has (splits_of setup) node ↔ IsTrue (held node)
  pub plans : ArePlansOf setup.job (splits_of setup) setup.ordered setup.requests setup.plans

-- the mask of splits holds the nodes that the job or a request makes splits
abbrev pub IsExact : SetupView → Type 0
IsExact setup = IsExactFor (splits_at setup.job.nodes setup.requests) setup

-- it also holds the nodes that later requests may make splits
abbrev pub IsExactForStream : SetupView → Type 0
IsExactForStream setup = IsExactFor
    (λ node. splits_at setup.job.nodes setup.requests node
    || may_become_split (slice_get setup.job.nodes node)) setup

-- ---- later requests

-- the setup with these requests and plans after its own; all else stays
abbrev pub extended : SetupView → List Request → List Plan → SetupView
extended setup requests plans =
    record setup { requests = setup.requests ++ requests; plans = setup.plans ++ plans }

-- The setup is followed by these requests. Its own requests and plans stay, and the later ones have
-- the planner's plans for the mask of splits that it has.
pub record IsFollowed (setup : SetupView) (requests : List Request) (followed : SetupView)
    : Type 0 where
  pub plans : List Plan
  pub extended_is : followed ≡ extended setup requests plans
  pub plans_are : ArePlansFrom (length setup.requests) followed.job (splits_of followed)
      followed.ordered followed.requests followed.plans

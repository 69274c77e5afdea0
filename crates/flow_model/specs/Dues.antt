-- The dues of a worker: the requests that it has still to turn.
use Rattle.std.specs.Prelude.{◌≡◌, ◌<◌, ◌==◌, ℕ, zero, suc, Bool, false, IfSome, List, [], ◌∷◌}
use Rattle.std.specs.Prelude.{filter, map, Option, Some, None, slice_get}
use Rattle.std.specs.List.{enumerate_from}
use Rattle.flow_dag.specs.Masks.{has}
use Rattle.jobs.specs.JobView.{JobView}
use Rattle.marker_align.specs.declared.decision.Due.{Due}
use Rattle.tuple_trace.specs.declared.tuple.Item.TheVariants as item
use Rattle.flow_model.specs.declared.topology.Lane.{Lane}
use Rattle.flow_model.specs.Covers.{covers_edge, is_head}
use Rattle.flow_model.specs.Lanes.{lanes}
use Rattle.flow_model.specs.SetupView.{SetupView}
use Rattle.flow_model.specs.Replay.{marker}
use Rattle.flow_model.specs.Duties.{dues_after}

-- The due with this number. The dues of a node are numbered by their places among those from a
-- beginning on, from 1, so there is no due 0.
abbrev pub due_at : SetupView → ℕ → ℕ → ℕ → Option ℕ
due_at setup turned node zero = None
due_at setup turned node (suc place) = slice_get (dues_after setup turned node) place

-- the edges of the lanes into a worker, by the numbers of these lanes
abbrev pub edges_in : JobView → ℕ → List ℕ
edges_in job worker = map (λ (p : ℕ × Lane). p.1.edge)
    (filter (λ (p : ℕ × Lane). p.1.receiver == worker) (enumerate_from 0 (lanes job)))

-- these requests are still to be turned at a node, and the first of them is the due's
abbrev pub AreDues : SetupView → ℕ → List ℕ → Option Due → Type 0
AreDues setup node dues None = dues ≡ []
AreDues setup node dues (Some due) = dues ≡ due.request ∷ dues_after setup due.request node

-- a due says of its request what the setup does; the edges are those of the worker's lanes in
pub record IsDueOf (setup : SetupView) (node : ℕ) (edges : List ℕ) (due : Due) : Type 0 where
  pub head : due.head ≡ is_head setup due.request node
  pub marker_is : marker setup due.request ≡ item.Mark due.request due.cover ∷ []
  pub lanes : (place edge : ℕ) → slice_get edges place ≡ Some edge
      → has due.lanes place ≡ covers_edge setup due.request edge

-- the next due after a request
pub record IsDueAfter (setup : SetupView) (node : ℕ) (edges : List ℕ) (last : ℕ)
    (due : Option Due) : Type 0 where
  pub dues : AreDues setup node (dues_after setup last node) due
  pub is_due : IfSome due (IsDueOf setup node edges)
  pub later : IfSome due (λ (d : Due). last < d.request)

-- the edge, if there is one, is one of these
abbrev pub is_on : ℕ → Option ℕ → Bool
is_on edges None = false
is_on edges (Some edge) = has edges edge

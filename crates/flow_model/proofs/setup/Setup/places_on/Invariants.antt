use Rattle.std.proofs.Common.{ℕ, ◌↔◌, take}
use Rattle.std.specs.Prelude.{IsTrue, slice_get}
use Rattle.flow_dag.specs.Masks.{Has}
use Rattle.flow_model.specs.Dues.{edges_in, is_on}
use Rattle.flow_model.specs.Setup.{setup_view}
use Rattle.flow_model.proofs.setup.Setup.places_on.Given as goal

abbrev pub invariant-loop-place : goal.invariant-loop-place
invariant-loop-place l = (place : ℕ) → Has l.places place ↔ IsTrue (is_on l.edges (slice_get (take l.place (edges_in (setup_view l.self).job l.worker)) place))

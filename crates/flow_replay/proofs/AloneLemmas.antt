-- What one row makes by itself, one output on.
use Rattle.std.proofs.Common.{◌≡◌, ◌+◌, ◌==◌, ◌&&◌, ℕ, zero, suc, Bool, true, false, List, [], ◌∷◌, Option, Some, None, refl}
use Rattle.std.specs.Prelude.{option_map, if◌then◌else◌}
use Rattle.std.specs.List.{enumerate_from}
use Rattle.flow_dag.specs.declared.edge.Edge.{Edge}
use Rattle.jobs.specs.JobView.{JobView}
use Rattle.jobs.specs.declared.func.Func.{Func}
use Rattle.tuple_trace.specs.declared.tuple.Tuple.{Tuple}
use Rattle.flow_model.specs.Alone.{lands}
use Rattle.flow_model.specs.Lanes.{first_on}

-- the first edge on a port
abbrev pub first_found : ℕ → ℕ → List Edge → Option Edge
first_found node port [] = None
first_found node port (edge ∷ edges) = if (edge.from == node) && (edge.port == port) then Some edge
    else first_found node port edges

pub found-first_on : (node port i : ℕ) (edges : List Edge) → first_found node port edges
    ≡ option_map (λ (found : ℕ × Edge). found.1) (first_on node port (enumerate_from i edges))
found-first_on node port i [] = refl
found-first_on node port i (edge ∷ edges) = go ((edge.from == node) && (edge.port == port))
    (found-first_on node port (i + 1) edges)
  where
    go : (b : Bool) → first_found node port edges ≡ option_map (λ (found : ℕ × Edge). found.1)
        (first_on node port (enumerate_from (i + 1) edges))
        → (if b then Some edge else first_found node port edges)
        ≡ option_map (λ (found : ℕ × Edge). found.1) (if b then Some (i, edge) else first_on node
        port (enumerate_from (i + 1) edges))
    go true later = refl
    go false later = later

pub lands-none : (job : JobView) (table : ℕ → Option Func) (nodes node : ℕ) (tuple : Tuple) →
    table node ≡ None → lands job table nodes node tuple ≡ []
lands-none job table zero node tuple is = refl
lands-none job table (suc nodes) node tuple is = rw is refl

pub found_here : (node port : ℕ) (edges rest : List Edge) (edge : Edge) → edges ≡ edge ∷ rest →
    ((edge.from == node) && (edge.port == port)) ≡ true → first_found node port edges ≡ Some edge
found_here node port edges rest edge are is = rw (are, is) refl

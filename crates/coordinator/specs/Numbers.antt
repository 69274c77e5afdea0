-- The numbers of requests in the boxes of workers.
use Rattle.std.specs.Prelude.{ℕ, zero, suc, ◌-◌, Option, Some, None, slice_get, if◌then◌else◌}
use Rattle.flow_model.specs.Covers.{covers, is_head}
use Rattle.flow_model.specs.SetupView.{SetupView, Worker}
use Rattle.flow_model.specs.Workers.{workers_in}

abbrev pub node_in : Option Worker → ℕ
node_in None = 0
node_in (Some post) = post.node

-- the node of a worker
abbrev pub node_at : SetupView → ℕ → ℕ
node_at setup worker = node_in (slice_get (workers_in setup.job) worker)

-- how many of the first requests cover a node
abbrev pub covered_to : SetupView → ℕ → ℕ → ℕ
covered_to setup node zero = 0
covered_to setup node (suc r) =
    if covers setup (suc r) node then suc (covered_to setup node r) else covered_to setup node r

-- How many of the requests up to this one cover a worker, without those that were turned before the
-- beginning. It is the number of the last of them in the worker's box.
abbrev pub covering_count : SetupView → ℕ → ℕ → ℕ → ℕ
covering_count setup turned worker request =
    covered_to setup (node_at setup worker) request - covered_to setup (node_at setup worker) turned

-- The number in a worker's box once the requests up to this one are issued. It is that of the last
-- of them that the worker heads, and 0 if there is none. A request that was turned before the
-- beginning has the number 0.
abbrev pub posted_number : SetupView → ℕ → ℕ → ℕ → ℕ
posted_number setup turned worker zero = 0
posted_number setup turned worker (suc r) =
    if is_head setup (suc r) (node_at setup worker)
    then covering_count setup turned worker (suc r) else posted_number setup turned worker r

-- What a run from a beginning on leaves the rows that it feeds.
use Rattle.std.specs.Prelude.{ℕ}
use Rattle.flow_model.specs.Run.{Ran}
use Rattle.flow_model.specs.Whole.{IsMetOnce, IsWhole}

-- each row, with all that is made of it, met only old functions or only new ones at the nodes of
-- each request, and no identity came to a node twice
pub record HasWholeRows (ran : Ran) : Type 0 where
  pub whole : (request row : ℕ) → IsWhole ran request row
  pub once : (node : ℕ) → IsMetOnce ran node

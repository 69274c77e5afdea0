-- What a run leaves every row: the one word for all that is promised of it.
use Rattle.std.specs.Prelude.{ℕ, List, length}
use Rattle.tuple_trace.specs.declared.row.Row.{Row}
use Rattle.flow_model.specs.Fresh.{IsFresh, IsFreshBefore}
use Rattle.flow_model.specs.OneTable.{HasNoCounts, IsOneTable}
use Rattle.flow_model.specs.Run.{Ran}
use Rattle.flow_model.specs.Whole.{IsMetOnce, IsWhole}

-- Each row, with all that is made of it, met old functions alone or new ones alone at the nodes of
-- each request; no identity came to a node twice; requests were in force in time at the heads of
-- their covers; and where no node counts, the sinks got what each row makes by one table of
-- functions.
pub record IsConsistent (rows : List Row) (ran : Ran) : Type 0 where
  pub whole : (request row : ℕ) → IsWhole ran request row
  pub once : (node : ℕ) → IsMetOnce ran node
  pub fresh : IsFresh (length rows) ran
  pub fresh_before : IsFreshBefore (length rows) ran
  pub one_table : HasNoCounts ran.setup.job → IsOneTable rows ran

-- How large an engine is.
use Rattle.std.specs.Prelude.{ℕ, ◌≤◌}
use Rattle.tuple_trace.specs.declared.limits.TheConstants.{MAX_CAPACITY, MAX_THREADS}

-- An engine has 1 to 16 threads, and its lanes hold 1 to 64 items.
pub record IsEngineSize (threads capacity : ℕ) : Type 0 where
  pub some_threads : 1 ≤ threads
  pub few_threads : threads ≤ MAX_THREADS
  pub some_items : 1 ≤ capacity
  pub few_items : capacity ≤ MAX_CAPACITY

use Rattle.std.specs.Prelude.{◌≡◌, ℕ, ◌<◌, ◌↔◌, List, slice_index}
use Rattle.flow_dag.specs.declared.limits.TheConstants.{MAX_NODES}

-- The nodes of which `N` holds have numbers in `part`, and all others 255. Two nodes have the same
-- number where `S` says that they belong together, and before the first node with a number stand
-- nodes with all smaller numbers.
pub record IsNumbered (N : ℕ → Type 0) (S : ℕ → ℕ → Type 0) (part : List ℕ) : Type 0 where
  pub outside : (a : ℕ) → a < MAX_NODES → ¬ N a → slice_index part a ≡ 255
  pub small : (a : ℕ) → N a → slice_index part a < MAX_NODES
  pub same : (a b : ℕ) → N a → N b → ((slice_index part a ≡ slice_index part b) ↔ S a b)
  pub least :
      (a p : ℕ) → N a → p < slice_index part a →
      (b : ℕ) × (b < a) × N b × (slice_index part b ≡ p)

-- The rule of the queue of runners.
use Rattle.std.specs.Prelude.{◌≡◌, ℕ, Bool, true, zero, suc, ◌+◌, ◌<◌, cond, nat_lt, ◌==◌, List, []}
use Rattle.std.specs.Prelude.{◌∷◌, ◌++◌, map, length}
use Rattle.std.specs.List.{All, slice_index_or}
use mathlib.Core.Option.{some}
use lib.ListN.{get_elem?}
use Rattle.flow_runner.specs.Runner.{EndpointsIs, RunnerIs}
use Rattle.flow_runner.specs.declared.rule.Tally.{Tally}
use Rattle.tuple_trace.specs.declared.limits.TheConstants.{MAX_THREADS}

abbrev pub tally : ℕ → List ℕ → Tally
tally parts list = record { parts = parts; list = list }

-- f of each, added up
abbrev pub added_up : {V : Type 0} → (V → ℕ) → List V → ℕ
added_up f [] = 0
added_up f (x ∷ xs) = f x + added_up f xs

-- the numbers below n
abbrev pub all_below : ℕ → List ℕ
all_below zero = []
all_below (suc n) = all_below n ++ n ∷ []

abbrev pub one_if : Bool → ℕ
one_if b = cond b 1 0

-- how often a number is in the list
abbrev pub times : ℕ → List ℕ → ℕ
times x [] = 0
times x (y ∷ ys) = one_if (y == x) + times x ys

-- the list with one x less
abbrev pub without : ℕ → List ℕ → List ℕ
without x [] = []
without x (y ∷ ys) = cond (y == x) ys (y ∷ without x ys)

abbrev pub numbers : List RunnerIs → List ℕ
numbers rs = map (λ (r : RunnerIs). r.number) rs

-- what no turn changes of a runner
abbrev pub fixed_of : RunnerIs → ℕ × EndpointsIs
fixed_of r = (r.number, r.endpoints)

abbrev pub HasEnded : RunnerIs → Type 0
HasEnded r = r.is_done ≡ true

-- under the runner's number the charter has its endpoints
abbrev pub HasItsEndpoints : List EndpointsIs → RunnerIs → Type 0
HasItsEndpoints charter r =
    (r.number < length charter) × (slice_index_or charter r.number r.endpoints ≡ r.endpoints)

-- each of the numbers below n is in the list once, and no other
abbrev pub HasEachOf : ℕ → List ℕ → Type 0
HasEachOf n list = (x : ℕ) → times x list ≡ one_if (nat_lt x n)

-- a pass with all parts has each number once that isn't in the queue
abbrev pub HasEachWith : List EndpointsIs → Tally → List RunnerIs → Type 0
HasEachWith charter v items =
    v.parts ≡ MAX_THREADS
    → (x : ℕ) → times x (numbers items) + times x v.list ≡ one_if (nat_lt x (length charter))

-- a pass without a part has no number
abbrev pub IdleIsEmpty : List Tally → Type 0
IdleIsEmpty views =
    (port : ℕ) (v : Tally) → get_elem? views port ≡ some v → v.parts ≡ 0 → v.list ≡ []

-- The queue and the passes together have each number once and `MAX_THREADS` parts. Each runner in
-- the queue agrees with the charter.
pub record IsEachOnce (charter : List EndpointsIs) (items : List RunnerIs) (views : List Tally)
    : Type 0 where
  pub parts : added_up (λ v. v.parts) views ≡ MAX_THREADS
  pub once :
      (x : ℕ) → times x (numbers items) + added_up (λ v. times x v.list) views
      ≡ one_if (nat_lt x (length charter))
  pub agree : All (HasItsEndpoints charter) items
  pub idle : IdleIsEmpty views

-- These runners are those of a pass's list, and agree with the charter.
pub record AreListed (charter : List EndpointsIs) (rs : List RunnerIs) (list : List ℕ)
    : Type 0 where
  pub same : (x : ℕ) → times x (numbers rs) ≡ times x list
  pub agree : All (HasItsEndpoints charter) rs

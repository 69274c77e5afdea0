-- What the law of a journal asks of each worker of a setup.
use Rattle.std.specs.Prelude.{ℕ, zero, suc, ◌+◌, ◌-◌, List, [], ◌∷◌, filter, length}
use Rattle.flow_model.specs.SetupView.{SetupView, Worker}
use Rattle.flow_model.specs.Covers.{covers, is_head}
use Rattle.flow_model.specs.Lanes.{lanes_in, marked_lanes}
use Rattle.flow_model.specs.Law.{Duties}

-- the numbers from this one on, `count` of them
abbrev pub numbers_from : ℕ → ℕ → List ℕ
numbers_from first zero = []
numbers_from first (suc count) = first ∷ numbers_from (first + 1) count

-- the requests after the first ones that cover a node, in rising order
abbrev pub dues_after : SetupView → ℕ → ℕ → List ℕ
dues_after setup turned node = filter (λ r. covers setup r node)
    (numbers_from (turned + 1) (length setup.plans - turned))

-- what the law asks of a worker that has turned the first requests
abbrev pub duties : SetupView → ℕ → Worker → Duties
duties setup turned who = record {
  lanes = lanes_in setup.job who.number;
  dues = dues_after setup turned who.node;
  is_head = λ request. is_head setup request who.node;
  marked_lanes = marked_lanes setup who.number;
}

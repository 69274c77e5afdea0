use Rattle.std.proofs.Common.{◌≡◌, ◌++◌, ℕ, drop, map}
use Rattle.std.specs.Prelude.{filter}
use Rattle.std.specs.List.{enumerate_from}
use Rattle.flow_model.specs.declared.topology.Lane.{Lane}
use Rattle.flow_model.specs.Lanes.{is_sender}
use Rattle.flow_model.specs.Topology.{numbers_out}
use Rattle.flow_model.proofs.tables.numbers_out.Given as goal

abbrev pub invariant-loop-number : goal.invariant-loop-number
invariant-loop-number l =
    l.numbers ++ map (λ (p : ℕ × Lane). p.0) (filter (λ (p : ℕ × Lane). is_sender l.worker p.1.sender) (enumerate_from l.number (drop l.number l.all)))
    ≡ numbers_out l.all l.worker

use Rattle.std.proofs.Common.{◌≡◌, ◌++◌, ◌==◌, ℕ, drop, map}
use Rattle.std.specs.Prelude.{filter}
use Rattle.std.specs.List.{enumerate_from}
use Rattle.flow_model.specs.declared.topology.Lane.{Lane}
use Rattle.flow_model.specs.Topology.{numbers_in}
use Rattle.flow_model.proofs.tables.numbers_in.Given as goal

abbrev pub invariant-loop-number : goal.invariant-loop-number
invariant-loop-number l =
    l.numbers ++ map (λ (p : ℕ × Lane). p.0) (filter (λ (p : ℕ × Lane). p.1.receiver == l.worker) (enumerate_from l.number (drop l.number l.all)))
    ≡ numbers_in l.all l.worker

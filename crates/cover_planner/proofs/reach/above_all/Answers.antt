use Rattle.std.proofs.Common.{rules, ℕ, arith}
use Rattle.flow_dag.specs.Masks.{Has}
use Rattle.flow_dag.specs.Paths.{Reaches}
use Rattle.flow_dag.specs.Edges.{HasEdge}
use Rattle.cover_planner.proofs.GatherLemmas.{gather_then, gather_else, gather_all}
use Rattle.cover_planner.proofs.reach.above_all.Goals as goal
use Rattle.cover_planner.proofs.reach.above_all.Goals.{then-has_bit, else-has_bit}

pub loop-m-preserved : goal.loop-m-preserved
loop-m-preserved c =
    let R : ℕ → ℕ → Type 0 = (λ x a. Reaches (HasEdge c.args.dag.now.edges) a x) in
    elim c.if-has_bit.branch [
      | then-has_bit w ↦
          let here : Has c.args.set c.loop-m.m = search rules in
          rw w.found-is (gather_then R c.args.set c.loop-m.found c.loop-m.m c.loop-m.invariant w.above-found.result here w.above-found.ensures)
      | else-has_bit w ↦
          let none : Has c.args.set c.loop-m.m → ⊥ = search rules in
          rw w.found-is (gather_else R c.args.set c.loop-m.found c.loop-m.m c.loop-m.invariant none)
    ]

pub returns : goal.returns
returns c =
    let R : ℕ → ℕ → Type 0 = (λ x a. Reaches (HasEdge c.args.dag.now.edges) a x) in
    gather_all R c.args.set c.loop-m.found c.loop-m.m c.loop-m.invariant c.args.dag.now.nodes (omega arith) c.requires

-- Ports of a node.
use Rattle.std.proofs.Common.{◌≡◌, ◌<◌, ◌+◌, ℕ, List, true, false, ◌&&◌, refl, subst, inl, inr, arith, zero, suc}
use Rattle.std.proofs.lemmas.Bool.{and_from, and_right, cases_eq}
use Rattle.flow_dag.specs.declared.edge.Edge.{Edge}
use Rattle.jobs.specs.Ports.{has_port, has_ports}

pub has_ports-zero : (edges : List Edge) (node : ℕ) → has_ports edges node 0 ≡ true
unfolding has_ports
has_ports-zero edges node = refl

has_ports-suc : (edges : List Edge) (node n : ℕ) → has_ports edges node n ≡ true → has_port edges node n ≡ true → has_ports edges node (suc n) ≡ true
unfolding has_ports
has_ports-suc edges node n below here = and_from (has_ports edges node n) (has_port edges node n) below here

-- one port more
pub has_ports-more : (edges : List Edge) (node n : ℕ) → has_ports edges node n ≡ true → has_port edges node n ≡ true → has_ports edges node (n + 1) ≡ true
has_ports-more edges node n below here =
    let next : suc n ≡ n + 1 = omega arith in
    subst (λ (m : ℕ). has_ports edges node m ≡ true) next (has_ports-suc edges node n below here)

-- a port that is missing
pub has_ports-lacks : (edges : List Edge) (node n ports : ℕ) → n < ports → has_port edges node n ≡ false → has_ports edges node ports ≡ false
unfolding has_ports
has_ports-lacks edges node n zero below none = absurd (omega arith)
has_ports-lacks edges node n (suc m) below none =
    elim (cases_eq n m) [
      | inl same ↦
          let here : (has_ports edges node n && has_port edges node n) ≡ false = and_right (has_ports edges node n) (has_port edges node n) none in
          rw (← same) here
      | inr ne ↦ rw (has_ports-lacks edges node n m (omega arith) none) refl
    ]

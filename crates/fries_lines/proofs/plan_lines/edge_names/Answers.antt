use Rattle.std.proofs.Common.{◌≡◌, ◌∙◌, ◌++◌, ◌∷◌, [], append_assoc, ap, false, sym, true}
use Rattle.std.specs.Prelude.{List, ℕ}
use Rattle.flow_dag.specs.Masks.{has}
use Rattle.fries_lines.specs.Lines.{edge_name}
use Rattle.fries_lines.proofs.ListLemmas.{names_with, names_without}
use Rattle.fries_lines.proofs.plan_lines.edge_names.Goals as goal
use Rattle.fries_lines.proofs.plan_lines.edge_names.Goals.{then-has_edge+in_ok-edge_name+in_ok-push, else-has_edge}

pub loop-number-preserved : goal.loop-number-preserved
loop-number-preserved c =
    let name = edge_name c.args.nodes.now in
    let mask = c.args.mask in
    let number = c.loop-number.number in
    let edges = c.args.edges.now in
    let names = c.loop-number.names in
    elim c.if-has_edge.branch [
      | then-has_edge+in_ok-edge_name+in_ok-push w ↦
          let is : has mask number ≡ true = sym c.has_edge.ensures ∙ w.if-has_edge.true in
          rw (w.names-is, w.in_ok-push.ensures.ok, w.in_ok-edge_name.ensures)
          (append_assoc names (_ ∷ []) _ ∙ ap (λ (rest : List (List ℕ)). names ++ rest) (sym (names_with name mask number edges _ c.loop-number-test.true is)) ∙ c.loop-number.invariant)
      | else-has_edge w ↦
          let is : has mask number ≡ false = sym c.has_edge.ensures ∙ w.if-has_edge.false in
          rw w.names-is (ap (λ (rest : List (List ℕ)). names ++ rest) (sym (names_without name mask number edges (record { from = 0; port = 0; to = 0 }) c.loop-number-test.true is)) ∙ c.loop-number.invariant)
    ]

use Rattle.std.proofs.Common.{◌≡◌, ◌∙◌, ◌+◌, ◌==◌, true, drop, get_or, refl, sym, ap}
use Rattle.std.proofs.lemmas.Bool.{eq-eqb}
use Rattle.std.proofs.lemmas.List.{drop_all, drop_more}
use Rattle.flow_dag.specs.declared.edge.Edge.{Edge}
use Rattle.flow_replay.proofs.AloneLemmas.{first_found, found-first_on, found_here}
use Rattle.flow_replay.proofs.row_alone.first_edge.Goals as goal

pub returns-then-edge-port : goal.returns-then-edge-port
returns-then-edge-port c =
    let edges = c.args.edges.now in
    let i = c.loop-edge.edge-index in
    let edge : Edge = get_or edges i (record { from = 0; port = 0; to = 0 }) in
    let from : (edge.from == c.args.node) ≡ true = eq-eqb edge.from c.args.node c.if-edge-node.true
    in
    let port : (edge.port == c.args.port) ≡ true = eq-eqb edge.port c.args.port c.if-edge-port.true
    in
    let here = found_here c.args.node c.args.port (drop i edges) (drop (i + 1) edges) edge
    (drop_more edges i (record { from = 0; port = 0; to = 0 }) c.loop-edge-test.true) (rw (
      from,
      port,
    ) refl) in
    sym here ∙ c.loop-edge.invariant ∙ found-first_on c.args.node c.args.port 0 edges

pub returns : goal.returns
returns c =
    let edges = c.args.edges.now in
    ap (first_found c.args.node c.args.port) (sym (drop_all c.loop-edge.edge-index edges
    c.loop-edge-test.false)) ∙ c.loop-edge.invariant
    ∙ found-first_on c.args.node c.args.port 0 edges

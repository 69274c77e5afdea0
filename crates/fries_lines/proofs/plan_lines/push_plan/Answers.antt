use Rattle.std.specs.Prelude.{codes, decimal}
use Rattle.fries_lines.specs.Lines.{edge_names, listed, node_names, part_count}
use Rattle.fries_lines.proofs.ListLemmas.{added_by_twos}
use Rattle.fries_lines.proofs.plan_lines.push_plan.Goals as goal

pub returns : goal.returns
returns c =
    let job = c.args.job.now in
    let plan = c.args.plan.now in
    rw (
      c.in_ok-extend_from_slice.ensures.ok,
      c.in_ok-push_edges.ensures,
      c.in_ok-push_number-2.ensures,
      c.in_ok-push_nodes-3.ensures,
      c.in_ok-push_nodes-2.ensures,
      c.in_ok-push_nodes.ensures,
      c.in_ok-push_number.ensures,
      c.part_count-parts.ensures,
      c.as_slice-nodes.ensures,
      c.all_edges-edges.ensures.edges,
    )
    (added_by_twos c.args.text.now
    (codes "request ") (decimal c.args.request) (codes " asked ") (listed (node_names job.nodes plan.asked)) (codes " members ") (listed (node_names job.nodes plan.members))
    (codes " heads ") (listed (node_names job.nodes plan.heads)) (codes " parts ") (decimal (part_count plan.part))
    (codes " edges ") (listed (edge_names job.nodes job.dag.edges plan.edges)) (codes "\n"))

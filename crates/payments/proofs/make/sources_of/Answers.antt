use Rattle.std.proofs.Common.{◌≡◌, ◌∙◌, ◌≤◌, ◌<◌, get_or, length, sym, rules, true, false}
use Rattle.jobs.specs.Job.{job_view}
use Rattle.jobs.specs.Nodes.{is_source}
use Rattle.payments.proofs.MadeLemmas.{some_source, sources_from-end, sources_from-other, sources_from-source}
use Rattle.payments.proofs.make.sources_of.Goals as goal
use Rattle.payments.proofs.make.sources_of.Goals.{else-is_source, then-is_source+in_ok-push}

pub loop-node-preserved : goal.loop-node-preserved
loop-node-preserved c =
    let nodes = c.args.job.now.nodes in
    let node = c.index-nodes-node.result in
    let less : c.loop-node.node < length nodes = search rules in
    let item : node ≡ get_or nodes c.loop-node.node node = search rules in
    elim c.if-is_source.branch [
      | then-is_source+in_ok-push w ↦
          let source : is_source node.func ≡ true = search rules in
          rw (w.sources-is, w.in_ok-push.ensures.items) (sources_from-source nodes c.loop-node.node node c.loop-node.sources.items less item source ∙ c.loop-node.invariant)
      | else-is_source w ↦
          let other : is_source node.func ≡ false = search rules in
          rw w.sources-is (sources_from-other nodes c.loop-node.node node c.loop-node.sources.items less item other ∙ c.loop-node.invariant)
    ]

pub returns-clause-sources : goal.returns-clause-sources
returns-clause-sources c =
    let past : length c.args.job.now.nodes ≤ c.loop-node.node = search rules in
    sym (sources_from-end c.args.job.now.nodes c.loop-node.node c.loop-node.sources.items past) ∙ c.loop-node.invariant

pub returns-clause-some : goal.returns-clause-some
returns-clause-some c =
    let past : length c.args.job.now.nodes ≤ c.loop-node.node = search rules in
    let sources = sym (sources_from-end c.args.job.now.nodes c.loop-node.node c.loop-node.sources.items past) ∙ c.loop-node.invariant in
    rw sources (some_source (job_view c.args.job.now) c.args.job.now.dag.nodes c.args.job.now.dag.order c.args.job.now.drawn c.args.job.now.dag.lawful c.args.job.now.lawful.ports)

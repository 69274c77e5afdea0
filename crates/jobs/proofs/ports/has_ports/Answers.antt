use Rattle.std.proofs.Common.{sym, ◌∙◌}
use Rattle.jobs.proofs.PortLemmas.{has_ports-lacks, has_ports-more, has_ports-zero}
use Rattle.jobs.proofs.ports.has_ports.Goals as goal

pub loop-port-init : goal.loop-port-init
loop-port-init c = has_ports-zero c.args.edges.now c.args.node

pub returns-then-not-has_port : goal.returns-then-not-has_port
returns-then-not-has_port c =
    let lacking = sym c.has_port.ensures ∙ c.if-not-has_port.true in
    sym (has_ports-lacks c.args.edges.now c.args.node c.loop-port.port c.args.ports c.loop-port-test.true lacking)

pub loop-port-preserved : goal.loop-port-preserved
loop-port-preserved c =
    has_ports-more c.args.edges.now c.args.node c.loop-port.port c.loop-port.invariant (sym c.has_port.ensures ∙ c.if-not-has_port.false)

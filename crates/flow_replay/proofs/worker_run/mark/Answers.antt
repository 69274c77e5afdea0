use Rattle.std.proofs.Common.{◌∙◌, ◌++◌}
use Rattle.jobs.specs.Job.{job_view}
use Rattle.flow_model.specs.Setup.{setup_view}
use Rattle.flow_model.proofs.DueLemmas.{number_within}
use Rattle.flow_replay.proofs.WorkerRunLemmas.{edge_marks, marks-end, marks-skip, marks-take, marks_of}
use Rattle.flow_replay.proofs.worker_run.mark.Goals as goal

pub lane-edge-requires : goal.lane-edge-requires
lane-edge-requires c =
    number_within (job_view c.args.who.setup.now.job) c.args.who.number c.loop-number.number-index
    c.lanes_in-number-items.result.now c.lanes_in-number-items.ensures c.loop-number-test.true

pub loop-number-preserved : goal.loop-number-preserved
loop-number-preserved c =
    let setup = setup_view c.args.who.setup.now in
    marks-take setup c.args.request c.loop-number.number-index c.lanes_in-number-items.result.now
    c.loop-number.journal c.push.new.self
    (c.args.journal.now ++ marks_of setup c.args.request c.lanes_in-number-items.result.now)
    c.loop-number-test.true
    (edge_marks setup c.args.request _ c.lane-edge.result.edge c.lane-edge.result
    c.covers_edge.result c.lane-edge.ensures.lane (λ i. c.lane-edge.result.edge)
    c.covers_edge.ensures ∙ c.if-not-covers_edge.false) c.in_ok-push.ensures.ok
    c.loop-number.invariant

pub loop-number-preserved-then-not-covers_edge : goal.loop-number-preserved-then-not-covers_edge
loop-number-preserved-then-not-covers_edge c =
    let setup = setup_view c.args.who.setup.now in
    marks-skip setup c.args.request c.loop-number.number-index c.lanes_in-number-items.result.now
    c.loop-number.journal
    (c.args.journal.now ++ marks_of setup c.args.request c.lanes_in-number-items.result.now)
    c.loop-number-test.true
    (edge_marks setup c.args.request _ c.lane-edge.result.edge c.lane-edge.result
    c.covers_edge.result c.lane-edge.ensures.lane (λ i. c.lane-edge.result.edge)
    c.covers_edge.ensures ∙ c.if-not-covers_edge.true) c.loop-number.invariant

pub returns : goal.returns
returns c =
    marks-end (setup_view c.args.who.setup.now) c.args.who.number c.args.request c.loop-number.number-index
    c.lanes_in-number-items.result.now c.args.journal.now c.loop-number.journal
    c.loop-number-test.false
    c.lanes_in-number-items.ensures c.loop-number.invariant

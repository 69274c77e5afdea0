use Rattle.std.proofs.Common.{None}
use Rattle.std.proofs.lemmas.Option.{slice_get_within}
use Rattle.jobs.specs.Job.{job_view}
use Rattle.flow_model.specs.Lanes.{lane_of, lanes}
use Rattle.flow_model.specs.Setup.{setup_view}
use Rattle.flow_model.proofs.OutLanes.{feeder_alone, lane_from_source}
use Rattle.flow_replay.specs.inner.Delivery.{rank_in}
use Rattle.flow_replay.proofs.DeliveryLemmas.{found_lane}
use Rattle.flow_replay.proofs.RowLemmas.{row_fed}
use Rattle.flow_replay.proofs.executor.Executor.feed.Goals as goal

pub deliver-requires : goal.deliver-requires
deliver-requires c =
    let job = job_view c.args.self.now.setup.now.job in
    let row = c.args.row.now in
    let along = c.in-Some.ensures.some None (feeder_alone job row.source c.requires).1 in
    slice_get_within (lanes job) c.in-Some.lane _
    (found_lane job (lane_of job None row.source 0 row.tuple) c.in-Some.lane along).0

pub returns-in_ok-deliver-in-Some-clause-fed : goal.returns-in_ok-deliver-in-Some-clause-fed
returns-in_ok-deliver-in-Some-clause-fed c =
    let setup = c.args.self.now.setup.now in
    let job = job_view setup.job in
    let row = c.args.row.now in
    let along = c.in-Some.ensures.some None (feeder_alone job row.source c.requires).1 in
    row_fed (setup_view setup) (rank_in setup) row c.args.self.now.issued c.in-Some.lane
    c.in_ok-tuple.tuple c.args.self.now.runs.items c.deliver.new.self.runs.items along
    c.in_ok-tuple.ensures c.in_ok-deliver-in-Some.ensures.delivered

pub returns-in-None-clause-fed : goal.returns-in-None-clause-fed
returns-in-None-clause-fed c =
    absurd (lane_from_source (job_view c.args.self.now.setup.now.job) c.args.row.now.source
    c.args.row.now.tuple c.args.self.now.setup.now.job.lawful c.requires (c.in-None.ensures.none None))

use Rattle.std.proofs.Common.{◌∙◌, ◌++◌, ◌∷◌, [], List, None, ap, arith, get_or, subst, sym}
use Rattle.std.specs.Prelude.{slice_set}
use Rattle.std.proofs.lemmas.Option.{slice_get_within}
use Rattle.jobs.specs.Job.{job_view}
use Rattle.tuple_trace.specs.declared.tuple.Item.{Item}
use Rattle.tuple_trace.specs.declared.tuple.Item.TheVariants as item
use Rattle.tuple_trace.specs.declared.tuple.Tuple.{Tuple}
use Rattle.flow_model.specs.Feeding.{fed_tuple}
use Rattle.flow_model.specs.Lanes.{lane_of, lanes}
use Rattle.flow_model.proofs.OutLanes.{feeder_alone}
use Rattle.audit_restore.specs.Standing.{HoldsLanes}
use Rattle.audit_restore.proofs.FeedLemmas.{holds_more, holds_none}
use Rattle.audit_restore.proofs.feed.put.Goals as goal

pub returns-in_default : goal.returns-in_default
returns-in_default c puts holds =
    let job = job_view c.args.setup.now.job in
    let row = c.args.row.now in
    holds_none job c.args.standing.now puts
    (record { lane = lane_of job None row.source 0 row.tuple; item = item.Carry (fed_tuple c.args.issued row) }) holds
    (c.in_default.ensures.none None)

pub put-requires : goal.put-requires
put-requires c =
    let job = job_view c.args.setup.now.job in
    let number = c.in-Some.ensures.some None (feeder_alone job c.args.row.now.source c.requires.source).1 in
    let lt = slice_get_within (lanes job) c.in-Some.lane number.0 number.2 in
    omega (arith, lt, c.requires.long)

pub returns : goal.returns
returns c puts holds =
    let job = job_view c.args.setup.now.job in
    let row = c.args.row.now in
    let n = c.in-Some.lane in
    let old = c.args.standing.now in
    let number = c.in-Some.ensures.some None (feeder_alone job row.source c.requires.source).1 in
    let is = c.in_ok-put.ensures ∙ ap (λ (t : Tuple). slice_set old n (get_or old n [] ++ item.Carry t ∷ [])) c.in_ok-tuple.ensures in
    subst (λ (s : List (List Item)). HoldsLanes job s (puts ++ record { lane = lane_of job None row.source 0 row.tuple; item = item.Carry (fed_tuple c.args.issued row) } ∷ [])) (sym is)
    (holds_more job old puts n number.0 (record { lane = lane_of job None row.source 0 row.tuple; item = item.Carry (fed_tuple c.args.issued row) }) holds number.2 number.1)

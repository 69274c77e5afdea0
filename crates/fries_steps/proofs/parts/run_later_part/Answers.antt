use Rattle.std.proofs.Common.{ap}
use Rattle.std.proofs.lemmas.Result.{IfOk-weaker}
use Rattle.flow_model.specs.declared.record.RunRecord.{RunRecord}
use Rattle.flow_engine.proofs.FlownLemmas.{run_since}
use Rattle.fries_steps.proofs.PartLemmas.{later_part_of, workers_of}
use Rattle.fries_steps.proofs.parts.run_later_part.Goals as goal

pub returns-clause-run : goal.returns-clause-run
returns-clause-run g c =
    IfOk-weaker c.done_of.result _ _ (λ done of. later_part_of c.args.start.now c.args.setup c.in_ok-flown.flown.setup c.args.requests.now c.args.rows.now c.in_ok-ran.ran done
    (ap (λ (r : RunRecord). r.setup) c.in_ok-ran.ensures) c.in_ok-flown.ensures.setup
    (run_since c.args.start.now c.args.setup c.in_ok-flown.flown.setup c.args.rows.now c.in_ok-flown.flown.feeds c.in_ok-flown.flown.crew.items c.in_ok-ran.ran
    c.in_ok-flown.ensures.setup (rw (c.all-fed.ensures, c.in_ok-begun.ensures) at c.in_ok-flown.ensures.run) c.in_ok-ran.ensures) c.later_rows_are_whole.ensures.rows of) c.done_of.ensures

pub returns-clause-workers : goal.returns-clause-workers
returns-clause-workers g c =
    IfOk-weaker c.done_of.result _ _ (λ done of. workers_of c.args.start.now c.args.setup c.args.requests.now c.args.rows.now c.in_ok-ran.ran done
    (run_since c.args.start.now c.args.setup c.in_ok-flown.flown.setup c.args.rows.now c.in_ok-flown.flown.feeds c.in_ok-flown.flown.crew.items c.in_ok-ran.ran
    c.in_ok-flown.ensures.setup (rw (c.all-fed.ensures, c.in_ok-begun.ensures) at c.in_ok-flown.ensures.run) c.in_ok-ran.ensures) of) c.done_of.ensures

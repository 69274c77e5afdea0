use Rattle.std.proofs.Common.{ap, rules}
use Rattle.std.proofs.lemmas.Result.{IfOk-weaker}
use Rattle.jobs.specs.Job.{job_view}
use Rattle.flow_model.specs.declared.record.RunRecord.{RunRecord}
use Rattle.savepoint.proofs.PartsLemmas.{counted_le}
use Rattle.fries_steps.proofs.RunLemmas.{run_so}
use Rattle.fries_steps.proofs.PartLemmas.{first_part_of, first_sources, workers_of}
use Rattle.fries_steps.proofs.parts.run_first_part.Goals as goal

pub first_of-part-requires : goal.first_of-part-requires
first_of-part-requires g c = rw c.issued_up_to-turned.ensures (counted_le _ _ _)

pub run_flow-requires-clause-rows : goal.run_flow-requires-clause-rows
run_flow-requires-clause-rows g c =
    let sources = first_sources c.min-row.result (job_view c.args.job) c.args.requests.now c.args.rows.now c.in_ok-first.first c.in_ok-setup.setup c.first_of-part.result
    c.in_ok-setup.ensures c.first_of-part.ensures.job c.in_ok-first.ensures c.requires.sources in rw c.all-fed.ensures (search rules)

pub returns-clause-run : goal.returns-clause-run
returns-clause-run g c =
    IfOk-weaker c.done_of.result _ _ (λ done of. first_part_of c.args.most c.min-row.result c.in_ok-count.count c.issued_up_to-turned.result (job_view c.args.job) c.args.requests.now
    c.args.rows.now c.in_ok-first.first c.in_ok-setup.setup c.first_of-part.result c.in_ok-flown.flown.setup c.in_ok-ran.ran done c.in_ok-setup.ensures c.in_ok-count.ensures.count c.min-row.ensures
    c.issued_up_to-turned.ensures c.first_of-part.ensures.cut c.first_of-part.ensures.refused c.in_ok-first.ensures (λ other. c.runs_are_consistent.ensures c.in_ok-first.first other c.are_numbered.ensures)
    (first_sources c.min-row.result (job_view c.args.job) c.args.requests.now c.args.rows.now c.in_ok-first.first c.in_ok-setup.setup c.first_of-part.result
    c.in_ok-setup.ensures c.first_of-part.ensures.job c.in_ok-first.ensures c.requires.sources)
    (ap (λ (r : RunRecord). r.setup) c.in_ok-ran.ensures) c.in_ok-flown.ensures.setup
    (run_so c.first_of-part.result c.in_ok-flown.flown.setup c.in_ok-first.first c.in_ok-flown.flown.feeds c.in_ok-flown.flown.crew.items c.in_ok-ran.ran
    c.in_ok-flown.ensures.setup (rw c.all-fed.ensures at c.in_ok-flown.ensures.run) c.in_ok-ran.ensures) of
    c.first_parts_can_be_saved.ensures c.in_ok-count.ensures.small c.requires.few c.requires.limits c.requires.texts) c.done_of.ensures

pub returns-clause-workers : goal.returns-clause-workers
returns-clause-workers g c =
    IfOk-weaker c.done_of.result _ _ (λ done of. workers_of _ c.first_of-part.result c.args.requests.now c.in_ok-first.first c.in_ok-ran.ran done
    (run_so c.first_of-part.result c.in_ok-flown.flown.setup c.in_ok-first.first c.in_ok-flown.flown.feeds c.in_ok-flown.flown.crew.items c.in_ok-ran.ran
    c.in_ok-flown.ensures.setup (rw c.all-fed.ensures at c.in_ok-flown.ensures.run) c.in_ok-ran.ensures) of) c.done_of.ensures

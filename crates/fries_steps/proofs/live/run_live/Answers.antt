use Rattle.std.proofs.Common.{◌≡◌, ◌≤◌, ◌∙◌, List, ap, arith, length, refl, subst, sym}
use Rattle.jobs.specs.Job.{job_view}
use Rattle.jobs.specs.JobView.{JobView}
use Rattle.jobs.specs.Nodes.{AreFromSources}
use Rattle.flow_model.specs.Setup.{setup_view}
use Rattle.flow_model.specs.declared.record.RunRecord.{RunRecord}
use Rattle.flow_model.specs.declared.setup.Setup.{Setup}
use Rattle.live_control.specs.Hearing.{IsHeard}
use Rattle.live_control.specs.Line.{TellerIs, last_load}
use Rattle.versions.specs.declared.request.Request.{Request}
use Rattle.fries_steps.specs.declared.live.Work.{Work}
use Rattle.fries_steps.proofs.AcceptedLemmas.{accepted_few}
use Rattle.fries_steps.proofs.LiveLemmas.{live_of}
use Rattle.fries_steps.proofs.PartLemmas.{workers_of}
use Rattle.fries_steps.proofs.RunLemmas.{HasLaws, run_so}
use Rattle.fries_steps.proofs.live.run_live.Goals as goal

pub overflow_cast-most : goal.overflow_cast-most
overflow_cast-most g c =
    let many = c.request_count-most.ensures in
    let same = ap (λ (l : List Request). length l) c.in_ok-setup.ensures.accepted in
    let few = accepted_few (job_view c.args.job) c.args.requests.now in
    let all = c.requires.few.count in
    omega (arith, many, same, few, all)

pub run_beside-flown-requires-clause-most : goal.run_beside-flown-requires-clause-most
run_beside-flown-requires-clause-most g c κs within =
    let many = c.request_count-most.ensures in
    let same = ap (λ (l : List Request). length l) c.in_ok-setup.ensures.accepted in
    let few = accepted_few (job_view c.args.job) c.args.requests.now in
    let all = c.requires.few.count in
    omega (arith, many, same, few, all)

pub run_beside-flown-requires-clause-rows : goal.run_beside-flown-requires-clause-rows
run_beside-flown-requires-clause-rows g c κs within =
    rw c.all-fed.ensures
    (subst (λ (w : Work). AreFromSources (setup_view w.setup).job c.args.rows.now) (sym c.in_ok-work.ensures.ok)
    (subst (λ (j : JobView). AreFromSources j c.args.rows.now) (sym c.in_ok-setup.ensures.job_is) c.requires.sources))

pub returns-clause-run : goal.returns-clause-run
returns-clause-run g c =
    let flown = rw c.all-fed.ensures at (rw c.in_ok-work.ensures.ok at (rw c.in_ok-flown.was at c.run_beside-flown.ensures.flown)) in
    let laws : HasLaws c.in_ok-ran.ran.setup c.args.rows.now = record {
      consistent = λ ran. c.runs_are_consistent.ensures c.args.rows.now ran c.are_numbered.ensures;
      prefix = c.ordered_runs_are_serial.ensures.prefix;
      serial = c.ordered_runs_are_serial.ensures.landings;
    } in
    let same : c.in_ok-ran.ran.setup ≡ c.in_ok-flown.flown.setup = ap (λ (r : RunRecord). r.setup) c.in_ok-ran.ensures in
    let heard = subst (λ n. IsHeard n (g.Q.Asks.state c.args.asks.now) (g.Q.Asks.state c.run_beside-flown.new.asks) c.run_beside-flown.result.1)
    (c.request_count-most.ensures ∙ ap (λ (l : List Request). length l) c.in_ok-setup.ensures.accepted) c.run_beside-flown.ensures.heard in
    let reached : last_load c.in_ok-flown.inbox.loads ≤ c.run_beside-flown.result.1.releases =
    (let a = c.meet-met.ensures.last in let b = c.meet-met.ensures.told in let le = c.meet-met.ensures.reached in let e = ap (λ (t : TellerIs). t.told) c.run_beside-flown.ensures.told in omega (arith, a, b, le, e)) in
    live_of (job_view c.args.job) c.args.requests.now c.args.rows.now c.in_ok-setup.setup c.in_ok-flown.flown.setup c.in_ok-teller.inbox c.in_ok-flown.inbox c.in_ok-flown.flown.feeds c.in_ok-flown.flown.crew.items
    c.in_ok-ran.ran c.in_ok-done.done c.run_beside-flown.result.1 _ _ c.in_ok-setup.ensures flown (subst (λ (s : Setup). HasLaws s c.args.rows.now) same laws) c.requires.sources c.in_ok-ran.ensures c.in_ok-done.ensures heard reached

pub returns-clause-workers : goal.returns-clause-workers
returns-clause-workers g c =
    let flown = rw c.all-fed.ensures at (rw c.in_ok-work.ensures.ok at (rw c.in_ok-flown.was at c.run_beside-flown.ensures.flown)) in
    workers_of _ c.in_ok-flown.flown.setup c.args.requests.now c.args.rows.now c.in_ok-ran.ran c.in_ok-done.done
    (run_so c.in_ok-flown.flown.setup c.in_ok-flown.flown.setup c.args.rows.now c.in_ok-flown.flown.feeds c.in_ok-flown.flown.crew.items c.in_ok-ran.ran refl flown.run c.in_ok-ran.ensures) c.in_ok-done.ensures

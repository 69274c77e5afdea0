use Rattle.std.proofs.Common.{◌<◌, ◌^◌, rules, sym}
use Rattle.jobs.specs.Job.{job_view}
use Rattle.audit_check.proofs.NameLemmas.{named_so, place_narrow}
use Rattle.audit_check.proofs.names.worker_named.Goals as goal

pub returns-in_default-clause-none : goal.returns-in_default-clause-none
returns-in_default-clause-none c worker (x, there, name, at) =
    c.in_default.ensures.none x.place (place_narrow (job_view c.args.setup.now.job) c.args.setup.now.job.lawful worker x there) (sym at)

pub returns-in-None-clause-none : goal.returns-in-None-clause-none
returns-in-None-clause-none c worker e =
    let job = job_view c.args.setup.now.job in
    let fits : c.in-Some.place < 2 ^ 32 = search rules in
    c.in-None.ensures.none worker (named_so job c.args.setup.now.job.lawful c.args.node.now c.args.place.now worker c.in-Some.place fits c.in-Some.ensures.some e)

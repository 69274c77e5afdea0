use Rattle.std.proofs.Common.{rules}
use Rattle.job_file.proofs.SizeLemmas.{IfNone-few, IfNone-limits}
use Rattle.job_file.proofs.request_sizes.list_fault.Goals as goal

pub returns-clause-few : goal.returns-clause-few
returns-clause-few c = IfNone-few c.args.most c.args.requests.now c.requests_fault.result (search rules)

pub returns-clause-limits : goal.returns-clause-limits
returns-clause-limits c = IfNone-limits c.args.most c.args.requests.now c.requests_fault.result (search rules)

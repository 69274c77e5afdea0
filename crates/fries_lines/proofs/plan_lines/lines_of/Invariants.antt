use Rattle.std.proofs.Common.{◌≡◌, ◌++◌, ◌+◌, drop}
use Rattle.std.specs.List.{enumerate_from, flat_map}
use Rattle.jobs.specs.Job.{job_view}
use Rattle.fries_lines.specs.Lines.{plan_line, plan_lines}
use Rattle.fries_lines.proofs.plan_lines.lines_of.Given as goal

abbrev pub invariant-loop-place : goal.invariant-loop-place
invariant-loop-place l =
    l.lines ++ flat_map (λ (request, plan). plan_line (job_view l.job) request plan) (enumerate_from (l.place + 1) (drop l.place l.plans))
    ≡ plan_lines (job_view l.job) l.plans

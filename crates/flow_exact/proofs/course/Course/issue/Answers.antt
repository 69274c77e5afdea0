use Rattle.std.proofs.Common.{ap}
use Rattle.flow_model.specs.Begin.{Begin}
use Rattle.flow_exact.proofs.CourseLemmas.{issued_if_ok}
use Rattle.flow_exact.proofs.course.Course.issue.Goals as goal

pub returns-clause-course : goal.returns-clause-course
returns-clause-course g c =
    issued_if_ok c.args.rows.now c.args.self c.in_ok-setup.setup c.args.request.now c.args.plan
    c.start.inside.row c.go_on.result c.requires.course c.in_ok-setup.ensures.setup
    c.are_numbered.ensures c.requires.border (ap (λ (b : Begin). b.row) c.start.view_is)
    c.go_on.ensures.setup c.go_on.ensures.row c.go_on.ensures.turned c.go_on.ensures.part

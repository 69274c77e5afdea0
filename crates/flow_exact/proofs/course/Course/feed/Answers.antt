use Rattle.flow_exact.proofs.CourseLemmas.{fed_if_ok}
use Rattle.flow_exact.proofs.course.Course.feed.Goals as goal

pub returns-clause-course : goal.returns-clause-course
returns-clause-course g c =
    fed_if_ok c.args.rows.now c.args.self c.args.row c.go_on.result c.are_numbered.ensures
    c.requires.course c.requires.later c.requires.within c.go_on.ensures.setup c.go_on.ensures.row
    c.go_on.ensures.turned c.go_on.ensures.part

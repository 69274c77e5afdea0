use Rattle.std.proofs.Common.{◌≡◌, drop}
use Rattle.versions.specs.Kept.{AreInOrder}
use Rattle.flow_model.specs.Setup.{setup_view}
use Rattle.savepoint.specs.Parts.{first_of}
use Rattle.flow_exact.specs.inner.Course.{IsCourse, with_requests}
use Rattle.flow_exact.proofs.run.pass_all.Given as goal

-- the first requests were issued, and the others wait for no row before the last that was fed
abbrev pub invariant-loop-place : goal.invariant-loop-place
invariant-loop-place g l = record {
  setup : setup_view l.course.setup ≡ first_of
      (with_requests (setup_view l.fn.course.setup) l.requests l.plans) l.place;
  refused : l.course.setup.judged.refused ≡ l.fn.course.setup.judged.refused;
  course : IsCourse l.rows l.course;
  in_order : AreInOrder l.course.start.row (drop l.place l.requests);
}

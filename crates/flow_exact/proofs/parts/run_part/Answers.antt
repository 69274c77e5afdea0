use Rattle.std.proofs.Common.{◌≡◌, ◌∙◌, ◌+◌, List, ap, arith, subst, sym, take}
use Rattle.std.proofs.lemmas.List.Elements.{All-take}
use Rattle.jobs.specs.Job.{job_view}
use Rattle.jobs.specs.Nodes.{AreFromSources, IsSourceOf}
use Rattle.tuple_trace.specs.Rows.{IsRow}
use Rattle.tuple_trace.specs.declared.row.Row.{Row}
use Rattle.savepoint.proofs.PartsLemmas.{AreRows-take}
use Rattle.flow_exact.proofs.parts.run_part.Goals as goal

pub behind-front-requires-clause-numbered : goal.behind-front-requires-clause-numbered
behind-front-requires-clause-numbered g c i row is =
    let same : i + 1 ≡ 0 + i + 1 = omega arith in
    subst (λ k. IsRow k row) same
    (AreRows-take c.args.row c.as_slice.result.now c.as_slice.ensures.rows i row is)

pub run_from-requires-clause-rows : goal.run_from-requires-clause-rows
run_from-requires-clause-rows g c κs within =
    let rows_are : c.behind-front.result ≡ take c.args.row c.args.rows.now =
    c.behind-front.ensures ∙ ap (take c.args.row) c.as_slice.ensures.value in
    subst (λ (r : List Row). AreFromSources (job_view c.args.setup.job) r) (sym rows_are)
    (All-take (λ (r : Row). IsSourceOf (job_view c.args.setup.job) r.source) c.args.row
    c.args.rows.now c.requires.sources)

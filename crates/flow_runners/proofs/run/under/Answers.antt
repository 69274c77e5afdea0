use Rattle.std.proofs.Common.{◌∙◌, ap}
use Rattle.std.proofs.lemmas.List.Sorted.{All-permutation}
use Rattle.flow_runner.specs.declared.rule.Tally.{Tally}
use Rattle.flow_runner.specs.Rule.{HasEnded}
use Rattle.flow_runners.proofs.Seating.{listed_runners, seated_workers}
use Rattle.flow_runners.proofs.run.under.Goals as goal

pub filled-ran-requires-clause-listed : goal.filled-ran-requires-clause-listed
filled-ran-requires-clause-listed g c κs within = listed_runners g.C.Charter.endpoints _ c.requires.endpoints c.requires.numbers _ (ap (λ (t : Tally). t.list) c.in-Ok.ensures.first)

pub to_workers-requires-after_bounds : goal.to_workers-requires-after_bounds
to_workers-requires-after_bounds g c κs within = All-permutation HasEnded _ _ c.sort_by_number.ensures.permutation c.in_ok-runners.ensures.back.done

pub returns-clause-fixed : goal.returns-clause-fixed
returns-clause-fixed g c =
    c.in_ok-workers.ensures.fixed ∙ seated_workers g.C.Charter.endpoints _ c.requires.endpoints c.requires.numbers _ _ c.in_ok-runners.ensures.back.once c.in_ok-runners.ensures.back.agree c.sort_by_number.ensures.permutation c.sort_by_number.ensures.order

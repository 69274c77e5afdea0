use Rattle.flow_model.proofs.SteadyLemmas.{new-before, old-behind, steady-in_order, stray-nowhere}
use Rattle.flow_model.proofs.examples.markers_part_old_from_new.Goals as goal

pub returns-clause-steady : goal.returns-clause-steady
returns-clause-steady c = steady-in_order

pub returns-clause-old_behind : goal.returns-clause-old_behind
returns-clause-old_behind c = old-behind

pub returns-clause-new_before : goal.returns-clause-new_before
returns-clause-new_before c = new-before

pub returns-clause-stray : goal.returns-clause-stray
returns-clause-stray c = stray-nowhere

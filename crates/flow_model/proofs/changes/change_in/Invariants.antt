use Rattle.std.proofs.Common.{◌≡◌, drop}
use Rattle.flow_model.specs.Requests.{change_among}
use Rattle.flow_model.proofs.changes.change_in.Given as goal

abbrev pub invariant-loop-change : goal.invariant-loop-change
invariant-loop-change l = change_among (drop l.change-index l.changes) l.node ≡ change_among l.changes l.node

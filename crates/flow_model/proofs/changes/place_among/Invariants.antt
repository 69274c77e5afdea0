use Rattle.std.proofs.Common.{◌≡◌, drop}
use Rattle.flow_model.specs.Requests.{change_among}
use Rattle.flow_model.proofs.changes.place_among.Given as goal

abbrev pub invariant-loop-place : goal.invariant-loop-place
invariant-loop-place l = change_among (drop l.place l.changes) l.node ≡ change_among l.changes l.node

use Rattle.std.proofs.Common.{◌≡◌, drop}
use Rattle.toml.specs.View.{items_view}
use Rattle.job_file.specs.RequestSizes.{wide_change}
use Rattle.job_file.specs.Wide.{first_found}
use Rattle.job_file.proofs.request_sizes.first_wide_change.Given as goal

abbrev pub invariant-loop-item : goal.invariant-loop-item
invariant-loop-item l = first_found wide_change (items_view l.items) ≡ first_found wide_change (items_view (drop l.item-index l.items))

use Rattle.std.proofs.Common.{◌≡◌, drop}
use Rattle.toml.specs.View.{items_view}
use Rattle.job_file.specs.Wide.{first_found, wide_item}
use Rattle.job_file.proofs.wide.first_wide.Given as goal

abbrev pub invariant-loop-item : goal.invariant-loop-item
invariant-loop-item l = first_found wide_item (items_view l.items) ≡ first_found wide_item (items_view (drop l.item-index l.items))

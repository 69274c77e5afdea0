use Rattle.std.proofs.Common.{◌≡◌, drop}
use Rattle.toml.specs.View.{items_view}
use Rattle.job_file.specs.Document.{all_of}
use Rattle.job_file.specs.Conds.{cond_of}
use Rattle.job_file.proofs.ItemLemmas.{after}
use Rattle.job_file.proofs.conds.read_conds.Given as goal

abbrev pub invariant-loop-item : goal.invariant-loop-item
invariant-loop-item l = all_of (cond_of l.columns) (items_view l.items) ≡ after l.list (all_of (cond_of l.columns) (items_view (drop l.item-index l.items)))

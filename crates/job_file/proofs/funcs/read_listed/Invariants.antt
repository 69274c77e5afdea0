use Rattle.std.proofs.Common.{◌≡◌, drop}
use Rattle.toml.specs.View.{items_view}
use Rattle.job_file.specs.Document.{all_of}
use Rattle.job_file.specs.Funcs.{listed_of}
use Rattle.job_file.proofs.ItemLemmas.{after}
use Rattle.job_file.proofs.funcs.read_listed.Given as goal

abbrev pub invariant-loop-item : goal.invariant-loop-item
invariant-loop-item l = all_of (listed_of l.columns) (items_view l.items) ≡ after l.list (all_of (listed_of l.columns) (items_view (drop l.item-index l.items)))

use Rattle.std.proofs.Common.{◌≡◌, drop}
use Rattle.toml.specs.View.{items_view}
use Rattle.jobs.specs.Job.{job_view}
use Rattle.job_file.specs.Document.{all_of}
use Rattle.job_file.specs.Changes.{change_of}
use Rattle.job_file.proofs.ItemLemmas.{after}
use Rattle.job_file.proofs.changes.read_changes.Given as goal

abbrev pub invariant-loop-item : goal.invariant-loop-item
invariant-loop-item l = all_of (change_of (job_view l.job)) (items_view l.items) ≡ after l.list (all_of (change_of (job_view l.job)) (items_view (drop l.item-index l.items)))

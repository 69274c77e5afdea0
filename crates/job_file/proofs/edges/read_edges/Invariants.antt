use Rattle.std.proofs.Common.{◌≡◌, drop}
use Rattle.toml.specs.View.{items_view}
use Rattle.job_file.specs.Document.{all_of}
use Rattle.job_file.specs.Edges.{edge_of}
use Rattle.job_file.proofs.ItemLemmas.{after}
use Rattle.job_file.proofs.edges.read_edges.Given as goal

abbrev pub invariant-loop-item : goal.invariant-loop-item
invariant-loop-item l = all_of (edge_of l.nodes) (items_view l.items) ≡ after l.list (all_of (edge_of l.nodes) (items_view (drop l.item-index l.items)))

use Rattle.std.proofs.Common.{◌≡◌, ◌++◌, drop, length}
use Rattle.jobs.specs.Nodes.{worker_count}
use Rattle.sink_journal.specs.Records.{records_text}
use Rattle.savepoint_file.specs.ByNode.{nodes_count_records}
use Rattle.savepoint_file.proofs.save_sheet.SaveSheet.write_nodes.Given as goal

abbrev pub invariant-loop-node : goal.invariant-loop-node
invariant-loop-node l = record {
  text :
      l.self ++ records_text (nodes_count_records (drop l.node-index l.nodes) l.left)
      ≡ l.fn.self ++ records_text (nodes_count_records l.nodes l.fn.states);
  states : length l.left ≡ worker_count (drop l.node-index l.nodes);
}

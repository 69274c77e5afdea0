-- Worked lanes, out of the filter of the four payments.
use Rattle.std.specs.Prelude.{pos, [], ◌∷◌, replicate}
use Rattle.flow_dag.specs.declared.graph.Graph.{Graph}
use Rattle.lane_core.specs.declared.form.Origin.{Origin}
use Rattle.tuple_trace.specs.declared.tuple.Item.{Item}
use Rattle.tuple_trace.specs.declared.tuple.Item.TheVariants as item
use Rattle.flow_model.specs.FourPayments.{passed, payment}

-- three nodes in a row
abbrev pub in_a_row : Graph
in_a_row = record { n = 3; child = 2 ∷ 4 ∷ replicate 62 0 }

-- a lane begins at the filter
abbrev pub out_of_filter : Origin
out_of_filter = record { graph = in_a_row; from = 1 }

-- a tuple that the filter met before the turn, the marker, and a tuple that it met after the turn
abbrev pub old_tuple : Item
old_tuple = item.Carry (passed 2 (pos 10000) 0)

abbrev pub mark : Item
mark = item.Mark 1 2

abbrev pub new_tuple : Item
new_tuple = item.Carry (passed 3 (pos 5000) 1)

-- a tuple that was nowhere, though an edge leads into the filter
abbrev pub stray_tuple : Item
stray_tuple = item.Carry (payment 4 (pos 1) 0 [])

-- Tuples that leave a node.
use Rattle.std.specs.Prelude.{ℕ, List, [], ◌∷◌, ◌++◌}
use Rattle.tuple_trace.specs.declared.tuple.Tuple.{Tuple}
use Rattle.tuple_trace.specs.declared.tuple.Visit.{Visit}
use Rattle.tuple_trace.specs.declared.value.Value.{Value}
use Rattle.operators.specs.declared.output.Output.{Output}

-- a tuple with one more visit at the end of its trace
abbrev pub visited : Visit → Tuple → Tuple
visited visit tuple = record tuple { trace = tuple.trace ++ visit ∷ [] }

-- a tuple that leaves by a port, after this visit
abbrev pub sent : Visit → ℕ → Tuple → Output
sent visit port tuple = record { port = port; tuple = visited visit tuple }

-- a tuple with other fields
abbrev pub with_fields : List Value → Tuple → Tuple
with_fields fields tuple = record tuple { fields = fields }

-- a tuple with one more birth, after those that it has
abbrev pub born : ℕ → Tuple → Tuple
born index tuple = record tuple { birth = tuple.birth ++ index ∷ [] }

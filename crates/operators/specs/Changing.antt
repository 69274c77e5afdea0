-- Tuples whose fields are changed on their way out of a node.
use Rattle.tuple_trace.specs.declared.tuple.Tuple.{Tuple}
use Rattle.operators.specs.declared.output.Changing.{Changing}

-- the tuple that it leaves as
abbrev pub changed : Changing → Tuple
changed made = record {
  row = made.row;
  birth = made.birth;
  issued = made.issued;
  fields = made.fields;
  trace = made.trace;
}

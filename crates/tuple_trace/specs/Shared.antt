-- Fields that a tuple has alone, or shares with copies of it.
use Rattle.std.specs.Prelude.{List}
use Rattle.std.specs.Arc.{arc_slice_items}
use Rattle.tuple_trace.specs.declared.fields.Held.{Held}
use Rattle.tuple_trace.specs.declared.fields.Held.TheVariants.{Own, Shared}
use Rattle.tuple_trace.specs.declared.value.Value.{Value}

-- The values of fields.
abbrev pub values_held : Held → List Value
values_held (Own values) = values
values_held (Shared values) = arc_slice_items values

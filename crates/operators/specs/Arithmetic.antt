-- What the steps of a map compute.
use Rattle.std.specs.Prelude.{ℤ, ◌+ℤ◌, ◌-ℤ◌, ◌*ℤ◌, List, fold}
use Rattle.std.specs.Int.{int_max, int_min}
use Rattle.tuple_trace.specs.declared.value.Value.{Value}
use Rattle.tuple_trace.specs.declared.value.Value.TheVariants as value
use Rattle.keyed_state.specs.Counts.{clamp}
use Rattle.jobs.specs.declared.column.Column.{Column}
use Rattle.jobs.specs.declared.func.Op.{Op}
use Rattle.jobs.specs.declared.func.Op.TheVariants as op
use Rattle.jobs.specs.declared.func.Operand.{Operand}
use Rattle.jobs.specs.declared.func.Operand.TheVariants as operand
use Rattle.jobs.specs.declared.func.Step.{Step}
use Rattle.operators.specs.Fields.{number_at, written_at}

-- the number that an operand stands for
abbrev pub number_of : List Column → List Value → Operand → ℤ
number_of columns fields (operand.Number number) = number
number_of columns fields (operand.Column column) = number_at columns fields column

-- the exact result of an operation
abbrev pub computed : Op → ℤ → ℤ → ℤ
computed op.Add a b = a +ℤ b
computed op.Sub a b = a -ℤ b
computed op.Mul a b = a *ℤ b
computed op.Min a b = int_min a b
computed op.Max a b = int_max a b

-- what a step computes of the fields: the exact result, cut to the range of 64 bits
abbrev pub result_of : List Column → List Value → Step → ℤ
result_of columns fields step =
    clamp (computed step.op (number_of columns fields step.a) (number_of columns fields step.b))

-- the fields after a step
abbrev pub after_step : List Column → List Value → Step → List Value
after_step columns fields step =
    written_at columns fields step.column (value.Num (result_of columns fields step))

-- the fields after steps, each of which reads what the earlier ones wrote
abbrev pub after_steps : List Column → List Value → List Step → List Value
after_steps columns fields steps = fold (after_step columns) fields steps

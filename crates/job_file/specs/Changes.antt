-- The changes of a request.
use Rattle.std.specs.Prelude.{ℕ, pos, List, [], ◌∷◌, codes, int_lt, nat_abs, Result, Ok, Err}
use Rattle.std.specs.Prelude.{if◌then◌else◌}
use Rattle.toml.specs.Data.{Data, Members, get_member}
use Rattle.keyed_state.specs.declared.carry.Carry.{Carry}
use Rattle.keyed_state.specs.declared.carry.Carry.TheVariants as carry
use Rattle.jobs.specs.JobView.{JobView}
use Rattle.jobs.specs.declared.func.Func.{Func}
use Rattle.versions.specs.declared.request.Change.{Change}
use Rattle.job_file.specs.declared.fault.FormFault.{FormFault}
use Rattle.job_file.specs.declared.fault.FormFault.TheVariants as fault
use Rattle.job_file.specs.declared.fault.Part.TheVariants as part
use Rattle.job_file.specs.Carries.{carry_of}
use Rattle.job_file.specs.Document.{and_then, read_or, table_of, text_of_key, whole_of_key}
use Rattle.job_file.specs.Funcs.{func_in}
use Rattle.job_file.specs.Kinds.{kind_in}
use Rattle.job_file.specs.Names.{node_named}

-- the version that a change was written for
abbrev pub from_in : Members → Result ℕ FormFault
from_in ms =
    and_then (whole_of_key (codes "from") part.From ms)
    (λ z. if int_lt z (pos 0) then Err (fault.Shape part.From) else Ok (nat_abs z))

-- the keys of a change beside those of its function
abbrev pub beside_change : List (List ℕ)
beside_change = codes "node" ∷ codes "from" ∷ codes "kind" ∷ codes "carry" ∷ []

-- the new function
abbrev pub func_of_change : JobView → Members → Result Func FormFault
func_of_change job ms =
    and_then (kind_in ms) (λ k. func_in job.columns job.tables beside_change k ms)

-- what becomes of the counts: they stay where nothing is said
abbrev pub carry_in : Members → Result Carry FormFault
carry_in ms = read_or carry.Keep carry_of (get_member (codes "carry") ms)

-- the change of the node with this name, with these parts
abbrev pub change_with : JobView → List ℕ → ℕ → Func → Carry → Result Change FormFault
change_with job name from f c =
    Ok (record { node = node_named job.nodes name; from = from; func = f; carry = c })

-- the change of a table: its node, the version that it was written for, its function and its carry
abbrev pub change_in : JobView → Members → Result Change FormFault
change_in job ms =
    and_then (text_of_key (codes "node") part.Node ms) (λ name.
    and_then (from_in ms) (λ from.
    and_then (func_of_change job ms) (λ f.
    and_then (carry_in ms) (change_with job name from f))))

-- the change that a value spells, which has to be a table
abbrev pub change_of : JobView → Data → Result Change FormFault
change_of job d = and_then (table_of part.Change d) (change_in job)

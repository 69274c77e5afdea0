-- Numbers of a file that a job has no room for. Each is outside of its limit.
use Rattle.std.specs.Prelude.{ℕ, ℤ, pos, List, codes, Bool, ◌||◌, int_lt, Option, Some, None}
use Rattle.std.specs.Prelude.{option_and_then, Result, Ok, Err, if◌then◌else◌}
use Rattle.std.specs.Option.{option_or}
use Rattle.toml.specs.Data.{Data, Items, no_items, item, Members, as_integer, get_member}
use Rattle.jobs.specs.declared.fault.Which.{Which}
use Rattle.jobs.specs.declared.fault.Which.TheVariants as which
use Rattle.jobs.specs.Limits.{Oversize}
use Rattle.job_file.specs.declared.fault.FormFault.{FormFault}
use Rattle.job_file.specs.declared.fault.Part.TheVariants as part
use Rattle.job_file.specs.Document.{optional_items_at, table_of}
use Rattle.job_file.specs.Numbers.{number_max}

-- the number is below 0, or has more than 32 bits
abbrev pub is_wide : ℤ → Bool
is_wide z = int_lt z (pos 0) || int_lt (pos number_max) z

-- the number of this size, where it is wide
abbrev pub wide_number : Which → Option ℤ → Option Oversize
wide_number size None = None
wide_number size (Some z) = if is_wide z then Some (size, z) else None

-- the number at a key, where it is wide
abbrev pub wide_at : List ℕ → Which → Members → Option Oversize
wide_at key size ms = wide_number size (option_and_then as_integer (get_member key ms))

-- a node's workers, else the most pieces that it makes, else its roof
abbrev pub wide_node : Members → Option Oversize
wide_node ms =
    option_or (wide_at (codes "workers") which.Workers ms)
    (option_or (wide_at (codes "most") which.Most ms) (wide_at (codes "roof") which.Roof ms))

-- what is found in what was read, if it was
abbrev pub found_in : {A : Type 0} → (A → Option Oversize) → Result A FormFault → Option Oversize
found_in find (Err fault) = None
found_in find (Ok x) = find x

-- the first of the items in which something is found
unfoldable pub first_found : (Data → Option Oversize) → Items → Option Oversize
first_found find no_items = None
first_found find (item d ds) = option_or (find d) (first_found find ds)

-- the first wide number of the node that a value spells, if it is a table
abbrev pub wide_item : Data → Option Oversize
wide_item d = found_in wide_node (table_of part.Node d)

-- the first of the nodes' numbers that is wide
abbrev pub wide_in : Members → Option Oversize
wide_in ms = found_in (first_found wide_item) (optional_items_at (codes "node") part.Node ms)

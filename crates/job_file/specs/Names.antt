-- Names, and the numbers that they stand for.
use Rattle.std.specs.Prelude.{ℕ, List, length, take, position, Bool, ◌&&◌, ◌||◌, min, nat_le}
use Rattle.std.specs.Prelude.{nat_eq, ◌==◌, Option, None, Some}
use Rattle.std.specs.Char.{is_ascii_digit, is_ascii_lowercase}
use Rattle.std.specs.Cmp.Lexicographic.{pointwise}
use Rattle.std.specs.List.{list_all}
use Rattle.jobs.specs.declared.column.Column.{Column}
use Rattle.jobs.specs.declared.func.NodeDef.{NodeDef}
use Rattle.jobs.specs.declared.table.Table.{Table}

-- a small letter, a digit or an underscore
abbrev pub is_name_byte : ℕ → Bool
is_name_byte byte = is_ascii_lowercase byte || is_ascii_digit byte || (byte == 95)

-- how many bytes a name has at most
abbrev pub name_max : ℕ
name_max = 32

-- a name of a column, a node or a table
abbrev pub is_name : List ℕ → Bool
is_name text = nat_le 1 (length text) && nat_le (length text) name_max && list_all is_name_byte text

-- the number of what the job doesn't have
abbrev pub nowhere : ℕ
nowhere = 4294967295

-- a place as a number
abbrev pub place_number : Option ℕ → ℕ
place_number None = nowhere
place_number (Some place) = min place nowhere

-- how many columns or nodes are searched for a name; a lawful job has no more
abbrev pub searched_max : ℕ
searched_max = 64

-- the place of the first column with this name, among those that are searched
abbrev pub column_place : List Column → List ℕ → Option ℕ
column_place columns name =
    position (λ column. pointwise nat_eq column.name name) (take searched_max columns)

-- the place of the first node with this name, among those that are searched
abbrev pub node_place : List NodeDef → List ℕ → Option ℕ
node_place nodes name = position (λ node. pointwise nat_eq node.name name) (take searched_max nodes)

-- the place of the first table with this name
abbrev pub table_place : List Table → List ℕ → Option ℕ
table_place tables name = position (λ table. pointwise nat_eq table.name name) tables

-- the number of the first column with this name, or `nowhere`
abbrev pub column_named : List Column → List ℕ → ℕ
column_named columns name = place_number (column_place columns name)

-- the number of the first node with this name, or `nowhere`
abbrev pub node_named : List NodeDef → List ℕ → ℕ
node_named nodes name = place_number (node_place nodes name)

-- the number of the first table with this name, or `nowhere`
abbrev pub table_named : List Table → List ℕ → ℕ
table_named tables name = place_number (table_place tables name)

-- How the entries of a table, and the tables of a job, are read one after another.
use Rattle.std.proofs.Common.{◌≡◌, ℕ, List, [], ◌∷◌, ◌++◌, Ok, Err, String, Global, string_bytes, refl, ap}
use Rattle.std.proofs.lemmas.List.{append-nil}
use Rattle.std.specs.FinMap.{insert}
use Rattle.toml.specs.View.{members_view, view}
use Rattle.toml.specs.declared.value.Value.{Value as Toml}
use Rattle.tuple_trace.specs.declared.value.Value.{Value}
use Rattle.keyed_state.specs.TextMap.{TextMapOf}
use Rattle.jobs.specs.declared.table.Table.{Table}
use Rattle.job_file.specs.declared.fault.FormFault.{FormFault}
use Rattle.job_file.specs.declared.fault.Part.TheVariants as part
use Rattle.job_file.specs.Literals.{literal_of}
use Rattle.job_file.specs.Tables.{entries_onto, named_table, tables_of}
use Rattle.job_file.proofs.ItemLemmas.{after, after-before}

-- one more entry
pub entries_onto-Ok : (entries : TextMapOf Value) (left later : List (String Global × Toml)) (k : String Global) (v : Toml) (key : List ℕ) (value : Value)
    → left ≡ (k, v) ∷ later → key ≡ string_bytes k → literal_of part.Tables (view v) ≡ Ok value
    → entries_onto entries (members_view left) ≡ entries_onto (insert entries key value) (members_view later)
unfolding entries_onto
entries_onto-Ok entries left later k v key value is text ok = rw (is, text, ok) refl

-- the first fault
pub entries_onto-Err : (entries : TextMapOf Value) (left later : List (String Global × Toml)) (k : String Global) (v : Toml) (fault : FormFault)
    → left ≡ (k, v) ∷ later → literal_of part.Tables (view v) ≡ Err fault
    → entries_onto entries (members_view left) ≡ Err fault
unfolding entries_onto
entries_onto-Err entries left later k v fault is err = rw (is, err) refl

-- no entry is left
pub entries_onto-end : (entries : TextMapOf Value) (left : List (String Global × Toml)) → left ≡ [] → entries_onto entries (members_view left) ≡ Ok entries
unfolding entries_onto
entries_onto-end entries left is = rw is refl

-- one more table
pub tables_of-Ok : (tables : List Table) (left later : List (String Global × Toml)) (k : String Global) (v : Toml) (name : List ℕ) (table : Table)
    → left ≡ (k, v) ∷ later → name ≡ string_bytes k → named_table name (view v) ≡ Ok table
    → after tables (tables_of (members_view left)) ≡ after (tables ++ table ∷ []) (tables_of (members_view later))
unfolding tables_of
tables_of-Ok tables left later k v name table is text ok = rw (is, ← text, ok) (after-before tables table (tables_of (members_view later)))

-- the first fault
pub tables_of-Err : (tables : List Table) (left later : List (String Global × Toml)) (k : String Global) (v : Toml) (name : List ℕ) (fault : FormFault)
    → left ≡ (k, v) ∷ later → name ≡ string_bytes k → named_table name (view v) ≡ Err fault
    → after tables (tables_of (members_view left)) ≡ Err fault
unfolding tables_of
tables_of-Err tables left later k v name fault is text err = rw (is, ← text, err) refl

-- no table is left
pub tables_of-end : (tables : List Table) (left : List (String Global × Toml)) → left ≡ [] → after tables (tables_of (members_view left)) ≡ Ok tables
unfolding tables_of
tables_of-end tables left is = rw is (ap Ok (append-nil tables))

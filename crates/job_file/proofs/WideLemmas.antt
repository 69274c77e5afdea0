-- How the items of an array are searched one after another.
use Rattle.std.proofs.Common.{◌≡◌, ◌<◌, ◌≤◌, ◌+◌, ℕ, List, length, drop, get_or, Option, Some, None, refl}
use Rattle.std.proofs.lemmas.List.{drop_all}
use Rattle.toml.specs.Data.{Data}
use Rattle.toml.specs.View.{items_view, view}
use Rattle.toml.specs.declared.value.Value.{Value}
use Rattle.toml.proofs.Views.{items_view-drop}
use Rattle.jobs.specs.Limits.{Oversize}
use Rattle.job_file.specs.Wide.{first_found}

pub first_found-Some : (find : Data → Option Oversize) (values : List Value) (i : ℕ) (value : Value) (wide : Oversize) → i < length values → value ≡ get_or values i value → find (view value) ≡ Some wide → first_found find (items_view (drop i values)) ≡ Some wide
unfolding first_found
first_found-Some find values i value wide inside is some = rw (items_view-drop values i value inside, ← is, some) refl

pub first_found-None : (find : Data → Option Oversize) (values : List Value) (i : ℕ) (value : Value) → i < length values → value ≡ get_or values i value → find (view value) ≡ None → first_found find (items_view (drop i values)) ≡ first_found find (items_view (drop (i + 1) values))
unfolding first_found
first_found-None find values i value inside is none = rw (items_view-drop values i value inside, ← is, none) refl

pub first_found-end : (find : Data → Option Oversize) (values : List Value) (i : ℕ) → length values ≤ i → first_found find (items_view (drop i values)) ≡ None
unfolding first_found
first_found-end find values i end = rw (drop_all i values end) refl

-- The current functions of a job's nodes, and how requests change them.
use Rattle.std.specs.Prelude.{◌≡◌, ℕ, ◌+◌, ◌<◌, ◌-◌, ◌^◌, Bool, false, List, [], ◌∷◌, length, map, take, Option, Some, None, slice_get, slice_set, ◌==◌}
use Rattle.std.specs.List.{list_any}
use Rattle.jobs.specs.declared.func.Func.{Func}
use Rattle.jobs.specs.declared.func.NodeDef.{NodeDef}
use Rattle.versions.specs.declared.book.Current.{Current}
use Rattle.versions.specs.declared.request.Change.{Change}

-- the book of a job that no request has changed
abbrev pub first_book : List NodeDef → List Current
first_book nodes = map (λ (n : NodeDef). record { version = 0; func = n.func }) nodes

-- the version that the book has for a node: 0 if the book has no such node
abbrev pub current_version : Option Current → ℕ
current_version None = 0
current_version (Some current) = current.version

-- the book in which a node has a new function and the next version
abbrev pub with_change : List Current → ℕ → Func → List Current
with_change book node func =
    slice_set book node
    (record { version = current_version (slice_get book node) + 1; func = func })

-- the book after these changes
unfoldable pub accepted : List Current → List Change → List Current
accepted book [] = book
accepted book (change ∷ rest) = accepted (with_change book change.node change.func) rest

-- one of the changes names the node
abbrev pub is_named : List Change → ℕ → Bool
is_named changes node = list_any (λ (c : Change). c.node == node) changes

-- the version of the node isn't the last one
abbrev pub HasRoom : List Current → ℕ → Type 0
HasRoom book node =
    (current : Current) → slice_get book node ≡ Some current → current.version < 2 ^ 64 - 1

-- each change names a node of the book whose version isn't the last one, and no two name the same
pub record CanAccept (book : List Current) (changes : List Change) : Type 0 where
  pub there :
      (i : ℕ) (change : Change) → slice_get changes i ≡ Some change → change.node < length book
  pub room :
      (i : ℕ) (change : Change) → slice_get changes i ≡ Some change → HasRoom book change.node
  pub apart :
      (i : ℕ) (change : Change) → slice_get changes i ≡ Some change →
      is_named (take i changes) change.node ≡ false

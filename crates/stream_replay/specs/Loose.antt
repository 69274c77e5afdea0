-- The first part of a stream that is no run from where the one before it has ended.
use Rattle.std.specs.Prelude.{◌≡◌, ◌≤◌, ◌<◌, ◌-◌, ◌++◌, ◌∷◌, ⊤, ℕ, List, [], Some, length, take}
use Rattle.flow_model.specs.Run.{Ran}
use Rattle.audit_parts.specs.Cut.{parts_of}
use Rattle.stream_replay.specs.InParts.{ArePartRuns, AreRunInParts, Given, Records, first_start}
use Rattle.stream_replay.specs.declared.fault.PartFault.{PartFault}
use Rattle.stream_replay.specs.declared.fault.PartFault.TheVariants as fault

-- the first parts, so many of all, are runs one after another
pub record AreRunUpTo (given : Given) (earlier : List Records) (last : Records) (count : ℕ)
    : Type 0 where
  pub lefts : List Ran
  pub runs : ArePartRuns given (first_start given) (take count earlier) lefts
  pub ends : length earlier < count → AreRunInParts given earlier last

-- the parts before this one, counted from 1, are runs one after another, and those up to it aren't
pub record IsLoose (given : Given) (earlier : List Records) (last : Records) (part : ℕ)
    : Type 0 where
  pub counted : 1 ≤ part
  pub before : AreRunUpTo given earlier last (part - 1)
  pub here : AreRunUpTo given earlier last part → ⊥

-- of these parts, this one is the first that is no run from where the one before it has ended
pub record HasLoose (given : Given) (parts : List Records) (part : ℕ) : Type 0 where
  pub earlier : List Records
  pub last : Records
  pub parts_are : parts ≡ earlier ++ last ∷ []
  pub loose : IsLoose given earlier last part

-- why the parts of an audit with these records aren't runs one after another; out of memory says
-- nothing
abbrev pub IsLooseIn : Given → Records → PartFault → Type 0
IsLooseIn given records (fault.Loose part) =
    (parts : List Records) × (parts_of records ≡ Some parts) × HasLoose given parts part
IsLooseIn given records fault.NoMemory = ⊤

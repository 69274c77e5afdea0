-- What lines tell of the workers.
use Rattle.std.specs.Prelude.{◌≡◌, ◌<◌, ◌^◌, ⊤, ℕ, List, Some, length, slice_get}
use Rattle.std.specs.Int.Signed.{mag}
use Rattle.audit_laws.specs.declared.audit.Line.{Line}
use Rattle.audit_laws.specs.declared.audit.Line.TheVariants as line
use Rattle.audit_laws.specs.Lines.{counts_in, journal_in}
use Rattle.audit_check.specs.declared.told.Told.{Told}

-- The worker of a line, if it has one, is one of `workers`. A count is in the range of its type.
abbrev pub IsWithin : ℕ → Line → Type 0
IsWithin workers (line.Refused noted) = ⊤
IsWithin workers (line.Feed step) = ⊤
IsWithin workers (line.Step w entry) = w < workers
IsWithin workers (line.State w key count) = (w < workers) × (mag count < 2 ^ 63)

-- This is told of `workers` workers.
pub record Tells (workers : ℕ) (lines : List Line) (told : Told) : Type 0 where
  pub journals_long : length told.journals.items ≡ workers
  pub states_long : length told.states.items ≡ workers
  pub journals_are :
      (w : ℕ) → w < workers → slice_get told.journals.items w ≡ Some (journal_in lines w)
  pub states_are :
      (w : ℕ) → w < workers → slice_get told.states.items w ≡ Some (counts_in lines w)

-- How far the records of an audit were read.
use Rattle.std.specs.Prelude.{◌≡◌, ◌≤◌, ◌+◌, ◌⊎◌, ℕ, All, Contains, List, ◌∷◌, ◌++◌, length}
use Rattle.jobs.specs.JobView.{JobView}
use Rattle.sink_journal.specs.Audit.{audit_header}
use Rattle.audit_laws.specs.declared.audit.Line.{Line}
use Rattle.audit_laws.specs.Lines.{IsLawfulLine, StandInOrder, group_of}
use Rattle.audit_laws.specs.Verdict.{fields_of}

-- The header and some lines in shape were read, and these records are left. The next record has
-- this number. The group is the last of a line above, and 0 if there is no line above.
pub record AreRead (job : JobView) (records left : List (List (List ℕ)))
    (number group : ℕ) : Type 0 where
  pub above : List Line
  pub fields : records ≡ audit_header ∷ (fields_of job above ++ left)
  pub number_is : number ≡ 1 + length above
  pub each : All (IsLawfulLine job) above
  pub ordered : StandInOrder above
  pub below : All (λ earlier. group_of earlier ≤ group) above
  pub reached :
      (group ≡ 0) ⊎ ((earlier : Line) × Contains above earlier × (group_of earlier ≡ group))

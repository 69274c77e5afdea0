-- Which statuses of a call are left if the outside counts no fault.
use Rattle.std.specs.Prelude.{◌≡◌, ◌⊎◌, ℕ, [], ◌∷◌, Contains}
use Rattle.fries_words.specs.Asked.{Asked}
use Rattle.live_control.specs.Asking.{AsksIs}
use Rattle.fries_lines.specs.Faults.{status_for}
use Rattle.fries_call.specs.Answers.{Answered, Ends, IsNothingAsked}
use Rattle.payments.specs.World.{World}
use Rattle.fries_steps.specs.Outcomes.{StopsFor}
use Rattle.fries_steps.specs.declared.answer.Answer.{Answer}

-- neither the shelf nor the output has counted a fault
pub record IsSure (outside : World) : Type 0 where
  pub reads : outside.shelf.faults.reads ≡ 0
  pub writes : outside.shelf.faults.writes ≡ 0
  pub out : outside.out.faults ≡ 0

-- the status of a call that no refusal of the outside has ended
abbrev pub IsSureStatus : ℕ → Type 0
IsSureStatus status = Contains (0 ∷ 1 ∷ 2 ∷ 3 ∷ 4 ∷ 7 ∷ 8 ∷ 9 ∷ 10 ∷ 11 ∷ []) status

-- a call answered this, whatever it was asked
abbrev pub IsAnswered : AsksIs → AsksIs → World → World → Answer → Type 0
IsAnswered was now old new answer =
    Answered (StopsFor IsNothingAsked) old new answer
    ⊎ ((asked : Asked) × Answered (Ends asked was now) old new answer)

-- a call ends with such a status if neither the shelf nor the output nor the input has counted a
-- fault before or in it
abbrev pub SureCallsEndWell : Type 0
SureCallsEndWell = (was now : AsksIs) (old new : World) (answer : Answer)
    → IsAnswered was now old new answer → IsSure old → IsSure new →
    was.faults ≡ 0 → now.faults ≡ 0 → IsSureStatus (status_for answer.fault answer.refused)

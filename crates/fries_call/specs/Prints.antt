-- How a call ends that prints, and changes no file.
use Rattle.std.specs.Prelude.{◌≡◌, ℕ, List, [], None, Some}
use Rattle.payments.specs.World.{World}
use Rattle.fries_steps.specs.Outcomes.{PrintsLines}
use Rattle.fries_steps.specs.declared.answer.Answer.{Answer}
use Rattle.fries_steps.specs.declared.running.Done.{Done}

-- the call came to printing a text; it judged and ran nothing
pub record PrintsText (text : List ℕ) (old new : World) (answer : Answer) : Type 0 where
  pub lines : PrintsLines text old new answer.fault
  pub refused : answer.refused ≡ []
  pub ran : answer.ran ≡ None
  pub start : answer.start ≡ None

-- the call has a run that is so, and came to printing lines of it
pub record PrintsRun (IsSo : Done → Type 0) (lines_of : Done → List ℕ) (old new : World)
    (answer : Answer) : Type 0 where
  pub done : Done
  pub is_so : IsSo done
  pub lines : PrintsLines (lines_of done) old new answer.fault
  pub refused : answer.refused ≡ done.refused
  pub ran : answer.ran ≡ Some done.ran
  pub start : answer.start ≡ None

-- How a call of `check` ends.
use Rattle.std.specs.Prelude.{◌⊎◌}
use Rattle.fries_words.specs.Form.{Text}
use Rattle.jobs.specs.JobView.{JobView}
use Rattle.payments.specs.World.{World}
use Rattle.fries_lines.specs.Lines.{sizes_line}
use Rattle.fries_steps.specs.Outcomes.{StopsFor}
use Rattle.fries_steps.specs.Reading.{IsJobOf, IsNoJob}
use Rattle.fries_steps.specs.declared.answer.Answer.{Answer}
use Rattle.fries_call.specs.Prints.{PrintsText}

-- how a call of `check` ends, before the line of its fault is printed: it read no job, or it read
-- one and came to printing its sizes
abbrev pub EndsCheck : Text → World → World → Answer → Type 0
EndsCheck name old new answer =
    StopsFor (IsNoJob old.shelf.files name) old new answer
    ⊎ ((job : JobView) × IsJobOf old.shelf.files name job
    × PrintsText (sizes_line job) old new answer)

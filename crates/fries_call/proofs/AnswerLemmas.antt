-- What the files of any call are answered by, and clauses of what is asked.
use Rattle.std.proofs.Common.{Option, None, Some}
use Rattle.std.specs.Prelude.{IfNone}
use Rattle.job_file.specs.Job.{Excludes, HaveOneFault}
use Rattle.payments.specs.World.{World}
use Rattle.fries_words.specs.Asked.{Asked, Check, First, Help, Live, Make, Plan, Resume, Run, Save, Verify, Version}
use Rattle.fries_words.specs.Help.{help_of, version_line}
use Rattle.live_control.specs.Asking.{AsksIs}
use Rattle.fries_steps.specs.Effects.{PrintsFault}
use Rattle.fries_steps.specs.declared.answer.Answer.{Answer}
use Rattle.fries_call.specs.Answers.{Ends, Follows}
use Rattle.fries_call.proofs.CommandLemmas.{follows_check, follows_first, follows_live, follows_make, follows_plan, follows_run, follows_save, follows_text}
use Rattle.fries_call.proofs.ResumeLemmas.{follows_resume}
use Rattle.fries_call.proofs.VerifyLemmas.{follows_verify}

pub follows : Excludes → HaveOneFault → (asked : Asked) (was now : AsksIs) (old between new : World) (answer : Answer) → Ends asked was now old between answer → PrintsFault answer.fault between new →
    Follows asked was now old new answer.fault
follows excludes have (First asked) was now old between new answer ends prints = follows_first asked old between new answer ends prints
follows excludes have (Check name) was now old between new answer ends prints = follows_check excludes have name old between new answer ends prints
follows excludes have (Plan asked) was now old between new answer ends prints = follows_plan excludes have asked old between new answer ends prints
follows excludes have (Run asked) was now old between new answer ends prints = follows_run excludes have asked old between new answer ends prints
follows excludes have (Make asked) was now old between new answer ends prints = follows_make excludes have asked old between new answer ends prints
follows excludes have (Save asked) was now old between new answer ends prints = follows_save excludes have asked old between new answer ends prints
follows excludes have (Resume asked) was now old between new answer ends prints = follows_resume excludes have asked old between new answer ends prints
follows excludes have (Live asked) was now old between new answer ends prints = follows_live excludes have asked was now old between new answer ends prints
follows excludes have (Verify asked) was now old between new answer ends prints = follows_verify excludes have asked old between new answer ends prints
follows excludes have (Help about) was now old between new answer ends prints = follows_text (help_of about) old between new answer ends prints
follows excludes have Version was now old between new answer ends prints = follows_text version_line old between new answer ends prints

-- what follows from what holds if nothing was asked
pub none_then : {A : Type 0} (o : Option A) (P Q : Type 0) → IfNone o P → (P → Q) → IfNone o Q
none_then None P Q p then_so = then_so p
none_then (Some a) P Q p then_so = tt

-- How a call ends whose words ask for nothing, or for which memory runs out.
use Rattle.std.proofs.Common.{◌≡◌, ◌⊎◌, inl, ℕ, List, Option, None, Some, refl, ap}
use Rattle.std.specs.Prelude.{IfNone, IfSome}
use Rattle.payments.specs.Causes.{Faults}
use Rattle.payments.specs.World.{World}
use Rattle.fries_words.specs.Asked.{Asked, Check, First, Help, Live, Make, Plan, Resume, Run, Save, Verify, Version}
use Rattle.fries_words.specs.Help.{help_of, version_line}
use Rattle.live_control.specs.Asking.{AsksIs}
use Rattle.fries_lines.specs.declared.fault.Fault.{Fault}
use Rattle.fries_lines.specs.declared.fault.Fault.TheVariants as fault
use Rattle.fries_steps.specs.Outcomes.{StopsFor, stopped}
use Rattle.fries_steps.specs.declared.answer.Answer.{Answer}
use Rattle.fries_steps.proofs.PrintLemmas.{prints_nothing}
use Rattle.fries_call.specs.Answers.{Ends, IsNothingAsked}
use Rattle.fries_call.specs.Prints.{PrintsText}

-- nothing was read, stored or printed
stops_for_memory : (Cause : Faults → Faults → Fault → Type 0) (old : World) (answer : Answer) → answer ≡ stopped fault.NoMemory → Cause old.shelf.faults old.shelf.faults fault.NoMemory → StopsFor Cause old old answer
stops_for_memory Cause old answer is cause =
    record { why = fault.NoMemory; answer_is = is; cause = cause; files = refl; draft = refl; out = refl }

text_for_memory : (text : List ℕ) (old : World) (answer : Answer) → answer ≡ stopped fault.NoMemory → PrintsText text old old answer
text_for_memory text old answer is = record {
  lines = record { shelf = refl; prints = prints_nothing text old.out answer.fault (ap (λ (a : Answer). a.fault) is) };
  refused = ap (λ (a : Answer). a.refused) is;
  ran = ap (λ (a : Answer). a.ran) is;
  start = ap (λ (a : Answer). a.start) is;
}

-- any call may end so
ends_memory : (asked : Asked) (asks : AsksIs) (old : World) (answer : Answer) → answer ≡ stopped fault.NoMemory → Ends asked asks asks old old answer
ends_memory (First asked) asks old answer is = inl (stops_for_memory _ old answer is refl)
ends_memory (Check name) asks old answer is = inl (stops_for_memory _ old answer is refl)
ends_memory (Plan asked) asks old answer is = inl (stops_for_memory _ old answer is (inl refl))
ends_memory (Run asked) asks old answer is = inl (stops_for_memory _ old answer is (inl (inl refl)))
ends_memory (Make asked) asks old answer is = inl (stops_for_memory _ old answer is (inl refl))
ends_memory (Save asked) asks old answer is = inl (stops_for_memory _ old answer is (inl (inl refl)))
ends_memory (Resume asked) asks old answer is = inl (stops_for_memory _ old answer is (inl (inl (inl refl))))
ends_memory (Live asked) asks old answer is = inl (record { stops = stops_for_memory _ old answer is (inl (inl refl)); asks = inl refl })
ends_memory (Verify asked) asks old answer is = inl (stops_for_memory _ old answer is (inl (inl (inl (inl refl)))))
ends_memory (Help about) asks old answer is = text_for_memory (help_of about) old answer is
ends_memory Version asks old answer is = text_for_memory version_line old answer is

pub memory_ends : (o : Option Asked) (asks : AsksIs) (old : World) (answer : Answer) → answer ≡ stopped fault.NoMemory → IfSome o (λ asked. Ends asked asks asks old old answer)
memory_ends None asks old answer is = tt
memory_ends (Some asked) asks old answer is = ends_memory asked asks old answer is

-- a call stops if nothing was asked, or memory ran out
pub nothing_asked : (o : Option Asked) (old : World) (answer : Answer) (why : Fault) → (why ≡ fault.Usage) ⊎ (why ≡ fault.NoMemory) → answer ≡ stopped why → IfNone o (StopsFor IsNothingAsked old old answer)
nothing_asked None old answer why one is = record { why = why; answer_is = is; cause = (one, refl); files = refl; draft = refl; out = refl }
nothing_asked (Some asked) old answer why one is = tt

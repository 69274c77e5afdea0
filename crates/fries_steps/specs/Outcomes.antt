-- How a call ends, before the line of its fault is printed.
use Rattle.std.specs.Prelude.{◌≡◌, ◌⊎◌, ◌∷◌, ℕ, List, [], Option, None, Some, Contains, IfSome}
use Rattle.std.specs.Prelude.{option_map}
use Rattle.std.specs.FinMap as map
use Rattle.payments.specs.Causes.{Faults}
use Rattle.payments.specs.Files.{Files}
use Rattle.payments.specs.World.{World}
use Rattle.fries_steps.specs.Effects.{FileText, Prints, StoresNot, StoresWhole}
use Rattle.fries_steps.specs.declared.answer.Answer.{Answer}
use Rattle.fries_lines.specs.declared.fault.Fault.{Fault}
use Rattle.fries_lines.specs.declared.fault.Fault.TheVariants as fault

-- ---- before anything is stored or printed

-- the answer of a call that stopped for a fault before it had judged or run anything
abbrev pub stopped : Fault → Answer
stopped why = record { fault = Some why; refused = []; ran = None; start = None }

-- the call stopped for such a cause; it changed no file and printed nothing
pub record StopsFor (Cause : Faults → Faults → Fault → Type 0) (old new : World)
    (answer : Answer) : Type 0 where
  pub why : Fault
  pub answer_is : answer ≡ stopped why
  pub cause : Cause old.shelf.faults new.shelf.faults why
  pub files : new.shelf.files ≡ old.shelf.files
  pub draft : new.shelf.draft ≡ old.shelf.draft
  pub out : new.out ≡ old.out

-- ---- from then on

-- lines were printed, or what stopped that left a part of them; no file changed
pub record PrintsLines (lines : List ℕ) (old new : World) (answer : Option Fault) : Type 0 where
  pub shelf : new.shelf ≡ old.shelf
  pub prints : Prints lines old.out new.out answer

-- storing a text was broken off: every file is as before, and nothing is printed
pub record StopsStoring (text : FileText) (old new : World) (answer : Option Fault) : Type 0 where
  pub why : Fault
  pub answer_is : answer ≡ Some why
  pub cause : StoresNot text.is text.name old.shelf.faults new.shelf.faults why
  pub files : new.shelf.files ≡ old.shelf.files
  pub draft : new.shelf.draft ≡ None
  pub out : new.out ≡ old.out

-- how storing texts one after the other and then printing lines ends
abbrev pub EndsStoring : List FileText → List ℕ → World → World → Option Fault → Type 0
EndsStoring [] lines old new answer = PrintsLines lines old new answer
EndsStoring (text ∷ later) lines old new answer =
    StopsStoring text old new answer ⊎ ((stored : World) × StoresWhole text old stored
    × EndsStoring later lines stored new answer)

-- memory ran out before anything was stored or printed
pub record StopsUnstored (old new : World) (answer : Option Fault) : Type 0 where
  pub answer_is : answer ≡ Some fault.NoMemory
  pub same : new ≡ old

-- how a run ends that leaves these texts and these lines
abbrev pub EndsAfterRun : List FileText → List ℕ → World → World → Option Fault → Type 0
EndsAfterRun texts lines old new answer = StopsUnstored old new answer
    ⊎ EndsStoring texts lines old new answer

-- ---- what that leaves

-- what stands under a name, if the files are told: bytes, or no file
abbrev pub told_file : Option Files → List ℕ → Option (Option (List ℕ))
told_file files name = option_map (λ files. map.get files name) files

-- the file of this name is as before, or it holds the whole of a text that is stored under its name
abbrev pub IsAsBeforeOrWhole : List FileText → Option Files → Option Files → List ℕ → Type 0
IsAsBeforeOrWhole texts old new name =
    (told_file new name ≡ told_file old name)
    ⊎ ((text : FileText) × Contains texts text × (text.name ≡ name)
    × IfSome (told_file new name) (λ file. file ≡ Some text.text))

-- however a run ends that leaves texts, each file is so
abbrev pub FilesEndWhole : Type 0
FilesEndWhole =
    (texts : List FileText) (lines : List ℕ) (old new : World) (answer : Option Fault)
    → EndsAfterRun texts lines old new answer → (name : List ℕ)
    → IsAsBeforeOrWhole texts old.shelf.files new.shelf.files name

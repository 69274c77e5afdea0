-- What a stream takes of a later reading of its requests.
use Rattle.std.specs.Prelude.{◌≡◌, ◌⊎◌, ◌<◌, ◌++◌, ℕ, List, Option, IfSome, Ok, Err, length}
use Rattle.std.specs.Prelude.{map}
use Rattle.job_file.specs.RequestFile.{requests_up_to}
use Rattle.job_file.specs.declared.fault.ReqFileFault.{ReqFileFault}
use Rattle.jobs.specs.Job.{job_view}
use Rattle.payments.specs.Causes.{Faults, ReadFailed}
use Rattle.payments.specs.Files.{Files, told_bytes}
use Rattle.versions.specs.declared.limits.TheConstants.{MAX_STREAM_REQUESTS}
use Rattle.versions.specs.declared.request.Request.{Request}
use Rattle.fries_lines.specs.Faults.{limit_of}
use Rattle.fries_lines.specs.Lines.{noted}
use Rattle.fries_lines.specs.declared.fault.FileIs.TheVariants as file
use Rattle.fries_steps.specs.Reading.{HasReadFile}
use Rattle.stream_step.specs.declared.stream.Stream.{Stream}
use Rattle.stream_intake.specs.Intake.{accepted_after, known_after, refused_after}
use Rattle.stream_turns.specs.declared.inputs.StreamInputs.{StreamInputs}

-- The stream takes what these requests have beyond the known ones. Those that are refused are
-- noted.
pub record TakesFound (found : List Request) (old : StreamInputs) (stream : Stream)
    (new : StreamInputs)
    (next : Stream) : Type 0 where
  pub known_are : new.known.requests ≡ known_after old.known.requests found
  pub pending_are : next.pending
      ≡ stream.pending ++ accepted_after stream old.known.requests new.known.requests
  pub refused_are : new.refused
      ≡ old.refused ++ refused_after stream old.known.requests new.known.requests
  pub noted_are : new.books.refused.items ≡ old.books.refused.items
      ++ map noted (refused_after stream old.known.requests new.known.requests)
  pub read_are : new.books.read ≡ length new.known.requests

-- Nothing is taken.
pub record TakesNothing (old : StreamInputs) (stream : Stream) (new : StreamInputs)
    (next : Stream) : Type 0 where
  pub known_are : new.known ≡ old.known
  pub stream_is : next ≡ stream
  pub refused_are : new.refused ≡ old.refused
  pub books_are : new.books ≡ old.books

-- The stream takes what these bytes tell. It takes nothing if they are those that were last looked
-- at, or tell no requests.
abbrev pub TakesBytes : List ℕ → StreamInputs → Stream → StreamInputs → Stream → Type 0
TakesBytes bytes old stream new next =
    ((found : List Request)
    × (requests_up_to MAX_STREAM_REQUESTS (job_view stream.setup.job) bytes ≡ Ok found)
    × TakesFound found old stream new next)
    ⊎ (TakesNothing old stream new next
    × ((bytes ≡ old.seen) ⊎ ((why : ReqFileFault)
    × (requests_up_to MAX_STREAM_REQUESTS (job_view stream.setup.job) bytes ≡ Err why))))

-- The stream takes what the file tells. It takes nothing if the file couldn't be read, or is too
-- long.
abbrev pub TakesFile : Option Files → List ℕ → Faults → Faults → StreamInputs → Stream
    → StreamInputs → Stream
    → Type 0
TakesFile files name before after old stream new next =
    HasReadFile file.Requests (λ bytes. TakesBytes bytes old stream new next) files name
    ⊎ (TakesNothing old stream new next × (ReadFailed name before after
    ⊎ IfSome (told_bytes files name) (λ bytes. limit_of file.Requests < length bytes)))

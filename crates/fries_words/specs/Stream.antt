-- What a command line asks of a stream.
use Rattle.std.specs.Prelude.{◌||◌, ℕ, Bool, true, false, is_some, List, [], ◌∷◌, Option, None}
use Rattle.std.specs.Prelude.{Some, option_and_then, option_map, codes, if◌then◌else◌}
use Rattle.std.specs.Str.{bytes_eq}
use Rattle.tuple_trace.specs.Digits.{at_most, digits_of}
use Rattle.fries_words.specs.Form.{Text, found_in_words, value_of}
use Rattle.fries_words.specs.Asked.{PlanAsked, plan_asked}
use Rattle.fries_words.specs.Words.{Values, asks_help, engine_in, form_of, is_true, value_named}
use Rattle.fries_words.specs.Words.{plan_in, size_in}
use Rattle.fries_words.specs.declared.command.EngineSize.{EngineSize}
use Rattle.fries_words.specs.declared.stream.StreamFiles.{StreamFiles}
use Rattle.fries_words.specs.declared.stream.StreamSaving.{StreamSaving}
use Rattle.fries_words.specs.declared.stream.TheConstants.{MAX_EVERY, MAX_FROM, USUAL_EVERY}
use Rattle.fries_words.specs.declared.topic.Topic.TheVariants as topic

-- ---- what is asked

-- what a stream is asked to save: the savepoint's file, and after how many rows it is written. A
-- stream that goes on from the savepoint has left out so many of its first rows.
pub record SavingAsked : Type 0 where
  pub file : Text
  pub every : ℕ
  pub resume : Option ℕ

-- what `stream` is asked to do: the files of `plan`, the alerts and the audit that it is to write,
-- by how large engines, whether its requests take effect just behind their rows, what it is to
-- save, and whether it is to tell how far it has come
pub record StreamAsked : Type 0 where
  pub plan : PlanAsked
  pub alerts : Text
  pub audit : Text
  pub size : EngineSize
  pub exact : Bool
  pub saving : Option SavingAsked
  pub progress : Bool

-- what a `StreamSaving` asks for
abbrev pub saving_asked : StreamSaving → SavingAsked
saving_asked saving =
    record { file = saving.file; every = saving.every; resume = saving.resume }

-- what the files of `stream` ask for
abbrev pub stream_asked : StreamFiles → StreamAsked
stream_asked files = record {
  plan = plan_asked files.plan;
  alerts = files.alerts;
  audit = files.audit;
  size = files.size;
  exact = files.exact;
  saving = option_map saving_asked files.saving;
  progress = files.progress;
}

-- ---- values

-- how many rows a stream that goes on has left out: none, if no number says it
abbrev pub left_out : Option Text → Option ℕ
left_out None = Some 0
left_out (Some text) = at_most MAX_FROM (digits_of text)

-- whether a stream goes on, and how many rows it has left out then; a stream that begins anew
-- leaves out none
abbrev pub goes_on_from : Bool → Option Text → Option (Option ℕ)
goes_on_from true from = option_map Some (left_out from)
goes_on_from false from = if is_some from then None else Some None

-- what is saved to this file
abbrev pub saving_over : Text → Option ℕ → Option (Option ℕ) → Option SavingAsked
saving_over file None resume = None
saving_over file (Some every) None = None
saving_over file (Some every) (Some resume) =
    Some (record { file = file; every = every; resume = resume })

-- a savepoint's options that need its file
abbrev pub needs_save : Values → Bool
needs_save values =
    is_some (values (codes "every"))
    || (is_some (values (codes "from")) || is_true (values (codes "resume")))

-- what is saved, if the file of the savepoint is named
abbrev pub saving_of : Option Text → Values → Option (Option SavingAsked)
saving_of None values = if needs_save values then None else Some None
saving_of (Some file) values =
    option_map Some (saving_over file (size_in USUAL_EVERY MAX_EVERY (values (codes "every")))
    (goes_on_from (is_true (values (codes "resume"))) (values (codes "from"))))

-- the savepoint is a file that is written anyhow
abbrev pub is_written : Option Text → Values → Bool
is_written None values = false
is_written (Some save) values =
    bytes_eq (value_named values (codes "alerts")) save
    || bytes_eq (value_named values (codes "audit")) save

-- two of the files that a stream writes are one word
abbrev pub clash_in : Values → Bool
clash_in values =
    bytes_eq (value_named values (codes "alerts")) (value_named values (codes "audit"))
    || is_written (values (codes "save")) values

-- the stream of this size that the values name
abbrev pub stream_over : Values → Option EngineSize → Option (Option SavingAsked)
    → Option StreamAsked
stream_over values None saving = None
stream_over values (Some size) None = None
stream_over values (Some size) (Some saving) =
    Some (record {
      plan = plan_in values;
      alerts = value_named values (codes "alerts");
      audit = value_named values (codes "audit");
      size = size;
      exact = is_true (values (codes "exact"));
      saving = saving;
      progress = is_true (values (codes "progress"));
    })

-- what the values of `stream` ask for
abbrev pub stream_with : Values → Option StreamAsked
stream_with values =
    if clash_in values then None
    else stream_over values (engine_in values) (saving_of (values (codes "save")) values)

-- ---- words

-- the words ask for a stream, and not for help on it
abbrev pub is_stream : List Text → Bool
is_stream [] = false
is_stream (word ∷ words) =
    if bytes_eq word (codes "stream") then if asks_help words then false else true else false

-- what the words after `stream` ask for, if they have its full form
abbrev pub stream_after : List Text → Option StreamAsked
stream_after words =
    option_and_then (λ found. stream_with (value_of found))
    (found_in_words (form_of topic.Stream) words)

-- what words ask of a stream. None if they ask for none.
abbrev pub stream_of : List Text → Option StreamAsked
stream_of [] = None
stream_of (word ∷ words) = if is_stream (word ∷ words) then stream_after words else None

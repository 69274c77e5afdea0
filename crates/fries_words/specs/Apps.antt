-- The commands that `clap` reads the words by.
use Rattle.std.specs.Prelude.{◌≡◌, ◌++◌, ◌∷◌, [], Bool, List, map, true, false, Some, codes}
use Rattle.std.specs.Borrow.{Bor}
use Rattle.clap.specs.Simple.{on_top}
use Rattle.clap.specs.Words.{App, app_of, Rule, Shape, Text, new_app, new_rule}
use Rattle.clap.specs.declared.builder.action.ArgAction.TheVariants.{SetTrue}
use Rattle.clap.specs.declared.builder.command.Command.{Command}
use Rattle.clap.specs.declared.builder.command.Command.TheViews.{out-Command}
use Rattle.fries_words.specs.Words.{form_of}
use Rattle.fries_words.specs.Form.{Flag, Form, ValueOption}
use Rattle.fries_words.specs.declared.topic.Topic.{Topic}
use Rattle.fries_words.specs.declared.topic.Topic.TheVariants as topic

-- the command is this one, and no argument of it is one of its subcommands too
abbrev pub IsApp : Command → App → Type 0
IsApp command app = (app_of command ≡ app) × ((out-Command command).has_globals ≡ false)

-- a name, which is needed or may be left out
abbrev pub name_rule : Bool → Text → Rule
name_rule needed id = record (new_rule id) { required = needed }

-- an option with a value
abbrev pub option_rule : Text → Rule
option_rule id = record (new_rule id) { long = Some id }

-- an option without one
abbrev pub switch_rule : Text → Rule
switch_rule id = record (option_rule id) { action = Some SetTrue }

abbrev pub option_rule_of : ValueOption → Rule
option_rule_of option = option_rule option.id

abbrev pub flag_rule_of : Flag → Rule
flag_rule_of flag = switch_rule flag.id

-- the command with these arguments behind its own
abbrev pub with_rules : App → List Rule → App
with_rules app rules = on_top (λ top. record top { rules = top.rules ++ rules }) app

-- the command with the arguments of a form: its names, those that may be left out, its options and
-- its flags
abbrev pub command_app : Text → Form → App
command_app word form =
    with_rules
    (with_rules
    (with_rules (with_rules (new_app word) (map (name_rule true) form.names))
    (map (name_rule false) form.extra))
    (map option_rule_of form.options))
    (map flag_rule_of form.flags)

-- the program gets the words after its own name
abbrev pub without_its_name : App → App
without_its_name app = record app { top = record app.top { no_binary_name = true } }

-- a command and what it is about, as the code holds them
abbrev pub topic_view : Bor Text × Topic → Text × Topic
topic_view pair = (pair.0.now, pair.1)

-- a command under this word
abbrev pub shape_on : Text × Topic → Shape
shape_on (word, about) = (command_app word (form_of about)).top

-- the program with these commands behind its own
abbrev pub with_shapes : App → List Shape → App
with_shapes app [] = app
with_shapes app (shape ∷ shapes) =
    record { top = record app.top { is_leaf = false }; subs = app.subs ++ shape ∷ shapes }

-- each command, and what it is about
abbrev pub commands : List (Text × Topic)
commands =
    (codes "first", topic.First)
    ∷ (codes "check", topic.Check)
    ∷ (codes "plan", topic.Plan)
    ∷ (codes "run", topic.Run)
    ∷ (codes "make", topic.Make)
    ∷ (codes "save", topic.Save)
    ∷ (codes "resume", topic.Resume)
    ∷ (codes "live", topic.Live)
    ∷ (codes "verify", topic.Verify)
    ∷ (codes "stream", topic.Stream)
    ∷ []

-- the program with its commands
abbrev pub program_app : App
program_app = with_shapes (without_its_name (new_app (codes "fries"))) (map shape_on commands)

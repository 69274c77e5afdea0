-- That `clap` refuses no full form of a command of the program.
use Rattle.std.proofs.Common.{Bor, ◌≡◌, ◌≢◌, ◌≤◌, ◌-◌, ◌∙◌, List, [], ◌∷◌, ◌++◌, ◌&&◌, Bool, true}
use Rattle.std.proofs.Common.{false, Option, Some, None, refl, sym, ap, ap₂, subst, is_some, get_or}
use Rattle.std.proofs.Common.{length, take, drop}
use Rattle.std.proofs.lemmas.Bool.{and_from, false≢true}
use Rattle.std.specs.List.{fold, list_all}
use Rattle.std.specs.Prelude.{Box, IfSome, option_map, slice_get}
use Rattle.std.specs.Box.{box_value}
use Rattle.clap.specs.Simple.{Shape, built, entered, is_simple}
use Rattle.clap.specs.Takes.{built_takes, default_passes, entered_passes, is_valid, level_passes}
use Rattle.clap.specs.Takes.{settle_passes, takes, turn_passes, walk_passes}
use Rattle.clap.specs.Walk.{Held, Names, Row, Rule, Text, Walk, finished, nothing_held, walk_from}
use Rattle.clap.specs.Walk.{walked}
use Rattle.clap.specs.Words.{subcommand_name_of, subcommand_of, subcommand_rows, subcommand_rows_of}
use Rattle.clap.specs.declared.parser.matches.ArgMatches.{ArgMatches}
use Rattle.clap.specs.declared.parser.matches.ArgMatches.TheViews.{out-ArgMatches, out-SubCommand}
use Rattle.clap.specs.declared.parser.matches.SubCommand.{SubCommand}
use Rattle.clap.proofs.OnLiterals.{clap_on_literals}
use Rattle.fries_words.specs.Apps.{program_app}
use Rattle.fries_words.specs.Form.{Form, found_in_words}
use Rattle.fries_words.specs.Views.{texts}
use Rattle.fries_words.specs.Words.{form_of, topic_of}
use Rattle.fries_words.specs.declared.topic.Topic.{Topic}
use Rattle.fries_words.specs.declared.topic.Topic.TheVariants as topic
use Rattle.fries_words.proofs.FormLemmas.{no_text, texts-behind, texts-split}
use Rattle.fries_words.proofs.TakesLemmas.{IsEasy, level_takes}
use Rattle.fries_words.proofs.TopicLemmas.{enters, stops, topic_first, top_names, top_rules}
use Rattle.fries_words.proofs.TopicLemmas.{word_is}
use Rattle.fries_words.proofs.TopicRules.{program_is_simple, reads, shape_at, word_of}

-- ---- a command

abbrev Easy : Topic → Type 0
Easy about = IsEasy (shape_at about) (form_of about)

easy_first : Easy topic.First
unfolding clap_on_literals
easy_first =
    record {
      again = refl;
      help = refl;
      below = refl;
      negates = refl;
      free = refl;
      defaults = refl;
      named = refl;
    }

easy_check : Easy topic.Check
unfolding clap_on_literals
easy_check =
    record {
      again = refl;
      help = refl;
      below = refl;
      negates = refl;
      free = refl;
      defaults = refl;
      named = refl;
    }

easy_plan : Easy topic.Plan
unfolding clap_on_literals
easy_plan =
    record {
      again = refl;
      help = refl;
      below = refl;
      negates = refl;
      free = refl;
      defaults = refl;
      named = refl;
    }

easy_run : Easy topic.Run
unfolding clap_on_literals
easy_run =
    record {
      again = refl;
      help = refl;
      below = refl;
      negates = refl;
      free = refl;
      defaults = refl;
      named = refl;
    }

easy_make : Easy topic.Make
unfolding clap_on_literals
easy_make =
    record {
      again = refl;
      help = refl;
      below = refl;
      negates = refl;
      free = refl;
      defaults = refl;
      named = refl;
    }

easy_save : Easy topic.Save
unfolding clap_on_literals
easy_save =
    record {
      again = refl;
      help = refl;
      below = refl;
      negates = refl;
      free = refl;
      defaults = refl;
      named = refl;
    }

easy_resume : Easy topic.Resume
unfolding clap_on_literals
easy_resume =
    record {
      again = refl;
      help = refl;
      below = refl;
      negates = refl;
      free = refl;
      defaults = refl;
      named = refl;
    }

easy_live : Easy topic.Live
unfolding clap_on_literals
easy_live =
    record {
      again = refl;
      help = refl;
      below = refl;
      negates = refl;
      free = refl;
      defaults = refl;
      named = refl;
    }

easy_verify : Easy topic.Verify
unfolding clap_on_literals
easy_verify =
    record {
      again = refl;
      help = refl;
      below = refl;
      negates = refl;
      free = refl;
      defaults = refl;
      named = refl;
    }

easy_stream : Easy topic.Stream
unfolding clap_on_literals
easy_stream =
    record {
      again = refl;
      help = refl;
      below = refl;
      negates = refl;
      free = refl;
      defaults = refl;
      named = refl;
    }

easy : (about : Topic) → about ≢ topic.Program → Easy about
easy topic.Program real = absurd (real refl)
easy topic.First real = easy_first
easy topic.Check real = easy_check
easy topic.Plan real = easy_plan
easy topic.Run real = easy_run
easy topic.Make real = easy_make
easy topic.Save real = easy_save
easy topic.Resume real = easy_resume
easy topic.Live real = easy_live
easy topic.Verify real = easy_verify
easy topic.Stream real = easy_stream

-- the command that was entered takes the words
abbrev Enters : Topic → List Text → Type 0
Enters about ws =
    (entered_passes (built program_app) (Some (word_of about, ws)) ≡ true)
    × (is_some (entered (built program_app) (Some (word_of about, ws))) ≡ true)

enters_passing : (about : Topic) (ws : List Text) → about ≢ topic.Program
    → level_passes (shape_at about) [] nothing_held ws false ≡ true → Enters about ws
unfolding clap_on_literals
enters_passing topic.Program ws real passes = absurd (real refl)
enters_passing topic.First ws real passes = (passes, refl)
enters_passing topic.Check ws real passes = (passes, refl)
enters_passing topic.Plan ws real passes = (passes, refl)
enters_passing topic.Run ws real passes = (passes, refl)
enters_passing topic.Make ws real passes = (passes, refl)
enters_passing topic.Save ws real passes = (passes, refl)
enters_passing topic.Resume ws real passes = (passes, refl)
enters_passing topic.Live ws real passes = (passes, refl)
enters_passing topic.Verify ws real passes = (passes, refl)
enters_passing topic.Stream ws real passes = (passes, refl)

-- ---- the program above it

-- a walk that stopped refuses no word
stopped_passes : (s : Shape) (names : Names) (w : Walk) (p : Text × List Text) (ws : List Text)
    → w.stopped ≡ Some p → walk_passes s names w ws ≡ true
unfolding walked walk_passes
stopped_passes s names w p [] e = refl
stopped_passes s names w p (word ∷ ws) e =
    let next : (walked s.rules names w word).stopped ≡ Some (p.0, p.1 ++ word ∷ []) = rw e refl in
    let turns : turn_passes s names w word ≡ true = rw e refl in
    and_from (turn_passes s names w word)
    (walk_passes s names (walked s.rules names w word) ws) turns
    (stopped_passes s names (walked s.rules names w word) (p.0, p.1 ++ word ∷ []) ws next)

-- a walk that stopped holds what it held
stopped_held : (c : List Rule) (names : Names) (w : Walk) (p : Text × List Text) (ws : List Text)
    → w.stopped ≡ Some p → (fold (walked c names) w ws).held ≡ w.held
unfolding walked
stopped_held c names w p [] e = refl
stopped_held c names w p (word ∷ ws) e =
    let next : (walked c names w word).stopped ≡ Some (p.0, p.1 ++ word ∷ []) = rw e refl in
    let held : (walked c names w word).held ≡ w.held = rw e refl in
    stopped_held c names (walked c names w word) (p.0, p.1 ++ word ∷ []) ws next ∙ held

abbrev top : Shape
top = (built program_app).top

abbrev first_walk : Text → Walk
first_walk word = walked top_rules top_names (walk_from nothing_held) word

-- the first word is one that the program goes on by
record Begins (word : Text) : Type 0 where
  passes : turn_passes top top_names (walk_from nothing_held) word ≡ true
  stopped : (first_walk word).stopped ≡ Some (word, [])
  held : (first_walk word).held ≡ nothing_held

begins : (about : Topic) → about ≢ topic.Program → Begins (word_of about)
unfolding clap_on_literals
begins topic.Program real = absurd (real refl)
begins topic.First real = record { passes = refl; stopped = refl; held = refl }
begins topic.Check real = record { passes = refl; stopped = refl; held = refl }
begins topic.Plan real = record { passes = refl; stopped = refl; held = refl }
begins topic.Run real = record { passes = refl; stopped = refl; held = refl }
begins topic.Make real = record { passes = refl; stopped = refl; held = refl }
begins topic.Save real = record { passes = refl; stopped = refl; held = refl }
begins topic.Resume real = record { passes = refl; stopped = refl; held = refl }
begins topic.Live real = record { passes = refl; stopped = refl; held = refl }
begins topic.Verify real = record { passes = refl; stopped = refl; held = refl }
begins topic.Stream real = record { passes = refl; stopped = refl; held = refl }

abbrev ends_well : Held → Bool
ends_well h =
    settle_passes top.rules top.args_override_self h &&
    (list_all default_passes top.rules && is_valid top (finished top.rules h) true)

abbrev EndsWell : Held → Type 0
EndsWell h = ends_well h ≡ true

nothing_ends_well : EndsWell nothing_held
unfolding clap_on_literals
nothing_ends_well = refl

top_takes : (word : Text) (ws : List Text) → Begins word
    → level_passes top top_names nothing_held (word ∷ ws) true ≡ true
unfolding walk_passes
top_takes word ws is =
    let held : (fold (walked top_rules top_names) (first_walk word) ws).held ≡ nothing_held =
    stopped_held top_rules top_names (first_walk word) (word, []) ws is.stopped ∙ is.held in
    let walk : walk_passes top top_names (walk_from nothing_held) (word ∷ ws) ≡ true =
    and_from (turn_passes top top_names (walk_from nothing_held) word)
    (walk_passes top top_names (first_walk word) ws) is.passes
    (stopped_passes top top_names (first_walk word) (word, []) ws is.stopped) in
    and_from (walk_passes top top_names (walk_from nothing_held) (word ∷ ws))
    (ends_well (fold (walked top_rules top_names) (first_walk word) ws).held) walk
    (subst EndsWell (sym held) nothing_ends_well)

-- ---- the whole

abbrev TakesAt : List Text → Option (Text × List Text) → Type 0
TakesAt words stop =
    (entered_passes (built program_app) stop && level_passes top top_names nothing_held words
    (is_some (entered (built program_app) stop))) ≡ true

takes_found : (about : Topic) (ws : List Text) (o : Option (List (Text × Text)))
    → about ≢ topic.Program → found_in_words (form_of about) ws ≡ o → is_some o ≡ true
    → takes program_app (word_of about ∷ ws) ≡ true
unfolding clap_on_literals
takes_found about ws None real found some = absurd (false≢true some)
takes_found about ws (Some pairs) real found some =
    let words = word_of about ∷ ws in
    let (entered_well, entered_is) =
    enters_passing about ws real (level_takes (shape_at about) (form_of about) ws pairs
    (reads about real) (easy about real) found) in
    let above : level_passes top top_names nothing_held words
    (is_some (entered (built program_app) (Some (word_of about, ws)))) ≡ true =
    subst (λ (b : Bool). level_passes top top_names nothing_held words b ≡ true) (sym entered_is)
    (top_takes (word_of about) ws (begins about real)) in
    let below = entered_passes (built program_app) (Some (word_of about, ws)) in
    let passes =
    level_passes top top_names nothing_held words
    (is_some (entered (built program_app) (Some (word_of about, ws)))) in
    and_from (is_simple program_app)
    (built_takes (built program_app) nothing_held words) program_is_simple
    (subst (TakesAt words) (sym (stops about ws real)) (and_from below passes entered_well above))

-- the program takes the words of each full form
pub takes_words : (about : Topic) (words : List (Bor Text)) (form : Form) → 1 ≤ length words
    → IfSome (slice_get (texts words) 0) (λ word. topic_of word ≡ Some about) → form ≡ form_of about
    → is_some (found_in_words form (texts (take (length words - 1) (drop 1 words)))) ≡ true
    → takes program_app (texts words) ≡ true
takes_words about words form some named form_is found =
    let split = texts-split words some in
    let word = (get_or words 0 no_text).now in
    let (same, real) =
    word_is word about (topic_first words _ (drop 1 (texts words)) about split named) in
    let is : takes program_app (word_of about ∷ drop 1 (texts words)) ≡ true =
    takes_found about (drop 1 (texts words))
    (found_in_words (form_of about) (drop 1 (texts words))) real refl
    (ap is_some (ap₂ found_in_words (sym form_is) (sym (texts-behind words))) ∙ found) in
    let whole : texts words ≡ word_of about ∷ drop 1 (texts words) =
    split ∙ ap (λ (t : Text). t ∷ drop 1 (texts words)) same in
    subst (λ (ts : List Text). takes program_app ts ≡ true) (sym whole) is

-- ---- the command that was entered

module _ {Z : Type 0} where
  name_in_rows : (o : Option (Box SubCommand Z))
      → option_map (λ b. (out-SubCommand (box_value b)).name.now) o
      ≡ option_map (λ p. p.0) (subcommand_rows o)
  name_in_rows None = refl
  name_in_rows (Some b) = refl

-- the command that was entered is that of the first word
pub enters_named : (about : Topic) (words : List (Bor Text)) (m : ArgMatches) → 1 ≤ length words
    → IfSome (slice_get (texts words) 0) (λ word. topic_of word ≡ Some about)
    → subcommand_rows_of m ≡ subcommand_of program_app (texts words) → subcommand_name_of m
    ≡ Some (get_or words 0 no_text).now
enters_named about words m some named is =
    let split = texts-split words some in
    let word = (get_or words 0 no_text).now in
    let (same, real) =
    word_is word about (topic_first words _ (drop 1 (texts words)) about split named) in
    let whole : texts words ≡ word_of about ∷ drop 1 (texts words) =
    split ∙ ap (λ (t : Text). t ∷ drop 1 (texts words)) same in
    let read =
    is ∙ (ap (subcommand_of program_app) whole ∙ enters about (drop 1 (texts words)) real) in
    name_in_rows (out-ArgMatches m).subcommand
    ∙ (ap (option_map (λ (p : Text × List Row). p.0)) read ∙ ap (λ (t : Text). Some t) (sym same))

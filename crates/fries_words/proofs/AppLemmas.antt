-- How the commands that `clap` reads by are put together.
use Rattle.std.proofs.Common.{Bor, ◌≡◌, ◌<◌, ◌≤◌, ◌+◌, ◌∙◌, ◌∷◌, [], ℕ, List, ap, drop, get_or}
use Rattle.std.proofs.Common.{length, map, refl, subst, sym, false, append_assoc}
use Rattle.std.proofs.lemmas.List.{append-nil, drop_all, drop_more}
use Rattle.clap.specs.Built.{AddsArg, AddsSubcommand}
use Rattle.clap.specs.Simple.{on_top}
use Rattle.clap.specs.Words.{App, Rule, Shape, Text, app_of, rule_of, with_rule, with_subcommand}
use Rattle.clap.specs.declared.builder.arg.Arg.{Arg}
use Rattle.clap.specs.declared.builder.command.Command.{Command}
use Rattle.clap.specs.declared.builder.command.Command.TheViews.{out-Command}
use Rattle.fries_words.specs.Apps.{IsApp, command_app, shape_on, topic_view, with_rules}
use Rattle.fries_words.specs.Apps.{with_shapes}
use Rattle.fries_words.specs.Form.{Form}
use Rattle.fries_words.specs.Words.{form_of}
use Rattle.fries_words.specs.declared.topic.Topic.{Topic}

-- the command, which has no argument for its subcommands too, becomes this one by these arguments
pub record Becomes (command : Command) (rules : List Rule) (app : App) : Type 0 where
  pub whole : with_rules (app_of command) rules ≡ app
  pub local : (out-Command command).has_globals ≡ false

abbrev rules_set : App → List Rule → App
rules_set app rules = on_top (λ top. record top { rules = rules }) app

-- the next argument is added
pub becomes_by : (old : Command) (a : Arg) (new : Command) (rule : Rule) (rules : List Rule)
    (app : App) →
    Becomes old (rule ∷ rules) app → rule_of a ≡ rule → a.global ≡ false → AddsArg old a new →
    Becomes new rules app
becomes_by old a new rule rules app before is local adds =
    let shape : app_of new ≡ with_rule (app_of old) rule =
    adds.shape local ∙ ap (with_rule (app_of old)) is in record {
      whole =
          ap (λ (made : App). with_rules made rules) shape
          ∙ ap (rules_set (app_of old)) (append_assoc (app_of old).top.rules (rule ∷ []) rules)
          ∙ before.whole;
      local = adds.globals ∙ rw (before.local, local) refl;
    }

-- no argument is left
pub has_become : (command : Command) (rules : List Rule) (app : App) → Becomes command rules app →
    rules ≡ [] → IsApp command app
has_become command rules app becomes none = (
  sym (ap (rules_set (app_of command)) (append-nil (app_of command).top.rules))
      ∙ ap (with_rules (app_of command)) (sym none) ∙ becomes.whole,
  becomes.local,
)

-- the arguments of a list, one after another
module _ {A B : Type 0} (view : A → B) (rule_for : B → Rule) (items : List A) (app : App) where
  pub becomes_next : (i : ℕ) (d : A) (old : Command) (a : Arg) (new : Command) → i < length items →
      Becomes old (map rule_for (map view (drop i items))) app →
      rule_of a ≡ rule_for (view (get_or items i d)) → a.global ≡ false → AddsArg old a new →
      Becomes new (map rule_for (map view (drop (i + 1) items))) app
  becomes_next i d old a new less before is local adds =
      becomes_by old a new (rule_for (view (get_or items i d)))
      (map rule_for (map view (drop (i + 1) items))) app
      (subst (λ xs. Becomes old (map rule_for (map view xs)) app) (drop_more items i d less) before)
      is local adds

  pub becomes_whole : (i : ℕ) (command : Command) → length items ≤ i →
      Becomes command (map rule_for (map view (drop i items))) app → IsApp command app
  becomes_whole i command past becomes =
      has_become command (map rule_for (map view (drop i items))) app becomes
      (ap (λ xs. map rule_for (map view xs)) (drop_all i items past))

-- arguments behind those of a command that is known
pub rules_behind : (command made : Command) (app : App) (rules : List Rule) →
    app_of command ≡ app → IsApp made (with_rules (app_of command) rules) →
    IsApp made (with_rules app rules)
rules_behind command made app rules known is =
    (is.0 ∙ ap (λ (a : App). with_rules a rules) known, is.1)

-- the program, which has no argument for its commands too, becomes this one by these commands
pub record Grows (program : Command) (shapes : List Shape) (app : App) : Type 0 where
  pub whole : with_shapes (app_of program) shapes ≡ app
  pub local : (out-Command program).has_globals ≡ false

abbrev with_subs : App → List Shape → App
with_subs app subs = record { top = record app.top { is_leaf = false }; subs = subs }

shapes_more : (app : App) (shape : Shape) (shapes : List Shape) →
    with_shapes (with_subcommand app shape) shapes ≡ with_shapes app (shape ∷ shapes)
shapes_more app shape [] = refl
shapes_more app shape (next ∷ shapes) =
    ap (with_subs app) (append_assoc app.subs (shape ∷ []) (next ∷ shapes))

-- the commands of a list, one after another
module _ (items : List (Bor Text × Topic)) (app : App) where
  pub grows_next : (i : ℕ) (d : Bor Text × Topic) (old sub new : Command) (form : Form) →
      i < length items → Grows old (map shape_on (map topic_view (drop i items))) app →
      IsApp sub (command_app (get_or items i d).0.now form) →
      form ≡ form_of (get_or items i d).1 → AddsSubcommand old sub new →
      Grows new (map shape_on (map topic_view (drop (i + 1) items))) app
  grows_next i d old sub new form less before is same adds =
      let shape = shape_on (topic_view (get_or items i d)) in
      let rest = map shape_on (map topic_view (drop (i + 1) items)) in
      let whole : with_shapes (app_of old) (shape ∷ rest) ≡ app =
      subst (λ xs. with_shapes (app_of old) (map shape_on (map topic_view xs)) ≡ app)
      (drop_more items i d less) before.whole in
      let top = ap (λ (a : App). a.top) is.0
      ∙ ap (λ (f : Form). (command_app (get_or items i d).0.now f).top) same in record {
        whole =
            ap (λ (made : App). with_shapes made rest)
            (adds.shape is.1 ∙ ap (with_subcommand (app_of old)) top)
            ∙ shapes_more (app_of old) shape rest ∙ whole;
        local = adds.globals ∙ rw (before.local, is.1) refl;
      }

  pub grows_whole : (i : ℕ) (program : Command) → length items ≤ i →
      Grows program (map shape_on (map topic_view (drop i items))) app → IsApp program app
  grows_whole i program past grows = (
    subst (λ xs. with_shapes (app_of program) (map shape_on (map topic_view xs)) ≡ app)
        (drop_all i items past) grows.whole,
    grows.local,
  )

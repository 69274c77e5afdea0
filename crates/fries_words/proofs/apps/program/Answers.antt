use Rattle.std.proofs.Common.{◌≡◌, ◌∙◌, ap, codes, map}
use Rattle.std.proofs.lemmas.Result.{IfOk-weaker}
use Rattle.clap.specs.Simple.{app_of_fields}
use Rattle.clap.specs.Words.{App, app_of, new_app}
use Rattle.fries_words.specs.Apps.{commands, shape_on, with_shapes, without_its_name}
use Rattle.fries_words.proofs.apps.program.Goals as goal

pub with_commands-requires : goal.with_commands-requires
with_commands-requires c =
    ap (λ fields. fields.has_globals) c.no_binary_name.ensures ∙ c.new.ensures.local

pub returns : goal.returns
returns c =
    let named : app_of c.no_binary_name.result ≡ without_its_name (new_app (codes "fries")) =
    ap app_of_fields c.no_binary_name.ensures ∙ ap without_its_name c.new.ensures.app in
    IfOk-weaker c.with_commands.result _ _
    (λ made is. (is.0 ∙ ap (λ (a : App). with_shapes a (map shape_on commands)) named, is.1))
    c.with_commands.ensures

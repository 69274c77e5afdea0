use Rattle.std.proofs.Common.{◌≤◌, List, All, length, subst, sym}
use Rattle.std.proofs.lemmas.List.Elements.{All-drop}
use Rattle.versions.specs.declared.limits.TheConstants.{MAX_CHANGES}
use Rattle.versions.specs.declared.request.Request.{Request}
use Rattle.stream_intake.proofs.taken.take.Goals as goal

pub learn-requires-clause-changes : goal.learn-requires-clause-changes
learn-requires-clause-changes c =
    subst (λ (l : List Request). All (λ (r : Request). length r.changes ≤ MAX_CHANGES) l)
    (sym c.in_ok-more.ensures) (All-drop (λ (r : Request). length r.changes ≤ MAX_CHANGES) _
    c.args.found c.requires.changes)

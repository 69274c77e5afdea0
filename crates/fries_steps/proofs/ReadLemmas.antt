-- What reading leaves of a shelf.
use Rattle.std.proofs.Common.{◌≡◌, ◌∙◌, Option, ap}
use Rattle.payments.specs.Causes.{Faults}
use Rattle.payments.specs.Files.{Draft, Files}
use Rattle.payments.specs.World.{ShelfState}

-- a shelf of which nothing changed is as before
pub kept_whole : (old new : ShelfState) → new.files ≡ old.files → new.faults ≡ old.faults → new.draft ≡ old.draft → new ≡ old
kept_whole old new files faults draft =
    ap (λ (f : Option Files). record new { files = f }) files
    ∙ (ap (λ (c : Faults). record new { files = old.files; faults = c }) faults
    ∙ ap (λ (d : Option Draft). record old { draft = d }) draft)

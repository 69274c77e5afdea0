-- A file that was stored holds its text.
use Rattle.std.proofs.Common.{◌≡◌, ◌∙◌, ℕ, List, [], Option, None, Some, ap, false}
use Rattle.std.proofs.Common.{subst, sym}
use Rattle.std.specs.Prelude.{unwrap_or}
use Rattle.std.specs.Str.{bytes_eq}
use Rattle.sink_journal.proofs.SmallLemmas.{self_text}
use Rattle.payments.specs.Files.{Files, with_bytes}
use Rattle.payments.proofs.FileLemmas.{get-insert_found, get-insert_passed}
use Rattle.stream_run.specs.Standing.{FileHolds}

pub held : (old : Option Files) (name text : List ℕ)
    → FileHolds (with_bytes old name text) name text
held None name text = tt
held (Some m) name text =
    ap (λ (o : Option (List ℕ)). unwrap_or o [])
    (get-insert_found m name text name (self_text name))

-- a file that was stored before another holds its text
pub held_before : (old : Option Files) (name other text more : List ℕ)
    → bytes_eq name other ≡ false
    → FileHolds (with_bytes (with_bytes old name text) other more) name text
held_before None name other text more apart = tt
held_before (Some m) name other text more apart =
    ap (λ (o : Option (List ℕ)). unwrap_or o [])
    (get-insert_passed _ other more name apart
    ∙ get-insert_found m name text name (self_text name))

pub holds_stored : (old now : Option Files) (name text : List ℕ)
    → now ≡ with_bytes old name text → FileHolds now name text
holds_stored old now name text is =
    subst (λ (files : Option Files). FileHolds files name text) (sym is) (held old name text)

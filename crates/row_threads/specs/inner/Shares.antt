-- The shares of a payments file, and what reads of them find.
use Rattle.std.specs.Prelude.{◌≡◌, ◌++◌, ◌<◌, ℕ, nat_eq, List, [], ◌∷◌, All, length, map, slice_get}
use Rattle.std.specs.Prelude.{slice_index_or, Some, Result, IfOk, if◌then◌else◌}
use Rattle.std.specs.Borrow.{Bor}
use Rattle.std.specs.List.{concat}
use Rattle.csv.specs.Reading.{default_config, records}
use Rattle.input_pieces.specs.Cut.{IsCut}
use Rattle.jobs.specs.JobView.{JobView}
use Rattle.stream_rows.specs.Rows.{sound_rows, stream_rows}
use Rattle.stream_rows.specs.declared.sound.SoundRows.{SoundRows}
use Rattle.tuple_trace.specs.declared.items.NoMemory.{NoMemory}

-- a text in shares, each but the last of which is cut between records
pub record AreShares (text : List ℕ) (shares : List (List ℕ)) : Type 0 where
  pub before : List (List ℕ)
  pub last : List ℕ
  pub all : shares ≡ before ++ last ∷ []
  pub cut : All (IsCut default_config) before
  pub whole : concat before ++ last ≡ text

-- the rows of the share at this place, of which the first begins with the header; those of a later
-- share are numbered from 1 too
abbrev pub share_rows : JobView → ℕ → List ℕ → SoundRows
share_rows job place text =
    if nat_eq place 0 then stream_rows job 0 text
    else sound_rows job 1 (records default_config text)

-- what a read of the share at this place found
abbrev pub IsRead : JobView → List (Bor (List ℕ)) → ℕ → Result SoundRows NoMemory → Type 0
IsRead job texts place read = IfOk read (λ sound. (text : Bor (List ℕ))
    → slice_get texts place ≡ Some text → sound ≡ share_rows job place text.now)

-- what reads of the shares of a text found
pub record AreReads (job : JobView) (text : List ℕ) (reads : List (Result SoundRows NoMemory))
    : Type 0 where
  pub texts : List (Bor (List ℕ))
  pub shares : AreShares text (map (λ share. share.now) texts)
  pub len : length reads ≡ length texts
  pub each : (place : ℕ) (other : Result SoundRows NoMemory) → place < length texts
      → IsRead job texts place (slice_index_or reads place other)

-- What a reader of releases took.
use Rattle.std.specs.Prelude.{◌≡◌, ◌⊎◌, ℕ, ◌+◌, ◌≤◌, ◌<◌, ◌==◌, true, false, List, [], ◌∷◌, ◌++◌}
use Rattle.std.specs.Prelude.{length, if◌then◌else◌}
use Rattle.std.specs.Io.KnownBytes.{Consumes, IsAtEnd}
use Rattle.tuple_trace.specs.Counts.{Rose}
use Rattle.live_control.specs.Asking.{AsksIs}
use Rattle.live_control.specs.declared.hearing.Heard.{Heard}

-- the releases of one byte: one if it is a line feed
abbrev pub releases_of : ℕ → ℕ
releases_of byte = if byte == 10 then 1 else 0

-- the line feeds among the bytes
abbrev pub line_feeds : List ℕ → ℕ
line_feeds [] = 0
line_feeds (byte ∷ more) = releases_of byte + line_feeds more

-- the most bytes that a reader takes
abbrev pub most_bytes : ℕ
most_bytes = 1048576

-- What a reader of at most `most` releases took. `taken` are its bytes, of which each line feed is
-- a release. Before the last of them there were too few line feeds. A reader that hasn't failed
-- took enough line feeds, or the most bytes, or left nothing.
pub record IsHeard (most : ℕ) (old new : AsksIs) (heard : Heard) : Type 0 where
  pub taken : List ℕ
  pub took : Consumes old.left new.left taken
  pub releases : heard.releases ≡ line_feeds taken
  pub enough : heard.releases ≤ most
  pub no_more :
      (earlier : List ℕ) (last : ℕ) → taken ≡ earlier ++ last ∷ [] → line_feeds earlier < most
  pub short : length taken ≤ most_bytes
  pub failed : heard.failed ≡ true → Rose old.faults new.faults
  pub unfailed : heard.failed ≡ false → new.faults ≡ old.faults
  pub whole :
      heard.failed ≡ false
      → (heard.releases ≡ most) ⊎ ((length taken ≡ most_bytes) ⊎ IsAtEnd new.left)
